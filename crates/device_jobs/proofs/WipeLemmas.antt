-- `userdata` filled with 0xFF.
use Rattle.std.proofs.Common.{◌≡◌, ◌∙◌, refl, sym, ap, subst, ℕ, zero, suc, ◌+◌, ◌*◌, ◌/◌, ◌%◌, ◌^◌, Bool, true, false, List, [], ◌∷◌, ◌++◌, length, find, drop, Option, Some, None, option_map, unwrap_or, if◌then◌else◌, arith, append-nil}
use Rattle.std.specs.Prelude.{bytes_eq, nat_le, nat_lt, ◌==◌, codes}
use Rattle.std.specs.Option.{option_or}
use Rattle.std.specs.List.{list_all}
use Rattle.std.proofs.lemmas.Bool.Decides.{nat_tests}
use Rattle.std.proofs.lemmas.List.{length-map}
use Rattle.std.proofs.Math.Seq.{drop-length}
use Rattle.dev_disk.specs.Files.{written}
use Rattle.dev_model.specs.Images.{copies}
use Rattle.dev_model.specs.declared.device.Dev.{Dev}
use Rattle.dev_model.specs.declared.device.Physical.{Physical}
use Rattle.dev_model.specs.declared.device.Logical.{Logical}
use Rattle.dev_model.specs.Partitions.{bytes_of, is_partition, is_physical, is_logical}
use Rattle.dev_model.specs.Steps.{wiped}
use Rattle.dev_model.specs.Validity.{IsValid, is_whole, is_sized, is_entry}
use Rattle.dev_model.proofs.Valid.{both, or-left, or-right}
use Rattle.dev_model.proofs.ValidTable.{any-map}
use Rattle.dev_store.specs.Changes.{put_at, repeated}
use Rattle.dev_store.specs.Held.{seen}
use Rattle.dev_store.specs.StoreCalls.{IsPartly, part_bytes}
use Rattle.dev_store.proofs.PartDevices.{bytes-alike, names-apart, put_is_partly, put_none, found-some}
use Rattle.device_jobs.specs.Unlocking.{IsPartlyWiped, IsWiped, wiped_device}

-- An element that is found passes each test that all pass.
found-passes : {X : Type 0} (test q : X → Bool) (xs : List X) (x : X) → list_all q xs ≡ true → find test xs ≡ Some x → q x ≡ true
found-passes test q [] x a h = absurd cc
found-passes test q (y ∷ xs) x a h = by (test y) (found-passes test q xs x (both (q y) (list_all q xs) a).1) h where
  by : (b : Bool) → (find test xs ≡ Some x → q x ≡ true) → (if b then Some y else find test xs) ≡ Some x → q x ≡ true
  by true more k = let same : y ≡ x = cc in subst (λ z. q z ≡ true) same (both (q y) (list_all q xs) a).0
  by false more k = more k

eq-is : (m n : ℕ) → (m == n) ≡ true → m ≡ n
eq-is m n h = grind (arith, nat_tests)

whole-four : (n : ℕ) → is_whole n ≡ true → n % 4 ≡ 0
whole-four n h =
    let e = eq-is (n % 4096) 0 (both (n % 4096 == 0) (nat_le n (2 ^ 44)) h).0 in
    omega (arith, e)

-- a partition has whole blocks
pub size-four : (dev : Dev) (name : List ℕ) (size : ℕ) → IsValid dev → Some size ≡ option_map length (bytes_of dev name) → size % 4 ≡ 0
size-four dev name size v e =
    by (find (λ p. bytes_eq p.name name) dev.physical) (find (λ p. bytes_eq p.name name) dev.logical) refl refl e where
      physical : (p : Physical) → find (λ p. bytes_eq p.name name) dev.physical ≡ Some p → length p.bytes % 4 ≡ 0
      physical p h =
          let a = (both (nat_le (length dev.physical) 64) (list_all (λ p. is_sized p.bytes) dev.physical) v.physical).1 in
          whole-four (length p.bytes)
          (both (is_whole (length p.bytes)) (nat_lt 0 (length p.bytes)) (found-passes (λ p. bytes_eq p.name name) (λ p. is_sized p.bytes) dev.physical p a h)).0

      logical : (p : Logical) → find (λ p. bytes_eq p.name name) dev.logical ≡ Some p → length p.bytes % 4 ≡ 0
      logical p h =
          let a = (both (nat_le (length dev.logical) 128) (list_all (is_entry dev.table_minor dev.groups) dev.logical) v.logical).1 in
          whole-four (length p.bytes)
          (both _ (is_whole (length p.bytes)) (both _ _ (found-passes (λ p. bytes_eq p.name name) (is_entry dev.table_minor dev.groups) dev.logical p a h)).0).1

      by : (a : Option Physical) (b : Option Logical) → find (λ p. bytes_eq p.name name) dev.physical ≡ a → find (λ p. bytes_eq p.name name) dev.logical ≡ b →
          Some size ≡ option_map length (option_or (option_map (λ p. p.bytes) a) (option_map (λ p. p.bytes) b)) → size % 4 ≡ 0
      by (Some p) b h k m = let is : size ≡ length p.bytes = cc in subst (λ n. n % 4 ≡ 0) (sym is) (physical p h)
      by None (Some p) h k m = let is : size ≡ length p.bytes = cc in subst (λ n. n % 4 ≡ 0) (sym is) (logical p k)
      by None None h k m = absurd cc

-- what has a length is there
pub size-is : (dev : Dev) (name : List ℕ) (size : ℕ) → Some size ≡ option_map length (bytes_of dev name) → size ≡ length (part_bytes name dev)
size-is dev name size e = by (bytes_of dev name) e where
  by : (o : Option (List ℕ)) → Some size ≡ option_map length o → size ≡ length (unwrap_or o [])
  by None e = absurd cc
  by (Some b) e = cc

pub size-there : (dev : Dev) (name : List ℕ) (size : ℕ) → Some size ≡ option_map length (bytes_of dev name) → is_partition dev name ≡ true
size-there dev name size e =
    by (find (λ p. bytes_eq p.name name) dev.physical) (find (λ p. bytes_eq p.name name) dev.logical) refl refl e where
      by : (a : Option Physical) (b : Option Logical) → find (λ p. bytes_eq p.name name) dev.physical ≡ a → find (λ p. bytes_eq p.name name) dev.logical ≡ b →
          Some size ≡ option_map length (option_or (option_map (λ p. p.bytes) a) (option_map (λ p. p.bytes) b)) → is_partition dev name ≡ true
      by (Some p) b h k m = or-left (is_physical dev name) (is_logical dev name) (any-map (λ p. p.name) name dev.physical ∙ found-some (λ p. p.name) name dev.physical p h)
      by None (Some p) h k m = or-right (is_physical dev name) (is_logical dev name) (any-map (λ p. p.name) name dev.logical ∙ found-some (λ p. p.name) name dev.logical p k)
      by None None h k m = absurd cc

-- the four bytes over and over
fours : (n : ℕ) (old : List ℕ) → length old ≡ 4 * n → copies n (255 ∷ 255 ∷ 255 ∷ 255 ∷ []) ≡ wiped old
fours zero [] h = refl
fours zero (a ∷ old) h = absurd (omega (arith, h))
fours (suc n) [] h = absurd (omega (arith, h))
fours (suc n) (a ∷ []) h = absurd (omega (arith, h))
fours (suc n) (a ∷ b ∷ []) h = absurd (omega (arith, h))
fours (suc n) (a ∷ b ∷ c ∷ []) h = absurd (omega (arith, h))
fours (suc n) (a ∷ b ∷ c ∷ d ∷ old) h = ap (λ t. 255 ∷ 255 ∷ 255 ∷ 255 ∷ t) (fours n old (omega (arith, h)))

-- bytes as long as the old ones, written over them
written-whole : (old bytes : List ℕ) → length bytes ≡ length old → written old 0 bytes ≡ bytes
unfolding written
written-whole old bytes e =
    let rest : drop (0 + length bytes) old ≡ [] = ap (λ n. drop n old) {x = 0 + length bytes} {y = length old} (omega (arith, e)) ∙ drop-length old in
    ap (λ t. bytes ++ t) rest ∙ append-nil bytes

-- the device with the bytes wiped, as a write
pub wiped-put : (dev : Dev) (bytes : List ℕ) → IsValid dev → bytes ≡ wiped (part_bytes (codes "userdata") dev) → put_at (codes "userdata") 0 bytes dev ≡ wiped_device dev
wiped-put dev bytes v e =
    let old = part_bytes (codes "userdata") dev in
    let long : length bytes ≡ length old = ap (length {A = ℕ}) e ∙ length-map old (λ b. 255) in
    bytes-alike (codes "userdata") (λ o. written o 0 bytes) wiped dev (names-apart dev v) (written-whole old bytes long ∙ e)

filled-is : (dev : Dev) (size : ℕ) → IsValid dev → Some size ≡ option_map length (bytes_of dev (codes "userdata")) →
    repeated size (255 ∷ 255 ∷ 255 ∷ 255 ∷ []) ≡ wiped (part_bytes (codes "userdata") dev)
filled-is dev size v e =
    let four = size-four dev (codes "userdata") size v e in
    let is = size-is dev (codes "userdata") size e in
    fours (size / 4) (part_bytes (codes "userdata") dev) (omega (arith, four, is))

-- the fill was done
pub fill-wipes : (image : Option (List ℕ)) (dev t : Dev) (size : ℕ) → IsValid dev → Some size ≡ option_map length (bytes_of dev (codes "userdata")) →
    t ≡ seen image (put_at (codes "userdata") 0 (repeated size (255 ∷ 255 ∷ 255 ∷ 255 ∷ [])) dev) → IsWiped image dev t
unfolding seen
fill-wipes None dev t size v e h = tt
fill-wipes (Some file) dev t size v e h = h ∙ wiped-put dev (repeated size (255 ∷ 255 ∷ 255 ∷ 255 ∷ [])) v (filled-is dev size v e)

-- there is nothing to fill
pub none-wiped : (image : Option (List ℕ)) (dev : Dev) → IsValid dev → None ≡ option_map length (bytes_of dev (codes "userdata")) → IsWiped image dev dev
none-wiped None dev v e = tt
none-wiped (Some file) dev v e =
    let none : part_bytes (codes "userdata") dev ≡ [] = by (bytes_of dev (codes "userdata")) e in
    sym (put_none (codes "userdata") 0 dev) ∙ wiped-put dev [] v (ap wiped (sym none)) where
      by : (o : Option (List ℕ)) → None ≡ option_map length o → unwrap_or o [] ≡ []
      by None e = refl
      by (Some b) e = absurd cc

-- a device that is wiped is partly so
pub wiped-partly : (image : Option (List ℕ)) (dev t : Dev) → IsValid dev → IsWiped image dev t → IsPartlyWiped image dev t
wiped-partly None dev t v h = tt
wiped-partly (Some file) dev t v h =
    let old = part_bytes (codes "userdata") dev in
    let bytes = wiped old in
    let long : length bytes ≡ length old = length-map old (λ b. 255) in
    let partly = put_is_partly (codes "userdata") 0 bytes dev v (omega (arith, long)) in
    subst (IsPartly (codes "userdata") 0 (length old) dev) (wiped-put dev bytes v refl ∙ sym h)
    (subst (λ n. IsPartly (codes "userdata") 0 n dev (put_at (codes "userdata") 0 bytes dev)) long partly)

pub partly-wiped : (image : Option (List ℕ)) (dev t : Dev) (size : ℕ) → Some size ≡ option_map length (bytes_of dev (codes "userdata")) → IsPartly (codes "userdata") 0 size dev t → IsPartlyWiped image dev t
partly-wiped None dev t size e h = tt
partly-wiped (Some file) dev t size e h = subst (λ n. IsPartly (codes "userdata") 0 n dev t) (size-is dev (codes "userdata") size e) h

-- what is seen of a device runs what the device does
pub seen-mode : (image : Option (List ℕ)) (dev t : Dev) (name : List ℕ) (bytes : List ℕ) → t ≡ seen image (put_at name 0 bytes dev) → t.mode ≡ dev.mode
unfolding seen
seen-mode None dev t name bytes h = ap (λ (d : Dev). d.mode) h
seen-mode (Some file) dev t name bytes h = ap (λ (d : Dev). d.mode) h
