-- Devices with bytes put over a range of a partition.
use Rattle.std.proofs.Common.{◌≡◌, ◌∙◌, refl, ap, sym, subst, ℕ, ◌+◌, ◌≤◌, Bool, true, false, not, ◌||◌, List, [], ◌∷◌, ◌++◌, map, find, length, Option, Some, None, option_map, option_to_list, unwrap_or, arith, if◌then◌else◌}
use Rattle.std.specs.Prelude.{bytes_eq, nat_le}
use Rattle.std.specs.Option.{option_or}
use Rattle.std.specs.List.{list_all}
use Rattle.std.proofs.lemmas.Bool.Decides.{nat_tests}
use Rattle.std.proofs.lemmas.Slice.Eq.{bytes_eq-Decides}
use Rattle.std.proofs.lemmas.Simd.{map-map}
use Rattle.fb_frame.specs.Bytes.{zeros}
use Rattle.fb_frame.specs.NameText.{is_name}
use Rattle.fb_frame.specs.Distinct.{are_distinct}
use Rattle.dev_model.specs.declared.device.Dev.{Dev}
use Rattle.dev_model.specs.declared.device.Physical.{Physical}
use Rattle.dev_model.specs.declared.device.Logical.{Logical}
use Rattle.dev_model.specs.Partitions.{bytes_of, physical_changed, logical_changed, with_bytes}
use Rattle.dev_model.specs.Validity.{IsValid, all_names}
use Rattle.dev_model.proofs.Names.{among, any-mem, distinct-left, distinct-right, distinct-apart}
use Rattle.dev_model.proofs.Valid.{both, map-same, not-back, or-false}
use Rattle.dev_model.proofs.ValidBytes.{KeepsLength, bytes-valid}
use Rattle.dev_model.proofs.KeepingLemmas.{writes_one, writes_twice, writes-alike}
use Rattle.dev_disk.specs.Files.{written, DifferWithin}
use Rattle.dev_disk.proofs.Writes.{length-written, differ-written}
use Rattle.dev_store.specs.Changes.{put_at}
use Rattle.dev_store.specs.Held.{zeroed, zeroed_physical, zeroed_logical}
use Rattle.dev_store.specs.StoreCalls.{names_of, part_bytes, IsPartly}
use Rattle.dev_store.proofs.PartLists.{twice-written, long-written}
use Rattle.dev_store.proofs.MadeText.{length-zeros}
use Rattle.dev_store.proofs.WrittenLemmas.{written-none}
use Rattle.dev_store.proofs.SuperRepairLemmas.{widen, differ-then, differ-self}

-- Lists of which the elements of one name are changed.
module _ {X : Type 0} (nm : X → List ℕ) (f : X → X) (name : List ℕ) (keeps : (x : X) → bytes_eq (nm x) name ≡ false → f x ≡ x) where
  -- none has the name
  pub unnamed : (xs : List X) → among name (map nm xs) ≡ false → map f xs ≡ xs
  unnamed [] h = refl
  unnamed (x ∷ xs) h =
      let e = or-false (bytes_eq (nm x) name) (among name (map nm xs)) h in
      ap (λ y. y ∷ map f xs) (keeps x e.0) ∙ ap (λ ys. x ∷ ys) (unnamed xs e.1)

found-none : {X : Type 0} (nm : X → List ℕ) (name : List ℕ) (xs : List X) → find (λ x. bytes_eq (nm x) name) xs ≡ None → among name (map nm xs) ≡ false
found-none nm name [] h = refl
found-none nm name (x ∷ xs) h = by (bytes_eq (nm x) name) (found-none nm name xs) h where
  by : (b : Bool) → (find (λ x. bytes_eq (nm x) name) xs ≡ None → among name (map nm xs) ≡ false) →
      (if b then Some x else find (λ x. bytes_eq (nm x) name) xs) ≡ None → (b || among name (map nm xs)) ≡ false
  by true more k = absurd cc
  by false more k = more k

pub found-some : {X : Type 0} (nm : X → List ℕ) (name : List ℕ) (xs : List X) (x : X) → find (λ x. bytes_eq (nm x) name) xs ≡ Some x → among name (map nm xs) ≡ true
found-some nm name [] x h = absurd cc
found-some nm name (y ∷ xs) x h = by (bytes_eq (nm y) name) (found-some nm name xs x) h where
  by : (b : Bool) → (find (λ x. bytes_eq (nm x) name) xs ≡ Some x → among name (map nm xs) ≡ true) →
      (if b then Some y else find (λ x. bytes_eq (nm x) name) xs) ≡ Some x → (b || among name (map nm xs)) ≡ true
  by true more k = refl
  by false more k = more k

-- where no name stands twice, what follows one has another name
pub rest-unnamed : (y name : List ℕ) (ys : List (List ℕ)) → are_distinct (y ∷ ys) ≡ true → bytes_eq y name ≡ true → among name ys ≡ false
rest-unnamed y name ys d e = subst (λ n. among n ys ≡ false) ((bytes_eq-Decides y name).0 e) (not-back (among y ys) (both (not (among y ys)) (are_distinct ys) d).0)

-- two changes that agree on the one element of the name
alike-found : {X : Type 0} (nm : X → List ℕ) (f g : X → X) (name : List ℕ) (x : X) → ((y : X) → bytes_eq (nm y) name ≡ false → f y ≡ y) → ((y : X) → bytes_eq (nm y) name ≡ false → g y ≡ y) → f x ≡ g x →
    (xs : List X) → are_distinct (map nm xs) ≡ true → find (λ y. bytes_eq (nm y) name) xs ≡ Some x → map f xs ≡ map g xs
alike-found nm f g name x keeps holds e [] d h = absurd cc
alike-found nm f g name x keeps holds e (y ∷ ys) d h =
    by (bytes_eq (nm y) name) refl (alike-found nm f g name x keeps holds e ys (both _ (are_distinct (map nm ys)) d).1) h where
      by : (b : Bool) → bytes_eq (nm y) name ≡ b → (find (λ y. bytes_eq (nm y) name) ys ≡ Some x → map f ys ≡ map g ys) → (if b then Some y else find (λ y. bytes_eq (nm y) name) ys) ≡ Some x →
          map f (y ∷ ys) ≡ map g (y ∷ ys)
      by true k more m =
          let same : x ≡ y = sym cc in
          let free = rest-unnamed (nm y) name (map nm ys) d k in
          let one : f y ≡ g y = subst (λ z. f z ≡ g z) same e in
          let rest = unnamed nm f name keeps ys free ∙ sym (unnamed nm g name holds ys free) in
          λ i. one i ∷ rest i
      by false k more m =
          let one : f y ≡ g y = keeps y k ∙ sym (holds y k) in
          let rest = more m in
          λ i. one i ∷ rest i

pub physical-keeps : (name : List ℕ) (f : List ℕ → List ℕ) (p : Physical) → bytes_eq p.name name ≡ false → physical_changed name f p ≡ p
physical-keeps name f p e = ap (λ b. record p { bytes = (if b then f else λ x. x) p.bytes }) e

pub logical-keeps : (name : List ℕ) (f : List ℕ → List ℕ) (p : Logical) → bytes_eq p.name name ≡ false → logical_changed name f p ≡ p
logical-keeps name f p e = ap (λ b. record p { bytes = (if b then f else λ x. x) p.bytes }) e

-- no partition of a device has the name of another one
pub names-apart : (dev : Dev) → IsValid dev → are_distinct (names_of dev) ≡ true
names-apart dev v =
    let ps = map (λ p. p.name) dev.physical in
    let ls = map (λ p. p.name) dev.logical in
    distinct-left (ps ++ ls) (option_to_list dev.super_name) (both (list_all is_name (all_names dev)) (are_distinct (all_names dev)) v.names).1

pub not-among : (b : Bool) → (b ≡ true → ⊥) → b ≡ false
not-among true h = absurd (h refl)
not-among false h = refl

-- a name that one list has isn't in the other
pub other-unnamed : (name : List ℕ) (xs ys : List (List ℕ)) → are_distinct (xs ++ ys) ≡ true → among name xs ≡ true → among name ys ≡ false
other-unnamed name xs ys d h = not-among (among name ys) (λ e. distinct-apart xs ys d name (any-mem name xs h) (any-mem name ys e))

changed-at : (b : Bool) (f g : List ℕ → List ℕ) (x y : List ℕ) → x ≡ y → f y ≡ g y → (if b then f else λ z. z) x ≡ (if b then g else λ z. z) x
changed-at true f g x y e h = ap f e ∙ (h ∙ ap g (sym e))
changed-at false f g x y e h = refl

-- changes that agree on the bytes of a partition make the same device
pub bytes-alike : (name : List ℕ) (f g : List ℕ → List ℕ) (dev : Dev) → are_distinct (names_of dev) ≡ true → f (part_bytes name dev) ≡ g (part_bytes name dev) → with_bytes name f dev ≡ with_bytes name g dev
bytes-alike name f g dev d h = by (find (λ p. bytes_eq p.name name) dev.physical) (find (λ p. bytes_eq p.name name) dev.logical) refl refl h where
  ps : List (List ℕ)
  ps = map (λ p. p.name) dev.physical

  ls : List (List ℕ)
  ls = map (λ p. p.name) dev.logical

  same : map (physical_changed name f) dev.physical ≡ map (physical_changed name g) dev.physical → map (logical_changed name f) dev.logical ≡ map (logical_changed name g) dev.logical →
      with_bytes name f dev ≡ with_bytes name g dev
  same a b = λ i. record dev { physical = a i; logical = b i }

  no-physical : among name ps ≡ false → map (physical_changed name f) dev.physical ≡ map (physical_changed name g) dev.physical
  no-physical e = unnamed (λ p. p.name) (physical_changed name f) name (physical-keeps name f) dev.physical e
      ∙ sym (unnamed (λ p. p.name) (physical_changed name g) name (physical-keeps name g) dev.physical e)

  no-logical : among name ls ≡ false → map (logical_changed name f) dev.logical ≡ map (logical_changed name g) dev.logical
  no-logical e = unnamed (λ p. p.name) (logical_changed name f) name (logical-keeps name f) dev.logical e
      ∙ sym (unnamed (λ p. p.name) (logical_changed name g) name (logical-keeps name g) dev.logical e)

  by : (a : Option Physical) (b : Option Logical) → find (λ p. bytes_eq p.name name) dev.physical ≡ a → find (λ p. bytes_eq p.name name) dev.logical ≡ b → f (part_bytes name dev) ≡ g (part_bytes name dev) →
      with_bytes name f dev ≡ with_bytes name g dev
  by (Some p) b e k m =
      let is : part_bytes name dev ≡ p.bytes = ap (λ o. unwrap_or (option_or (option_map (λ p. p.bytes) o) (option_map (λ p. p.bytes) (find (λ p. bytes_eq p.name name) dev.logical))) []) e in
      let one : physical_changed name f p ≡ physical_changed name g p = ap (λ z. record p { bytes = z }) (changed-at (bytes_eq p.name name) f g p.bytes (part_bytes name dev) (sym is) m) in
      same
      (alike-found (λ p. p.name) (physical_changed name f) (physical_changed name g) name p (physical-keeps name f) (physical-keeps name g) one dev.physical (distinct-left ps ls d) e)
      (no-logical (other-unnamed name ps ls d (found-some (λ p. p.name) name dev.physical p e)))
  by None (Some q) e k m =
      let is : part_bytes name dev ≡ q.bytes = ap (λ o. unwrap_or (option_or (option_map (λ p. p.bytes) o) (option_map (λ p. p.bytes) (find (λ p. bytes_eq p.name name) dev.logical))) []) e
      ∙ ap (λ o. unwrap_or (option_map (λ p. p.bytes) o) []) k in
      let one : logical_changed name f q ≡ logical_changed name g q = ap (λ z. record q { bytes = z }) (changed-at (bytes_eq q.name name) f g q.bytes (part_bytes name dev) (sym is) m) in
      same (no-physical (found-none (λ p. p.name) name dev.physical e))
      (alike-found (λ p. p.name) (logical_changed name f) (logical_changed name g) name q (logical-keeps name f) (logical-keeps name g) one dev.logical (distinct-right ps ls d) k)
  by None None e k m = same (no-physical (found-none (λ p. p.name) name dev.physical e)) (no-logical (found-none (λ p. p.name) name dev.logical k))

-- what a partition has after a change of its bytes
pub part-changed : (name : List ℕ) (f : List ℕ → List ℕ) (dev : Dev) (old : List ℕ) → bytes_of dev name ≡ Some old → part_bytes name (with_bytes name f dev) ≡ f old
part-changed name f dev old h =
    ap (λ o. unwrap_or o []) (writes_one name name f dev)
    ∙ (ap (λ o. unwrap_or (option_map (if bytes_eq name name then f else λ bytes. bytes) o) []) h
    ∙ ap (λ b. (if b then f else λ bytes. bytes) old) ((bytes_eq-Decides name name).1 refl))

-- two writes, one behind the other, are one
pub put_twice : (name : List ℕ) (at : ℕ) (xs ys : List ℕ) (dev : Dev) → put_at name (at + length xs) ys (put_at name at xs dev) ≡ put_at name at (xs ++ ys) dev
put_twice name at xs ys dev =
    writes_twice name (λ old. written old at xs) (λ old. written old (at + length xs) ys) dev
    ∙ writes-alike name (λ old. written (written old at xs) (at + length xs) ys) (λ old. written old at (xs ++ ys)) dev (λ old. twice-written old at xs ys)

-- a change of nothing
abbrev same-bytes : List ℕ → List ℕ
same-bytes x = x

chosen-self : (b : Bool) (x : List ℕ) → (if b then same-bytes else same-bytes) x ≡ x
chosen-self true x = refl
chosen-self false x = refl

all-self : {X : Type 0} (f : X → X) → ((x : X) → f x ≡ x) → (xs : List X) → map f xs ≡ xs
all-self f h [] = refl
all-self f h (x ∷ xs) = let one = h x in let rest = all-self f h xs in λ i. one i ∷ rest i

bytes-self : (name : List ℕ) (dev : Dev) → with_bytes name same-bytes dev ≡ dev
bytes-self name dev =
    let a = all-self (physical_changed name same-bytes) (λ p. ap (λ x. record p { bytes = x }) (chosen-self (bytes_eq p.name name) p.bytes)) dev.physical in
    let b = all-self (logical_changed name same-bytes) (λ p. ap (λ x. record p { bytes = x }) (chosen-self (bytes_eq p.name name) p.bytes)) dev.logical in
    λ i. record dev { physical = a i; logical = b i }

pub put_none : (name : List ℕ) (at : ℕ) (dev : Dev) → put_at name at [] dev ≡ dev
put_none name at dev = writes-alike name (λ old. written old at []) same-bytes dev (λ old. written-none old at) ∙ bytes-self name dev

-- A write inside a partition keeps lengths.
abbrev within : ℕ → List ℕ → List ℕ → List ℕ
within at bytes old = if nat_le (at + length bytes) (length old) then written old at bytes else old

within-long : (at : ℕ) (bytes : List ℕ) → KeepsLength (within at bytes)
within-long at bytes old = by (nat_le (at + length bytes) (length old)) refl where
  by : (b : Bool) → nat_le (at + length bytes) (length old) ≡ b → length (if b then written old at bytes else old) ≡ length old
  by true e = length-written old at bytes (grind (arith, nat_tests))
  by false e = refl

within-is : (at : ℕ) (bytes old : List ℕ) → at + length bytes ≤ length old → written old at bytes ≡ within at bytes old
within-is at bytes old h = let e : nat_le (at + length bytes) (length old) ≡ true = grind (arith, nat_tests) in sym (ap (λ b. if b then written old at bytes else old) e)

put-within : (name : List ℕ) (at : ℕ) (bytes : List ℕ) (dev : Dev) → IsValid dev → at + length bytes ≤ length (part_bytes name dev) → put_at name at bytes dev ≡ with_bytes name (within at bytes) dev
put-within name at bytes dev v h =
    bytes-alike name (λ old. written old at bytes) (within at bytes) dev (names-apart dev v) (within-is at bytes (part_bytes name dev) h)

-- it keeps a device valid
pub put_valid : (name : List ℕ) (at : ℕ) (bytes : List ℕ) (dev : Dev) → IsValid dev → at + length bytes ≤ length (part_bytes name dev) → IsValid (put_at name at bytes dev)
put_valid name at bytes dev v h = subst IsValid (sym (put-within name at bytes dev v h)) (bytes-valid name (within at bytes) dev (within-long at bytes) v)

-- and changes nothing but bytes
chosen-long : (b : Bool) (f : List ℕ → List ℕ) (x : List ℕ) → KeepsLength f → length ((if b then f else λ y. y) x) ≡ length x
chosen-long true f x h = h x
chosen-long false f x h = refl

bytes-zeroed : (name : List ℕ) (f : List ℕ → List ℕ) (dev : Dev) → KeepsLength f → zeroed (with_bytes name f dev) ≡ zeroed dev
bytes-zeroed name f dev h =
    let a = map-same (physical_changed name f) zeroed_physical (λ p. ap (λ n. record p { bytes = zeros n }) (chosen-long (bytes_eq p.name name) f p.bytes h)) dev.physical in
    let b = map-same (logical_changed name f) zeroed_logical (λ p. ap (λ n. record p { bytes = zeros n }) (chosen-long (bytes_eq p.name name) f p.bytes h)) dev.logical in
    λ i. record dev { physical = a i; logical = b i }

pub put_zeroed : (name : List ℕ) (at : ℕ) (bytes : List ℕ) (dev : Dev) → IsValid dev → at + length bytes ≤ length (part_bytes name dev) → zeroed (put_at name at bytes dev) ≡ zeroed dev
put_zeroed name at bytes dev v h = ap zeroed (put-within name at bytes dev v h) ∙ bytes-zeroed name (within at bytes) dev (within-long at bytes)

pub put_names : (name : List ℕ) (at : ℕ) (bytes : List ℕ) (dev : Dev) → names_of (put_at name at bytes dev) ≡ names_of dev
put_names name at bytes dev =
    let a = map-same (physical_changed name (λ old. written old at bytes)) (λ p. p.name) (λ p. refl) dev.physical in
    let b = map-same (logical_changed name (λ old. written old at bytes)) (λ p. p.name) (λ p. refl) dev.logical in
    λ i. a i ++ b i

-- as long as they were, partitions with zeros have zeros after any write
chosen-alike : (b : Bool) (at : ℕ) (bytes x y : List ℕ) → length x ≡ length y → length ((if b then (λ old. written old at bytes) else same-bytes) x) ≡ length ((if b then (λ old. written old at bytes) else same-bytes) y)
chosen-alike true at bytes x y e = long-written x y at bytes e
chosen-alike false at bytes x y e = e

pub put-of-zeroed : (name : List ℕ) (at : ℕ) (bytes : List ℕ) (dev : Dev) → zeroed (put_at name at bytes (zeroed dev)) ≡ zeroed (put_at name at bytes dev)
put-of-zeroed name at bytes dev =
    let a = map-same zeroed_physical (λ p. zeroed_physical (physical_changed name (λ old. written old at bytes) p))
    (λ p. ap (λ n. record p { bytes = zeros n }) (chosen-alike (bytes_eq p.name name) at bytes (zeros (length p.bytes)) p.bytes (length-zeros (length p.bytes)))) dev.physical in
    let b = map-same zeroed_logical (λ p. zeroed_logical (logical_changed name (λ old. written old at bytes) p))
    (λ p. ap (λ n. record p { bytes = zeros n }) (chosen-alike (bytes_eq p.name name) at bytes (zeros (length p.bytes)) p.bytes (length-zeros (length p.bytes)))) dev.logical in
    let c = λ (ps : List Physical). map-map zeroed_physical (physical_changed name (λ old. written old at bytes)) ps in
    let d = λ (ps : List Logical). map-map zeroed_logical (logical_changed name (λ old. written old at bytes)) ps in
    let e = c (map zeroed_physical dev.physical) ∙ (a ∙ sym (c dev.physical)) in
    let f = d (map zeroed_logical dev.logical) ∙ (b ∙ sym (d dev.logical)) in
    λ i. record dev { physical = e i; logical = f i }

-- a device that didn't change
pub partly-self : (name : List ℕ) (at count : ℕ) (dev : Dev) → are_distinct (names_of dev) ≡ true → IsPartly name at count dev dev
partly-self name at count dev d = record {
  differs = differ-self at count (part_bytes name dev);
  same = sym (bytes-self name dev) ∙ bytes-alike name same-bytes (λ _. part_bytes name dev) dev d refl;
}

-- what the partition has then
pub part-put : (name : List ℕ) (at : ℕ) (bytes : List ℕ) (dev : Dev) → at + length bytes ≤ length (part_bytes name dev) → part_bytes name (put_at name at bytes dev) ≡ written (part_bytes name dev) at bytes
part-put name at bytes dev h = by (bytes_of dev name) refl h where
  by : (o : Option (List ℕ)) → bytes_of dev name ≡ o → at + length bytes ≤ length (unwrap_or o []) → part_bytes name (put_at name at bytes dev) ≡ written (part_bytes name dev) at bytes
  by (Some old) e k = part-changed name (λ x. written x at bytes) dev old e ∙ ap (λ o. written (unwrap_or o []) at bytes) (sym e)
  by None e k =
      ap (λ o. unwrap_or o []) (writes_one name name (λ x. written x at bytes) dev)
      ∙ (ap (λ o. unwrap_or (option_map (if bytes_eq name name then (λ x. written x at bytes) else λ x. x) o) []) e
      ∙ (sym (empty-written at bytes (omega arith)) ∙ ap (λ o. written (unwrap_or o []) at bytes) (sym e)))
    where
      empty-written : (at : ℕ) (bytes : List ℕ) → length bytes ≤ 0 → written [] at bytes ≡ []
      empty-written at [] l = written-none [] at
      empty-written at (b ∷ bytes) l = absurd (omega arith)

-- after a write the device is as it was but for a range of the partition
pub put_is_partly : (name : List ℕ) (at : ℕ) (bytes : List ℕ) (dev : Dev) → IsValid dev → at + length bytes ≤ length (part_bytes name dev) → IsPartly name at (length bytes) dev (put_at name at bytes dev)
put_is_partly name at bytes dev v h =
    let is = part-put name at bytes dev h in
    record {
      differs = subst (DifferWithin at (length bytes) (part_bytes name dev)) (sym is) (differ-written (part_bytes name dev) at bytes h);
      same = bytes-alike name (λ old. written old at bytes) (λ _. part_bytes name (put_at name at bytes dev)) dev (names-apart dev v) (sym is);
    }

-- a range behind one that was written
pub partly_after : (name : List ℕ) (at more : ℕ) (bytes : List ℕ) (dev t : Dev) → at + length bytes ≤ length (part_bytes name dev) → IsPartly name (at + length bytes) more (put_at name at bytes dev) t →
    IsPartly name at (length bytes + more) dev t
partly_after name at more bytes dev t h k =
    let first = widen at (length bytes) at (length bytes + more) (part_bytes name dev) (written (part_bytes name dev) at bytes) (differ-written (part_bytes name dev) at bytes h) (omega arith) (omega arith) in
    let later = widen (at + length bytes) more at (length bytes + more) (written (part_bytes name dev) at bytes) (part_bytes name t)
    (subst (λ x. DifferWithin (at + length bytes) more x (part_bytes name t)) (part-put name at bytes dev h) k.differs) (omega arith) (omega arith) in
    record {
      differs = differ-then at (length bytes + more) (part_bytes name dev) (written (part_bytes name dev) at bytes) (part_bytes name t) first later;
      same = k.same ∙ writes_twice name (λ old. written old at bytes) (λ _. part_bytes name t) dev;
    }
