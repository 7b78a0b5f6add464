-- Commands that write the bytes of a partition.
use Rattle.std.proofs.Common.{◌≡◌, ◌∙◌, ◌⊎◌, inl, inr, refl, ap, sym, subst, ℕ, zero, suc, ◌+◌, ◌≤◌, Bool, true, false, not, ◌&&◌, List, [], ◌∷◌, ◌++◌, find, length, replicate, Option, Some, None, option_map, Result, Ok, Err, codes, arith, if◌then◌else◌}
use Rattle.std.specs.Prelude.{is_some, is_none, ◌*◌, ◌/◌, ◌%◌, ◌==◌, unwrap_or, option_and_then, nat_lt, bytes_eq, IfSome, OnOk, OnErr}
use Rattle.std.specs.List.{list_all}
use Rattle.std.specs.Option.{option_or}
use Rattle.std.proofs.lemmas.Bool.Decides.{nat_tests}
use Rattle.std.proofs.lemmas.List.{append-nil, drop_all}
use Rattle.fb_frame.specs.Causes.{Rose}
use Rattle.fb_message.specs.CommandText.{Flash, Erase}
use Rattle.dev_disk.specs.Disks.{DiskTold, FilesKept}
use Rattle.dev_disk.specs.Files.{written}
use Rattle.dev_disk.proofs.TwinLemmas.{same-bytes, OpenKept-then, OpenKept-files}
use Rattle.dev_model.specs.declared.cells.Cell.{Cell}
use Rattle.dev_model.specs.declared.device.Dev.{Dev}
use Rattle.dev_model.specs.declared.device.Physical.{Physical}
use Rattle.dev_model.specs.declared.device.Logical.{Logical}
use Rattle.dev_model.specs.declared.device.Mode.TheVariants.{Halted}
use Rattle.dev_model.specs.Images.{image, over, copies}
use Rattle.dev_model.specs.Options.{first_passed}
use Rattle.dev_model.specs.Partitions.{bytes_of, is_target, with_bytes, with_mode}
use Rattle.dev_model.specs.Refusals.{flash_refusal, erase_refusal, is_too_large}
use Rattle.dev_model.specs.Steps.{wiped}
use Rattle.dev_model.specs.Tables.{is_group}
use Rattle.dev_model.specs.Validity.{IsValid, is_sized, is_entry, is_whole}
use Rattle.dev_model.proofs.KeepingLemmas.{writes_one}
use Rattle.dev_model.proofs.Valid.{both}
use Rattle.dev_model.proofs.Runs.{over_length}
use Rattle.wire_model.specs.Says.{Loaded, loaded_image}
use Rattle.wire_model.specs.Halts.{DiffersUnder, HaltsBy, Halts}
use Rattle.dev_store.specs.Changes.{put_at, repeated, range_flaw}
use Rattle.dev_store.specs.Held.{Held, image_of, seen, zeroed, IsSound, IsWhole, DiskKept}
use Rattle.dev_store.specs.StoreCalls.{part_bytes}
use Rattle.dev_store.proofs.PartDevices.{names-apart, bytes-alike, part-changed, partly-self}
use Rattle.device_engine.specs.Putting.{IsTornOver, IsTornUnder}
use Rattle.device_engine.specs.Running.{Order}
use Rattle.device_engine.specs.Working.{IsStopped}
use Rattle.device_engine.proofs.HaltLemmas.{holds-halted}
use Rattle.device_engine.proofs.FlashLemmas.{under-same, under-over}
use Rattle.device_engine.proofs.PutLemmas.{fill-long}
use Rattle.device_engine.proofs.RangeLemmas.{seen-either, bytes-zeroed, range-is, target-partition}

-- why a partition isn't erased
pub erase-locked : (dev : Dev) (name : List ℕ) → dev.locked ≡ true → erase_refusal dev name ≡ Some (codes "locked")
erase-locked dev name h = ap (λ l. first_passed ((l, codes "locked") ∷ (not (is_target dev name), codes "no such partition") ∷ [])) h

pub erase-unnamed : (dev : Dev) (name : List ℕ) → dev.locked ≡ false → is_target dev name ≡ false → erase_refusal dev name ≡ Some (codes "no such partition")
erase-unnamed dev name h k = λ i. first_passed ((h i, codes "locked") ∷ (not (k i), codes "no such partition") ∷ [])

pub erase-taken : (dev : Dev) (name : List ℕ) → dev.locked ≡ false → is_target dev name ≡ true → erase_refusal dev name ≡ None
erase-taken dev name h k = λ i. first_passed ((h i, codes "locked") ∷ (not (k i), codes "no such partition") ∷ [])

-- why an image isn't put
pub flash-locked : (dev : Dev) (loaded : Loaded) (name : List ℕ) → dev.locked ≡ true → flash_refusal dev loaded name ≡ Some (codes "locked")
flash-locked dev loaded name h =
    ap (λ l. first_passed ((l, codes "locked") ∷ (is_none loaded, codes "nothing downloaded") ∷ (not (is_target dev name), codes "no such partition") ∷ (is_none (option_and_then image loaded), codes "bad image")
    ∷ (is_too_large (unwrap_or (option_and_then image loaded) []) dev name, codes "image too large") ∷ [])) h

pub flash-unloaded : (dev : Dev) (name : List ℕ) → dev.locked ≡ false → flash_refusal dev None name ≡ Some (codes "nothing downloaded")
flash-unloaded dev name h =
    ap (λ l. first_passed ((l, codes "locked") ∷ (true, codes "nothing downloaded") ∷ (not (is_target dev name), codes "no such partition") ∷ (true, codes "bad image")
    ∷ (is_too_large [] dev name, codes "image too large") ∷ [])) h

abbrev flash-by : Bool → Bool → Option (List Cell) → Dev → List ℕ → Option (List ℕ)
flash-by l t i dev name =
    first_passed ((l, codes "locked") ∷ (false, codes "nothing downloaded") ∷ (not t, codes "no such partition") ∷ (is_none i, codes "bad image") ∷ (is_too_large (unwrap_or i []) dev name, codes "image too large") ∷ [])

pub flash-unnamed : (dev : Dev) (file name : List ℕ) → dev.locked ≡ false → is_target dev name ≡ false → flash_refusal dev (Some file) name ≡ Some (codes "no such partition")
flash-unnamed dev file name h k = λ i. flash-by (h i) (k i) (image file) dev name

pub flash-bad : (dev : Dev) (file name : List ℕ) → dev.locked ≡ false → is_target dev name ≡ true → image file ≡ None → flash_refusal dev (Some file) name ≡ Some (codes "bad image")
flash-bad dev file name h k m = λ i. flash-by (h i) (k i) (m i) dev name

pub flash-long : (dev : Dev) (file name : List ℕ) (cells : List Cell) → dev.locked ≡ false → is_target dev name ≡ true → image file ≡ Some cells → nat_lt (length (part_bytes name dev)) (length cells) ≡ true →
    flash_refusal dev (Some file) name ≡ Some (codes "image too large")
flash-long dev file name cells h k m n = (λ i. flash-by (h i) (k i) (m i) dev name) ∙ ap (λ b. first_passed ((b, codes "image too large") ∷ [])) n

pub flash-taken : (dev : Dev) (file name : List ℕ) (cells : List Cell) → dev.locked ≡ false → is_target dev name ≡ true → image file ≡ Some cells → nat_lt (length (part_bytes name dev)) (length cells) ≡ false →
    flash_refusal dev (Some file) name ≡ None
flash-taken dev file name cells h k m n = (λ i. flash-by (h i) (k i) (m i) dev name) ∙ ap (λ b. first_passed ((b, codes "image too large") ∷ [])) n

pub image-loaded : (file : List ℕ) (cells : List Cell) → image file ≡ Some cells → loaded_image (Some file) ≡ cells
image-loaded file cells m = ap (λ i. unwrap_or i []) m

-- whether an image is longer than the partition
pub longer-as : (bytes : List ℕ) (cells : List Cell) (size len : ℕ) → size ≡ length bytes → len ≡ length cells → nat_lt (length bytes) (length cells) ≡ nat_lt size len
longer-as bytes cells size len e k = λ i. nat_lt (sym e i) (sym k i)

pub image-room : (dev : Dev) (name : List ℕ) (cells : List Cell) (len : ℕ) → is_target dev name ≡ true → len ≡ length cells → nat_lt (length (part_bytes name dev)) (length cells) ≡ false → range_flaw dev name 0 len ≡ None
image-room dev name cells len t e h =
    let k : length cells ≤ length (part_bytes name dev) = grind (arith, nat_tests) in
    range-is dev name 0 len (target-partition dev name t) (omega (arith, k, e))

-- the bytes of the partition after a change
pub part-of : (name : List ℕ) (change : List ℕ → List ℕ) (dev : Dev) → change [] ≡ [] → part_bytes name (with_bytes name change dev) ≡ change (part_bytes name dev)
part-of name change dev none = by (bytes_of dev name) refl where
  chosen : (b : Bool) → unwrap_or (option_map (if b then change else λ bytes. bytes) None) [] ≡ []
  chosen true = refl
  chosen false = refl

  by : (o : Option (List ℕ)) → bytes_of dev name ≡ o → part_bytes name (with_bytes name change dev) ≡ change (part_bytes name dev)
  by (Some x) e = part-changed name change dev x e ∙ ap (λ o. change (unwrap_or o [])) (sym e)
  by None e =
      ap (λ o. unwrap_or o []) (writes_one name name change dev)
      ∙ (ap (λ o. unwrap_or (option_map (if bytes_eq name name then change else λ bytes. bytes) o) []) e ∙ (chosen (bytes_eq name name) ∙ (sym none ∙ ap (λ o. change (unwrap_or o [])) (sym e))))

-- a partition has whole blocks
find-all : {X : Type 0} (p q : X → Bool) (xs : List X) (x : X) → find q xs ≡ Some x → list_all p xs ≡ true → p x ≡ true
find-all p q [] x h k = absurd cc
find-all p q (y ∷ ys) x h k = by (q y) (find-all p q ys x) h where
  by : (b : Bool) → (find q ys ≡ Some x → list_all p ys ≡ true → p x ≡ true) → (if b then Some y else find q ys) ≡ Some x → p x ≡ true
  by true more e = let same : y ≡ x = cc in subst (λ z. p z ≡ true) same (both (p y) (list_all p ys) k).0
  by false more e = more e (both (p y) (list_all p ys) k).1

whole-fours : (n : ℕ) → is_whole n ≡ true → n % 4 ≡ 0
whole-fours n h = let e = (both (n % 4096 == 0) _ h).0 in let f : n % 4096 ≡ 0 = grind (arith, nat_tests) in omega (arith, f)

pub part-fours : (dev : Dev) (name : List ℕ) → IsValid dev → length (part_bytes name dev) % 4 ≡ 0
part-fours dev name v = by (find (λ p. bytes_eq p.name name) dev.physical) (find (λ p. bytes_eq p.name name) dev.logical) refl refl where
  sized : list_all (λ p. is_sized p.bytes) dev.physical ≡ true
  sized = (both _ (list_all (λ p. is_sized p.bytes) dev.physical) v.physical).1

  entries : list_all (is_entry dev.table_minor dev.groups) dev.logical ≡ true
  entries = (both _ (list_all (is_entry dev.table_minor dev.groups) dev.logical) v.logical).1

  by : (a : Option Physical) (b : Option Logical) → find (λ p. bytes_eq p.name name) dev.physical ≡ a → find (λ p. bytes_eq p.name name) dev.logical ≡ b → length (part_bytes name dev) % 4 ≡ 0
  by (Some p) b e k =
      let is : part_bytes name dev ≡ p.bytes = ap (λ o. unwrap_or (option_or (option_map (λ p. p.bytes) o) (option_map (λ p. p.bytes) (find (λ p. bytes_eq p.name name) dev.logical))) []) e in
      let good : is_sized p.bytes ≡ true = find-all (λ p. is_sized p.bytes) (λ p. bytes_eq p.name name) dev.physical p e sized in
      ap (λ x. length x % 4) is ∙ whole-fours (length p.bytes) (both (is_whole (length p.bytes)) _ good).0
  by None (Some q) e k =
      let is : part_bytes name dev ≡ q.bytes = ap (λ o. unwrap_or (option_or (option_map (λ p. p.bytes) o) (option_map (λ p. p.bytes) (find (λ p. bytes_eq p.name name) dev.logical))) []) e
      ∙ ap (λ o. unwrap_or (option_map (λ p. p.bytes) o) []) k in
      let good : is_entry dev.table_minor dev.groups q ≡ true = find-all (is_entry dev.table_minor dev.groups) (λ p. bytes_eq p.name name) dev.logical q k entries in
      ap (λ x. length x % 4) is ∙ whole-fours (length q.bytes) (both (is_group dev.groups q.group) (is_whole (length q.bytes)) (both (is_group dev.groups q.group && is_whole (length q.bytes)) _ good).0).1
  by None None e k =
      let is : part_bytes name dev ≡ [] = ap (λ o. unwrap_or (option_or (option_map (λ p. p.bytes) o) (option_map (λ p. p.bytes) (find (λ p. bytes_eq p.name name) dev.logical))) []) e
      ∙ ap (λ o. unwrap_or (option_map (λ p. p.bytes) o) []) k in
      ap (λ x. length x % 4) is

-- 0xFF over and over is a partition that was erased
abbrev ones : List ℕ
ones = 255 ∷ 255 ∷ 255 ∷ 255 ∷ []

filled : (q n : ℕ) → n ≡ q * 4 → copies q ones ≡ replicate n 255
filled zero zero e = refl
filled zero (suc n) e = absurd (omega (arith, e))
filled (suc q) zero e = absurd (omega (arith, e))
filled (suc q) (suc zero) e = absurd (omega (arith, e))
filled (suc q) (suc (suc zero)) e = absurd (omega (arith, e))
filled (suc q) (suc (suc (suc zero))) e = absurd (omega (arith, e))
filled (suc q) (suc (suc (suc (suc n)))) e = ap (λ (xs : List ℕ). 255 ∷ 255 ∷ 255 ∷ 255 ∷ xs) (filled q n (omega (arith, e)))

wiped-ones : (x : List ℕ) → replicate (length x) 255 ≡ wiped x
wiped-ones [] = refl
wiped-ones (b ∷ x) = ap (λ (xs : List ℕ). 255 ∷ xs) (wiped-ones x)

pub wiped-long : (x : List ℕ) → length (wiped x) ≡ length x
wiped-long [] = refl
wiped-long (b ∷ x) = ap suc (wiped-long x)

written-all : (x bs : List ℕ) → length bs ≡ length x → written x 0 bs ≡ bs
unfolding written
written-all x bs e = ap (λ (xs : List ℕ). bs ++ xs) (drop_all (0 + length bs) x (omega (arith, e))) ∙ append-nil bs

pub wiped-all : (name : List ℕ) (size : ℕ) (dev : Dev) → IsValid dev → size ≡ length (part_bytes name dev) → put_at name 0 (repeated size ones) dev ≡ with_bytes name wiped dev
wiped-all name size dev v e =
    let x = part_bytes name dev in
    let four : size % 4 ≡ 0 = ap (λ n. n % 4) e ∙ part-fours dev name v in
    let whole : size ≡ size / 4 * 4 = omega (arith, four) in
    let ff : repeated size ones ≡ wiped x = filled (size / 4) size whole ∙ (ap (λ n. replicate n 255) e ∙ wiped-ones x) in
    bytes-alike name (λ old. written old 0 (repeated size ones)) wiped dev (names-apart dev v)
    (written-all x (repeated size ones) (fill-long size ones four refl ∙ e) ∙ ff)

-- what is so of a result, whatever it is
pub on-ok : {T E : Type 0} {P : Type 0} (r : Result T E) → P → OnOk r P
on-ok (Ok x) p = p
on-ok (Err e) p = tt

pub on-err : {T E : Type 0} {P Q : Type 0} (r : Result T E) → OnErr r P → (P → Q) → OnErr r Q
on-err (Ok x) p f = tt
on-err (Err e) p f = f p

-- a disk that is kept, and then waited for
pub disk-after : {K L : Type 0} (told : K → DiskTold) (lent : K → L) (a b c : K) → DiskKept told lent a b → FilesKept (told b) (told c) → lent c ≡ lent b → DiskKept told lent a c
disk-after told lent a b c h files same = record { same = same ∙ h.same; kept = OpenKept-then (told a) (told b) (told c) h.kept (OpenKept-files (told b) (told c) files) }

module _ {K : Type 0} (told : K → DiskTold) (name : List ℕ) where
  -- a change that was written, and then the disk failed as it was to be kept
  pub kept-seen : (mid new : Held K) (done : Dev) → FilesKept (told mid.disk) (told new.disk) → new.device ≡ mid.device → mid.device ≡ seen (image_of told mid) done → new.device ≡ seen (image_of told new) done
  kept-seen mid new done files same left = same ∙ (left ∙ ap (λ i. seen i done) (sym (same-bytes (told mid.disk) (told new.disk) files)))

  same-part : (change : List ℕ → List ℕ) (dev now : Dev) → IsValid dev → change [] ≡ [] → now ≡ with_bytes name change dev → now ≡ with_bytes name (λ _. part_bytes name now) dev
  same-part change dev now v none e =
      e ∙ bytes-alike name change (λ _. part_bytes name now) dev (names-apart dev v) (sym (part-of name change dev none) ∙ ap (part_bytes name) (sym e))

  same-self : (dev now : Dev) → IsValid dev → now ≡ dev → now ≡ with_bytes name (λ _. part_bytes name now) dev
  same-self dev now v e = e ∙ ((partly-self name 0 0 dev (names-apart dev v)).same ∙ ap (λ d. with_bytes name (λ _. part_bytes name d) dev) (sym e))

  module _ (old new : Held K) (w : IsWhole told old) (zero-old : is_some (image_of told new) ≡ false → old.device ≡ zeroed old.device) (sound : IsSound told new) (rose : Rose (told old.disk).faults (told new.disk).faults) where
    pub torn-over : (change : List ℕ → List ℕ) → change [] ≡ [] → ((x : List ℕ) → length (change x) ≡ length x) → new.device ≡ seen (image_of told new) (with_bytes name change old.device) → IsTornOver told name old new
    torn-over change none long left = by (seen-either (image_of told new) old.device (with_bytes name change old.device) zero-old (bytes-zeroed name change old.device long)) where
      by : (seen (image_of told new) (with_bytes name change old.device) ≡ with_bytes name change old.device) ⊎ (seen (image_of told new) (with_bytes name change old.device) ≡ old.device) → IsTornOver told name old new
      by (inl s) =
          let is : new.device ≡ with_bytes name change old.device = left ∙ s in
          record {
            long = ap (λ d. length (part_bytes name d)) is ∙ (ap length (part-of name change old.device none) ∙ long (part_bytes name old.device));
            same = same-part change old.device new.device w.sound.valid none is;
            sound = sound;
            rose = rose;
          }
      by (inr s) =
          let is : new.device ≡ old.device = left ∙ s in
          record { long = ap (λ d. length (part_bytes name d)) is; same = same-self old.device new.device w.sound.valid is; sound = sound; rose = rose }

    pub torn-all : (cells : List Cell) → new.device ≡ seen (image_of told new) (with_bytes name (over cells) old.device) → IsTornUnder told name cells old new
    torn-all cells left = by (seen-either (image_of told new) old.device (with_bytes name (over cells) old.device) zero-old (bytes-zeroed name (over cells) old.device (over_length cells))) where
      none : (cells : List Cell) → over cells [] ≡ []
      none [] = refl
      none (c ∷ cells) = refl

      by : (seen (image_of told new) (with_bytes name (over cells) old.device) ≡ with_bytes name (over cells) old.device) ⊎ (seen (image_of told new) (with_bytes name (over cells) old.device) ≡ old.device) →
          IsTornUnder told name cells old new
      by (inl s) =
          let is : new.device ≡ with_bytes name (over cells) old.device = left ∙ s in
          let part : part_bytes name new.device ≡ over cells (part_bytes name old.device) = ap (part_bytes name) is ∙ part-of name (over cells) old.device (none cells) in
          record {
            under = subst (DiffersUnder cells (part_bytes name old.device)) (sym part)
                (subst (λ c. DiffersUnder c (part_bytes name old.device) (over cells (part_bytes name old.device))) (append-nil cells) (under-over cells [] (part_bytes name old.device)));
            same = same-part (over cells) old.device new.device w.sound.valid (none cells) is;
            sound = sound;
            rose = rose;
          }
      by (inr s) =
          let is : new.device ≡ old.device = left ∙ s in
          record {
            under = subst (DiffersUnder cells (part_bytes name old.device)) (sym (ap (part_bytes name) is)) (under-same cells (part_bytes name old.device));
            same = same-self old.device new.device w.sound.valid is;
            sound = sound;
            rose = rose;
          }

  -- the device that a failed disk leaves
  long-some : (o : Option (List ℕ)) (bytes : List ℕ) → length bytes ≡ length (unwrap_or o []) → IfSome o (λ x. length bytes ≡ length x)
  long-some None bytes e = tt
  long-some (Some x) bytes e = e

  under-some : (cells : List Cell) (o : Option (List ℕ)) (bytes : List ℕ) → DiffersUnder cells (unwrap_or o []) bytes → IfSome o (λ x. DiffersUnder cells x bytes)
  under-some cells None bytes e = tt
  under-some cells (Some x) bytes e = e

  pub halts-erase : (old new : Held K) (loaded : Loaded) → IsTornOver told name old new → HaltsBy old.device loaded (Erase name) (with_mode Halted new.device)
  halts-erase old new loaded t =
      (part_bytes name new.device, long-some (bytes_of old.device name) (part_bytes name new.device) t.long, ap (with_mode Halted) t.same)

  pub halts-flash : (old new : Held K) (loaded : Loaded) (cells : List Cell) → loaded_image loaded ≡ cells → IsTornUnder told name cells old new → HaltsBy old.device loaded (Flash name) (with_mode Halted new.device)
  halts-flash old new loaded cells e t = (
    part_bytes name new.device,
    subst (λ c. IfSome (bytes_of old.device name) (λ x. DiffersUnder c x (part_bytes name new.device))) (sym e) (under-some cells (bytes_of old.device name) (part_bytes name new.device) t.under),
    ap (with_mode Halted) t.same,
  )

  pub stops : (old new : Held K) (order : Order) → Halts old.device order.loaded order.command (with_mode Halted new.device) → IsSound told new → Rose (told old.disk).faults (told new.disk).faults → IsStopped told old new order
  stops old new order halts sound rose = record {
    left = with_mode Halted new.device;
    halts = halts;
    halted = refl;
    stands = λ h. holds-halted (image_of told new) new.device sound.stands;
    rose = rose;
  }
