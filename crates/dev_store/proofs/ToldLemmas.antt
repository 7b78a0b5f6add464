-- Rows at places of lists that are joined.
use Rattle.std.proofs.Common.{◌≡◌, ◌∙◌, ap, sym, subst, ℕ, zero, suc, ◌+◌, ◌-◌, ◌*◌, ◌/◌, ◌%◌, ◌<◌, ◌≤◌, Bool, not, List, [], ◌∷◌, ◌++◌, map, length, get_or, append_assoc, arith}
use Rattle.std.specs.Prelude.{slice_get, codes, flat_map, if◌then◌else◌, Some, Option}
use Rattle.std.specs.List.{AllByRecursion}
use Rattle.std.proofs.lemmas.List.{length-replicate}
use Rattle.std.proofs.lemmas.List.Folds.{flat_map-map}
use Rattle.fb_frame.specs.Bytes.{zeros}
use Rattle.fb_frame.specs.Numbers.{size_text}
use Rattle.fb_frame.specs.Slots.{letter}
use Rattle.dev_model.specs.Partitions.{has_slots, is_userspace}
use Rattle.dev_model.specs.Variables.{Row as NamedText, yes_or_no, with_slots_only, partition_rows}
use Rattle.dev_store.specs.declared.variables_row.Facts.{Facts}
use Rattle.dev_store.specs.ToldRows.{told_device}

-- the row of a list stands where it stands in the whole
pub found-first : (a b : List NamedText) (p : ℕ) {v : NamedText} → ((more : List NamedText) → slice_get (a ++ more) p ≡ Some v) → (more : List NamedText) → slice_get ((a ++ b) ++ more) p ≡ Some v
found-first a b p h more = ap (λ l. slice_get l p) (append_assoc a b more) ∙ h (b ++ more)

-- a row after a list stands as far after it
pub later-then : (a b : List NamedText) (p q : ℕ) {g : List NamedText → Option NamedText} → ((more : List NamedText) → slice_get (a ++ more) p ≡ slice_get more q) →
    ((more : List NamedText) → slice_get (b ++ more) q ≡ g more) → (more : List NamedText) → slice_get ((a ++ b) ++ more) p ≡ g more
later-then a b p q h k more = ap (λ l. slice_get l p) (append_assoc a b more) ∙ (h (b ++ more) ∙ k more)

-- what a device tells of itself, in parts
abbrev pub label-list : Facts → List NamedText
label-list f = (codes "version", codes "0.4") ∷ (codes "product", f.product.now) ∷ (codes "serialno", f.serial.now)
    ∷ (codes "secure", yes_or_no f.locked) ∷ (codes "unlocked", yes_or_no (not f.locked)) ∷ []

abbrev pub current-list : Facts → List NamedText
current-list f = with_slots_only (told_device f) ((codes "current-slot", letter f.active ∷ []) ∷ [])

abbrev pub limit-list : Facts → List NamedText
limit-list f = (codes "slot-count", if has_slots (told_device f) then codes "2" else codes "0") ∷ (codes "max-download-size", size_text f.max)
    ∷ (codes "is-userspace", yes_or_no (is_userspace (told_device f).mode)) ∷ []

-- past the front of a list
skip : (ys zs : List NamedText) (k : ℕ) → slice_get (ys ++ zs) (length ys + k) ≡ slice_get zs k
skip [] zs k = ap (slice_get zs) {x = 0 + k} {y = k} (omega arith)
skip (y ∷ ys) zs k = ap (slice_get (y ∷ (ys ++ zs))) {x = suc (length ys) + k} {y = suc (length ys + k)} (omega arith) ∙ skip ys zs k

past : (ys zs : List NamedText) (n k p : ℕ) → length ys ≡ n → p ≡ n + k → slice_get (ys ++ zs) p ≡ slice_get zs k
past ys zs n k p e h = ap (slice_get (ys ++ zs)) {x = p} {y = length ys + k} (omega arith) ∙ skip ys zs k

-- three rows of each element of a list
module _ {X : Type 0} (f : X → List NamedText) (three : (y : X) → length (f y) ≡ 3) where
  pub triple-found : (xs : List X) (q r : ℕ) (d : X) {v : Option NamedText} → q < length xs → ((more : List NamedText) → slice_get (f (get_or xs q d) ++ more) r ≡ v) →
      (more : List NamedText) → slice_get (flat_map f xs ++ more) (3 * q + r) ≡ v
  triple-found [] q r d h at more = absurd (omega arith)
  triple-found (x ∷ xs) zero r d h at more =
      ap (λ l. slice_get l (3 * 0 + r)) (append_assoc (f x) (flat_map f xs) more) ∙ (ap (slice_get (f x ++ (flat_map f xs ++ more))) {x = 3 * 0 + r} {y = r} (omega arith) ∙ at (flat_map f xs ++ more))
  triple-found (x ∷ xs) (suc q) r d h at more =
      ap (λ l. slice_get l (3 * suc q + r)) (append_assoc (f x) (flat_map f xs) more) ∙ (past (f x) (flat_map f xs ++ more) 3 (3 * q + r) (3 * suc q + r) (three x) (omega arith)
      ∙ triple-found xs q r d (omega arith) at more)

  pub triple-later : (xs : List X) (p : ℕ) → 3 * length xs ≤ p → (more : List NamedText) → slice_get (flat_map f xs ++ more) p ≡ slice_get more (p - 3 * length xs)
  triple-later [] p h more = ap (slice_get more) {x = p} {y = p - 3 * 0} (omega arith)
  triple-later (x ∷ xs) p h more =
      ap (λ l. slice_get l p) (append_assoc (f x) (flat_map f xs) more) ∙ (past (f x) (flat_map f xs ++ more) 3 (p - 3) p (three x) (omega arith)
      ∙ (triple-later xs (p - 3) (omega arith) more ∙ ap (slice_get more) {x = p - 3 - 3 * length xs} {y = p - 3 * suc (length xs)} (omega arith)))

-- the rows of a partition, by the text of its size
abbrev pub texted-rows : Bool → List ℕ → List ℕ → List NamedText
texted-rows logical name text = (codes "partition-size:" ++ name, text) ∷ (codes "partition-type:" ++ name, codes "raw") ∷ (codes "is-logical:" ++ name, yes_or_no logical) ∷ []

-- the rows of a partition of so many bytes
abbrev pub sized-rows : Bool → List ℕ → ℕ → List NamedText
sized-rows logical name size = texted-rows logical name (size_text size)

pub zeros-long : (n : ℕ) → length (zeros n) ≡ n
unfolding zeros
zeros-long n = length-replicate n 0

-- those of zeros
sized-same : (logical : Bool) (name : List ℕ) (size : ℕ) → partition_rows logical name (zeros size) ≡ sized-rows logical name size
sized-same logical name size = ap (sized-rows logical name) (zeros-long size)

-- the rows of partitions, by a name and a size of each
pub part-found : {X Y : Type 0} (logical : Bool) (name : X → List ℕ) (size : X → ℕ) (told : X → Y) (rows : Y → List NamedText) → ((x : X) → rows (told x) ≡ partition_rows logical (name x) (zeros (size x))) →
    (parts : List X) (place : ℕ) (x : X) {v : Option NamedText} → place / 3 < length parts → x ≡ get_or parts (place / 3) x → ((more : List NamedText) → slice_get (sized-rows logical (name x) (size x) ++ more) (place % 3) ≡ v) →
    (more : List NamedText) → slice_get (flat_map rows (map told parts) ++ more) place ≡ v
part-found logical name size told rows same parts place x h e k more =
    ap (λ l. slice_get (l ++ more) place) (flat_map-map rows told parts)
    ∙ (ap (slice_get (flat_map (λ y. rows (told y)) parts ++ more)) {x = place} {y = 3 * (place / 3) + place % 3} (omega arith)
    ∙ triple-found (λ y. rows (told y)) (λ y. ap length (same y)) parts (place / 3) (place % 3) x h
    (λ m. ap (λ y. slice_get (rows (told y) ++ m) (place % 3)) (sym e) ∙ (ap (λ l. slice_get (l ++ m) (place % 3)) (same x ∙ sized-same logical (name x) (size x)) ∙ k m)) more)

pub part-later : {X Y : Type 0} (logical : Bool) (name : X → List ℕ) (size : X → ℕ) (told : X → Y) (rows : Y → List NamedText) → ((x : X) → rows (told x) ≡ partition_rows logical (name x) (zeros (size x))) →
    (parts : List X) (place : ℕ) → length parts ≤ place / 3 → (more : List NamedText) → slice_get (flat_map rows (map told parts) ++ more) place ≡ slice_get more (place - 3 * length parts)
part-later logical name size told rows same parts place h more =
    ap (λ l. slice_get (l ++ more) place) (flat_map-map rows told parts)
    ∙ triple-later (λ y. rows (told y)) (λ y. ap length (same y)) parts place (omega arith) more

-- what holds of each element holds of one
pub all-at : {X : Type 0} (P : X → Type 0) (xs : List X) (i : ℕ) (x d : X) → AllByRecursion P xs → i < length xs → x ≡ get_or xs i d → P x
all-at P [] i x d a h e = absurd (omega arith)
all-at P (y ∷ ys) zero x d a h e = subst P (sym e) a.0
all-at P (y ∷ ys) (suc i) x d a h e = all-at P ys i x d a.1 (omega arith) e
