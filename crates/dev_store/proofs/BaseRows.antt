-- Each name that is there has a row of has-slot for its base name.
use Rattle.std.proofs.Common.{◌≡◌, ◌∙◌, refl, ap, sym, ℕ, zero, suc, ◌-◌, Bool, true, false, List, [], ◌∷◌, ◌++◌, map, length, take, drop, Some, None, option_map, if◌then◌else◌, codes}
use Rattle.std.specs.Prelude.{◌&&◌, ◌||◌, bytes_eq, slice_get, nat_lt, nat_eq}
use Rattle.std.specs.List.{list_any, ends_with}
use Rattle.std.proofs.lemmas.List.{take-append-drop}
use Rattle.std.proofs.lemmas.List.Folds.{list_any-append}
use Rattle.std.proofs.lemmas.Slice.Eq.{bytes_eq-Decides}
use Rattle.std.proofs.Math.Bool.{or-true}
use Rattle.fb_frame.specs.declared.slot.Slot.TheVariants.{A, B}
use Rattle.fb_frame.specs.Slots.{suffix}
use Rattle.dev_model.specs.declared.device.Dev.{Dev}
use Rattle.dev_model.specs.Partitions.{has_slots, is_partition}
use Rattle.dev_model.specs.Variables.{Row as NamedText, base_name, has_slot, has_slot_row}
use Rattle.dev_model.proofs.Valid.{both}
use Rattle.dev_store.specs.StoreCalls.{names_of}

-- a name that is there, among all names and as a partition
there : (n : List ℕ) (ns : List (List ℕ)) (i : ℕ) → Some n ≡ slice_get ns i → list_any (λ m. bytes_eq m n) ns ≡ true
there n [] i e = absurd cc
there n (m ∷ ns) zero e = let same : m ≡ n = cc in ap (λ b. b || list_any (λ m. bytes_eq m n) ns) ((bytes_eq-Decides m n).1 same)
there n (m ∷ ns) (suc i) e = ap (λ b. bytes_eq m n || b) (there n ns i e) ∙ or-true (bytes_eq m n)

any-named : {X : Type 0} (name : X → List ℕ) (n : List ℕ) (xs : List X) → list_any (λ m. bytes_eq m n) (map name xs) ≡ list_any (λ x. bytes_eq (name x) n) xs
any-named name n [] = refl
any-named name n (x ∷ xs) = ap (λ b. bytes_eq (name x) n || b) (any-named name n xs)

is-there : (d : Dev) (n : List ℕ) (i : ℕ) → Some n ≡ slice_get (names_of d) i → is_partition d n ≡ true
is-there d n i e =
    let a = any-named (λ p. p.name) n d.physical in
    let b = any-named (λ p. p.name) n d.logical in
    sym (λ k. a k || b k) ∙ (sym (list_any-append (λ m. bytes_eq m n) (map (λ p. p.name) d.physical) (map (λ p. p.name) d.logical)) ∙ there n (names_of d) i e)

-- a name that ends so
ends-so : (n s : List ℕ) → ends_with nat_eq n s ≡ true → take (length n - length s) n ++ s ≡ n
ends-so n s h = ap (λ t. take (length n - length s) n ++ t) ((bytes_eq-Decides s (drop (length n - length s) n)).0 h) ∙ take-append-drop (length n - length s) n

-- the text, where there is one
abbrev HasText : Dev → List ℕ → Type 0
HasText d y = (text : List ℕ) × (has_slot d y ≡ Some text)

whole-name : (d : Dev) (n : List ℕ) → is_partition d n ≡ true → HasText d n
whole-name d n p = by (has_slots d && (is_partition d (n ++ suffix A) || is_partition d (n ++ suffix B)))
  where
    by : (b : Bool) → (text : List ℕ) × ((if b then Some (codes "yes") else (if is_partition d n then Some (codes "no") else None)) ≡ Some text)
    by true = (codes "yes", refl)
    by false = (codes "no", ap (λ c. if c then Some (codes "no") else None) p)

slotted : (d : Dev) (y : List ℕ) → (has_slots d && (is_partition d (y ++ suffix A) || is_partition d (y ++ suffix B))) ≡ true → HasText d y
slotted d y h = (codes "yes", ap (λ b. if b then Some (codes "yes") else (if is_partition d y then Some (codes "no") else None)) h)

either-slot : (d : Dev) (n y : List ℕ) (a b : Bool) → has_slots d ≡ true → (a || b) ≡ true → (a ≡ true → is_partition d (y ++ suffix A) ≡ true) → (b ≡ true → is_partition d (y ++ suffix B) ≡ true) → HasText d y
either-slot d n y true b s h f g = slotted d y ((λ k. s k && (f refl k || is_partition d (y ++ suffix B))))
either-slot d n y false true s h f g = slotted d y ((λ k. s k && (is_partition d (y ++ suffix A) || g refl k)) ∙ or-true (is_partition d (y ++ suffix A)))
either-slot d n y false false s h f g = absurd cc

based : (d : Dev) (n : List ℕ) → is_partition d n ≡ true → HasText d (base_name d n)
based d n p = by (has_slots d && nat_lt 2 (length n) && (ends_with nat_eq n (suffix A) || ends_with nat_eq n (suffix B))) refl
  where
    part : (s : List ℕ) → take (length n - length s) n ++ s ≡ n → is_partition d (take (length n - length s) n ++ s) ≡ true
    part s e = ap (is_partition d) e ∙ p

    by : (c : Bool) → (has_slots d && nat_lt 2 (length n) && (ends_with nat_eq n (suffix A) || ends_with nat_eq n (suffix B))) ≡ c → HasText d (if c then take (length n - 2) n else n)
    by false h = whole-name d n p
    by true h =
        let first = both (has_slots d && nat_lt 2 (length n)) (ends_with nat_eq n (suffix A) || ends_with nat_eq n (suffix B)) h in
        either-slot d n (take (length n - 2) n) (ends_with nat_eq n (suffix A)) (ends_with nat_eq n (suffix B)) (both (has_slots d) (nat_lt 2 (length n)) first.0).0 first.1
        (λ e. part (suffix A) (ends-so n (suffix A) e)) (λ e. part (suffix B) (ends-so n (suffix B) e))

pub has-row : (d : Dev) (n : List ℕ) (i : ℕ) → Some n ≡ slice_get (names_of d) i → (row : NamedText) × (has_slot_row d (base_name d n) ≡ Some row)
has-row d n i e =
    let t = based d n (is-there d n i e) in
    ((codes "has-slot:" ++ base_name d n, t.0), ap (option_map (λ text. (codes "has-slot:" ++ base_name d n, text))) t.1)
