-- A store of which one part of the map has another list.
use Rattle.std.proofs.Common.{◌≡◌, ◌≢◌, ◌∙◌, ap, sym, ℕ, zero, suc, ◌-◌, ◌<◌, ◌≤◌, Bool, true, false, List, [], ◌∷◌, ◌++◌, length, take, arith, Some, append-nil}
use Rattle.std.specs.Prelude.{◌==◌, nat_lt, slice_get, IsFalse}
use Rattle.std.specs.List.{list_all, list_any, position_or_len}
use Rattle.std.proofs.lemmas.List.{take_all, get_or-set_other}
use Rattle.std.proofs.lemmas.Option.{slice_get_within}
use Rattle.std.proofs.lemmas.Bool.Decides.{nat_tests}
use Rattle.dev_model.proofs.Valid.{or-left, or-right}
use Rattle.dev_model.specs.declared.device.Logical.{Logical}
use Rattle.unit_alloc.specs.Owning.{Owning, OneOwner, free_units, with_units, units_of, kept, handed}
use Rattle.dev_store.proofs.ChangeNamed.{by_name, at-name}
use Rattle.dev_store.proofs.ChangeUnits.{AreOnce, named-own, named-other, times-of}
use Rattle.dev_store.proofs.ChangeBytes.{all-below}
use Rattle.dev_store.specs.TableChanges.{regrown}

-- a part that shrinks or grows
pub kept-is : (o : Owning) (part count : ℕ) → count ≤ length (units_of o part) → kept o part count ≡ regrown o part count
kept-is o part count h =
    let z : count - length (units_of o part) ≡ 0 = omega arith in
    ap (with_units o part) (sym (ap (λ n. take count (units_of o part) ++ take n (free_units o)) z ∙ append-nil (take count (units_of o part))))

pub handed-is : (o : Owning) (part count : ℕ) → length (units_of o part) ≤ count → handed o part (take (count - length (units_of o part)) (free_units o)) ≡ regrown o part count
handed-is o part count h = ap (λ l. with_units o part (l ++ take (count - length (units_of o part)) (free_units o))) (sym (take_all count (units_of o part) h))

-- the part of a place is among the parts
pub any-at : (parts : List ℕ) (i part : ℕ) → slice_get parts i ≡ Some part → list_any (λ p. p == part) parts ≡ true
any-at [] i part h = let w = slice_get_within [] i part h in absurd (omega arith)
any-at (p ∷ parts) zero part h = let e : p ≡ part = cc in or-left (p == part) _ (grind (arith, nat_tests))
any-at (p ∷ parts) (suc i) part h = or-right (p == part) _ (any-at parts i part h)

-- What is so of the units by names where one part has another list.
pub record IsOneChanged (o now : Owning) (parts : List ℕ) (logical : List Logical) (name list : List ℕ) : Type 0 where
  pub own : by_name now parts logical name ≡ list
  pub others : (other : List ℕ) → other ≢ name → by_name now parts logical other ≡ by_name o parts logical other

pub one-changed : (o now : Owning) (parts : List ℕ) (logical : List Logical) (name list : List ℕ) (part : ℕ) → length parts ≡ length logical → AreOnce parts →
    slice_get parts (position_or_len (at-name name) logical) ≡ Some part → part < length o.parts → now ≡ with_units o part list → IsOneChanged o now parts logical name list
one-changed o now parts logical name list part many once at inside e =
    let own : by_name now parts logical name ≡ list = ap (λ q. by_name q parts logical name) e ∙ named-own o parts logical name list part many inside at in
    record {
      own = own;
      others = λ other ne. ap (λ q. by_name q parts logical other) e ∙ named-other o parts logical name other list part many once ne at;
    }

-- units that partitions have are there
pub below-of : (o : Owning) (parts : List ℕ) (logical : List Logical) (name : List ℕ) (n : ℕ) → length parts ≡ length logical → OneOwner o → o.units ≡ n → list_all (λ u. nat_lt u n) (by_name o parts logical name) ≡ true
below-of o parts logical name n many one e =
    all-below n (by_name o parts logical name) (λ u h. let t = times-of u o parts logical name many in let w = one.within u (omega arith) in omega arith)

yes-no : (b : Bool) → b ≡ true → b ≡ false → ⊥
yes-no b h k = cc

-- a part that isn't one of the partitions' has no units still
pub empty-one : (o now : Owning) (parts : List ℕ) (i part : ℕ) (list : List ℕ) → slice_get parts i ≡ Some part → now ≡ with_units o part list →
    ((k : ℕ) → IsFalse (list_any (λ p. p == k) parts) → units_of o k ≡ []) → (k : ℕ) → IsFalse (list_any (λ p. p == k) parts) → units_of now k ≡ []
empty-one o now parts i part list at e empty k h =
    let ne : k ≢ part = λ q. yes-no (list_any (λ p. p == k) parts) (ap (λ j. list_any (λ p. p == j) parts) q ∙ any-at parts i part at) h in
    ap (λ q. units_of q k) e ∙ (get_or-set_other o.parts part k list [] ne ∙ empty k h)
