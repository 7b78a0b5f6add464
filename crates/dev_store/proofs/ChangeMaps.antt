-- The map of units as a whole: what its parts have together, and which units are free.
use Rattle.std.proofs.Common.{◌≡◌, ◌≢◌, ◌∙◌, refl, ap, sym, ℕ, suc, ◌<◌, ◌≤◌, Bool, true, false, cond, List, [], ◌∷◌, map, length, get_or, set, sum_by, filter, arith, Some, inl, inr}
use Rattle.std.specs.Prelude.{◌⊎◌, not, ◌||◌, ◌==◌, nat_le, nat_lt, slice_get}
use Rattle.std.specs.List.{list_any, range_with_len}
use Rattle.std.proofs.lemmas.List.{get_or-set_same, get_or-set_other, get_or_past}
use Rattle.std.proofs.lemmas.List.Sums.{sum_by-cons, sum_by-set}
use Rattle.std.proofs.lemmas.Bool.Decides.{nat_tests, leb_tells}
use Rattle.unit_alloc.specs.Owning.{Owning, times, times_in, free_units, units_of}
use Rattle.unit_alloc.proofs.TimesLemmas.{times_in-nil}
use Rattle.dev_store.proofs.ChangeUnits.{AreOnce}

-- a measure of lists, over all of them that have none
sum-none : (g : List ℕ → ℕ) → g [] ≡ 0 → (ls : List (List ℕ)) → ((k : ℕ) → get_or ls k [] ≡ []) → sum_by g ls ≡ 0
sum-none g z [] h = refl
sum-none g z (l ∷ ls) h =
    let one : g l ≡ 0 = ap g (h 0) ∙ z in
    let more = sum-none g z ls (λ k. h (suc k)) in
    let c = sum_by-cons g l ls in
    omega arith

-- the parts after the first are others
pub once-rest : (part : ℕ) (parts : List ℕ) → AreOnce (part ∷ parts) → AreOnce parts
once-rest part parts h i j k e f = let s = h (suc i) (suc j) k e f in omega arith

pub once-other : (part : ℕ) (parts : List ℕ) → AreOnce (part ∷ parts) → (j k : ℕ) → slice_get parts j ≡ Some k → k ≢ part
once-other part parts h j k e f = let s = h 0 (suc j) part refl (e ∙ ap Some f) in omega arith

map-other : (ls : List (List ℕ)) (part : ℕ) (parts : List ℕ) → ((j k : ℕ) → slice_get parts j ≡ Some k → k ≢ part) → map (λ k. get_or (set ls part []) k []) parts ≡ map (λ k. get_or ls k []) parts
map-other ls part [] h = refl
map-other ls part (k ∷ parts) h =
    let one = get_or-set_other ls part k [] [] (h 0 k refl) in
    let more = map-other ls part parts (λ j m e. h (suc j) m e) in
    λ i. one i ∷ more i

-- a measure of lists, over all of them where only those of these parts aren't empty
pub sum-parts : (g : List ℕ → ℕ) → g [] ≡ 0 → (parts : List ℕ) (ls : List (List ℕ)) → AreOnce parts → ((k : ℕ) → list_any (λ p. p == k) parts ≡ false → get_or ls k [] ≡ []) →
    sum_by g ls ≡ sum_by g (map (λ k. get_or ls k []) parts)
sum-parts g z [] ls once empty = sum-none g z ls (λ k. empty k refl)
sum-parts g z (part ∷ parts) ls once empty = by (leb_tells (length ls) part) (λ ls e. sum-parts g z parts ls (once-rest part parts once) e)
  where
    is-self : (k : ℕ) → (part == k) ≡ true → part ≡ k
    is-self k e = grind (arith, nat_tests)

    by : ((nat_le (length ls) part ≡ true) × (length ls ≤ part)) ⊎ ((nat_le (length ls) part ≡ false) × (part < length ls)) →
        ((ls : List (List ℕ)) → ((k : ℕ) → list_any (λ p. p == k) parts ≡ false → get_or ls k [] ≡ []) → sum_by g ls ≡ sum_by g (map (λ k. get_or ls k []) parts)) →
        sum_by g ls ≡ sum_by g (map (λ k. get_or ls k []) (part ∷ parts))
    by (inl (e, past)) more =
        let none = get_or_past ls part [] past in
        let m = more ls (λ k f. here k (part == k) refl f) in
        let c = sum_by-cons g (get_or ls part []) (map (λ k. get_or ls k []) parts) in
        let n : g (get_or ls part []) ≡ 0 = ap g none ∙ z in
        omega arith
      where
        here : (k : ℕ) (b : Bool) → (part == k) ≡ b → list_any (λ p. p == k) parts ≡ false → get_or ls k [] ≡ []
        here k true q f = ap (λ j. get_or ls j []) (sym (is-self k q)) ∙ get_or_past ls part [] past
        here k false q f = empty k (ap (λ b. b || list_any (λ p. p == k) parts) q ∙ f)
    by (inr (e, inside)) more =
        let m = more (set ls part []) (λ k f. here k (part == k) refl f) in
        let s = sum_by-set g ls part [] [] inside in
        let c = sum_by-cons g (get_or ls part []) (map (λ k. get_or ls k []) parts) in
        let o = ap (sum_by g) (map-other ls part parts (once-other part parts once)) in
        omega arith
      where
        here : (k : ℕ) (b : Bool) → (part == k) ≡ b → list_any (λ p. p == k) parts ≡ false → get_or (set ls part []) k [] ≡ []
        here k true q f = ap (λ j. get_or (set ls part []) j []) (sym (is-self k q)) ∙ get_or-set_same ls part [] [] inside
        here k false q f = get_or-set_other ls part k [] [] (λ j. no k q (sym j)) ∙ empty k (ap (λ b. b || list_any (λ p. p == k) parts) q ∙ f)
          where
            no : (k : ℕ) → (part == k) ≡ false → part ≡ k → ⊥
            no k q j = absurd (grind (arith, nat_tests))

-- how often a unit stands in all parts, and how many units they have
pub times-parts : (u : ℕ) (o : Owning) (parts : List ℕ) → AreOnce parts → ((k : ℕ) → list_any (λ p. p == k) parts ≡ false → units_of o k ≡ []) → times u o.parts ≡ times u (map (units_of o) parts)
unfolding times
times-parts u o parts once empty = sum-parts (times_in u) (times_in-nil u) parts o.parts once empty

pub total-parts : (o : Owning) (parts : List ℕ) → AreOnce parts → ((k : ℕ) → list_any (λ p. p == k) parts ≡ false → units_of o k ≡ []) →
    sum_by (length {A = ℕ}) o.parts ≡ sum_by (length {A = ℕ}) (map (units_of o) parts)
total-parts o parts once empty = sum-parts (length {A = ℕ}) refl parts o.parts once empty

filter-alike : (f g : ℕ → ℕ) (xs : List ℕ) → ((u : ℕ) → f u ≡ g u) → filter (λ u. not (nat_lt 0 (f u))) xs ≡ filter (λ u. not (nat_lt 0 (g u))) xs
filter-alike f g [] h = refl
filter-alike f g (x ∷ xs) h =
    let more = filter-alike f g xs h in
    λ i. cond (not (nat_lt 0 (h x i))) (x ∷ more i) (more i)

-- the free units are those that no partition has
pub free-parts : (o : Owning) (parts : List ℕ) → AreOnce parts → ((k : ℕ) → list_any (λ p. p == k) parts ≡ false → units_of o k ≡ []) →
    free_units (record { units = o.units; parts = map (units_of o) parts }) ≡ free_units o
unfolding free_units
free-parts o parts once empty = filter-alike (λ u. times u (map (units_of o) parts)) (λ u. times u o.parts) (range_with_len 0 o.units) (λ u. sym (times-parts u o parts once empty))
