-- The map of units once each partition of a table was handed its own.
use Rattle.std.proofs.Common.{◌≡◌, ◌≢◌, ℕ, zero, suc, ◌+◌, ◌-◌, ◌<◌, ◌≤◌, Bool, true, false, not, List, [], ◌∷◌, ◌++◌, length, get_or, set, map, replicate, refl, sym, ap, ◌∙◌, arith, Some, add-one, zero-add, inl, inr, ◌⊎◌, length-set}
use Rattle.std.specs.Prelude.{◌&&◌, ◌||◌, ◌==◌, nat_le, nat_lt, slice_get, IsTrue, IsFalse}
use Rattle.std.specs.List.{list_all, list_any, flat_map, range_with_len}
use Rattle.std.proofs.lemmas.List.{get_or-set_same, get_or-set_other, length-replicate}
use Rattle.std.proofs.lemmas.List.FromFn.{length-range_with_len, get_or-range_with_len}
use Rattle.std.proofs.lemmas.Option.{slice_get_within, get_or_from_slice_get}
use Rattle.std.proofs.lemmas.Bool.{false≢true}
use Rattle.std.proofs.lemmas.Bool.Decides.{nat_tests}
use Rattle.unit_alloc.specs.Owning.{Owning, units_of, is_owned, handed, unowned}
use Rattle.unit_alloc.proofs.TimesLemmas.{times-replicate}
use Rattle.super_meta.specs.declared.table.Partition.{Partition}
use Rattle.super_meta.specs.Contents.{Content}
use Rattle.dev_store.specs.declared.layout.SuperPart.{SuperPart}
use Rattle.dev_store.specs.LayoutLines.{unit_count}
use Rattle.dev_store.specs.Supers.{are_different}
use Rattle.dev_store.specs.Supers.{units_of as units_of_table}
use Rattle.dev_store.specs.SuperBounds.{are_free, claimed, IsMapOf}
use Rattle.dev_store.proofs.ValidUnits.{range-below}

and-all : (a b : Bool) → b ≡ true → (a && b) ≡ a
and-all true b h = h
and-all false b h = refl

none-owned : (n k : ℕ) (xs : List ℕ) → list_all (λ u. not (is_owned (unowned n k) u)) xs ≡ true
none-owned n k [] = refl
none-owned n k (u ∷ xs) =
    let z = times-replicate u k in
    let free : not (is_owned (unowned n k) u) ≡ true = grind (arith, nat_tests) in
    (λ i. free i && none-owned n k xs i)

-- before any unit is handed out, units are free where none stands twice
pub free-unowned : (n k : ℕ) (xs : List ℕ) → are_free (unowned n k) xs ≡ are_different xs
unfolding are_free
free-unowned n k xs = and-all (are_different xs) _ (none-owned n k xs)

-- a part before or after those that are handed units keeps its own
claimed-other : (s : SuperPart) (c : Content) (o : Owning) (part : ℕ) (ps : List Partition) (j : ℕ) → (j < part) ⊎ (part + length ps ≤ j) → units_of (claimed s c o part ps) j ≡ units_of o j
claimed-other s c o part [] j h = refl
claimed-other s c o part (p ∷ ps) j h =
    let ne : j ≢ part = λ e. by h e in
    claimed-other s c (handed o part (units_of_table s c p)) (part + 1) ps j (more h)
    ∙ get_or-set_other o.parts part j (units_of o part ++ units_of_table s c p) [] ne
  where
    by : (j < part) ⊎ (part + suc (length ps) ≤ j) → j ≡ part → ⊥
    by (inl b) e = omega arith
    by (inr b) e = omega arith

    more : (j < part) ⊎ (part + suc (length ps) ≤ j) → (j < part + 1) ⊎ (part + 1 + length ps ≤ j)
    more (inl b) = inl (omega arith)
    more (inr b) = inr (omega arith)

-- each of those parts has its partition's units
claimed-own : (s : SuperPart) (c : Content) (o : Owning) (part : ℕ) (ps : List Partition) → part + length ps ≤ length o.parts → ((j : ℕ) → part ≤ j → units_of o j ≡ []) →
    map (units_of (claimed s c o part ps)) (range_with_len part (length ps)) ≡ map (units_of_table s c) ps
claimed-own s c o part [] h empty = refl
claimed-own s c o part (p ∷ ps) h empty =
    let q = handed o part (units_of_table s c p) in
    let here : part < length o.parts = omega arith in
    let many : length q.parts ≡ length o.parts = length-set o.parts part (units_of o part ++ units_of_table s c p) in
    let own : units_of (claimed s c q (part + 1) ps) part ≡ units_of_table s c p =
    claimed-other s c q (part + 1) ps part (inl (omega arith))
    ∙ (get_or-set_same o.parts part (units_of o part ++ units_of_table s c p) [] here
    ∙ ap (λ l. l ++ units_of_table s c p) (empty part (omega arith))) in
    let rest = claimed-own s c q (part + 1) ps (omega (arith, many, h)) (λ j k.
    let ne : j ≢ part = λ e. omega arith in
    let below : part ≤ j = omega arith in
    get_or-set_other o.parts part j (units_of o part ++ units_of_table s c p) [] ne ∙ empty j below) in
    (λ i. own i ∷ rest i)

claimed-units : (s : SuperPart) (c : Content) (o : Owning) (part : ℕ) (ps : List Partition) → (claimed s c o part ps).units ≡ o.units
claimed-units s c o part [] = refl
claimed-units s c o part (p ∷ ps) = claimed-units s c (handed o part (units_of_table s c p)) (part + 1) ps

claimed-many : (s : SuperPart) (c : Content) (o : Owning) (part : ℕ) (ps : List Partition) → length (claimed s c o part ps).parts ≡ length o.parts
claimed-many s c o part [] = refl
claimed-many s c o part (p ∷ ps) =
    claimed-many s c (handed o part (units_of_table s c p)) (part + 1) ps ∙ length-set o.parts part (units_of o part ++ units_of_table s c p)

-- the number of a part is among the first ones
any-range : (a n part : ℕ) → a ≤ part → part < a + n → list_any (λ p. p == part) (range_with_len a n) ≡ true
any-range a zero part low high = absurd (omega arith)
any-range a (suc n) part low high = by (a == part) refl (λ ne. any-range (a + 1) n part (omega arith) (omega arith))
  where
    by : (b : Bool) → (a == part) ≡ b → (a ≢ part → list_any (λ p. p == part) (range_with_len (a + 1) n) ≡ true) → ((a == part) || list_any (λ p. p == part) (range_with_len (a + 1) n)) ≡ true
    by true e more = ap (λ b. b || list_any (λ p. p == part) (range_with_len (a + 1) n)) e
    by false e more =
        let ne : a ≢ part = λ k. absurd (grind (arith, nat_tests)) in
        ap (λ b. b || list_any (λ p. p == part) (range_with_len (a + 1) n)) e ∙ more ne

range-at : (n i part : ℕ) → slice_get (range_with_len 0 n) i ≡ Some part → part ≡ i
range-at n i part h =
    let l = length-range_with_len 0 n in
    let w = slice_get_within (range_with_len 0 n) i part h in
    let inside : i < n = omega arith in
    sym (get_or_from_slice_get (range_with_len 0 n) i part 0 h) ∙ (get_or-range_with_len 0 n i 0 inside ∙ omega arith)

none-at : (k j : ℕ) → get_or (replicate {A = List ℕ} k []) j [] ≡ []
none-at zero j = refl
none-at (suc k) zero = refl
none-at (suc k) (suc j) = none-at k j

beyond : (n part : ℕ) → list_any (λ p. p == part) (range_with_len 0 n) ≡ false → 0 + n ≤ part
beyond n part h = by (nat_le n part) refl
  where
    by : (b : Bool) → nat_le n part ≡ b → 0 + n ≤ part
    by true e = grind (arith, nat_tests)
    by false e = let k : part < 0 + n = grind (arith, nat_tests) in absurd (false≢true (sym h ∙ any-range 0 n part (omega arith) k))

-- the map of a table
pub mapped : (s : SuperPart) (c : Content) (units : ℕ) (owning : Owning) (parts : List ℕ) → units ≡ unit_count s → length c.partitions ≤ 128 → parts ≡ range_with_len 0 (length c.partitions) →
    owning ≡ claimed s c (unowned units 128) 0 c.partitions → IsMapOf s c owning parts
mapped s c units owning parts u few e n =
    let o = unowned units 128 in
    let ps = c.partitions in
    record {
      units = ap (λ r. r.units) n ∙ (claimed-units s c o 0 ps ∙ u);
      many = ap (λ r. length r.parts) n ∙ (claimed-many s c o 0 ps ∙ length-replicate {A = List ℕ} 128 []);
      there = ap (list_all (λ part. nat_lt part 128)) e ∙ range-below 0 (length ps) 128 (omega arith);
      lists = (λ i. map (units_of (n i)) (e i)) ∙ claimed-own s c o 0 ps (omega arith) (λ j h. none-at 128 j);
      apart = λ i j part h k. sym (range-at (length ps) i part (ap (λ l. slice_get l i) (sym e) ∙ h)) ∙ range-at (length ps) j part (ap (λ l. slice_get l j) (sym e) ∙ k);
      empty = λ part h.
          ap (λ r. units_of r part) n ∙ (claimed-other s c o 0 ps part (inr (beyond (length ps) part (ap (list_any (λ p. p == part)) (sym e) ∙ h))) ∙ none-at 128 part);
    }

range-longer : (a n : ℕ) → range_with_len a (suc n) ≡ range_with_len a n ++ (a + n) ∷ []
range-longer a zero = ap (λ k. k ∷ []) (omega arith)
range-longer a (suc n) =
    let e : a + 1 + n ≡ a + suc n = omega arith in
    ap (λ l. a ∷ l) (range-longer (a + 1) n ∙ ap (λ k. range_with_len (a + 1) n ++ k ∷ []) e)

-- one number more
pub range-more : (n : ℕ) → range_with_len 0 (n + 1) ≡ range_with_len 0 n ++ n ∷ []
range-more n = ap (range_with_len 0) (add-one n) ∙ (range-longer 0 n ∙ ap (λ k. range_with_len 0 n ++ k ∷ []) (zero-add n))
