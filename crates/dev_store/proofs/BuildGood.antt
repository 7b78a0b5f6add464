-- Where the extents of the table that is written lie, and how many there are.
use Rattle.std.proofs.Common.{◌≡◌, ℕ, ◌%◌, ◌≤◌, Bool, true, List, [], ◌∷◌, ◌++◌, length, map, refl, sym, ap, subst, ◌∙◌, arith, length-append}
use Rattle.std.specs.Prelude.{◌&&◌, ◌==◌, nat_lt}
use Rattle.std.specs.List.{list_all, flat_map}
use Rattle.std.proofs.lemmas.Bool.Decides.{nat_tests}
use Rattle.std.proofs.lemmas.Grind.{flat_map-append}
use Rattle.std.proofs.lemmas.List.Folds.{list_all-append}
use Rattle.unit_alloc.specs.Owning.{times_in}
use Rattle.dev_model.specs.declared.device.Logical.{Logical}
use Rattle.dev_model.specs.declared.device.Dev.{Dev}
use Rattle.dev_model.proofs.Valid.{both, and-true}
use Rattle.super_meta.specs.declared.table.Extent.{Extent}
use Rattle.super_meta.specs.Contents.{are_laid}
use Rattle.dev_store.specs.declared.layout.SuperPart.{SuperPart}
use Rattle.dev_store.specs.LayoutLines.{unit_count}
use Rattle.dev_store.specs.Supers.{bytes_in, is_at_unit, lies_in_units, are_whole, is_placed}
use Rattle.dev_store.specs.SuperBounds.{IsBounded}
use Rattle.dev_store.specs.Runs.{Run, runs_of, beside, table_for}
use Rattle.dev_store.specs.TableChanges.{AreFitted}
use Rattle.dev_store.specs.Building.{AreGiven}
use Rattle.dev_store.proofs.ValidUnits.{few, times-once}
use Rattle.dev_store.proofs.ChangeTable.{IsSectored, sectored, run_units, runs-units, extents-bytes, extents-many}
use Rattle.dev_store.proofs.BuildUnits.{runs-few, extents_with, entries-written, fitted-sectors, fitted-total}
use Rattle.dev_store.proofs.BuildExtents.{is_run_below, runs-below, AreIn, in-append, extents-in, extents-placed, extents-lie, extents-apart, extents-whole}

-- ---- all extents

abbrev joined : List (List ℕ) → List ℕ
joined lists = flat_map (λ units. units) lists

-- the runs of all partitions
abbrev all_runs : List Logical → List (List ℕ) → List Run
all_runs logical lists = flat_map (λ (x : Logical × List ℕ). runs_of x.1) (beside logical lists)

abbrev all_extents : SuperPart → List Logical → List (List ℕ) → List Extent
all_extents s logical lists = flat_map (extents_with s) (beside logical lists)

abbrev are_below : ℕ → List ℕ → Bool
are_below n units = list_all (λ u. nat_lt u n) units

below-parts : (n : ℕ) (units : List ℕ) (lists : List (List ℕ)) → are_below n (joined (units ∷ lists)) ≡ true → (are_below n units ≡ true) × (are_below n (joined lists) ≡ true)
below-parts n units lists h = both (are_below n units) (are_below n (joined lists)) (sym (list_all-append (λ u. nat_lt u n) units (joined lists)) ∙ h)

all-in : (s : SuperPart) (n : ℕ) (logical : List Logical) (lists : List (List ℕ)) → IsSectored s → AreFitted s.unit logical lists → are_below n (joined lists) ≡ true → AreIn s (all_extents s logical lists) (all_runs logical lists)
all-in s n [] [] g h b = tt
all-in s n [] (units ∷ lists) g h b = absurd h
all-in s n (p ∷ logical) [] g h b = absurd h
all-in s n (p ∷ logical) (units ∷ lists) g h b =
    let k = below-parts n units lists b in
    in-append s (extents_with s (p, units)) (all_extents s logical lists) (runs_of units) (all_runs logical lists)
    (extents-in s n (length p.bytes) (runs_of units) g (fitted-sectors s.unit p units h.0) (runs-below n units k.0) (fitted-total s.unit p units h.0))
    (all-in s n logical lists g h.1 k.1)

all-below : (unit n : ℕ) (logical : List Logical) (lists : List (List ℕ)) → AreFitted unit logical lists → are_below n (joined lists) ≡ true → list_all (is_run_below n) (all_runs logical lists) ≡ true
all-below unit n [] [] h b = refl
all-below unit n [] (units ∷ lists) h b = absurd h
all-below unit n (p ∷ logical) [] h b = absurd h
all-below unit n (p ∷ logical) (units ∷ lists) h b =
    let k = below-parts n units lists b in
    list_all-append (is_run_below n) (runs_of units) (all_runs logical lists) ∙ and-true _ _ (runs-below n units k.0) (all-below unit n logical lists h.1 k.1)

all-join : (unit : ℕ) (logical : List Logical) (lists : List (List ℕ)) → AreFitted unit logical lists → flat_map run_units (all_runs logical lists) ≡ joined lists
all-join unit [] [] h = refl
all-join unit [] (units ∷ lists) h = absurd h
all-join unit (p ∷ logical) [] h = absurd h
all-join unit (p ∷ logical) (units ∷ lists) h =
    let own = runs-units units in
    let more = all-join unit logical lists h.1 in
    flat_map-append run_units (runs_of units) (all_runs logical lists) ∙ (λ i. own i ++ more i)

-- there are at most as many extents as units
all-few : (s : SuperPart) (logical : List Logical) (lists : List (List ℕ)) → AreFitted s.unit logical lists → length (all_extents s logical lists) ≤ length (joined lists)
all-few s [] [] h = omega arith
all-few s [] (units ∷ lists) h = absurd h
all-few s (p ∷ logical) [] h = absurd h
all-few s (p ∷ logical) (units ∷ lists) h =
    let a = length-append (extents_with s (p, units)) (all_extents s logical lists) in
    let b = length-append units (joined lists) in
    let m = extents-many s (length p.bytes) (runs_of units) in
    let f = runs-few units in
    let more = all-few s logical lists h.1 in
    omega arith

-- ---- each partition's extents

abbrev are_placed : SuperPart → List Extent → Bool
are_placed s es = are_whole s es && bytes_in es % 4096 == 0

all-placed : (s : SuperPart) (n : ℕ) (logical : List Logical) (lists : List (List ℕ)) → IsSectored s → AreFitted s.unit logical lists → are_below n (joined lists) ≡ true →
    list_all (λ b. b) (map (λ x. are_placed s (extents_with s x)) (beside logical lists)) ≡ true
all-placed s n [] [] g h b = refl
all-placed s n [] (units ∷ lists) g h b = absurd h
all-placed s n (p ∷ logical) [] g h b = absurd h
all-placed s n (p ∷ logical) (units ∷ lists) g h b =
    let k = below-parts n units lists b in
    let w = fitted-sectors s.unit p units h.0 in
    let t = fitted-total s.unit p units h.0 in
    let whole = extents-whole s n (length p.bytes) (runs_of units) g w (runs-below n units k.0) t in
    let long = ap (λ x. x % 4096) (extents-bytes s (length p.bytes) (runs_of units) g w t) ∙ h.0.whole in
    let blocks : (bytes_in (extents_with s (p, units)) % 4096 == 0) ≡ true = grind (arith, nat_tests) in
    and-true (are_placed s (extents_with s (p, units))) _ (and-true _ _ whole blocks) (all-placed s n logical lists g h.1 k.1)

all-mapped : {X : Type 0} (f : X → Bool) (xs : List X) → list_all f xs ≡ list_all (λ b. b) (map f xs)
all-mapped f [] = refl
all-mapped f (x ∷ xs) = ap (λ b. f x && b) (all-mapped f xs)

pub placed-written : (s : SuperPart) (dev : Dev) (lists : List (List ℕ)) → IsBounded s → AreGiven s dev.logical lists → list_all (is_placed s (table_for s dev lists)) (table_for s dev lists).partitions ≡ true
placed-written s dev lists b g =
    all-mapped (is_placed s (table_for s dev lists)) (table_for s dev lists).partitions
    ∙ (ap (list_all (λ b. b)) (entries-written s dev lists (λ p x. are_placed s x) (λ at x. refl))
    ∙ all-placed s (unit_count s) dev.logical lists (sectored s b) g.fitted g.there)

pub extents-good : (s : SuperPart) (dev : Dev) (lists : List (List ℕ)) → IsBounded s → AreGiven s dev.logical lists → list_all (λ e. is_at_unit s e && lies_in_units s e) (table_for s dev lists).extents ≡ true
unfolding table_for
extents-good s dev lists b g =
    let n = sectored s b in
    extents-placed s (all_extents s dev.logical lists) (all_runs dev.logical lists) n (all-below s.unit (unit_count s) dev.logical lists g.fitted g.there) (all-in s (unit_count s) dev.logical lists n g.fitted g.there)

pub laid-written : (s : SuperPart) (dev : Dev) (lists : List (List ℕ)) → IsBounded s → AreGiven s dev.logical lists → are_laid (table_for s dev lists) ≡ true
unfolding table_for are_laid
laid-written s dev lists b g =
    let n = sectored s b in
    let es = all_extents s dev.logical lists in
    let rs = all_runs dev.logical lists in
    let own = all-in s (unit_count s) dev.logical lists n g.fitted g.there in
    let join = all-join s.unit dev.logical lists g.fitted in
    and-true _ _ (extents-lie s es rs n b (all-below s.unit (unit_count s) dev.logical lists g.fitted g.there) own)
    (extents-apart s es rs own (λ x. subst (λ l. times_in x l ≤ 1) (sym join) (times-once x (joined lists) g.different)))

-- as many extents as units at most
pub extents-few : (s : SuperPart) (dev : Dev) (lists : List (List ℕ)) → AreGiven s dev.logical lists → length (table_for s dev lists).extents ≤ unit_count s
unfolding table_for
extents-few s dev lists g =
    let a = all-few s dev.logical lists g.fitted in
    let b = few (unit_count s) (joined lists) g.different g.there in
    omega arith
