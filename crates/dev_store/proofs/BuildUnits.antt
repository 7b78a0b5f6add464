-- The extents that are written for a partition, wherever its entry stands in the table.
use Rattle.std.proofs.Common.{◌≡◌, ℕ, suc, ◌+◌, ◌%◌, ◌≤◌, Bool, true, false, List, [], ◌∷◌, ◌++◌, length, take, drop, map, refl, sym, ap, ◌∙◌, arith, append_assoc, length-append}
use Rattle.std.specs.Prelude.{◌==◌, if◌then◌else◌}
use Rattle.std.specs.List.{flat_map}
use Rattle.std.specs.Int.{div_ceil}
use Rattle.std.proofs.lemmas.List.{take_at, drop_at}
use Rattle.fb_frame.specs.declared.tables.TableGroup.{TableGroup}
use Rattle.dev_model.specs.declared.device.Logical.{Logical}
use Rattle.dev_model.specs.declared.device.Dev.{Dev}
use Rattle.super_meta.specs.declared.table.Partition.{Partition}
use Rattle.super_meta.specs.declared.table.Extent.{Extent}
use Rattle.dev_store.specs.declared.layout.SuperPart.{SuperPart}
use Rattle.dev_store.specs.Supers.{extents_of}
use Rattle.dev_store.specs.Runs.{Run, run_on, runs_of, extents_for, group_place, entries_for, beside, table_for}
use Rattle.dev_store.specs.Building.{run_of}
use Rattle.dev_store.specs.TableChanges.{IsFitted, AreFitted}
use Rattle.dev_store.proofs.ChangeTable.{run_total, runs-total, extents-many}

on-few : (u : ℕ) (runs : List Run) → length (run_on u runs) ≤ suc (length runs)
on-few u [] = omega arith
on-few u (r ∷ runs) = by (r.unit == u + 1)
  where
    by : (b : Bool) → length (if b then run_of (u, r.count + 1) ∷ runs else run_of (u, 1) ∷ r ∷ runs) ≤ suc (suc (length runs))
    by true = omega arith
    by false = omega arith

-- there are at most as many runs as units
pub runs-few : (units : List ℕ) → length (runs_of units) ≤ length units
unfolding runs_of
runs-few [] = omega arith
runs-few (u ∷ units) = let f = on-few u (runs_of units) in let m = runs-few units in omega arith

-- so many extents more
pub added-count : (s : SuperPart) (bytes : ℕ) (units : List ℕ) (old new : List Extent) → new ≡ old ++ extents_for s bytes (runs_of units) → length new ≡ length old + length (runs_of units)
added-count s bytes units old new h =
    ap length h ∙ (length-append old (extents_for s bytes (runs_of units)) ∙ ap (λ n. length old + n) (extents-many s bytes (runs_of units)))

pub added-few : (s : SuperPart) (bytes : ℕ) (units : List ℕ) (old new : List Extent) → new ≡ old ++ extents_for s bytes (runs_of units) → length new ≤ length old + length units
added-few s bytes units old new h = let c = added-count s bytes units old new h in let f = runs-few units in omega arith

pub ruleset added = (added-count, added-few, runs-few)

-- the extents of a partition with these units
abbrev pub extents_with : SuperPart → Logical × List ℕ → List Extent
extents_with s x = extents_for s (length x.0.bytes) (runs_of x.1)

-- its entry, where its extents begin at this place
abbrev pub entry_at : List TableGroup → ℕ → Logical × List ℕ → Partition
entry_at groups at x = record {
  name = x.0.name;
  attributes = x.0.attributes;
  first = at;
  count = length (runs_of x.1);
  group = group_place groups x.0.group;
}

entries-from : {Y : Type 0} (s : SuperPart) (groups : List TableGroup) (g : Partition → List Extent → Y) (front : List Extent) (all : List (Logical × List ℕ)) →
    ((at : ℕ) (x : Logical × List ℕ) → g (entry_at groups at x) (extents_with s x) ≡ g (entry_at groups 0 x) (extents_with s x)) → (at : ℕ) → length front ≡ at →
    map (λ p. g p (take p.count (drop p.first (front ++ flat_map (extents_with s) all)))) (entries_for groups at all) ≡ map (λ x. g (entry_at groups 0 x) (extents_with s x)) all
entries-from s groups g front [] same at h = refl
entries-from s groups g front (x ∷ all) same at h =
    let own = extents_with s x in
    let rest = flat_map (extents_with s) all in
    let many : length own ≡ length (runs_of x.1) = extents-many s (length x.0.bytes) (runs_of x.1) in
    let here : take (length (runs_of x.1)) (drop at (front ++ (own ++ rest))) ≡ own =
    ap (take (length (runs_of x.1))) (drop_at front (own ++ rest) at h) ∙ take_at own rest (length (runs_of x.1)) many in
    let one = ap (g (entry_at groups at x)) here ∙ same at x in
    let long : length (front ++ own) ≡ at + length (runs_of x.1) = omega (arith, length-append front own) in
    let more = ap (λ l. map (λ p. g p (take p.count (drop p.first l))) (entries_for groups (at + length (runs_of x.1)) all)) (sym (append_assoc front own rest))
    ∙ entries-from s groups g (front ++ own) all same (at + length (runs_of x.1)) long in
    λ i. one i ∷ more i

-- what is the same of each entry with its extents, wherever they lie
pub entries-written : {Y : Type 0} (s : SuperPart) (dev : Dev) (lists : List (List ℕ)) (g : Partition → List Extent → Y) →
    ((at : ℕ) (x : Logical × List ℕ) → g (entry_at dev.groups at x) (extents_with s x) ≡ g (entry_at dev.groups 0 x) (extents_with s x)) →
    map (λ p. g p (extents_of (table_for s dev lists) p)) (table_for s dev lists).partitions ≡ map (λ x. g (entry_at dev.groups 0 x) (extents_with s x)) (beside dev.logical lists)
unfolding table_for
entries-written s dev lists g same = entries-from s dev.groups g [] (beside dev.logical lists) same 0 refl

-- what is the same of each partition with as many units as it needs is the same of all
pub fitted-same : {Y : Type 0} (unit : ℕ) (f g : Logical × List ℕ → Y) → ((p : Logical) (units : List ℕ) → IsFitted unit p units → f (p, units) ≡ g (p, units)) →
    (logical : List Logical) (lists : List (List ℕ)) → AreFitted unit logical lists → map f (beside logical lists) ≡ map g (beside logical lists)
fitted-same unit f g same [] lists h = refl
fitted-same unit f g same (p ∷ logical) [] h = absurd h
fitted-same unit f g same (p ∷ logical) (units ∷ lists) h =
    let one = same p units h.0 in
    let more = fitted-same unit f g same logical lists h.1 in
    λ i. one i ∷ more i

-- a length of whole blocks is whole sectors, and the runs have as many units as hold it
pub fitted-sectors : (unit : ℕ) (p : Logical) (units : List ℕ) → IsFitted unit p units → length p.bytes % 512 ≡ 0
fitted-sectors unit p units h = let w = h.whole in omega arith

pub fitted-total : (unit : ℕ) (p : Logical) (units : List ℕ) → IsFitted unit p units → div_ceil (length p.bytes) unit ≡ run_total (runs_of units)
fitted-total unit p units h = sym h.many ∙ sym (runs-total units)
