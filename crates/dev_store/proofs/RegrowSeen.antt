-- The next table of a device is that of the device as far as it is told.
use Rattle.std.proofs.Common.{◌≡◌, ◌∙◌, refl, ap, sym, ℕ, ◌+◌, List, [], ◌∷◌, ◌++◌, map, length, Option, Some, None}
use Rattle.std.specs.List.{flat_map}
use Rattle.fb_frame.specs.Bytes.{zeros}
use Rattle.fb_frame.specs.Told.{Both}
use Rattle.fb_frame.specs.declared.tables.TableGroup.{TableGroup}
use Rattle.unit_alloc.specs.Owning.{units_of}
use Rattle.dev_model.specs.declared.device.Dev.{Dev}
use Rattle.dev_model.specs.declared.device.Physical.{Physical}
use Rattle.dev_model.specs.declared.device.Logical.{Logical}
use Rattle.dev_model.specs.Validity.{IsValid}
use Rattle.dev_store.specs.declared.layout.SuperPart.{SuperPart}
use Rattle.dev_store.specs.declared.super_read.SuperRead.{SuperRead}
use Rattle.dev_store.specs.Layouts.{LayoutValue}
use Rattle.dev_store.specs.Runs.{runs_of, extents_for, entries_for, group_place, beside, table_for}
use Rattle.dev_store.specs.Building.{IsOnSuper}
use Rattle.dev_store.specs.Held.{seen, zeroed, zeroed_physical, zeroed_logical}
use Rattle.dev_store.specs.TableCalls.{IsNextOf}
use Rattle.dev_store.proofs.ToldLemmas.{zeros-long}
use Rattle.dev_store.proofs.BuildUnits.{extents_with}
use Rattle.dev_store.proofs.ChangeClauses.{seen-fitted}

-- ---- zeros in the place of bytes

physical-again : (ps : List Physical) → map zeroed_physical (map zeroed_physical ps) ≡ map zeroed_physical ps
physical-again [] = refl
physical-again (p ∷ ps) =
    let n = zeros-long (length p.bytes) in
    let more = physical-again ps in
    λ i. record p { bytes = zeros (n i) } ∷ more i

logical-again : (ps : List Logical) → map zeroed_logical (map zeroed_logical ps) ≡ map zeroed_logical ps
logical-again [] = refl
logical-again (p ∷ ps) =
    let n = zeros-long (length p.bytes) in
    let more = logical-again ps in
    λ i. record p { bytes = zeros (n i) } ∷ more i

zeroed-again : (dev : Dev) → zeroed (zeroed dev) ≡ zeroed dev
zeroed-again dev =
    let a = physical-again dev.physical in
    let b = logical-again dev.logical in
    λ i. record dev { physical = a i; logical = b i }

-- what is told of a device twice is told once
pub seen-again : (R : List ℕ → List ℕ → Type 0) (a b : Option (List ℕ)) (dev : Dev) → Both R a b → seen b (seen a dev) ≡ seen b dev
unfolding seen
seen-again R None None dev h = zeroed-again dev
seen-again R None (Some b) dev h = absurd h
seen-again R (Some a) None dev h = absurd h
seen-again R (Some a) (Some b) dev h = refl

-- ---- the table that is written

entries-zeroed : (groups : List TableGroup) (at : ℕ) (ps : List Logical) (lists : List (List ℕ)) → entries_for groups at (beside (map zeroed_logical ps) lists) ≡ entries_for groups at (beside ps lists)
entries-zeroed groups at [] lists = refl
entries-zeroed groups at (p ∷ ps) [] =
    let more = entries-zeroed groups (at + length (runs_of [])) ps [] in
    λ i. record { name = p.name; attributes = p.attributes; first = at; count = length (runs_of []); group = group_place groups p.group } ∷ more i
entries-zeroed groups at (p ∷ ps) (units ∷ lists) =
    let more = entries-zeroed groups (at + length (runs_of units)) ps lists in
    λ i. record { name = p.name; attributes = p.attributes; first = at; count = length (runs_of units); group = group_place groups p.group } ∷ more i

extents-zeroed : (s : SuperPart) (ps : List Logical) (lists : List (List ℕ)) → flat_map (extents_with s) (beside (map zeroed_logical ps) lists) ≡ flat_map (extents_with s) (beside ps lists)
extents-zeroed s [] lists = refl
extents-zeroed s (p ∷ ps) [] =
    let n = zeros-long (length p.bytes) in
    let more = extents-zeroed s ps [] in
    λ i. extents_for s (n i) (runs_of []) ++ more i
extents-zeroed s (p ∷ ps) (units ∷ lists) =
    let n = zeros-long (length p.bytes) in
    let more = extents-zeroed s ps lists in
    λ i. extents_for s (n i) (runs_of units) ++ more i

table-seen : (s : SuperPart) (image : Option (List ℕ)) (dev : Dev) (lists : List (List ℕ)) → table_for s (seen image dev) lists ≡ table_for s dev lists
unfolding seen table_for
table-seen s None dev lists =
    let a = entries-zeroed dev.groups 0 dev.logical lists in
    let b = extents-zeroed s dev.logical lists in
    λ i. record (table_for s dev lists) { partitions = a i; extents = b i }
table-seen s (Some file) dev lists = refl

physical-names : (ps : List Physical) → map (λ p. p.name) (map zeroed_physical ps) ≡ map (λ p. p.name) ps
physical-names [] = refl
physical-names (p ∷ ps) = ap (λ l. p.name ∷ l) (physical-names ps)

super-seen : (layout : LayoutValue) (s : SuperPart) (image : Option (List ℕ)) (dev : Dev) → IsOnSuper layout.physical s dev → IsValid (seen image dev) → IsOnSuper layout.physical s (seen image dev)
unfolding seen
super-seen layout s None dev o v = record { valid = v; named = o.named; physical = physical-names dev.physical ∙ o.physical; unit = o.unit; units = o.units }
super-seen layout s (Some file) dev o v = o

-- the next table of a device is that of what is told of it
pub next-seen : (layout : LayoutValue) (s : SuperPart) (image : Option (List ℕ)) (dev : Dev) (x : SuperRead) → IsNextOf layout s dev x → IsValid (seen image dev) → IsNextOf layout s (seen image dev) x
next-seen layout s image dev x n v =
    let lists = map (units_of x.owners) x.parts.items in
    record {
      table = n.table ∙ sym (table-seen s image dev lists);
      given = record { fitted = seen-fitted s.unit image dev lists n.given.fitted; different = n.given.different; there = n.given.there };
      super = super-seen layout s image dev n.super v;
      mapped = n.mapped;
    }
