-- The next table has the partition in whose units zeros are filled.
use Rattle.std.proofs.Common.{◌≡◌, ◌∙◌, refl, ap, sym, subst, ℕ, ◌+◌, ◌<◌, ◌≤◌, Bool, true, false, List, [], ◌∷◌, ◌++◌, map, find, length, Some, codes, take}
use Rattle.std.specs.Prelude.{not, ◌||◌, ◌==◌, slice_get, bytes_eq, if◌then◌else◌}
use Rattle.std.specs.List.{list_any, position_or_len, AllByRecursion}
use Rattle.std.proofs.lemmas.List.{length-replicate}
use Rattle.std.proofs.lemmas.Slice.Eq.{bytes_eq-Decides}
use Rattle.dev_model.specs.declared.device.Logical.{Logical}
use Rattle.dev_model.specs.declared.step.Step.TheVariants.{Resize}
use Rattle.dev_model.specs.Images.{round_up}
use Rattle.dev_model.specs.Partitions.{logical_changed}
use Rattle.dev_model.specs.Sizes.{units_for}
use Rattle.dev_model.specs.Steps.{apply, created, cut_or_padded}
use Rattle.dev_model.specs.Tables.{is_group}
use Rattle.dev_model.proofs.Names.{among}
use Rattle.dev_model.proofs.Valid.{map-same, or-right}
use Rattle.dev_model.proofs.ValidSizes.{length-cut}
use Rattle.unit_alloc.specs.Owning.{Owning, OneOwner, free_units, handed}
use Rattle.unit_alloc.specs.Owning.{units_of as units_owned}
use Rattle.super_meta.specs.declared.table.Partition.{Partition}
use Rattle.super_meta.specs.Contents.{Content}
use Rattle.dev_store.specs.declared.layout.SuperPart.{SuperPart}
use Rattle.dev_store.specs.declared.state.State.{State}
use Rattle.dev_store.specs.declared.part_place.Units.{Units}
use Rattle.dev_store.specs.Layouts.{LayoutValue}
use Rattle.dev_store.specs.Runs.{table_for}
use Rattle.dev_store.specs.Supers.{extents_of, bytes_in, units_of}
use Rattle.dev_store.specs.Held.{units_by}
use Rattle.dev_store.specs.PartPlaces.{AreUnitsOf}
use Rattle.dev_store.specs.Growing.{AreUnitsAt}
use Rattle.dev_store.proofs.ChangeNamed.{by_name, at-name, by-place, by-names, not-or}
use Rattle.dev_store.proofs.ChangeStore.{device_in, store-device, store-many}
use Rattle.dev_store.proofs.ChangeResize.{resize-table}
use Rattle.dev_store.proofs.ChangeCreate.{new_logical, create-table, create-lists, create-units}
use Rattle.dev_store.specs.TableChanges.{AreEntriesOf, IsStoreSuper, regrown}

-- the entry of a name, and the partition whose it is
record IsNamedEntry (s : SuperPart) (c : Content) (g : List ℕ → List ℕ) (name : List ℕ) (es : List Partition) (size : ℕ) : Type 0 where
  entry : Partition
  found : find (λ p. bytes_eq p.name name) es ≡ Some entry
  units : units_of s c entry ≡ g name
  long : bytes_in (extents_of c entry) ≡ size

entry-named : (s : SuperPart) (c : Content) (g : List ℕ → List ℕ) (name : List ℕ) (size : ℕ) (es : List Partition) (ps : List Logical) → AreEntriesOf s c es ps (map (λ p. g p.name) ps) →
    AllByRecursion (λ p. p.name ≡ name → length p.bytes ≡ size) ps → list_any (at-name name) ps ≡ true → IsNamedEntry s c g name es size
entry-named s c g name size [] [] h long there = absurd cc
entry-named s c g name size [] (p ∷ ps) h long there = absurd h
entry-named s c g name size (e ∷ es) [] h long there = absurd h
entry-named s c g name size (e ∷ es) (p ∷ ps) h long there = by (bytes_eq p.name name) refl there (entry-named s c g name size es ps h.1 long.1)
  where
    by : (b : Bool) → bytes_eq p.name name ≡ b → (b || list_any (at-name name) ps) ≡ true → (list_any (at-name name) ps ≡ true → IsNamedEntry s c g name es size) → IsNamedEntry s c g name (e ∷ es) size
    by true x t more =
        let is = (bytes_eq-Decides p.name name).0 x in
        let same : bytes_eq e.name name ≡ true = ap (λ n. bytes_eq n name) h.0.name ∙ x in
        record {
          entry = e;
          found = ap (λ b. if b then Some e else find (λ p. bytes_eq p.name name) es) same;
          units = h.0.units ∙ ap g is;
          long = h.0.long ∙ long.0 is;
        }
    by false x t more =
        let r = more t in
        let same : bytes_eq e.name name ≡ false = ap (λ n. bytes_eq n name) h.0.name ∙ x in
        record { entry = r.entry; found = ap (λ b. if b then Some e else find (λ p. bytes_eq p.name name) es) same ∙ r.found; units = r.units; long = r.long }

-- the partition of the name has the new length
long-resized : (name : List ℕ) (size : ℕ) (ps : List Logical) → AllByRecursion (λ p. p.name ≡ name → length p.bytes ≡ size) (map (logical_changed name (cut_or_padded size)) ps)
long-resized name size [] = tt
long-resized name size (p ∷ ps) =
    ((λ e. ap (λ b. length ((if b then cut_or_padded size else λ bytes. bytes) p.bytes)) ((bytes_eq-Decides p.name name).1 e) ∙ length-cut size p.bytes), long-resized name size ps)

any-resized : (name : List ℕ) (change : List ℕ → List ℕ) (ps : List Logical) → list_any (at-name name) (map (logical_changed name change) ps) ≡ list_any (at-name name) ps
any-resized name change [] = refl
any-resized name change (p ∷ ps) = ap (λ b. bytes_eq p.name name || b) (any-resized name change ps)

long-created : (name : List ℕ) (size : ℕ) (ps : List Logical) → not (among name (map (λ p. p.name) ps)) ≡ true → AllByRecursion (λ p. p.name ≡ name → length p.bytes ≡ round_up size) (ps ++ new_logical name size ∷ [])
long-created name size [] n = ((λ e. length-replicate (round_up size) 0), tt)
long-created name size (p ∷ ps) n =
    let z = not-or (bytes_eq p.name name) (among name (map (λ q. q.name) ps)) n in
    ((λ e. absurd (never (bytes_eq p.name name) ((bytes_eq-Decides p.name name).1 e) z.0)), long-created name size ps z.1)
  where
    never : (b : Bool) → b ≡ true → b ≡ false → ⊥
    never b h k = cc

any-created : (name : List ℕ) (size : ℕ) (ps : List Logical) → list_any (at-name name) (ps ++ new_logical name size ∷ []) ≡ true
any-created name size [] = ap (λ b. b || false) ((bytes_eq-Decides name name).1 refl)
any-created name size (p ∷ ps) = or-right (bytes_eq p.name name) _ (any-created name size ps)

units-named : (begin : ℕ) (s : SuperPart) (c : Content) (g : List ℕ → List ℕ) (name : List ℕ) (now : Owning) (part bytes : ℕ) (u : Units) → IsNamedEntry s c g name c.partitions bytes → g name ≡ units_owned now part →
    AreUnitsAt begin s now part bytes u → AreUnitsOf begin s c name u
units-named begin s c g name now part bytes u h own at = record {
  entry = h.entry;
  found = h.found;
  units = at.units ∙ (sym own ∙ sym h.units);
  start = at.start;
  unit = at.unit;
  size = at.size ∙ sym h.long;
}

-- the partition of another length, in the table that is to be written
pub resize-part : (layout : LayoutValue) (s : SuperPart) (state : State) (c : Content) (o now : Owning) (parts file name : List ℕ) (part size : ℕ) → (h : IsStoreSuper layout s state c o parts file) →
    slice_get parts (position_or_len (at-name name) (device_in layout state c file).logical) ≡ Some part → now ≡ regrown o part (units_for s.unit (round_up size)) → OneOwner now →
    units_for s.unit (round_up size) ≤ length (units_owned o part) + length (free_units o) → list_any (at-name name) (device_in layout state c file).logical ≡ true → (begin : ℕ) (u : Units) →
    AreUnitsAt begin s now part (round_up size) u → AreUnitsOf begin s (table_for s (apply (Resize name size) (device_in layout state c file)) (map (units_owned now) parts)) name u
resize-part layout s state c o now parts file name part size h at e one room there begin u is =
    let dev = device_in layout state c file in
    let d = store-device layout s state c o parts file h in
    let many = store-many layout s state c o parts file h in
    let g = by_name now parts dev.logical in
    let next = apply (Resize name size) dev in
    let table = table_for s next (map (units_owned now) parts) in
    let lists : map (units_owned now) parts ≡ map (λ p. g p.name) next.logical =
    sym (map-same (logical_changed name (cut_or_padded (round_up size))) (λ p. g p.name) (λ p. refl) dev.logical ∙ by-names now parts dev.logical many d.units.names) in
    let entries = subst (AreEntriesOf s table table.partitions next.logical) lists (resize-table layout s state c o now parts file name part size h at e one room).entries in
    units-named begin s table g name now part (round_up size) u
    (entry-named s table g name (round_up size) table.partitions next.logical entries (long-resized name (round_up size) dev.logical) (any-resized name (cut_or_padded (round_up size)) dev.logical ∙ there))
    (by-place now parts dev.logical name many ∙ ap (units_by (Some now)) at) is

-- the new partition, in the table that is to be written
pub create-part : (layout : LayoutValue) (s : SuperPart) (state : State) (c : Content) (o now : Owning) (parts file name : List ℕ) (part count size : ℕ) → (h : IsStoreSuper layout s state c o parts file) →
    (free : list_any (λ p. p == part) parts ≡ false) (inside : part < 128) (e : now ≡ handed o part (take count (free_units o)))
    (fresh : not (among name (map (λ p. p.name) (device_in layout state c file).logical)) ≡ true) → count ≡ units_for s.unit (round_up size) → count ≤ length (free_units o) →
    is_group (device_in layout state c file).groups (codes "default") ≡ true → (begin : ℕ) (u : Units) → AreUnitsAt begin s now part (round_up size) u →
    AreUnitsOf begin s (table_for s (created name size (device_in layout state c file)) (map (units_owned now) (parts ++ part ∷ []))) name u
create-part layout s state c o now parts file name part count size h free inside e fresh needs room group begin u is =
    let dev = device_in layout state c file in
    let next = created name size dev in
    let rest = parts ++ part ∷ [] in
    let g = by_name now rest next.logical in
    let table = table_for s next (map (units_owned now) rest) in
    let lists = create-lists layout s state c o now parts file name part count size h free inside e fresh in
    let entries = subst (AreEntriesOf s table table.partitions next.logical) (sym lists) (create-table layout s state c o now parts file name part count size h free inside e fresh needs room group).entries in
    units-named begin s table g name now part (round_up size) u
    (entry-named s table g name (round_up size) table.partitions next.logical entries (long-created name size dev.logical fresh) (any-created name size dev.logical))
    (create-units layout s state c o now parts file name part count size h free inside e fresh) is
