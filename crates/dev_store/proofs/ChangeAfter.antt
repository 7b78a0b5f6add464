-- The device of a table that was written for it, and of the old table while new bytes are filled with zeros.
use Rattle.std.proofs.Common.{◌≡◌, ◌∙◌, refl, ap, sym, subst, ℕ, ◌<◌, true, List, [], ◌∷◌, map, length, arith, Some}
use Rattle.std.specs.Prelude.{◌&&◌}
use Rattle.std.specs.List.{list_all, AllByRecursion}
use Rattle.fb_frame.specs.declared.tables.TableGroup.{TableGroup}
use Rattle.dev_model.specs.declared.device.Dev.{Dev}
use Rattle.dev_model.specs.declared.device.Logical.{Logical}
use Rattle.dev_model.specs.Tables.{is_group}
use Rattle.unit_alloc.specs.Owning.{Owning}
use Rattle.super_meta.specs.declared.table.Partition.{Partition}
use Rattle.super_meta.specs.Contents.{Content}
use Rattle.super_meta.specs.Held.{limited}
use Rattle.dev_store.specs.declared.layout.SuperPart.{SuperPart}
use Rattle.dev_store.specs.declared.state.State.{State}
use Rattle.dev_store.specs.Layouts.{LayoutValue}
use Rattle.dev_store.specs.Runs.{as_group, table_for}
use Rattle.dev_store.specs.Supers.{units_of, is_at_unit, lies_in_units, logical_at}
use Rattle.dev_store.specs.SuperBounds.{IsBounded}
use Rattle.dev_store.specs.Stand.{super_bytes, physical_at, device_with}
use Rattle.dev_store.proofs.ValidSuper.{logical-long}
use Rattle.dev_store.proofs.ChangeHeld.{IsDeviceOf, IsHeadOf, value_in, held-as}
use Rattle.dev_store.proofs.ChangeTable.{sectored, entries-read}
use Rattle.dev_store.proofs.ChangeNamed.{by_name, each-lie, each-fit}
use Rattle.dev_store.proofs.ChangeStore.{HasUnits, device_in, held-is, held-logical, store-device, store-units, store-lists}
use Rattle.dev_store.specs.TableChanges.{IsFitted, AreEntriesOf, AreFitted, LiesIn, IsStoreSuper}

groups-again : (groups : List TableGroup) → map limited (map as_group groups) ≡ groups
groups-again [] = refl
groups-again (g ∷ groups) = ap (λ rest. g ∷ rest) (groups-again groups)

-- a table that is written for a device says so of it
pub written-head : (s : SuperPart) (dev : Dev) (lists : List (List ℕ)) → IsHeadOf (table_for s dev lists) dev
unfolding table_for
written-head s dev lists = record { minor = refl; flags = refl; groups = groups-again dev.groups }

-- the device of the table that is written for it, over a file that has its bytes
pub device-after : (layout : LayoutValue) (s : SuperPart) (state : State) (file : List ℕ) (f : List ℕ → List ℕ) (dev : Dev) (lists : List (List ℕ)) → layout.super_part ≡ Some s → IsBounded s →
    IsDeviceOf layout state file dev → HasUnits layout s file f dev → map (λ p. f p.name) dev.logical ≡ lists → device_in layout state (table_for s dev lists) file ≡ dev
device-after layout s state file f dev lists part b of h e =
    subst (λ ls. device_in layout state (table_for s dev ls) file ≡ dev) e
    (held-as layout s state (table_for s dev (map (λ p. f p.name) dev.logical)) file dev (map (λ p. f p.name) dev.logical) part of (written-head s dev (map (λ p. f p.name) dev.logical))
    (entries-read s dev (map (λ p. f p.name) dev.logical) (sectored s b) (each-fit s.unit f dev.logical h.fits) h.groups)
    (each-lie s (super_bytes layout s file) f dev.logical h.lies))

-- the units of entries, in their order
pub entries-units : (s : SuperPart) (c : Content) (entries : List Partition) (logical : List Logical) (lists : List (List ℕ)) → AreEntriesOf s c entries logical lists → map (units_of s c) entries ≡ lists
entries-units s c [] [] [] h = refl
entries-units s c (e ∷ entries) (p ∷ logical) (units ∷ lists) h =
    let more = entries-units s c entries logical lists h.1 in
    let one = h.0.units in
    λ i. one i ∷ more i
entries-units s c [] [] (units ∷ lists) h = absurd h
entries-units s c [] (p ∷ logical) lists h = absurd h
entries-units s c (e ∷ entries) [] lists h = absurd h
entries-units s c (e ∷ entries) (p ∷ logical) [] h = absurd h

-- What a table that is written for a device says, over any bytes: each partition has as many units as it needs, and
-- the entry of its own.
pub record IsTableOf (s : SuperPart) (dev : Dev) (lists : List (List ℕ)) : Type 0 where
  pub fitted : AreFitted s.unit dev.logical lists
  pub entries : AreEntriesOf s (table_for s dev lists) (table_for s dev lists).partitions dev.logical lists
  pub units : lists ≡ map (units_of s (table_for s dev lists)) (table_for s dev lists).partitions

pub table-of-lists : (s : SuperPart) (f : List ℕ → List ℕ) (dev : Dev) (lists : List (List ℕ)) → IsBounded s → AllByRecursion (λ p. IsFitted s.unit p (f p.name)) dev.logical →
    list_all (λ p. is_group dev.groups p.group) dev.logical ≡ true → map (λ p. f p.name) dev.logical ≡ lists → IsTableOf s dev lists
table-of-lists s f dev lists b fits groups e =
    let fitted = subst (AreFitted s.unit dev.logical) e (each-fit s.unit f dev.logical fits) in
    let entries = entries-read s dev lists (sectored s b) fitted groups in
    record { fitted = fitted; entries = entries; units = sym (entries-units s (table_for s dev lists) (table_for s dev lists).partitions dev.logical lists entries) }

-- the entries of a table are those of the partitions that it gives
entries-self : (s : SuperPart) (c : Content) (super : List ℕ) (es : List Partition) → length super ≡ s.size → 0 < s.unit → list_all (λ e. is_at_unit s e && lies_in_units s e) c.extents ≡ true →
    AreEntriesOf s c es (map (logical_at s c super) es) (map (units_of s c) es)
entries-self s c super [] long pos placed = tt
entries-self s c super (e ∷ es) long pos placed =
    (record { name = refl; attributes = refl; group = refl; long = sym (logical-long s c super e long pos placed); units = refl }, entries-self s c super es long pos placed)

-- and so they are in a store
pub store-entries : (layout : LayoutValue) (s : SuperPart) (state : State) (c : Content) (o : Owning) (parts file : List ℕ) → IsStoreSuper layout s state c o parts file →
    AreEntriesOf s c c.partitions (device_in layout state c file).logical (map (units_of s c) c.partitions)
store-entries layout s state c o parts file h =
    let d = store-device layout s state c o parts file h in
    let u = store-units layout s state c o parts file h in
    let four = d.bounded.unit in
    subst (λ ps. AreEntriesOf s c c.partitions ps (map (units_of s c) c.partitions)) (sym (held-logical layout s state c file h.part))
    (entries-self s c (super_bytes layout s file) c.partitions d.long (omega arith) u.placed)

-- the device of a table is the same over a file in which its partitions lie as they did
pub device-before : (layout : LayoutValue) (s : SuperPart) (state : State) (c : Content) (o : Owning) (parts old new : List ℕ) → IsStoreSuper layout s state c o parts old →
    physical_at 12288 layout.physical new ≡ physical_at 12288 layout.physical old →
    AllByRecursion (λ p. LiesIn s (super_bytes layout s new) p (by_name o parts (device_in layout state c old).logical p.name)) (device_in layout state c old).logical →
    device_in layout state c new ≡ device_in layout state c old
device-before layout s state c o parts old new h physical lies =
    let dev = device_in layout state c old in
    let d = store-device layout s state c o parts old h in
    let is = held-is layout s state c old h.part in
    let lists = store-lists layout s state c o parts old h in
    let f = by_name o parts dev.logical in
    held-as layout s state c new dev (map (λ p. f p.name) dev.logical) h.part
    (d.same ∙ ap (λ ps. device_with layout state ps (value_in dev)) (sym physical))
    (record { minor = sym (ap (λ (x : Dev). x.table_minor) is); flags = sym (ap (λ (x : Dev). x.table_flags) is); groups = sym (ap (λ (x : Dev). x.groups) is) })
    (subst (AreEntriesOf s c c.partitions dev.logical) lists (store-entries layout s state c o parts old h))
    (each-lie s (super_bytes layout s new) f dev.logical lies)
