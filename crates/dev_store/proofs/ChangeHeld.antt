-- The device of a table whose entries are those of its partitions.
use Rattle.std.proofs.Common.{◌≡◌, ◌∙◌, refl, ap, sym, ℕ, List, [], ◌∷◌, map, take, Some}
use Rattle.dev_model.specs.declared.device.Dev.{Dev}
use Rattle.dev_model.specs.declared.device.Logical.{Logical}
use Rattle.super_meta.specs.declared.table.Partition.{Partition}
use Rattle.super_meta.specs.Contents.{Content}
use Rattle.super_meta.specs.Held.{limited}
use Rattle.dev_store.specs.declared.layout.SuperPart.{SuperPart}
use Rattle.dev_store.specs.declared.state.State.{State}
use Rattle.dev_store.specs.Layouts.{LayoutValue}
use Rattle.dev_store.specs.Supers.{units_of, extents_of, bytes_in, units_bytes, logical_at}
use Rattle.dev_store.specs.Stand.{SuperValue, super_bytes, super_value, physical_at, device_with}
use Rattle.dev_store.specs.Held.{device_held, super_by}
use Rattle.dev_store.specs.TableChanges.{IsEntryOf, AreEntriesOf, LiesIn, LieIn}

-- a partition's bytes, by its entry
entry-bytes : (s : SuperPart) (c : Content) (super : List ℕ) (e : Partition) (p : Logical) (units : List ℕ) → IsEntryOf s c e p units → LiesIn s super p units →
    take (bytes_in (extents_of c e)) (units_bytes s super (units_of s c e)) ≡ p.bytes
entry-bytes s c super e p units h lies = (λ i. take (h.long i) (units_bytes s super (h.units i))) ∙ sym lies

pub entry-logical : (s : SuperPart) (c : Content) (super : List ℕ) (e : Partition) (p : Logical) (units : List ℕ) → IsEntryOf s c e p units → LiesIn s super p units → logical_at s c super e ≡ p
entry-logical s c super e p units h lies =
    let bytes = entry-bytes s c super e p units h lies in
    λ i. record { name = h.name i; attributes = h.attributes i; group = h.group i; bytes = bytes i }

-- the partitions that a table gives
pub entries-logical : (s : SuperPart) (c : Content) (super : List ℕ) (entries : List Partition) (logical : List Logical) (lists : List (List ℕ)) →
    AreEntriesOf s c entries logical lists → LieIn s super logical lists → map (logical_at s c super) entries ≡ logical
entries-logical s c super [] [] [] h lie = refl
entries-logical s c super (e ∷ entries) (p ∷ logical) (units ∷ lists) h lie =
    let one = entry-logical s c super e p units h.0 lie.0 in
    let more = entries-logical s c super entries logical lists h.1 lie.1 in
    λ i. one i ∷ more i
entries-logical s c super [] [] (units ∷ lists) h lie = absurd h
entries-logical s c super [] (p ∷ logical) lists h lie = absurd h
entries-logical s c super (e ∷ entries) [] lists h lie = absurd h
entries-logical s c super (e ∷ entries) (p ∷ logical) [] h lie = absurd h

-- what a device has in super
abbrev pub value_in : Dev → SuperValue
value_in dev = record { minor = dev.table_minor; flags = dev.table_flags; groups = dev.groups; logical = dev.logical }

-- the device has what a layout, a state and a file give it, besides what it has in super
abbrev pub IsDeviceOf : LayoutValue → State → List ℕ → Dev → Type 0
IsDeviceOf layout state file dev = dev ≡ device_with layout state (physical_at 12288 layout.physical file) (value_in dev)

-- what a table says of a device besides its partitions
pub record IsHeadOf (c : Content) (dev : Dev) : Type 0 where
  pub minor : c.minor ≡ dev.table_minor
  pub flags : c.flags ≡ dev.table_flags
  pub groups : map limited c.groups ≡ dev.groups

-- the device of a file and a table is the one whose entries the table has
pub held-as : (layout : LayoutValue) (s : SuperPart) (state : State) (c : Content) (file : List ℕ) (dev : Dev) (lists : List (List ℕ)) → layout.super_part ≡ Some s → IsDeviceOf layout state file dev →
    IsHeadOf c dev → AreEntriesOf s c c.partitions dev.logical lists → LieIn s (super_bytes layout s file) dev.logical lists → device_held layout state (Some c) (Some file) ≡ dev
unfolding device_held
held-as layout s state c file dev lists part of head entries lie =
    let logical = entries-logical s c (super_bytes layout s file) c.partitions dev.logical lists entries lie in
    let value : super_value s c (super_bytes layout s file) ≡ value_in dev =
    λ i. record { minor = head.minor i; flags = head.flags i; groups = head.groups i; logical = logical i } in
    ap (λ q. device_with layout state (physical_at 12288 layout.physical file) (super_by layout q (Some c) file)) part
    ∙ (ap (device_with layout state (physical_at 12288 layout.physical file)) value ∙ sym of)
