-- What a store holds: a disk, and the device that the open file stands for.
use Rattle.std.specs.Prelude.{◌≡◌, ℕ, ◌==◌, Bool, false, IsFalse, is_some}
use Rattle.std.specs.Prelude.{List, [], length, map, position, slice_get, bytes_eq}
use Rattle.std.specs.Prelude.{Option, Some, None, unwrap_or, IfSome, IsTrue}
use Rattle.std.specs.Result.{result_ok}
use Rattle.std.specs.List.{list_any}
use Rattle.dev_model.specs.declared.device.Dev.{Dev}
use Rattle.dev_model.specs.declared.device.Mode.{Mode}
use Rattle.dev_model.specs.declared.device.Physical.{Physical}
use Rattle.dev_model.specs.declared.device.Logical.{Logical}
use Rattle.dev_model.specs.Partitions.{with_mode}
use Rattle.dev_model.specs.Validity.{IsValid}
use Rattle.unit_alloc.specs.Owning.{Owning, units_of}
use Rattle.fb_frame.specs.Bytes.{zeros}
use Rattle.dev_disk.specs.Disks.{DiskTold, open_bytes, OpenKept}
use Rattle.super_meta.specs.Contents.{Content}
use Rattle.super_meta.specs.TableText.{table_of}
use Rattle.dev_store.specs.declared.layout.SuperPart.{SuperPart}
use Rattle.dev_store.specs.Layouts.{LayoutValue, image_size}
use Rattle.dev_store.specs.declared.state.State.{State}
use Rattle.dev_store.specs.States.{is_state}
use Rattle.dev_store.specs.Supers.{are_good_units}
use Rattle.dev_store.specs.Laid.{IsLaid}
use Rattle.dev_store.specs.Stand.{Stands, Settled, SuperValue, no_super, owned}
use Rattle.dev_store.specs.Stand.{super_bytes, super_value, physical_at, device_with}

-- A store over a disk. The device is the one that the open file stands for; where the disk tells no bytes, it
-- has zeros in each partition. Each logical partition has a part of the map of units, in the table's order.
-- A store is broken once the disk failed in a change: it can only give its disk back.
pub record Held (K : Type 0) : Type 0 where
  pub disk : K
  pub device : Dev
  pub owning : Option Owning
  pub parts : List ℕ
  pub broken : Bool

-- the same, in another mode
abbrev pub held_in : {K : Type 0} → Mode → Held K → Held K
held_in mode held = record held { device = with_mode mode held.device }

-- the bytes of the store's image, where its disk tells them
abbrev pub image_of : {K : Type 0} → (K → DiskTold) → Held K → Option (List ℕ)
image_of told held = open_bytes (told held.disk)

abbrev pub zeroed_physical : Physical → Physical
zeroed_physical p = record p { bytes = zeros (length p.bytes) }

abbrev pub zeroed_logical : Logical → Logical
zeroed_logical p = record p { bytes = zeros (length p.bytes) }

-- the device with zeros in each partition, as long as they were
abbrev pub zeroed : Dev → Dev
zeroed dev = record dev {
  physical = map zeroed_physical dev.physical;
  logical = map zeroed_logical
      dev.logical;
}

-- the device as far as the disk tells: all of it, or all but the partitions' bytes
unfoldable pub seen : Option (List ℕ) → Dev → Dev
seen None dev = zeroed dev
seen (Some file) dev = dev

-- the told file stands for the device; where none is told, the partitions' bytes count as zeros
unfoldable pub Holds : Option (List ℕ) → Dev → Type 0
Holds None dev = dev ≡ zeroed dev
Holds (Some file) dev = Stands file dev

-- nothing is left to repair in the told file
unfoldable pub IsSettled : Option (List ℕ) → Type 0
IsSettled None = Unit {0}
IsSettled (Some file) = Settled file

-- the part of the logical partition of a name
abbrev pub part_of : {K : Type 0} → Held K → List ℕ → Option ℕ
part_of held name =
    slice_get held.parts (unwrap_or (position (λ p. bytes_eq p.name name) held.device.logical)
    (length held.parts))

-- the units of a part, none where there is no part
abbrev pub units_by : Option Owning → Option ℕ → List ℕ
units_by None part = []
units_by (Some owning) None = []
units_by (Some owning) (Some part) = units_of owning part

-- the units of the logical partition of a name
abbrev pub units_held : {K : Type 0} → Held K → List ℕ → List ℕ
units_held held name = units_by held.owning (part_of held name)

-- each logical partition has the units that the told table gives it
unfoldable pub OwnsAsTold : {K : Type 0} → Option (List ℕ) → Held K → Type 0
OwnsAsTold None held = Unit {0}
OwnsAsTold (Some file) held = (name : List ℕ) → units_held held name ≡ owned file name

-- how many units a map has
abbrev pub units_in_all : Option Owning → ℕ
units_in_all None = 0
units_in_all (Some owning) = owning.units

-- The map of units is that of the device: it is there where super is, and has all units of it; each logical
-- partition has a part of its own, and no other part has units.
pub record IsMapped {K : Type 0} (held : Held K) : Type 0 where
  pub there : is_some held.owning ≡ is_some held.device.super_name
  pub units : units_in_all held.owning ≡ held.device.units
  pub many : length held.parts ≡ length held.device.logical
  pub apart : (i j part : ℕ) → slice_get held.parts i ≡ Some part → slice_get held.parts j ≡ Some part → i ≡ j
  pub empty : (part : ℕ) → IsFalse (list_any (λ p. p == part) held.parts) →
      units_by held.owning (Some part) ≡ []

-- The image stands for the device of the store, and there can be such a device.
pub record IsSound {K : Type 0} (told : K → DiskTold) (held : Held K) : Type 0 where
  pub valid : IsValid held.device
  pub stands : Holds (image_of told held) held.device

-- All that is so of a store that isn't broken.
pub record IsWhole {K : Type 0} (told : K → DiskTold) (held : Held K) : Type 0 where
  pub sound : IsSound told held
  pub usable : held.broken ≡ false
  pub settled : IsSettled (image_of told held)
  pub owns : OwnsAsTold (image_of told held) held
  pub mapped : IsMapped held

-- The disk is the one that was lent, the same file is open, and no other one changed.
pub record DiskKept {K L : Type 0} (told : K → DiskTold) (lent : K → L) (old new : K) : Type 0 where
  pub same : lent new ≡ lent old
  pub kept : OpenKept (told old) (told new)

-- the file of the opened store, or zeros where none is told
abbrev pub file_or_zeros : LayoutValue → Option (List ℕ) → List ℕ
file_or_zeros layout file = unwrap_or file (zeros (image_size layout))

-- what a device has in super, by a table
abbrev pub super_by : LayoutValue → Option SuperPart → Option Content → List ℕ → SuperValue
super_by layout (Some s) (Some c) file = super_value s c (super_bytes layout s file)
super_by layout part c file = no_super

-- the device of a layout, a state and a table, over the bytes of a file
unfoldable pub device_held : LayoutValue → State → Option Content → Option (List ℕ) → Dev
device_held layout state c image =
    let file = file_or_zeros layout image in
    device_with layout state (physical_at 12288 layout.physical file)
    (super_by layout layout.super_part c file)

-- the table is one of this layout's super, and there exactly where super is
abbrev pub IsTabled : LayoutValue → Option SuperPart → Option Content → Type 0
IsTabled layout None None = Unit {0}
IsTabled layout None (Some c) = ⊥
IsTabled layout (Some s) None = ⊥
IsTabled layout (Some s) (Some c) = IsTrue (are_good_units layout.physical s c)
    × ((bytes : List ℕ) × (result_ok (table_of bytes) ≡ Some c))

-- What a store keeps of an image: a layout that a text gives, a state that fits it, and a table that some
-- bytes give. The image is as long as the layout says.
pub record IsKept (layout : LayoutValue) (state : State) (table : Option Content)
    (image : Option (List ℕ)) : Type 0 where
  pub laid : IsLaid layout
  pub stated : IsTrue (is_state layout.slots state)
  pub tabled : IsTabled layout layout.super_part table
  pub long : IfSome image (λ file. length file ≡ image_size layout)
