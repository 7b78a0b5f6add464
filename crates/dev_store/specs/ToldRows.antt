-- Variables as a store tells them, row by row.
use Rattle.std.specs.Prelude.{◌≡◌, ℕ, ◌<◌, ◌≤◌, ◌^◌, Bool, List, [], ◌++◌, length, map, take, drop, Option, Some, None}
use Rattle.std.specs.Prelude.{option_map, slice_get, decimal}
use Rattle.std.specs.List.{AllByRecursion}
use Rattle.fb_frame.specs.Bytes.{zeros}
use Rattle.fb_frame.specs.Numbers.{size_text}
use Rattle.dev_model.specs.declared.device.Dev.{Dev}
use Rattle.dev_model.specs.declared.device.Physical.{Physical}
use Rattle.dev_model.specs.declared.device.Logical.{Logical}
use Rattle.dev_model.specs.Texts.{AreShortRows}
use Rattle.dev_model.specs.Variables.{Row as NamedText, plain_rows, all_rows}
use Rattle.super_meta.specs.declared.table.Partition.{Partition}
use Rattle.super_meta.specs.declared.table.Extent.{Extent}
use Rattle.dev_store.specs.declared.layout.PhysicalPart.{PhysicalPart}
use Rattle.dev_store.specs.declared.variables_row.Text.{Text}
use Rattle.dev_store.specs.declared.variables_row.Text.TheVariants.{Bytes, Size, Extents, Count}
use Rattle.dev_store.specs.declared.variables_row.Row.{Row}
use Rattle.dev_store.specs.declared.variables_row.Step.{Step}
use Rattle.dev_store.specs.declared.variables_row.Step.TheVariants.{Found, Later}
use Rattle.dev_store.specs.declared.variables_row.Facts.{Facts}
use Rattle.super_meta.specs.Contents.{Content}
use Rattle.dev_store.specs.declared.state.State.{State}
use Rattle.dev_store.specs.Layouts.{LayoutValue}
use Rattle.dev_store.specs.States.{start_mode, both_flags}
use Rattle.dev_store.specs.Supers.{bytes_in}

-- the bytes of a text
abbrev pub text_of : Text → List ℕ
text_of (Bytes bytes) = bytes.now
text_of (Size size) = size_text size
text_of (Extents extents) = size_text (bytes_in extents.list.now)
text_of (Count n) = decimal n

-- a variable's name and text
abbrev pub row_of : Row → NamedText
row_of row = (row.head.now ++ row.of.now, text_of row.text)

-- the row at a place of a list with more rows after it
abbrev pub stepped : Step → List NamedText → Option NamedText
stepped (Found row) more = Some (row_of row)
stepped (Later place) more = slice_get more place

abbrev pub told_physical : PhysicalPart → Physical
told_physical p = record { name = p.name; bytes = zeros p.size }

-- the extents of a partition
abbrev pub part_extents : List Extent → Partition → List Extent
part_extents extents p = take p.count (drop p.first extents)

abbrev pub told_logical : List Extent → Partition → Logical
told_logical extents p = record { name = p.name; attributes = p.attributes; group = []; bytes = zeros (bytes_in (part_extents extents p)) }

-- A device of these facts, as far as its variables tell. Its partitions hold zeros.
abbrev pub told_device : Facts → Dev
told_device f = record {
  product = f.product.now;
  serial = f.serial.now;
  vars = f.vars.now;
  slots = f.slots;
  active = f.active;
  flags = f.flags;
  locked = f.locked;
  mode = start_mode f.userspace;
  max = f.max;
  physical = map told_physical f.physical.now;
  super_name = f.super_name;
  geometry = record { max_size = 0; slots = 0 };
  groups = [];
  logical = map (told_logical f.extents.now) f.logical.now;
  unit = 0;
  units = 0;
  super_size = 0;
  table_minor = 0;
  table_flags = 0;
}

-- the bytes of each logical partition can be counted in 64 bits
abbrev pub AreSummed : Facts → Type 0
AreSummed f = AllByRecursion (λ p. bytes_in (part_extents f.extents.now p) < 2 ^ 64) f.logical.now

-- What a device has that can be: texts are short, and there aren't too many.
pub record AreTellable (f : Facts) : Type 0 where
  pub short : AreShortRows (all_rows (told_device f))
  pub few : length (plain_rows (told_device f)) ≤ 848
  pub summed : AreSummed f

-- the partitions and the extents of a table, none without one
abbrev pub partitions_in : Option Content → List Partition
partitions_in None = []
partitions_in (Some c) = c.partitions

abbrev pub extents_in : Option Content → List Extent
extents_in None = []
extents_in (Some c) = c.extents

-- The facts are those of a layout, a state and a table, in userspace or in the bootloader.
pub record AreFactsOf (layout : LayoutValue) (state : State) (table : Option Content) (userspace : Bool)
    (f : Facts) : Type 0 where
  pub product : f.product.now ≡ layout.product
  pub serial : f.serial.now ≡ layout.serial
  pub vars : f.vars.now ≡ layout.vars
  pub slots : f.slots ≡ layout.slots
  pub max : f.max ≡ layout.max
  pub super_name : f.super_name ≡ option_map (λ s. s.name) layout.super_part
  pub physical : f.physical.now ≡ layout.physical
  pub active : f.active ≡ state.active
  pub flags : f.flags ≡ both_flags state.flags
  pub locked : f.locked ≡ state.locked
  pub mode : f.userspace ≡ userspace
  pub logical : f.logical.now ≡ partitions_in table
  pub extents : f.extents.now ≡ extents_in table
