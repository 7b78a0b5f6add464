-- Writing in a partition: what becomes of an image, and of the device that it stands for.
use Rattle.std.specs.Prelude.{◌≡◌, ℕ, ◌+◌, true, false, List, [], ◌∷◌, length, take, Option, Some, None}
use Rattle.std.specs.Prelude.{IsTrue, bytes_eq, if◌then◌else◌}
use Rattle.fb_frame.specs.Told.{Both}
use Rattle.dev_model.specs.declared.device.Dev.{Dev}
use Rattle.super_meta.specs.Contents.{Content}
use Rattle.dev_store.specs.declared.layout.PhysicalPart.{PhysicalPart}
use Rattle.dev_store.specs.declared.layout.SuperPart.{SuperPart}
use Rattle.dev_store.specs.declared.state.State.{State}
use Rattle.dev_store.specs.LayoutLines.{first_unit}
use Rattle.dev_store.specs.Layouts.{LayoutValue, layout_in}
use Rattle.dev_store.specs.States.{record_in}
use Rattle.dev_store.specs.Supers.{geometry_copy, holds_geometry, table_read}
use Rattle.dev_store.specs.Stand.{super_bytes}
use Rattle.dev_store.specs.Held.{seen}

-- where the physical partition of a name lies in the file, and how many bytes it has; the first partition
-- begins at a place
abbrev pub physical_place : ℕ → List PhysicalPart → List ℕ → Option (ℕ × ℕ)
physical_place place [] name = None
physical_place place (p ∷ parts) name =
    if bytes_eq p.name name then Some (place, p.size) else physical_place (place + p.size) parts name

-- what lies in super before its units is as it was
abbrev pub IsFrontKept : LayoutValue → Option SuperPart → List ℕ → List ℕ → Type 0
IsFrontKept layout None old new = Unit {0}
IsFrontKept layout (Some s) old new =
    take (first_unit s) (super_bytes layout s new) ≡ take (first_unit s) (super_bytes layout s old)

-- An image changed in the bytes of partitions alone: its layout, its records and the copies in super are as
-- they were.
pub record IsBodyChanged (layout : LayoutValue) (old new : List ℕ) : Type 0 where
  pub same_length : length new ≡ length old
  pub front : take 12288 new ≡ take 12288 old
  pub super : IsFrontKept layout layout.super_part old new

-- The device of an image is changed as far as the image is told, and nothing but partitions' bytes changed.
pub record IsPartWritten (layout : LayoutValue) (dev : Option (List ℕ) → Dev) (change : Dev → Dev)
    (old new : Option (List ℕ)) : Type 0 where
  pub device : dev new ≡ seen new (change (dev old))
  pub body : Both (IsBodyChanged layout) old new

-- A failed write left as many bytes as are said: the device is changed as by a write of those.
abbrev pub IsLeftIn : LayoutValue → (Option (List ℕ) → Dev) → (List ℕ → Dev → Dev) → ℕ →
    Option (List ℕ) → Option (List ℕ) → Type 0
IsLeftIn layout dev put count old new =
    (left : List ℕ) × (length left ≡ count) × IsPartWritten layout dev (put left) old new

-- a block of super holds the geometry, and this table is read
pub record HasTableIn (s : SuperPart) (super : List ℕ) (table : Content) : Type 0 where
  pub geometry : IsTrue (if holds_geometry s (geometry_copy false super) then true
      else holds_geometry s (geometry_copy true super))
  pub read : table_read s super ≡ Some table

-- the table of super is this one, and there is one exactly where super is
abbrev pub IsTableOf : LayoutValue → Option SuperPart → Option Content → List ℕ → Type 0
IsTableOf layout None None file = Unit {0}
IsTableOf layout None (Some table) file = ⊥
IsTableOf layout (Some s) None file = ⊥
IsTableOf layout (Some s) (Some table) file = HasTableIn s (super_bytes layout s file) table

-- The image has this layout, this state and this table.
pub record IsImageOf (layout : LayoutValue) (state : State) (table : Option Content)
    (file : List ℕ) : Type 0 where
  pub laid : layout_in file ≡ Some layout
  pub version : ℕ
  pub recorded : record_in layout.slots file ≡ Some (version, state)
  pub tabled : IsTableOf layout layout.super_part table file
