-- How the image of a new device is written over a file of zeros.
use Rattle.std.specs.Prelude.{◌≡◌, ℕ, ◌+◌, ◌*◌, Bool, List, ◌++◌, Option, Some, None}
use Rattle.fb_frame.specs.Bytes.{zeros}
use Rattle.fb_frame.specs.Told.{Both}
use Rattle.dev_model.specs.Images.{copies}
use Rattle.super_meta.specs.GeometryText.{geometry_bytes}
use Rattle.super_meta.specs.TableBytes.{table_bytes}
use Rattle.dev_disk.specs.Disks.{DiskTold, open_bytes, Writes}
use Rattle.dev_store.specs.declared.layout.SuperPart.{SuperPart}
use Rattle.dev_store.specs.Layouts.{LayoutValue, image_size}
use Rattle.dev_store.specs.States.{record_block}
use Rattle.dev_store.specs.NewDevice.{filled_up, new_state, new_table, own_geometry}
use Rattle.dev_store.specs.Opening.{IsMade}

-- the layout's text with zeros up to its block's end, and both records
unfoldable pub image_front : LayoutValue → Bool → List ℕ
image_front layout unlocked = filled_up 4096 layout.text ++ copies 2 (record_block 2 (new_state layout unlocked))

-- a block of the geometry, and a copy of a new super's table with zeros up to its room's end
unfoldable pub geometry_block : SuperPart → List ℕ
geometry_block s = filled_up 4096 (geometry_bytes (own_geometry s))

unfoldable pub table_block : SuperPart → List ℕ
table_block s = filled_up s.max_size (table_bytes (new_table s))

-- both blocks of the geometry, and all copies of the table
unfoldable pub super_front : SuperPart → List ℕ
super_front s = copies 2 (geometry_block s) ++ copies (2 * s.slots) (table_block s)

-- they were written over super, which begins at this place, where the layout has one
abbrev pub SuperWrites : Option SuperPart → ℕ → DiskTold → DiskTold → Type 0
SuperWrites None at old new = open_bytes new ≡ open_bytes old
SuperWrites (Some s) at old new = Writes old new (at + 4096) (super_front s)

-- a file of zeros has become an image of the new device
abbrev pub IsFilled : LayoutValue → Bool → List ℕ → List ℕ → Type 0
IsFilled layout unlocked old new = old ≡ zeros (image_size layout) → IsMade layout unlocked new

-- where the open file is told, it has
abbrev pub Fills : LayoutValue → Bool → DiskTold → DiskTold → Type 0
Fills layout unlocked old new = Both (IsFilled layout unlocked) (open_bytes old) (open_bytes new)
