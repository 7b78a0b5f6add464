-- A new device, and the image that is made for it (this profile's own).
use Rattle.std.specs.Prelude.{ℕ, ◌+◌, ◌*◌, ◌-◌, Bool, false, not, List, [], ◌∷◌, ◌++◌, length, map, sum_by}
use Rattle.std.specs.Prelude.{◌==◌, Option, Some, None, if◌then◌else◌, codes}
use Rattle.fb_frame.specs.declared.slot.Slot.TheVariants.{A}
use Rattle.dev_model.specs.declared.device.Dev.{Dev}
use Rattle.dev_model.specs.declared.device.Physical.{Physical}
use Rattle.dev_model.specs.declared.device.SlotFlags.{SlotFlags}
use Rattle.dev_model.specs.Images.{copies}
use Rattle.fb_frame.specs.Bytes.{zeros}
use Rattle.super_meta.specs.declared.geometry.Geometry.{Geometry}
use Rattle.super_meta.specs.GeometryText.{geometry_bytes}
use Rattle.super_meta.specs.Contents.{Content}
use Rattle.super_meta.specs.TableBytes.{table_bytes}
use Rattle.dev_store.specs.declared.layout.PhysicalPart.{PhysicalPart}
use Rattle.dev_store.specs.declared.layout.SuperPart.{SuperPart}
use Rattle.dev_store.specs.declared.state.State.{State}
use Rattle.dev_store.specs.Layouts.{LayoutValue}
use Rattle.dev_store.specs.States.{record_block}
use Rattle.dev_store.specs.Supers.{own_device}
use Rattle.dev_store.specs.Stand.{SuperValue, no_super, device_with}

-- the flags of a new slot: with slots it may be tried seven times
abbrev pub new_flags : ℕ → SlotFlags
new_flags slots = record { successful = false; unbootable = false; retries = if slots == 2 then 7 else 0 }

-- slot a is active, and the device starts in the bootloader
abbrev pub new_state : LayoutValue → Bool → State
new_state layout unlocked = record {
  locked = not unlocked;
  active = A;
  flags = new_flags layout.slots ∷ new_flags layout.slots ∷ [];
  userspace = false;
}

-- zeros in each partition
abbrev pub new_part : PhysicalPart → Physical
new_part p = record { name = p.name; bytes = zeros p.size }

-- the group `default` without a limit, and no partition
abbrev pub new_super : Option SuperPart → SuperValue
new_super None = no_super
new_super (Some s) = record {
  minor = 0;
  flags = 0;
  groups = record { name = codes "default"; limit = 0 }
      ∷ [];
  logical = [];
}

-- the device of a new image
abbrev pub new_device : LayoutValue → Bool → Dev
new_device layout unlocked =
    device_with layout (new_state layout unlocked) (map new_part layout.physical)
    (new_super layout.super_part)

-- a block's bytes, and zeros up to its size
abbrev pub filled_up : ℕ → List ℕ → List ℕ
filled_up size bytes = bytes ++ zeros (size - length bytes)

-- the table of a new super
abbrev pub new_table : SuperPart → Content
new_table s = record {
  minor = 0;
  flags = 0;
  partitions = [];
  extents = [];
  groups = record { name = codes "default"; limit = 0 } ∷ [];
  device = own_device s;
}

abbrev pub own_geometry : SuperPart → Geometry
own_geometry s = record { max_size = s.max_size; slots = s.slots; block_size = 4096 }

-- the bytes of a new super: reserved ones, the geometry twice, all copies of the table, and zeros
abbrev pub super_image : Option SuperPart → List ℕ
super_image None = []
super_image (Some s) =
    zeros 4096 ++ (copies 2 (filled_up 4096 (geometry_bytes (own_geometry s)))
    ++ (copies (2 * s.slots) (filled_up s.max_size (table_bytes (new_table s)))
    ++ zeros (s.size - (12288 + 2 * s.slots * s.max_size))))

-- the bytes of a new image
unfoldable pub made_image : LayoutValue → Bool → List ℕ
made_image layout unlocked =
    filled_up 4096 layout.text
    ++ (copies 2 (record_block 2 (new_state layout unlocked))
    ++ (zeros (sum_by (λ p. p.size) layout.physical) ++ super_image layout.super_part))
