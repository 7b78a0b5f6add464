-- The entries of a table: how each is read and spelled (liblp metadata_format.h).
use Rattle.std.specs.Prelude.{ℕ, zero, suc, ◌*◌, Bool, ◌&&◌, List, [], ◌∷◌, ◌++◌, length, take, drop, ◌==◌, Option, Some, None, unwrap_or, if◌then◌else◌}
use Rattle.std.specs.List.{list_all, position}
use Rattle.std.specs.Int.{w32, w64, to_le_bytes}
use Rattle.fb_frame.specs.NameText.{is_name}
use Rattle.fb_frame.specs.Padded.{padded}
use Rattle.super_meta.specs.declared.table.Partition.{Partition}
use Rattle.super_meta.specs.declared.table.Extent.{Extent}
use Rattle.super_meta.specs.declared.table.Group.{Group}
use Rattle.super_meta.specs.declared.table.BlockDevice.{BlockDevice}
use Rattle.fb_frame.specs.Fields.{u32_at, u64_at}

-- n rows of `size` bytes each
unfoldable pub rows : ℕ → ℕ → List ℕ → List (List ℕ)
rows size zero bytes = []
rows size (suc more) bytes = take size bytes ∷ rows size more (drop size bytes)

-- the row at an index
abbrev pub row_at : ℕ → ℕ → List ℕ → List ℕ
row_at size i bytes = take size (drop (i * size) bytes)

abbrev pub is_zero : ℕ → Bool
is_zero b = b == 0

-- what stands before the first zero of a field
unfoldable pub name_in : List ℕ → List ℕ
name_in field = take (unwrap_or (position is_zero field) (length field)) field

-- a name and then zeros
unfoldable pub is_name_field : List ℕ → Bool
is_name_field field = is_name (name_in field) && list_all is_zero (drop (length (name_in field)) field)

-- the name in a field, where it is one
abbrev pub name_at : List ℕ → Option (List ℕ)
name_at field = if is_name_field field then Some (name_in field) else None

-- the field of a name
abbrev pub name_field : List ℕ → List ℕ
name_field name = padded 36 name

-- a partition's entry of 52 bytes
unfoldable pub partition_of : List ℕ → Partition
partition_of row = record {
  name = name_in (take 36 row);
  attributes = u32_at 36 row;
  first = u32_at 40 row;
  count = u32_at 44 row;
  group = u32_at 48 row;
}

unfoldable pub partition_bytes : Partition → List ℕ
partition_bytes p =
    name_field p.name ++ to_le_bytes w32 p.attributes ++ to_le_bytes w32 p.first ++ to_le_bytes w32 p.count ++ to_le_bytes w32 p.group

-- an extent's entry of 24 bytes: sectors, type, target and source, of which the type is linear and the source the only block device
unfoldable pub extent_of : List ℕ → Extent
extent_of row = record { sectors = u64_at 0 row; target = u64_at 12 row }

unfoldable pub extent_bytes : Extent → List ℕ
extent_bytes e = to_le_bytes w64 e.sectors ++ to_le_bytes w32 0 ++ to_le_bytes w64 e.target ++ to_le_bytes w32 0

-- a group's entry of 48 bytes: name, flags and maximum size
unfoldable pub group_of : List ℕ → Group
group_of row = record { name = name_in (take 36 row); limit = u64_at 40 row }

unfoldable pub group_bytes : Group → List ℕ
group_bytes g = name_field g.name ++ to_le_bytes w32 0 ++ to_le_bytes w64 g.limit

-- a block device's entry of 64 bytes: first logical sector, alignment, alignment offset, size, name and flags
unfoldable pub device_of : List ℕ → BlockDevice
device_of row = record {
  first_sector = u64_at 0 row;
  alignment = u32_at 8 row;
  offset = u32_at 12 row;
  size = u64_at 16 row;
  name = name_in (take 36 (drop 24 row));
}

unfoldable pub device_bytes : BlockDevice → List ℕ
device_bytes d =
    to_le_bytes w64 d.first_sector ++ to_le_bytes w32 d.alignment ++ to_le_bytes w32 d.offset ++ to_le_bytes w64 d.size
    ++ name_field d.name ++ to_le_bytes w32 0

-- an entry with a name at its front
abbrev pub is_named : List ℕ → Bool
is_named row = is_name_field (take 36 row)

-- the number at a place of an entry is 0
abbrev pub is_unset : ℕ → List ℕ → Bool
is_unset place row = u32_at place row == 0
