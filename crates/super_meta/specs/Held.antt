-- The tables that an image of an empty super holds for a device that takes them (liblp, super_empty.img).
use Rattle.std.specs.Prelude.{ℕ, List, [], map, length, nat_le, slice_index_or, ◌==◌, Option, Some, None, Result, Ok, Err, if◌then◌else◌}
use Rattle.fb_frame.specs.declared.tables.Tables.{Tables}
use Rattle.fb_frame.specs.declared.tables.TablePartition.{TablePartition}
use Rattle.fb_frame.specs.declared.tables.TableGroup.{TableGroup}
use Rattle.fb_frame.specs.declared.tables.TableGeometry.{TableGeometry}
use Rattle.fb_frame.specs.declared.tables.TableDevice.{TableDevice}
use Rattle.super_meta.specs.declared.errors.MetaError.{MetaError}
use Rattle.super_meta.specs.declared.errors.MetaError.TheVariants.{Unsupported}
use Rattle.super_meta.specs.declared.geometry.Geometry.{Geometry}
use Rattle.super_meta.specs.declared.table.Partition.{Partition}
use Rattle.super_meta.specs.declared.table.Group.{Group}
use Rattle.super_meta.specs.declared.table.BlockDevice.{BlockDevice}
use Rattle.super_meta.specs.Contents.{Content}
use Rattle.super_meta.specs.ImageText.{image_of}

-- the name of the group at a place of the list
abbrev pub group_name : List Group → ℕ → List ℕ
group_name groups place = slice_index_or (map (λ g. g.name) groups) place []

-- a partition with the name of its group
abbrev pub listed : List Group → Partition → TablePartition
listed groups p = record { name = p.name; attributes = p.attributes; group = group_name groups p.group }

-- a group
abbrev pub limited : Group → TableGroup
limited g = record { name = g.name; limit = g.limit }

-- the room and the metadata slots
abbrev pub roomed : Geometry → TableGeometry
roomed g = record { max_size = g.max_size; slots = g.slots }

-- the block device, whose first sector for extents isn't looked at
abbrev pub based : BlockDevice → TableDevice
based d = record { name = d.name; size = d.size; alignment = d.alignment; offset = d.offset }

-- what a table says to a device that takes it
abbrev pub tables_in : Geometry → Content → Tables
tables_in geometry c = record {
  partitions = map (listed c.groups) c.partitions;
  groups = map limited c.groups;
  geometry = roomed geometry;
  device = based c.device;
  minor = c.minor;
  flags = c.flags;
}

-- the tables of what was read, where there is no extent
abbrev pub tables_read : Result (Geometry × Content) MetaError → Option Tables
tables_read (Ok (geometry, c)) = if length c.extents == 0 then Some (tables_in geometry c) else None
tables_read (Err flaw) = None

-- The tables of a file that is at most 131,072 bytes long, is read whole, and has no extent.
unfoldable pub tables_of_image : List ℕ → Option Tables
tables_of_image file = if nat_le (length file) 131072 then tables_read (image_of file) else None

-- the flaw of what was read, or else Unsupported where there is an extent
abbrev pub flaw_read : Result (Geometry × Content) MetaError → Option MetaError
flaw_read (Ok (geometry, c)) = if length c.extents == 0 then None else Some Unsupported
flaw_read (Err flaw) = Some flaw

-- Why a file holds no tables, apart from its length: the first flaw of its image, or else that it has an extent.
unfoldable pub tables_flaw : List ℕ → Option MetaError
tables_flaw file = flaw_read (image_of file)
