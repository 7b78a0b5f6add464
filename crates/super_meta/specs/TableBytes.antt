-- The one spelling of a table (liblp metadata_format.h).
use Rattle.std.specs.Prelude.{◌≡◌, ℕ, ◌+◌, ◌*◌, ◌^◌, Bool, ◌&&◌, List, [], ◌++◌, length, take, nat_lt, ◌==◌, if◌then◌else◌, IsTrue}
use Rattle.std.specs.List.{list_all, flat_map}
use Rattle.std.specs.Int.{w16, w32, to_le_bytes}
use Rattle.sha2.specs.Sha256.{sha256}
use Rattle.fb_frame.specs.NameText.{is_name}
use Rattle.super_meta.specs.declared.table.Partition.{Partition}
use Rattle.super_meta.specs.declared.table.Extent.{Extent}
use Rattle.super_meta.specs.declared.table.Group.{Group}
use Rattle.super_meta.specs.declared.table.BlockDevice.{BlockDevice}
use Rattle.fb_frame.specs.Bytes.{zeros}
use Rattle.super_meta.specs.Sealed.{sealed}
use Rattle.super_meta.specs.HeaderText.{header_size}
use Rattle.super_meta.specs.Entries.{partition_bytes, extent_bytes, group_bytes, device_bytes}
use Rattle.super_meta.specs.Contents.{Content, tables_size, is_sound}
use Rattle.super_meta.specs.TableText.{table_size}

-- what stands before the header's digest: magic number, version and header size
unfoldable pub header_front : ℕ → List ℕ
header_front minor = to_le_bytes w32 0x414C5030 ++ to_le_bytes w16 10 ++ to_le_bytes w16 minor ++ to_le_bytes w32 (header_size minor)

-- a descriptor: the place after the header, the entries, and an entry's size
unfoldable pub descriptor : ℕ → ℕ → ℕ → List ℕ
descriptor place count size = to_le_bytes w32 place ++ to_le_bytes w32 count ++ to_le_bytes w32 size

-- the descriptors of partitions, extents, groups and the one block device
unfoldable pub descriptors : Content → List ℕ
descriptors c =
    let extents = 52 * length c.partitions in
    let groups = extents + 24 * length c.extents in
    descriptor 0 (length c.partitions) 52
    ++ descriptor extents (length c.extents) 24
    ++ descriptor groups (length c.groups) 48
    ++ descriptor (groups + 48 * length c.groups) 1 64

-- in version 10.2 the flags and the reserved bytes
unfoldable pub flags_bytes : Content → List ℕ
flags_bytes c = if c.minor == 2 then to_le_bytes w32 c.flags ++ zeros 124 else []

-- the lists
unfoldable pub tables_bytes : Content → List ℕ
tables_bytes c =
    flat_map partition_bytes c.partitions ++ flat_map extent_bytes c.extents ++ flat_map group_bytes c.groups ++ device_bytes c.device

-- what every version has after the header's digest: size and digest of the lists, and the descriptors
unfoldable pub header_core : Content → List ℕ → List ℕ
header_core c digest = to_le_bytes w32 (tables_size c) ++ digest ++ descriptors c

unfoldable pub header_back : Content → List ℕ
header_back c = header_core c (sha256 (tables_bytes c)) ++ flags_bytes c

-- a table's bytes
abbrev pub table_bytes : Content → List ℕ
table_bytes c = sealed (header_front c.minor) (header_back c) ++ tables_bytes c

-- a partition, an extent, a group and a block device whose name is one and whose numbers fit their fields
abbrev pub partition_fits : Partition → Bool
partition_fits p = is_name p.name && nat_lt p.attributes (2 ^ 32) && nat_lt p.first (2 ^ 32) && nat_lt p.count (2 ^ 32) && nat_lt p.group (2 ^ 32)

abbrev pub extent_fits : Extent → Bool
extent_fits e = nat_lt e.sectors (2 ^ 64) && nat_lt e.target (2 ^ 64)

abbrev pub group_fits : Group → Bool
group_fits g = is_name g.name && nat_lt g.limit (2 ^ 64)

abbrev pub device_fits : BlockDevice → Bool
device_fits d =
    is_name d.name && nat_lt d.first_sector (2 ^ 64) && nat_lt d.alignment (2 ^ 32) && nat_lt d.offset (2 ^ 32) && nat_lt d.size (2 ^ 64)

-- each name in the lists is one, and each number in them fits its field
unfoldable pub lists_fit : Content → Bool
lists_fit c = list_all partition_fits c.partitions && list_all extent_fits c.extents && list_all group_fits c.groups && device_fits c.device

-- each name is one, and each number fits its field
abbrev pub fits : Content → Bool
fits c = lists_fit c && nat_lt c.flags (2 ^ 32)

-- The bytes begin with this table. What follows its last list counts for nothing.
pub record TableBytes (c : Content) (bytes : List ℕ) : Type 0 where
  pub sound : IsTrue (is_sound c)
  pub fitting : IsTrue (fits c)
  pub spelled : take (table_size c) bytes ≡ table_bytes c
