-- What a table says, and when it is sound (liblp metadata_format.h).
use Rattle.std.specs.Prelude.{ℕ, ◌+◌, ◌*◌, ◌^◌, Bool, true, not, ◌&&◌, List, [], ◌∷◌, map, length, take, drop, nat_lt, nat_le, max, min, ◌==◌}
use Rattle.std.specs.List.{list_all, list_any}
use Rattle.fb_frame.specs.Distinct.{are_distinct}
use Rattle.fb_frame.specs.Versions.{are_attributes, is_version}
use Rattle.super_meta.specs.declared.table.Partition.{Partition}
use Rattle.super_meta.specs.declared.table.Extent.{Extent}
use Rattle.super_meta.specs.declared.table.Group.{Group}
use Rattle.super_meta.specs.declared.table.BlockDevice.{BlockDevice}
use Rattle.super_meta.specs.declared.table.Table.{Table}

-- what a table says, apart from where its lists lie in memory
pub record Content : Type 0 where
  pub minor : ℕ
  pub flags : ℕ
  pub partitions : List Partition
  pub extents : List Extent
  pub groups : List Group
  pub device : BlockDevice

abbrev pub content : Table → Content
content t = record {
  minor = t.minor;
  flags = t.flags;
  partitions = t.partitions.items;
  extents = t.extents.items;
  groups = t.groups.items;
  device = t.device;
}

-- no name stands twice among the partitions or among the groups
unfoldable pub are_named_apart : Content → Bool
are_named_apart c = are_distinct (map (λ p. p.name) c.partitions) && are_distinct (map (λ g. g.name) c.groups)

-- From a place on, each partition's extents follow those of the one before, up to the last extent.
abbrev pub take_in_turn : ℕ → ℕ → List Partition → Bool
take_in_turn extents at [] = at == extents
take_in_turn extents at (p ∷ partitions) = p.first == at && take_in_turn extents (at + p.count) partitions

-- the group of each partition is there
abbrev pub are_grouped : Content → Bool
are_grouped c = list_all (λ p. nat_lt p.group (length c.groups)) c.partitions

-- the partitions take the extents in turn, and their groups are there
unfoldable pub are_indexed : Content → Bool
are_indexed c = take_in_turn (length c.extents) 0 c.partitions && are_grouped c

-- the extents of a partition
abbrev pub extents_of : Content → Partition → List Extent
extents_of c p = take p.count (drop p.first c.extents)

-- an extent of at least one sector that lies from the first logical sector on and before the device's end
abbrev pub lies_in : BlockDevice → Extent → Bool
lies_in device e = nat_lt 0 e.sectors && nat_le device.first_sector e.target && nat_le (512 * (e.target + e.sectors)) device.size

-- the sector lies in the extent
abbrev pub has_sector : ℕ → Extent → Bool
has_sector sector e = nat_le e.target sector && nat_lt sector (e.target + e.sectors)

-- two extents share a sector
abbrev pub shares : Extent → Extent → Bool
shares e f = nat_lt (max e.target f.target) (min (e.target + e.sectors) (f.target + f.sectors))

-- no two extents share a sector
abbrev pub are_apart : List Extent → Bool
are_apart [] = true
are_apart (e ∷ extents) = not (list_any (shares e) extents) && are_apart extents

-- each extent lies in the device, and no two share a sector
unfoldable pub are_laid : Content → Bool
are_laid c = list_all (lies_in c.device) c.extents && are_apart c.extents

-- each partition's attributes are known
unfoldable pub are_known : Content → Bool
are_known c = list_all (λ p. are_attributes c.minor p.attributes) c.partitions

-- how many bytes the tables have after their header
abbrev pub tables_size : Content → ℕ
tables_size c = 52 * length c.partitions + 24 * length c.extents + 48 * length c.groups + 64

-- a table that can be written: nothing is wrong with what it says, and its size fits its field
abbrev pub is_sound : Content → Bool
is_sound c =
    are_named_apart c && are_indexed c && are_laid c && are_known c
    && is_version c.minor c.flags && nat_lt (tables_size c) (2 ^ 32)
