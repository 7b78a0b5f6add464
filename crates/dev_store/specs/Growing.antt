-- New bytes of a logical partition: zeros in units of super, before the table that has them is written.
use Rattle.std.specs.Prelude.{◌≡◌, ◌⊎◌, ℕ, ◌+◌, ◌-◌, ◌*◌, ◌%◌, ◌^◌, ◌<◌, ◌≤◌, nat_le, if◌then◌else◌}
use Rattle.std.specs.Prelude.{List, length, map, slice_get, slice_index, Option, Some, None, option_map}
use Rattle.fb_frame.specs.Bytes.{zeros}
use Rattle.fb_frame.specs.Told.{Both}
use Rattle.unit_alloc.specs.Owning.{Owning, units_of, free_units}
use Rattle.dev_model.specs.Sizes.{units_for, resized, groups_fit}
use Rattle.dev_disk.specs.Disks.{DiskTold, open_bytes, OpenKept}
use Rattle.super_meta.specs.declared.table.Partition.{Partition}
use Rattle.super_meta.specs.Contents.{content}
use Rattle.super_meta.specs.Held.{limited}
use Rattle.dev_store.specs.declared.layout.SuperPart.{SuperPart}
use Rattle.dev_store.specs.declared.super_read.SuperRead.{SuperRead}
use Rattle.dev_store.specs.declared.part_place.Units.{Units}
use Rattle.dev_store.specs.declared.part_place.Part.TheVariants.{InUnits}
use Rattle.dev_store.specs.declared.part_zero.NewBytes.{NewBytes}
use Rattle.dev_store.specs.declared.errors.StoreError.{StoreError}
use Rattle.dev_store.specs.declared.errors.StoreError.TheVariants.{NoSpace, GroupFull}
use Rattle.dev_store.specs.declared.table_build.Planned.{Planned}
use Rattle.dev_store.specs.LayoutLines.{first_unit, unit_count}
use Rattle.dev_store.specs.Supers.{extents_of, bytes_in, size_in}
use Rattle.dev_store.specs.Building.{planned_as, longer}
use Rattle.dev_store.specs.PartPlaces.{Puts, PutsSome}
use Rattle.dev_store.specs.SuperReads.{IsSpelled, HasRooms}
use Rattle.dev_store.specs.SuperRepairs.{SaysTable, AreTablesMended}
use Rattle.dev_store.specs.TableChanges.{regrown}
use Rattle.dev_store.specs.TableWrites.{IsTableAround}

-- These are the units of a map's part, as they lie in super.
pub record AreUnitsAt (begin : ℕ) (s : SuperPart) (now : Owning) (part bytes : ℕ) (u : Units) : Type 0 where
  pub units : units_of u.owners.now u.part ≡ units_of now part
  pub start : u.start ≡ begin + first_unit s
  pub unit : u.unit ≡ s.unit
  pub size : u.size ≡ bytes

-- The part's units have room for the new bytes, which are whole blocks.
pub record AreHeld (s : SuperPart) (owning : Owning) (n : NewBytes) : Type 0 where
  pub all : owning.units ≡ unit_count s
  pub few : length (units_of owning n.part) < 2 ^ 32
  pub long : n.to ≤ length (units_of owning n.part) * s.unit
  pub first : n.from % 4096 ≡ 0
  pub last : n.to % 4096 ≡ 0

-- The device of any image that has the part got zeros for the new bytes. Where there are none, nothing changed.
pub record AreZeroed {K : Type 0} (told : K → DiskTold) (begin : ℕ) (s : SuperPart) (owning : Owning)
    (n : NewBytes) (old new : K) : Type 0 where
  pub units : Units
  pub place : AreUnitsAt begin s owning n.part n.to units
  pub put : n.from < n.to → Puts (InUnits units) n.from (zeros (n.to - n.from))
      (open_bytes (told old)) (open_bytes (told new))
  pub none : n.to ≤ n.from → new ≡ old
  pub kept : OpenKept (told old) (told new)

-- The disk failed: the device got at most so many bytes of any kind.
pub record AreLeftZeroed {K : Type 0} (told : K → DiskTold) (begin : ℕ) (s : SuperPart) (owning : Owning)
    (n : NewBytes) (old new : K) : Type 0 where
  pub units : Units
  pub place : AreUnitsAt begin s owning n.part n.to units
  pub some : n.from < n.to
  pub left : PutsSome (InUnits units) n.from (n.to - n.from) (open_bytes (told old)) (open_bytes (told new))
  pub kept : OpenKept (told old) (told new)

-- The new bytes became zeros, and then the next table was written, and stands in the table's place.
pub record IsGrown {K : Type 0} (told : K → DiskTold) (begin : ℕ) (s : SuperPart) (n : NewBytes)
    (x y : SuperRead) (old new : K) : Type 0 where
  pub filled : K
  pub zeroed : AreZeroed told begin s x.owners n old filled
  pub written : Both (AreTablesMended s begin (content x.next)) (open_bytes (told filled))
      (open_bytes (told new))
  pub put : y.table ≡ x.next
  pub spelled : IsSpelled s y
  pub rooms : HasRooms s y
  pub owners : y.owners ≡ x.owners
  pub parts : y.parts ≡ x.parts
  pub kept : OpenKept (told filled) (told new)

-- The new bytes became zeros, and the disk failed at the table.
pub record IsTableLeft {K : Type 0} (told : K → DiskTold) (begin : ℕ) (s : SuperPart) (n : NewBytes)
    (x : SuperRead) (old new : K) : Type 0 where
  pub filled : K
  pub zeroed : AreZeroed told begin s x.owners n old filled
  pub around : Both (IsTableAround (told new).torn s begin (content x.next)) (open_bytes (told filled))
      (open_bytes (told new))
  pub kept : OpenKept (told filled) (told new)

-- The disk failed, at the zeros or at the table.
pub record IsLeftGrown {K : Type 0} (told : K → DiskTold) (begin : ℕ) (s : SuperPart) (n : NewBytes)
    (x y : SuperRead) (old new : K) : Type 0 where
  pub says : SaysTable (content x.next) y.copy.items
  pub stays : y.table ≡ x.table
  pub left : AreLeftZeroed told begin s x.owners n old new ⊎ IsTableLeft told begin s n x old new

-- the part of the map of units that the partition at a place has
abbrev pub part_at : SuperRead → ℕ → ℕ
part_at r place = slice_index r.parts.items place

-- the map of units in which the partition at a place has so many
abbrev pub regrown_at : SuperRead → ℕ → ℕ → Owning
regrown_at r place units = regrown r.owners (part_at r place) units

-- the partition at a place with so many bytes
abbrev pub resized_at : SuperRead → ℕ → ℕ → Option Planned
resized_at r place bytes =
    option_map (λ p. longer bytes (planned_as (content r.table) p (part_at r place)))
    (slice_get (content r.table).partitions place)

-- a group's limit is passed where the partition of a name has so many bytes
abbrev pub group_bar : SuperRead → List ℕ → ℕ → Option StoreError
group_bar r name bytes =
    let c = content r.table in
    if groups_fit (map limited c.groups) (resized name bytes (map (size_in c) c.partitions)) then None
    else Some GroupFull

-- why the partition of a name, which is at a place, can't have so many bytes: the free units are fewer than it
-- lacks, and then a group's limit is passed
abbrev pub resize_bar : SuperPart → SuperRead → ℕ → List ℕ → ℕ → Option StoreError
resize_bar s r place name bytes =
    let lacking = units_for s.unit bytes - length (units_of r.owners (part_at r place)) in
    if nat_le lacking (length (free_units r.owners)) then group_bar r name bytes else Some NoSpace

-- the new bytes of the partition at a place, which gets so many
pub record AreResized (r : SuperRead) (place bytes : ℕ) (n : NewBytes) : Type 0 where
  pub entry : Partition
  pub there : slice_get (content r.table).partitions place ≡ Some entry
  pub part : n.part ≡ part_at r place
  pub from : n.from ≡ bytes_in (extents_of (content r.table) entry)
  pub to : n.to ≡ bytes
