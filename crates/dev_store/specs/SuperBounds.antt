-- The numbers of super and of its units, and which units each logical partition has.
use Rattle.std.specs.Prelude.{◌≡◌, ℕ, ◌+◌, ◌*◌, ◌%◌, ◌^◌, ◌<◌, ◌≤◌, Bool, true, false, not, ◌&&◌, nat_le, nat_lt}
use Rattle.std.specs.Prelude.{List, [], ◌∷◌, length, map, slice_get, Option, Some, None, IsTrue, IsFalse}
use Rattle.std.specs.Prelude.{if◌then◌else◌, ◌==◌}
use Rattle.std.specs.List.{list_all, list_any}
use Rattle.unit_alloc.specs.Owning.{Owning, is_owned, handed}
use Rattle.unit_alloc.specs.Owning.{units_of as units_owned}
use Rattle.dev_model.specs.Sizes.{groups_fit}
use Rattle.super_meta.specs.declared.table.Partition.{Partition}
use Rattle.super_meta.specs.Contents.{Content}
use Rattle.super_meta.specs.Held.{limited}
use Rattle.dev_store.specs.declared.layout.PhysicalPart.{PhysicalPart}
use Rattle.dev_store.specs.declared.layout.SuperPart.{SuperPart}
use Rattle.dev_store.specs.Laid.{is_good_super}
use Rattle.dev_store.specs.LayoutLines.{first_unit, unit_count}
use Rattle.dev_store.specs.Supers.{geometry_copy, holds_geometry, are_different, units_of}
use Rattle.dev_store.specs.Supers.{is_own_device, is_at_unit, lies_in_units, is_placed, is_barred, size_in}

-- The numbers of a super keep their conditions, and so these bounds: copies and units lie in it.
pub record IsBounded (s : SuperPart) : Type 0 where
  pub good : IsTrue (is_good_super (Some s))
  pub size : s.size ≤ 2 ^ 44
  pub unit : 4096 ≤ s.unit
  pub unit_end : s.unit ≤ 2 ^ 30
  pub room : s.max_size ≤ 126976
  pub whole : s.max_size % 512 ≡ 0
  pub slots : 1 ≤ s.slots
  pub slots_end : s.slots ≤ 4
  pub copies : 12288 + 2 * s.slots * s.max_size ≤ first_unit s
  pub some : 0 < unit_count s
  pub tables : 10048 + 24 * unit_count s ≤ s.max_size
  pub inside : first_unit s + unit_count s * s.unit ≤ s.size

-- a table is one of this super's, and its extents, names and groups are as they must be
abbrev pub are_good_lists : List PhysicalPart → SuperPart → Content → Bool
are_good_lists parts s c =
    is_own_device s c.device
    && list_all (λ e. is_at_unit s e && lies_in_units s e) c.extents
    && list_all (is_placed s c) c.partitions
    && not (list_any (is_barred parts s) c.partitions)
    && groups_fit (map limited c.groups) (map (size_in c) c.partitions)

-- all of `are_good_units` but that no unit stands twice
unfoldable pub are_good_parts : List PhysicalPart → SuperPart → Content → Bool
are_good_parts parts s c =
    nat_le (length c.partitions) 128 && nat_le (length c.groups) 64 && are_good_lists parts s c

-- no unit stands twice, and none of them has an owner
unfoldable pub are_free : Owning → List ℕ → Bool
are_free owning units = are_different units && list_all (λ u. not (is_owned owning u)) units

-- each of these partitions is handed its units: the first one as this part, and so on
abbrev pub claimed : SuperPart → Content → Owning → ℕ → List Partition → Owning
claimed s c owning part [] = owning
claimed s c owning part (p ∷ partitions) =
    claimed s c (handed owning part (units_of s c p)) (part + 1) partitions

-- Each partition of a table has its units as a part of its own, in the table's order, and no other of the 128
-- parts has units.
pub record IsMapOf (s : SuperPart) (c : Content) (owning : Owning) (parts : List ℕ) : Type 0 where
  pub units : owning.units ≡ unit_count s
  pub many : length owning.parts ≡ 128
  pub there : IsTrue (list_all (λ part. nat_lt part 128) parts)
  pub lists : map (units_owned owning) parts ≡ map (units_of s c) c.partitions
  pub apart : (i j part : ℕ) → slice_get parts i ≡ Some part → slice_get parts j ≡ Some part → i ≡ j
  pub empty : (part : ℕ) → IsFalse (list_any (λ p. p == part) parts) → units_owned owning part ≡ []

-- which of the geometry's blocks is read: the first that holds the layout's geometry
abbrev pub geometry_found : SuperPart → List ℕ → Option Bool
geometry_found s super =
    if holds_geometry s (geometry_copy false super) then Some false
    else (if holds_geometry s (geometry_copy true super) then Some true else None)

-- where a block of the geometry lies in super
abbrev pub geometry_place : Bool → ℕ
geometry_place second = if second then 8192 else 4096
