-- How the next table is built: one partition after another, each with the maximal runs of its units.
use Rattle.std.specs.Prelude.{◌≡◌, ℕ, ◌+◌, ◌-◌, ◌^◌, Bool, List, [], ◌∷◌, ◌++◌, length, take, drop, map, sum_by, nat_lt, Option, Some, option_to_list, IsTrue}
use Rattle.std.specs.List.{list_all, flat_map}
use Rattle.unit_alloc.specs.Owning.{Owning, units_of}
use Rattle.fb_frame.specs.declared.tables.TableGroup.{TableGroup}
use Rattle.dev_model.specs.declared.device.Dev.{Dev}
use Rattle.dev_model.specs.declared.device.Logical.{Logical}
use Rattle.dev_model.specs.Validity.{IsValid}
use Rattle.super_meta.specs.declared.table.Group.{Group}
use Rattle.super_meta.specs.declared.table.Partition.{Partition}
use Rattle.super_meta.specs.Contents.{Content}
use Rattle.dev_store.specs.declared.layout.PhysicalPart.{PhysicalPart}
use Rattle.dev_store.specs.declared.layout.SuperPart.{SuperPart}
use Rattle.dev_store.specs.declared.table_build.Planned.{Planned}
use Rattle.dev_store.specs.LayoutLines.{unit_count}
use Rattle.dev_store.specs.Supers.{own_device, are_different, extents_of, bytes_in}
use Rattle.dev_store.specs.Runs.{Run, runs_of, extents_for, group_place}
use Rattle.dev_store.specs.TableChanges.{AreFitted}

-- a run by its first unit and its length
abbrev pub run_of : ℕ × ℕ → Run
run_of (unit, count) = record { unit = unit; count = count }

-- the table of this super in which nothing is listed
abbrev pub bare_table : SuperPart → ℕ → ℕ → Content
bare_table s minor flags = record {
  minor = minor;
  flags = flags;
  partitions = [];
  extents = [];
  groups = [];
  device = own_device s;
}

-- the table with these groups behind its own
abbrev pub with_groups : Content → List Group → Content
with_groups c groups = record c { groups = c.groups ++ groups }

-- the entry of a partition whose extents follow those that there are
abbrev pub planned_entry : Owning → ℕ → Planned → Partition
planned_entry owning at p = record {
  name = p.name;
  attributes = p.attributes;
  first = at;
  count = length (runs_of (units_of owning p.part));
  group = p.group;
}

-- the table with one more partition behind the others
abbrev pub with_planned : SuperPart → Owning → Content → Planned → Content
with_planned s owning c p = record c {
  partitions = c.partitions ++ planned_entry owning (length c.extents) p ∷ [];
  extents = c.extents ++ extents_for s p.bytes (runs_of (units_of owning p.part));
}

-- the table with all of these behind the others
abbrev pub built : SuperPart → Owning → Content → List Planned → Content
built s owning c [] = c
built s owning c (p ∷ planned) = built s owning (with_planned s owning c p) planned

-- how many units all of these have
abbrev pub units_planned : Owning → List Planned → ℕ
units_planned owning planned = sum_by (λ p. length (units_of owning p.part)) planned

-- what is planned for logical partitions that have these parts of the map of units
abbrev pub planned_for : List TableGroup → List Logical → List ℕ → List Planned
planned_for groups [] parts = []
planned_for groups (p ∷ logical) [] = []
planned_for groups (p ∷ logical) (part ∷ parts) =
    record {
      name = p.name;
      attributes = p.attributes;
      group = group_place groups p.group;
      bytes = length p.bytes;
      part = part;
    }
    ∷ planned_for groups logical parts

-- a partition of a table as it is, with its part
abbrev pub planned_as : Content → Partition → ℕ → Planned
planned_as c p part = record {
  name = p.name;
  attributes = p.attributes;
  group = p.group;
  bytes = bytes_in (extents_of c p);
  part = part;
}

-- these partitions of a table as they are
abbrev pub planned_all : Content → List Partition → List ℕ → List Planned
planned_all c [] parts = []
planned_all c (p ∷ partitions) [] = []
planned_all c (p ∷ partitions) (part ∷ parts) = planned_as c p part ∷ planned_all c partitions parts

-- those from one place up to another
abbrev pub planned_range : Content → List ℕ → ℕ → ℕ → List Planned
planned_range c parts from to = take (to - from) (drop from (planned_all c c.partitions parts))

-- the table of this super with the version and the groups of a table, in which no partition is listed
abbrev pub headed : SuperPart → Content → Content
headed s c = with_groups (bare_table s c.minor c.flags) c.groups

-- the same with another length
abbrev pub longer : ℕ → Planned → Planned
longer bytes p = record p { bytes = bytes }

-- these with the one at a place replaced, by none or by one; past the end one is appended
abbrev pub replaced : ℕ → Option Planned → List Planned → List Planned
replaced place planned all = take place all ++ (option_to_list planned ++ drop (place + 1) all)

-- the bytes of the partition can be counted in 64 bits
abbrev pub is_short : Content → Partition → Bool
is_short c p = nat_lt (bytes_in (extents_of c p)) (2 ^ 64)

-- The logical partitions have these units: each as many as it needs, no unit twice, and only units that are there.
pub record AreGiven (s : SuperPart) (logical : List Logical) (lists : List (List ℕ)) : Type 0 where
  pub fitted : AreFitted s.unit logical lists
  pub different : IsTrue (are_different (flat_map (λ units. units) lists))
  pub there : IsTrue (list_all (λ unit. nat_lt unit (unit_count s)) (flat_map (λ units. units) lists))

-- The device is one with these physical partitions and this super.
pub record IsOnSuper (parts : List PhysicalPart) (s : SuperPart) (dev : Dev) : Type 0 where
  pub valid : IsValid dev
  pub named : dev.super_name ≡ Some s.name
  pub physical : map (λ p. p.name) dev.physical ≡ map (λ p. p.name) parts
  pub unit : dev.unit ≡ s.unit
  pub units : dev.units ≡ unit_count s
