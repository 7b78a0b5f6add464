-- How the table of an image is installed: which partitions are kept, and what is planned for each entry.
use Rattle.std.specs.Prelude.{ℕ, ◌+◌, ◌≤◌, Bool, not, ◌&&◌, List, [], ◌∷◌, ◌++◌, length, drop, map, filter, max, nat_eq}
use Rattle.std.specs.Prelude.{bytes_eq, codes, if◌then◌else◌}
use Rattle.std.specs.List.{list_any, ends_with}
use Rattle.fb_frame.specs.Slots.{suffix}
use Rattle.unit_alloc.specs.Owning.{Owning}
use Rattle.super_meta.specs.declared.table.Partition.{Partition}
use Rattle.super_meta.specs.Contents.{Content}
use Rattle.super_meta.specs.Held.{group_name, limited}
use Rattle.dev_store.specs.declared.layout.SuperPart.{SuperPart}
use Rattle.dev_store.specs.declared.table_build.Planned.{Planned}
use Rattle.dev_store.specs.declared.table_install.Keeps.{Keeps}
use Rattle.dev_store.specs.LayoutLines.{unit_count}
use Rattle.dev_store.specs.Supers.{extents_of, bytes_in}
use Rattle.dev_store.specs.Runs.{group_place}
use Rattle.dev_store.specs.Building.{units_planned, planned_as}

-- an old partition of the name is kept
abbrev pub keeps : Keeps → List ℕ → Bool
keeps k name =
    not k.wipe && not (bytes_eq name (codes "scratch"))
    && not (k.slots && ends_with nat_eq name (suffix k.active))

-- how many bytes the kept partition of the name has, none where there is none
abbrev pub kept_long : Keeps → Content → List ℕ → List Partition → ℕ
kept_long k c name [] = 0
kept_long k c name (p ∷ partitions) =
    if keeps k p.name && bytes_eq p.name name then bytes_in (extents_of c p) else kept_long k c name partitions

-- a listed partition, with the bytes of the kept one of its name
abbrev pub listed_as : Keeps → Content → Partition → ℕ → Planned
listed_as k c p part = record {
  name = p.name;
  attributes = p.attributes;
  group = p.group;
  bytes = kept_long k c p.name c.partitions;
  part = part;
}

-- an old partition that is kept and that the new table doesn't list
abbrev pub is_left : Keeps → Content → Partition → Bool
is_left k new p = keeps k p.name && not (list_any (λ q. bytes_eq q.name p.name) new.partitions)

-- it as it is, with its group's place in the new table
abbrev pub left_as : Content → Content → Partition → ℕ → Planned
left_as new c p part =
    record (planned_as c p part) { group = group_place (map limited new.groups) (group_name c.groups p.group) }

-- each of these with its part
abbrev pub planned_by : (Partition → ℕ → Planned) → List Partition → List ℕ → List Planned
planned_by plan [] parts = []
planned_by plan (p ∷ partitions) [] = []
planned_by plan (p ∷ partitions) (part ∷ parts) = plan p part ∷ planned_by plan partitions parts

-- the listed ones and then those that are left over, with these parts in turn
abbrev pub installed_plan : Keeps → Content → Content → List ℕ → List Planned
installed_plan k new c parts =
    planned_by (listed_as k c) new.partitions parts
    ++ planned_by (left_as new c) (filter (is_left k new) c.partitions) (drop (length new.partitions) parts)

-- the version and the groups of the new table, in the greater of the two minor versions
abbrev pub merged_head : Content → Content → Content
merged_head new c = record new { minor = max c.minor new.minor }

-- the table has space for all of these
pub record HasSpace (s : SuperPart) (owning : Owning) (c : Content) (plan : List Planned) : Type 0 where
  pub few : length c.partitions + length plan ≤ 128
  pub units : length c.extents + units_planned owning plan ≤ unit_count s
