-- A new partition of the group `default`: why a table refuses it, and what is planned for it.
use Rattle.std.specs.Prelude.{◌≡◌, ℕ, ◌<◌, ◌≤◌, ◌==◌, not, List, [], ◌∷◌, ◌++◌, length, map, take, nat_le, codes, Option, Some, IsFalse}
use Rattle.std.specs.List.{list_any}
use Rattle.unit_alloc.specs.Owning.{Owning, free_units, handed}
use Rattle.dev_model.specs.Images.{round_up}
use Rattle.dev_model.specs.Options.{first_passed}
use Rattle.dev_model.specs.Refusals.{created_size}
use Rattle.dev_model.specs.Sizes.{units_for, groups_fit}
use Rattle.dev_model.specs.Tables.{is_group}
use Rattle.super_meta.specs.Contents.{Content, content}
use Rattle.super_meta.specs.Held.{limited}
use Rattle.dev_store.specs.declared.create_plan.NewPart.{NewPart}
use Rattle.dev_store.specs.declared.errors.StoreError.{StoreError}
use Rattle.dev_store.specs.declared.errors.StoreError.TheVariants.{NoSpace, GroupFull}
use Rattle.dev_store.specs.declared.errors.StoreError.TheVariants.{TooManyPartitions, NoGroup}
use Rattle.dev_store.specs.declared.layout.SuperPart.{SuperPart}
use Rattle.dev_store.specs.declared.super_read.SuperRead.{SuperRead}
use Rattle.dev_store.specs.declared.table_build.Planned.{Planned}
use Rattle.dev_store.specs.Runs.{group_place}
use Rattle.dev_store.specs.Supers.{size_in}
use Rattle.dev_store.specs.TableCalls.{plans}

-- why the table and its map of units have no room for a partition of a name and a size
abbrev pub new_flaw : SuperPart → SuperRead → List ℕ → ℕ → Option StoreError
new_flaw s r name size =
    let c = content r.table in
    first_passed
    ((nat_le 128 (length c.partitions), TooManyPartitions)
    ∷ (not (is_group (map limited c.groups) (codes "default")), NoGroup)
    ∷ (not (nat_le (units_for s.unit (round_up size)) (length (free_units r.owners))), NoSpace)
    ∷ (
      not (groups_fit (map limited c.groups)
          (map (size_in c) c.partitions ++ created_size name size ∷ [])),
      GroupFull,
    )
    ∷ [])

-- why there is no room for it where there may be no super, and so no group
abbrev pub super_flaw : Option SuperPart → Option SuperRead → List ℕ → ℕ → Option StoreError
super_flaw (Some s) (Some r) name size = new_flaw s r name size
super_flaw part within name size = Some NoGroup

-- A size in whole blocks and in units, of which as many are free; and a part of the map that no
-- partition has.
pub record IsNewPart (s : SuperPart) (r : SuperRead) (size : ℕ) (new : NewPart) : Type 0 where
  pub bytes : new.bytes ≡ round_up size
  pub units : new.units ≡ units_for s.unit (round_up size)
  pub room : new.units ≤ length (free_units r.owners)
  pub free : IsFalse (list_any (λ p. p == new.part) r.parts.items)
  pub inside : new.part < 128

-- the map of units in which the part has the lowest free ones
abbrev pub handed_new : SuperRead → NewPart → Owning
handed_new r new = handed r.owners new.part (take new.units (free_units r.owners))

-- the partition as the next table has it
abbrev pub planned_new : Content → List ℕ → NewPart → Planned
planned_new c name new = record {
  name = name;
  attributes = 0;
  group = group_place (map limited c.groups) (codes "default");
  bytes = new.bytes;
  part = new.part;
}

-- the partitions of the table as they are, and the new one behind them
abbrev pub plans_new : SuperRead → List ℕ → NewPart → List Planned
plans_new r name new = plans r (length r.parts.items) (Some (planned_new (content r.table) name new))
