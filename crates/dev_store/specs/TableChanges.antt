-- What the table that is written says of each partition, and the map of units for which it is written.
use Rattle.std.specs.Prelude.{◌≡◌, ℕ, ◌-◌, ◌%◌, List, [], ◌∷◌, ◌++◌, length, take, Some}
use Rattle.dev_model.specs.declared.device.Logical.{Logical}
use Rattle.dev_model.specs.Sizes.{units_for}
use Rattle.unit_alloc.specs.Owning.{Owning, OneOwner, free_units, with_units}
use Rattle.unit_alloc.specs.Owning.{units_of as owned_by}
use Rattle.super_meta.specs.declared.table.Partition.{Partition}
use Rattle.super_meta.specs.Contents.{Content}
use Rattle.super_meta.specs.Held.{group_name}
use Rattle.dev_store.specs.declared.layout.SuperPart.{SuperPart}
use Rattle.dev_store.specs.Layouts.{LayoutValue}
use Rattle.dev_store.specs.Supers.{extents_of, bytes_in, units_of, units_bytes}
use Rattle.dev_store.specs.SuperBounds.{IsMapOf}
use Rattle.dev_store.specs.declared.state.State.{State}
use Rattle.dev_store.specs.Held.{IsKept}

-- an entry of a table is that of a partition with these units
pub record IsEntryOf (s : SuperPart) (c : Content) (e : Partition) (p : Logical)
    (list : List ℕ) : Type 0 where
  pub name : e.name ≡ p.name
  pub attributes : e.attributes ≡ p.attributes
  pub group : group_name c.groups e.group ≡ p.group
  pub long : bytes_in (extents_of c e) ≡ length p.bytes
  pub units : units_of s c e ≡ list

-- entry by entry
abbrev pub AreEntriesOf : SuperPart → Content → List Partition → List Logical → List (List ℕ) → Type 0
AreEntriesOf s c [] [] [] = Unit {0}
AreEntriesOf s c (e ∷ entries) (p ∷ logical) (units ∷ lists) =
    IsEntryOf s c e p units × AreEntriesOf s c entries logical lists
AreEntriesOf s c entries logical lists = ⊥

-- a partition of whole blocks has as many units as it needs
pub record IsFitted (unit : ℕ) (p : Logical) (units : List ℕ) : Type 0 where
  pub many : length units ≡ units_for unit (length p.bytes)
  pub whole : length p.bytes % 4096 ≡ 0

-- partition by partition
abbrev pub AreFitted : ℕ → List Logical → List (List ℕ) → Type 0
AreFitted unit [] [] = Unit {0}
AreFitted unit (p ∷ logical) (units ∷ lists) = IsFitted unit p units × AreFitted unit logical lists
AreFitted unit logical lists = ⊥

-- the bytes of a partition are the first ones of its units
abbrev pub LiesIn : SuperPart → List ℕ → Logical → List ℕ → Type 0
LiesIn s super p units = p.bytes ≡ take (length p.bytes) (units_bytes s super units)

-- partition by partition
abbrev pub LieIn : SuperPart → List ℕ → List Logical → List (List ℕ) → Type 0
LieIn s super [] [] = Unit {0}
LieIn s super (p ∷ logical) (units ∷ lists) = LiesIn s super p units × LieIn s super logical lists
LieIn s super logical lists = ⊥

-- a part has as many of its first units as are said, or all of them and the lowest free ones
abbrev pub regrown : Owning → ℕ → ℕ → Owning
regrown o part count =
    with_units o part (take count (owned_by o part) ++ take (count - length (owned_by o part)) (free_units o))

-- What an image has in super: a table, and the map of its units. The file is the image's, or zeros.
pub record IsStoreSuper (layout : LayoutValue) (s : SuperPart) (state : State) (c : Content) (o : Owning)
    (parts : List ℕ) (file : List ℕ) : Type 0 where
  pub kept : IsKept layout state (Some c) (Some file)
  pub part : layout.super_part ≡ Some s
  pub mapped : IsMapOf s c o parts
  pub one : OneOwner o
