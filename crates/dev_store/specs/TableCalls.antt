-- What a call on the table plans in super, before the table is written.
use Rattle.std.specs.Prelude.{◌≡◌, ℕ, ◌≤◌, List, [], length, map, slice_index, Option, Some, None, option_map, position, bytes_eq}
use Rattle.unit_alloc.specs.Owning.{Owning, OneOwner, units_of, with_units}
use Rattle.dev_model.specs.declared.device.Dev.{Dev}
use Rattle.super_meta.specs.Contents.{Content, content}
use Rattle.dev_store.specs.declared.layout.SuperPart.{SuperPart}
use Rattle.dev_store.specs.declared.super_read.SuperRead.{SuperRead}
use Rattle.dev_store.specs.declared.table_build.Planned.{Planned}
use Rattle.dev_store.specs.LayoutLines.{unit_count}
use Rattle.dev_store.specs.Layouts.{LayoutValue}
use Rattle.dev_store.specs.SuperBounds.{IsMapOf}
use Rattle.dev_store.specs.SuperReads.{HasRooms}
use Rattle.dev_store.specs.Runs.{table_for}
use Rattle.dev_store.specs.Building.{headed, built, planned_all, units_planned, replaced, AreGiven, IsOnSuper}

-- the partitions of the table as they are, but for the one at a place
abbrev pub plans : SuperRead → ℕ → Option Planned → List Planned
plans r place planned =
    replaced place planned (planned_all (content r.table) (content r.table).partitions r.parts.items)

-- there are not too many of these partitions, and not too many units of theirs in the map
pub record HavePlace (s : SuperPart) (owning : Owning) (planned : List Planned) : Type 0 where
  pub few : length planned ≤ 128
  pub units : units_planned owning planned ≤ unit_count s

-- The map of units is changed, and the next table has these partitions; super's table is as it was.
pub record IsPlanned (s : SuperPart) (owning : Owning) (planned : List Planned)
    (old new : SuperRead) : Type 0 where
  pub table : new.table ≡ old.table
  pub copy : new.copy ≡ old.copy
  pub owners : new.owners ≡ owning
  pub one : OneOwner new.owners
  pub rooms : HasRooms s new
  pub next : content new.next ≡ built s owning (headed s (content old.table)) planned

-- the map of units in which the partition at a place has none
abbrev pub released_at : SuperRead → ℕ → Owning
released_at r place = with_units r.owners (slice_index r.parts.items place) []

-- The next table is the one that is written for this device and the map's units.
pub record IsNextOf (layout : LayoutValue) (s : SuperPart) (dev : Dev) (r : SuperRead) : Type 0 where
  pub table : content r.next ≡ table_for s dev (map (units_of r.owners) r.parts.items)
  pub given : AreGiven s dev.logical (map (units_of r.owners) r.parts.items)
  pub super : IsOnSuper layout.physical s dev
  pub mapped : IsMapOf s (content r.next) r.owners r.parts.items

-- the logical partition of a name stands at this place of the table; none where there is none, or no super
abbrev pub IsFound : Option SuperPart → Option Content → List ℕ → Option (SuperPart × ℕ) → Type 0
IsFound (Some s) (Some c) name found =
    found ≡ option_map (λ place. (s, place)) (position (λ p. bytes_eq p.name name) c.partitions)
IsFound part table name found = found ≡ None
