-- The parts of the map of units where a table is installed, and what is left of the map.
use Rattle.std.specs.Prelude.{◌≡◌, ◌⊎◌, ℕ, ◌<◌, List, [], ◌∷◌}
use Rattle.std.specs.Prelude.{◌++◌, length, map, filter, nat_lt, ◌==◌, slice_get}
use Rattle.std.specs.Prelude.{position, bytes_eq, option_and_then, unwrap_or, Some, None, if◌then◌else◌}
use Rattle.std.specs.Prelude.{IsTrue, IsFalse, Ok}
use Rattle.std.specs.List.{list_all, list_any}
use Rattle.unit_alloc.specs.Owning.{Owning, OneOwner, units_of, with_units}
use Rattle.super_meta.specs.declared.table.Partition.{Partition}
use Rattle.super_meta.specs.declared.geometry.Geometry.{Geometry}
use Rattle.super_meta.specs.Contents.{Content, content}
use Rattle.super_meta.specs.Held.{tables_in, tables_of_image}
use Rattle.super_meta.specs.ImageText.{image_of}
use Rattle.dev_store.specs.declared.layout.PhysicalPart.{PhysicalPart}
use Rattle.dev_store.specs.declared.layout.SuperPart.{SuperPart}
use Rattle.dev_store.specs.declared.table_install.Keeps.{Keeps}
use Rattle.dev_store.specs.declared.super_read.SuperRead.{SuperRead}
use Rattle.dev_store.specs.declared.errors.StoreError.{StoreError}
use Rattle.dev_store.specs.declared.errors.StoreError.TheVariants.{BadTable}
use Rattle.dev_store.specs.SuperReads.{HasRooms}
use Rattle.dev_store.specs.Building.{headed, built}
use Rattle.dev_store.specs.Installing.{keeps, is_left, merged_head, installed_plan, HasSpace}
use Rattle.dev_store.specs.InstallTests.{is_other_super, install_tests}

-- the part of the partition of a name, 128 where there is none
abbrev pub named_part : Content → List ℕ → List ℕ → ℕ
named_part c parts name =
    unwrap_or (option_and_then (slice_get parts) (position (λ p. bytes_eq p.name name) c.partitions)) 128

-- the part of the kept partition of a name, 128 where there is none
abbrev pub kept_part : Keeps → Content → List ℕ → List ℕ → ℕ
kept_part k c parts name = if keeps k name then named_part c parts name else 128

-- the part of each entry: the listed ones, and then those that are left over
abbrev pub chosen_parts : Keeps → Content → Content → List ℕ → List ℕ
chosen_parts k new c parts =
    map (λ p. kept_part k c parts p.name) new.partitions
    ++ map (λ p. kept_part k c parts p.name) (filter (is_left k new) c.partitions)

-- the map of units in which the partitions that aren't kept have none
abbrev pub released : Keeps → List Partition → List ℕ → Owning → Owning
released k [] parts o = o
released k (p ∷ partitions) [] o = o
released k (p ∷ partitions) (part ∷ parts) o =
    released k partitions parts (if keeps k p.name then o else with_units o part [])

-- each of the 128 parts is among these
abbrev pub AreAllTaken : List ℕ → Type 0
AreAllTaken parts = (part : ℕ) → part < 128 → IsTrue (list_any (λ p. p == part) parts)

-- each of the 128 parts stands once at most
abbrev pub AreApart : List ℕ → Type 0
AreApart parts =
    (i j part : ℕ) → part < 128 → slice_get parts i ≡ Some part → slice_get parts j ≡ Some part → i ≡ j

-- no part but these has units
abbrev pub HaveAll : Owning → List ℕ → Type 0
HaveAll o parts = (part : ℕ) → IsFalse (list_any (λ p. p == part) parts) → units_of o part ≡ []

-- Parts that had no units were put in the place of each number that is no part.
pub record IsFilled (old new : List ℕ) : Type 0 where
  pub many : length new ≡ length old
  pub there : IsTrue (list_all (λ part. nat_lt part 128) new)
  pub apart : AreApart old → AreApart new
  pub units : (o : Owning) → length o.parts ≡ 128 → HaveAll o old →
      map (units_of o) new ≡ map (units_of o) old
  pub all : (o : Owning) → length o.parts ≡ 128 → HaveAll o old → HaveAll o new

-- the same with another table in its room
abbrev pub with_room : SuperRead → Content → SuperRead
with_room r room = record r { room = room }

-- The file's table is in the room, and nothing is wrong with it for a super whose table is this one.
pub record IsTaken (parts : List PhysicalPart) (s : SuperPart) (k : Keeps) (c : Content) (file : List ℕ)
    (room : Content) : Type 0 where
  pub geometry : Geometry
  pub image : image_of file ≡ Ok (geometry, room)
  pub tables : tables_of_image file ≡ Some (tables_in geometry room)
  pub fine : install_tests k (is_other_super parts s geometry room) room c ≡ None

-- the file's table is refused for this cause
abbrev pub IsTableRefused : List PhysicalPart → SuperPart → Keeps → Content → List ℕ → StoreError → Type 0
IsTableRefused parts s k c file e = (geometry : Geometry) × ((room : Content)
    × ((tables_of_image file ≡ Some (tables_in geometry room))
    × (install_tests k (is_other_super parts s geometry room) room c ≡ Some e)))

-- so is a file without a table
abbrev pub IsRefused : List PhysicalPart → SuperPart → Keeps → Content → List ℕ → StoreError → Type 0
IsRefused parts s k c file e =
    ((tables_of_image file ≡ None) × (e ≡ BadTable)) ⊎ IsTableRefused parts s k c file e

-- The map of units of a super where a table is installed, and the part of each entry.
pub record AreChosen (k : Keeps) (new : Content) (old : SuperRead) (o : Owning)
    (parts : List ℕ) : Type 0 where
  pub owners : o ≡ released k (content old.table).partitions old.parts.items old.owners
  pub one : OneOwner o
  pub filled : IsFilled (chosen_parts k new (content old.table) old.parts.items) parts

-- The next table is that of the room, installed; super's table is as it was.
pub record IsInstallPlanned (s : SuperPart) (k : Keeps) (old new : SuperRead) : Type 0 where
  pub table : new.table ≡ old.table
  pub room : new.room ≡ old.room
  pub copy : new.copy ≡ old.copy
  pub chosen : AreChosen k old.room old new.owners new.parts.items
  pub rooms : HasRooms s new
  pub next : content new.next ≡ built s new.owners (headed s (merged_head old.room (content old.table)))
      (installed_plan k old.room (content old.table) new.parts.items)

-- there is space for what is planned, whatever parts are chosen
abbrev pub HasSpaceFor : SuperPart → Keeps → SuperRead → Type 0
HasSpaceFor s k old = (o : Owning) (parts : List ℕ) → AreChosen k old.room old o parts →
    HasSpace s o (headed s (merged_head old.room (content old.table)))
    (installed_plan k old.room (content old.table) parts)
