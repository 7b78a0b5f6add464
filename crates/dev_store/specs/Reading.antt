-- What opening reads of a device image, and what its repairs make of it or leave.
use Rattle.std.specs.Prelude.{◌≡◌, ◌⊎◌, ℕ, Bool, true, false, not, List, [], length, Option, Some, None}
use Rattle.std.specs.Prelude.{take, IsSome, IfSome, option_map, if◌then◌else◌, IsTrue, nat_le, ◌==◌}
use Rattle.super_meta.specs.Contents.{Content, content}
use Rattle.dev_model.specs.Validity.{IsValid}
use Rattle.dev_disk.specs.declared.twin.Twin.{Twin}
use Rattle.dev_disk.specs.Files.{Files}
use Rattle.dev_disk.specs.Calls.{IsOpen}
use Rattle.dev_disk.specs.Disks.{DiskTold, open_bytes}
use Rattle.dev_store.specs.declared.layout.PhysicalPart.{PhysicalPart}
use Rattle.dev_store.specs.declared.layout.SuperPart.{SuperPart}
use Rattle.dev_store.specs.declared.state.State.{State}
use Rattle.dev_store.specs.declared.states_read.StateRead.{StateRead}
use Rattle.dev_store.specs.declared.super_read.SuperRead.{SuperRead}
use Rattle.dev_store.specs.declared.image_read.ImageRead.{ImageRead}
use Rattle.dev_store.specs.Laid.{IsLaid}
use Rattle.dev_store.specs.Layouts.{LayoutValue, layout_in, image_size, parts_end}
use Rattle.dev_store.specs.Held.{Held, device_held, image_of, IsWhole, IsKept}
use Rattle.dev_store.specs.Supers.{are_good_units}
use Rattle.dev_store.specs.Stand.{super_bytes, super_found, owned_by, owned_in, physical_at}
use Rattle.dev_store.specs.Repairs.{SuperRepaired, IsRepaired}
use Rattle.dev_store.specs.States.{record_of, record_in, state_copy, is_state}
use Rattle.dev_store.specs.SuperReads.{IsSuperRead, IsMap, IsSpelled, HasRooms}
use Rattle.dev_store.specs.PartWrites.{IsImageOf}

-- where the two state records of an image lie
abbrev pub state_places : Twin
state_places = record { first = 4096; second = 8192; size = 4096 }

-- the records of both copies, and which of them was read
pub record IsChosen (first second : Option (ℕ × State)) (r : StateRead) : Type 0 where
  pub found : (if r.second then second else first) ≡ Some (r.version, r.state)
  pub before : r.second ≡ true → first ≡ None
  pub alike : r.alike ≡ true → (if r.second then first else second) ≡ Some (2, r.state)

-- the record that was read of a file
abbrev pub IsStateRead : ℕ → StateRead → List ℕ → Type 0
IsStateRead slots r file = IsChosen (record_of slots (state_copy false file))
    (record_of slots (state_copy true file)) r

-- the copy that was read is as it was, and the other one has the state in version 2
pub record IsOtherMended (slots : ℕ) (r : StateRead) (file : List ℕ) : Type 0 where
  pub own : record_of slots (state_copy r.second file) ≡ Some (r.version, r.state)
  pub other : record_of slots (state_copy (not r.second) file) ≡ Some (2, r.state)

-- both records have the state in version 2
pub record AreStatesMended (slots : ℕ) (state : State) (file : List ℕ) : Type 0 where
  pub first : record_of slots (state_copy false file) ≡ Some (2, state)
  pub second : record_of slots (state_copy true file) ≡ Some (2, state)

-- the state is read still, in one of the versions
pub record IsStateLeft (slots : ℕ) (state : State) (file : List ℕ) : Type 0 where
  pub version : ℕ
  pub reads : record_in slots file ≡ Some (version, state)

-- where both records agreed, their state is read still, or the one that was being written
abbrev pub IsStateAround : ℕ → State → List ℕ → List ℕ → Type 0
IsStateAround slots state old new = (was : ℕ × State) →
    record_of slots (state_copy false old) ≡ Some was → record_of slots (state_copy true old) ≡ Some was →
    (record_in slots new ≡ Some was) ⊎ (record_in slots new ≡ Some (2, state))

-- the file has a layout, and is as long as it says
pub record IsFront (layout : LayoutValue) (file : List ℕ) : Type 0 where
  pub enough : nat_le 12288 (length file) ≡ true
  pub laid : layout_in file ≡ Some layout
  pub long : IsTrue (length file == image_size layout)

-- what was read of super is a good table of it, and a map of its units
pub record IsSuperSound (parts : List PhysicalPart) (s : SuperPart) (w : SuperRead) : Type 0 where
  pub mapped : IsMap s w
  pub good : IsTrue (are_good_units parts s (content w.table))
  pub spelled : IsSpelled s w
  pub rooms : HasRooms s w

-- super is read exactly where there is one
abbrev pub IsWithinSound : LayoutValue → Option SuperPart → Option SuperRead → Type 0
IsWithinSound layout None None = Unit {0}
IsWithinSound layout None (Some w) = ⊥
IsWithinSound layout (Some s) None = ⊥
IsWithinSound layout (Some s) (Some w) = IsSuperSound layout.physical s w

-- what was read of super is what the file has there
abbrev pub IsWithinRead : LayoutValue → Option SuperPart → Option SuperRead → List ℕ → Type 0
IsWithinRead layout (Some s) (Some w) file = IsSuperRead s (super_bytes layout s file) w
IsWithinRead layout part within file = Unit {0}

-- the copies in super were written anew, and nothing else changed
pub record IsSuperMade (layout : LayoutValue) (old new : List ℕ) : Type 0 where
  pub same_length : length new ≡ length old
  pub front : take (parts_end layout.physical) new ≡ take (parts_end layout.physical) old
  pub repaired : SuperRepaired layout layout.super_part old new

-- a repair of the copies in super failed: they say what they did, and nothing else changed
pub record IsSuperKept (layout : LayoutValue) (old new : List ℕ) : Type 0 where
  pub same_length : length new ≡ length old
  pub front : take (parts_end layout.physical) new ≡ take (parts_end layout.physical) old
  pub found : super_found layout layout.super_part new ≡ super_found layout layout.super_part old
  pub owns : (name : List ℕ) → owned_by layout layout.super_part new name ≡ owned_by layout layout.super_part
      old name

-- the path's file is told to be there
abbrev pub IsThere : Option Files → List ℕ → Type 0
IsThere None path = Unit {0}
IsThere (Some files) path = IsSome (files path)

-- the file of the path is open, and there
pub record IsFileOpen (told : DiskTold) (path : List ℕ) : Type 0 where
  pub opened : IsOpen told.files told.open_path path
  pub there : IsThere told.files path

-- There can be a device of what was read, whatever the bytes of its partitions.
pub record IsReadSound (r : ImageRead) : Type 0 where
  pub laid : IsLaid r.layout
  pub fits : IsTrue (is_state r.layout.slots r.found.state)
  pub super : IsWithinSound r.layout r.layout.super_part r.within

-- It was read of this file.
pub record IsImageRead (r : ImageRead) (file : List ℕ) : Type 0 where
  pub front : IsFront r.layout file
  pub state : IsStateRead r.layout.slots r.found file
  pub super : IsWithinRead r.layout r.layout.super_part r.within file

-- Its copies were written anew, and nothing else changed.
pub record IsMended (r : ImageRead) (file now : List ℕ) : Type 0 where
  pub repaired : IsRepaired file now
  pub parts : physical_at 12288 r.layout.physical now ≡ physical_at 12288 r.layout.physical file
  pub super : SuperRepaired r.layout r.layout.super_part file now

-- the table that was read
abbrev pub table_within : Option SuperRead → Option Content
table_within within = option_map (λ w. content w.table) within

-- the part of each logical partition in the map of units
abbrev pub parts_within : Option SuperRead → List ℕ
parts_within None = []
parts_within (Some w) = w.parts.items

-- the units of the logical partition of a name, by the table that was read
abbrev pub owned_within : Option SuperPart → Option SuperRead → List ℕ → List ℕ
owned_within (Some s) (Some w) name = owned_in s (Some (content w.table)) name
owned_within part within name = []

-- the store of a disk, a layout, a state and what stands in super
abbrev pub held_by : {K : Type 0} → (K → DiskTold) → K → LayoutValue → State → Option SuperRead → Bool → Held K
held_by told disk layout state within broken = record {
  disk = disk;
  device = device_held layout state (table_within within) (open_bytes (told disk));
  owning = option_map (λ w. w.owners) within;
  parts = parts_within within;
  broken = broken;
}

-- the store that opening makes of it
abbrev pub held_of : {K : Type 0} → (K → DiskTold) → K → ImageRead → Held K
held_of told disk r = held_by told disk r.layout r.found.state r.within false

-- What holds of a store at all times. A broken one has a device that there can be, field by field as any
-- store: what its image stands for is said by the call that broke it.
pub record IsStored {K : Type 0} (told : K → DiskTold) (held : Held K) (layout : LayoutValue) (state : State)
    (within : Option SuperRead) (buffer : List ℕ) : Type 0 where
  pub valid : IsValid held.device
  pub opened : (told held.disk).open_length ≡ Some (image_size layout)
  pub kept : IsKept layout state (table_within within) (image_of told held)
  pub whole : held.broken ≡ false → IsWhole told held
  pub super : held.broken ≡ false → IsWithinSound layout layout.super_part within
  pub read : held.broken ≡ false → IfSome (image_of told held) (IsImageOf layout state (table_within within))
  pub room : length buffer ≡ 126976
