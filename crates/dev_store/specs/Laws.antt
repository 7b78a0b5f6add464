-- Laws of device images, which `laws` of this crate names.
use Rattle.std.specs.Option.{option_or}
use Rattle.std.specs.Prelude.{◌≡◌, ◌⊎◌, ℕ, Bool, List, Some, option_map, option_and_then, Ok, IsTrue}
use Rattle.std.specs.Prelude.{IsFalse, length, ◌==◌, ◌≢◌, ◌+◌, ◌≤◌}
use Rattle.dev_model.specs.declared.device.Dev.{Dev}
use Rattle.dev_model.specs.Partitions.{with_mode, is_userspace, is_super}
use Rattle.dev_model.specs.Validity.{IsValid}
use Rattle.dev_model.specs.Variables.{value, all_rows}
use Rattle.dev_model.specs.Refusals.{create_refusal, delete_refusal, resize_refusal, update_refusal}
use Rattle.unit_alloc.specs.Owning.{times_in}
use Rattle.super_meta.specs.Held.{tables_of_image}
use Rattle.dev_store.specs.declared.state.State.{State}
use Rattle.dev_store.specs.Laid.{IsLaid}
use Rattle.dev_store.specs.Layouts.{LayoutValue, layout_of, layout_in, image_size}
use Rattle.super_meta.specs.Contents.{Content}
use Rattle.dev_store.specs.declared.layout.SuperPart.{SuperPart}
use Rattle.dev_store.specs.Supers.{copy_reads, table_read}
use Rattle.dev_store.specs.States.{record_in, record_of, record_block, is_state}
use Rattle.dev_store.specs.Repairs.{IsRepaired}
use Rattle.dev_store.specs.Stand.{owned}
use Rattle.dev_store.specs.Stand.{SuperValue, Stands, Settled, stand, super_found, physical_at, device_with}
use Rattle.dev_store.specs.Changes.{error_text, range_flaw, create_flaw, delete_flaw, resize_flaw}
use Rattle.dev_store.specs.Changes.{install_flaw}
use Rattle.dev_store.specs.Held.{zeroed}
use Rattle.dev_store.specs.NewDevice.{made_image}
use Rattle.dev_store.specs.Opening.{IsMade}
use Rattle.dev_store.specs.StoreCalls.{names_of}
use Rattle.dev_disk.specs.Files.{unchanged}
use Rattle.dev_disk.specs.Honest.{ReadsAs}
use Rattle.dev_store.specs.Faults.{IsHonest}

-- Two devices for which a file stands are equal but for the mode.
abbrev pub StandsOnce : Type 0
StandsOnce = (file : List ℕ) (d e : Dev) → Stands file d → Stands file e → d ≡ with_mode d.mode e

-- What a file holds that stands for a device: a layout of the file's length, a state record, physical
-- partitions that are ranges of the file, and what the table of its super says.
pub record IsRead (file : List ℕ) (dev : Dev) : Type 0 where
  pub layout : LayoutValue
  pub laid : layout_in file ≡ Some layout
  pub long : IsTrue (length file == image_size layout)
  pub version : ℕ
  pub state : State
  pub recorded : record_in layout.slots file ≡ Some (version, state)
  pub super : SuperValue
  pub tabled : super_found layout layout.super_part file ≡ Ok super
  pub device : dev ≡ device_with layout state (physical_at 12288 layout.physical file) super

-- A file stands for a device only by these parts.
abbrev pub StandsByParts : Type 0
StandsByParts = (file : List ℕ) (dev : Dev) → stand file ≡ Ok dev → IsRead file dev

-- An unlocked device in userspace refuses a command for a partition as the store refuses the change.
abbrev pub CreateRefuses : Type 0
CreateRefuses = (dev : Dev) (name : List ℕ) (size : ℕ) → IsFalse dev.locked → IsTrue (is_userspace dev.mode) →
    create_refusal dev name size ≡ option_map error_text (create_flaw dev name size)

abbrev pub DeleteRefuses : Type 0
DeleteRefuses = (dev : Dev) (name : List ℕ) → IsFalse dev.locked → IsTrue (is_userspace dev.mode) →
    delete_refusal dev name ≡ option_map error_text (delete_flaw dev name)

abbrev pub ResizeRefuses : Type 0
ResizeRefuses = (dev : Dev) (name : List ℕ) (size : ℕ) → IsFalse dev.locked → IsTrue (is_userspace dev.mode) →
    resize_refusal dev name size ≡ option_map error_text (resize_flaw dev name size)

-- and so it does for a downloaded file of tables, where the name is super's
abbrev pub InstallRefuses : Type 0
InstallRefuses = (dev : Dev) (file name : List ℕ) (wipe : Bool) → IsFalse dev.locked →
    IsTrue (is_userspace dev.mode) →
    IsTrue (is_super dev name) →
    update_refusal dev (Some file) (option_and_then tables_of_image (Some file)) name wipe
    ≡ option_map error_text (install_flaw (tables_of_image file) wipe dev)

-- Failed writes that change nothing keep the premise on failed writes.
abbrev pub UnchangedIsHonest : Type 0
UnchangedIsHonest = IsHonest unchanged

-- A file that was repaired stands for what it did, and nothing is left to repair.
abbrev pub RepairedStands : Type 0
RepairedStands = (file now : List ℕ) (dev : Dev) → stand file ≡ Ok dev → IsRepaired file now →
    (stand now ≡ Ok dev) × Settled now

-- Repairs leave each partition its units.
abbrev pub RepairedOwns : Type 0
RepairedOwns = (file now name : List ℕ) → IsRepaired file now → owned now name ≡ owned file name

-- The record of a state is read as that state.
abbrev pub RecordAgain : Type 0
RecordAgain = (slots : ℕ) (s : State) → IsTrue (is_state slots s) →
    record_of slots (record_block 2 s) ≡ Some (2, s)

-- While a state is written over the first of two records that agree, and then over the second, one of both
-- states is read.
abbrev pub OneStateReads : Type 0
OneStateReads = (slots : ℕ) (first second : List ℕ) (old new : ℕ × State) →
    record_of slots second ≡ Some old →
    ReadsAs (Some old) (Some new) (record_of slots first) →
    (option_or (record_of slots first) (record_of slots second) ≡ Some old)
    ⊎ (option_or (record_of slots first) (record_of slots second) ≡ Some new)

-- The same of the table's first copy and its backup.
abbrev pub OneTableReads : Type 0
OneTableReads = (s : SuperPart) (super : List ℕ) (old new : Content) → copy_reads s s.slots super ≡ Some old →
    ReadsAs (Some old) (Some new) (copy_reads s 0 super) →
    (table_read s super ≡ Some old) ⊎ (table_read s super ≡ Some new)

-- Over a disk that tells no bytes a device with zeros stands for any of the same lengths: what calls refuse
-- is the same.
pub record ZeroedRefuses : Type 0 where
  pub range : (dev : Dev) (name : List ℕ) (at count : ℕ) →
      range_flaw (zeroed dev) name at count ≡ range_flaw dev name at count
  pub delete : (dev : Dev) (name : List ℕ) → delete_flaw (zeroed dev) name ≡ delete_flaw dev name
  pub resize : (dev : Dev) (name : List ℕ) (size : ℕ) →
      resize_flaw (zeroed dev) name size ≡ resize_flaw dev name size
  pub create : (dev : Dev) (name : List ℕ) (size : ℕ) →
      create_flaw (zeroed dev) name size ≡ create_flaw dev name size

-- A layout that a text gives keeps the conditions of its lines.
abbrev pub LaidValid : Type 0
LaidValid = (text : List ℕ) (layout : LayoutValue) → layout_of text ≡ Ok layout → IsLaid layout

-- A file stands for devices alone that there can be.
abbrev pub StandsValid : Type 0
StandsValid = (file : List ℕ) (dev : Dev) → stand file ≡ Ok dev → IsValid dev

-- Partitions of different names share no unit, and none has one twice.
abbrev pub OwnsOnce : Type 0
OwnsOnce = (file : List ℕ) (dev : Dev) (name other : List ℕ) (unit : ℕ) → stand file ≡ Ok dev → name ≢ other →
    times_in unit (owned file name) + times_in unit (owned file other) ≤ 1

-- The image that is made for a layout stands for the new device, and nothing is left to repair.
abbrev pub MadeStands : Type 0
MadeStands = (text : List ℕ) (layout : LayoutValue) (unlocked : Bool) → layout_of text ≡ Ok layout →
    IsMade layout unlocked (made_image layout unlocked)

-- What a device with zeros tells.
pub record TellsSame (dev now : Dev) : Type 0 where
  pub value : (name : List ℕ) → value now name ≡ value dev name
  pub all : all_rows now ≡ all_rows dev
  pub names : names_of now ≡ names_of dev

-- A device with zeros tells what the device does.
abbrev pub ZeroedTells : Type 0
ZeroedTells = (dev : Dev) → TellsSame dev (zeroed dev)
