-- Worked examples: what whole calls come to, and what they print.
use Rattle.std.specs.Prelude.{◌≡◌, ℕ, List, [], ◌∷◌, ◌++◌, Option, Some, None, option_map, if◌then◌else◌}
use Rattle.std.specs.Prelude.{true, bytes_eq, codes, replicate, map}
use Rattle.fb_frame.specs.declared.slot.Slot.TheVariants.{B}
use Rattle.dev_model.specs.declared.bad_image.BadImage.TheVariants.{BadUnits}
use Rattle.dev_model.specs.declared.device.Dev.{Dev}
use Rattle.dev_model.specs.Examples.{plain, blocks}
use Rattle.dev_model.specs.Steps.{relocked}
use Rattle.wire_told.specs.Places.{ImageAt, Stand, Stands, Device, Bad, Nothing}
use Rattle.flash_plan.specs.declared.options.Options.{Options}
use Rattle.flash_plan.specs.declared.options.SlotChoice.{SlotChoice}
use Rattle.flash_plan.specs.declared.options.SlotChoice.TheVariants.{Current, Is}
use Rattle.flash_plan.specs.Examples.{with_slot_of}
use Rattle.flash_plan.specs.Files.{Files}
use Rattle.host_driver.specs.Printing.{joined}
use Rattle.host_words.specs.Requests.{FlashAll, GetVar, Sample}
use Rattle.host_top.specs.Outcomes.{Outcome, status_of_outcome, outcome_of, report}
use Rattle.host_top.specs.Verdicts.{NoPeer, last_line}

-- a line
abbrev pub line : List ℕ → List ℕ
line text = text ++ 10 ∷ []

-- a folder with both info files and one image
abbrev pub holding : List ℕ → List ℕ → List ℕ → Files
holding wanted tasks image name =
    if bytes_eq name (codes "android-info.txt") then Some wanted
    else (if bytes_eq name (codes "fastboot-info.txt") then Some tasks
    else (if bytes_eq name (codes "boot.img") then Some image else None))

abbrev pub version : List ℕ
version = line (codes "version 1")

abbrev pub flash_boot : List ℕ
flash_boot = version ++ line (codes "flash boot")

-- everywhere stands this
abbrev pub standing : Stand → Stands
standing stand place = Some stand

-- an installation from this folder on this device
abbrev pub installing : List ℕ → List ℕ → List ℕ → Dev → Option Outcome
installing wanted tasks image dev =
    outcome_of (Some (FlashAll (ImageAt (codes "DEV")) (codes "DIR") (with_slot_of Current)))
    (Some (codes "DIR")) (Some (holding wanted tasks image)) (standing (Device dev))

-- an installation for this slot, where the folder has this path and the target stands for this
abbrev pub installing_to : SlotChoice → List ℕ → Stand → Option Outcome
installing_to slot path stand =
    outcome_of (Some (FlashAll (ImageAt (codes "DEV")) (codes "DIR") (with_slot_of slot))) (Some path)
    (Some (holding [] flash_boot (blocks 1 1))) (standing stand)

abbrev pub asking : List ℕ → Dev → Option Outcome
asking name dev = outcome_of (Some (GetVar (ImageAt (codes "DEV")) name)) None None (standing (Device dev))

-- a device whose bootloader has this version
abbrev pub with_version : Dev → Dev
with_version dev = record dev { vars = record { name = codes "version-bootloader"; text = codes "1.3" } ∷ [] }

-- whether the requirements are met or not
abbrev pub forcing : Options
forcing = record (with_slot_of Current) { force = true }

-- what is printed, and the status
abbrev pub reported : Option Outcome → Option (List ℕ)
reported outcome = option_map report outcome

abbrev pub status : Option Outcome → Option ℕ
status outcome = option_map status_of_outcome outcome

-- the line of a variable, and all variables of this device
abbrev pub told : List ℕ → List ℕ
told text = line (codes "info: " ++ text)

abbrev pub all_told : List (List ℕ)
all_told =
    codes "version:0.4" ∷ codes "product:falcon" ∷ codes "serialno:S1" ∷ codes "secure:no"
    ∷ codes "unlocked:yes" ∷ codes "slot-count:0" ∷ codes "max-download-size:0x20000"
    ∷ codes "is-userspace:no" ∷ codes "partition-size:boot:0x4000" ∷ codes "partition-type:boot:raw"
    ∷ codes "is-logical:boot:no" ∷ codes "has-slot:boot:no" ∷ []

-- installations, each with all its lines
pub record FlashRows : Type 0 where
  pub done : reported (installing [] flash_boot (blocks 1 0x11) (plain (blocks 4 0xEE)))
      ≡ Some (line (codes "flash boot 4096") ++ line (codes "reboot system") ++ line (codes "done 2"))
  pub done_status : status (installing [] flash_boot (blocks 1 0x11) (plain (blocks 4 0xEE))) ≡ Some 0
  pub empty : reported (installing [] flash_boot [] (plain (blocks 4 0xEE)))
      ≡ Some (line (codes "error product boot.img Empty at 0"))
  pub too_large : reported (installing [] flash_boot (blocks 5 1) (plain (blocks 4 0xEE)))
      ≡ Some (line (codes "error refused image too large"))
  pub no_partition : reported
      (installing [] (version ++ line (codes "flash xyz boot.img")) (blocks 1 1) (plain (blocks 4 0)))
      ≡ Some (line (codes "error plan line 2 NoPartition"))
  pub locked : reported (installing [] flash_boot (blocks 1 1) (relocked (plain (blocks 4 0xEE))))
      ≡ Some (line (codes "error refused locked"))
  pub locked_status : status (installing [] flash_boot (blocks 1 1) (relocked (plain (blocks 4 0xEE))))
      ≡ Some 7
  pub locked_reboot : reported (installing [] version [] (relocked (plain (blocks 4 0xEE))))
      ≡ Some (line (codes "reboot system") ++ line (codes "done 1"))
  pub early : reported
      (installing [] (version ++ line (codes "reboot") ++ line (codes "flash boot")) (blocks 1 1)
      (plain (blocks 4 0)))
      ≡ Some (line (codes "error plan line 2 Reboot"))
  pub unmet : reported
      (installing (codes "require version-bootloader=1.2*") flash_boot (blocks 1 1) (plain (blocks 4 0)))
      ≡ Some (line (codes "error requirement line 1 version-bootloader none"))
  pub met : reported
      (installing (codes "require product=falcon") flash_boot (blocks 1 1) (plain (blocks 4 0)))
      ≡ Some (line (codes "flash boot 4096") ++ line (codes "reboot system") ++ line (codes "done 2"))
  pub other_value : reported
      (installing (codes "require version-bootloader=1.2*|2.0") flash_boot (blocks 1 1)
      (with_version (plain (blocks 4 0))))
      ≡ Some (line (codes "error requirement line 1 version-bootloader 1.3"))
  pub forced : status
      (outcome_of (Some (FlashAll (ImageAt (codes "DEV")) (codes "DIR") forcing)) None
      (Some (holding (codes "require version-bootloader=1.2*|2.0") flash_boot (blocks 1 1)))
      (standing (Device (with_version (plain (blocks 4 0)))))) ≡ Some 0
  pub bad_version : reported
      (installing [] (line (codes "version 2")) (blocks 1 1) (plain (blocks 4 0)))
      ≡ Some (line (codes "error product fastboot-info.txt line 1 BadVersion"))
  pub bad_line : reported
      (installing [] (version ++ line (codes "flash")) (blocks 1 1) (plain (blocks 4 0)))
      ≡ Some (line (codes "error product fastboot-info.txt line 2 BadLine"))
  pub no_file : reported
      (installing [] (version ++ line (codes "flash boot other.img")) (blocks 1 1) (plain (blocks 4 0)))
      ≡ Some (line (codes "error product other.img Absent"))
  pub no_version : reported (installing [] (line (codes "flash boot")) (blocks 1 1) (plain (blocks 4 0)))
      ≡ Some (line (codes "error product fastboot-info.txt line 1 NoVersion"))
  pub no_slot : reported (installing_to (Is B) (codes "DIR") (Device (plain (blocks 4 0))))
      ≡ Some (line (codes "error plan line 0 NoSlot"))
  pub elsewhere : reported (installing_to Current (codes "OTHER") Nothing)
      ≡ Some (line (codes "error directory DIR"))
  pub absent : reported (installing_to Current (codes "DIR") Nothing) ≡ Some (line (codes "error link"))
  pub bad : reported (installing_to Current (codes "DIR") (Bad BadUnits))
      ≡ Some (line (codes "error device BadUnits"))
  pub bad_status : status (installing_to Current (codes "DIR") (Bad BadUnits)) ≡ Some 11

-- questions, words that are refused, and a line with what was kept
pub record OtherRows : Type 0 where
  pub usage : reported (outcome_of None None None (standing Nothing)) ≡ Some (line (codes "error usage"))
  pub sample : reported (outcome_of (Some (Sample 1)) None None (standing Nothing))
      ≡ Some (line (codes "error usage"))
  pub product : reported (asking (codes "product") (plain (blocks 4 0))) ≡ Some (line (codes "falcon"))
  pub size : reported (asking (codes "partition-size:boot") (plain (blocks 4 0)))
      ≡ Some (line (codes "0x4000"))
  pub slot : reported (asking (codes "current-slot") (plain (blocks 4 0)))
      ≡ Some (line (codes "error refused unknown variable"))
  pub slot_status : status (asking (codes "current-slot") (plain (blocks 4 0))) ≡ Some 7
  pub all : reported (asking (codes "all") (plain (blocks 4 0)))
      ≡ Some (joined (map told all_told) ++ line [])
  pub peer : last_line (NoPeer (codes "HELO")) ≡ line (codes "error peer 48454c4f")
  pub long_peer : last_line (NoPeer (replicate 33 255))
      ≡ line (codes "error peer ffffffffffffffffffffffffffffffffffffffffffffffffffffffffffffffff")
