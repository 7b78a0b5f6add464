-- Opening and making device images, by paths on a disk.
use Rattle.std.specs.Prelude.{◌≡◌, ℕ, ◌≤◌, Bool, List, Option, Some, None, Result, Ok, Err}
use Rattle.fb_frame.specs.Told.{Both}
use Rattle.dev_model.specs.declared.bad_image.BadImage.{BadImage}
use Rattle.dev_model.specs.declared.device.Dev.{Dev}
use Rattle.dev_disk.specs.Files.{Files, KeepsOthers, StaysTorn}
use Rattle.dev_disk.specs.Calls.{IsOpen}
use Rattle.dev_disk.specs.Disks.{DiskTold}
use Rattle.dev_store.specs.Layouts.{LayoutValue}
use Rattle.dev_store.specs.Stand.{stand, Settled, owned}
use Rattle.dev_store.specs.Repairs.{IsRepaired}
use Rattle.dev_store.specs.NewDevice.{new_device}

-- the path is told to have no file
abbrev pub IsAbsent : Option Files → List ℕ → Type 0
IsAbsent None path = ⊥
IsAbsent (Some files) path = files path ≡ None

-- what a file stands for that may be there
abbrev pub StandsIn : Option (List ℕ) → Result Dev BadImage → Type 0
StandsIn None found = ⊥
StandsIn (Some file) found = stand file ≡ found

-- the told file of the path stands for no device, and this is the first thing that is wrong
abbrev pub IsBadImage : Option Files → List ℕ → BadImage → Type 0
IsBadImage None path bad = Unit {0}
IsBadImage (Some files) path bad = StandsIn (files path) (Err bad)

-- the told file of the path stood for the device, in the mode in which it opens
abbrev pub OpensTold : Option Files → List ℕ → Dev → Type 0
OpensTold None path dev = Unit {0}
OpensTold (Some files) path dev = StandsIn (files path) (Ok dev)

-- a settled image of the new device
pub record IsMade (layout : LayoutValue) (unlocked : Bool) (file : List ℕ) : Type 0 where
  pub stands : stand file ≡ Ok (new_device layout unlocked)
  pub settled : Settled file

abbrev pub MadeIn : LayoutValue → Bool → Option (List ℕ) → Type 0
MadeIn layout unlocked None = ⊥
MadeIn layout unlocked (Some file) = IsMade layout unlocked file

-- the told file of the path is one
abbrev pub Makes : Option Files → List ℕ → LayoutValue → Bool → Type 0
Makes None path layout unlocked = Unit {0}
Makes (Some files) path layout unlocked = MadeIn layout unlocked (files path)

-- a file stands for what another one does, and each partition has the same units
pub record StandsAs (file now : List ℕ) : Type 0 where
  pub stands : stand now ≡ stand file
  pub owns : (name : List ℕ) → owned now name ≡ owned file name

-- a relation of the file of a path before and after; it is there both times or never
abbrev pub InFile : (List ℕ → List ℕ → Type 0) → List ℕ → Files → Files → Type 0
InFile R path old new = Both R (old path) (new path)

-- the same of told files
abbrev pub OnFile : (List ℕ → List ℕ → Type 0) → Option Files → Option Files → List ℕ → Type 0
OnFile R old new path = Both (InFile R path) old new

-- The file of the path stood for the device, was repaired, and is open. No other file changed.
pub record OpensImage (old new : DiskTold) (path : List ℕ) (dev : Dev) : Type 0 where
  pub device : OpensTold old.files path dev
  pub repaired : OnFile IsRepaired old.files new.files path
  pub open_now : IsOpen new.files new.open_path path
  pub others : KeepsOthers old.files new.files path
  pub later : old.faults ≤ new.faults
  pub torn : StaysTorn old.torn new.torn

-- the file of the path stands for what it did
abbrev pub LeavesImage : DiskTold → DiskTold → List ℕ → Type 0
LeavesImage old new path = OnFile StandsAs old.files new.files path

-- No file changed but that of the path, if any.
pub record OthersKept (old new : DiskTold) (path : List ℕ) : Type 0 where
  pub others : KeepsOthers old.files new.files path
  pub later : old.faults ≤ new.faults
  pub torn : StaysTorn old.torn new.torn
