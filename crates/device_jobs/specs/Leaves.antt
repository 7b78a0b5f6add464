-- What a job leaves of the files.
use Rattle.std.specs.Prelude.{◌≡◌, ◌⊎◌, ℕ, Bool, IsTrue, List, length, Option, Some, None, Result, Ok, Err, codes}
use Rattle.dev_model.specs.declared.bad_image.BadImage.{BadImage}
use Rattle.dev_model.specs.declared.device.Dev.{Dev}
use Rattle.dev_disk.specs.Files.{Files}
use Rattle.dev_store.specs.Stand.{stand, Settled}
use Rattle.dev_store.specs.StoreCalls.{IsPartly, part_bytes}
use Rattle.dev_store.specs.Opening.{Makes}
use Rattle.device_jobs.specs.Outcomes.{Outcome, Made, Shown, Unlocked, unlocked_device}

-- a file that stands for this device, with nothing left to repair
pub record IsLeft (dev : Dev) (file : List ℕ) : Type 0 where
  pub stands : stand file ≡ Ok dev
  pub settled : Settled file

abbrev pub LeftIn : Dev → Option (List ℕ) → Type 0
LeftIn dev None = ⊥
LeftIn dev (Some file) = IsLeft dev file

-- the told file of the path is one
abbrev pub LeavesDevice : Dev → Option Files → List ℕ → Type 0
LeavesDevice dev None path = Unit {0}
LeavesDevice dev (Some files) path = LeftIn dev (files path)

-- The image of the path is that of a new device, of the device that was shown, or of the unlocked one.
abbrev pub IsMadeFor : Option Outcome → Bool → Option Files → List ℕ → Type 0
IsMadeFor None unlocked files path = Unit {0}
IsMadeFor (Some (Made layout)) unlocked files path = Makes files path layout unlocked
IsMadeFor (Some _) unlocked files path = ⊥

abbrev pub IsDone : Option Outcome → Option Files → List ℕ → Type 0
IsDone None files path = Unit {0}
IsDone (Some (Shown dev)) files path = LeavesDevice dev files path
IsDone (Some (Unlocked dev)) files path = LeavesDevice (unlocked_device dev) files path
IsDone (Some _) files path = ⊥

-- What unlocking leaves of a device, whether it was cut off or not: the device as it was; or, of one that was
-- locked, the same but for any bytes in `userdata`, or the unlocked one with each byte there 0xFF.
abbrev pub IsUnlocking : Dev → Dev → Type 0
IsUnlocking dev t =
    (t ≡ dev)
    ⊎ (IsTrue dev.locked × (IsPartly (codes "userdata") 0 (length (part_bytes (codes "userdata") dev)) dev t
    ⊎ (t ≡ unlocked_device dev)))

abbrev pub StandsUnlocking : Result Dev BadImage → Result Dev BadImage → Type 0
StandsUnlocking (Err bad) now = now ≡ Err bad
StandsUnlocking (Ok dev) (Err bad) = ⊥
StandsUnlocking (Ok dev) (Ok t) = IsUnlocking dev t

-- what a file stands for, before and after
abbrev pub LeavesUnlocking : List ℕ → List ℕ → Type 0
LeavesUnlocking file now = StandsUnlocking (stand file) (stand now)
