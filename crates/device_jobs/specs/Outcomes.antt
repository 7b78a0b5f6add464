-- What a job on a device image comes to where nothing of the outside fails, by the disk's files.
use Rattle.std.specs.Prelude.{ℕ, false, List, Option, Some, None, Result, Ok, Err, codes, if◌then◌else◌}
use Rattle.dev_model.specs.declared.bad_image.BadImage.{BadImage}
use Rattle.dev_model.specs.declared.device.Dev.{Dev}
use Rattle.dev_model.specs.Partitions.{with_bytes}
use Rattle.dev_model.specs.Steps.{wiped}
use Rattle.dev_disk.specs.Files.{Files}
use Rattle.dev_store.specs.declared.layout.LayoutError.{LayoutError}
use Rattle.dev_store.specs.Layouts.{LayoutValue, layout_of}
use Rattle.dev_store.specs.Stand.{stand}

-- The file of the words isn't there; a layout text is refused; a file stands for no device; an image is made
-- of a layout; the device of an image is shown, or unlocked (as it was before).
pub data Outcome : Type 0 where
  NoFile : Outcome
  BadLayout : LayoutError → Outcome
  BadDevice : BadImage → Outcome
  Made : LayoutValue → Outcome
  Shown : Dev → Outcome
  Unlocked : Dev → Outcome

abbrev pub laid_as : Result LayoutValue LayoutError → Outcome
laid_as (Ok layout) = Made layout
laid_as (Err bad) = BadLayout bad

-- an image of a layout's file
abbrev pub laid : Option (List ℕ) → Outcome
laid None = NoFile
laid (Some text) = laid_as (layout_of text)

abbrev pub opened_as : (Dev → Outcome) → Result Dev BadImage → Outcome
opened_as done (Ok dev) = done dev
opened_as done (Err bad) = BadDevice bad

-- the device of an image file
abbrev pub opened : (Dev → Outcome) → Option (List ℕ) → Outcome
opened done None = NoFile
opened done (Some file) = opened_as done (stand file)

-- the outcome by the told file of a path
abbrev pub told_as : (Option (List ℕ) → Outcome) → Option Files → List ℕ → Option Outcome
told_as come None path = None
told_as come (Some files) path = Some (come (files path))

-- what each job comes to, where the files are told
abbrev pub make_outcome : Option Files → List ℕ → Option Outcome
make_outcome files layout = told_as laid files layout

abbrev pub show_outcome : Option Files → List ℕ → Option Outcome
show_outcome files path = told_as (opened Shown) files path

abbrev pub unlock_outcome : Option Files → List ℕ → Option Outcome
unlock_outcome files path = told_as (opened Unlocked) files path

-- the status of an outcome
abbrev pub status_of : Outcome → ℕ
status_of NoFile = 3
status_of (BadLayout bad) = 5
status_of (BadDevice bad) = 4
status_of (Made layout) = 0
status_of (Shown dev) = 0
status_of (Unlocked dev) = 0

-- the device that unlocking leaves: unlocked, with each byte of `userdata` 0xFF; one that was unlocked
-- stays as it is
abbrev pub unlocked_device : Dev → Dev
unlocked_device dev =
    if dev.locked then record (with_bytes (codes "userdata") wiped dev) { locked = false } else dev
