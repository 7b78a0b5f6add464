-- What a call of fbdevice comes to where nothing of the outside fails, by its words and the disk's files.
use Rattle.std.specs.Prelude.{ℕ, List, Option, Some, None, option_map, ◌++◌, codes, decimal}
use Rattle.dev_model.specs.declared.device.Dev.{Dev}
use Rattle.dev_disk.specs.Files.{Files}
use Rattle.device_jobs.specs.Outcomes.{Outcome, Shown, make_outcome, show_outcome, unlock_outcome, status_of}
use Rattle.device_jobs.specs.Printed.{text_of}
use Rattle.device_words.specs.declared.request.DeviceWords.{DeviceWords}
use Rattle.device_words.specs.declared.request.DeviceWords.TheVariants.{Make, Show, Unlock, Serve}

-- The words are refused; a job on a file comes to something; or the device of a file is served.
pub data Ending : Type 0 where
  Usage : Ending
  Job : Outcome → Ending
  Serving : Dev → Ending

-- a file that is served is opened as one that is shown
abbrev pub serves_as : Outcome → Ending
serves_as (Shown dev) = Serving dev
serves_as outcome = Job outcome

-- what the words come to, where the files are told or the words are refused
abbrev pub ending_of : Option DeviceWords → Option Files → Option Ending
ending_of None files = Some Usage
ending_of (Some (Make layout file unlocked)) files = option_map Job (make_outcome files layout)
ending_of (Some (Show file)) files = option_map Job (show_outcome files file)
ending_of (Some (Unlock file)) files = option_map Job (unlock_outcome files file)
ending_of (Some (Serve file port connections)) files = option_map serves_as (show_outcome files file)

-- the status of an ending
abbrev pub ending_status : Ending → ℕ
ending_status Usage = 1
ending_status (Job outcome) = status_of outcome
ending_status (Serving dev) = 0

abbrev pub usage_line : List ℕ
usage_line = codes "error usage\n"

abbrev pub gate_line : List ℕ
gate_line = codes "error gate\n"

-- how many connections were accepted
abbrev pub served_line : ℕ → List ℕ
served_line count = codes "served " ++ decimal count ++ codes "\n"

-- the lines of an ending, with so many connections accepted
abbrev pub ending_text : ℕ → Ending → List ℕ
ending_text count Usage = usage_line
ending_text count (Job outcome) = text_of outcome
ending_text count (Serving dev) = served_line count
