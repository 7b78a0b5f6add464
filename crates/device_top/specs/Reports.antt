-- The status of a call of fbdevice, and what it prints.
use Rattle.std.specs.Prelude.{◌≡◌, ◌⊎◌, ℕ, List, Option, Some, None}
use Rattle.fb_frame.specs.Causes.{Rose}
use Rattle.fb_frame.specs.Sinks.{Grew, GrewPart}
use Rattle.dev_disk.specs.Files.{Files}
use Rattle.device_jobs.specs.Outcomes.{NoFile}
use Rattle.device_jobs.specs.Jobs as jobs
use Rattle.device_jobs.specs.Printed.{memory_line, disk_line}
use Rattle.device_session.specs.Gates.{GateTold}
use Rattle.device_session.specs.Serving.{AcceptsCount}
use Rattle.device_words.specs.declared.request.DeviceWords.{DeviceWords}
use Rattle.device_words.specs.declared.request.DeviceWords.TheVariants.{Make, Show, Unlock, Serve}
use Rattle.device_top.specs.Endings.{Ending, Job, ending_of, ending_status, ending_text, gate_line}
use Rattle.device_top.specs.Endings.{served_line}

-- A call: what its words ask for, the files before it, where they are told, and its status.
pub record Call : Type 0 where
  pub asked : Option DeviceWords
  pub files : Option Files
  pub status : ℕ

abbrev pub call_of : Option DeviceWords → Option Files → ℕ → Call
call_of asked files status = record { asked = asked; files = files; status = status }

-- what the call comes to where nothing of the outside fails
abbrev pub ending : Call → Option Ending
ending call = ending_of call.asked call.files

-- Want of memory, or an output that failed; of words that are taken also a disk that failed, and of those
-- that serve a gate.
abbrev pub IsOutside : Option DeviceWords → ℕ → Type 0
IsOutside None status = (status ≡ 2) ⊎ (status ≡ 9)
IsOutside (Some (Serve file port connections)) status = (status ≡ 6) ⊎ jobs.IsOutside status
IsOutside (Some _) status = jobs.IsOutside status

-- the status of a file that is refused: a layout, or one that stands for no device
abbrev pub refusal_status : Option DeviceWords → ℕ
refusal_status None = 1
refusal_status (Some (Make layout file unlocked)) = 5
refusal_status (Some _) = 4

abbrev pub DecidedBy : Option Ending → Option DeviceWords → ℕ → Type 0
DecidedBy None asked status = (status ≡ 0) ⊎ (status ≡ refusal_status asked) ⊎ IsOutside asked status
DecidedBy (Some ending) asked status = (status ≡ ending_status ending) ⊎ IsOutside asked status

-- The status is that of the ending, where it is told, or one of the outside.
abbrev pub IsDecided : Call → Type 0
IsDecided call = DecidedBy (ending call) call.asked call.status

-- the disk failed, or the file of the words is told not to be there
abbrev pub IsDiskEnd : Call → ℕ → ℕ → Type 0
IsDiskEnd call before now = Rose before now ⊎ (ending call ≡ Some (Job NoFile))

-- a front of what would have been printed, without its last byte at least: of these lines, or of a fault's
abbrev pub IsCutShort : List ℕ → Option (List ℕ) → Option (List ℕ) → Type 0
IsCutShort lines old new = jobs.IsCutShort lines old new ⊎ GrewPart old new gate_line

-- the line of a fault, by the status
abbrev pub PrintsFault : ℕ → Option (List ℕ) → Option (List ℕ) → Type 0
PrintsFault status old new =
    ((status ≡ 2) × Grew old new memory_line)
    ⊎ ((status ≡ 3) × Grew old new disk_line)
    ⊎ ((status ≡ 6) × Grew old new gate_line)

-- the line of a serving that ended by itself
abbrev pub PrintsServed : Option DeviceWords → ℕ → ℕ → Option (List ℕ) → Option (List ℕ) → Type 0
PrintsServed (Some (Serve file port connections)) count status old new =
    status ≡ 0 → Grew old new (served_line count)
PrintsServed _ count status old new = Unit {0}

abbrev pub FaultLine : ℕ → Option (List ℕ) → Option (List ℕ) → Type 0
FaultLine status old new = jobs.IsReported None status old new × (status ≡ 6 → Grew old new gate_line)

-- The told text grew by the lines of the ending, or by the one line of a fault, as the status says. With
-- status 9 it grew by a front of them.
abbrev pub PrintsBy : Option Ending → ℕ → ℕ → Option (List ℕ) → Option (List ℕ) → Type 0
PrintsBy None count status old new = FaultLine status old new
PrintsBy (Some ending) count status old new =
    ((status ≡ ending_status ending) × Grew old new (ending_text count ending))
    ⊎ PrintsFault status old new
    ⊎ ((status ≡ 9) × IsCutShort (ending_text count ending) old new)

-- The call printed its lines, in which this many connections are counted.
pub record Prints (call : Call) (a b : GateTold) (old new : Option (List ℕ)) : Type 0 where
  pub count : ℕ
  pub counted : AcceptsCount count a b
  pub printed : PrintsBy (ending call) count call.status old new
  pub served : PrintsServed call.asked count call.status old new
