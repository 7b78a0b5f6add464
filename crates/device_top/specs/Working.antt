-- What the parts of a call answer and leave.
use Rattle.std.specs.Prelude.{◌≡◌, ◌⊎◌, ℕ, ◌≤◌, List, Option, Some, None, Result, Ok, Err, IfErr, IfSome}
use Rattle.std.specs.Prelude.{IsTrue}
use Rattle.fb_frame.specs.Causes.{Rose}
use Rattle.fb_frame.specs.Told.{Both}
use Rattle.dev_disk.specs.Disks.{DiskTold, open_bytes}
use Rattle.dev_model.specs.declared.device.Dev.{Dev}
use Rattle.dev_model.specs.Partitions.{is_fastboot}
use Rattle.dev_store.specs.Faults.{IsHonest}
use Rattle.dev_store.specs.Held.{Held, IsWhole}
use Rattle.dev_store.specs.Stand.{Stands}
use Rattle.dev_store.specs.Opening.{OpensImage, OpensTold, StandsAs, OnFile, OthersKept}
use Rattle.device_jobs.specs.declared.job.JobError.{JobError}
use Rattle.device_jobs.specs.Outcomes.{show_outcome}
use Rattle.device_jobs.specs.Printed.{memory_line, disk_line}
use Rattle.device_jobs.specs.Working.{IsStop, IsEarly, IsImageStop, Output, Ends, EndsBy, stop_status}
use Rattle.device_jobs.specs.Working.{stop_line}
use Rattle.device_session.specs.Gates.{GateTold}
use Rattle.device_session.specs.Serving.{AcceptsCount}
use Rattle.device_session.specs.declared.serving.ServeEnd.{ServeEnd}
use Rattle.device_session.specs.declared.serving.ServeEnd.TheVariants as ends
use Rattle.device_words.specs.declared.request.DeviceWords.{DeviceWords}
use Rattle.word_rules.specs.declared.error.WordsError.{WordsError}
use Rattle.word_rules.specs.declared.error.WordsError.TheVariants as words
use Rattle.device_top.specs.declared.report.ServeStop.{ServeStop}
use Rattle.device_top.specs.declared.report.ServeStop.TheVariants as stop
use Rattle.device_top.specs.Endings.{gate_line, served_line, usage_line}
use Rattle.device_top.specs.Reports.{Call, call_of, IsDecided, IsDiskEnd, Prints}
use Rattle.device_top.specs.Calls.{IsDone, Leaves, LeavesServing, KeepsDisk, KeepsGate, Listening, IsGateEnd}
use Rattle.device_top.specs.Calls.{Serves}
use Rattle.device_top.specs.Serving.{IsServed, serve_call}

-- status and line of words that ask for nothing
abbrev pub words_status : WordsError → ℕ
words_status words.Usage = 1
words_status words.Memory = 2

abbrev pub words_line : WordsError → List ℕ
words_line words.Usage = usage_line
words_line words.Memory = memory_line

-- how a serving ends that ended so, with this many connections accepted
abbrev pub ended_of : ServeEnd → ℕ → Result ℕ ServeStop
ended_of ends.Left count = Ok count
ended_of ends.Limit count = Ok count
ended_of ends.NoMore count = Ok count
ended_of ends.Gate count = Err stop.Gate
ended_of ends.Halted count = Err stop.Halted

-- the line of a serving was put, and its status answered
abbrev pub EndsServing : Result ℕ ServeStop → ℕ → Output → Output → Type 0
EndsServing (Ok count) status old new = Ends 0 (served_line count) status old new
EndsServing (Err (stop.Unopened error)) status old new =
    EndsBy (stop_status error) (stop_line error) status old new
EndsServing (Err stop.Gate) status old new = Ends 6 gate_line status old new
EndsServing (Err stop.Halted) status old new = Ends 3 disk_line status old new

-- the status of a serving whose device was opened
abbrev pub run_status : Result ℕ ServeStop → ℕ
run_status (Ok count) = 0
run_status (Err (stop.Unopened error)) = 2
run_status (Err stop.Gate) = 6
run_status (Err stop.Halted) = 3

-- The image wasn't opened, for this cause.
pub record IsUnopened (path : List ℕ) (error : JobError) (old new : DiskTold) : Type 0 where
  pub stops : IsStop (show_outcome old.files path) (Rose old.faults new.faults) error
  pub never : IsImageStop error
  pub early : IsEarly error → new.files ≡ old.files
  pub left : IsHonest new.torn → OnFile StandsAs old.files new.files path
  pub others : OthersKept old new path

-- The device of the image of a path is opened.
pub record IsOpened {K L : Type 0} (told : K → DiskTold) (lent : K → L) (old : K) (path : List ℕ)
    (held : Held K) : Type 0 where
  pub opens : OpensImage (told old) (told held.disk) path held.device
  pub starts : IsTrue (is_fastboot held.device.mode)
  pub whole : IsWhole told held
  pub same : lent held.disk ≡ lent old

-- how many connections were accepted
abbrev pub Counts : Result ℕ ServeStop → GateTold → GateTold → Type 0
Counts (Ok count) a b = AcceptsCount count a b
Counts (Err stopped) a b = (count : ℕ) × AcceptsCount count a b

-- why serving a device stopped: the gate failed, or the disk
abbrev pub IsServeStop : Type 0 → Type 0 → ServeStop → Type 0
IsServeStop gate disk (stop.Unopened error) = ⊥
IsServeStop gate disk stop.Gate = gate
IsServeStop gate disk stop.Halted = disk

-- A serving: the image's path, the port, how many connections are asked for, and how it ended.
pub record Service : Type 0 where
  pub path : List ℕ
  pub port : ℕ
  pub most : ℕ
  pub ended : Result ℕ ServeStop

abbrev pub service : List ℕ → ℕ → ℕ → Result ℕ ServeStop → Service
service path port most ended = record { path = path; port = port; most = most; ended = ended }

-- What serving an opened device did to gate and disk, by the image that is open.
pub record HasRun (dev : Dev) (s : Service) (old new : DiskTold) (gates : GateTold × GateTold) : Type 0 where
  pub serves : Both (IsServed
      (record { dev = dev; most = s.most; status = run_status s.ended; image = open_bytes new })
      (Rose old.faults new.faults) (IsHonest new.torn)) gates.0.connections gates.1.connections
  pub stands : IsHonest new.torn → IfSome (open_bytes new) (λ file. (left : Dev) × Stands file left)
  pub counted : Counts s.ended gates.0 gates.1
  pub kept : Listening s.port (run_status s.ended) gates.0 gates.1
  pub stops : IfErr s.ended
      (IsServeStop (Rose gates.0.unaccepted gates.1.unaccepted) (Rose old.faults new.faults))

-- What serving the image of a path did, whose device was opened.
pub record HasServed (s : Service) (old new : DiskTold) (a b : GateTold) : Type 0 where
  pub dev : Dev
  pub opens : OpensTold old.files s.path dev
  pub others : OthersKept old new s.path
  pub leaves : IsHonest new.torn → OnFile LeavesServing old.files new.files s.path
  pub serves : Both (IsServed (serve_call dev s.most (run_status s.ended) new.files s.path)
      (Rose old.faults new.faults) (IsHonest new.torn)) a.connections b.connections
  pub counted : Counts s.ended a b
  pub kept : Listening s.port (run_status s.ended) a b
  pub stops : IfErr s.ended (IsServeStop (Rose a.unaccepted b.unaccepted) (Rose old.faults new.faults))

-- What a serving did: nothing but opening where the image wasn't opened.
abbrev pub ServesFileBy : Result ℕ ServeStop → Service → DiskTold → DiskTold → GateTold × GateTold → Type 0
ServesFileBy (Err (stop.Unopened error)) s old new gates =
    IsUnopened s.path error old new × (gates.1 ≡ gates.0)
ServesFileBy _ s old new gates = HasServed s old new gates.0 gates.1

abbrev pub ServesFile : Service → DiskTold → DiskTold → GateTold × GateTold → Type 0
ServesFile s old new gates = ServesFileBy s.ended s old new gates

-- All that the objects of the outside tell.
pub record Sides : Type 1 where
  pub disk : DiskTold
  pub gate : GateTold
  pub output : Output

abbrev pub sides : DiskTold → GateTold → Output → Sides
sides disk gate output = record { disk = disk; gate = gate; output = output }

-- All that is so of a call, by what its words ask for.
pub record IsCall (asked : Option DeviceWords) (status : ℕ) (old new : Sides) : Type 0 where
  pub decided : IsDecided (call_of asked old.disk.files status)
  pub usage : status ≡ 1 → asked ≡ None
  pub disk : status ≡ 3 → IsDiskEnd (call_of asked old.disk.files status) old.disk.faults new.disk.faults
  pub gate : status ≡ 6 → IsGateEnd asked old.gate new.gate
  pub output : status ≡ 9 → Rose old.output.faults new.output.faults
  pub printed : Prints (call_of asked old.disk.files status) old.gate new.gate old.output.text new.output.text
  pub done : IsDone (call_of asked old.disk.files status) new.disk.files
  pub leaves : IsHonest new.disk.torn → Leaves asked old.disk.files new.disk.files
  pub others : KeepsDisk asked old.disk new.disk
  pub untouched : (status ≡ 1) ⊎ (status ≡ 4) ⊎ (status ≡ 5) → new.disk.files ≡ old.disk.files
  pub serves : Serves (call_of asked old.disk.files status) old.disk new.disk old.gate new.gate
  pub memory : status ≡ 2 → new.gate ≡ old.gate
  pub kept : KeepsGate asked status old.gate new.gate
  pub said : old.output.faults ≤ new.output.faults
