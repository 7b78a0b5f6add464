-- What an installation comes to: why it ended, what it left, what it printed and what it sent.
use Rattle.std.specs.Prelude.{◌≡◌, ◌⊎◌, ℕ, ◌+◌, ◌-◌, ◌≤◌, List, [], length, flat_map, Option, None, Result}
use Rattle.std.specs.Prelude.{Ok, Err}
use Rattle.std.specs.Prelude.{IsFalse, false, slice_get, Some}
use Rattle.fb_frame.specs.Causes.{Rose}
use Rattle.fb_frame.specs.Sinks.{Grew}
use Rattle.dev_model.specs.declared.device.Dev.{Dev}
use Rattle.dev_model.specs.declared.device.Mode.TheVariants.{Halted}
use Rattle.product_info.specs.declared.requirement.Requirement.{Requirement}
use Rattle.wire_told.specs.Answered.{Sound}
use Rattle.wire_told.specs.Ports.{Kept}
use Rattle.wire_told.specs.Told.{IsBarred}
use Rattle.flash_plan.specs.declared.product.Product.{Product}
use Rattle.flash_plan.specs.Products.{image_file}
use Rattle.host_driver.specs.declared.drive.Done.{Done}
use Rattle.host_driver.specs.declared.drive.DriveError.{DriveError}
use Rattle.host_driver.specs.declared.drive.DriveError.TheVariants as stop
use Rattle.host_driver.specs.Driven.{made, LeavesBy, Succeeds, RefusedBy, IsHaltedNow, IsUnmet, IsUnplanned}
use Rattle.host_driver.specs.Driven.{PutsNext, RoseBy, Spent, IsUnmeetable, IsUndone}
use Rattle.host_driver.specs.HeardLast.{HeardBy}
use Rattle.host_driver.specs.Jobs.{Outside, Folder, Order, Job, Course, OfTold, OnJob}
use Rattle.host_driver.specs.Printing.{Prints}
use Rattle.host_driver.specs.Wires.{IsWire, LogGrew}

-- the counts of faults of the port, the folder and the output
pub record Counts : Type 0 where
  pub port : ℕ
  pub folder : ℕ
  pub output : ℕ

-- those before a call and after it
pub record Moved : Type 0 where
  pub before : Counts
  pub now : Counts

abbrev pub counts_of : Outside → Counts
counts_of o = record { port = o.port.faults; folder = o.folder.faults; output = o.unput }

abbrev pub moved : Outside → Outside → Moved
moved old new = record { before = counts_of old; now = counts_of new }

-- a call of the port failed, or one of the folder, or one of the output
abbrev pub LinkFailed : Moved → Type 0
LinkFailed m = Rose m.before.port m.now.port

abbrev pub FolderFailed : Moved → Type 0
FolderFailed m = Rose m.before.folder m.now.folder

abbrev pub OutputFailed : Moved → Type 0
OutputFailed m = Rose m.before.output m.now.output

-- the product has this requirement
pub record IsLineOf (product : Product) (line : ℕ) (name : List ℕ) : Type 0 where
  pub place : ℕ
  pub requirement : Requirement
  pub there : slice_get product.requirements place ≡ Some requirement
  pub line_is : requirement.line ≡ line
  pub name_is : requirement.name ≡ name

-- the product has an image of this file
pub record IsImageOf (product : Product) (file : List ℕ) : Type 0 where
  pub place : ℕ
  pub there : slice_get (flat_map image_file product.tasks) place ≡ Some file

-- Why an installation ended so, over any port and any folder. `attempts` is how many were begun.
abbrev pub Why : Order → Outside → Outside → ℕ → Result Done DriveError → Type 0
Why order old new attempts (Ok done) = done.attempts ≡ attempts
Why order old new attempts (Err stop.Memory) = Unit {0}
Why order old new attempts (Err (stop.Directory file)) =
    FolderFailed (moved old new) × IsImageOf order.product file
Why order old new attempts (Err stop.Output) = OutputFailed (moved old new)
Why order old new attempts (Err stop.Link) =
    (LinkFailed (moved old new) ⊎ IsBarred old.port.peer) × (attempts ≡ order.options.retries + 1)
Why order old new attempts (Err stop.Ended) =
    (old.port.peer ≡ None) × Rose old.port.ends new.port.ends × (attempts ≡ order.options.retries + 1)
Why order old new attempts (Err (stop.Refused text)) = Unit {0}
Why order old new attempts (Err (stop.Peer kept)) = old.port.peer ≡ None
Why order old new attempts (Err stop.TooManyInfos) = old.port.peer ≡ None
Why order old new attempts (Err (stop.Requirement line name value)) =
    (order.options.force ≡ false) × IsLineOf order.product line name
Why order old new attempts (Err (stop.Plan line kind)) = Unit {0}

-- Why an installation over a told device and a told folder ended so.
abbrev pub Caused : Job → Moved → List ℕ → Dev → Result Done DriveError → Type 0
Caused j m numbers t (Ok done) = Succeeds j numbers done t
Caused j m numbers t (Err stop.Memory) = Unit {0}
Caused j m numbers t (Err (stop.Directory file)) = FolderFailed m × PutsNext j numbers file
Caused j m numbers t (Err stop.Output) = OutputFailed m
Caused j m numbers t (Err stop.Link) =
    Spent m.before.port m.now.port (length numbers) j.device t × (1 ≤ length numbers)
    × IsUndone (made j) numbers
Caused j m numbers t (Err stop.Ended) = ⊥
Caused j m numbers t (Err (stop.Refused text)) =
    RefusedBy (made j) j.device numbers text t ⊎ IsHaltedNow m.before.port m.now.port text t
Caused j m numbers t (Err (stop.Peer kept)) = ⊥
Caused j m numbers t (Err stop.TooManyInfos) = ⊥
Caused j m numbers t (Err (stop.Requirement line name value)) = IsUnmet j line name value t
Caused j m numbers t (Err (stop.Plan line kind)) = IsUnplanned j line kind t

-- an end that comes also where no connection begins any more
abbrev pub MayGiveUp : Result Done DriveError → Type 0
MayGiveUp (Err stop.Link) = Unit {0}
MayGiveUp (Err stop.Output) = Unit {0}
MayGiveUp (Err stop.Memory) = Unit {0}
MayGiveUp _ = ⊥

-- Each attempt but the last failed by a fault, or no later one could begin.
abbrev pub Tried : Moved → Course → Dev → Dev → Type 0
Tried m course s t =
    RoseBy (length course.numbers - 1) m.before.port m.now.port
    ⊎ (MayGiveUp course.outcome × IsUnmeetable (LinkFailed m) s t)

-- a retry may be due after so many attempts: one is left, and each of them failed
abbrev pub MayRetry : Job → Moved → Dev → ℕ → Type 0
MayRetry j m t attempts =
    (attempts ≤ j.options.retries) × Spent m.before.port m.now.port attempts j.device t

-- an end without a plan: a requirement isn't met, or no plan is made
abbrev pub IsPlanless : Result Done DriveError → Type 0
IsPlanless (Err (stop.Requirement line name value)) = Unit {0}
IsPlanless (Err (stop.Plan line kind)) = Unit {0}
IsPlanless _ = ⊥

-- What is known of a told device also where the folder tells no file.
pub record IsLed (m : Moved) (course : Course) (s t : Dev) : Type 0 where
  pub tried : Tried m course s t
  pub spent : course.outcome ≡ Err stop.Link → Spent m.before.port m.now.port (length course.numbers) s t
  pub still : IsPlanless course.outcome → t ≡ s
  pub halted : t.mode ≡ Halted → (s.mode ≡ Halted) ⊎ LinkFailed m

-- over a port that tells no device, each attempt but the last failed by a fault or met the connection's end
pub record TriedUntold (times : ℕ) (old new : Outside) : Type 0 where
  pub faults : ℕ
  pub ends : ℕ
  pub all : faults + ends ≡ times
  pub failed : RoseBy faults old.port.faults new.port.faults
  pub ended : RoseBy ends old.port.ends new.port.ends

-- what is known of a job over a told device
pub record Drove (j : Job) (old new : Outside) (course : Course) (t : Dev) : Type 0 where
  pub caused : Caused j (moved old new) course.numbers t course.outcome
  pub left : LeavesBy (made j) j.device course.numbers t
  pub prints : Prints j (MayRetry j (moved old new) t) course (Grew old.text new.text) t
  pub wired : (done : Done) → course.outcome ≡ Ok done → done.attempts ≡ 1 →
      LogGrew old.port.log new.port.log (IsWire j)

-- the folder is as it was, and its count never falls
pub record StillFolder (old new : Folder) : Type 0 where
  pub path : new.path ≡ old.path
  pub files : new.files ≡ old.files
  pub entered : new.entered ≡ old.entered
  pub later : old.faults ≤ new.faults

-- a told text grew
pub record Grows (before now : Option (List ℕ)) : Type 0 where
  pub more : List ℕ
  pub grew : Grew before now more

-- What an installation comes to.
pub record Drives (order : Order) (old new : Outside) (course : Course) : Type 0 where
  pub begun : course.numbers ≡ [] → course.outcome ≡ Err stop.Memory
  pub few : length course.numbers ≤ order.options.retries + 1
  pub why : Why order old new (length course.numbers) course.outcome
  pub heard : HeardBy new.port course.outcome
  pub device : OfTold old.port.peer new.port.peer (IsLed (moved old new) course)
  pub untold : old.port.peer ≡ None → TriedUntold (length course.numbers - 1) old new
  pub job : OnJob order old new (λ j t. Drove j old new course t)
  pub grows : Grows old.text new.text
  pub kept : Kept old.port new.port
  pub down : IsFalse new.port.up
  pub sound : Sound new.port.peer
  pub folder : StillFolder old.folder new.folder
  pub shown_later : old.unput ≤ new.unput
