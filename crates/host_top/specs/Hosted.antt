-- What a call of fbflash comes to.
use Rattle.std.specs.Prelude.{◌≡◌, ◌⊎◌, ℕ, ◌+◌, ◌<◌, ◌≤◌, true, false, IsFalse, List, ◌++◌, length, map, take}
use Rattle.std.specs.Prelude.{Option, Some, None, IfSome, Result, Ok, Err}
use Rattle.fb_frame.specs.Causes.{Rose}
use Rattle.fb_frame.specs.Sinks.{Grew}
use Rattle.dev_model.specs.declared.device.Dev.{Dev}
use Rattle.dev_model.specs.declared.device.Mode.TheVariants.{Halted}
use Rattle.dev_model.specs.declared.step.Step.{Step}
use Rattle.dev_model.specs.Partitions.{is_fastboot}
use Rattle.dev_model.specs.Steps.{run}
use Rattle.wire_told.specs.Peers.{Peer, device_of}
use Rattle.wire_told.specs.Places.{Place, Stand, Device, Bad, Nothing, IsNothing}
use Rattle.wire_told.specs.Ports.{IsAstray}
use Rattle.flash_plan.specs.declared.options.Options.{Options}
use Rattle.flash_plan.specs.declared.product.Product.{Product}
use Rattle.flash_plan.specs.Files.{Files}
use Rattle.flash_plan.specs.Products.{Fault, product_of}
use Rattle.host_driver.specs.declared.drive.Done.{Done as DoneSo}
use Rattle.host_driver.specs.declared.drive.DriveError.{DriveError}
use Rattle.host_driver.specs.Driven.{made, LeavesBy, RefusedBy, IsHaltedNow, RoseBy}
use Rattle.host_driver.specs.Driving.{moved, MayRetry, Grows, LinkFailed, FolderFailed, OutputFailed}
use Rattle.host_driver.specs.Jobs.{Outside, Job, job, order, Has, last_in}
use Rattle.host_driver.specs.Printing.{Lines, Attempt, in_order, steps_in, text_of, lines_of, next_line}
use Rattle.host_driver.specs.Printing.{retry_line}
use Rattle.host_driver.specs.Wires.{IsWire, LogGrew}
use Rattle.host_words.specs.Requests.{Request, FlashAll, GetVar, Sample, target_of}
use Rattle.host_top.specs.Completing.{Completes}
use Rattle.host_top.specs.Ending.{Ends, IsSamePort, IsTurned}
use Rattle.host_top.specs.Outcomes.{Outcome, outcome_of, status_of_outcome}
use Rattle.host_top.specs.Subjects.{IsRefused, IsElsewhere, KeepsBeside}
use Rattle.host_top.specs.Verdicts.{Verdict, Refusing, status_of, last_line, verdict_of}

-- A relation of the device that a target stands for and the device that the port tells, where both are told.
abbrev pub OfStand : Option Stand → Option Peer → (Dev → Dev → Type 0) → Type 0
OfStand None b R = Unit {0}
OfStand (Some Nothing) b R = ⊥
OfStand (Some (Bad kind)) b R = ⊥
OfStand (Some (Device s)) None R = ⊥
OfStand (Some (Device s)) (Some b) R = R s (device_of b)

-- a fact of a product that was read
abbrev pub OfProduct : Result Product Fault → (Product → Type 0) → Type 0
OfProduct (Err fault) P = ⊥
OfProduct (Ok product) P = P product

-- a fact of told files and their product
abbrev pub OnFolder : Option Files → Options → (Files → Product → Type 0) → Type 0
OnFolder None options P = Unit {0}
OnFolder (Some files) options P = OfProduct (product_of files options.wipe) (P files)

-- a relation of the job that the words ask for and the device after it, where files, target and device are
-- told
abbrev pub OnJobOf : Option Request → Outside → Outside → (Job → Dev → Type 0) → Type 0
OnJobOf (Some (FlashAll place dir options)) old new R =
    OfStand (old.port.stands place) new.port.peer (λ s t. OnFolder old.folder.files options
    (λ files product. R (job (order product options) files s) t))
OnJobOf _ old new R = ⊥

-- the plan is made and its run is the device after
pub record Installed (j : Job) (t : Dev) : Type 0 where
  pub plan : List Step
  pub made_so : made j ≡ Some plan
  pub runs : run plan j.device ≡ Some t

-- the told device is what the target stands for
abbrev pub IsStill : Option Place → Outside → Outside → Type 0
IsStill None old new = Unit {0}
IsStill (Some place) old new = OfStand (old.port.stands place) new.port.peer (λ s t. t ≡ s)

-- The action is complete: the product is installed where the files and the target are told, or the device is
-- as it was.
abbrev pub Installs : Option Request → Outside → Outside → Type 0
Installs None old new = ⊥
Installs (Some (FlashAll place dir options)) old new =
    OnJobOf (Some (FlashAll place dir options)) old new Installed
Installs (Some (GetVar place name)) old new = IsStill (Some place) old new
Installs (Some (Sample n)) old new = ⊥

-- an end of an installation that is told by this last line
pub record IsLastLine (verdict : Verdict) : Type 0 where
  pub end : Result DoneSo DriveError
  pub tells : verdict_of end ≡ Some verdict

-- the text grew by that of the attempts and the last line, which tells the status
pub record IsWhole (lines : Lines) (attempts : List Attempt) (old new : Outside) (status : ℕ) : Type 0 where
  pub verdict : Verdict
  pub last : IsLastLine verdict
  pub status_is : status ≡ status_of verdict
  pub text : Grew old.text new.text (text_of lines attempts ++ last_line verdict)

-- a line that is due after these attempts: the next one of the last attempt, that of a retry where one may be
-- due after so many, or the last of all
abbrev pub IsDueLine : Lines → (ℕ → Type 0) → List Attempt → List ℕ → Type 0
IsDueLine lines MayRetry attempts line =
    Has (last_in attempts) (λ a. next_line lines a ≡ Some line)
    ⊎ (MayRetry (length attempts) × (line ≡ retry_line (length attempts)))
    ⊎ ((verdict : Verdict) × IsLastLine verdict × (line ≡ last_line verdict))

-- the text grew by that of the attempts, and by a front of a line that is due that lacks at least one byte
pub record IsCut (j : Job) (attempts : List Attempt) (old new : Outside) (t : Dev) : Type 0 where
  pub line : List ℕ
  pub due : IsDueLine (lines_of j) (MayRetry j (moved old new) t) attempts line
  pub n : ℕ
  pub short : n < length line
  pub text : Grew old.text new.text (text_of (lines_of j) attempts ++ take n line)

-- What a broken, refused or whole installation left, by the numbers of step lines that were printed, and the
-- text, which is that of its attempts and then the last line, or at status 9 a front of what was due that
-- lacks at least one byte.
pub record LeftBehind (old new : Outside) (status : ℕ) (j : Job) (t : Dev) : Type 0 where
  pub attempts : List Attempt
  pub ordered : in_order false attempts ≡ true
  pub few : length attempts ≤ j.options.retries + 1
  pub left : LeavesBy (made j) j.device (map steps_in attempts) t
  pub text : IsWhole (lines_of j) attempts old new status ⊎ ((status ≡ 9) × IsCut j attempts old new t)

-- The port wasn't used, or wasn't aimed, so that targets stand for what they did; or it was aimed at the
-- words' target and tells what the attempts left, or a device as it was.
abbrev pub Leaves : Option Request → Outside → Outside → ℕ → Type 0
Leaves (Some (FlashAll place dir options)) old new status =
    IsSamePort old.port new.port
    ⊎ IsAstray old.port new.port place
    ⊎ (IsTurned place old new
    × OnJobOf (Some (FlashAll place dir options)) old new (LeftBehind old new status))
Leaves (Some (GetVar place name)) old new status =
    IsSamePort old.port new.port
    ⊎ IsAstray old.port new.port place
    ⊎ (IsTurned place old new × IsStill (Some place) old new)
Leaves _ old new status = IsSamePort old.port new.port

-- Status 7 over a told device: the next step is refused with the printed text after the printed steps, or the
-- device halted in this call.
pub record RefusesOf (old new : Outside) (j : Job) (t : Dev) : Type 0 where
  pub attempts : List Attempt
  pub text : List ℕ
  pub refused : RefusedBy (made j) j.device (map steps_in attempts) text t
      ⊎ IsHaltedNow old.port.faults new.port.faults text t
  pub printed : Grew old.text new.text (text_of (lines_of j) attempts ++ last_line (Refusing text))

abbrev pub Refuses : Option Request → Outside → Outside → Type 0
Refuses (Some (FlashAll place dir options)) old new =
    OnJobOf (Some (FlashAll place dir options)) old new (RefusesOf old new)
Refuses _ old new = Unit {0}

-- Status 6: each attempt at a told device failed by a fault, or the device left fastboot or halted after one;
-- or a port that tells no device met an end; or the target stands for nothing.
abbrev pub SpentBy : ℕ → Place → Option Peer → Outside → Outside → Type 0
SpentBy retries place None old new =
    LinkFailed (moved old new) ⊎ Rose old.port.ends new.port.ends ⊎ IsNothing old.port.stands place
SpentBy retries place (Some b) old new =
    RoseBy (retries + 1) old.port.faults new.port.faults
    ⊎ (LinkFailed (moved old new) × IsFalse (is_fastboot (device_of b).mode))

abbrev pub Spends : Option Request → Outside → Outside → Type 0
Spends (Some (FlashAll place dir options)) old new = SpentBy options.retries place new.port.peer old new
Spends (Some (GetVar place name)) old new = SpentBy 0 place new.port.peer old new
Spends _ old new = ⊥

-- what is sent by an installation that is done without retries
abbrev pub Wires : Option Request → Outside → Outside → Type 0
Wires (Some (FlashAll place dir options)) old new =
    options.retries ≡ 0 → OnJobOf (Some (FlashAll place dir options)) old new
    (λ j t. LogGrew old.port.log new.port.log (IsWire j))
Wires _ old new = Unit {0}

-- the told device halted only where a disk call failed in this call, unless the port wasn't used
abbrev pub Halts : Outside → Outside → Type 0
Halts old new =
    IfSome new.port.peer
    (λ b. (device_of b).mode ≡ Halted → LinkFailed (moved old new) ⊎ IsSamePort old.port new.port)

-- the statuses with which a port that has a target was aimed at it
abbrev pub IsAimedAt : ℕ → Type 0
IsAimedAt status = (status ≡ 0) ⊎ (status ≡ 5) ⊎ (status ≡ 7) ⊎ (status ≡ 8) ⊎ (status ≡ 10)

-- the port was aimed at the target, where there is one, or wasn't aimed at it
abbrev pub TurnsTo : Option Place → Outside → Outside → Type 0
TurnsTo None old new = Unit {0}
TurnsTo (Some place) old new = IsTurned place old new

abbrev pub Strays : Option Place → Outside → Outside → Type 0
Strays None old new = ⊥
Strays (Some place) old new = IsAstray old.port new.port place

-- a fact of an installation
abbrev pub OfInstallation : Option Request → Type 0 → Type 0
OfInstallation (Some (FlashAll place dir options)) P = P
OfInstallation _ P = ⊥

-- a disk call failed in this call and the told device halted
abbrev pub HaltedNow : Outside → Outside → Type 0
HaltedNow old new = LinkFailed (moved old new) × Has new.port.peer (λ b. (device_of b).mode ≡ Halted)

-- A status that doesn't report the outcome: memory was wanting, or the link or the output failed; or in an
-- installation the folder failed, or the device halted.
abbrev pub Excused : Option Request → Outside → Outside → ℕ → Type 0
Excused request old new status =
    (status ≡ 2)
    ⊎ ((status ≡ 6) × LinkFailed (moved old new))
    ⊎ ((status ≡ 9) × OutputFailed (moved old new))
    ⊎ OfInstallation request
    (((status ≡ 3) × FolderFailed (moved old new)) ⊎ ((status ≡ 7) × HaltedNow old new))

-- the status reports the outcome, where it is told, or is excused
abbrev pub ReportsBy : Option Outcome → Option Request → Outside → Outside → ℕ → Type 0
ReportsBy None request old new status = Unit {0}
ReportsBy (Some outcome) request old new status =
    (status ≡ status_of_outcome outcome) ⊎ Excused request old new status

-- what a call comes to by what is told before it
abbrev pub outcome_at : Option Request → Outside → Option Outcome
outcome_at request old = outcome_of request old.folder.path old.folder.files old.port.stands

abbrev pub Reports : Option Request → Outside → Outside → ℕ → Type 0
Reports request old new status = ReportsBy (outcome_at request old) request old new status

-- What a call comes to by its status, as its end gives it.
pub record Follows (request : Option Request) (old new : Outside) (status : ℕ) : Type 0 where
  pub success : status ≡ 0 → Installs request old new
  pub left : Leaves request old new status
  pub refuses : status ≡ 7 → Refuses request old new
  pub spent : status ≡ 6 → Spends request old new
  pub peer : status ≡ 8 → new.port.peer ≡ None
  pub directory : status ≡ 3 → FolderFailed (moved old new) ⊎ IsElsewhere request old.folder.path
  pub output : status ≡ 9 → OutputFailed (moved old new)
  pub usage : status ≡ 1 → IsRefused request
  pub untouched : (status ≡ 1) ⊎ (status ≡ 4) ⊎ ((status ≡ 3) × (new.folder.entered ≡ false))
      → IsSamePort old.port new.port
  pub astray : status ≡ 11 → Strays (target_of request) old new
  pub turned : IsAimedAt status → TurnsTo (target_of request) old new
  pub unplanned : (status ≡ 5) ⊎ (status ≡ 10) → IsStill (target_of request) old new
  pub beside : KeepsBeside (target_of request) old.port.stands new.port.stands
  pub wired : status ≡ 0 → Wires request old new
  pub halted : Halts old new
  pub bounded : status ≤ 11

-- What no call undoes: the folder tells what it told, counts never fall, a told text grows, and what failed
-- writes left is honest only where it was.
pub record Lasts (old new : Outside) : Type 0 where
  pub path : new.folder.path ≡ old.folder.path
  pub files : new.folder.files ≡ old.folder.files
  pub folder : old.folder.faults ≤ new.folder.faults
  pub port : old.port.faults ≤ new.port.faults
  pub ends : old.port.ends ≤ new.port.ends
  pub honest : new.port.honest → old.port.honest
  pub output : old.unput ≤ new.unput
  pub grows : Grows old.text new.text

-- What a call of fbflash comes to.
pub record Hosted (request : Option Request) (old new : Outside) (status : ℕ) : Type 0 where
  pub ends : Ends request old new status
  pub lasts : Lasts old new
  pub follows : Follows request old new status
  pub reported : Reports request old new status
  pub completed : Completes request old new status
