-- One attempt: a connection begins, the plan is made unless one is kept, and its steps are taken in order.
use Rattle.std.specs.Prelude.{◌≡◌, ◌⊎◌, ℕ, ◌≤◌, Bool, true, false, List, [], length, slice_get, Option, Some, None}
use Rattle.std.specs.Prelude.{Result, Ok, Err, OnOk, IfSome, IsTrue, IsFalse, MatchBool, ◌&&◌, nat_le}
use Rattle.fb_frame.specs.Causes.{Rose}
use Rattle.fb_frame.specs.Sinks.{Grew}
use Rattle.dev_model.specs.declared.device.Dev.{Dev}
use Rattle.dev_model.specs.declared.device.Mode.TheVariants.{Halted}
use Rattle.dev_model.specs.Attempts.{is_halted}
use Rattle.dev_model.specs.Partitions.{is_fastboot}
use Rattle.dev_model.specs.Steps.{run}
use Rattle.wire_told.specs.Answered.{Sound}
use Rattle.wire_told.specs.Peers.{Peer}
use Rattle.wire_told.specs.Ports.{Kept}
use Rattle.wire_told.specs.Told.{IsBarred}
use Rattle.flash_plan.specs.declared.plan.Order.{Order as PlanOrder}
use Rattle.flash_plan.specs.declared.product.Product.{Product}
use Rattle.flash_plan.specs.Files.{Files}
use Rattle.flash_plan.specs.Products.{OfFiles}
use Rattle.fb_link.specs.Seen.{Seen, seen}
use Rattle.host_driver.specs.declared.drive.DriveError.{DriveError}
use Rattle.host_driver.specs.declared.drive.DriveError.TheVariants as stop
use Rattle.host_driver.specs.declared.prepare.Prepared.{Prepared}
use Rattle.host_driver.specs.Attempting.{Lined}
use Rattle.host_driver.specs.Driving.{moved, LinkFailed, FolderFailed, OutputFailed, IsLineOf, Grows, StillFolder}
use Rattle.host_driver.specs.HeardLast.{HeardAt}
use Rattle.host_driver.specs.Jobs.{Order, Outside, OfTold, Has, job}
use Rattle.host_driver.specs.Preparing.{asks_of, MakesPlan, Unplans, ShowsAsks}
use Rattle.host_driver.specs.Printing.{joined}
use Rattle.host_driver.specs.Questioning.{OfDevice}
use Rattle.host_driver.specs.Running.{IsOf, IsFor, BreaksAt, lined, running}
use Rattle.host_driver.specs.Stepping.{IsFixed}
use Rattle.host_driver.specs.Taking.{PutsFile, supply}
use Rattle.host_driver.specs.Wires.{IsWire, LogGrew}

-- another attempt may do better: the link failed or ended
abbrev pub may_pass : DriveError → Bool
may_pass stop.Link = true
may_pass stop.Ended = true
may_pass _ = false

-- another attempt is made after so many, of which the last ended with this error
abbrev pub goes_on : DriveError → ℕ → ℕ → Bool
goes_on error attempts retries = may_pass error && nat_le attempts retries

-- A plan that is kept has what it needs of the product, and of a told device.
pub record IsUsable (product : Product) (a : Option Peer) (p : Prepared) : Type 0 where
  pub large : 131072 ≤ p.max
  pub own : IsOf product p.plan
  pub fits : OfDevice (IsFor p.plan p.max) a

-- What an attempt came to: the plan that was kept before it and the one after it, how many steps were
-- acknowledged in it, and how it ended.
pub record Came : Type 0 where
  pub kept : Option Prepared
  pub keeps : Option Prepared
  pub count : ℕ
  pub end : Result (Unit {0}) DriveError

abbrev pub came : Option Prepared → Option Prepared → ℕ → Result (Unit {0}) DriveError → Came
came kept keeps count end = record { kept = kept; keeps = keeps; count = count; end = end }

-- an attempt, with what is told of the outside before it and after it
pub record Trial : Type 1 where
  pub old : Outside
  pub new : Outside
  pub came : Came

abbrev pub trial : Outside → Outside → Came → Trial
trial old new came = record { old = old; new = new; came = came }

-- a plan once made is kept
abbrev pub StaysKept : Option Prepared → Option Prepared → Type 0
StaysKept None keeps = Unit {0}
StaysKept (Some plan) keeps = keeps ≡ Some plan

-- the plan was kept, or it is made for the device, which runs fastboot
abbrev pub IsPlanFor : Order → Option Prepared → Prepared → Dev → Type 0
IsPlanFor order None p s = MakesPlan order p.plan p.max s × IsTrue (is_fastboot s.mode)
IsPlanFor order (Some kept) p s = Unit {0}

-- a plan that is made is the one for the device, and a device for which none is made is as it was
abbrev pub PlansFor : Order → Option Prepared → Option Prepared → Dev → Dev → Type 0
PlansFor order kept None s t = t ≡ s
PlansFor order kept (Some p) s t = IsPlanFor order kept p s

-- Why an attempt ended so, over any port and any folder.
abbrev pub WhyTried : Order → Trial → Result (Unit {0}) DriveError → Type 0
WhyTried order x (Ok done) = Has x.came.keeps (λ p. x.came.count ≡ length p.plan)
WhyTried order x (Err stop.Memory) = Unit {0}
WhyTried order x (Err (stop.Directory file)) =
    FolderFailed (moved x.old x.new) × Has x.came.keeps (λ p. (next : PlanOrder)
    × (slice_get p.plan x.came.count ≡ Some next) × PutsFile order.product next file)
WhyTried order x (Err stop.Output) = OutputFailed (moved x.old x.new)
WhyTried order x (Err stop.Link) = LinkFailed (moved x.old x.new) ⊎ IsBarred x.old.port.peer
WhyTried order x (Err stop.Ended) = (x.old.port.peer ≡ None) × Rose x.old.port.ends x.new.port.ends
WhyTried order x (Err (stop.Refused text)) = x.came.keeps ≡ None → x.old.port.peer ≡ None
WhyTried order x (Err (stop.Peer kept)) = x.old.port.peer ≡ None
WhyTried order x (Err stop.TooManyInfos) = x.old.port.peer ≡ None
WhyTried order x (Err (stop.Requirement line name value)) =
    (x.came.keeps ≡ None) × (order.options.force ≡ false) × IsLineOf order.product line name
WhyTried order x (Err (stop.Plan line kind)) = x.came.keeps ≡ None

-- what was heard last
abbrev pub HeardEnd : Trial → Result (Unit {0}) DriveError → Type 0
HeardEnd x (Ok done) = Unit {0}
HeardEnd x (Err error) = HeardAt x.new.port error

-- what an attempt came to without a plan: why none is made for the device, and what was shown of its answers
abbrev pub EndsUnplanned : Order → Trial → Dev → Dev → Result (Unit {0}) DriveError → Type 0
EndsUnplanned order x s t (Ok done) = ⊥
EndsUnplanned order x s t (Err error) =
    (x.came.count ≡ 0) × Unplans order error s t × ShowsAsks (asks_of order s) error x.old.text x.new.text

-- what the steps of a plan came to: the device took them all and their lines were printed, or they broke off
abbrev pub StepsEnd : Lined → ℕ → Seen × Seen → Dev × Dev → Result (Unit {0}) DriveError → Type 0
StepsEnd plan count views devices (Ok done) = (run plan.steps devices.0 ≡ Some devices.1)
    × (count ≡ length plan.steps) × IsFalse (is_halted devices.1.mode)
    × Grew views.0.text views.1.text (joined plan.lines)
StepsEnd plan count views devices (Err error) = BreaksAt plan count error views devices.0 devices.1

-- These lines were shown first, and then the steps of the plan were taken.
pub record TookSteps (asks : List (List ℕ)) (plan : Lined) (x : Trial) (s t : Dev) : Type 0 where
  pub middle : Option (List ℕ)
  pub asked : Grew x.old.text middle (joined asks)
  pub took : StepsEnd plan x.came.count (seen x.old.port middle, seen x.new.port x.new.text) (s, t) x.came.end

-- the lines that are shown before those of the steps: those of the questions, where the plan is made
abbrev pub asks_first : Order → Option Prepared → Dev → List (List ℕ)
asks_first order None s = asks_of order s
asks_first order (Some plan) s = []

-- what an attempt came to over told files: without a plan, or with one, of which nothing is done where the
-- device doesn't run fastboot
abbrev pub CameTo : Order → Files → Trial → Dev × Dev → Option Prepared → Type 0
CameTo order files x devices None = EndsUnplanned order x devices.0 devices.1 x.came.end
CameTo order files x devices (Some p) = MatchBool (is_fastboot devices.0.mode)
    (TookSteps (asks_first order x.came.kept devices.0)
    (lined files (running (supply (Some files) order.product p.max) p.plan)) x devices.0 devices.1)
    (Grew x.old.text x.new.text [])

-- No connection began to a device that doesn't run fastboot.
pub record IsNotMet (c : Came) (s t : Dev) : Type 0 where
  pub same : t ≡ s
  pub keeps : c.keeps ≡ c.kept
  pub none : c.count ≡ 0
  pub end : c.end ≡ Err stop.Link

-- What an attempt came to over a told device.
pub record IsTriedOver (order : Order) (x : Trial) (s t : Dev) : Type 0 where
  pub halted : t.mode ≡ Halted → (s.mode ≡ Halted) ⊎ LinkFailed (moved x.old x.new)
  pub fixed : IsFixed s t
  pub plans : PlansFor order x.came.kept x.came.keeps s t
  pub barred : IsFalse (is_fastboot s.mode) → IsNotMet x.came s t
  pub came_to : OfFiles x.old.folder.files (λ files. CameTo order files x (s, t) x.came.keeps)
  pub wired : OfFiles x.old.folder.files (λ files. x.came.kept ≡ None
      → OnOk x.came.end (LogGrew x.old.port.log x.new.port.log (IsWire (job order files s))))

-- What an attempt came to.
pub record IsTried (order : Order) (x : Trial) : Type 0 where
  pub why : WhyTried order x x.came.end
  pub heard : HeardEnd x x.came.end
  pub stays : StaysKept x.came.kept x.came.keeps
  pub own : IfSome x.came.keeps (λ p. (131072 ≤ p.max) × IsOf order.product p.plan)
  pub over : OfTold x.old.port.peer x.new.port.peer (IsTriedOver order x)
  pub grows : Grows x.old.text x.new.text
  pub kept : Kept x.old.port x.new.port
  pub down : IsFalse x.new.port.up
  pub sound : Sound x.new.port.peer
  pub folder : StillFolder x.old.folder x.new.folder
  pub shown_later : x.old.unput ≤ x.new.unput
