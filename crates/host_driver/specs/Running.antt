-- What the steps of a plan come to, one after another: how far they got, and where they broke off.
use Rattle.std.specs.Prelude.{◌≡◌, ◌⊎◌, ℕ, suc, ◌^◌, ◌<◌, ◌≤◌, Bool, true, List, [], ◌∷◌, ◌++◌, length}
use Rattle.std.specs.Prelude.{map, take, drop, slice_get, Option, Some, Ok, IsTrue, IsFalse, ◌==◌, if◌then◌else◌}
use Rattle.std.specs.List.{AllByRecursion, list_any, sum_by}
use Rattle.fb_frame.specs.Causes.{Rose}
use Rattle.fb_frame.specs.Sinks.{Grew}
use Rattle.dev_model.specs.declared.device.Dev.{Dev}
use Rattle.dev_model.specs.declared.device.Mode.TheVariants.{Halted}
use Rattle.dev_model.specs.declared.step.Step.{Step}
use Rattle.dev_model.specs.Attempts.{LeftBehind, is_halted}
use Rattle.dev_model.specs.Partitions.{is_fastboot}
use Rattle.dev_model.specs.Refusals.{refusal_of}
use Rattle.dev_model.specs.Steps.{run, leaves}
use Rattle.wire_told.specs.Answered.{Sound}
use Rattle.wire_told.specs.Peers.{OfLink}
use Rattle.wire_told.specs.Ports.{Kept}
use Rattle.flash_plan.specs.declared.plan.Order.{Order}
use Rattle.flash_plan.specs.declared.product.Product.{Product}
use Rattle.flash_plan.specs.declared.options.Options.{Options}
use Rattle.flash_plan.specs.Facts.{Facts, facts_of}
use Rattle.flash_plan.specs.Files.{Files}
use Rattle.flash_plan.specs.Orders.{orders}
use Rattle.flash_plan.specs.Plans.{steps_of, work_of}
use Rattle.flash_plan.specs.Products.{OfFiles, IsWhole, product_of}
use Rattle.fb_link.specs.Seen.{Seen}
use Rattle.host_driver.specs.declared.drive.DriveError.{DriveError}
use Rattle.host_driver.specs.declared.drive.DriveError.TheVariants as stop
use Rattle.host_driver.specs.Attempting.{Lined, IsAlong}
use Rattle.host_driver.specs.Driven.{IsHaltedNow}
use Rattle.host_driver.specs.Driving.{Grows}
use Rattle.host_driver.specs.HeardLast.{HeardThen, HeardAt}
use Rattle.host_driver.specs.Jobs.{OfTold}
use Rattle.host_driver.specs.Printing.{step_line, joined}
use Rattle.host_driver.specs.Stepping.{Serving, WhyStopped, IsFixed}
use Rattle.host_driver.specs.Taking.{Supply, AreImages, HasOwn, IsNamed, is_leaving, order_cost, PutsFile}
use Rattle.host_driver.specs.Wires.{WiresOrders, LogGrew}

-- orders that are taken from there
pub record Running : Type 0 where
  pub from : Supply
  pub plan : List Order

abbrev pub running : Supply → List Order → Running
running from plan = record { from = from; plan = plan }

-- the steps of a plan, of a folder's files, and the line of each
abbrev pub lined : Files → Running → Lined
lined files r = record {
  steps = steps_of files r.from.product r.plan;
  lines = map (step_line (work_of r.from.product).sizes) r.plan;
}

-- how many bytes of a connection orders take at most
abbrev pub plan_cost : List Order → ℕ
plan_cost plan = sum_by order_cost plan

-- none but the last order leaves fastboot
abbrev pub leave_last : List Order → Bool
leave_last [] = true
leave_last (order ∷ plan) = if is_leaving order then length plan == 0 else leave_last plan

-- What a plan needs of the product, over any device: each order has its own, and a connection has room
-- for all of them.
pub record IsOf (product : Product) (plan : List Order) : Type 0 where
  pub own : AllByRecursion (HasOwn product) plan
  pub few : length plan < 2 ^ 32
  pub room : plan_cost plan ≤ 2 ^ 60

-- What it needs of a device: downloads of so many bytes, super's name, and that none but its last order
-- leaves it.
pub record IsFor (plan : List Order) (most : ℕ) (dev : Dev) : Type 0 where
  pub fits : most ≤ dev.max
  pub named : AllByRecursion (IsNamed dev) plan
  pub last : leave_last plan ≡ true

-- So many orders were taken and their lines printed: of told files a told device took their steps, and a told
-- log grew by them. For the next one there is a connection.
pub record IsSoFar (r : Running) (count : ℕ) (old new : Seen) : Type 0 where
  pub along : OfFiles r.from.files (λ files. IsAlong (lined files r) count old new)
  pub log : OfFiles r.from.files (λ files. LogGrew old.port.log new.port.log (λ wire. OfLink (λ w.
      WiresOrders files r.from.product r.from.most (take count r.plan) wire) old.port.peer))
  pub serving : count < length r.plan → Serving (plan_cost (drop count r.plan)) new.port.peer
  pub fixed : OfTold old.port.peer new.port.peer IsFixed
  pub lives : OfTold old.port.peer new.port.peer (λ s t. IsFalse (is_halted t.mode))
  pub grows : Grows old.text new.text
  pub heard : HeardThen old.port.heard [] → HeardThen new.port.heard []
  pub kept : Kept old.port new.port

unfoldable pub IsRunSoFar : Running → ℕ → Seen → Seen → Type 0
IsRunSoFar r count old new = IsSoFar r count old new

-- the next step is refused with this text, and all before it were taken
pub record IsNextRefused (steps : List Step) (count : ℕ) (text : List ℕ) (s t : Dev) : Type 0 where
  pub taken : run (take count steps) s ≡ Some t
  pub step : Step
  pub next : slice_get steps count ≡ Some step
  pub refusal : refusal_of step t ≡ Some text
  pub serves : IsTrue (is_fastboot t.mode)

-- why a told device took no further step
abbrev pub IsStuckAt : List Step → ℕ → DriveError → (List ℕ → Dev → Type 0) → Dev → Dev → Type 0
IsStuckAt steps count (stop.Refused text) HaltsNow s t = IsNextRefused steps count text s t ⊎ HaltsNow text t
IsStuckAt steps count stop.Link HaltsNow s t = IsTrue (list_any leaves steps) → count < length steps
IsStuckAt steps count _ HaltsNow s t = Unit {0}

-- The line of the last step that was taken wasn't printed whole.
pub record IsLineCut (plan : Lined) (count : ℕ) (before now : Option (List ℕ)) (s t : Dev) : Type 0 where
  pub n : ℕ
  pub counted : count ≡ suc n
  pub line : List ℕ
  pub next : slice_get plan.lines n ≡ Some line
  pub k : ℕ
  pub short : k < length line
  pub grew : Grew before now (joined (take n plan.lines) ++ take k line)
  pub left : LeftBehind plan.steps s n t

-- what was printed of so many steps
abbrev pub ShowsSteps : Lined → ℕ → DriveError → Seen × Seen → Dev → Dev → Type 0
ShowsSteps plan count stop.Output views s t = IsLineCut plan count views.0.text views.1.text s t
ShowsSteps plan count _ views s t = Grew views.0.text views.1.text (joined (take count plan.lines))

-- What the orders came to, of which so many were acknowledged, over a told device and told files.
pub record BreaksAt (plan : Lined) (count : ℕ) (error : DriveError) (views : Seen × Seen) (s t : Dev) :
    Type 0 where
  pub left : LeftBehind plan.steps s count t
  pub stuck : IsStuckAt plan.steps count error (IsHaltedNow views.0.port.faults views.1.port.faults) s t
  pub shown : ShowsSteps plan count error views s t

-- the next order puts this file, at which the folder failed
abbrev pub IsUnreadNext : Running → ℕ → ℕ → ℕ → List ℕ → Type 0
IsUnreadNext r count before now file = (order : Order) × (slice_get r.plan count ≡ Some order)
    × PutsFile r.from.product order file × Rose before now

-- The attempt broke off with so many orders acknowledged.
pub record IsBrokenAt (Files : List ℕ → Type 0) (r : Running) (count : ℕ) (views : Seen × Seen)
    (error : DriveError) : Type 0 where
  pub exact : OfFiles r.from.files (λ files. OfTold views.0.port.peer views.1.port.peer
      (BreaksAt (lined files r) count error views))
  pub within : count ≤ length r.plan
  pub why : WhyStopped Files views.0.port views.1.port error
  pub lives : OfTold views.0.port.peer views.1.port.peer
      (λ s t. t.mode ≡ Halted → Rose views.0.port.faults views.1.port.faults)
  pub fixed : OfTold views.0.port.peer views.1.port.peer IsFixed
  pub grows : Grows views.0.text views.1.text
  pub heard : HeardThen views.0.port.heard [] → HeardAt views.1.port error
  pub down : IsFalse views.1.port.up
  pub sound : Sound views.1.port.peer
  pub kept : Kept views.0.port views.1.port

-- All orders were taken, and the connection was given up.
pub record IsDoneAll (r : Running) (old new : Seen) : Type 0 where
  pub so_far : IsSoFar r (length r.plan) old new
  pub down : IsFalse new.port.up
  pub sound : Sound new.port.peer

-- The images of the product of a folder are what is kept of their files.
abbrev pub ImagesKept : Type 0
ImagesKept = (files : Files) (wipe : Bool) (product : Product) → product_of files wipe ≡ Ok product
    → AreImages product files

-- A plan of a product, by whatever answers it was made, has what it needs of the product.
abbrev pub PlanOwns : Type 0
PlanOwns = (product : Product) (options : Options) (facts : Facts) (plan : List Order) → IsWhole product
    → orders (work_of product) options facts ≡ Ok plan → IsOf product plan

-- A plan over a device has what it needs of that device, and of what steps and broken steps leave of it.
abbrev pub PlanSuits : Type 0
PlanSuits = (product : Product) (options : Options) (most : ℕ) (s t : Dev) (plan : List Order)
    → IsWhole product
    → orders (work_of product) options (facts_of s) ≡ Ok plan → most ≡ s.max → IsFixed s t → IsFor plan most t
