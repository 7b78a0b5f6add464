-- The questions and the plan of an attempt: which plan is made for a told device, or why none is.
use Rattle.std.specs.Prelude.{◌≡◌, ℕ, ◌+◌, ◌≤◌, false, ◌||◌, List, [], ◌++◌, Option, Ok, Err, IsTrue, IsFalse}
use Rattle.std.specs.List.{list_any}
use Rattle.fb_frame.specs.Sinks.{Grew}
use Rattle.dev_model.specs.declared.device.Dev.{Dev}
use Rattle.wire_told.specs.Answered.{Sound}
use Rattle.wire_told.specs.Ports.{PortTold, Kept}
use Rattle.flash_plan.specs.declared.plan.Order.{Order as PlanOrder}
use Rattle.flash_plan.specs.declared.answers.Answers.{Answers}
use Rattle.flash_plan.specs.Facts.{Facts, facts_of, facts_in}
use Rattle.flash_plan.specs.Files.{Files}
use Rattle.flash_plan.specs.Orders.{orders}
use Rattle.flash_plan.specs.Plans.{work_of}
use Rattle.flash_plan.specs.Products.{is_update}
use Rattle.flash_plan.specs.Questions.{questions, probes}
use Rattle.flash_plan.specs.Requiring.{holds_all}
use Rattle.fb_link.specs.Seen.{Seen}
use Rattle.host_driver.specs.declared.drive.DriveError.{DriveError}
use Rattle.host_driver.specs.declared.drive.DriveError.TheVariants as stop
use Rattle.host_driver.specs.declared.questions.Traits.{Traits}
use Rattle.host_driver.specs.Asking.{ShowsBy}
use Rattle.host_driver.specs.Deciding.{check_questions}
use Rattle.host_driver.specs.Driven.{IsUnmet, IsUnplanned}
use Rattle.host_driver.specs.Driving.{Grows, IsLineOf}
use Rattle.host_driver.specs.Finding.{kind_questions}
use Rattle.host_driver.specs.HeardLast.{HeardThen, HeardAt}
use Rattle.host_driver.specs.Jobs.{Order, OfTold, job}
use Rattle.host_driver.specs.Printing.{joined}
use Rattle.host_driver.specs.Questioning.{shown_to, WhyUnlearned, trait_questions, AreTraits}
use Rattle.host_driver.specs.Stepping.{Serving}
use Rattle.host_driver.specs.Wires.{LogGrew, asked_wire}

-- the lines that are shown as a device is asked all questions
abbrev pub asks_of : Order → Dev → List (List ℕ)
asks_of order dev = shown_to dev (questions order.product order.options dev)

-- The device meets the requirements or needn't, the plan is the one for it, and this is the most that it
-- takes in one download.
pub record MakesPlan (order : Order) (plan : List PlanOrder) (most : ℕ) (s : Dev) : Type 0 where
  pub met : IsTrue (order.options.force || holds_all order.product.requirements s)
  pub planned : orders (work_of order.product) order.options (facts_of s) ≡ Ok plan
  pub most_is : most ≡ s.max

-- the questions for what every plan rests on, and those of the requirements
abbrev pub decide_questions : Order → Dev → List (List ℕ)
decide_questions order dev =
    trait_questions (list_any is_update order.product.tasks) dev
    ++ check_questions order.product.requirements order.options.force dev

-- The device meets the requirements or needn't, and has these traits.
pub record IsDecided (order : Order) (traits : Traits) (dev : Dev) : Type 0 where
  pub has : AreTraits (list_any is_update order.product.tasks) traits dev
  pub met : IsTrue (order.options.force || holds_all order.product.requirements dev)

-- the questions for the partitions that the tasks may be for
abbrev pub part_questions : Order → Dev → List (List ℕ)
part_questions order dev = kind_questions (probes (work_of order.product) order.options.slot (facts_of dev))

-- no plan is made by these answers
abbrev pub IsUnmade : Order → Answers → DriveError → Type 0
IsUnmade order answers stop.Memory = Unit {0}
IsUnmade order answers (stop.Plan line kind) =
    orders (work_of order.product) order.options (facts_in answers) ≡ Err (line, kind)
IsUnmade order answers _ = ⊥

-- All questions were answered, and this plan is made; the facts are those of the answers, also over a port
-- that tells no device. A told device is as it was.
pub record IsPrepared (order : Order) (plan : List PlanOrder) (most : ℕ) (old new : Seen) : Type 0 where
  pub large : 131072 ≤ most
  pub facts : Facts
  pub made : orders (work_of order.product) order.options facts ≡ Ok plan
  pub told : OfTold old.port.peer new.port.peer (λ s t. (t ≡ s) × MakesPlan order plan most s)
  pub serving : (spare : ℕ) → Serving (4194304 + spare) old.port.peer → Serving spare new.port.peer
  pub shown : OfTold old.port.peer new.port.peer (λ s t. Grew old.text new.text (joined (asks_of order s)))
  pub grows : Grows old.text new.text
  pub heard : HeardThen old.port.heard [] → HeardThen new.port.heard []
  pub log : LogGrew old.port.log new.port.log (λ bytes. OfTold old.port.peer new.port.peer (λ s t.
      bytes ≡ asked_wire (questions order.product order.options s)))
  pub kept : Kept old.port new.port

-- Why no plan is made, over any port.
abbrev pub WhyUnprepared : Order → PortTold → PortTold → DriveError → Type 0
WhyUnprepared order old new (stop.Requirement line name value) =
    (order.options.force ≡ false) × IsLineOf order.product line name
WhyUnprepared order old new (stop.Plan line kind) = Unit {0}
WhyUnprepared order old new error = WhyUnlearned old new error

-- why none is made for a told device, which is as it was: a requirement that isn't met, or the first line of
-- which there is no plan
abbrev pub Unplans : Order → DriveError → Dev → Dev → Type 0
Unplans order (stop.Requirement line name value) s t =
    (files : Files) → IsUnmet (job order files s) line name value t
Unplans order (stop.Plan line kind) s t = (files : Files) → IsUnplanned (job order files s) line kind t
Unplans order _ s t = Unit {0}

-- what was shown of the questions' lines: all of them where a requirement or the plan is what ended it
abbrev pub ShowsAsks : List (List ℕ) → DriveError → Option (List ℕ) → Option (List ℕ) → Type 0
ShowsAsks lines (stop.Requirement line name value) before now = Grew before now (joined lines)
ShowsAsks lines (stop.Plan line kind) before now = Grew before now (joined lines)
ShowsAsks lines error before now = ShowsBy lines error before now

-- No plan is made: a told device is as it was, and the connection is down.
pub record IsUnprepared (order : Order) (old new : Seen) (error : DriveError) : Type 0 where
  pub why : WhyUnprepared order old.port new.port error
  pub still : OfTold old.port.peer new.port.peer (λ s t. t ≡ s)
  pub unplans : OfTold old.port.peer new.port.peer (Unplans order error)
  pub shown : OfTold old.port.peer new.port.peer (λ s t.
      ShowsAsks (asks_of order s) error old.text new.text)
  pub grows : Grows old.text new.text
  pub heard : HeardThen old.port.heard [] → HeardAt new.port error
  pub down : IsFalse new.port.up
  pub sound : Sound new.port.peer
  pub kept : Kept old.port new.port
