-- Laws of plans.
use Rattle.std.specs.Prelude.{◌≡◌, ℕ, List, Some, None, is_some, IsTrue, Ok}
use Rattle.std.specs.List.{AllByRecursion}
use Rattle.dev_model.specs.declared.device.Dev.{Dev}
use Rattle.dev_model.specs.declared.step.Step.{Step}
use Rattle.dev_model.specs.Attempts.{Chain}
use Rattle.dev_model.specs.Partitions.{is_fastboot}
use Rattle.dev_model.specs.Repeats.{IsRepeatable}
use Rattle.dev_model.specs.Resuming.{fixed_names}
use Rattle.dev_model.specs.Steps.{run, first_refusal, leaves_last}
use Rattle.dev_model.specs.Validity.{IsValid, IsStep}
use Rattle.flash_plan.specs.declared.answers.Answers.{Answers}
use Rattle.flash_plan.specs.declared.options.Options.{Options}
use Rattle.flash_plan.specs.declared.product.Product.{Product}
use Rattle.flash_plan.specs.Facts.{facts_of, facts_in}
use Rattle.flash_plan.specs.Files.{Files}
use Rattle.flash_plan.specs.Moves.{Work}
use Rattle.flash_plan.specs.Orders.{orders}
use Rattle.flash_plan.specs.Plans.{plan_of}
use Rattle.flash_plan.specs.Questions.{AreAnswers}

-- the plan for a device's answers is the plan for the device
abbrev pub PlansTold : Type 0
PlansTold =
    (work : Work) (options : Options) (dev : Dev) (answers : Answers)
    → AreAnswers work options.slot dev answers →
    orders work options (facts_in answers) ≡ orders work options (facts_of dev)

-- A plan may be run again over what a broken attempt at it left, and each of its steps is one that a plan may
-- have.
abbrev pub PlanRepeats : Type 0
PlanRepeats =
    (files : Files) (product : Product) (options : Options) (s : Dev) (plan : List Step)
    → plan_of files product options s ≡ Ok plan →
    IsRepeatable (fixed_names s) plan × AllByRecursion IsStep plan

-- none but the last step of a plan leaves fastboot
abbrev pub PlanLeavesLast : Type 0
PlanLeavesLast =
    (files : Files) (product : Product) (options : Options) (s : Dev) (plan : List Step)
    → plan_of files product options s ≡ Ok plan → IsTrue (leaves_last plan)

-- The device t runs fastboot, and a chain of broken attempts at the plan left it of the valid device s.
pub record IsMetAgain (plan : List Step) (s t : Dev) : Type 0 where
  pub valid : IsValid s
  pub numbers : List ℕ
  pub chain : Chain plan s numbers t
  pub runs : IsTrue (is_fastboot t.mode)

-- The plan that was made for the first device comes over a device that is met again to the same end as over
-- the first, or to none over both.
abbrev pub PlanResumes : Type 0
PlanResumes =
    (files : Files) (product : Product) (options : Options) (plan : List Step) (s t : Dev)
    → plan_of files product options s ≡ Ok plan → IsMetAgain plan s t → run plan t ≡ run plan s

-- Where the first device could take the whole plan, no step of it is refused by a device that is met again:
-- for its tables and each new size there is still the room that there was.
abbrev pub PlanAsksNoMore : Type 0
PlanAsksNoMore =
    (files : Files) (product : Product) (options : Options) (plan : List Step) (s t end : Dev)
    → plan_of files product options s ≡ Ok plan → IsMetAgain plan s t → run plan s ≡ Some end →
    first_refusal plan t ≡ None

-- A device that is met again refuses a step exactly where the first one does.
abbrev pub PlanRefusedAlike : Type 0
PlanRefusedAlike =
    (files : Files) (product : Product) (options : Options) (plan : List Step) (s t : Dev)
    → plan_of files product options s ≡ Ok plan → IsMetAgain plan s t → IsTrue (is_fastboot s.mode) →
    is_some (first_refusal plan t) ≡ is_some (first_refusal plan s)
