-- Which partitions a device has, of those that tasks may be for.
use Rattle.std.specs.Prelude.{◌≡◌, ℕ, Bool, false, List, map, flat_map, Option, Some, None, is_some}
use Rattle.std.specs.Prelude.{option_to_list}
use Rattle.std.specs.List.{AllByRecursion}
use Rattle.fb_frame.specs.declared.slot.Slot.{Slot}
use Rattle.dev_model.specs.declared.device.Dev.{Dev}
use Rattle.product_info.specs.declared.task.Action.{Action}
use Rattle.product_info.specs.declared.task.Task.{Task}
use Rattle.flash_plan.specs.declared.answers.Part.{Part}
use Rattle.flash_plan.specs.Facts.{kind_of, kind_in, facts_of}
use Rattle.flash_plan.specs.Questions.{action_probes}
use Rattle.flash_plan.specs.Targets.{found}
use Rattle.host_driver.specs.AnswerText.{kind_question}

-- the questions for the kinds of partitions
abbrev pub kind_questions : List (List ℕ) → List (List ℕ)
kind_questions names = map kind_question names

-- the device has these parts, of these kinds
abbrev pub AreRight : List Part → Dev → Type 0
AreRight parts dev = (name : List ℕ) (logical : Bool) → kind_in parts name ≡ Some logical
    → kind_of dev name ≡ Some logical

-- the parts tell the kind of this partition, or that there is none
abbrev pub Tell : List Part → Dev → List ℕ → Type 0
Tell parts dev name = kind_in parts name ≡ kind_of dev name

-- The parts tell of these names, and of all that those before told of.
pub record KnowMore (names : List (List ℕ)) (old new : List Part) (dev : Dev) : Type 0 where
  pub right : AreRight new dev
  pub keep : (name : List ℕ) → Tell old dev name → Tell new dev name
  pub know : AllByRecursion (Tell new dev) names

-- the same, where those before are right
abbrev pub Finds : List (List ℕ) → List Part → List Part → Dev → Type 0
Finds names old new dev = AreRight old dev → KnowMore names old new dev

-- whether there is a candidate and it is found: the device has it, or the product's table lists it
abbrev pub is_found : List (List ℕ) → Option (List ℕ) → Dev → Bool
is_found listed None dev = false
is_found listed (Some name) dev = is_some (found (kind_of dev) listed name)

-- of a candidate that was asked for: what is kept of it, and whether it is found
pub record IsSought (listed : List (List ℕ)) (name : Option (List ℕ)) (seek : Bool) (dev : Dev)
    (Kept : List (List ℕ) → Dev → Type 0) : Type 0 where
  pub kept : Kept (option_to_list name) dev
  pub found_so : seek ≡ is_found listed name dev

-- the partitions that are asked for a task
abbrev pub task_probes : Option Slot → List (List ℕ) → Action → Dev → List (List ℕ)
task_probes slot listed action dev = action_probes (facts_of dev) slot listed action

-- those that are asked for all tasks
abbrev pub tasks_probes : Option Slot → List (List ℕ) → List Task → Dev → List (List ℕ)
tasks_probes slot listed tasks dev = flat_map (λ task. task_probes slot listed task.action dev) tasks
