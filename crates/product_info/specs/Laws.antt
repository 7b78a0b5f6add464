-- Which lines are read as which requirement or task, both ways.
use Rattle.std.specs.Prelude.{◌≡◌, ℕ, List, Some}
use Rattle.product_info.specs.declared.requirement.Requirement.{Requirement}
use Rattle.product_info.specs.declared.task.Task.{Task}
use Rattle.product_info.specs.Grammar.{IsRequirementLine, IsTaskLine}
use Rattle.product_info.specs.RequirementText.{requirement_of}
use Rattle.product_info.specs.TaskText.{task_of}

-- each line of a requirement is read as it
abbrev pub RequirementsRead : Type 0
RequirementsRead =
    (number : ℕ) (line : List ℕ) (r : Requirement) → IsRequirementLine number line r → requirement_of number line ≡ Some r

-- what is read as a requirement is a line of it
abbrev pub RequirementsSpelled : Type 0
RequirementsSpelled =
    (number : ℕ) (line : List ℕ) (r : Requirement) → requirement_of number line ≡ Some r → IsRequirementLine number line r

-- each line of a task is read as it
abbrev pub TasksRead : Type 0
TasksRead = (number : ℕ) (line : List ℕ) (task : Task) → IsTaskLine number line task → task_of number line ≡ Some task

-- what is read as a task is a line of it
abbrev pub TasksSpelled : Type 0
TasksSpelled = (number : ℕ) (line : List ℕ) (task : Task) → task_of number line ≡ Some task → IsTaskLine number line task
