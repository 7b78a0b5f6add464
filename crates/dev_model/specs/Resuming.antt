-- A plan that is run again over what attempts at it left comes to the same.
use Rattle.std.specs.Prelude.{◌≡◌, ℕ, List, map, Some, None, is_some, IsTrue}
use Rattle.std.specs.List.{AllByRecursion}
use Rattle.dev_model.specs.declared.device.Dev.{Dev}
use Rattle.dev_model.specs.declared.step.Step.{Step}
use Rattle.dev_model.specs.Attempts.{Left, Chain}
use Rattle.dev_model.specs.Partitions.{is_fastboot}
use Rattle.dev_model.specs.Steps.{run, first_refusal, leaves_last}
use Rattle.dev_model.specs.Validity.{IsValid, IsStep}
use Rattle.dev_model.specs.Repeats.{IsRepeatable}

-- the names of the physical partitions, which no step changes
abbrev pub fixed_names : Dev → List (List ℕ)
fixed_names dev = map (λ p. p.name) dev.physical

-- what one attempt left
abbrev pub Resumes : Type 0
Resumes = (plan : List Step) (s : Dev) (a : ℕ) (t : Dev) → AllByRecursion IsStep plan → IsRepeatable (fixed_names s) plan → IsValid s →
    Left plan s a t → IsTrue (is_fastboot t.mode) → run plan t ≡ run plan s

-- what a chain of attempts left
abbrev pub ResumesChain : Type 0
ResumesChain = (plan : List Step) (s : Dev) (numbers : List ℕ) (t : Dev) → AllByRecursion IsStep plan → IsRepeatable (fixed_names s) plan → IsValid s →
    Chain plan s numbers t → IsTrue (is_fastboot t.mode) → run plan t ≡ run plan s

-- Where the plan could be run at first, no step of it is refused later, neither for want of room nor for another cause.
abbrev pub ResumesUnrefused : Type 0
ResumesUnrefused = (plan : List Step) (s : Dev) (numbers : List ℕ) (t end : Dev) → AllByRecursion IsStep plan → IsRepeatable (fixed_names s) plan →
    IsValid s → Chain plan s numbers t → IsTrue (is_fastboot t.mode) → run plan s ≡ Some end → first_refusal plan t ≡ None

-- Where only the last step leaves fastboot, a step of the plan is refused later exactly where one was refused at first.
abbrev pub ResumesRefused : Type 0
ResumesRefused = (plan : List Step) (s : Dev) (numbers : List ℕ) (t : Dev) → AllByRecursion IsStep plan → IsRepeatable (fixed_names s) plan →
    IsValid s → IsTrue (leaves_last plan) → Chain plan s numbers t → IsTrue (is_fastboot s.mode) → IsTrue (is_fastboot t.mode) →
    is_some (first_refusal plan t) ≡ is_some (first_refusal plan s)
