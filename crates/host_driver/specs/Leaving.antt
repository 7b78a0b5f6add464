-- What attempts leave, one after another, as a driver counts them.
use Rattle.std.specs.Prelude.{ℕ, List, [], ◌∷◌, ◌++◌, None, Some, IsTrue, IsFalse}
use Rattle.dev_model.specs.declared.device.Dev.{Dev}
use Rattle.dev_model.specs.declared.step.Step.{Step}
use Rattle.dev_model.specs.Attempts.{LeftBehind, is_halted}
use Rattle.dev_model.specs.Partitions.{is_fastboot}
use Rattle.host_driver.specs.Driven.{LeavesBy}

-- one attempt more at a plan, over a device that runs fastboot
abbrev pub LeavesMore : Type 0
LeavesMore = (plan : List Step) (s t u : Dev) (numbers : List ℕ) (a : ℕ) → LeavesBy (Some plan) s numbers t
    → IsTrue (is_fastboot t.mode) → LeftBehind plan t a u → LeavesBy (Some plan) s (numbers ++ a ∷ []) u

-- one attempt more that no connection began for, as the device left fastboot
abbrev pub LeavesUnmet : Type 0
LeavesUnmet = (plan : List Step) (s t : Dev) (numbers : List ℕ) → LeavesBy (Some plan) s numbers t
    → IsFalse (is_fastboot t.mode) → IsFalse (is_halted s.mode)
    → LeavesBy (Some plan) s (numbers ++ 0 ∷ []) t

-- attempts before the plan was made are attempts at it that took nothing
abbrev pub LeavesBefore : Type 0
LeavesBefore = (plan : List Step) (s t : Dev) (numbers : List ℕ) → LeavesBy None s numbers t
    → IsTrue (is_fastboot s.mode) → LeavesBy (Some plan) s numbers t

-- one attempt more before the plan is made
abbrev pub LeavesUnplanned : Type 0
LeavesUnplanned = (s t : Dev) (numbers : List ℕ) → LeavesBy None s numbers t
    → LeavesBy None s (numbers ++ 0 ∷ []) t
