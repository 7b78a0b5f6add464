-- Laws of what attempts leave, which `attempt_laws` of this crate names.
use Rattle.std.specs.Prelude.{◌≡◌, ℕ, suc, ◌≤◌, List, [], ◌∷◌, ◌++◌, take, length, Some, IsTrue, IsFalse, slice_get}
use Rattle.dev_model.specs.declared.cells.Cell.{Cell}
use Rattle.dev_model.specs.declared.device.Dev.{Dev}
use Rattle.dev_model.specs.declared.step.Step.{Step}
use Rattle.dev_model.specs.declared.step.Step.TheVariants.{Put}
use Rattle.dev_model.specs.Attempts.{Left, LeftBehind, Chain, IsHaltedAt, is_halted}
use Rattle.dev_model.specs.Images.{over}
use Rattle.dev_model.specs.Partitions.{is_fastboot, with_bytes}
use Rattle.dev_model.specs.Steps.{can, apply, run}

-- a step that can be taken after those before it makes one more of them
abbrev pub RunNext : Type 0
RunNext = (plan : List Step) (s u : Dev) (a : ℕ) (step : Step) → run (take a plan) s ≡ Some u →
    slice_get plan a ≡ Some step → IsTrue (can step u) → run (take (suc a) plan) s ≡ Some (apply step u)

-- steps that were taken and acknowledged
abbrev pub LeftTaken : Type 0
LeftTaken = (plan : List Step) (s t : Dev) (a : ℕ) → a ≤ length plan → run (take a plan) s ≡ Some t → Left plan s a t

-- steps of which the last one taken wasn't acknowledged
abbrev pub LeftUnheard : Type 0
LeftUnheard = (plan : List Step) (s t : Dev) (a : ℕ) → suc a ≤ length plan → run (take (suc a) plan) s ≡ Some t →
    Left plan s a t

-- steps that were taken, and then a part of an image
abbrev pub LeftInPart : Type 0
LeftInPart = (plan : List Step) (s u : Dev) (a n : ℕ) (name : List ℕ) (cells : List Cell) → run (take a plan) s ≡ Some u →
    slice_get plan a ≡ Some (Put name cells) → IsTrue (can (Put name cells) u) → n ≤ length cells →
    Left plan s a (with_bytes name (over (take n cells)) u)

-- a device whose disk failed
abbrev pub LeftStopped : Type 0
LeftStopped = (plan : List Step) (s u t : Dev) (a : ℕ) → Left plan s a u → IsHaltedAt (slice_get plan a) u t →
    LeftBehind plan s a t

-- a device whose disk didn't fail
abbrev pub LeftServing : Type 0
LeftServing = (plan : List Step) (s t : Dev) (a : ℕ) → Left plan s a t → IsFalse (is_halted t.mode) → LeftBehind plan s a t

-- one attempt more, over a device that runs fastboot
abbrev pub ChainNext : Type 0
ChainNext = (plan : List Step) (s u t : Dev) (numbers : List ℕ) (a : ℕ) → Chain plan s numbers u →
    IsTrue (is_fastboot u.mode) → LeftBehind plan u a t → Chain plan s (numbers ++ a ∷ []) t

-- one attempt more that meets no device
abbrev pub ChainUnmet : Type 0
ChainUnmet = (plan : List Step) (s t : Dev) (numbers : List ℕ) → Chain plan s numbers t → IsFalse (is_fastboot t.mode) →
    Chain plan s (numbers ++ 0 ∷ []) t
