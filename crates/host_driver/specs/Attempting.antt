-- How far an attempt got in the steps of its plan, over a told device, and what it left where it broke off.
use Rattle.std.specs.Prelude.{◌≡◌, ℕ, List, [], ◌∷◌, take, slice_get, Some}
use Rattle.fb_frame.specs.Sinks.{Grew}
use Rattle.dev_model.specs.declared.device.Dev.{Dev}
use Rattle.dev_model.specs.declared.device.Mode.TheVariants.{Halted}
use Rattle.dev_model.specs.declared.step.Step.{Step}
use Rattle.dev_model.specs.Attempts.{LeftBehind}
use Rattle.dev_model.specs.Steps.{run}
use Rattle.fb_frame.specs.Causes.{Rose}
use Rattle.wire_told.specs.Ports.{Kept}
use Rattle.fb_link.specs.Seen.{Seen}
use Rattle.host_driver.specs.Driving.{Grows}
use Rattle.host_driver.specs.Jobs.{OfTold}
use Rattle.host_driver.specs.Printing.{joined}

-- What an attempt at one step leaves of a device that took the steps before it is what an attempt at the plan
-- may leave.
abbrev pub LeftAfter : Type 0
LeftAfter = (plan : List Step) (s u t : Dev) (n : ℕ) (step : Step) → run (take n plan) s ≡ Some u
    → slice_get plan n ≡ Some step → LeftBehind (step ∷ []) u 0 t → LeftBehind plan s n t

-- The steps of a plan, and the line of each.
pub record Lined : Type 0 where
  pub steps : List Step
  pub lines : List (List ℕ)

-- So many steps were taken, and their lines printed.
pub record IsAlong (plan : Lined) (count : ℕ) (old new : Seen) : Type 0 where
  pub ran : OfTold old.port.peer new.port.peer (λ s t. run (take count plan.steps) s ≡ Some t)
  pub shown : OfTold old.port.peer new.port.peer (λ s t.
      Grew old.text new.text (joined (take count plan.lines)))
  pub grows : Grows old.text new.text
  pub kept : Kept old.port new.port

-- The attempt broke off with so many steps printed: what it left of the device, which halted only where a
-- disk call failed, and what was printed.
pub record IsLeftAlong (plan : Lined) (count : ℕ) (old new : Seen) : Type 0 where
  pub left : OfTold old.port.peer new.port.peer (λ s t. LeftBehind plan.steps s count t)
  pub halted : OfTold old.port.peer new.port.peer (λ s t.
      t.mode ≡ Halted → Rose old.port.faults new.port.faults)
  pub shown : OfTold old.port.peer new.port.peer (λ s t.
      Grew old.text new.text (joined (take count plan.lines)))
  pub grows : Grows old.text new.text
  pub kept : Kept old.port new.port
