use Rattle.std.proofs.Common.{◌≡◌, drop}
use Rattle.dev_model.specs.Steps.{run}
use Rattle.dev_model.proofs.steps.run.Given as goal

-- the steps that follow lead where all steps lead
abbrev pub invariant-loop-step : goal.invariant-loop-step
invariant-loop-step l = run (drop l.step-index l.steps) l.now ≡ run l.steps l.dev
