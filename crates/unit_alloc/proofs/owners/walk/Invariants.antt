use Rattle.std.proofs.Common.{◌≡◌}
use Rattle.unit_alloc.specs.Chains.{stepped}
use Rattle.unit_alloc.proofs.owners.walk.Given as goal

abbrev pub invariant-loop-step : goal.invariant-loop-step
invariant-loop-step l = l.unit ≡ stepped l.next l.first l._step
