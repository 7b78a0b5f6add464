use Rattle.std.proofs.Common.{◌≤◌, All}
use Rattle.rehearsals.proofs.cutting.bounds.Given as goal

abbrev pub invariant-loop-size : goal.invariant-loop-size
invariant-loop-size l = All (λ size. 1 ≤ size) l.bounds.items
