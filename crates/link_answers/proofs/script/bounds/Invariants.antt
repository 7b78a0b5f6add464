use Rattle.std.proofs.Common.{◌≤◌, All}
use Rattle.link_answers.proofs.script.bounds.Given as goal

abbrev pub invariant-loop-size : goal.invariant-loop-size
invariant-loop-size l = All (λ size. 1 ≤ size) l.bounds.items
