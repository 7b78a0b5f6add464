use Rattle.std.proofs.Common.{◌-◌, ◌≤◌}
use Rattle.rehearsals.proofs.each.run_each.Given as goal

abbrev pub invariant-loop-place : goal.invariant-loop-place
invariant-loop-place l = 1 ≤ l.step

abbrev pub decreases-loop-place : goal.decreases-loop-place
decreases-loop-place l = l.range.last - l.place
