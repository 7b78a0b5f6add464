use Rattle.std.proofs.Common.{◌≡◌, ◌+◌, ◌-◌, ◌≤◌, get_or}
use Rattle.unit_alloc.specs.Owning.{run_from}
use Rattle.unit_alloc.specs.Chains.{stepped, linked}
use Rattle.unit_alloc.proofs.owners.run_length.Given as goal

abbrev pub invariant-loop-run : goal.invariant-loop-run
invariant-loop-run l =
    (1 ≤ l.run)
    × (l.run ≤ l.count)
    × (l.last ≡ stepped l.next l.first (l.run - 1))
    × (l.last + 1 ≡ l.first + l.run)
    × (run_from l.first (linked l.next l.first l.count) ≡ l.run + run_from (l.first + l.run) (linked l.next (get_or l.next l.last 0) (l.count - l.run)))

abbrev pub decreases-loop-run : goal.decreases-loop-run
decreases-loop-run l = l.count - l.run
