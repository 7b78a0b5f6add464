use Rattle.std.proofs.Common.{◌≡◌, ◌<◌, ◌≤◌, ◌+◌, ◌-◌, length, slice_index}
use Rattle.unit_alloc.specs.Owning.{units_of}
use Rattle.unit_alloc.proofs.tests.runs_of.Given as goal

abbrev pub invariant-loop-end : goal.invariant-loop-end
invariant-loop-end l =
    (0 < l.run)
    × (l.run ≤ l.end)
    × (l.end ≤ length (units_of l.owners l.part))
    × (l.first + l.run ≤ l.owners.units)
    × (slice_index (units_of l.owners l.part) (l.end - 1) ≡ l.first + (l.run - 1))

abbrev pub decreases-loop-end : goal.decreases-loop-end
decreases-loop-end l = l.count - l.end
