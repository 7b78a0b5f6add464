use Rattle.std.proofs.Common.{◌≡◌, ◌+◌, ◌-◌, ◌≤◌, drop, length}
use Rattle.unit_alloc.specs.Owning.{run_from, units_of}
use Rattle.unit_alloc.proofs.plain.PlainOwners.run_of.Given as goal

abbrev pub invariant-loop-run : goal.invariant-loop-run
invariant-loop-run l =
    let list = units_of l.self l.part in
    (l.place + l.run ≤ length list) × (run_from l.first (drop l.place list) ≡ l.run + run_from (l.first + l.run) (drop (l.place + l.run) list))

abbrev pub decreases-loop-run : goal.decreases-loop-run
decreases-loop-run l = l.count - l.run
