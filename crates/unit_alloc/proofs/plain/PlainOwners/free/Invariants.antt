use Rattle.std.proofs.Common.{◌≡◌, ◌≤◌}
use Rattle.unit_alloc.proofs.FreeLemmas.{free_below}
use Rattle.unit_alloc.proofs.plain.PlainOwners.free.Given as goal

abbrev pub invariant-loop-unit : goal.invariant-loop-unit
invariant-loop-unit l = (l.free ≡ free_below l.self l.unit) × (l.free ≤ l.unit)
