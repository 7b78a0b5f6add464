use Rattle.std.proofs.Common.{ℕ, ◌<◌}
use Rattle.unit_alloc.specs.Owning.{times}
use Rattle.unit_alloc.proofs.plain.PlainOwners.lowest_free.Given as goal

abbrev pub invariant-loop-unit : goal.invariant-loop-unit
invariant-loop-unit l = (k : ℕ) → k < l.unit → 0 < times k l.self.parts
