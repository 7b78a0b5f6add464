use Rattle.std.proofs.Common.{ℕ, ◌*◌, ◌<◌}
use Rattle.unit_alloc.specs.Owning.{OneOwner, times}
use Rattle.unit_alloc.proofs.GrownLemmas.{Grown}
use Rattle.unit_alloc.proofs.owners.Owners.grow.Given as goal

abbrev pub invariant-loop-count : goal.invariant-loop-count
invariant-loop-count l = Grown l.initial.self l.self l.part l._count × OneOwner l.self × ((k : ℕ) → k < 64 * l.word → 0 < times k l.self.parts)
