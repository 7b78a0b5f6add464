use Rattle.unit_alloc.specs.Owning.{OneOwner}
use Rattle.unit_alloc.proofs.GrownLemmas.{Grown}
use Rattle.unit_alloc.proofs.plain.PlainOwners.grow.Given as goal

abbrev pub invariant-loop-count : goal.invariant-loop-count
invariant-loop-count l = Grown l.initial.self l.self l.part l._count × OneOwner l.self
