-- The lowest free unit goes behind the units that were handed out so far.
use Rattle.std.proofs.Common.{arith}
use Rattle.unit_alloc.proofs.GrownLemmas.{Grown-more}
use Rattle.unit_alloc.proofs.plain.PlainOwners.grow.Goals as goal

pub loop-count-preserved : goal.loop-count-preserved
loop-count-preserved c =
    (rw c.append.ensures.handed (Grown-more c.args.self.now c.loop-count.self c.args.part c.loop-count._count c.lowest_free-unit.result c.loop-count.invariant.0 c.requires (omega arith) c.lowest_free-unit.ensures), c.append.ensures.one_owner)
