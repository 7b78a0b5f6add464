use Rattle.std.proofs.Common.{arith}
use Rattle.unit_alloc.specs.Owning.{units_of}
use Rattle.dev_store.proofs.BuildRuns.{extents-end}
use Rattle.dev_store.proofs.layout.SuperPart.add_extents.Goals as goal

pub returns-clause-items : goal.returns-clause-items
returns-clause-items c =
    extents-end c.args.self.now (units_of c.args.owners.now c.args.part) c.loop-place.place c.loop-place.left c.loop-place.extents.items _
    (omega (arith, c.loop-place-test.false, c.count-count.ensures.count)) c.loop-place.invariant.items
