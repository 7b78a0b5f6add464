use Rattle.std.proofs.Common.{arith}
use Rattle.dev_store.proofs.RegrowPlan.{own-free}
use Rattle.dev_store.proofs.resize_plan.regrow.Goals as goal

pub overflow_cast-units-2 : goal.overflow_cast-units-2
overflow_cast-units-2 c =
    let most = own-free c.args.owners.now c.args.part c.count.ensures.one_owner c.requires.part in
    omega (arith, most, c.requires.room, c.count.ensures.count, c.from-own.ensures, c.count.ensures.small)
