use Rattle.std.proofs.Common.{arith}
use Rattle.dev_store.proofs.SizesLaid.{super-bounded}
use Rattle.dev_store.proofs.layout.Layout.image_size.Goals as goal

pub overflow_add-result : goal.overflow_add-result
overflow_add-result c =
    let bound = super-bounded _ _ c.in-Some.part c.self.invariant c.in-Some.is in omega (arith, bound, c.parts_end.ensures.bounded)

pub returns-in-Some-clause-bounded : goal.returns-in-Some-clause-bounded
returns-in-Some-clause-bounded c =
    let bound = super-bounded _ _ c.in-Some.part c.self.invariant c.in-Some.is in omega (arith, bound, c.parts_end.ensures.bounded)
