use Rattle.std.proofs.Common.{arith}
use Rattle.dev_store.proofs.ChangeFlaws.{places-enough}
use Rattle.dev_store.proofs.create_plan.free_part.Goals as goal

pub overflow_add-part : goal.overflow_add-part
overflow_add-part c =
    let few = places-enough 0 c.loop-part.part c.args.parts.now (λ k low high. c.loop-part.invariant k (omega (arith, high))) in
    omega (arith, few, c.requires.few)

pub loop-part-smaller : goal.loop-part-smaller
loop-part-smaller c =
    let few = places-enough 0 c.loop-part.part c.args.parts.now (λ k low high. c.loop-part.invariant k (omega (arith, high))) in
    omega (arith, few, c.requires.few)

pub returns-clause-inside : goal.returns-clause-inside
returns-clause-inside c =
    let few = places-enough 0 c.loop-part.part c.args.parts.now (λ k low high. c.loop-part.invariant k (omega (arith, high))) in
    omega (arith, few, c.requires.few)
