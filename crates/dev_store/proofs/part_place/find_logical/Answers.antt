use Rattle.std.proofs.Common.{arith}
use Rattle.dev_store.proofs.PartFound.{part-bounded, units-within}
use Rattle.dev_store.proofs.part_place.find_logical.Goals as goal

pub find_units-requires-clause-bounded : goal.find_units-requires-clause-bounded
find_units-requires-clause-bounded c = part-bounded c.args.layout.now c.in-Some.part c.requires.laid c.in-Some.ensures

pub find_units-requires-clause-few : goal.find_units-requires-clause-few
find_units-requires-clause-few c = units-within c.args.layout.now _ c.args.within.now c.in-Some.part c.in-Some-within.within c.in-Some.ensures c.in-Some-within.is c.requires.sound

pub returns-in-Some-find_units-clause-safe : goal.returns-in-Some-find_units-clause-safe
returns-in-Some-find_units-clause-safe c =
    let b = part-bounded c.args.layout.now c.in-Some.part c.requires.laid c.in-Some.ensures in
    record { room = c.in-Some-find_units.ensures.room; end = omega (arith, c.in-Some-find_units.ensures.inside, b.size) }
