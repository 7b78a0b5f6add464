use Rattle.std.proofs.Common.{arith}
use Rattle.dev_store.proofs.PartFound.{span-inside}
use Rattle.dev_store.proofs.part_place.find_part.Goals as goal

pub returns-in-Some-clause-safe : goal.returns-in-Some-clause-safe
returns-in-Some-clause-safe c = record { room = tt; end = omega (arith, c.in-Some.ensures.bounded) }

pub returns-in-Some-clause-inside : goal.returns-in-Some-clause-inside
returns-in-Some-clause-inside c = span-inside c.args.layout.now _ c.args.name.now c.find_physical.result c.in-Some.span c.physical.ensures c.in-Some.is c.find_physical.ensures.found
