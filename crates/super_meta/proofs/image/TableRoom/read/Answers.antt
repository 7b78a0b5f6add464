use Rattle.std.proofs.Common.{arith}
use Rattle.super_meta.proofs.SpelledLemmas.{room-found-by, room-only-by}
use Rattle.super_meta.proofs.image.TableRoom.read.Goals as goal

pub returns-clause-found : goal.returns-clause-found
returns-clause-found c = room-found-by c.args.bytes.now c.take_image.result _ (λ i. omega (arith, c.type_inv.bytes i)) c.take_image.ensures.table

pub returns-clause-only : goal.returns-clause-only
returns-clause-only c = room-only-by c.args.bytes.now c.take_image.result c.take_image.ensures.flaw
