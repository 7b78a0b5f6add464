use Rattle.std.proofs.Common.{arith}
use Rattle.super_meta.proofs.SpelledLemmas.{image-found-by, image-only}
use Rattle.super_meta.proofs.image.read_empty_image.Goals as goal

pub returns-clause-found : goal.returns-clause-found
returns-clause-found c = image-found-by c.args.bytes.now c.image_in.result (λ i. omega (arith, c.type_inv.bytes i)) c.image_in.ensures.image

pub returns-clause-only : goal.returns-clause-only
returns-clause-only c = λ flaw e g t h. image-only c.args.bytes.now flaw (c.image_in.ensures.flaw flaw e) g t h
