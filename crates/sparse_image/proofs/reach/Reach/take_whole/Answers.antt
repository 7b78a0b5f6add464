use Rattle.std.proofs.Common.{arith, refl}
use Rattle.sparse_image.specs.Cuts.{rest_chunks}
use Rattle.sparse_image.proofs.GrowLemmas.{reach-next, front-within}
use Rattle.sparse_image.proofs.reach.Reach.take_whole.Goals as goal

pub returns-clause-reach : goal.returns-clause-reach
returns-clause-reach c =
    let s = c.args.self.now in
    reach-next s _ c.args.chunk.now.blocks c.len-len.result c.requires.reach (c.fits.ensures.yes c.if-not-fits.false)
    (record {
      same = record { max = refl; blocks = refl; block = c.advance.ensures.block };
      at = refl;
      bytes = refl;
      chunks = refl;
      rest = c.advance.ensures.chunks;
    })
    c.advance.ensures.rest
    (omega (arith, c.requires.reach.total, front-within (rest_chunks s.rest) c.args.chunk.now c.requires.front))
