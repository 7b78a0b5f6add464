use Rattle.std.proofs.Common.{arith}
use Rattle.sparse_image.proofs.piece.Piece.cut.Goals as goal

pub overflow_cast-result : goal.overflow_cast-result
overflow_cast-result c = omega (arith, c.requires.ended.bytes, c.requires.ended.ends.fits.size)

pub invariant_of-result : goal.invariant_of-result
invariant_of-result c =
    let fits = c.requires.ended.ends.fits in
    record {
      index = c.requires.index;
      more = fits.more;
      within = fits.within;
      size = c.requires.ended.bytes;
      small = omega (arith, c.requires.ended.bytes, fits.size);
      all = λ h. absurd (cc);
      cut = λ h. record {
        few = omega (arith, c.requires.ended.chunks, fits.few);
        count = c.requires.ended.chunks;
        well = c.requires.well;
        block = c.requires.block;
        rest = c.requires.chunks;
      };
    }
