use Rattle.std.proofs.Common.{◌≡◌, false, ◌∙◌, ◌<◌, sym, arith}
use Rattle.std.specs.Prelude.{nat_le}
use Rattle.std.proofs.lemmas.Bool.Decides.{nat_tests}
use Rattle.sparse_image.specs.Pieces.{whole_len}
use Rattle.sparse_image.proofs.MostLemmas.{cut-step}
use Rattle.sparse_image.proofs.CuttingLemmas.{rest-total}
use Rattle.sparse_image.proofs.pieces.Pieces.next.Goals as goal

pub of-reach-requires-clause-total : goal.of-reach-requires-clause-total
of-reach-requires-clause-total c =
    let s = c.self.inside in
    let more : s.first < s.index.now.blocks = omega (arith, c.self.invariant.within, c.blocks-2.ensures) in
    rest-total s.index.now s.first s.rest c.self.invariant.index c.self.invariant.within (c.self.invariant.chunks more) ∙ sym c.blocks-3.ensures

pub returns-clause-most : goal.returns-clause-most
returns-clause-most c =
    let s = c.self.inside in
    let kept = s.index.now in
    let more : s.first < kept.blocks = omega (arith, c.self.invariant.within, c.blocks-2.ensures) in
    let ended = c.of-reach.ensures.piece kept (sym c.self.invariant.block) (sym c.blocks-3.ensures) (omega (arith, more, c.blocks-3.ensures)) (c.self.invariant.chunks more) in
    let long : nat_le (whole_len kept) s.max ≡ false = grind (arith, nat_tests, c.if-len-from.false, c.from.ensures, c.whole_len-len.ensures) in
    let step = cut-step kept s.max s.first c.of-reach.result.at c.self.invariant.index long (omega (arith, ended.ends.fits.more)) in
    rw (c.cut.ensures, ← c.self.view_is) step
