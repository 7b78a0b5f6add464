use Rattle.std.proofs.Common.{◌≡◌, ◌≤◌, ◌+◌, length, arith, rules}
use Rattle.fb_frame.specs.declared.deframer.Event.TheVariants.{More}
use Rattle.fb_frame.proofs.FeedLemmas.{turn, last}
use Rattle.fb_frame.proofs.listener.feed_piece.Goals as goal

pub returns-then-eq-clause-reads : goal.returns-then-eq-clause-reads
returns-then-eq-clause-reads g c = λ bytes r.
    let piece = c.args.piece.now in
    let at = c.loop-at.at in
    let is_more : c.feed-taken.result.1 ≡ More = search rules in
    let within : at + c.feed-taken.result.0 ≤ length piece = search rules in
    last bytes piece at c.feed-taken.result.0 _ _ _ _ _ _ (λ i. omega (arith, c.type_inv.piece i)) within is_more (omega arith) (c.loop-at.invariant.reads bytes r) c.feed-taken.ensures.feeds c.note.ensures

pub loop-at-preserved : goal.loop-at-preserved
loop-at-preserved g c =
    let piece = c.args.piece.now in
    let at = c.loop-at.at in
    let within : at + c.feed-taken.result.0 ≤ length piece = search rules in
    record {
      within = within;
      reads = λ bytes r. turn bytes piece at c.feed-taken.result.0 _ _ _ _ _ _ (λ i. omega (arith, c.type_inv.piece i)) within (omega arith) (c.loop-at.invariant.reads bytes r) c.feed-taken.ensures.feeds c.note.ensures;
    }
