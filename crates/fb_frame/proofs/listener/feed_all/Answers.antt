use Rattle.std.proofs.Common.{◌≡◌, ◌++◌, take, ap, subst}
use Rattle.std.specs.Prelude.{flat_map}
use Rattle.std.proofs.lemmas.List.{take_all}
use Rattle.fb_frame.specs.Gathered.{ReadsTold}
use Rattle.fb_frame.proofs.FeedLemmas.{cuts-from-start}
use Rattle.fb_frame.proofs.listener.feed_all.Goals as goal

pub returns-clause-cut : goal.returns-clause-cut
returns-clause-cut g c = λ e f.
    let pieces = c.args.pieces.now in
    let joined = flat_map (λ p. p.now) pieces in
    let all : flat_map (λ p. p.now) (take c.loop-piece.piece-index pieces) ≡ joined = ap (flat_map (λ p. p.now)) (take_all c.loop-piece.piece-index pieces c.loop-piece-test.false) in
    cuts-from-start joined _ _ _ _ e f c.loop-piece.invariant.ended (λ front r. subst (λ t. ReadsTold (front ++ t) (g.L.Listener.told c.loop-piece.listener) c.loop-piece.deframer) all (c.loop-piece.invariant.reads front r))
