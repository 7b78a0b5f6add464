use Rattle.std.proofs.Common.{◌≡◌, length, ap, ◌∙◌}
use Rattle.pair_port.specs.Counters.{most, passed}
use Rattle.pair_port.specs.Pairs.{Pair}
use Rattle.pair_port.proofs.SendLemmas.{sends-pair}
use Rattle.pair_port.proofs.pair.PairPort.pass.Goals as goal

pub returns-clause-sends : goal.returns-clause-sends
returns-clause-sends g c = λ some.
    let old = c.args.self.now in
    let bytes = c.args.bytes.now in
    let e = c.feed-n.ensures in
    let counters : c.self.inside.meter ≡ old.counters = ap (λ (p : Pair _). p.counters) c.self.view_is in
    sends-pair g.K.Disk.told old c.feed-n.new.self _ c.feed-n.result c.most-most.result bytes (e.feeds some) (ap (λ (p : Pair _). p.end) c.self-2.view_is) (ap (λ (p : Pair _). p.left) c.self-2.view_is)
    e.within c.most-most.ensures.within (c.most-most.ensures.most ∙ ap (λ m. most m (length bytes)) counters) e.stops
    (c.pass.ensures.passed ∙ ap (passed c.feed-n.result) (ap (λ (p : Pair _). p.counters) c.self-2.view_is ∙ e.counters))
