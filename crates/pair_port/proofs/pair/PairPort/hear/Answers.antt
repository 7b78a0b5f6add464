use Rattle.std.proofs.Common.{◌≡◌, ◌≤◌, length, take, min, arith, sym, ap, ◌∙◌, subst}
use Rattle.std.proofs.lemmas.List.{length-take-le}
use Rattle.pair_port.specs.Counters.{most, passed}
use Rattle.pair_port.specs.Pairs.{Pair}
use Rattle.pair_port.proofs.GiveLemmas.{hears-pair}
use Rattle.pair_port.proofs.pair.PairPort.hear.Goals as goal

pub returns-clause-hears : goal.returns-clause-hears
returns-clause-hears g c = λ _.
    let n = c.most-n.result in
    let now = c.give.new.buf in
    let old = c.args.self.now in
    let within : n ≤ length now = omega (arith, c.most-n.ensures.within, c.min.ensures, c.give.ensures.same_length) in
    let counters : c.self.inside.meter ≡ old.counters = ap (λ (p : Pair _). p.counters) c.self.view_is in
    hears-pair old c.give.new.self _ n c.waiting-waiting.result (length now) (take n now) c.give.ensures.gives (ap (λ (p : Pair _). p.end) c.self-2.view_is) (ap (λ (p : Pair _). p.left) c.self-2.view_is)
    (length-take-le n now within) c.waiting-waiting.ensures.waiting
    (c.most-n.ensures.most ∙ ap (λ m. most m c.min.result) counters ∙ ap (most old.counters) (c.min.ensures ∙ ap (min c.waiting-waiting.result) (sym c.give.ensures.same_length)))
    (c.pass.ensures.passed ∙ ap (passed n) (ap (λ (p : Pair _). p.counters) c.self-2.view_is ∙ c.give.ensures.counters))
