use Rattle.std.proofs.Common.{refl, sym, ap, ◌∙◌}
use Rattle.pair_port.specs.Pairs.{Pair}
use Rattle.pair_port.specs.Ready.{end_of}
use Rattle.pair_port.proofs.GiveLemmas.{gives-pair}
use Rattle.pair_port.proofs.pair.PairPort.give.Goals as goal

pub returns-clause-gives : goal.returns-clause-gives
returns-clause-gives g c =
    gives-pair c.args.self.now _ c.in-Up.session c.give.new.session c.args.n c.args.buf.now c.give.new.buf
    (ap (λ (p : Pair _). p.end) (sym c.self.view_is) ∙ ap end_of c.in-Up.is) refl (ap (λ (p : Pair _). p.left) c.self.view_is)
    c.requires.fits c.give.ensures.same_length c.give.ensures.gave c.give.ensures.left
