use Rattle.std.proofs.Common.{take, refl, sym, ap, ◌∙◌, subst}
use Rattle.dev_model.specs.declared.device.Dev.{Dev}
use Rattle.pair_port.specs.Calls.{Takes}
use Rattle.pair_port.specs.Pairs.{Pair, wire_at}
use Rattle.pair_port.specs.Ready.{end_of}
use Rattle.pair_port.proofs.pair.PairPort.feed.Goals as goal

pub returns-clause-feeds : goal.returns-clause-feeds
returns-clause-feeds g c = λ some.
    let before = c.in-Up.session in
    let after = c.feed.new.session in
    record {
      before = before;
      after = after;
      up_before = ap (λ (p : Pair _). p.end) (sym c.self.view_is) ∙ ap end_of c.in-Up.is;
      up_now = refl;
      takes = subst (λ (d : Dev). Takes g.K.Disk.told before after (wire_at before d) (wire_at after c.feed.new.left.device) (take c.feed.result c.args.piece.now))
          (ap (λ (p : Pair _). p.left) c.self.view_is) (c.feed.ensures.takes some);
    }
