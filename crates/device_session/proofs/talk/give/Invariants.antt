use Rattle.std.proofs.Common.{◌≡◌, ℕ, List, length}
use Rattle.std.specs.Prelude.{IsTrue}
use Rattle.device_session.specs.Talking.{TalksOn, GateCalm}
use Rattle.device_session.proofs.talk.give.Given as goal

abbrev pub invariant-loop-session : goal.invariant-loop-session
invariant-loop-session g l = record {
  up : IsTrue (g.G.Gate.told l.gate).up;
  talks : (left : List ℕ) → TalksOn g.K.Disk.told l.fn.session left (g.G.Gate.told l.fn.gate) l.session left (g.G.Gate.told l.gate);
  same : l.session ≡ record l.fn.session { out = l.session.out };
  calm : GateCalm (g.G.Gate.told l.fn.gate) (g.G.Gate.told l.gate);
  lent : g.G.Gate.lent l.gate ≡ g.G.Gate.lent l.fn.gate;
}

abbrev pub decreases-loop-session : goal.decreases-loop-session
decreases-loop-session g l = length l.session.out
