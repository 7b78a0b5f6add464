use Rattle.std.proofs.Common.{◌≡◌, ◌+◌, ◌-◌, ◌≤◌, [], length, drop}
use Rattle.std.specs.Prelude.{IsTrue}
use Rattle.device_session.specs.Talking.{TalksOn, GateCalm, IsKept}
use Rattle.device_session.proofs.talk.take_in.Given as goal

abbrev pub invariant-loop-at : goal.invariant-loop-at
invariant-loop-at g l = record {
  within : l.at ≤ length l.piece;
  up : IsTrue (g.G.Gate.told l.gate).up;
  talks : TalksOn g.K.Disk.told l.fn.session l.piece (g.G.Gate.told l.fn.gate) l.session (drop l.at l.piece) (g.G.Gate.told l.gate);
  given : l.session.out ≡ [];
  taken : l.session.taken ≡ l.fn.session.taken + l.at;
  begins : l.at ≡ 0 → l.session.closed ≡ l.fn.session.closed;
  kept : IsKept g.K.Disk.told g.K.Disk.lent l.fn.session l.session;
  calm : GateCalm (g.G.Gate.told l.fn.gate) (g.G.Gate.told l.gate);
  lent : g.G.Gate.lent l.gate ≡ g.G.Gate.lent l.fn.gate;
}

abbrev pub decreases-loop-at : goal.decreases-loop-at
decreases-loop-at g l = length l.piece - l.at
