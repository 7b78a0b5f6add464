use Rattle.std.proofs.Common.{◌≡◌, ◌-◌, ◌^◌, []}
use Rattle.std.specs.Prelude.{IsTrue}
use Rattle.device_session.specs.Talking.{TalksUp, GateCalm, IsKept}
use Rattle.device_session.proofs.talk.talk.Given as goal

abbrev pub invariant-loop-session : goal.invariant-loop-session
invariant-loop-session g l = record {
  up : IsTrue (g.G.Gate.told l.gate).up;
  talks : TalksUp g.K.Disk.told l.fn.session [] (g.G.Gate.told l.fn.gate) l.session (g.G.Gate.told l.gate);
  given : l.session.out ≡ [];
  kept : IsKept g.K.Disk.told g.K.Disk.lent l.fn.session l.session;
  calm : GateCalm (g.G.Gate.told l.fn.gate) (g.G.Gate.told l.gate);
  lent : g.G.Gate.lent l.gate ≡ g.G.Gate.lent l.fn.gate;
}

abbrev pub decreases-loop-session : goal.decreases-loop-session
decreases-loop-session g l = 2 ^ 62 - l.session.taken
