use Rattle.std.proofs.Common.{◌≡◌, ◌-◌, ◌≤◌}
use Rattle.fb_frame.specs.Told.{Both}
use Rattle.device_engine.specs.Running.{held_of, Follows}
use Rattle.device_session.specs.Serving.{ServesNew, IsMore, HaltsByDisk}
use Rattle.device_session.specs.Talking.{GateCalm}
use Rattle.device_session.proofs.serving.serve.Given as goal

abbrev pub invariant-loop-end : goal.invariant-loop-end
invariant-loop-end g l = record {
  within : l.count ≤ l.connections;
  follows : Follows g.K.Disk.told g.K.Disk.lent (held_of l.fn.device) l.device;
  halts : HaltsByDisk g.K.Disk.told (held_of l.fn.device) (held_of l.device);
  room : l.room ≡ l.fn.room;
  served : Both (ServesNew g.K.Disk.told (held_of l.fn.device) (held_of l.device)) (g.G.Gate.told l.fn.gate).connections (g.G.Gate.told l.gate).connections;
  counted : Both (IsMore l.count) (g.G.Gate.told l.fn.gate).connections (g.G.Gate.told l.gate).connections;
  calm : GateCalm (g.G.Gate.told l.fn.gate) (g.G.Gate.told l.gate);
  lent : g.G.Gate.lent l.gate ≡ g.G.Gate.lent l.fn.gate;
}

abbrev pub decreases-loop-end : goal.decreases-loop-end
decreases-loop-end g l = l.connections - l.count
