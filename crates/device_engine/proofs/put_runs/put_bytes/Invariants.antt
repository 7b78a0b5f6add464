use Rattle.std.proofs.Common.{◌-◌, ◌≤◌, length, take}
use Rattle.device_engine.proofs.PutLemmas.{IsPut}
use Rattle.device_engine.proofs.put_runs.put_bytes.Given as goal

abbrev pub invariant-loop-done : goal.invariant-loop-done
invariant-loop-done g l = record {
  long : l.done ≤ length l.bytes;
  put : IsPut g.K.Disk.told g.K.Disk.lent l.name l.at (take l.done l.bytes) l.initial.store l.store;
}

abbrev pub decreases-loop-done : goal.decreases-loop-done
decreases-loop-done g l = length l.bytes - l.done
