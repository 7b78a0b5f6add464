use Rattle.std.proofs.Common.{◌-◌, ◌≤◌, replicate}
use Rattle.device_engine.proofs.PutLemmas.{IsPut}
use Rattle.device_engine.proofs.put_runs.put_zeros_by.Given as goal

abbrev pub invariant-loop-done : goal.invariant-loop-done
invariant-loop-done g l = record {
  long : l.done ≤ l.total;
  put : IsPut g.K.Disk.told g.K.Disk.lent l.name l.at (replicate l.done 0) l.initial.store l.store;
}

abbrev pub decreases-loop-done : goal.decreases-loop-done
decreases-loop-done g l = l.total - l.done
