use Rattle.std.proofs.Common.{length}
use Rattle.device_engine.proofs.FlashLemmas.{IsPutSoFar}
use Rattle.device_engine.proofs.put_runs.put_runs.Given as goal

abbrev pub invariant-loop-run : goal.invariant-loop-run
invariant-loop-run g l = IsPutSoFar g.K.Disk.told g.K.Disk.lent l.name l.initial.runs.cells l.runs l.initial.store l.store

abbrev pub decreases-loop-run : goal.decreases-loop-run
decreases-loop-run g l = length l.runs.cells
