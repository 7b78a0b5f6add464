use Rattle.std.proofs.Common.{length, ◌-◌}
use Rattle.pair_port.proofs.TakesLemmas.{IsFed}
use Rattle.pair_port.proofs.feeding.feed.Given as goal

abbrev pub invariant-loop-at : goal.invariant-loop-at
invariant-loop-at g l = IsFed g.K.Disk.told g.K.Disk.lent l.piece l.at l.initial.session l.session l.initial.left.device l.left.device

abbrev pub decreases-loop-at : goal.decreases-loop-at
decreases-loop-at g l = length l.piece - l.at
