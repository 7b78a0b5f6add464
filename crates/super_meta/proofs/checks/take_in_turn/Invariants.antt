use Rattle.std.proofs.Common.{◌≡◌, ◌<◌, ◌^◌, drop}
use Rattle.super_meta.specs.Contents.{take_in_turn}
use Rattle.super_meta.proofs.checks.take_in_turn.Given as goal

abbrev pub invariant-loop-partition : goal.invariant-loop-partition
invariant-loop-partition l = record {
  left : take_in_turn l.extents l.at (drop l.partition-index l.partitions) ≡ take_in_turn l.extents 0 l.partitions;
  fits : l.at < 2 ^ 34;
}
