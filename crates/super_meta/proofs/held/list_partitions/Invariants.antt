use Rattle.std.proofs.Common.{◌≡◌, map, take}
use Rattle.super_meta.specs.Held.{listed}
use Rattle.super_meta.proofs.held.list_partitions.Given as goal

abbrev pub invariant-loop-partition : goal.invariant-loop-partition
invariant-loop-partition l = l.list ≡ map (listed l.groups) (take l.partition-index l.partitions)
