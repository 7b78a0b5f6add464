use Rattle.std.proofs.Common.{◌≡◌, map, take}
use Rattle.flash_plan.proofs.plan_listed.names.Given as goal

-- the names of those before
abbrev pub invariant-loop-partition : goal.invariant-loop-partition
invariant-loop-partition l = l.names ≡ map (λ p. p.name) (take l.partition-index l.partitions)
