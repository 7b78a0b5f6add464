use Rattle.std.proofs.Common.{◌≡◌, map, take}
use Rattle.super_meta.specs.Held.{limited}
use Rattle.super_meta.proofs.held.list_groups.Given as goal

abbrev pub invariant-loop-group : goal.invariant-loop-group
invariant-loop-group l = l.list ≡ map limited (take l.group-index l.groups)
