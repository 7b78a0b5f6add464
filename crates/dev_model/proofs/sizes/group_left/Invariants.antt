use Rattle.std.proofs.Common.{◌≡◌, drop}
use Rattle.dev_model.specs.Sizes.{sizes_of, group_bytes, less}
use Rattle.dev_model.proofs.sizes.group_left.Given as goal

-- what the partitions that follow take is to be taken of what is left
abbrev pub invariant-loop-part : goal.invariant-loop-part
invariant-loop-part l = less (group_bytes l.group.name (sizes_of (drop l.part-index l.parts))) l.left ≡ less (group_bytes l.group.name (sizes_of l.parts)) l.group.limit
