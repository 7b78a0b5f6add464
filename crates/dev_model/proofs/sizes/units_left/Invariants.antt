use Rattle.std.proofs.Common.{◌≡◌, drop}
use Rattle.dev_model.specs.Sizes.{sizes_of, units_of, less}
use Rattle.dev_model.proofs.sizes.units_left.Given as goal

-- what the partitions that follow take is to be taken of what is left
abbrev pub invariant-loop-part : goal.invariant-loop-part
invariant-loop-part l = less (units_of l.dev.unit (sizes_of (drop l.part-index l.dev.logical))) l.left ≡ less (units_of l.dev.unit (sizes_of l.dev.logical)) l.dev.units
