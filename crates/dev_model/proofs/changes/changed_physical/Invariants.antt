use Rattle.std.proofs.Common.{◌≡◌, map, take}
use Rattle.dev_model.specs.Changes.{changed}
use Rattle.dev_model.specs.Partitions.{physical_changed}
use Rattle.dev_model.proofs.changes.changed_physical.Given as goal

-- the partitions that were passed are changed
abbrev pub invariant-loop-part : goal.invariant-loop-part
invariant-loop-part l = l.copied ≡ map (physical_changed l.name (changed l.change)) (take l.part-index l.parts)
