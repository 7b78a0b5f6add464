use Rattle.std.proofs.Common.{◌≡◌, drop, filter}
use Rattle.dev_model.specs.Sizes.{sizes_of, group_bytes, less}
use Rattle.dev_model.specs.Tables.{is_kept, kept, left_over}
use Rattle.dev_model.proofs.tables.left_over_left.Given as goal

-- what the partitions that follow take is to be taken of what is left
abbrev pub invariant-loop-part : goal.invariant-loop-part
invariant-loop-part l = less (group_bytes l.group.name (sizes_of (left_over l.tables (filter (is_kept l.dev l.wipe) (drop l.part-index l.dev.logical))))) l.left ≡ less (group_bytes l.group.name (sizes_of (left_over l.tables (kept l.dev l.wipe)))) l.room
