use Rattle.std.proofs.Common.{◌≡◌, ◌+◌, ◌≤◌, drop, length, filter}
use Rattle.dev_model.specs.Tables.{is_kept, kept, left_over}
use Rattle.dev_model.proofs.tables.left_over_count.Given as goal

-- those that were passed are counted
abbrev pub invariant-loop-part : goal.invariant-loop-part
invariant-loop-part l = record { few : l.count ≤ l.part-index; counted : l.count + length (left_over l.tables (filter (is_kept l.dev l.wipe) (drop l.part-index l.dev.logical))) ≡ length (left_over l.tables (kept l.dev l.wipe)) }
