use Rattle.std.proofs.Common.{◌≡◌, ◌++◌, drop, filter}
use Rattle.dev_model.specs.Tables.{is_kept, left_over, merged}
use Rattle.dev_model.proofs.merged.merged.Given as goal

-- those that follow are left over
abbrev pub invariant-loop-part : goal.invariant-loop-part
invariant-loop-part l = l.entries ++ left_over l.tables (filter (is_kept l.dev l.wipe) (drop l.part-index l.dev.logical)) ≡ merged l.tables l.wipe l.dev
