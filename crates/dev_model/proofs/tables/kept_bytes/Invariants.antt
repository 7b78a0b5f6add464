use Rattle.std.proofs.Common.{◌≡◌, drop, filter}
use Rattle.dev_model.specs.Tables.{is_kept, kept, kept_bytes}
use Rattle.dev_model.proofs.tables.kept_bytes.Given as goal

-- no kept partition that was passed has the name
abbrev pub invariant-loop-part : goal.invariant-loop-part
invariant-loop-part l = kept_bytes l.name (filter (is_kept l.dev l.wipe) (drop l.part-index l.dev.logical)) ≡ kept_bytes l.name (kept l.dev l.wipe)
