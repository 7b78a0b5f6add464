use Rattle.std.proofs.Common.{◌≡◌, drop, filter}
use Rattle.std.specs.Prelude.{not}
use Rattle.std.specs.List.{list_any}
use Rattle.dev_model.specs.Tables.{is_group, is_kept, kept, left_over}
use Rattle.dev_model.proofs.tables.lacks_group.Given as goal

-- none that was passed lacks its group
abbrev pub invariant-loop-part : goal.invariant-loop-part
invariant-loop-part l = list_any (λ p. not (is_group l.tables.groups p.group)) (left_over l.tables (filter (is_kept l.dev l.wipe) (drop l.part-index l.dev.logical))) ≡ list_any (λ p. not (is_group l.tables.groups p.group)) (left_over l.tables (kept l.dev l.wipe))
