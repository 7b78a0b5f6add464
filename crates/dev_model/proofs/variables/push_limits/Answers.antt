use Rattle.std.proofs.Common.{ap, ◌∙◌}
use Rattle.dev_model.specs.Variables.{yes_or_no}
use Rattle.dev_model.proofs.RowLemmas.{three_rows, pair}
use Rattle.dev_model.proofs.variables.push_limits.Goals as goal

pub returns : goal.returns
returns c =
    three_rows c.args.rows.now c.push_row.new.rows c.push_row-2.new.rows c.push_row-3.new.rows _ _ _ _ _ _ c.in_ok-push_row.ensures c.in_ok-push_row-2.ensures c.in_ok-push_row-3.ensures
    (pair _ _ _ _ c.as_slice.ensures c.slot_count.ensures)
    (pair _ _ _ _ c.as_slice-2.ensures (c.as_slice-3.ensures ∙ c.in_ok-max.ensures))
    (pair _ _ _ _ c.as_slice-4.ensures (c.yes_or_no.ensures ∙ ap yes_or_no c.is_userspace.ensures))
