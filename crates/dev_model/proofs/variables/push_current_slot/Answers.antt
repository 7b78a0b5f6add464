use Rattle.std.proofs.Common.{[], ◌∷◌, sym, ap, ◌∙◌}
use Rattle.dev_model.proofs.RowLemmas.{one_row, pair, when_slots}
use Rattle.dev_model.proofs.variables.push_current_slot.Goals as goal

pub returns-in_ok-push_row : goal.returns-in_ok-push_row
returns-in_ok-push_row c =
    when_slots c.args.dev.now c.args.rows.now c.push_row.new.rows _ (sym c.has_slots.ensures ∙ c.if-has_slots.true)
    (one_row c.args.rows.now c.push_row.new.rows _ _ c.in_ok-push_row.ensures
    (pair _ _ _ _ c.as_slice.ensures (c.as_slice-then-has_slots.ensures ∙ ap (λ l. l ∷ []) c.letter.ensures)))
