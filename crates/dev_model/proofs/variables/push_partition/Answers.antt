use Rattle.std.proofs.Common.{◌∙◌, refl}
use Rattle.dev_model.proofs.RowLemmas.{three_rows, pair_of}
use Rattle.dev_model.proofs.variables.push_partition.Goals as goal

pub returns : goal.returns
returns c =
    three_rows c.args.rows.now c.push_row_of.new.rows c.push_row_of-2.new.rows c.push_row_of-3.new.rows _ _ _ _ _ _ c.in_ok-push_row_of.ensures c.in_ok-push_row_of-2.ensures c.in_ok-push_row_of-3.ensures
    (pair_of _ _ _ _ _ _ c.as_slice.ensures refl (c.as_slice-2.ensures ∙ c.in_ok-size.ensures))
    (pair_of _ _ _ _ _ _ c.as_slice-3.ensures refl c.as_slice-4.ensures)
    (pair_of _ _ _ _ _ _ c.as_slice-5.ensures refl c.yes_or_no.ensures)
