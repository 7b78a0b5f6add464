use Rattle.std.proofs.Common.{sym}
use Rattle.std.specs.Prelude.{filter_map}
use Rattle.dev_model.specs.Variables.{all_rows, has_slot_row, base_names}
use Rattle.dev_store.specs.ToldRows.{told_device}
use Rattle.dev_store.proofs.variables_all.row_at.Goals as goal

pub returns-in-Found : goal.returns-in-Found
unfolding all_rows
returns-in-Found c = let d = told_device c.args.facts.now in sym (c.in-Found.ensures (filter_map (has_slot_row d) (base_names d)))
