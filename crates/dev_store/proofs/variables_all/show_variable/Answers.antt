use Rattle.dev_model.specs.Variables.{all_rows}
use Rattle.dev_store.specs.ToldRows.{told_device, row_of}
use Rattle.dev_store.proofs.FindLemmas.{row-short}
use Rattle.dev_store.proofs.variables_all.show_variable.Goals as goal

pub show_row-requires : goal.show_row-requires
show_row-requires c = row-short (all_rows (told_device c.args.facts.now)) c.args.place (row_of c.in-Some.row) c.requires.short c.in-Some.ensures
