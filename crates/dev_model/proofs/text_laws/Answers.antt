use Rattle.dev_model.proofs.RowCounts.{rows_few}
use Rattle.dev_model.proofs.ShortTexts.{texts_short, rows_short, value_short}
use Rattle.dev_model.proofs.text_laws.Goals as goal

pub returns : goal.returns
returns c = record { texts_short = texts_short; rows_short = rows_short; rows_few = rows_few; value_short = value_short }
