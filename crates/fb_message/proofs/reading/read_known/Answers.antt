use Rattle.fb_message.proofs.RowLemmas.{known-word, known-logical}
use Rattle.fb_message.proofs.reading.read_known.Goals as goal

pub returns-in-Some-read_word : goal.returns-in-Some-read_word
returns-in-Some-read_word c = known-word c.args.bytes.now _ c.in_default.ensures c.in-Some-read_word.ensures

pub returns : goal.returns
returns c = known-logical c.args.bytes.now _ c.in_default.ensures c.in_default-read_word.ensures c.read_logical.ensures
