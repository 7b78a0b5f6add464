use Rattle.std.proofs.Common.{◌≡◌, ◌∙◌, is_some, rules}
use Rattle.std.specs.Prelude.{count_by}
use Rattle.dev_store.specs.LayoutLines.{variable_in}
use Rattle.dev_store.proofs.EntryLemmas.{count-some}
use Rattle.dev_store.proofs.entries.variables.Goals as goal

pub returns : goal.returns
returns c =
    let counted : c.count.result ≡ count_by (λ entry. is_some (variable_in entry)) c.args.before.now = search rules in
    counted ∙ count-some variable_in c.args.before.now
