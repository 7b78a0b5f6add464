use Rattle.std.proofs.Common.{◌∙◌, rules, tests}
use Rattle.std.specs.Prelude.{bytes_eq, codes}
use Rattle.std.specs.List.{list_any}
use Rattle.std.proofs.lemmas.Iterator.{YieldsList-from_slice}
use Rattle.std.proofs.lemmas.Iterator.Search.{any_from_yields_List}
use Rattle.dev_store.specs.LayoutLines.{keys}
use Rattle.dev_store.proofs.EntryLemmas.{any-taken}
use Rattle.dev_store.proofs.entries.has_slots.Goals as goal

pub returns : goal.returns
returns c =
    let key = codes "slots" in
    let before = c.args.before.now in
    any_from_yields_List (λ entry. list_any (λ own. bytes_eq own key) (keys entry)) _ _ _ c.any.ensures.ran
    (YieldsList-from_slice before cc) (λ x b q k. search (rules, tests))
    ∙ any-taken key before
