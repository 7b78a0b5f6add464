use Rattle.std.proofs.Common.{◌∙◌, ◌++◌, sym, ap, append-nil, refl, [], Some, None, if◌then◌else◌}
use Rattle.dev_store.specs.ToldRows.{told_device, told_logical}
use Rattle.dev_store.proofs.FindLemmas.{any-told}
use Rattle.dev_store.proofs.NamedLemmas.{kind-told}
use Rattle.dev_store.proofs.named.kind_of.Goals as goal

pub returns-then-has_part : goal.returns-then-has_part
returns-then-has_part c =
    let f = c.args.facts.now in
    let n = c.args.name.now in
    ap (λ b. if b then Some c.has_logical.result else None) (sym c.if-has_part.true)
    ∙ kind-told (told_device f) n (n ++ []) c.has_part.result c.has_logical.result (append-nil n) c.has_part.ensures
    (c.has_logical.ensures ∙ any-told (n ++ []) (λ p. p.name) (λ p. p.name) (told_logical f.extents.now) (λ p. refl) f.logical.now)
