use Rattle.std.proofs.Common.{◌∙◌, sym, ap, refl, ◌++◌}
use Rattle.std.specs.Prelude.{◌||◌}
use Rattle.dev_store.specs.ToldRows.{told_device, told_physical, told_logical}
use Rattle.dev_model.specs.Partitions.{is_logical}
use Rattle.dev_store.proofs.FindLemmas.{any-told}
use Rattle.dev_store.proofs.variables_find.has_part.Goals as goal

pub returns-then-has_physical : goal.returns-then-has_physical
returns-then-has_physical c =
    let d = told_device c.args.facts.now in
    let n = c.args.head.now ++ c.args.of.now in
    c.if-has_physical.true ∙ ap (λ b. b || is_logical d n) (sym c.if-has_physical.true ∙ (c.has_physical.ensures ∙ any-told n (λ p. p.name) (λ p. p.name) told_physical (λ p. refl) c.args.facts.now.physical.now))

pub returns-else-has_physical : goal.returns-else-has_physical
returns-else-has_physical c =
    let d = told_device c.args.facts.now in
    let n = c.args.head.now ++ c.args.of.now in
    c.has_logical.ensures ∙ (any-told n (λ p. p.name) (λ p. p.name) (told_logical c.args.facts.now.extents.now) (λ p. refl) c.args.facts.now.logical.now
    ∙ ap (λ b. b || is_logical d n) (sym c.if-has_physical.false ∙ (c.has_physical.ensures ∙ any-told n (λ p. p.name) (λ p. p.name) told_physical (λ p. refl) c.args.facts.now.physical.now)))
