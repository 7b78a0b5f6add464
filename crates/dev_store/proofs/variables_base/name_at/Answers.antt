use Rattle.std.proofs.Common.{◌∙◌, sym, ap, map}
use Rattle.std.specs.Prelude.{slice_get}
use Rattle.dev_store.proofs.BaseLemmas.{names-are, name-front, name-after, name-past}
use Rattle.dev_store.proofs.variables_base.name_at.Goals as goal

pub returns-then-place-facts : goal.returns-then-place-facts
returns-then-place-facts c = let f = c.args.facts.now in
    name-front (λ p. p.name) f.physical.now (map (λ p. p.name) f.logical.now) c.args.place _ c.if-place-facts.true ∙ ap (λ l. slice_get l c.args.place) (sym (names-are f))

pub returns-then-place-facts-2 : goal.returns-then-place-facts-2
returns-then-place-facts-2 c = let f = c.args.facts.now in
    name-after (λ p. p.name) (λ p. p.name) f.physical.now f.logical.now c.args.place _ c.if-place-facts.false c.if-place-facts-2.true ∙ ap (λ l. slice_get l c.args.place) (sym (names-are f))

pub returns : goal.returns
returns c = let f = c.args.facts.now in
    name-past (λ p. p.name) (λ p. p.name) f.physical.now f.logical.now c.args.place c.if-place-facts.false c.if-place-facts-2.false ∙ ap (λ l. slice_get l c.args.place) (sym (names-are f))
