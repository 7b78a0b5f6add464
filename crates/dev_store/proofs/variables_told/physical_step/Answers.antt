use Rattle.std.proofs.Common.{false, refl, ap, sym, ◌∙◌, ◌++◌, ◌%◌}
use Rattle.std.specs.Prelude.{slice_get}
use Rattle.dev_model.specs.Variables.{partition_rows}
use Rattle.dev_store.specs.ToldRows.{told_physical}
use Rattle.dev_store.proofs.ToldLemmas.{part-found, part-later, sized-rows}
use Rattle.dev_store.proofs.variables_told.physical_step.Goals as goal

pub returns-then-at-parts : goal.returns-then-at-parts
returns-then-at-parts c =
    let p = c.index-parts-at.result in
    part-found false (λ p. p.name) (λ p. p.size) told_physical (λ p. partition_rows false p.name p.bytes) (λ p. refl) c.args.parts.now c.args.place p c.if-at-parts.true c.index-parts-at.is
    (λ m. ap (λ n. slice_get (sized-rows false n p.size ++ m) (c.args.place % 3)) (sym c.bytes.ensures.bytes) ∙ c.part_row.ensures m)

pub returns-else-at-parts : goal.returns-else-at-parts
returns-else-at-parts c = part-later false (λ p. p.name) (λ p. p.size) told_physical (λ p. partition_rows false p.name p.bytes) (λ p. refl) c.args.parts.now c.args.place c.if-at-parts.false
