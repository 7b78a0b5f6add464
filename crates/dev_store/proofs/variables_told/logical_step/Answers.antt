use Rattle.std.proofs.Common.{true, refl, ap, subst, ◌<◌, ◌/◌, ◌^◌, sym, ◌∙◌, ◌++◌, ◌%◌}
use Rattle.std.specs.Prelude.{slice_get}
use Rattle.dev_model.specs.Variables.{partition_rows}
use Rattle.dev_store.specs.Supers.{bytes_in}
use Rattle.dev_store.specs.ToldRows.{told_logical, part_extents}
use Rattle.dev_store.proofs.ToldLemmas.{part-found, part-later, texted-rows, all-at}
use Rattle.fb_frame.specs.Numbers.{size_text}
use Rattle.dev_store.proofs.variables_told.logical_step.Goals as goal

pub returns-then-at-parts : goal.returns-then-at-parts
returns-then-at-parts c =
    let p = c.index-parts-at.result in
    let extents = c.args.extents.now in
    part-found true (λ p. p.name) (λ p. bytes_in (part_extents extents p)) (told_logical extents) (λ p. partition_rows true p.name p.bytes) (λ p. refl) c.args.parts.now c.args.place p c.if-at-parts.true c.index-parts-at.is
    (λ m. ap (λ n. slice_get (texted-rows true n (size_text (bytes_in (part_extents extents p))) ++ m) (c.args.place % 3)) (sym c.bytes.ensures.bytes)
    ∙ (ap (λ t. slice_get (texted-rows true c.bytes.result.now t ++ m) (c.args.place % 3)) (sym (c.counted-size.ensures ∙ ap (λ es. size_text (bytes_in es)) c.extents_of.ensures.extents)) ∙ c.part_row.ensures m))

pub counted-size-requires : goal.counted-size-requires
counted-size-requires c =
    let p = c.index-parts-at.result in
    let extents = c.args.extents.now in
    subst (λ es. bytes_in es < 2 ^ 64) (sym c.extents_of.ensures.extents) (all-at (λ p. bytes_in (part_extents extents p) < 2 ^ 64) c.args.parts.now (c.args.place / 3) p p c.requires.summed c.if-at-parts.true c.index-parts-at.is)

pub returns-else-at-parts : goal.returns-else-at-parts
returns-else-at-parts c = let extents = c.args.extents.now in part-later true (λ p. p.name) (λ p. bytes_in (part_extents extents p)) (told_logical extents) (λ p. partition_rows true p.name p.bytes) (λ p. refl) c.args.parts.now c.args.place c.if-at-parts.false
