use Rattle.std.proofs.Common.{◌++◌, [], ◌∷◌, drop, filter, ap, ◌∙◌, arith, ◌+◌}
use Rattle.std.specs.Prelude.{not, if◌then◌else◌}
use Rattle.dev_model.specs.Variables.{first_ones}
use Rattle.dev_model.proofs.FirstOnes.{among, first_begin, first_turn}
use Rattle.dev_model.proofs.all_rows.first_ones.Goals as goal

pub loop-text-init : goal.loop-text-init
loop-text-init c =
    ap (λ l. l ++ filter (λ y. not (among l y)) (first_ones c.args.texts.now)) c.new-found.ensures ∙ first_begin (first_ones c.args.texts.now)

pub loop-text-preserved : goal.loop-text-preserved
loop-text-preserved c =
    let texts = c.args.texts.now in
    let found = c.loop-text.found in
    let i = c.loop-text.text-index in
    ap (λ l. l ++ filter (λ y. not (among l y)) (first_ones (drop (i + 1) texts))) c.in_ok-push_new.ensures
    ∙ ap (λ t. (found ++ (if among found t then [] else t ∷ [])) ++ filter (λ y. not (among (found ++ (if among found t then [] else t ∷ [])) y)) (first_ones (drop (i + 1) texts))) c.as_slice.ensures
    ∙ first_turn found texts i c.text-item.result (omega arith) c.text-item.is
    ∙ c.loop-text.invariant
