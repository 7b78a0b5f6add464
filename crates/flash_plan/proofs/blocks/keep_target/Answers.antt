use Rattle.std.proofs.Common.{◌++◌, ◌∙◌, sym, ap}
use Rattle.dev_model.proofs.FirstOnes.{among}
use Rattle.flash_plan.proofs.PlanningLemmas.{Left, kept-already, kept-new}
use Rattle.flash_plan.proofs.blocks.keep_target.Goals as goal

pub returns-then-is_kept : goal.returns-then-is_kept
returns-then-is_kept c =
    kept-already c.args.names.now c.in-Some.name (ap (λ names. among names c.in-Some.name) (sym c.as_slice.ensures) ∙ sym c.if-is_kept.ensures) ∙ ap (λ more. c.args.names.now ++ Left c.args.names.now more) c.in-Some.ensures

pub returns : goal.returns
returns c =
    c.in_ok-push.ensures.ok ∙ kept-new c.args.names.now c.in-Some.name (ap (λ names. among names c.in-Some.name) (sym c.as_slice.ensures) ∙ sym c.if-is_kept.ensures)
    ∙ ap (λ more. c.args.names.now ++ Left c.args.names.now more) c.in-Some.ensures
