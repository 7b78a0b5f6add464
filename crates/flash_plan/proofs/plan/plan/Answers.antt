use Rattle.std.proofs.Common.{◌∙◌, sym, ap, Ok, Err}
use Rattle.flash_plan.specs.declared.plan.PlanError.TheVariants.{Bad}
use Rattle.flash_plan.specs.Facts.{facts_in}
use Rattle.flash_plan.specs.Orders.{ordered}
use Rattle.flash_plan.specs.Plans.{work_of, listed_in}
use Rattle.flash_plan.proofs.PlanLemmas.{plans_told}
use Rattle.flash_plan.proofs.PlanningLemmas.{bad-same, err-same, orders-slotless, orders-are}
use Rattle.flash_plan.proofs.plan.plan.Goals as goal

pub returns-then-is_slotless-clause-bad : goal.returns-then-is_slotless-clause-bad
returns-then-is_slotless-clause-bad c = λ line kind e.
    orders-slotless (work_of c.args.product.now) c.args.options.now (facts_in c.args.answers.now) (sym c.if-is_slotless.ensures) ∙ bad-same _ line _ kind e

pub returns-in-Err-clause-bad : goal.returns-in-Err-clause-bad
returns-in-Err-clause-bad c = λ line kind e.
    let product = c.args.product.now in
    orders-are product c.args.options.now c.args.answers.now c.as_slice-2.result.now c.slot-slot.result (Err (line, kind)) (sym c.if-is_slotless.ensures)
    (c.as_slice-2.ensures ∙ c.in-Ok.ensures ∙ ap (λ tasks. listed_in tasks product.empty) c.as_slice.ensures) c.slot-slot.ensures
    (c.in-Err.ensures.bad line kind (err-same c.in-Err.error (Bad line kind) e))

pub returns-clause-plan : goal.returns-clause-plan
returns-clause-plan c =
    let product = c.args.product.now in
    orders-are product c.args.options.now c.args.answers.now c.as_slice-2.result.now c.slot-slot.result (Ok c.in-Ok-moves.moves) (sym c.if-is_slotless.ensures)
    (c.as_slice-2.ensures ∙ c.in-Ok.ensures ∙ ap (λ tasks. listed_in tasks product.empty) c.as_slice.ensures) c.slot-slot.ensures
    c.in-Ok-moves.ensures.moves
    ∙ ap (λ moves. Ok (ordered c.args.options.now c.slot-slot.result moves)) (sym c.as_slice-3.ensures) ∙ ap Ok (sym c.in-Ok-ordered.ensures)

-- what is so of the answers is so of the device
pub returns-then-is_slotless-clause-device_bad : goal.returns-then-is_slotless-clause-device_bad
returns-then-is_slotless-clause-device_bad c = λ dev line kind h e.
    sym (plans_told (work_of c.args.product.now) c.args.options.now dev c.args.answers.now h) ∙ returns-then-is_slotless-clause-bad c line kind e

pub returns-in-Err-clause-device_bad : goal.returns-in-Err-clause-device_bad
returns-in-Err-clause-device_bad c = λ dev line kind h e.
    sym (plans_told (work_of c.args.product.now) c.args.options.now dev c.args.answers.now h) ∙ returns-in-Err-clause-bad c line kind e

pub returns-clause-device : goal.returns-clause-device
returns-clause-device c = λ dev h.
    sym (plans_told (work_of c.args.product.now) c.args.options.now dev c.args.answers.now h) ∙ returns-clause-plan c
