use Rattle.std.proofs.Common.{◌∙◌, length, ap, arith}
use Rattle.flash_plan.specs.Plans.{listed_in}
use Rattle.host_driver.specs.Jobs.{order}
use Rattle.host_driver.proofs.PutLemmas.{Serving-less}
use Rattle.host_driver.proofs.PrepareLemmas.{answers-given, answers-lost, unlisted}
use Rattle.host_driver.proofs.prepare.ask_answers.Goals as goal

pub ask_parts-requires-clause-serving : goal.ask_parts-requires-clause-serving
ask_parts-requires-clause-serving g c = let long = ap length c.as_slice-tasks.ensures in Serving-less _ _ _ (omega (arith, long)) c.requires.serving

pub returns-in-Ok-ask_parts-clause-learned : goal.returns-in-Ok-ask_parts-clause-learned
returns-in-Ok-ask_parts-clause-learned g c =
    let names = c.as_slice-names.ensures ∙ (c.in-Ok.ensures ∙ ap (λ ts. listed_in ts c.args.product.now.empty) c.as_slice-tasks.ensures) in
    answers-given (order c.args.product.now c.args.options.now) c.args.traits c.slot-slot.result c.as_slice-names.result.now c.as_slice-tasks.result.now _ _ c.slot-slot.ensures names c.as_slice-tasks.ensures c.requires.traits c.in-Ok-ask_parts.parts c.in-Ok-ask_parts.ensures.learned

pub returns-clause-unlearned : goal.returns-clause-unlearned
returns-clause-unlearned g c =
    let names = c.as_slice-names.ensures ∙ (c.in-Ok.ensures ∙ ap (λ ts. listed_in ts c.args.product.now.empty) c.as_slice-tasks.ensures) in
    answers-lost (order c.args.product.now c.args.options.now) c.args.traits c.slot-slot.result c.as_slice-names.result.now c.as_slice-tasks.result.now _ _ c.slot-slot.ensures names c.as_slice-tasks.ensures c.requires.traits c.in-Err.stop.1 c.in-Err.ensures.unlearned

pub returns-in_default-clause-unlearned : goal.returns-in_default-clause-unlearned
returns-in_default-clause-unlearned g c = unlisted (order c.args.product.now c.args.options.now) _ _ c.hang_up.ensures.drops c.hang_up.ensures.sound
