use Rattle.std.proofs.Common.{[], ◌∷◌, ap, ◌∙◌}
use Rattle.fb_message.specs.declared.reply.Reply.TheVariants.{Okay}
use Rattle.dev_model.specs.declared.step.Step.TheVariants as step
use Rattle.dev_model.specs.Refusals.{erase_refusal}
use Rattle.dev_model.specs.Steps.{apply}
use Rattle.wire_model.specs.Answers.{answer_of}
use Rattle.wire_model.specs.Says.{answers, says}
use Rattle.wire_model.proofs.DecidedLemmas.{refuses, takes}
use Rattle.wire_model.proofs.says.erase.Goals as goal

pub returns-in-Some : goal.returns-in-Some
unfolding says
returns-in-Some c =
    let dev = c.args.dev.now in
    let name = c.args.name.now in
    refuses (erase_refusal dev name) c.erase_refusal.result c.in-Some.refusal (apply (step.Wipe name)) dev c.args.loaded.now c.in_ok-answer.answer
    c.erase_refusal.ensures c.in-Some.is c.in_ok-answer.ensures

pub returns : goal.returns
unfolding says
returns c =
    let dev = c.args.dev.now in
    let name = c.args.name.now in
    takes (erase_refusal dev name) c.erase_refusal.result (apply (step.Wipe name)) dev c.in_ok-device.device c.args.loaded.now c.in_ok-answer-2.answer
    c.erase_refusal.ensures c.in_default.is c.in_ok-device.ensures
    (c.in_ok-answer-2.ensures ∙ ap (λ t. answer_of (answers (Okay t ∷ []) c.in_ok-device.device c.args.loaded.now)) c.as_slice.ensures)
