use Rattle.std.proofs.Common.{[], ◌∷◌, ap, ◌∙◌}
use Rattle.fb_message.specs.declared.reply.Reply.TheVariants.{Okay}
use Rattle.dev_model.specs.Refusals.{lock_refusal}
use Rattle.dev_model.specs.Steps.{relocked}
use Rattle.wire_model.specs.Answers.{answer_of}
use Rattle.wire_model.specs.Says.{answers, says}
use Rattle.wire_model.proofs.DecidedLemmas.{refuses, takes}
use Rattle.wire_model.proofs.says.lock.Goals as goal

pub returns-in-Some : goal.returns-in-Some
unfolding says
returns-in-Some c =
    let dev = c.args.dev.now in
    refuses (lock_refusal dev) c.lock_refusal.result c.in-Some.refusal (relocked) dev c.args.loaded.now c.in_ok-answer.answer
    c.lock_refusal.ensures c.in-Some.is c.in_ok-answer.ensures

pub returns : goal.returns
unfolding says
returns c =
    let dev = c.args.dev.now in
    takes (lock_refusal dev) c.lock_refusal.result (relocked) dev c.in_ok-device.device c.args.loaded.now c.in_ok-answer-2.answer
    c.lock_refusal.ensures c.in_default.is c.in_ok-device.ensures
    (c.in_ok-answer-2.ensures ∙ ap (λ t. answer_of (answers (Okay t ∷ []) c.in_ok-device.device c.args.loaded.now)) c.as_slice.ensures)
