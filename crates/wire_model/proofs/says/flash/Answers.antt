use Rattle.std.proofs.Common.{[], ◌∷◌, ap, ◌∙◌}
use Rattle.fb_message.specs.declared.reply.Reply.TheVariants.{Okay}
use Rattle.dev_model.specs.declared.step.Step.TheVariants as step
use Rattle.dev_model.specs.Refusals.{flash_refusal}
use Rattle.dev_model.specs.Images.{over}
use Rattle.dev_model.specs.Partitions.{with_bytes}
use Rattle.dev_model.specs.Steps.{apply}
use Rattle.wire_model.specs.Answers.{answer_of}
use Rattle.wire_model.specs.Says.{answers, says, loaded_image}
use Rattle.wire_model.proofs.DecidedLemmas.{refuses, takes}
use Rattle.wire_model.proofs.says.flash.Goals as goal

pub returns-in-Some : goal.returns-in-Some
unfolding says
returns-in-Some c =
    let dev = c.args.dev.now in
    let loaded = c.args.loaded.now in
    let name = c.args.name.now in
    refuses (flash_refusal dev loaded name) c.in_ok-verdict.verdict c.in-Some.refusal (apply (step.Put name (loaded_image loaded))) dev loaded c.in_ok-answer.answer
    (c.in_ok-verdict.ensures ∙ ap (λ l. flash_refusal dev l name) c.file_of.ensures) c.in-Some.is c.in_ok-answer.ensures

pub returns : goal.returns
unfolding says
returns c =
    let dev = c.args.dev.now in
    let loaded = c.args.loaded.now in
    let name = c.args.name.now in
    takes (flash_refusal dev loaded name) c.in_ok-verdict.verdict (apply (step.Put name (loaded_image loaded))) dev c.in_ok-device.device loaded c.in_ok-answer-2.answer
    (c.in_ok-verdict.ensures ∙ ap (λ l. flash_refusal dev l name) c.file_of.ensures) c.in_default.is (c.in_ok-device.ensures ∙ ap (λ k. with_bytes name (over k) dev) (c.as_slice.ensures ∙ c.in_ok-cells.ensures))
    (c.in_ok-answer-2.ensures ∙ ap (λ t. answer_of (answers (Okay t ∷ []) c.in_ok-device.device loaded)) c.as_slice-2.ensures)
