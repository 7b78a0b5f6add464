use Rattle.std.proofs.Common.{[], ◌∷◌, ap, ◌∙◌}
use Rattle.fb_message.specs.declared.reply.Reply.TheVariants.{Fail}
use Rattle.wire_model.specs.Answers.{answer_of}
use Rattle.wire_model.specs.Says.{answers, says}
use Rattle.wire_model.proofs.says.unknown.Goals as goal

pub returns : goal.returns
unfolding says
returns c = c.in_ok-answer.ensures ∙ ap (λ t. answer_of (answers (Fail t ∷ []) c.args.dev.now c.args.loaded.now)) c.as_slice.ensures
