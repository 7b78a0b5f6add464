use Rattle.std.proofs.Common.{[], ◌∷◌, ap, sym, ◌∙◌}
use Rattle.fb_message.specs.declared.reply.Reply.TheVariants.{Fail}
use Rattle.wire_model.specs.Answers.{answer_of}
use Rattle.wire_model.specs.Says.{answers, tells}
use Rattle.wire_model.proofs.says.tell.Goals as goal

pub returns-in_ok-answer-in-None : goal.returns-in_ok-answer-in-None
returns-in_ok-answer-in-None c =
    c.in_ok-answer-in-None.ensures
    ∙ ap (λ t. answer_of (answers (Fail t ∷ []) c.args.dev.now c.args.loaded.now)) c.as_slice.ensures
    ∙ ap (λ o. answer_of (answers (tells o) c.args.dev.now c.args.loaded.now)) (sym c.in-None.is ∙ c.in_ok-value.ensures)
