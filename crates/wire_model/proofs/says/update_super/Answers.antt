use Rattle.std.proofs.Common.{[], ◌∷◌, ap, ◌∙◌}
use Rattle.fb_message.specs.declared.reply.Reply.TheVariants.{Okay}
use Rattle.std.specs.Prelude.{option_and_then}
use Rattle.dev_model.specs.Refusals.{update_refusal}
use Rattle.wire_model.specs.TableFile.{tables_of}
use Rattle.wire_model.specs.Answers.{answer_of}
use Rattle.wire_model.specs.Says.{answers, says, updates}
use Rattle.wire_model.proofs.DecidedLemmas.{refuses, takes}
use Rattle.wire_model.proofs.says.update_super.Goals as goal

pub returns-in-Some : goal.returns-in-Some
unfolding says
returns-in-Some c =
    let dev = c.args.dev.now in
    let loaded = c.args.loaded.now in
    let name = c.args.name.now in
    refuses (update_refusal dev loaded (option_and_then tables_of loaded) name c.args.wipe) c.tables_refusal.result c.in-Some.refusal (updates (option_and_then tables_of loaded) c.args.wipe) dev loaded c.in_ok-answer.answer
    (c.tables_refusal.ensures ∙ ap (λ t. update_refusal dev loaded t name c.args.wipe) c.in_ok-tables.ensures) c.in-Some.is c.in_ok-answer.ensures

pub returns : goal.returns
unfolding says
returns c =
    let dev = c.args.dev.now in
    let loaded = c.args.loaded.now in
    let name = c.args.name.now in
    takes (update_refusal dev loaded (option_and_then tables_of loaded) name c.args.wipe) c.tables_refusal.result (updates (option_and_then tables_of loaded) c.args.wipe) dev c.in_ok-device.device loaded c.in_ok-answer-2.answer
    (c.tables_refusal.ensures ∙ ap (λ t. update_refusal dev loaded t name c.args.wipe) c.in_ok-tables.ensures) c.in_default.is (c.in_ok-device.ensures ∙ ap (λ t. updates t c.args.wipe dev) c.in_ok-tables.ensures)
    (c.in_ok-answer-2.ensures ∙ ap (λ t. answer_of (answers (Okay t ∷ []) c.in_ok-device.device loaded)) c.as_slice.ensures)
