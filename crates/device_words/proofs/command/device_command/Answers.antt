use Rattle.std.proofs.Common.{◌∙◌, ap₂}
use Rattle.std.proofs.lemmas.Result.{IfOk-weaker}
use Rattle.clap.specs.Words.{with_rule}
use Rattle.device_words.proofs.command.device_command.Goals as goal

-- each argument comes in turn
pub returns : goal.returns
returns c =
    let first = c.in_ok-command.ensures ∙ ap₂ with_rule c.bare_command-command.ensures c.word_flag.ensures.rule in
    let second = c.in_ok-command-2.ensures ∙ ap₂ with_rule first c.word_option.ensures.rule in
    let third = c.in_ok-command-3.ensures ∙ ap₂ with_rule second c.word_option-2.ensures.rule in
    let fourth = c.in_ok-command-4.ensures ∙ ap₂ with_rule third c.due_word.ensures.rule in
    let fifth = c.in_ok-command-5.ensures ∙ ap₂ with_rule fourth c.due_word-2.ensures.rule in
    IfOk-weaker c.with_arg-6.result _ _ (λ command h. h ∙ ap₂ with_rule fifth c.free_word.ensures.rule) c.with_arg-6.ensures
