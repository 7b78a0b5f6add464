use Rattle.std.proofs.Common.{◌∙◌, ap₂}
use Rattle.std.proofs.lemmas.Result.{IfOk-weaker}
use Rattle.clap.specs.Words.{with_rule}
use Rattle.host_words.proofs.command.host_command.Goals as goal

-- each argument comes in turn
pub returns : goal.returns
returns c =
    let first = c.in_ok-command.ensures ∙ ap₂ with_rule c.bare_command-command.ensures c.letter_option.ensures.rule in
    let second = c.in_ok-command-2.ensures ∙ ap₂ with_rule first c.word_option.ensures.rule in
    let third = c.in_ok-command-3.ensures ∙ ap₂ with_rule second c.letter_flag.ensures.rule in
    let fourth = c.in_ok-command-4.ensures ∙ ap₂ with_rule third c.word_flag.ensures.rule in
    let fifth = c.in_ok-command-5.ensures ∙ ap₂ with_rule fourth c.word_flag-2.ensures.rule in
    let sixth = c.in_ok-command-6.ensures ∙ ap₂ with_rule fifth c.word_option-2.ensures.rule in
    let seventh = c.in_ok-command-7.ensures ∙ ap₂ with_rule sixth c.due_word.ensures.rule in
    IfOk-weaker c.with_arg-8.result _ _ (λ command h. h ∙ ap₂ with_rule seventh c.due_word-2.ensures.rule) c.with_arg-8.ensures
