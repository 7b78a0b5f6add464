use Rattle.std.proofs.Common.{◌∙◌, ap, true}
use Rattle.clap.specs.Simple.{app_of_fields}
use Rattle.clap.specs.declared.builder.command.Command.{Command}
use Rattle.clap.specs.declared.builder.command.Command.TheOpen.{Command-F}
use Rattle.word_rules.specs.Rules.{plain}
use Rattle.word_rules.proofs.command.bare_command.Goals as goal

-- each setting changes its field alone
pub returns : goal.returns
returns c =
    ap app_of_fields (c.disable_version_flag.ensures
    ∙ ap (λ (f : Command-F Command). record f { disable_version_flag = true }) (c.disable_help_flag.ensures
    ∙ ap (λ (f : Command-F Command). record f { disable_help_flag = true }) c.no_binary_name.ensures))
    ∙ ap plain c.new.ensures.app
