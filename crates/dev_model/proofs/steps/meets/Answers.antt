use Rattle.std.proofs.Common.{sym, ap, ◌∙◌}
use Rattle.dev_model.specs.Steps.{meets}
use Rattle.dev_model.proofs.steps.meets.Goals as goal

pub returns-in-Table : goal.returns-in-Table
returns-in-Table c = c.can_take.ensures ∙ ap (λ s. meets s c.args.dev.now) (sym c.in-Table.is)
