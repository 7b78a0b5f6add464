use Rattle.std.proofs.Common.{◌≡◌, sym, subst}
use Rattle.std.specs.Prelude.{IfOk}
use Rattle.dev_model.specs.Steps.{apply}
use Rattle.dev_model.proofs.steps.apply.Goals as goal

pub returns-in-Table : goal.returns-in-Table
returns-in-Table c = record { after = subst (λ s. IfOk c.with_tables.result (λ next. next ≡ apply s c.args.dev.now)) (sym c.in-Table.is) c.with_tables.ensures }
