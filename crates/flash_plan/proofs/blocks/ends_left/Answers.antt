use Rattle.std.proofs.Common.{◌∙◌}
use Rattle.flash_plan.proofs.PlanningLemmas.{ends-at}
use Rattle.flash_plan.proofs.blocks.ends_left.Goals as goal

pub returns-in-Some : goal.returns-in-Some
returns-in-Some c = c.is_left.ensures ∙ ends-at c.args.moves.now c.in-Some.act.now c.in-Some.ensures.value
