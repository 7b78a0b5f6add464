use Rattle.std.proofs.Common.{◌∙◌, rules}
use Rattle.flash_plan.proofs.PlanningLemmas.{past-after, or-first, or-second}
use Rattle.flash_plan.proofs.plan_move.Past.after.Goals as goal
use Rattle.flash_plan.proofs.plan_move.Past.after.Goals.{then-self, else-self, then-self-2, else-self-2}

pub returns : goal.returns
returns c = λ before e.
    past-after before c.args.act.now c.args.self.now c.from.result c.if-self.result c.if-self-2.result c.is_up_after.result e
    (search rules)
    (elim c.if-self.branch [ then-self w ↦ or-first _ _ _ w.if-self.true w.result-is | else-self w ↦ or-second _ _ _ w.if-self.false (w.result-is ∙ w.is_logical.ensures) ])
    (elim c.if-self-2.branch [ then-self-2 w ↦ or-first _ _ _ w.if-self-2.true w.result-is | else-self-2 w ↦ or-second _ _ _ w.if-self-2.false (w.result-is ∙ w.is_logical_flash.ensures) ])
    c.is_up_after.ensures
