use Rattle.flash_plan.proofs.AgainLemmas.{plan_resumes, plan_asks_no_more, plan_refused_alike}
use Rattle.flash_plan.proofs.EmptyLemmas.{plan_repeats}
use Rattle.flash_plan.proofs.LastLemmas.{plan_leaves_last}
use Rattle.flash_plan.proofs.PlanLemmas.{plans_told}
use Rattle.flash_plan.proofs.laws.Goals as goal

pub returns : goal.returns
returns c = record {
  plans_told = plans_told;
  plan_repeats = plan_repeats;
  plan_leaves_last = plan_leaves_last;
  plan_resumes = plan_resumes;
  plan_asks_no_more = plan_asks_no_more;
  plan_refused_alike = plan_refused_alike;
}
