-- A plan over a device that is met again.
use Rattle.dev_model.proofs.ChainLemmas.{resumes_chain, resumes_unrefused, resumes_refused}
use Rattle.dev_model.proofs.ResumeLemmas.{resumes}
use Rattle.flash_plan.specs.Laws.{PlanResumes, PlanAsksNoMore, PlanRefusedAlike}
use Rattle.flash_plan.proofs.EmptyLemmas.{plan_repeats}
use Rattle.flash_plan.proofs.LastLemmas.{plan_leaves_last}

pub plan_resumes : PlanResumes
plan_resumes files product options plan s t made m =
    let p = plan_repeats files product options s plan made in
    resumes_chain resumes plan s m.numbers t p.1 p.0 m.valid m.chain m.runs

pub plan_asks_no_more : PlanAsksNoMore
plan_asks_no_more files product options plan s t end made m e =
    let p = plan_repeats files product options s plan made in
    resumes_unrefused (resumes_chain resumes) plan s m.numbers t end p.1 p.0 m.valid m.chain m.runs e

pub plan_refused_alike : PlanRefusedAlike
plan_refused_alike files product options plan s t made m f =
    let p = plan_repeats files product options s plan made in
    resumes_refused (resumes_chain resumes) plan s m.numbers t p.1 p.0 m.valid (plan_leaves_last files product options s plan made) m.chain f m.runs
