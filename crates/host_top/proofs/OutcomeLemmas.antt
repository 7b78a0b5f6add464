-- What an installation's end is by its cause: the outcome.
use Rattle.std.proofs.Common.{◌≡◌, ℕ, Bool, true, false, Option, Some, None, List, [], ◌∷◌, refl, sym, ap, ◌∙◌}
use Rattle.std.specs.Prelude.{IsTrue, is_some, ◌||◌, if◌then◌else◌}
use Rattle.dev_model.specs.declared.device.Dev.{Dev}
use Rattle.dev_model.specs.declared.step.Step.{Step}
use Rattle.dev_model.specs.Steps.{run, first_refusal}
use Rattle.dev_model.proofs.RefusingLemmas.{run_unrefused, refused_after}
use Rattle.product_info.specs.declared.requirement.Requirement.{Requirement}
use Rattle.flash_plan.specs.declared.plan.PlanKind.{PlanKind}
use Rattle.flash_plan.specs.Requiring.{holds_all, meets_line, first_unmet}
use Rattle.flash_plan.proofs.AgainLemmas.{plan_refused_alike}
use Rattle.host_driver.specs.declared.drive.Done.{Done as DoneSo}
use Rattle.host_driver.specs.Driven.{is_met, planned, made, Succeeds, Reached, RefusedBy, IsUnmet, IsUnplanned}
use Rattle.host_driver.specs.Jobs.{Job}
use Rattle.host_driver.specs.Printing.{lines_of}
use Rattle.host_driver.proofs.CompleteLemmas.{made-plan, made-met, all-meet}
use Rattle.host_top.specs.Ending.{IsMet}
use Rattle.host_top.specs.Outcomes.{Outcome, status_of_outcome, met_outcome, plan_outcome, taken_outcome, job_outcome}
use Rattle.host_top.specs.Verdicts.{Verdict, Unmet, NoPlan, Refusing, Done, status_of}

-- no requirement is looked for, or none is unmet
unmet-none : (force : Bool) (lines : List Requirement) (dev : Dev) → (force || holds_all lines dev) ≡ true → (if force then None else first_unmet lines dev) ≡ None
unmet-none true lines dev e = refl
unmet-none false lines dev e = all-meet (meets_line dev) lines e

unmet-some : (force : Bool) (lines : List Requirement) (dev : Dev) (line : Requirement) → force ≡ false → first_unmet lines dev ≡ Some line → (if force then None else first_unmet lines dev) ≡ Some line
unmet-some true lines dev line f e = absurd cc
unmet-some false lines dev line f e = e

abbrev Verdicts : Outcome → Verdict
Verdicts o = o.verdict

module _ (j : Job) where
  plain : IsTrue (is_met j) → job_outcome j ≡ plan_outcome (lines_of j).asks (lines_of j).steps j.device (planned j)
  plain e =
      ap (λ o. met_outcome (lines_of j).asks j.device o (plan_outcome (lines_of j).asks (lines_of j).steps j.device (planned j)))
      (unmet-none j.options.force j.product.requirements j.device e)

  -- a plan is made
  by-plan : (plan : List Step) → made j ≡ Some plan → job_outcome j ≡ taken_outcome (lines_of j).asks (lines_of j).steps plan j.device (first_refusal plan j.device)
  by-plan plan e = plain (made-met (is_met j) (planned j) plan e) ∙ ap (λ q. plan_outcome (lines_of j).asks (lines_of j).steps j.device q) (made-plan (is_met j) (planned j) plan e)

  pub done-out : (numbers : List ℕ) (done : DoneSo) (t : Dev) → Succeeds j numbers done t → Done done.steps ≡ (job_outcome j).verdict
  done-out numbers done t s =
      let third = ap (λ o. taken_outcome (lines_of j).asks (lines_of j).steps s.plan j.device o) (run_unrefused s.plan j.device t s.runs) in
      ap Done s.count ∙ sym (ap Verdicts (by-plan s.plan s.made_so ∙ third))

  pub refused-out : (plan : List Step) (text : List ℕ) → made j ≡ Some plan → first_refusal plan j.device ≡ Some text → Refusing text ≡ (job_outcome j).verdict
  refused-out plan text e f = sym (ap Verdicts (by-plan plan e ∙ ap (λ o. taken_outcome (lines_of j).asks (lines_of j).steps plan j.device o) f))

  pub unplanned-out : (line : ℕ) (kind : PlanKind) (t : Dev) → IsUnplanned j line kind t → NoPlan line kind ≡ (job_outcome j).verdict
  unplanned-out line kind t u =
      sym (ap Verdicts (plain u.met ∙ ap (λ q. plan_outcome (lines_of j).asks (lines_of j).steps j.device q) u.unplanned))

  pub unmet-out : (line : ℕ) (name : List ℕ) (value : Option (List ℕ)) (t : Dev) → IsUnmet j line name value t → Unmet line name value ≡ (job_outcome j).verdict
  unmet-out line name value t u =
      let first = ap (λ o. met_outcome (lines_of j).asks j.device o (plan_outcome (lines_of j).asks (lines_of j).steps j.device (planned j)))
      (unmet-some j.options.force j.product.requirements j.device u.requirement u.asked_for u.first) in
      let one = ap (λ n. Unmet n name value) u.line_is in
      let two = ap (λ n. Unmet u.requirement.line n value) u.name_is in
      let three = ap (λ n. Unmet u.requirement.line u.requirement.name n) u.value_is in
      (one ∙ (two ∙ three)) ∙ sym (ap Verdicts first)

  -- a step is refused to a later attempt, and so to the first device
  refused-status : (asks steps : List (List ℕ)) (plan : List Step) (o : Option (List ℕ)) → is_some o ≡ true → status_of (taken_outcome asks steps plan j.device o).verdict ≡ 7
  refused-status asks steps plan None e = absurd cc
  refused-status asks steps plan (Some text) e = refl

  first-refused : (plan : List Step) (earlier : List ℕ) (start : Dev) (text : List ℕ) → made j ≡ Some plan → IsMet j.device → Reached plan j.device earlier start → first_refusal plan start ≡ Some text → is_some (first_refusal plan j.device) ≡ true
  first-refused plan [] start text e m r f = ap is_some (ap (first_refusal plan) (sym r) ∙ f)
  first-refused plan (n ∷ earlier) start text e m r f =
      let alike = plan_refused_alike j.files j.product j.options plan j.device start (made-plan (is_met j) (planned j) plan e)
      (record { valid = m.valid; numbers = n ∷ earlier; chain = r.0; runs = r.1 }) m.serves in
      sym alike ∙ ap is_some f

  -- the status of a plan that the device takes, and of one that it doesn't take
  pub done-status : (plan : List Step) (t : Dev) → made j ≡ Some plan → run plan j.device ≡ Some t → status_of_outcome (job_outcome j) ≡ 0
  done-status plan t e r = ap status_of_outcome (by-plan plan e ∙ ap (λ o. taken_outcome (lines_of j).asks (lines_of j).steps plan j.device o) (run_unrefused plan j.device t r))

  pub stopped-status : (plan : List Step) → made j ≡ Some plan → is_some (first_refusal plan j.device) ≡ true → status_of_outcome (job_outcome j) ≡ 7
  stopped-status plan e f = ap status_of_outcome (by-plan plan e) ∙ refused-status (lines_of j).asks (lines_of j).steps plan (first_refusal plan j.device) f

  pub refused-seven : (p : Option (List Step)) (numbers text : List ℕ) (t : Dev) → made j ≡ p → IsMet j.device → RefusedBy p j.device numbers text t → status_of_outcome (job_outcome j) ≡ 7
  refused-seven None numbers text t e m r = absurd r
  refused-seven (Some plan) numbers text t e m r =
      stopped-status plan e
      (first-refused plan r.place.earlier r.place.start text e m r.place.reached (refused_after plan r.place.start t r.place.last r.step text r.place.taken r.next r.refusal))
