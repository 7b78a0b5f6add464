-- An installation in which nothing of the outside fails.
use Rattle.std.proofs.Common.{◌≡◌, ◌⊎◌, inl, inr, ℕ, Bool, true, false, Option, Some, None, List, [], refl, sym, ap, ◌∙◌, subst}
use Rattle.std.specs.Prelude.{is_none, is_some, if◌then◌else◌}
use Rattle.dev_model.specs.declared.step.Step.{Step}
use Rattle.dev_model.specs.Steps.{run, first_refusal}
use Rattle.dev_model.proofs.RefusingLemmas.{refused_unless_run}
use Rattle.wire_told.specs.Places.{Place}
use Rattle.flash_plan.specs.declared.options.Options.{Options}
use Rattle.flash_plan.proofs.LastLemmas.{plan_leaves_last}
use Rattle.host_driver.specs.Driven.{is_met, made, planned}
use Rattle.host_driver.specs.Jobs.{Job, Outside}
use Rattle.host_driver.proofs.CompleteLemmas.{made-plan}
use Rattle.host_words.specs.Requests.{Request, FlashAll, GetVar, Sample}
use Rattle.host_top.specs.Completing.{IsJobOf, IsQuiet, CompletesBy, Completes}
use Rattle.host_top.specs.Hosted.{Excused, Reports, ReportsBy, outcome_at}
use Rattle.host_top.specs.Outcomes.{Outcome, ending, status_of_outcome, job_outcome, device_outcome, target_outcome, files_outcome, found_outcome}
use Rattle.host_top.specs.Subjects.{is_elsewhere}
use Rattle.host_top.specs.Verdicts.{NoFolder}
use Rattle.host_top.proofs.OutcomeLemmas.{done-status, stopped-status}

-- the outcome of the job is the one that is reported
under : (b : Bool) (x y : Option Outcome) → b ≡ false → (if b then x else y) ≡ y
under true x y e = absurd cc
under false x y e = refl

module _ (place : Place) (dir : List ℕ) (j : Job) (plan : List Step) (old new : Outside) (status : ℕ) (job : IsJobOf place dir j.options old j) (quiet : IsQuiet old new) (made_so : made j ≡ Some plan) (r : Reports (Some (FlashAll place dir j.options)) old new status) where
  abbrev request : Option Request
  request = Some (FlashAll place dir j.options)

  outcome-is : outcome_at request old ≡ Some (job_outcome j)
  outcome-is =
      under (is_elsewhere dir old.folder.path) (Some (ending [] (NoFolder dir))) (files_outcome j.options old.folder.files (old.port.stands place)) job.here
      ∙ (ap (λ f. files_outcome j.options f (old.port.stands place)) job.files
      ∙ (ap (λ p. found_outcome j.files j.options p (old.port.stands place)) job.read
      ∙ ap (λ s. target_outcome (device_outcome j.files j.product j.options) s) job.stands))

  reported : (status ≡ status_of_outcome (job_outcome j)) ⊎ Excused request old new status
  reported = subst (λ o. ReportsBy o request old new status) outcome-is r

  at : (k : ℕ) → status_of_outcome (job_outcome j) ≡ k → (status ≡ k) ⊎ (status ≡ 2)
  at k e = by reported
    where
      by : (status ≡ status_of_outcome (job_outcome j)) ⊎ Excused request old new status → (status ≡ k) ⊎ (status ≡ 2)
      by (inl s) = inl (s ∙ e)
      by (inr (inl s)) = inr s
      by (inr (inr (inl s))) = absurd (quiet.link s.1)
      by (inr (inr (inr (inl s)))) = absurd (quiet.output s.1)
      by (inr (inr (inr (inr (inl s))))) = absurd (quiet.folder s.1)
      by (inr (inr (inr (inr (inr s))))) = absurd (quiet.link s.1.0)

  stops : run plan j.device ≡ None → is_some (first_refusal plan j.device) ≡ true
  stops e =
      sym (refused_unless_run plan j.device job.serves (plan_leaves_last j.files j.product j.options j.device plan (made-plan (is_met j) (planned j) plan made_so))) ∙ ap is_none e

  completes-by : CompletesBy j plan status
  completes-by = record { done = λ t e. at 0 (done-status j plan t made_so e); refused = λ e. at 7 (stopped-status j plan made_so (stops e)) }

completes-job : (place : Place) (dir : List ℕ) (options : Options) (old new : Outside) (status : ℕ) → Reports (Some (FlashAll place dir options)) old new status → IsQuiet old new → (j : Job) (plan : List Step) → j.options ≡ options → IsJobOf place dir options old j → made j ≡ Some plan → CompletesBy j plan status
completes-job place dir options old new status r quiet j plan e job made_so =
    completes-by place dir j plan old new status (subst (λ o. IsJobOf place dir o old j) (sym e) job) quiet made_so
    (subst (λ o. Reports (Some (FlashAll place dir o)) old new status) (sym e) r)

pub reports-complete : (request : Option Request) (old new : Outside) (status : ℕ) → Reports request old new status → Completes request old new status
reports-complete None old new status r = tt
reports-complete (Some (FlashAll place dir options)) old new status r = λ quiet j plan job made_so. completes-job place dir options old new status r quiet j plan job.asked job made_so
reports-complete (Some (GetVar place name)) old new status r = tt
reports-complete (Some (Sample n)) old new status r = tt
