-- An installation in which nothing fails ends with the outcome.
use Rattle.std.proofs.Common.{◌≡◌, ◌⊎◌, inl, inr, ℕ, ◌≤◌, Option, Some, None, List, length, refl, ap}
use Rattle.std.specs.Prelude.{Result, Ok, Err}
use Rattle.dev_model.specs.declared.device.Dev.{Dev}
use Rattle.dev_model.specs.declared.step.Step.{Step}
use Rattle.host_driver.specs.declared.drive.Done.{Done as DoneSo}
use Rattle.host_driver.specs.declared.drive.DriveError.{DriveError}
use Rattle.host_driver.specs.declared.drive.DriveError.TheVariants as stop
use Rattle.host_driver.specs.Completing.{Undisturbed}
use Rattle.host_driver.specs.Driven.{made, RefusedBy, IsHaltedNow, Spent}
use Rattle.host_driver.specs.Driving.{Caused, Moved}
use Rattle.host_driver.specs.Jobs.{Job, Course}
use Rattle.host_driver.proofs.CompleteLemmas.{refused-first, rose-some}
use Rattle.host_top.specs.Calm.{IsCalm, CalmReports}
use Rattle.host_top.specs.Outcomes.{job_outcome}
use Rattle.host_top.specs.Verdicts.{verdict_of}
use Rattle.host_top.proofs.OutcomeLemmas.{done-out, refused-out, unplanned-out, unmet-out}

module _ (j : Job) (m : Moved) (course : Course) (t : Dev) (c : IsCalm j m course t) where
  abbrev Reported : Result DoneSo DriveError → Type 0
  Reported o = (verdict_of o ≡ Some (job_outcome j).verdict) ⊎ (o ≡ Err stop.Memory)

  calm : (plan : List Step) → made j ≡ Some plan → Undisturbed j m course t plan
  calm plan e = record { caused = c.caused; tried = c.tried; no_dir = c.no_dir; no_sink = c.no_sink; no_fault = c.no_fault; serves = c.serves; planned = e }

  refused-case : (p : Option (List Step)) (text : List ℕ) → made j ≡ p → RefusedBy p j.device course.numbers text t → Reported (Err (stop.Refused text))
  refused-case None text e r = absurd r
  refused-case (Some plan) text e r = inl (ap Some (refused-out j plan text e (refused-first (calm plan e) r)))

  refusal : (text : List ℕ) → RefusedBy (made j) j.device course.numbers text t ⊎ IsHaltedNow m.before.port m.now.port text t → Reported (Err (stop.Refused text))
  refusal text (inl r) = refused-case (made j) text refl r
  refusal text (inr r) = absurd (c.no_fault r.0)

  link-case : Spent m.before.port m.now.port (length course.numbers) j.device t → 1 ≤ length course.numbers → ⊥
  link-case (inl f) l = c.no_fault (rose-some (length course.numbers) m.before.port m.now.port l f)
  link-case (inr (inl f, g)) l = c.no_fault f
  link-case (inr (inr f, g)) l = let h = c.serves in absurd cc

  reported-at : (o : Result DoneSo DriveError) → Caused j m course.numbers t o → Reported o
  reported-at (Ok done) x = inl (ap Some (done-out j course.numbers done t x))
  reported-at (Err stop.Memory) x = inr refl
  reported-at (Err (stop.Directory file)) x = absurd (c.no_dir x.0)
  reported-at (Err stop.Output) x = absurd (c.no_sink x)
  reported-at (Err stop.Link) x = absurd (link-case x.0 x.1)
  reported-at (Err stop.Ended) x = absurd x
  reported-at (Err (stop.Refused text)) x = refusal text x
  reported-at (Err (stop.Peer kept)) x = absurd x
  reported-at (Err stop.TooManyInfos) x = absurd x
  reported-at (Err (stop.Requirement line name value)) x = inl (ap Some (unmet-out j line name value t x))
  reported-at (Err (stop.Plan line kind)) x = inl (ap Some (unplanned-out j line kind t x))

pub calm_reports : CalmReports
calm_reports j m course t c = reported-at j m course t c course.outcome c.caused
