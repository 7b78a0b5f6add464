-- What the status of an installation and of a question reports.
use Rattle.std.proofs.Common.{◌≡◌, ◌⊎◌, inl, inr, ℕ, Option, Some, None, List, [], length, refl, sym, ap, ◌∙◌, subst}
use Rattle.std.specs.Prelude.{Result, Ok, Err}
use Rattle.fb_frame.specs.Causes.{Rose}
use Rattle.dev_model.specs.declared.device.Dev.{Dev}
use Rattle.dev_model.specs.declared.device.Mode.TheVariants.{Halted}
use Rattle.dev_model.specs.Variables.{asked}
use Rattle.wire_told.specs.Peers.{Peer, device_of}
use Rattle.wire_told.specs.Places.{Place}
use Rattle.flash_plan.specs.declared.options.Options.{Options}
use Rattle.flash_plan.specs.declared.product.Product.{Product}
use Rattle.flash_plan.specs.Files.{Files}
use Rattle.flash_plan.specs.Products.{OfFiles}
use Rattle.host_driver.specs.declared.drive.Done.{Done as DoneSo}
use Rattle.host_driver.specs.declared.drive.DriveError.{DriveError}
use Rattle.host_driver.specs.declared.drive.DriveError.TheVariants as stop
use Rattle.host_driver.specs.Driven.{made, RefusedBy, IsHaltedNow}
use Rattle.host_driver.specs.Driving.{moved, Caused, Drove, LinkFailed}
use Rattle.host_driver.specs.Jobs.{Outside, Job, job, order, Has}
use Rattle.host_driver.specs.Asking.{lines_to}
use Rattle.host_words.specs.Requests.{Request, FlashAll, GetVar, Sample}
use Rattle.host_top.specs.Ending.{IsMet, ShowsLast, Shows, IsOpened, Unaimed, with_text, WhyLed, LedOver, Led, Answers, WhyAsked, Questioned, Ends}
use Rattle.host_top.specs.Hosted.{Excused, Reports}
use Rattle.host_top.specs.Outcomes.{ending, status_of_outcome, job_outcome, device_outcome, files_outcome, answer_outcome, variable_outcome}
use Rattle.host_top.specs.Subjects.{is_elsewhere}
use Rattle.host_top.specs.Verdicts.{Verdict, Usage, NoMemory, NoFolder, Flawed, NoLink, NoDevice, Unmet, NoPlan, Refusing, NoPeer, TooManyLines, Done, Told, status_of, verdict_of}
use Rattle.host_top.proofs.OutcomeLemmas.{done-out, unplanned-out, unmet-out, refused-seven}
use Rattle.host_top.proofs.ReportLemmas.{here-by, files-by, unused-reports, unaimed-reports, aimed-by}

-- An installation.
module _ (place : Place) (dir : List ℕ) (options : Options) (product : Product) (old new : Outside) (status : ℕ) (opened : IsOpened dir (order product options) old new) (l : Led place (order product options) old new status) where
  abbrev Installing : Option Request
  Installing = Some (FlashAll place dir options)

  abbrev Reported : Job → Type 0
  Reported j = (status ≡ status_of_outcome (job_outcome j)) ⊎ Excused Installing old new status

  why-at : (o : Result DoneSo DriveError) → l.course.outcome ≡ o → WhyLed (order product options) (length l.course.numbers) old new o
  why-at o e = subst (λ x. WhyLed (order product options) (length l.course.numbers) old new x) e l.why

  told : (j : Job) (v : Verdict) → v ≡ (job_outcome j).verdict → status ≡ status_of v → Reported j
  told j v e s = inl (s ∙ ap status_of e)

  refused-by : (j : Job) (t : Dev) (p : Peer) (text : List ℕ) → new.port.peer ≡ Some p → t ≡ device_of p → IsMet j.device → RefusedBy (made j) j.device l.course.numbers text t ⊎ IsHaltedNow old.port.faults new.port.faults text t → status ≡ 7 → Reported j
  refused-by j t p text b d m (inl r) s = inl (s ∙ sym (refused-seven j (made j) l.course.numbers text t refl m r))
  refused-by j t p text b d m (inr h) s =
      inr (inr (inr (inr (inr (s, (h.0, subst (λ x. Has x (λ q. (device_of q).mode ≡ Halted)) (sym b) (ap (λ (x : Dev). x.mode) (sym d) ∙ h.2)))))))

  shows-by : (j : Job) (v : Verdict) → Shows v l.mid new.text status → (status ≡ status_of v → Reported j) → Reported j
  shows-by j v (inl s) f = f s.0
  shows-by j v (inr s) f = inr (inr (inr (inl (s.0, l.unput s.0))))

  ended-by : (j : Job) (t : Dev) (p : Peer) (o : Result DoneSo DriveError) → new.port.peer ≡ Some p → t ≡ device_of p → IsMet j.device → l.course.outcome ≡ o → Caused j (moved old new) l.course.numbers t o → ShowsLast (verdict_of o) l.mid new.text status → Reported j
  ended-by j t p (Ok done) b d m e c s = shows-by j (Done done.steps) s (told j (Done done.steps) (done-out j l.course.numbers done t c))
  ended-by j t p (Err stop.Memory) b d m e c s = shows-by j NoMemory s (λ x. inr (inl x))
  ended-by j t p (Err (stop.Directory file)) b d m e c s = shows-by j (NoFolder file) s (λ x. inr (inr (inr (inr (inl (x, c.0))))))
  ended-by j t p (Err stop.Output) b d m e c s = inr (inr (inr (inl (s.0, l.unput s.0))))
  ended-by j t p (Err stop.Link) b d m e c s = shows-by j NoLink s (λ x. inr (inr (inl (x, (why-at (Err stop.Link) e).0))))
  ended-by j t p (Err stop.Ended) b d m e c s = absurd c
  ended-by j t p (Err (stop.Refused text)) b d m e c s = shows-by j (Refusing text) s (refused-by j t p text b d m c)
  ended-by j t p (Err (stop.Peer kept)) b d m e c s = absurd c
  ended-by j t p (Err stop.TooManyInfos) b d m e c s = absurd c
  ended-by j t p (Err (stop.Requirement line name value)) b d m e c s = shows-by j (Unmet line name value) s (told j (Unmet line name value) (unmet-out j line name value t c))
  ended-by j t p (Err (stop.Plan line kind)) b d m e c s = shows-by j (NoPlan line kind) s (told j (NoPlan line kind) (unplanned-out j line kind t c))

  job-by : (files : Files) (s t : Dev) (p : Peer) → old.folder.files ≡ Some files → new.port.peer ≡ Some p → t ≡ device_of p → IsMet s → LedOver (order product options) old (with_text l.mid new) l.course s t → Reported (job (order product options) files s)
  job-by files s t p g b d m r =
      let drove = subst (λ x. OfFiles x (λ f. Drove (job (order product options) f s) old (with_text l.mid new) l.course t)) g r.1 in
      ended-by (job (order product options) files s) t p l.course.outcome b d m refl drove.caused l.shows

  pub led-reports : Reports Installing old new status
  led-reports =
      here-by (is_elsewhere dir old.folder.path) (Some (ending [] (NoFolder dir))) (files_outcome options old.folder.files (old.port.stands place)) Installing old new status opened.here
      (files-by old.folder.files options (old.port.stands place) (Ok product) Installing old new status opened.read (λ files g.
      aimed-by (device_outcome files product options) (old.port.stands place) new.port.peer (LedOver (order product options) old (with_text l.mid new) l.course) Installing old new status l.device
      (λ s t p b d m r. job-by files s t p g b d m r)))

-- An installation whose port wasn't aimed.
opened-reports : (place : Place) (dir : List ℕ) (options : Options) (product : Product) (old new : Outside) (status : ℕ) → IsOpened dir (order product options) old new → Unaimed place old new status → Reports (Some (FlashAll place dir options)) old new status
opened-reports place dir options product old new status opened u =
    let request = Some (FlashAll place dir options) in
    here-by (is_elsewhere dir old.folder.path) (Some (ending [] (NoFolder dir))) (files_outcome options old.folder.files (old.port.stands place)) request old new status opened.here
    (files-by old.folder.files options (old.port.stands place) (Ok product) request old new status opened.read (λ files g.
    unaimed-reports request (device_outcome files product options) old new status place u))

-- A question.
module _ (place : Place) (name : List ℕ) (old new : Outside) (status : ℕ) (q : Questioned place name old new status) where
  abbrev Asking : Option Request
  Asking = Some (GetVar place name)

  abbrev Answered : Dev → Type 0
  Answered s = (status ≡ status_of_outcome (variable_outcome name s)) ⊎ Excused Asking old new status

  value-by : (s : Dev) (v : Verdict) (o : Option (List ℕ)) → asked s name ≡ o → status_of_outcome (answer_outcome (lines_to s name) o) ≡ status_of v → status ≡ status_of v → Answered s
  value-by s v o e f g = inl (g ∙ sym (subst (λ x. status_of_outcome (answer_outcome (lines_to s name) x) ≡ status_of v) (sym e) f))

  answered-by : (s : Dev) (p : Peer) (v : Option Verdict) → new.port.peer ≡ Some p → WhyAsked old new v → Answers s name v old.text q.mid → ShowsLast v q.mid new.text status → Answered s
  answered-by s p None b w a s9 = inr (inr (inr (inl (s9.0, w))))
  answered-by s p (Some v) b w a (inr s9) = inr (inr (inr (inl (s9.0, q.unput s9.0))))
  answered-by s p (Some (Told text)) b w a (inl x) = value-by s (Told text) (Some text) a.0 refl x.0
  answered-by s p (Some (Refusing text)) b w a (inl x) = value-by s (Refusing text) None a.0 refl x.0
  answered-by s p (Some NoMemory) b w a (inl x) = inr (inl x.0)
  answered-by s p (Some NoLink) b w a (inl x) = link-by w
    where
      link-by : LinkFailed (moved old new) ⊎ ((new.port.peer ≡ None) × Rose old.port.ends new.port.ends) → Answered s
      link-by (inl f) = inr (inr (inl (x.0, f)))
      link-by (inr f) = let g = f.0 in absurd cc
  answered-by s p (Some (NoPeer kept)) b w a (inl x) = absurd a
  answered-by s p (Some TooManyLines) b w a (inl x) = absurd a
  answered-by s p (Some (Done steps)) b w a (inl x) = absurd w
  answered-by s p (Some Usage) b w a (inl x) = absurd w
  answered-by s p (Some (NoFolder file)) b w a (inl x) = absurd w
  answered-by s p (Some (Flawed file flaw)) b w a (inl x) = absurd w
  answered-by s p (Some (Unmet line word value)) b w a (inl x) = absurd w
  answered-by s p (Some (NoPlan line kind)) b w a (inl x) = absurd w
  answered-by s p (Some (NoDevice kind)) b w a (inl x) = absurd w

  pub question-reports : Reports Asking old new status
  question-reports =
      aimed-by (variable_outcome name) (old.port.stands place) new.port.peer (λ s t. (t ≡ s) × Answers s name q.verdict old.text q.mid) Asking old new status q.device
      (λ s t p b d m r. answered-by s p q.verdict b q.why r.1 q.shows)

-- Whatever the words ask for.
flash-reports : (place : Place) (dir : List ℕ) (options : Options) (old new : Outside) (status : ℕ) → Ends (Some (FlashAll place dir options)) old new status → Reports (Some (FlashAll place dir options)) old new status
flash-reports place dir options old new status (inl u) = unused-reports (Some (FlashAll place dir options)) old new status u
flash-reports place dir options old new status (inr (product, opened, inl u)) = opened-reports place dir options product old new status opened u
flash-reports place dir options old new status (inr (product, opened, inr l)) = led-reports place dir options product old new status opened l

asking-reports : (place : Place) (name : List ℕ) (old new : Outside) (status : ℕ) → Ends (Some (GetVar place name)) old new status → Reports (Some (GetVar place name)) old new status
asking-reports place name old new status (inl u) = unused-reports (Some (GetVar place name)) old new status u
asking-reports place name old new status (inr (inl u)) = unaimed-reports (Some (GetVar place name)) (variable_outcome name) old new status place u
asking-reports place name old new status (inr (inr q)) = question-reports place name old new status q

pub ends-report : (request : Option Request) (old new : Outside) (status : ℕ) → Ends request old new status → Reports request old new status
ends-report None old new status u = unused-reports None old new status u
ends-report (Some (FlashAll place dir options)) old new status e = flash-reports place dir options old new status e
ends-report (Some (GetVar place name)) old new status e = asking-reports place name old new status e
ends-report (Some (Sample n)) old new status u = unused-reports (Some (Sample n)) old new status u
