-- What follows of the status of an installation.
use Rattle.std.proofs.Common.{◌≡◌, ◌⊎◌, inl, inr, ℕ, ◌+◌, ◌≤◌, false, Option, Some, None, List, [], ◌∷◌, length, refl, sym, subst, arith}
use Rattle.std.specs.Prelude.{Result, Ok, Err, IsFalse}
use Rattle.fb_frame.specs.Causes.{Rose}
use Rattle.fb_frame.specs.Sinks.{Grew}
use Rattle.fb_frame.proofs.SinkLemmas.{Grew-append}
use Rattle.dev_model.specs.declared.device.Dev.{Dev}
use Rattle.dev_model.specs.Partitions.{is_fastboot}
use Rattle.wire_told.specs.Peers.{Peer}
use Rattle.wire_told.specs.Places.{Place, Stand}
use Rattle.flash_plan.specs.declared.options.Options.{Options}
use Rattle.flash_plan.specs.declared.product.Product.{Product}
use Rattle.flash_plan.specs.Files.{Files}
use Rattle.flash_plan.specs.Products.{Fault, product_of, OfFiles}
use Rattle.host_driver.specs.declared.drive.Done.{Done as DoneSo}
use Rattle.host_driver.specs.declared.drive.DriveError.{DriveError}
use Rattle.host_driver.specs.declared.drive.DriveError.TheVariants as stop
use Rattle.host_driver.specs.Driven.{made, RefusedBy, IsHaltedNow, RoseBy, Spent}
use Rattle.host_driver.specs.Driving.{moved, Caused, Drove, IsPlanless, MayRetry, LinkFailed}
use Rattle.host_driver.specs.Jobs.{Outside, Job, job, order, last_in}
use Rattle.host_driver.specs.Printing.{PrintsBy, text_of, lines_of}
use Rattle.host_driver.specs.Wires.{IsWire, LogGrew}
use Rattle.host_words.specs.Requests.{FlashAll}
use Rattle.host_top.specs.Ending.{IsSamePort, IsMet, OnAimed, IsOpened, ShowsLast, with_text, WhyLed, LedOver, Led}
use Rattle.host_top.specs.Hosted.{OfProduct, OnFolder, OnJobOf, Installed, IsStill, RefusesOf, SpentBy}
use Rattle.host_top.specs.Verdicts.{NoMemory, NoFolder, NoLink, Unmet, NoPlan, Refusing, NoPeer, TooManyLines, Done, last_line, verdict_of}
use Rattle.host_top.proofs.QuestionLemmas.{aimed-stand, aimed-told}
use Rattle.host_top.proofs.SaysLemmas.{Says}
use Rattle.host_top.proofs.EarlyLemmas.{shown-says}

-- a fact of the told files and the product that was read is one of the words' job
product-on : (p : Result Product Fault) (product : Product) (P : Product → Type 0) → p ≡ Ok product → P product → OfProduct p P
product-on p product P e x = subst (λ q. OfProduct q P) (sym e) x

folder-on : (files : Option Files) (options : Options) (product : Product) (P : Files → Product → Type 0) → OfFiles files (λ f. product_of f options.wipe ≡ Ok product) → OfFiles files (λ f. P f product) → OnFolder files options P
folder-on None options product P e x = tt
folder-on (Some f) options product P e x = product-on (product_of f options.wipe) product (P f) e x

files-map : (files : Option Files) (P Q : Files → Type 0) → ((f : Files) → P f → Q f) → OfFiles files P → OfFiles files Q
files-map None P Q g x = tt
files-map (Some f) P Q g x = g f x

last-some : (xs : List ℕ) (x : ℕ) → last_in xs ≡ Some x → 1 ≤ length xs
last-some [] x e = absurd cc
last-some (y ∷ xs) x e = omega arith

module _ (place : Place) (dir : List ℕ) (options : Options) (product : Product) (old new : Outside) (status : ℕ) (opened : IsOpened dir (order product options) old new) (l : Led place (order product options) old new status) where
  abbrev Drives : Job → Dev → Type 0
  Drives j t = Drove j old (with_text l.mid new) l.course t

  -- what is known of the words' job gives what follows of it
  pub on-job : (Q : Job → Dev → Type 0) → ((j : Job) (t : Dev) → j.options ≡ options → Drives j t → Q j t) → OnJobOf (Some (FlashAll place dir options)) old new Q
  on-job Q f = aimed-stand (old.port.stands place) new.port.peer {R = LedOver (order product options) old (with_text l.mid new) l.course}
      (λ s t m r. folder-on old.folder.files options product (λ files product. Q (job (order product options) files s) t) opened.read
      (files-map old.folder.files (λ files. Drives (job (order product options) files s) t) (λ files. Q (job (order product options) files s) t)
      (λ files. f (job (order product options) files s) t refl) r.1)) l.device

  caused-at : (o : Result DoneSo DriveError) (j : Job) (t : Dev) → l.course.outcome ≡ o → Drives j t → Caused j (moved old new) l.course.numbers t o
  caused-at o j t e d = subst (λ x. Caused j (moved old new) l.course.numbers t x) e d.caused

  why-at : (o : Result DoneSo DriveError) → l.course.outcome ≡ o → WhyLed (order product options) (length l.course.numbers) old new o
  why-at o e = subst (λ x. WhyLed (order product options) (length l.course.numbers) old new x) e l.why

  -- all was done
  installed : (done : DoneSo) → l.course.outcome ≡ Ok done → (j : Job) (t : Dev) → j.options ≡ options → Drives j t → Installed j t
  installed done e j t q d = let s = caused-at (Ok done) j t e d in record { plan = s.plan; made_so = s.made_so; runs = s.runs }

  one-attempt : (done : DoneSo) (j : Job) (t : Dev) → l.course.outcome ≡ Ok done → options.retries ≡ 0 → Drives j t → done.attempts ≡ 1
  one-attempt done j t e r d =
      let s = caused-at (Ok done) j t e d in
      let some = last-some l.course.numbers done.steps s.last in
      let few = l.few in
      let why : done.attempts ≡ length l.course.numbers = why-at (Ok done) e in
      omega (arith, some, few, why, r)

  -- a step was refused
  refused : (text : List ℕ) → l.course.outcome ≡ Err (stop.Refused text) → Grew l.mid new.text (last_line (Refusing text)) → (j : Job) (t : Dev) → j.options ≡ options → Drives j t → RefusesOf old new j t
  refused text e g j t q d =
      let w = subst (λ o. PrintsBy (lines_of j) (MayRetry j (moved old new) t) d.prints.attempts (record l.course { outcome = o }) (Grew old.text l.mid)) e d.prints.text in
      record {
        attempts = d.prints.attempts;
        text = text;
        refused = subst (λ ns. RefusedBy (made j) j.device ns text t ⊎ IsHaltedNow old.port.faults new.port.faults text t) w.0 (caused-at (Err (stop.Refused text)) j t e d);
        printed = Grew-append old.text l.mid new.text (text_of (lines_of j) d.prints.attempts) (last_line (Refusing text)) w.1 g;
      }

  -- the link failed in each attempt
  link-spent : (o : Option Stand) (b : Option Peer) → l.course.outcome ≡ Err stop.Link → LinkFailed (moved old new) → length l.course.numbers ≡ options.retries + 1 →
      OnAimed o b (LedOver (order product options) old (with_text l.mid new) l.course) → SpentBy options.retries place b old new
  link-spent o None e f n d = inl f
  link-spent o (Some b) e f n d = aimed-told o (Some b) {P = λ t. RoseBy (options.retries + 1) old.port.faults new.port.faults ⊎ (LinkFailed (moved old new) × IsFalse (is_fastboot t.mode))} spent-of d
    where
      by-mode : (s t : Dev) → IsMet s → Spent old.port.faults new.port.faults (length l.course.numbers) s t →
          RoseBy (options.retries + 1) old.port.faults new.port.faults ⊎ (LinkFailed (moved old new) × IsFalse (is_fastboot t.mode))
      by-mode s t m (inl r) = inl (subst (λ k. RoseBy k old.port.faults new.port.faults) n r)
      by-mode s t m (inr (inl r, g)) = inr (r, g)
      by-mode s t m (inr (inr r, g)) = let h = m.serves in absurd cc

      spent-of : (s t : Dev) → IsMet s → LedOver (order product options) old (with_text l.mid new) l.course s t →
          RoseBy (options.retries + 1) old.port.faults new.port.faults ⊎ (LinkFailed (moved old new) × IsFalse (is_fastboot t.mode))
      spent-of s t m r = by-mode s t m (r.0.spent e)

  end-spent : (b : Option Peer) → b ≡ None → Rose old.port.ends new.port.ends → SpentBy options.retries place b old new
  end-spent None e r = inr (inl r)
  end-spent (Some b) e r = absurd cc

  -- no plan was made
  still : IsPlanless l.course.outcome → IsStill (Some place) old new
  still p = aimed-stand (old.port.stands place) new.port.peer {R = LedOver (order product options) old (with_text l.mid new) l.course} (λ s t m r. r.0.still p) l.device

  planless : (o : Result DoneSo DriveError) → l.course.outcome ≡ o → IsPlanless o → IsStill (Some place) old new
  planless o e p = still (subst IsPlanless (sym e) p)

  -- what its status says
  abbrev Tells : ℕ → Type 0
  Tells k = Says (Some (FlashAll place dir options)) old new k

  unentered : new.folder.entered ≡ false → IsSamePort old.port new.port
  unentered e = let t = opened.entered in absurd cc

  wires : (done : DoneSo) → l.course.outcome ≡ Ok done → options.retries ≡ 0 → OnJobOf (Some (FlashAll place dir options)) old new (λ j t. LogGrew old.port.log new.port.log (IsWire j))
  wires done e r = on-job (λ j t. LogGrew old.port.log new.port.log (IsWire j)) (λ j t q d. d.wired done e (one-attempt done j t e r d))

  last-says : (o : Result DoneSo DriveError) → l.course.outcome ≡ o → ShowsLast (verdict_of o) l.mid new.text status → Tells status
  last-says (Ok done) e s = shown-says Tells (Done done.steps) l.mid new.text status (on-job Installed (installed done e), wires done e, l.turned) l.unput s
  last-says (Err stop.Memory) e s = shown-says Tells NoMemory l.mid new.text status tt l.unput s
  last-says (Err (stop.Directory file)) e s = shown-says Tells (NoFolder file) l.mid new.text status (inl (why-at (Err (stop.Directory file)) e).0, unentered) l.unput s
  last-says (Err stop.Output) e s = subst Tells (sym s.0) (l.unput s.0)
  last-says (Err stop.Link) e s = let w = why-at (Err stop.Link) e in shown-says Tells NoLink l.mid new.text status (link-spent (old.port.stands place) new.port.peer e w.0 w.1 l.device) l.unput s
  last-says (Err stop.Ended) e s = let w = why-at (Err stop.Ended) e in shown-says Tells NoLink l.mid new.text status (end-spent new.port.peer w.0 w.1) l.unput s
  last-says (Err (stop.Refused text)) e (inl s) = subst Tells (sym s.0) (on-job (RefusesOf old new) (refused text e s.1), l.turned)
  last-says (Err (stop.Refused text)) e (inr s) = subst Tells (sym s.0) (l.unput s.0)
  last-says (Err (stop.Peer kept)) e s = shown-says Tells (NoPeer kept) l.mid new.text status (why-at (Err (stop.Peer kept)) e, l.turned) l.unput s
  last-says (Err stop.TooManyInfos) e s = shown-says Tells TooManyLines l.mid new.text status (why-at (Err stop.TooManyInfos) e, l.turned) l.unput s
  last-says (Err (stop.Requirement line name value)) e s =
      shown-says Tells (Unmet line name value) l.mid new.text status (l.turned, planless (Err (stop.Requirement line name value)) e tt) l.unput s
  last-says (Err (stop.Plan line kind)) e s = shown-says Tells (NoPlan line kind) l.mid new.text status (l.turned, planless (Err (stop.Plan line kind)) e tt) l.unput s

  pub ended-says : Tells status
  ended-says = last-says l.course.outcome refl l.shows
