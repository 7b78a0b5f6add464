-- What is so of a call whose words are refused, or whose job was done.
use Rattle.std.proofs.Common.{◌≡◌, ◌≢◌, ◌⊎◌, inl, inr, ℕ, ◌+◌, ◌≤◌, Bool, true, false, List, [], length, Option, Some, None, is_some, option_map, Result, Ok, Err, refl, sym, ap, subst, ◌∙◌, append-nil, arith}
use Rattle.std.specs.Prelude.{IfSome, option_and_then}
use Rattle.fb_frame.specs.Causes.{Rose}
use Rattle.fb_frame.specs.Told.{Both}
use Rattle.dev_disk.specs.Files.{Files, KeepsOthers, StaysTorn}
use Rattle.dev_disk.specs.Disks.{DiskTold, FilesKept}
use Rattle.dev_model.specs.declared.bad_image.BadImage.{BadImage}
use Rattle.dev_model.specs.declared.device.Dev.{Dev}
use Rattle.dev_model.specs.declared.device.Mode.TheVariants.{Halted}
use Rattle.dev_store.specs.Laws.{StandsByParts}
use Rattle.dev_store.specs.Stand.{stand, Stands}
use Rattle.dev_store.specs.States.{start_mode}
use Rattle.dev_store.specs.Opening.{StandsIn, OpensTold, StandsAs, OnFile}
use Rattle.device_jobs.specs.Outcomes.{Outcome, NoFile, BadDevice, Shown, opened, opened_as, show_outcome}
use Rattle.device_jobs.specs.Jobs as jobs
use Rattle.device_jobs.specs.Leaves.{LeavesUnlocking, StandsUnlocking}
use Rattle.device_jobs.specs.Printed.{memory_line}
use Rattle.device_jobs.specs.Working.{Output, Ends}
use Rattle.device_session.specs.Gates.{Connections, GateTold}
use Rattle.device_session.specs.Serving.{IsMore, AcceptsCount}
use Rattle.device_words.specs.declared.request.DeviceWords.{DeviceWords}
use Rattle.device_words.specs.declared.request.DeviceWords.TheVariants.{Make, Show, Unlock, Serve}
use Rattle.device_top.specs.Endings.{Ending, Usage, Job, Serving, serves_as, ending_of, usage_line}
use Rattle.device_top.specs.Reports.{call_of, PrintsServed}
use Rattle.device_top.specs.Calls.{path_of, StandsServing, LeavesServing, Leaves, KeepsDisk, KeepsGate, Serves}
use Rattle.device_top.specs.Serving.{IsServed, ServesBy, serve_call}
use Rattle.device_top.specs.Working.{sides, IsCall}
use Rattle.device_top.proofs.EndLemmas.{own, memory}
use Rattle.device_top.proofs.OpenLemmas.{opens-same}

none-more : (x : Option Connections) → Both (IsMore 0) x x
none-more None = tt
none-more (Some x) = omega arith

-- nothing was accepted
pub none-counted : (a : GateTold) → AcceptsCount 0 a a
none-counted a = none-more a.connections

-- files that stayed as they were
same-file : (R : List ℕ → List ℕ → Type 0) → ((file : List ℕ) → R file file) → (files : Option Files) (path : List ℕ) → OnFile R files files path
same-file R f None path = tt
same-file R f (Some g) path = by (g path) where
  by : (o : Option (List ℕ)) → Both R o o
  by None = tt
  by (Some file) = f file

same-unlocking : (file : List ℕ) → LeavesUnlocking file file
same-unlocking file = by (stand file) where
  by : (r : Result Dev BadImage) → StandsUnlocking r r
  by (Err bad) = refl
  by (Ok dev) = inl refl

same-serving : StandsByParts → (file : List ℕ) → LeavesServing file file
same-serving law file = by (stand file) refl where
  by : (r : Result Dev BadImage) → stand file ≡ r → StandsServing r file
  by (Err bad) e = e
  by (Ok dev) e = (dev, opens-same law file dev e)

same-leaves : StandsByParts → (asked : Option DeviceWords) (files : Option Files) → Leaves asked files files
same-leaves law None files = tt
same-leaves law (Some (Make layout file unlocked)) files = tt
same-leaves law (Some (Show file)) files = same-file StandsAs (λ f. record { stands = refl; owns = λ name. refl }) files file
same-leaves law (Some (Unlock file)) files = same-file LeavesUnlocking same-unlocking files file
same-leaves law (Some (Serve file port connections)) files = same-file LeavesServing (same-serving law) files file

same-others : (files : Option Files) (path : List ℕ) → KeepsOthers files files path
same-others None path = tt
same-others (Some f) path = λ other ne. refl

same-disk : (asked : Option DeviceWords) (t : DiskTold) → KeepsDisk asked t t
same-disk None t = record { files = refl; path = refl; length = refl; later = omega arith; torn = λ o w l k. k }
same-disk (Some asked) t = record { others = same-others t.files (path_of asked); later = omega arith; torn = λ o w l k. k }

-- the end of a call has one of two statuses
pub ends-apart : (wanted status n : ℕ) (lines : List ℕ) (p q : Output) → Ends wanted lines status p q → (wanted ≡ n → ⊥) → (9 ≡ n → ⊥) → status ≡ n → ⊥
ends-apart wanted status n lines p q (inl k) a b e = a (sym k.0 ∙ e)
ends-apart wanted status n lines p q (inr k) a b e = b (sym k.0 ∙ e)

pub no-served : (asked : Option DeviceWords) (count status : ℕ) (old new : Option (List ℕ)) → (status ≡ 0 → ⊥) → PrintsServed asked count status old new
no-served None count status old new z = tt
no-served (Some (Make layout file unlocked)) count status old new z = tt
no-served (Some (Show file)) count status old new z = tt
no-served (Some (Unlock file)) count status old new z = tt
no-served (Some (Serve file port connections)) count status old new z = λ e. absurd (z e)

-- By what a file that is served comes to: it isn't told, stands for no device, or stands for one.
pub serving-or : (files : Option Files) (path : List ℕ) (P : Option Ending → Type 0) → P None → ((o : Outcome) → P (Some (Job o))) →
    ((dev : Dev) → OpensTold files path dev → P (Some (Serving dev))) → P (option_map serves_as (show_outcome files path))
serving-or None path P n j s = n
serving-or (Some f) path P n j s = by (f path) refl where
  opened-on : (file : List ℕ) → f path ≡ Some file → (r : Result Dev BadImage) → stand file ≡ r → P (Some (serves_as (opened_as Shown r)))
  opened-on file e (Err bad) k = j (BadDevice bad)
  opened-on file e (Ok dev) k = s dev (subst (λ o. StandsIn o (Ok dev)) (sym e) k)

  by : (o : Option (List ℕ)) → f path ≡ o → P (Some (serves_as (opened Shown o)))
  by None e = j NoFile
  by (Some file) e = opened-on file e (stand file) refl

-- the file stands for the device that it stood for
now-stands : StandsByParts → (old new : Option Files) (path : List ℕ) (dev : Dev) → OnFile StandsAs old new path → OpensTold old path dev →
    IfSome (option_and_then (λ f. f path) new) (λ now. Stands now dev)
now-stands law None None path dev h o = tt
now-stands law None (Some g) path dev h o = absurd h
now-stands law (Some f) None path dev h o = absurd h
now-stands law (Some f) (Some g) path dev h o = by (f path) (g path) h o where
  by : (a b : Option (List ℕ)) → Both StandsAs a b → StandsIn a (Ok dev) → IfSome b (λ now. Stands now dev)
  by None b h o = absurd o
  by (Some file) None h o = absurd h
  by (Some file) (Some now) h o = opens-same law now dev (h.stands ∙ o)

started : (userspace : Bool) → start_mode userspace ≢ Halted
started true e = absurd cc
started false e = absurd cc

never-halted : StandsByParts → (files : Option Files) (path : List ℕ) (dev : Dev) → is_some files ≡ true → OpensTold files path dev → dev.mode ≢ Halted
never-halted law None path dev t o e = absurd cc
never-halted law (Some f) path dev t o e = by (f path) o where
  by : (a : Option (List ℕ)) → StandsIn a (Ok dev) → ⊥
  by None o = absurd o
  by (Some file) o =
      let parts = law file dev o in
      started parts.state.userspace (ap (λ (d : Dev). d.mode) (sym parts.device) ∙ e)

-- A call that accepted nothing, of words that serve.
pub nothing-served : StandsByParts → (most status : ℕ) (path : List ℕ) (old new : Option Files) (broke honest : Type 0) (x : Option Connections) → status ≢ 0 → (honest → OnFile StandsAs old new path) →
    Both (ServesBy (option_map serves_as (show_outcome old path)) status (λ dev. IsServed (serve_call dev most status new path) broke honest)) x x
nothing-served law most status path old new broke honest None z h = tt
nothing-served law most status path old new broke honest (Some c) z h =
    some old h where
      some : (files : Option Files) → (honest → OnFile StandsAs files new path) →
          ServesBy (option_map serves_as (show_outcome files path)) status (λ dev. IsServed (serve_call dev most status new path) broke honest) c c
      some None h = inl (z, refl)
      some (Some f) h = serving-or (Some f) path (λ e. ServesBy e status (λ dev. IsServed (serve_call dev most status new path) broke honest) c c) (inl (z, refl)) (λ o. refl)
          (λ dev opens. record {
            served = [];
            left = dev;
            accepted_now = sym (append-nil c.accepted);
            coming = refl;
            few = omega arith;
            leads = λ t. refl;
            stands = λ t. now-stands law (Some f) new path dev (h t) opens;
            done = λ e. absurd (z e);
            halted = λ e. absurd (never-halted law (Some f) path dev refl opens e);
            faulted = λ e. inr refl;
          })

-- words that are refused
pub usage-call : (status : ℕ) (t : DiskTold) (a : GateTold) (p q : Output) → Ends 1 usage_line status p q → p.faults ≤ q.faults → IsCall None status (sides t a p) (sides t a q)
usage-call status t a p q m later =
    let end = own None 0 status p q (Some Usage) 1 usage_line (inr (inl refl)) (refl, refl) m in
    record {
      decided = end.decided;
      usage = λ e. refl;
      disk = λ e. absurd (ends-apart 1 status 3 usage_line p q m (λ k. absurd cc) (λ k. absurd cc) e);
      gate = λ e. absurd (ends-apart 1 status 6 usage_line p q m (λ k. absurd cc) (λ k. absurd cc) e);
      output = end.output;
      printed = record { count = 0; counted = none-counted a; printed = end.printed; served = tt };
      done = λ e. absurd (ends-apart 1 status 0 usage_line p q m (λ k. absurd cc) (λ k. absurd cc) e);
      leaves = λ h. tt;
      others = same-disk None t;
      untouched = λ e. refl;
      serves = tt;
      memory = λ e. refl;
      kept = refl;
      said = later;
    }

same-gate : (asked : Option DeviceWords) (status : ℕ) (a : GateTold) → status ≢ 0 → KeepsGate asked status a a
same-gate None status a z = refl
same-gate (Some (Make layout file unlocked)) status a z = refl
same-gate (Some (Show file)) status a z = refl
same-gate (Some (Unlock file)) status a z = refl
same-gate (Some (Serve file port connections)) status a z = record { later = omega arith; no_fewer = omega arith; at_port = inr (z, refl) }

same-serves : StandsByParts → (asked : Option DeviceWords) (status : ℕ) (t : DiskTold) (a : GateTold) → status ≢ 0 → Serves (call_of asked t.files status) t t a a
same-serves law None status t a z = tt
same-serves law (Some (Make layout file unlocked)) status t a z = tt
same-serves law (Some (Show file)) status t a z = tt
same-serves law (Some (Unlock file)) status t a z = tt
same-serves law (Some (Serve file port connections)) status t a z =
    nothing-served law connections status file t.files t.files _ _ a.connections z (λ h. same-file StandsAs (λ f. record { stands = refl; owns = λ name. refl }) t.files file)

-- want of memory for the words
pub wanting-call : StandsByParts → (asked : Option DeviceWords) (status : ℕ) (t : DiskTold) (a : GateTold) (p q : Output) → Ends 2 memory_line status p q → p.faults ≤ q.faults →
    IsCall asked status (sides t a p) (sides t a q)
wanting-call law asked status t a p q m later =
    let end = memory asked 0 status p q (ending_of asked t.files) m in
    let zero : status ≢ 0 = ends-apart 2 status 0 memory_line p q m (λ k. absurd cc) (λ k. absurd cc) in
    record {
      decided = end.decided;
      usage = λ e. absurd (ends-apart 2 status 1 memory_line p q m (λ k. absurd cc) (λ k. absurd cc) e);
      disk = λ e. absurd (ends-apart 2 status 3 memory_line p q m (λ k. absurd cc) (λ k. absurd cc) e);
      gate = λ e. absurd (ends-apart 2 status 6 memory_line p q m (λ k. absurd cc) (λ k. absurd cc) e);
      output = end.output;
      printed = record { count = 0; counted = none-counted a; printed = end.printed; served = no-served asked 0 status p.text q.text zero };
      done = λ e. absurd (zero e);
      leaves = λ h. same-leaves law asked t.files;
      others = same-disk asked t;
      untouched = λ e. refl;
      serves = same-serves law asked status t a zero;
      memory = λ e. refl;
      kept = same-gate asked status a zero;
      said = later;
    }

-- why a job's status is 3
pub job-disk : (o : Option Outcome) (rose : Type 0) → jobs.IsDiskEnd o rose → rose ⊎ (option_map Job o ≡ Some (Job NoFile))
job-disk o rose (inl r) = inl r
job-disk o rose (inr e) = inr (ap (option_map Job) e)
