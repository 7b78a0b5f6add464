-- Opening an image that is served, and what its file is afterwards.
use Rattle.std.proofs.Common.{◌≡◌, ◌⊎◌, inl, inr, ℕ, ◌≤◌, Bool, true, false, List, [], Option, Some, None, is_some, Result, Ok, Err, refl, sym, ap, subst, ◌∙◌, arith}
use Rattle.std.specs.Prelude.{IsTrue, IfErr, IfSome, option_and_then}
use Rattle.fb_frame.specs.Causes.{Rose}
use Rattle.fb_frame.specs.Told.{Both}
use Rattle.dev_disk.specs.Calls.{IsOpen, Agrees}
use Rattle.dev_disk.specs.Files.{Files, content, KeepsOthers}
use Rattle.dev_disk.specs.Disks.{DiskTold, open_bytes}
use Rattle.dev_disk.proofs.TwinLemmas.{Rose-behind}
use Rattle.dev_model.specs.declared.bad_image.BadImage.{BadImage}
use Rattle.dev_model.specs.declared.device.Dev.{Dev}
use Rattle.dev_model.specs.declared.device.Mode.{Mode}
use Rattle.dev_model.specs.declared.device.Mode.TheVariants as mode
use Rattle.dev_model.specs.Partitions.{is_fastboot}
use Rattle.dev_store.specs.declared.errors.OpenError.{OpenError}
use Rattle.dev_store.specs.declared.errors.OpenError.TheVariants as opening
use Rattle.dev_store.specs.Faults.{IsHonest}
use Rattle.dev_store.specs.Held.{Held, DiskKept}
use Rattle.dev_store.specs.Laws.{RepairedStands, RepairedOwns, StandsByParts}
use Rattle.dev_store.specs.Stand.{stand, Stands, Starts}
use Rattle.dev_store.specs.States.{start_mode}
use Rattle.dev_store.specs.Opening.{IsAbsent, IsBadImage, OpensTold, OpensImage, LeavesImage, StandsAs, OnFile, OthersKept}
use Rattle.device_jobs.specs.declared.job.JobError.TheVariants as job
use Rattle.device_jobs.specs.Outcomes.{Shown}
use Rattle.device_jobs.specs.Working.{IsImageStop, opening_stop}
use Rattle.device_jobs.proofs.OpenedLemmas.{stop-unopened, early-unopened, show-left, others-opened, open-opened, fact-at, on-file}
use Rattle.device_session.proofs.LifeLemmas.{IsAgreed}
use Rattle.device_session.specs.Gates.{Connections, GateTold}
use Rattle.device_top.specs.declared.report.ServeStop.{ServeStop}
use Rattle.device_top.specs.declared.report.ServeStop.TheVariants as stop
use Rattle.device_top.specs.Calls.{StandsServing, LeavesServing}
use Rattle.device_top.specs.Serving.{IsServed, serve_call}
use Rattle.device_top.specs.Working.{service, run_status, IsUnopened, IsOpened, IsServeStop, HasRun, HasServed, ServesFile}
use Rattle.device_top.proofs.ChainLemmas.{leads-weaker}

-- an image that isn't opened
image-stop : (e : OpenError) → IsImageStop (opening_stop e)
image-stop opening.Absent = tt
image-stop (opening.Bad bad) = tt
image-stop opening.Disk = tt
image-stop opening.Memory = tt

pub unopened : (old new : DiskTold) (path : List ℕ) (e : OpenError) → (e ≡ opening.Absent → IsAbsent old.files path) → ((bad : BadImage) → e ≡ opening.Bad bad → IsBadImage old.files path bad) →
    (e ≡ opening.Disk → Rose old.faults new.faults) → ((bad : BadImage) → (e ≡ opening.Absent) ⊎ (e ≡ opening.Bad bad) → new.files ≡ old.files) →
    (IsHonest new.torn → LeavesImage old new path) → OthersKept old new path → IsUnopened path (opening_stop e) old new
unopened old new path e absent bad disk early left others = record {
  stops = stop-unopened Shown old.files path (Rose old.faults new.faults) e absent bad disk;
  never = image-stop e;
  early = early-unopened (new.files ≡ old.files) e early;
  left = left;
  others = others;
}

-- memory was wanting for the connections of a device that was opened
pub wanting : {K L : Type 0} (told : K → DiskTold) (lent : K → L) (old : K) (path : List ℕ) (held : Held K) → RepairedStands → RepairedOwns → IsOpened told lent old path held →
    IsUnopened path job.Memory (told old) (told held.disk)
wanting told lent old path held law owns o = record {
  stops = tt;
  never = tt;
  early = λ e. absurd e;
  left = λ honest. show-left (told old) (told held.disk) (told held.disk) path held.device law owns o.opens refl;
  others = record { others = o.opens.others; later = o.opens.later; torn = o.opens.torn };
}

-- the mode in which an image opens
opens-in : (userspace : Bool) → Starts (start_mode userspace) (start_mode userspace)
opens-in true = refl
opens-in false = refl

pub opens-same : StandsByParts → (file : List ℕ) (dev : Dev) → stand file ≡ Ok dev → Stands file dev
opens-same law file dev e =
    let parts = law file dev e in
    let is : start_mode parts.state.userspace ≡ dev.mode = ap (λ (d : Dev). d.mode) (sym parts.device) in
    record { found = dev; reads = e; same = refl; starts = subst (λ m. Starts m m) is (opens-in parts.state.userspace) }

-- a file that stands for what it did
same-serving : StandsByParts → (file now : List ℕ) (r : Result Dev BadImage) → stand now ≡ r → StandsServing r now
same-serving law file now (Err bad) e = e
same-serving law file now (Ok dev) e = (dev, opens-same law now dev e)

pub as-serving : StandsByParts → (old new : Option Files) (path : List ℕ) → OnFile StandsAs old new path → OnFile LeavesServing old new path
as-serving law None None path h = tt
as-serving law None (Some g) path h = h
as-serving law (Some f) None path h = h
as-serving law (Some f) (Some g) path h = by (f path) (g path) h where
  by : (a b : Option (List ℕ)) → Both StandsAs a b → Both LeavesServing a b
  by None None h = tt
  by None (Some now) h = h
  by (Some file) None h = h
  by (Some file) (Some now) h = same-serving law file now (stand file) h.stands

-- an image that was served
served-left : (old new : DiskTold) (path : List ℕ) (dev : Dev) → KeepsOthers old.files new.files path → OpensTold old.files path dev → IsOpen new.files new.open_path path →
    Agrees new.files new.open_path new.open_length → IfSome (open_bytes new) (λ file. (left : Dev) × Stands file left) → OnFile LeavesServing old.files new.files path
served-left old new path dev k h o a s =
    on-file LeavesServing old.files new.files path dev (λ now. (left : Dev) × Stands now left)
    (λ file now e p. subst (λ r. StandsServing r now) (sym e) p) k h (fact-at (λ now. (left : Dev) × Stands now left) new path o a s)

-- the open file is that of the path
image-is : (files : Option Files) (p : Option (List ℕ)) (path : List ℕ) → IsOpen files p path → content files p ≡ option_and_then (λ f. f path) files
unfolding content
image-is None p path o = refl
image-is (Some f) None path o = absurd cc
image-is (Some f) (Some q) path o = let same : q ≡ path = cc in ap f same

served-as : (dev : Dev) (most status : ℕ) (image now : Option (List ℕ)) (broke more honest : Type 0) → image ≡ now → (broke → more) → (a b : Connections) →
    IsServed (record { dev = dev; most = most; status = status; image = image }) broke honest a b → IsServed (record { dev = dev; most = most; status = status; image = now }) more honest a b
served-as dev most status image now broke more honest e f a b h = record {
  served = h.served;
  left = h.left;
  accepted_now = h.accepted_now;
  coming = h.coming;
  few = h.few;
  leads = λ t. leads-weaker broke more f dev h.served h.left (h.leads (ap is_some e ∙ t));
  stands = λ t. subst (λ i. IfSome i (λ file. Stands file h.left)) e (h.stands t);
  done = h.done;
  halted = h.halted;
  faulted = h.faulted;
}

both-as : (P Q : Connections → Connections → Type 0) → ((a b : Connections) → P a b → Q a b) → (x y : Option Connections) → Both P x y → Both Q x y
both-as P Q f None None h = tt
both-as P Q f None (Some y) h = h
both-as P Q f (Some x) None h = h
both-as P Q f (Some x) (Some y) h = f x y h

stops-as : (ended : Result ℕ ServeStop) (gate disk more : Type 0) → (disk → more) → IfErr ended (IsServeStop gate disk) → IfErr ended (IsServeStop gate more)
stops-as (Ok count) gate disk more f h = tt
stops-as (Err (stop.Unopened error)) gate disk more f h = h
stops-as (Err stop.Gate) gate disk more f h = h
stops-as (Err stop.Halted) gate disk more f h = f h

module _ {K L : Type 0} (told : K → DiskTold) (lent : K → L) (agrees : IsAgreed told) (old : K) (path : List ℕ) (held : Held K) (new : K) (opened : IsOpened told lent old path held)
    (kept : DiskKept told lent held.disk new) (port most : ℕ) (a b : GateTold) where
  has-served : (ended : Result ℕ ServeStop) → HasRun held.device (service [] port most ended) (told held.disk) (told new) (a, b) → HasServed (service path port most ended) (told old) (told new) a b
  has-served ended run =
      let o = opened.opens in
      let first = (told old).faults in
      let later : Rose (told held.disk).faults (told new).faults → Rose first (told new).faults = Rose-behind first (told held.disk).faults (told new).faults o.later in
      let open_now = open-opened (told old) (told held.disk) (told new) path held.device o kept.kept in
      let others = others-opened (told old) (told held.disk) (told new) path held.device o kept.kept in
      record {
        dev = held.device;
        opens = o.device;
        others = others;
        leaves = λ honest. served-left (told old) (told new) path held.device others.others o.device open_now (agrees new) (run.stands honest);
        serves = both-as _ _
            (served-as held.device most (run_status ended) (open_bytes (told new)) (option_and_then (λ f. f path) (told new).files) _ _ _ (image-is (told new).files (told new).open_path path open_now) later)
            a.connections b.connections run.serves;
        counted = run.counted;
        kept = run.kept;
        stops = stops-as ended _ _ _ later run.stops;
      }

  pub serves-file : (ended : Result ℕ ServeStop) → HasRun held.device (service [] port most ended) (told held.disk) (told new) (a, b) → ServesFile (service path port most ended) (told old) (told new) (a, b)
  serves-file (Ok count) run = has-served (Ok count) run
  serves-file (Err (stop.Unopened error)) run = absurd run.stops
  serves-file (Err stop.Gate) run = has-served (Err stop.Gate) run
  serves-file (Err stop.Halted) run = has-served (Err stop.Halted) run
