-- What is so of a call that serves.
use Rattle.std.proofs.Common.{◌≡◌, ◌≢◌, ◌⊎◌, inl, inr, ℕ, ◌≤◌, List, Option, Some, None, option_map, Result, Ok, Err, refl, sym, ap, subst, ◌∙◌, arith, IsTrue}
use Rattle.std.specs.Prelude.{MatchResult}
use Rattle.fb_frame.specs.Causes.{Rose}
use Rattle.fb_frame.specs.Told.{Both}
use Rattle.fb_frame.specs.Sinks.{Grew}
use Rattle.dev_disk.specs.Disks.{DiskTold}
use Rattle.dev_model.specs.declared.bad_image.BadImage.{BadImage}
use Rattle.dev_model.specs.declared.device.Dev.{Dev}
use Rattle.dev_store.specs.Laws.{StandsByParts}
use Rattle.device_jobs.specs.declared.job.JobError.{JobError}
use Rattle.device_jobs.specs.declared.job.JobError.TheVariants as job
use Rattle.device_jobs.specs.Outcomes.{Outcome, NoFile, BadDevice, Shown, show_outcome}
use Rattle.device_jobs.specs.Printed.{memory_line, disk_line, device_line}
use Rattle.device_jobs.specs.Working.{IsOutcome, IsStop, IsImageStop, Output, Ends, EndsBy, stop_status, stop_line}
use Rattle.device_jobs.proofs.OpenedLemmas.{outcome-opened}
use Rattle.device_jobs.proofs.ReportLemmas as report
use Rattle.device_session.specs.Gates.{Connections, GateTold, IsPort}
use Rattle.device_session.specs.Serving.{AcceptsCount}
use Rattle.device_words.specs.declared.request.DeviceWords.{DeviceWords}
use Rattle.device_words.specs.declared.request.DeviceWords.TheVariants.{Serve}
use Rattle.device_top.specs.declared.report.ServeStop.{ServeStop}
use Rattle.device_top.specs.declared.report.ServeStop.TheVariants as stop
use Rattle.device_top.specs.Endings.{Ending, Job, serves_as, served_line, gate_line}
use Rattle.device_top.specs.Calls.{Listening}
use Rattle.device_top.specs.Serving.{IsServed, ServesBy, serve_call}
use Rattle.device_top.specs.Working.{service, run_status, EndsServing, IsUnopened, HasServed, ServesFile, sides, IsCall}
use Rattle.device_top.proofs.OpenLemmas.{as-serving}
use Rattle.device_top.proofs.EndLemmas as ending
use Rattle.device_top.proofs.EndLemmas.{IsEnd, OwnOf}
use Rattle.device_top.proofs.CallLemmas.{none-counted, ends-apart, nothing-served}

module _ (path : List ℕ) (port most : ℕ) where
  abbrev asked : Option DeviceWords
  asked = Some (Serve path port most)

  abbrev comes : Option Outcome → Option Ending
  comes o = option_map serves_as o

  own-bad : (status : ℕ) (p q : Output) (o : Option Outcome) (bad : BadImage) → IsOutcome o (BadDevice bad) → OwnOf asked 0 status p q (comes o) 4 (device_line bad)
  own-bad status p q None bad h = inr refl
  own-bad status p q (Some told) bad h = subst (λ t. OwnOf asked 0 status p q (comes (Some t)) 4 (device_line bad)) (sym h) (refl, refl)

  own-served : (status : ℕ) (p q : Output) (o : Option Outcome) (dev : Dev) (count : ℕ) → IsOutcome o (Shown dev) → OwnOf asked count status p q (comes o) 0 (served_line count)
  own-served status p q None dev count h = inl refl
  own-served status p q (Some told) dev count h = subst (λ t. OwnOf asked count status p q (comes (Some t)) 0 (served_line count)) (sym h) (refl, refl)

  serves-by : (o : Option Outcome) (status : ℕ) (dev : Dev) (F : Dev → Connections → Connections → Type 0) (x y : Connections) → IsOutcome o (Shown dev) → F dev x y → ServesBy (comes o) status F x y
  serves-by None status dev F x y h s = inr (dev, s)
  serves-by (Some told) status dev F x y h s = subst (λ t. ServesBy (comes (Some t)) status F x y) (sym h) s

  stop-apart : (e : JobError) (status n : ℕ) (p q : Output) → EndsBy (stop_status e) (stop_line e) status p q → (stop_status e ≡ n → ⊥) → (2 ≡ n → ⊥) → (9 ≡ n → ⊥) → status ≡ n → ⊥
  stop-apart e status n p q (inl k) a b c s = ends-apart (stop_status e) status n (stop_line e) p q k a c s
  stop-apart e status n p q (inr k) a b c s = ends-apart 2 status n memory_line p q k b c s

  stop-zero : (e : JobError) → stop_status e ≡ 0 → ⊥
  stop-zero job.Memory h = absurd cc
  stop-zero job.Disk h = absurd cc
  stop-zero job.NoFile h = absurd cc
  stop-zero (job.Layout bad) h = absurd cc
  stop-zero (job.Device bad) h = absurd cc

  stop-one : (e : JobError) → stop_status e ≡ 1 → ⊥
  stop-one job.Memory h = absurd cc
  stop-one job.Disk h = absurd cc
  stop-one job.NoFile h = absurd cc
  stop-one (job.Layout bad) h = absurd cc
  stop-one (job.Device bad) h = absurd cc

  stop-six : (e : JobError) → stop_status e ≡ 6 → ⊥
  stop-six job.Memory h = absurd cc
  stop-six job.Disk h = absurd cc
  stop-six job.NoFile h = absurd cc
  stop-six (job.Layout bad) h = absurd cc
  stop-six (job.Device bad) h = absurd cc

  unopened-end : (o : Option Outcome) (rose : Type 0) (status : ℕ) (p q : Output) (e : JobError) → IsStop o rose e → IsImageStop e → EndsBy (stop_status e) (stop_line e) status p q →
      IsEnd asked (comes o) 0 status (p, q)
  unopened-end o rose status p q e s n (inr k) = ending.memory asked 0 status p q (comes o) k
  unopened-end o rose status p q job.Memory s n (inl k) = ending.memory asked 0 status p q (comes o) k
  unopened-end o rose status p q job.Disk s n (inl k) = ending.disk asked 0 status p q (comes o) (λ three. inr (inr (inl three))) k
  unopened-end o rose status p q job.NoFile s n (inl k) = ending.disk asked 0 status p q (comes o) (λ three. inr (inr (inl three))) k
  unopened-end o rose status p q (job.Layout bad) s n (inl k) = absurd n
  unopened-end o rose status p q (job.Device bad) s n (inl k) = ending.own asked 0 status p q (comes o) 4 (device_line bad) (inr (inr (inl refl))) (own-bad status p q o bad s) k

  unopened-disk : (o : Option Outcome) (rose : Type 0) (status : ℕ) (p q : Output) (e : JobError) → IsStop o rose e → EndsBy (stop_status e) (stop_line e) status p q → status ≡ 3 →
      rose ⊎ (comes o ≡ Some (Job NoFile))
  unopened-disk o rose status p q e s (inr k) three = absurd (ends-apart 2 status 3 memory_line p q k (λ x. absurd cc) (λ x. absurd cc) three)
  unopened-disk o rose status p q job.Memory s (inl k) three = absurd (ends-apart 2 status 3 memory_line p q k (λ x. absurd cc) (λ x. absurd cc) three)
  unopened-disk o rose status p q job.Disk s (inl k) three = inl s
  unopened-disk o rose status p q job.NoFile s (inl k) three = inr (ap comes s)
  unopened-disk o rose status p q (job.Layout bad) s (inl k) three = absurd (ends-apart 5 status 3 (stop_line (job.Layout bad)) p q k (λ x. absurd cc) (λ x. absurd cc) three)
  unopened-disk o rose status p q (job.Device bad) s (inl k) three = absurd (ends-apart 4 status 3 (stop_line (job.Device bad)) p q k (λ x. absurd cc) (λ x. absurd cc) three)

  module _ (law : StandsByParts) (status : ℕ) (old new : DiskTold) (p q : Output) (later : p.faults ≤ q.faults) where
    -- an image that wasn't opened
    unopened-call : (e : JobError) (a : GateTold) → IsUnopened path e old new → EndsBy (stop_status e) (stop_line e) status p q → IsCall asked status (sides old a p) (sides new a q)
    unopened-call e a u m =
        let o = show_outcome old.files path in
        let rose = Rose old.faults new.faults in
        let end = unopened-end o rose status p q e u.stops u.never m in
        let zero : status ≢ 0 = stop-apart e status 0 p q m (stop-zero e) (λ k. absurd cc) (λ k. absurd cc) in
        let one : status ≢ 1 = stop-apart e status 1 p q m (stop-one e) (λ k. absurd cc) (λ k. absurd cc) in
        record {
          decided = end.decided;
          usage = λ k. absurd (one k);
          disk = λ k. unopened-disk o rose status p q e u.stops m k;
          gate = λ k. absurd (stop-apart e status 6 p q m (stop-six e) (λ x. absurd cc) (λ x. absurd cc) k);
          output = end.output;
          printed = record { count = 0; counted = none-counted a; printed = end.printed; served = λ k. absurd (zero k) };
          done = λ k. tt;
          leaves = λ honest. as-serving law old.files new.files path (u.left honest);
          others = u.others;
          untouched = λ k. early-files e u m one k;
          serves = nothing-served law most status path old.files new.files _ _ a.connections zero u.left;
          memory = λ k. refl;
          kept = record { later = omega arith; no_fewer = omega arith; at_port = inr (zero, refl) };
          said = later;
        }
      where
        early-files : (e : JobError) → IsUnopened path e old new → EndsBy (stop_status e) (stop_line e) status p q → status ≢ 1 → (status ≡ 1) ⊎ (status ≡ 4) ⊎ (status ≡ 5) → new.files ≡ old.files
        early-files e u m one (inl k) = absurd (one k)
        early-files e u m one (inr k) =
            report.early (Rose old.faults new.faults) status p q (λ (t : List ℕ). t) (new.files ≡ old.files) (Err e) u.early m k

    -- the two statuses of a serving whose device was opened
    abbrev Status : ℕ → Type 0
    Status wanted = (status ≡ wanted) ⊎ (status ≡ 9)

    ends-status : (wanted : ℕ) (lines : List ℕ) → Ends wanted lines status p q → Status wanted
    ends-status wanted lines (inl k) = inl k.0
    ends-status wanted lines (inr k) = inr k.0

    no-nine : (n : ℕ) → (9 ≡ n → ⊥) → (wanted : ℕ) → Status wanted → status ≡ n → wanted ≡ n
    no-nine n d wanted (inl e) k = sym e ∙ k
    no-nine n d wanted (inr e) k = absurd (d (sym e ∙ k))

    served-status : (dev : Dev) (wanted : ℕ) (broke honest : Type 0) (x y : Connections) → Status wanted → IsServed (serve_call dev most wanted new.files path) broke honest x y →
        IsServed (serve_call dev most status new.files path) broke honest x y
    served-status dev wanted broke honest x y s h = record {
      served = h.served;
      left = h.left;
      accepted_now = h.accepted_now;
      coming = h.coming;
      few = h.few;
      leads = h.leads;
      stands = h.stands;
      done = λ e. h.done (no-nine 0 (λ k. absurd cc) wanted s e);
      halted = λ e. is-halted s (h.halted e);
      faulted = λ e. h.faulted (no-nine 3 (λ k. absurd cc) wanted s e);
    } where
      is-halted : Status wanted → (wanted ≡ 3) ⊎ (wanted ≡ 9) → (status ≡ 3) ⊎ (status ≡ 9)
      is-halted (inr e) w = inr e
      is-halted (inl e) (inl w) = inl (e ∙ w)
      is-halted (inl e) (inr w) = inr (e ∙ w)

    serves-both : (dev : Dev) (wanted : ℕ) (broke honest : Type 0) (x y : Option Connections) → IsOutcome (show_outcome old.files path) (Shown dev) → Status wanted →
        Both (IsServed (serve_call dev most wanted new.files path) broke honest) x y →
        Both (ServesBy (comes (show_outcome old.files path)) status (λ dev. IsServed (serve_call dev most status new.files path) broke honest)) x y
    serves-both dev wanted broke honest None None o s h = tt
    serves-both dev wanted broke honest None (Some y) o s h = h
    serves-both dev wanted broke honest (Some x) None o s h = h
    serves-both dev wanted broke honest (Some x) (Some y) o s h =
        serves-by (show_outcome old.files path) status dev (λ dev. IsServed (serve_call dev most status new.files path) broke honest) x y o (served-status dev wanted broke honest x y s h)

    listening : (wanted : ℕ) (a b : GateTold) → Status wanted → Listening port wanted a b → Listening port status a b
    listening wanted a b s h = record { later = h.later; no_fewer = h.no_fewer; at_port = still h.at_port } where
      still : (IsTrue b.listening × IsPort b.port port) ⊎ ((wanted ≢ 0) × (b.connections ≡ a.connections)) → (IsTrue b.listening × IsPort b.port port) ⊎ ((status ≢ 0) × (b.connections ≡ a.connections))
      still (inl k) = inl k
      still (inr k) = inr ((λ z. k.0 (no-nine 0 (λ x. absurd cc) wanted s z)), k.1)

    -- A serving of a device that was opened.
    run-call : (ended : Result ℕ ServeStop) (count : ℕ) (a b : GateTold) → HasServed (service path port most ended) old new a b → AcceptsCount count a b → Status (run_status ended) →
        IsEnd asked (comes (show_outcome old.files path)) count status (p, q) → (status ≡ 3 → Rose old.faults new.faults) → (status ≡ 6 → Rose a.unaccepted b.unaccepted) →
        (status ≡ 0 → Grew p.text q.text (served_line count)) → ((n : ℕ) → (n ≡ 1) ⊎ (n ≡ 2) ⊎ (n ≡ 4) ⊎ (n ≡ 5) → status ≡ n → ⊥) → IsCall asked status (sides old a p) (sides new b q)
    run-call ended count a b h counted s end disk gate line apart = record {
      decided = end.decided;
      usage = λ k. absurd (apart 1 (inl refl) k);
      disk = λ k. inl (disk k);
      gate = gate;
      output = end.output;
      printed = record { count = count; counted = counted; printed = end.printed; served = line };
      done = λ k. tt;
      leaves = h.leaves;
      others = h.others;
      untouched = λ k. absurd (other k);
      serves = serves-both h.dev (run_status ended) _ _ a.connections b.connections (outcome-opened Shown old.files path h.dev h.opens) s h.serves;
      memory = λ k. absurd (apart 2 (inr (inl refl)) k);
      kept = listening (run_status ended) a b s h.kept;
      said = later;
    } where
      other : (status ≡ 1) ⊎ (status ≡ 4) ⊎ (status ≡ 5) → ⊥
      other (inl k) = apart 1 (inl refl) k
      other (inr (inl k)) = apart 4 (inr (inr (inl refl))) k
      other (inr (inr k)) = apart 5 (inr (inr (inr refl))) k

    run-apart : (wanted : ℕ) → (wanted ≡ 0) ⊎ (wanted ≡ 3) ⊎ (wanted ≡ 6) → Status wanted → (n : ℕ) → (n ≡ 1) ⊎ (n ≡ 2) ⊎ (n ≡ 4) ⊎ (n ≡ 5) → status ≡ n → ⊥
    run-apart wanted w s n k e = meets wanted w (no-nine n (nine n k) wanted s e) n k where
      nine : (n : ℕ) → (n ≡ 1) ⊎ (n ≡ 2) ⊎ (n ≡ 4) ⊎ (n ≡ 5) → 9 ≡ n → ⊥
      nine n (inl k) e = absurd cc
      nine n (inr (inl k)) e = absurd cc
      nine n (inr (inr (inl k))) e = absurd cc
      nine n (inr (inr (inr k))) e = absurd cc

      meets : (wanted : ℕ) → (wanted ≡ 0) ⊎ (wanted ≡ 3) ⊎ (wanted ≡ 6) → wanted ≡ n → (m : ℕ) → (n ≡ 1) ⊎ (n ≡ 2) ⊎ (n ≡ 4) ⊎ (n ≡ 5) → ⊥
      meets wanted (inl a) e m (inl k) = absurd cc
      meets wanted (inl a) e m (inr (inl k)) = absurd cc
      meets wanted (inl a) e m (inr (inr (inl k))) = absurd cc
      meets wanted (inl a) e m (inr (inr (inr k))) = absurd cc
      meets wanted (inr (inl a)) e m (inl k) = absurd cc
      meets wanted (inr (inl a)) e m (inr (inl k)) = absurd cc
      meets wanted (inr (inl a)) e m (inr (inr (inl k))) = absurd cc
      meets wanted (inr (inl a)) e m (inr (inr (inr k))) = absurd cc
      meets wanted (inr (inr a)) e m (inl k) = absurd cc
      meets wanted (inr (inr a)) e m (inr (inl k)) = absurd cc
      meets wanted (inr (inr a)) e m (inr (inr (inl k))) = absurd cc
      meets wanted (inr (inr a)) e m (inr (inr (inr k))) = absurd cc

    printed-line : (count : ℕ) → Ends 0 (served_line count) status p q → status ≡ 0 → Grew p.text q.text (served_line count)
    printed-line count (inl k) z = k.1
    printed-line count (inr k) z = let nine = k.0 in absurd cc

    pub serve-call : (ended : Result ℕ ServeStop) (a b : GateTold) → ServesFile (service path port most ended) old new (a, b) → EndsServing ended status p q → IsCall asked status (sides old a p) (sides new b q)
    serve-call (Ok count) a b h m =
        let o = outcome-opened Shown old.files path h.dev h.opens in
        let s = ends-status 0 (served_line count) m in
        run-call (Ok count) count a b h h.counted s (ending.own asked count status p q (comes (show_outcome old.files path)) 0 (served_line count) (inl refl) (own-served status p q (show_outcome old.files path) h.dev count o) m)
        (λ k. let z : 0 ≡ 3 = no-nine 3 (λ x. absurd cc) 0 s k in absurd cc) (λ k. let z : 0 ≡ 6 = no-nine 6 (λ x. absurd cc) 0 s k in absurd cc) (printed-line count m) (run-apart 0 (inl refl) s)
    serve-call (Err (stop.Unopened error)) a b h m =
        subst (λ g. IsCall asked status (sides old a p) (sides new g q)) (sym h.1) (unopened-call error a h.0 m)
    serve-call (Err stop.Gate) a b h m =
        let s = ends-status 6 gate_line m in
        run-call (Err stop.Gate) h.counted.0 a b h h.counted.1 s (ending.gate asked h.counted.0 status p q (comes (show_outcome old.files path)) (λ six. inl six) m)
        (λ k. let z : 6 ≡ 3 = no-nine 3 (λ x. absurd cc) 6 s k in absurd cc) (λ k. h.stops) (λ k. let z : 6 ≡ 0 = no-nine 0 (λ x. absurd cc) 6 s k in absurd cc) (run-apart 6 (inr (inr refl)) s)
    serve-call (Err stop.Halted) a b h m =
        let s = ends-status 3 disk_line m in
        run-call (Err stop.Halted) h.counted.0 a b h h.counted.1 s (ending.disk asked h.counted.0 status p q (comes (show_outcome old.files path)) (λ three. inr (inr (inl three))) m)
        (λ k. h.stops) (λ k. let z : 3 ≡ 6 = no-nine 6 (λ x. absurd cc) 3 s k in absurd cc) (λ k. let z : 3 ≡ 0 = no-nine 0 (λ x. absurd cc) 3 s k in absurd cc) (run-apart 3 (inr (inl refl)) s)
