-- The end of a job, by what the job came to.
use Rattle.std.proofs.Common.{◌≡◌, ◌≢◌, ◌⊎◌, inl, inr, refl, sym, ap, ◌∙◌, subst, ℕ, List, Option, Some, None, Result, Ok, Err, arith}
use Rattle.std.specs.Prelude.{OnOk, IfOk, IfErr, MatchResult}
use Rattle.fb_frame.specs.Causes.{Rose}
use Rattle.fb_frame.specs.Sinks.{Grew, GrewPart}
use Rattle.device_jobs.specs.declared.job.JobError.{JobError}
use Rattle.device_jobs.specs.declared.job.JobError.TheVariants as job
use Rattle.device_jobs.specs.Outcomes.{Outcome, BadLayout, BadDevice, status_of}
use Rattle.device_jobs.specs.Printed.{text_of, memory_line, disk_line}
use Rattle.device_jobs.specs.Jobs.{IsDecided, IsDiskEnd, IsCutShort, IsReported}
use Rattle.device_jobs.specs.Working.{IsOutcome, IsStop, IsText, IsEarly, IsMakeStop, IsImageStop}
use Rattle.device_jobs.specs.Working.{stop_status, stop_line, Output, Ends, EndsBy}

-- what the public call says of its status and its text
pub record IsEnd (o : Option Outcome) (rose : Type 0) (status : ℕ) (old new : Output) : Type 0 where
  pub decided : IsDecided o status
  pub disk : status ≡ 3 → IsDiskEnd o rose
  pub output : status ≡ 9 → Rose old.faults new.faults
  pub reported : IsReported o status old.text new.text

-- a status that an outcome alone has
abbrev IsOwn : ℕ → Type 0
IsOwn wanted = (wanted ≡ 0) ⊎ (wanted ≡ 4) ⊎ (wanted ≡ 5)

-- the lines and the status are those of the outcome, where it is told
abbrev OwnOf : Option Outcome → ℕ → List ℕ → Type 0
OwnOf None wanted lines = Unit {0}
OwnOf (Some outcome) wanted lines = (status_of outcome ≡ wanted) × (text_of outcome ≡ lines)

own-is : (wanted other status : ℕ) → IsOwn wanted → status ≡ wanted → status ≡ other → (other ≡ 2) ⊎ (other ≡ 3) ⊎ (other ≡ 9) → ⊥
own-is wanted other status (inl a) e f (inl b) = absurd (omega (arith, a, e, f, b))
own-is wanted other status (inl a) e f (inr (inl b)) = absurd (omega (arith, a, e, f, b))
own-is wanted other status (inl a) e f (inr (inr b)) = absurd (omega (arith, a, e, f, b))
own-is wanted other status (inr (inl a)) e f (inl b) = absurd (omega (arith, a, e, f, b))
own-is wanted other status (inr (inl a)) e f (inr (inl b)) = absurd (omega (arith, a, e, f, b))
own-is wanted other status (inr (inl a)) e f (inr (inr b)) = absurd (omega (arith, a, e, f, b))
own-is wanted other status (inr (inr a)) e f (inl b) = absurd (omega (arith, a, e, f, b))
own-is wanted other status (inr (inr a)) e f (inr (inl b)) = absurd (omega (arith, a, e, f, b))
own-is wanted other status (inr (inr a)) e f (inr (inr b)) = absurd (omega (arith, a, e, f, b))

two-three : (status : ℕ) → status ≡ 2 → status ≡ 3 → ⊥
two-three status e f = absurd (omega (arith, e, f))

two-nine : (status : ℕ) → status ≡ 2 → status ≡ 9 → ⊥
two-nine status e f = absurd (omega (arith, e, f))

three-nine : (status : ℕ) → status ≡ 3 → status ≡ 9 → ⊥
three-nine status e f = absurd (omega (arith, e, f))

own-decided : (wanted status : ℕ) → IsOwn wanted → status ≡ wanted → IsDecided None status
own-decided wanted status (inl a) e = inl (e ∙ a)
own-decided wanted status (inr (inl a)) e = inr (inl (e ∙ a))
own-decided wanted status (inr (inr a)) e = inr (inr (inl (e ∙ a)))

module _ (rose : Type 0) (status : ℕ) (old new : Output) where
  -- the output failed
  cut : (o : Option Outcome) (lines : List ℕ) → ((outcome : Outcome) → o ≡ Some outcome → IsCutShort (text_of outcome) old.text new.text) → status ≡ 9 → Rose old.faults new.faults → IsEnd o rose status old new
  cut None lines short e r = record {
    decided = inr (inr (inr (inr (inr e))));
    disk = λ three. absurd (three-nine status three e);
    output = λ _. r;
    reported = ((λ two. absurd (two-nine status two e)), (λ three. absurd (three-nine status three e)));
  }
  cut (Some outcome) lines short e r = record {
    decided = inr (inr (inr e));
    disk = λ three. absurd (three-nine status three e);
    output = λ _. r;
    reported = inr (inr (inr (e, short outcome refl)));
  }

  own-short : (o : Option Outcome) (wanted : ℕ) (lines : List ℕ) → OwnOf o wanted lines → GrewPart old.text new.text lines → (outcome : Outcome) → o ≡ Some outcome → IsCutShort (text_of outcome) old.text new.text
  own-short None wanted lines own p outcome e = absurd cc
  own-short (Some told) wanted lines own p outcome e =
      let same : told ≡ outcome = cc in
      inl (subst (λ t. GrewPart old.text new.text t) (sym own.1 ∙ ap text_of same) p)

  -- the outcome's own end
  own : (o : Option Outcome) (wanted : ℕ) (lines : List ℕ) → IsOwn wanted → OwnOf o wanted lines → Ends wanted lines status old new → IsEnd o rose status old new
  own o wanted lines w h (inr n) = cut o lines (own-short o wanted lines h n.2) n.0 n.1
  own None wanted lines w h (inl e) = record {
    decided = own-decided wanted status w e.0;
    disk = λ three. absurd (own-is wanted 3 status w e.0 three (inr (inl refl)));
    output = λ nine. absurd (own-is wanted 9 status w e.0 nine (inr (inr refl)));
    reported = ((λ two. absurd (own-is wanted 2 status w e.0 two (inl refl))), (λ three. absurd (own-is wanted 3 status w e.0 three (inr (inl refl)))));
  }
  own (Some outcome) wanted lines w h (inl e) = record {
    decided = inl (e.0 ∙ sym h.0);
    disk = λ three. absurd (own-is wanted 3 status w e.0 three (inr (inl refl)));
    output = λ nine. absurd (own-is wanted 9 status w e.0 nine (inr (inr refl)));
    reported = inl ((e.0 ∙ sym h.0), subst (λ t. Grew old.text new.text t) (sym h.1) e.1);
  }

  -- want of memory
  memory : (o : Option Outcome) → Ends 2 memory_line status old new → IsEnd o rose status old new
  memory o (inr n) = cut o memory_line (λ outcome e. inr (inl n.2)) n.0 n.1
  memory None (inl e) = record {
    decided = inr (inr (inr (inl e.0)));
    disk = λ three. absurd (two-three status e.0 three);
    output = λ nine. absurd (two-nine status e.0 nine);
    reported = ((λ _. e.1), (λ three. absurd (two-three status e.0 three)));
  }
  memory (Some outcome) (inl e) = record {
    decided = inr (inl e.0);
    disk = λ three. absurd (two-three status e.0 three);
    output = λ nine. absurd (two-nine status e.0 nine);
    reported = inr (inl (e.0, e.1));
  }

  -- a failed disk, or no such file
  disk : (o : Option Outcome) → IsDiskEnd o rose → Ends 3 disk_line status old new → IsEnd o rose status old new
  disk o why (inr n) = cut o disk_line (λ outcome e. inr (inr n.2)) n.0 n.1
  disk None why (inl e) = record {
    decided = inr (inr (inr (inr (inl e.0))));
    disk = λ _. why;
    output = λ nine. absurd (three-nine status e.0 nine);
    reported = ((λ two. absurd (two-three status two e.0)), (λ _. e.1));
  }
  disk (Some outcome) why (inl e) = record {
    decided = inr (inr (inl e.0));
    disk = λ _. why;
    output = λ nine. absurd (three-nine status e.0 nine);
    reported = inr (inr (inl (e.0, e.1)));
  }

  by-outcome : (o : Option Outcome) (outcome : Outcome) → IsOutcome o outcome → OwnOf o (status_of outcome) (text_of outcome)
  by-outcome None outcome h = tt
  by-outcome (Some told) outcome h = (ap status_of h, ap text_of h)

  of-text : (o : Option Outcome) (text : List ℕ) → IsText o text → OwnOf o 0 text
  of-text None text h = tt
  of-text (Some outcome) text h = h

  stopped : (o : Option Outcome) (e : JobError) → IsStop o rose e → EndsBy (stop_status e) (stop_line e) status old new → IsEnd o rose status old new
  stopped o e h (inr m) = memory o m
  stopped o job.Memory h (inl k) = memory o k
  stopped o job.Disk h (inl k) = disk o (inl h) k
  stopped o job.NoFile h (inl k) = disk o (inr h) k
  stopped o (job.Layout bad) h (inl k) = own o 5 (stop_line (job.Layout bad)) (inr (inr refl)) (by-outcome o (BadLayout bad) h) k
  stopped o (job.Device bad) h (inl k) = own o 4 (stop_line (job.Device bad)) (inr (inl refl)) (by-outcome o (BadDevice bad) h) k

  -- a job's end
  pub ends : {T : Type 0} (items : T → List ℕ) (o : Option Outcome) (job : Result T JobError) → IfOk job (λ text. IsText o (items text)) → IfErr job (IsStop o rose) →
      MatchResult job (λ text. Ends 0 (items text) status old new) (λ e. EndsBy (stop_status e) (stop_line e) status old new) → IsEnd o rose status old new
  ends items o (Ok text) h k m = own o 0 (items text) (inl refl) (of-text o (items text) h) m
  ends items o (Err e) h k m = stopped o e k m

  not-zero : (e : JobError) → status ≡ 0 → status ≡ stop_status e → ⊥
  not-zero job.Memory z e = absurd (omega (arith, z, e))
  not-zero job.Disk z e = absurd (omega (arith, z, e))
  not-zero job.NoFile z e = absurd (omega (arith, z, e))
  not-zero (job.Layout bad) z e = absurd (omega (arith, z, e))
  not-zero (job.Device bad) z e = absurd (omega (arith, z, e))

  -- 0 comes with a job that was done
  pub done : {T : Type 0} (items : T → List ℕ) (D : Type 0) (job : Result T JobError) → OnOk job D →
      MatchResult job (λ text. Ends 0 (items text) status old new) (λ e. EndsBy (stop_status e) (stop_line e) status old new) → status ≡ 0 → D
  done items D (Ok text) h m z = h
  done items D (Err e) h (inl (inl k)) z = absurd (not-zero e z k.0)
  done items D (Err e) h (inl (inr k)) z = let f = k.0 in absurd (omega (arith, z, f))
  done items D (Err e) h (inr (inl k)) z = let f = k.0 in absurd (omega (arith, z, f))
  done items D (Err e) h (inr (inr k)) z = let f = k.0 in absurd (omega (arith, z, f))

  by-early : (e : JobError) (D : Type 0) → (IsEarly e → D) → (status ≡ 4) ⊎ (status ≡ 5) → status ≡ stop_status e → D
  by-early job.Memory D h (inl z) k = absurd (omega (arith, z, k))
  by-early job.Memory D h (inr z) k = absurd (omega (arith, z, k))
  by-early job.Disk D h (inl z) k = absurd (omega (arith, z, k))
  by-early job.Disk D h (inr z) k = absurd (omega (arith, z, k))
  by-early job.NoFile D h z k = h tt
  by-early (job.Layout bad) D h z k = h tt
  by-early (job.Device bad) D h z k = h tt

  far : (n : ℕ) → status ≡ n → (status ≡ 4) ⊎ (status ≡ 5) → (n ≡ 0) ⊎ (n ≡ 2) ⊎ (n ≡ 9) → ⊥
  far n e (inl z) (inl k) = absurd (omega (arith, e, z, k))
  far n e (inl z) (inr (inl k)) = absurd (omega (arith, e, z, k))
  far n e (inl z) (inr (inr k)) = absurd (omega (arith, e, z, k))
  far n e (inr z) (inl k) = absurd (omega (arith, e, z, k))
  far n e (inr z) (inr (inl k)) = absurd (omega (arith, e, z, k))
  far n e (inr z) (inr (inr k)) = absurd (omega (arith, e, z, k))

  -- 4 and 5 come with a job that wrote nothing
  pub early : {T : Type 0} (items : T → List ℕ) (D : Type 0) (job : Result T JobError) → IfErr job (λ e. IsEarly e → D) →
      MatchResult job (λ text. Ends 0 (items text) status old new) (λ e. EndsBy (stop_status e) (stop_line e) status old new) → (status ≡ 4) ⊎ (status ≡ 5) → D
  early items D (Ok text) h (inl k) z = absurd (far 0 k.0 z (inl refl))
  early items D (Ok text) h (inr k) z = absurd (far 9 k.0 z (inr (inr refl)))
  early items D (Err e) h (inl (inl k)) z = by-early e D h z k.0
  early items D (Err e) h (inl (inr k)) z = absurd (far 9 k.0 z (inr (inr refl)))
  early items D (Err e) h (inr (inl k)) z = absurd (far 2 k.0 z (inr (inl refl)))
  early items D (Err e) h (inr (inr k)) z = absurd (far 9 k.0 z (inr (inr refl)))

  make-stop : (e : JobError) → IsMakeStop e → status ≡ stop_status e → status ≡ 4 → ⊥
  make-stop job.Memory h k z = absurd (omega (arith, z, k))
  make-stop job.Disk h k z = absurd (omega (arith, z, k))
  make-stop job.NoFile h k z = absurd (omega (arith, z, k))
  make-stop (job.Layout bad) h k z = absurd (omega (arith, z, k))
  make-stop (job.Device bad) h k z = absurd h

  -- a job that makes an image never ends with 4
  pub made-never : {T : Type 0} (items : T → List ℕ) (job : Result T JobError) → IfErr job IsMakeStop →
      MatchResult job (λ text. Ends 0 (items text) status old new) (λ e. EndsBy (stop_status e) (stop_line e) status old new) → status ≢ 4
  made-never items (Ok text) h (inl k) z = far 0 k.0 (inl z) (inl refl)
  made-never items (Ok text) h (inr k) z = far 9 k.0 (inl z) (inr (inr refl))
  made-never items (Err e) h (inl (inl k)) z = make-stop e h k.0 z
  made-never items (Err e) h (inl (inr k)) z = far 9 k.0 (inl z) (inr (inr refl))
  made-never items (Err e) h (inr (inl k)) z = far 2 k.0 (inl z) (inr (inl refl))
  made-never items (Err e) h (inr (inr k)) z = far 9 k.0 (inl z) (inr (inr refl))

  image-stop : (e : JobError) → IsImageStop e → status ≡ stop_status e → status ≡ 5 → ⊥
  image-stop job.Memory h k z = absurd (omega (arith, z, k))
  image-stop job.Disk h k z = absurd (omega (arith, z, k))
  image-stop job.NoFile h k z = absurd (omega (arith, z, k))
  image-stop (job.Layout bad) h k z = absurd h
  image-stop (job.Device bad) h k z = absurd (omega (arith, z, k))

  -- and one on an image never with 5
  pub image-never : {T : Type 0} (items : T → List ℕ) (job : Result T JobError) → IfErr job IsImageStop →
      MatchResult job (λ text. Ends 0 (items text) status old new) (λ e. EndsBy (stop_status e) (stop_line e) status old new) → status ≢ 5
  image-never items (Ok text) h (inl k) z = far 0 k.0 (inr z) (inl refl)
  image-never items (Ok text) h (inr k) z = far 9 k.0 (inr z) (inr (inr refl))
  image-never items (Err e) h (inl (inl k)) z = image-stop e h k.0 z
  image-never items (Err e) h (inl (inr k)) z = far 9 k.0 (inr z) (inr (inr refl))
  image-never items (Err e) h (inr (inl k)) z = far 2 k.0 (inr z) (inr (inl refl))
  image-never items (Err e) h (inr (inr k)) z = far 9 k.0 (inr z) (inr (inr refl))
