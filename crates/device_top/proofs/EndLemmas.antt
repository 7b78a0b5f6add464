-- The status of a call, and what it prints.
use Rattle.std.proofs.Common.{◌≡◌, ◌≢◌, ◌⊎◌, inl, inr, ℕ, List, Option, Some, None, option_map, Result, Ok, Err, refl, sym, ap, subst, ◌∙◌, arith}
use Rattle.fb_frame.specs.Causes.{Rose}
use Rattle.fb_frame.specs.Sinks.{Grew, GrewPart}
use Rattle.device_jobs.specs.Outcomes as out
use Rattle.device_jobs.specs.Outcomes.{Outcome, status_of}
use Rattle.device_jobs.specs.Printed.{text_of, memory_line, disk_line}
use Rattle.device_jobs.specs.Jobs as jobs
use Rattle.device_jobs.specs.Working.{Output, Ends}
use Rattle.device_words.specs.declared.request.DeviceWords.{DeviceWords}
use Rattle.device_words.specs.declared.request.DeviceWords.TheVariants.{Make, Show, Unlock, Serve}
use Rattle.device_top.specs.Endings.{Ending, Job, ending_status, ending_text, gate_line}
use Rattle.device_top.specs.Reports.{IsOutside, refusal_status, DecidedBy, IsCutShort, PrintsFault, FaultLine, PrintsBy}

-- what a call says of its status and its text
pub record IsEnd (asked : Option DeviceWords) (e : Option Ending) (count status : ℕ) (sides : Output × Output) : Type 0 where
  pub decided : DecidedBy e asked status
  pub output : status ≡ 9 → Rose sides.0.faults sides.1.faults
  pub printed : PrintsBy e count status sides.0.text sides.1.text

pub outside-two : (asked : Option DeviceWords) (status : ℕ) → status ≡ 2 → IsOutside asked status
outside-two None status e = inl e
outside-two (Some (Make layout file unlocked)) status e = inl e
outside-two (Some (Show file)) status e = inl e
outside-two (Some (Unlock file)) status e = inl e
outside-two (Some (Serve file port connections)) status e = inr (inl e)

pub outside-nine : (asked : Option DeviceWords) (status : ℕ) → status ≡ 9 → IsOutside asked status
outside-nine None status e = inr e
outside-nine (Some (Make layout file unlocked)) status e = inr (inr e)
outside-nine (Some (Show file)) status e = inr (inr e)
outside-nine (Some (Unlock file)) status e = inr (inr e)
outside-nine (Some (Serve file port connections)) status e = inr (inr (inr e))

decided-outside : (e : Option Ending) (asked : Option DeviceWords) (status : ℕ) → IsOutside asked status → DecidedBy e asked status
decided-outside None asked status o = inr (inr o)
decided-outside (Some ending) asked status o = inr o

-- a status that no fault has
abbrev pub IsOwn : ℕ → Type 0
IsOwn wanted = (wanted ≡ 0) ⊎ (wanted ≡ 1) ⊎ (wanted ≡ 4) ⊎ (wanted ≡ 5)

own-other : (wanted status n : ℕ) → IsOwn wanted → status ≡ wanted → status ≡ n → (n ≡ 2) ⊎ (n ≡ 3) ⊎ (n ≡ 6) ⊎ (n ≡ 9) → ⊥
own-other wanted status n (inl o) e f (inl k) = absurd cc
own-other wanted status n (inl o) e f (inr (inl k)) = absurd cc
own-other wanted status n (inl o) e f (inr (inr (inl k))) = absurd cc
own-other wanted status n (inl o) e f (inr (inr (inr k))) = absurd cc
own-other wanted status n (inr (inl o)) e f (inl k) = absurd cc
own-other wanted status n (inr (inl o)) e f (inr (inl k)) = absurd cc
own-other wanted status n (inr (inl o)) e f (inr (inr (inl k))) = absurd cc
own-other wanted status n (inr (inl o)) e f (inr (inr (inr k))) = absurd cc
own-other wanted status n (inr (inr (inl o))) e f (inl k) = absurd cc
own-other wanted status n (inr (inr (inl o))) e f (inr (inl k)) = absurd cc
own-other wanted status n (inr (inr (inl o))) e f (inr (inr (inl k))) = absurd cc
own-other wanted status n (inr (inr (inl o))) e f (inr (inr (inr k))) = absurd cc
own-other wanted status n (inr (inr (inr o))) e f (inl k) = absurd cc
own-other wanted status n (inr (inr (inr o))) e f (inr (inl k)) = absurd cc
own-other wanted status n (inr (inr (inr o))) e f (inr (inr (inl k))) = absurd cc
own-other wanted status n (inr (inr (inr o))) e f (inr (inr (inr k))) = absurd cc

apart : (status m n : ℕ) → (m ≡ n → ⊥) → status ≡ m → status ≡ n → ⊥
apart status m n d e f = d (sym e ∙ f)

module _ (asked : Option DeviceWords) (count status : ℕ) (p q : Output) where
  -- the output failed
  nine : (e : Option Ending) → ((ending : Ending) → IsCutShort (ending_text count ending) p.text q.text) → status ≡ 9 → Rose p.faults q.faults → IsEnd asked e count status (p, q)
  nine None short n r = record {
    decided = inr (inr (outside-nine asked status n));
    output = λ _. r;
    printed = (((λ two. absurd (apart status 9 2 (λ k. absurd cc) n two)), (λ three. absurd (apart status 9 3 (λ k. absurd cc) n three))), (λ six. absurd (apart status 9 6 (λ k. absurd cc) n six)));
  }
  nine (Some ending) short n r = record { decided = inr (outside-nine asked status n); output = λ _. r; printed = inr (inr (n, short ending)) }

  -- the lines and the status are those of the ending, where it is told
  abbrev pub OwnOf : Option Ending → ℕ → List ℕ → Type 0
  OwnOf None wanted lines = (wanted ≡ 0) ⊎ (wanted ≡ refusal_status asked)
  OwnOf (Some ending) wanted lines = (ending_status ending ≡ wanted) × (ending_text count ending ≡ lines)

  own-short : (e : Option Ending) (wanted : ℕ) (lines : List ℕ) → OwnOf e wanted lines → GrewPart p.text q.text lines → (ending : Ending) → e ≡ Some ending →
      IsCutShort (ending_text count ending) p.text q.text
  own-short None wanted lines own g ending e = absurd cc
  own-short (Some told) wanted lines own g ending e =
      let same : told ≡ ending = cc in
      inl (inl (subst (λ t. GrewPart p.text q.text t) (sym own.1 ∙ ap (ending_text count) same) g))

  own-decided : (wanted : ℕ) → status ≡ wanted → (wanted ≡ 0) ⊎ (wanted ≡ refusal_status asked) → DecidedBy None asked status
  own-decided wanted e (inl z) = inl (e ∙ z)
  own-decided wanted e (inr z) = inr (inl (e ∙ z))

  -- the ending's own status and lines
  pub own : (e : Option Ending) (wanted : ℕ) (lines : List ℕ) → IsOwn wanted → OwnOf e wanted lines → Ends wanted lines status p q → IsEnd asked e count status (p, q)
  own None wanted lines w h (inl k) = record {
    decided = own-decided wanted k.0 h;
    output = λ n. absurd (own-other wanted status 9 w k.0 n (inr (inr (inr refl))));
    printed = (
      ((λ n. absurd (own-other wanted status 2 w k.0 n (inl refl))), (λ n. absurd (own-other wanted status 3 w k.0 n (inr (inl refl))))),
      (λ n. absurd (own-other wanted status 6 w k.0 n (inr (inr (inl refl))))),
    );
  }
  own None wanted lines w h (inr n) = record {
    decided = inr (inr (outside-nine asked status n.0));
    output = λ _. n.1;
    printed = (((λ two. absurd (apart status 9 2 (λ k. absurd cc) n.0 two)), (λ three. absurd (apart status 9 3 (λ k. absurd cc) n.0 three))), (λ six. absurd (apart status 9 6 (λ k. absurd cc) n.0 six)));
  }
  own (Some ending) wanted lines w h (inl k) = record {
    decided = inl (k.0 ∙ sym h.0);
    output = λ n. absurd (own-other wanted status 9 w k.0 n (inr (inr (inr refl))));
    printed = inl (k.0 ∙ sym h.0, subst (λ t. Grew p.text q.text t) (sym h.1) k.1);
  }
  own (Some ending) wanted lines w h (inr n) = record {
    decided = inr (outside-nine asked status n.0);
    output = λ _. n.1;
    printed = inr (inr (n.0, own-short (Some ending) wanted lines h n.2 ending refl));
  }

  -- want of memory
  pub memory : (e : Option Ending) → Ends 2 memory_line status p q → IsEnd asked e count status (p, q)
  memory e (inr n) = nine e (λ ending. inl (inr (inl n.2))) n.0 n.1
  memory None (inl k) = record {
    decided = inr (inr (outside-two asked status k.0));
    output = λ n. absurd (apart status 2 9 (λ x. absurd cc) k.0 n);
    printed = (((λ _. k.1), (λ n. absurd (apart status 2 3 (λ x. absurd cc) k.0 n))), (λ n. absurd (apart status 2 6 (λ x. absurd cc) k.0 n)));
  }
  memory (Some ending) (inl k) = record {
    decided = inr (outside-two asked status k.0);
    output = λ n. absurd (apart status 2 9 (λ x. absurd cc) k.0 n);
    printed = inr (inl (inl (k.0, k.1)));
  }

  -- a failed disk, or no such file
  pub disk : (e : Option Ending) → (status ≡ 3 → IsOutside asked status) → Ends 3 disk_line status p q → IsEnd asked e count status (p, q)
  disk e o (inr n) = nine e (λ ending. inl (inr (inr n.2))) n.0 n.1
  disk None o (inl k) = record {
    decided = inr (inr (o k.0));
    output = λ n. absurd (apart status 3 9 (λ x. absurd cc) k.0 n);
    printed = (((λ n. absurd (apart status 3 2 (λ x. absurd cc) k.0 n)), (λ _. k.1)), (λ n. absurd (apart status 3 6 (λ x. absurd cc) k.0 n)));
  }
  disk (Some ending) o (inl k) = record {
    decided = inr (o k.0);
    output = λ n. absurd (apart status 3 9 (λ x. absurd cc) k.0 n);
    printed = inr (inl (inr (inl (k.0, k.1))));
  }

  -- a failed gate
  pub gate : (e : Option Ending) → (status ≡ 6 → IsOutside asked status) → Ends 6 gate_line status p q → IsEnd asked e count status (p, q)
  gate e o (inr n) = nine e (λ ending. inr n.2) n.0 n.1
  gate None o (inl k) = record {
    decided = inr (inr (o k.0));
    output = λ n. absurd (apart status 6 9 (λ x. absurd cc) k.0 n);
    printed = (((λ n. absurd (apart status 6 2 (λ x. absurd cc) k.0 n)), (λ n. absurd (apart status 6 3 (λ x. absurd cc) k.0 n))), (λ _. k.1));
  }
  gate (Some ending) o (inl k) = record {
    decided = inr (o k.0);
    output = λ n. absurd (apart status 6 9 (λ x. absurd cc) k.0 n);
    printed = inr (inl (inr (inr (k.0, k.1))));
  }

-- a job's statuses
outcome-apart : (outcome : Outcome) (status n : ℕ) → status ≡ status_of outcome → status ≡ n → (n ≡ 1) ⊎ (n ≡ 6) → ⊥
outcome-apart out.NoFile status n e f (inl k) = absurd cc
outcome-apart out.NoFile status n e f (inr k) = absurd cc
outcome-apart (out.BadLayout bad) status n e f (inl k) = absurd cc
outcome-apart (out.BadLayout bad) status n e f (inr k) = absurd cc
outcome-apart (out.BadDevice bad) status n e f (inl k) = absurd cc
outcome-apart (out.BadDevice bad) status n e f (inr k) = absurd cc
outcome-apart (out.Made layout) status n e f (inl k) = absurd cc
outcome-apart (out.Made layout) status n e f (inr k) = absurd cc
outcome-apart (out.Shown dev) status n e f (inl k) = absurd cc
outcome-apart (out.Shown dev) status n e f (inr k) = absurd cc
outcome-apart (out.Unlocked dev) status n e f (inl k) = absurd cc
outcome-apart (out.Unlocked dev) status n e f (inr k) = absurd cc

outside-apart : (status n : ℕ) → jobs.IsOutside status → status ≡ n → (n ≡ 1) ⊎ (n ≡ 6) → ⊥
outside-apart status n (inl e) f (inl k) = absurd cc
outside-apart status n (inl e) f (inr k) = absurd cc
outside-apart status n (inr (inl e)) f (inl k) = absurd cc
outside-apart status n (inr (inl e)) f (inr k) = absurd cc
outside-apart status n (inr (inr e)) f (inl k) = absurd cc
outside-apart status n (inr (inr e)) f (inr k) = absurd cc

-- a job never ends with 1 or 6
pub job-apart : (o : Option Outcome) (status n : ℕ) → jobs.IsDecided o status → status ≡ n → (n ≡ 1) ⊎ (n ≡ 6) → ⊥
job-apart None status n (inl e) f (inl k) = absurd cc
job-apart None status n (inl e) f (inr k) = absurd cc
job-apart None status n (inr (inl e)) f (inl k) = absurd cc
job-apart None status n (inr (inl e)) f (inr k) = absurd cc
job-apart None status n (inr (inr (inl e))) f (inl k) = absurd cc
job-apart None status n (inr (inr (inl e))) f (inr k) = absurd cc
job-apart None status n (inr (inr (inr e))) f k = outside-apart status n e f k
job-apart (Some outcome) status n (inl e) f k = outcome-apart outcome status n e f k
job-apart (Some outcome) status n (inr e) f k = outside-apart status n e f k

module _ (asked : Option DeviceWords) (status : ℕ) (refused : (status ≡ 4) ⊎ (status ≡ 5) → status ≡ refusal_status asked) (outside : jobs.IsOutside status → IsOutside asked status) where
  job-decided : (o : Option Outcome) → jobs.IsDecided o status → DecidedBy (option_map Job o) asked status
  job-decided None (inl e) = inl e
  job-decided None (inr (inl e)) = inr (inl (refused (inl e)))
  job-decided None (inr (inr (inl e))) = inr (inl (refused (inr e)))
  job-decided None (inr (inr (inr e))) = inr (inr (outside e))
  job-decided (Some outcome) (inl e) = inl e
  job-decided (Some outcome) (inr e) = inr (outside e)

  job-printed : (o : Option Outcome) (old new : Option (List ℕ)) → jobs.IsDecided o status → jobs.IsReported o status old new → PrintsBy (option_map Job o) 0 status old new
  job-printed None old new d r = (r, λ six. absurd (job-apart None status 6 d six (inr refl)))
  job-printed (Some outcome) old new d (inl e) = inl e
  job-printed (Some outcome) old new d (inr (inl e)) = inr (inl (inl e))
  job-printed (Some outcome) old new d (inr (inr (inl e))) = inr (inl (inr (inl e)))
  job-printed (Some outcome) old new d (inr (inr (inr e))) = inr (inr (e.0, inl e.1))

  -- what a job says of its status and its text
  pub job-end : (o : Option Outcome) (p q : Output) → jobs.IsDecided o status → (status ≡ 9 → Rose p.faults q.faults) → jobs.IsReported o status p.text q.text →
      IsEnd asked (option_map Job o) 0 status (p, q)
  job-end o p q d n r = record { decided = job-decided o d; output = n; printed = job-printed o p.text q.text d r }
