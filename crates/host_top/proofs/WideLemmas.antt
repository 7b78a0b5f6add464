-- Causes within a call are causes of the whole call: counts before it are no larger, and after it no smaller.
use Rattle.std.proofs.Common.{◌⊎◌, inl, inr, ℕ, ◌-◌, ◌≤◌, List, length, arith}
use Rattle.std.specs.Prelude.{Result, Ok, Err, IsFalse}
use Rattle.fb_frame.specs.Causes.{Rose}
use Rattle.dev_model.specs.declared.device.Dev.{Dev}
use Rattle.dev_model.specs.Partitions.{is_fastboot}
use Rattle.host_driver.specs.declared.drive.Done.{Done as DoneSo}
use Rattle.host_driver.specs.declared.drive.DriveError.{DriveError}
use Rattle.host_driver.specs.declared.drive.DriveError.TheVariants as stop
use Rattle.host_driver.specs.Driven.{made, RefusedBy, IsHaltedNow, RoseBy, Spent, IsUnmeetable}
use Rattle.host_driver.specs.Driving.{Moved, Caused, IsLed, Tried, MayRetry, LinkFailed, FolderFailed, OutputFailed}
use Rattle.host_driver.specs.Jobs.{Job, Course}
use Rattle.host_driver.specs.Printing.{Attempt, Prints, PrintsBy, IsDue, IsCutShort, text_of, lines_of}

pub record Wider (m n : Moved) : Type 0 where
  pub port_before : n.before.port ≤ m.before.port
  pub port_now : m.now.port ≤ n.now.port
  pub folder_before : n.before.folder ≤ m.before.folder
  pub folder_now : m.now.folder ≤ n.now.folder
  pub output_before : n.before.output ≤ m.before.output
  pub output_now : m.now.output ≤ n.now.output

pub rose-by-wider : (k a b c d : ℕ) → a ≤ b → c ≤ d → RoseBy k b c → RoseBy k a d
rose-by-wider k a b c d h g r = omega (arith, h, g, r)

pub rose-wider : (a b c d : ℕ) → a ≤ b → c ≤ d → Rose b c → Rose a d
rose-wider a b c d h g r = omega (arith, h, g, r)

module _ {m n : Moved} (w : Wider m n) where
  pub link-wider : LinkFailed m → LinkFailed n
  link-wider r = rose-wider n.before.port m.before.port m.now.port n.now.port w.port_before w.port_now r

  pub folder-wider : FolderFailed m → FolderFailed n
  folder-wider r = rose-wider n.before.folder m.before.folder m.now.folder n.now.folder w.folder_before w.folder_now r

  pub output-wider : OutputFailed m → OutputFailed n
  output-wider r = rose-wider n.before.output m.before.output m.now.output n.now.output w.output_before w.output_now r

  times-wider : (k : ℕ) → RoseBy k m.before.port m.now.port → RoseBy k n.before.port n.now.port
  times-wider k r = rose-by-wider k n.before.port m.before.port m.now.port n.now.port w.port_before w.port_now r

  began-wider : (s : Dev) → LinkFailed m ⊎ IsFalse (is_fastboot s.mode) → LinkFailed n ⊎ IsFalse (is_fastboot s.mode)
  began-wider s (inl r) = inl (link-wider r)
  began-wider s (inr r) = inr r

  unmeetable-wider : (s t : Dev) → IsUnmeetable (LinkFailed m) s t → IsUnmeetable (LinkFailed n) s t
  unmeetable-wider s t r = (began-wider s r.0, r.1)

  spent-wider : (k : ℕ) (s t : Dev) → Spent m.before.port m.now.port k s t → Spent n.before.port n.now.port k s t
  spent-wider k s t (inl r) = inl (times-wider k r)
  spent-wider k s t (inr r) = inr (unmeetable-wider s t r)

  refused-wider : (j : Job) (numbers text : List ℕ) (t : Dev) →
      RefusedBy (made j) j.device numbers text t ⊎ IsHaltedNow m.before.port m.now.port text t → RefusedBy (made j) j.device numbers text t ⊎ IsHaltedNow n.before.port n.now.port text t
  refused-wider j numbers text t (inl r) = inl r
  refused-wider j numbers text t (inr r) = inr (link-wider r.0, r.1, r.2)

  pub caused-wider : (o : Result DoneSo DriveError) (j : Job) (numbers : List ℕ) (t : Dev) → Caused j m numbers t o → Caused j n numbers t o
  caused-wider (Ok done) j numbers t c = c
  caused-wider (Err stop.Memory) j numbers t c = c
  caused-wider (Err (stop.Directory file)) j numbers t c = (folder-wider c.0, c.1)
  caused-wider (Err stop.Output) j numbers t c = output-wider c
  caused-wider (Err stop.Link) j numbers t c = (spent-wider (length numbers) j.device t c.0, c.1, c.2)
  caused-wider (Err stop.Ended) j numbers t c = c
  caused-wider (Err (stop.Refused text)) j numbers t c = refused-wider j numbers text t c
  caused-wider (Err (stop.Peer kept)) j numbers t c = c
  caused-wider (Err stop.TooManyInfos) j numbers t c = c
  caused-wider (Err (stop.Requirement line name value)) j numbers t c = c
  caused-wider (Err (stop.Plan line kind)) j numbers t c = c

  tried-wider : (course : Course) (s t : Dev) → Tried m course s t → Tried n course s t
  tried-wider course s t (inl r) = inl (times-wider (length course.numbers - 1) r)
  tried-wider course s t (inr r) = inr (r.0, unmeetable-wider s t r.1)

  halted-wider : {A : Type 0} → A ⊎ LinkFailed m → A ⊎ LinkFailed n
  halted-wider (inl x) = inl x
  halted-wider (inr r) = inr (link-wider r)

  pub led-wider : (course : Course) (s t : Dev) → IsLed m course s t → IsLed n course s t
  led-wider course s t l = record {
    tried = tried-wider course s t l.tried;
    spent = λ e. spent-wider (length course.numbers) s t (l.spent e);
    still = l.still;
    halted = λ e. halted-wider (l.halted e);
  }

  -- what is printed
  retry-wider : (j : Job) (t : Dev) (k : ℕ) → MayRetry j m t k → MayRetry j n t k
  retry-wider j t k r = (r.0, spent-wider k j.device t r.1)

  due-wider : (j : Job) (t : Dev) (attempts : List Attempt) (numbers line : List ℕ) → IsDue (lines_of j) (MayRetry j m t) attempts numbers line → IsDue (lines_of j) (MayRetry j n t) attempts numbers line
  due-wider j t attempts numbers line (inl d) = inl d
  due-wider j t attempts numbers line (inr d) = inr (d.0, d.1, retry-wider j t (length attempts) d.2, d.3)

  cut-wider : (j : Job) (t : Dev) (attempts : List Attempt) (numbers : List ℕ) (G : List ℕ → Type 0) → IsCutShort (IsDue (lines_of j) (MayRetry j m t) attempts numbers) (text_of (lines_of j) attempts) G →
      IsCutShort (IsDue (lines_of j) (MayRetry j n t) attempts numbers) (text_of (lines_of j) attempts) G
  cut-wider j t attempts numbers G c = record { line = c.line; due = due-wider j t attempts numbers c.line c.due; n = c.n; short = c.short; grew = c.grew }

  text-wider : (o : Result DoneSo DriveError) (j : Job) (t : Dev) (attempts : List Attempt) (numbers : List ℕ) (G : List ℕ → Type 0) → PrintsBy (lines_of j) (MayRetry j m t) attempts (record { numbers = numbers; outcome = o }) G →
      PrintsBy (lines_of j) (MayRetry j n t) attempts (record { numbers = numbers; outcome = o }) G
  text-wider (Ok done) j t attempts numbers G p = p
  text-wider (Err stop.Memory) j t attempts numbers G p = p
  text-wider (Err (stop.Directory file)) j t attempts numbers G p = p
  text-wider (Err stop.Output) j t attempts numbers G p = cut-wider j t attempts numbers G p
  text-wider (Err stop.Link) j t attempts numbers G p = p
  text-wider (Err stop.Ended) j t attempts numbers G p = p
  text-wider (Err (stop.Refused text)) j t attempts numbers G p = p
  text-wider (Err (stop.Peer kept)) j t attempts numbers G p = p
  text-wider (Err stop.TooManyInfos) j t attempts numbers G p = p
  text-wider (Err (stop.Requirement line name value)) j t attempts numbers G p = p
  text-wider (Err (stop.Plan line kind)) j t attempts numbers G p = p

  pub prints-wider : (j : Job) (t : Dev) (course : Course) (G : List ℕ → Type 0) → Prints j (MayRetry j m t) course G t → Prints j (MayRetry j n t) course G t
  prints-wider j t course G p = record {
    attempts = p.attempts;
    ordered = p.ordered;
    text = text-wider course.outcome j t p.attempts course.numbers G p.text;
    ends = p.ends;
    left = p.left;
    unasked = p.unasked;
  }
