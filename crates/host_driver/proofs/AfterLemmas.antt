-- What attempts come to over a told device and told files, with one more of them.
use Rattle.std.proofs.Common.{◌≡◌, ◌⊎◌, inl, inr, ℕ, suc, ◌<◌, ◌≤◌, Bool, true, false, Option, Some, None, List, [], ◌∷◌, ◌++◌, All, map, length, take, take_all, refl, sym, ap, ◌∙◌, subst, arith, append_assoc, append-nil}
use Rattle.std.specs.Prelude.{◌||◌, IsTrue, is_some, MatchBool, Result, Ok, Err, slice_get}
use Rattle.std.specs.List.{list_any, AllByRecursion}
use Rattle.std.proofs.lemmas.List.Elements.{recursion_from_All, All-from_recursion}
use Rattle.fb_frame.specs.Causes.{Rose}
use Rattle.fb_frame.specs.Sinks.{Grew}
use Rattle.fb_frame.proofs.SinkLemmas.{Grew-append}
use Rattle.dev_model.specs.declared.device.Dev.{Dev}
use Rattle.dev_model.specs.declared.step.Step.{Step}
use Rattle.dev_model.specs.Attempts.{LeftBehind}
use Rattle.dev_model.specs.Partitions.{is_fastboot}
use Rattle.dev_model.specs.Steps.{run, leaves}
use Rattle.dev_model.specs.Validity.{IsValid}
use Rattle.dev_model.proofs.LeavingLemmas.{left_taken, left_serving}
use Rattle.flash_plan.specs.Files.{Files}
use Rattle.flash_plan.specs.Plans.{steps_by, steps_of, work_of}
use Rattle.flash_plan.proofs.AgainLemmas.{plan_resumes}
use Rattle.fb_link.specs.Seen.{seen}
use Rattle.host_driver.specs.declared.drive.DriveError.{DriveError}
use Rattle.host_driver.specs.declared.drive.DriveError.TheVariants as stop
use Rattle.host_driver.specs.declared.prepare.Prepared.{Prepared}
use Rattle.host_driver.specs.Driven.{made, made_of, is_met, LeavesBy, Reached, IsRefused, RefusedBy, IsHaltedNow, IsUnmet, IsUnplanned, IsUndone}
use Rattle.host_driver.specs.Jobs.{Order, Outside, Has, job}
use Rattle.host_driver.specs.Preparing.{asks_of, MakesPlan}
use Rattle.host_driver.specs.Printing.{Lines, lines_of, lines_by, step_line, Attempt, Asking, Asked, Again, steps_in, is_answered, acknowledged_in, in_order, attempt_text, lead, text_of, joined, next_line}
use Rattle.host_driver.specs.Running.{running, lined, IsNextRefused, BreaksAt}
use Rattle.host_driver.specs.Taking.{supply}
use Rattle.host_driver.specs.Trying.{came, Trial, trial, StaysKept, PlansFor, WhyTried, EndsUnplanned, StepsEnd, TookSteps, asks_first, CameTo, IsNotMet}
use Rattle.host_driver.proofs.CourseLemmas.{leaves_more, leaves_unmet, leaves_before, leaves_unplanned}
use Rattle.host_driver.proofs.CourseText.{order-more, text-next, answered-next}
use Rattle.host_driver.proofs.HaltLemmas.{running as runs-not-halted}
use Rattle.host_driver.proofs.LoopLemmas.{length-map}

-- the steps of a plan that is kept
abbrev pub chosen : Files → Order → Option Prepared → Option (List Step)
chosen files order None = None
chosen files order (Some p) = Some (steps_of files order.product p.plan)

-- a plan that is kept is the one for the first device; without one the device is as it was
abbrev pub PlannedFor : Order → Option Prepared → Dev → Dev → Type 0
PlannedFor order None s t = t ≡ s
PlannedFor order (Some p) s t = MakesPlan order p.plan p.max s × (is_fastboot s.mode ≡ true)

-- attempts that were made, and this line after them
pub record SoFar (order : Order) (files : Files) (kept : Option Prepared) (numbers line : List ℕ) (before now : Option (List ℕ)) (s t : Dev) : Type 0 where
  pub attempts : List Attempt
  pub ordered : in_order false attempts ≡ true
  pub answered : list_any is_answered attempts ≡ is_some kept
  pub counted : numbers ≡ map steps_in attempts
  pub text : Grew before now (text_of (lines_of (job order files s)) attempts ++ line)
  pub left : LeavesBy (chosen files order kept) s numbers t
  pub undone : IsUndone (chosen files order kept) numbers

-- why an attempt ended so over a told device
abbrev pub WhyOver : Order → Trial → Dev → Result (Unit {0}) DriveError → Type 0
WhyOver order x u (Ok done) = WhyTried order x (Ok done)
WhyOver order x u (Err stop.Memory) = Unit {0}
WhyOver order x u (Err (stop.Directory file)) = WhyTried order x (Err (stop.Directory file))
WhyOver order x u (Err stop.Output) = WhyTried order x (Err stop.Output)
WhyOver order x u (Err stop.Link) = Rose x.old.port.faults x.new.port.faults ⊎ (is_fastboot u.mode ≡ false)
WhyOver order x u (Err stop.Ended) = ⊥
WhyOver order x u (Err (stop.Refused text)) = x.came.keeps ≡ None → ⊥
WhyOver order x u (Err (stop.Peer kept)) = ⊥
WhyOver order x u (Err stop.TooManyInfos) = ⊥
WhyOver order x u (Err (stop.Requirement line name value)) = WhyTried order x (Err (stop.Requirement line name value))
WhyOver order x u (Err (stop.Plan line kind)) = WhyTried order x (Err (stop.Plan line kind))

-- the text of attempts of which the last was cut off in the line that was due
pub record CutOne (lines : Lines) (past : List Attempt) (this : Attempt) (count : ℕ) (G : List ℕ → Type 0) : Type 0 where
  pub counted : count ≡ acknowledged_in this
  pub line : List ℕ
  pub next : next_line lines this ≡ Some line
  pub n : ℕ
  pub short : n < length line
  pub grew : G (text_of lines (past ++ this ∷ []) ++ take n line)

abbrev pub OneText : Lines → List Attempt → Attempt → ℕ → (List ℕ → Type 0) → Result (Unit {0}) DriveError → Type 0
OneText lines past this count G (Err stop.Output) = CutOne lines past this count G
OneText lines past this count G _ = (count ≡ steps_in this) × G (text_of lines (past ++ this ∷ []))

-- what is known of the last attempt by its end
abbrev pub EndsOne : ℕ → Attempt → Result (Unit {0}) DriveError → Type 0
EndsOne count this (Ok done) = IsTrue (is_answered this) × (steps_in this ≡ count)
EndsOne count this (Err (stop.Refused text)) = IsTrue (is_answered this)
EndsOne count this (Err (stop.Directory file)) = IsTrue (is_answered this)
EndsOne count this (Err (stop.Requirement line name value)) = this ≡ Asked 0
EndsOne count this (Err (stop.Plan line kind)) = this ≡ Asked 0
EndsOne count this (Err _) = Unit {0}

-- what the last attempt came to by its end, with these numbers of all
abbrev pub EndedBy : Order → Files → (List ℕ → Dev → Type 0) → Option Prepared → List ℕ → ℕ → Dev → Dev → Result (Unit {0}) DriveError → Type 0
EndedBy order files HaltsNow keeps numbers count s t (Ok done) = Has keeps (λ p. (run (steps_of files order.product p.plan) s ≡ Some t) × (count ≡ length (steps_of files order.product p.plan)))
EndedBy order files HaltsNow keeps numbers count s t (Err (stop.Refused text)) = RefusedBy (chosen files order keeps) s (numbers ++ count ∷ []) text t ⊎ HaltsNow text t
EndedBy order files HaltsNow keeps numbers count s t (Err (stop.Requirement line name value)) = IsUnmet (job order files s) line name value t
EndedBy order files HaltsNow keeps numbers count s t (Err (stop.Plan line kind)) = IsUnplanned (job order files s) line kind t
EndedBy order files HaltsNow keeps numbers count s t (Err _) = Unit {0}

-- attempts that were made, and how the last one ended
pub record AfterJob (order : Order) (files : Files) (a c : Outside) (keeps : Option Prepared) (numbers : List ℕ) (count : ℕ) (end : Result (Unit {0}) DriveError) (s t : Dev) : Type 0 where
  pub past : List Attempt
  pub this : Attempt
  pub ordered : in_order false (past ++ this ∷ []) ≡ true
  pub counted : numbers ≡ map steps_in past
  pub text : OneText (lines_of (job order files s)) past this count (Grew a.text c.text) end
  pub last : EndsOne count this end
  pub answers : end ≡ Err stop.Link → list_any is_answered (past ++ this ∷ []) ≡ is_some keeps
  pub unasked : list_any is_answered (past ++ this ∷ []) ≡ false → keeps ≡ None
  pub left : LeavesBy (chosen files order keeps) s (numbers ++ count ∷ []) t
  pub printed : LeavesBy (chosen files order keeps) s (numbers ++ steps_in this ∷ []) t
  pub undone : end ≡ Err stop.Link → IsUndone (chosen files order keeps) (numbers ++ count ∷ [])
  pub ended : EndedBy order files (IsHaltedNow a.port.faults c.port.faults) keeps numbers count s t end

-- Texts.
join-cut : (lines : Lines) (past : List Attempt) (this : Attempt) (numbers tail : List ℕ) (a b c : Option (List ℕ)) → numbers ≡ map steps_in past → Grew a b (text_of lines past ++ lead (length numbers)) → Grew b c (attempt_text lines this ++ tail) →
    Grew a c (text_of lines (past ++ this ∷ []) ++ tail)
join-cut lines past this numbers tail a b c e f g =
    let long : length numbers ≡ length past = ap length e ∙ length-map steps_in past in
    let whole = text_of lines past ++ lead (length past) in
    subst (Grew a c) (sym (append_assoc whole (attempt_text lines this) tail) ∙ ap (λ l. l ++ tail) (sym (text-next lines past this)))
    (Grew-append a b c whole (attempt_text lines this ++ tail) (subst (λ k. Grew a b (text_of lines past ++ lead k)) long f) g)

join-whole : (lines : Lines) (past : List Attempt) (this : Attempt) (numbers : List ℕ) (a b c : Option (List ℕ)) → numbers ≡ map steps_in past → Grew a b (text_of lines past ++ lead (length numbers)) → Grew b c (attempt_text lines this) →
    Grew a c (text_of lines (past ++ this ∷ []))
join-whole lines past this numbers a b c e f g =
    subst (Grew a c) (append-nil (text_of lines (past ++ this ∷ []))) (join-cut lines past this numbers [] a b c e f (subst (Grew b c) (sym (append-nil (attempt_text lines this))) g))

-- an attempt with a plan
abbrev with_plan : Option Prepared → ℕ → Attempt
with_plan None n = Asked n
with_plan (Some p) n = Again n

plan-steps : (kept : Option Prepared) (n : ℕ) → steps_in (with_plan kept n) ≡ n
plan-steps None n = refl
plan-steps (Some p) n = refl

plan-acknowledged : (kept : Option Prepared) (n : ℕ) → acknowledged_in (with_plan kept n) ≡ suc n
plan-acknowledged None n = refl
plan-acknowledged (Some p) n = refl

plan-answered : (kept : Option Prepared) (n : ℕ) → is_answered (with_plan kept n) ≡ true
plan-answered None n = refl
plan-answered (Some p) n = refl

plan-next : (lines : Lines) (kept : Option Prepared) (n : ℕ) → next_line lines (with_plan kept n) ≡ slice_get lines.steps n
plan-next lines None n = refl
plan-next lines (Some p) n = refl

plan-ordered : (kept : Option Prepared) (n : ℕ) (b : Bool) → b ≡ is_some kept → in_order b (with_plan kept n ∷ []) ≡ true
plan-ordered None n true e = absurd cc
plan-ordered None n false e = refl
plan-ordered (Some p) n true e = refl
plan-ordered (Some p) n false e = absurd cc

plan-text : (order : Order) (files : Files) (kept : Option Prepared) (s : Dev) (n : ℕ) (tail : List ℕ) (b m c : Option (List ℕ)) → Grew b m (joined (asks_first order kept s)) → Grew m c (joined (take n (lines_of (job order files s)).steps) ++ tail) →
    Grew b c (attempt_text (lines_of (job order files s)) (with_plan kept n) ++ tail)
plan-text order files None s n tail b m c f g =
    let steps = joined (take n (lines_of (job order files s)).steps) in
    subst (Grew b c) (sym (append_assoc (joined (asks_of order s)) steps tail)) (Grew-append b m c (joined (asks_of order s)) (steps ++ tail) f g)
plan-text order files (Some p) s n tail b m c f g = Grew-append b m c [] (joined (take n (lines_of (job order files s)).steps) ++ tail) f g

true-either : (a b : Bool) → b ≡ true → (a || b) ≡ true
true-either true b e = refl
true-either false b e = e

answered-any : (past : List Attempt) (this : Attempt) → is_answered this ≡ true → list_any is_answered (past ++ this ∷ []) ≡ true
answered-any past this e = answered-next past this ∙ true-either (list_any is_answered past) (is_answered this) e

-- Plans.
pub made-is : (order : Order) (files : Files) (p : Prepared) (s : Dev) → MakesPlan order p.plan p.max s → made (job order files s) ≡ Some (steps_of files order.product p.plan)
made-is order files p s m =
    ap (λ r. made_of (is_met (job order files s)) (steps_by files order.product r)) m.planned ∙ ap (λ b. made_of b (Ok (steps_of files order.product p.plan))) m.met

lines-are : (order : Order) (files : Files) (p : Prepared) (s : Dev) → MakesPlan order p.plan p.max s → map (step_line (work_of order.product).sizes) p.plan ≡ (lines_of (job order files s)).steps
lines-are order files p s m = sym (ap (lines_by (work_of order.product).sizes) m.planned)

reached : (plan : List Step) (s u : Dev) (numbers : List ℕ) → LeavesBy (Some plan) s numbers u → is_fastboot u.mode ≡ true → Reached plan s numbers u
reached plan s u [] l f = l
reached plan s u (n ∷ numbers) l f = (l, f)

resumed : (order : Order) (files : Files) (p : Prepared) (s u t : Dev) (numbers : List ℕ) → MakesPlan order p.plan p.max s → IsValid s → LeavesBy (Some (steps_of files order.product p.plan)) s numbers u → is_fastboot u.mode ≡ true →
    run (steps_of files order.product p.plan) u ≡ Some t → run (steps_of files order.product p.plan) s ≡ Some t
resumed order files p s u t [] m v l f r = ap (λ d. run (steps_of files order.product p.plan) d) (sym l) ∙ r
resumed order files p s u t (n ∷ numbers) m v l f r =
    sym (plan_resumes files order.product order.options (steps_of files order.product p.plan) s u (ap (steps_by files order.product) m.planned) (record { valid = v; numbers = n ∷ numbers; chain = l; runs = f })) ∙ r

all-next : (P : ℕ → Type 0) (numbers : List ℕ) (n : ℕ) → All P numbers → P n → All P (numbers ++ n ∷ [])
all-next P numbers n a p = All-from_recursion P (numbers ++ n ∷ []) (by numbers (recursion_from_All P numbers a))
  where
    by : (ms : List ℕ) → AllByRecursion P ms → AllByRecursion P (ms ++ n ∷ [])
    by [] q = (p, tt)
    by (m ∷ ms) q = (q.0, by ms q.1)

all-more : (P Q : ℕ → Type 0) → ((n : ℕ) → P n → Q n) → (numbers : List ℕ) → All P numbers → All Q numbers
all-more P Q f numbers a = All-from_recursion Q numbers (by numbers (recursion_from_All P numbers a))
  where
    by : (ms : List ℕ) → AllByRecursion P ms → AllByRecursion Q ms
    by [] q = tt
    by (m ∷ ms) q = (f m q.0, by ms q.1)

any-within : (steps : List Step) (n : ℕ) → list_any leaves steps ≡ true → n ≡ 0 → n < length steps
any-within [] n e z = absurd cc
any-within (step ∷ steps) n e z = omega (arith, z)

-- attempts without a plan took nothing
pub undone-before : (plan : List Step) (s t : Dev) (numbers : List ℕ) → LeavesBy None s numbers t → IsUndone (Some plan) numbers
undone-before plan s t [] l = λ any. All-from_recursion (λ n. n < length plan) [] tt
undone-before plan s t (n ∷ numbers) l = λ any. all-more (λ k. k ≡ 0) (λ k. k < length plan) (λ k z. any-within plan k any z) (n ∷ numbers) l.0

undone-next : (plan : List Step) (numbers : List ℕ) (n : ℕ) → IsUndone (Some plan) numbers → (list_any leaves plan ≡ true → n < length plan) → IsUndone (Some plan) (numbers ++ n ∷ [])
undone-next plan numbers n u f = λ any. all-next (λ k. k < length plan) numbers n (u any) (f any)

-- What was known before a last attempt.
record Before (order : Order) (files : Files) (a b : Outside) (kept : Option Prepared) (p : Prepared) (numbers : List ℕ) (s u : Dev) : Type 0 where
  makes : MakesPlan order p.plan p.max s
  valid : IsValid s
  serves : is_fastboot s.mode ≡ true
  past : List Attempt
  ordered : in_order false past ≡ true
  answered : list_any is_answered past ≡ is_some kept
  counted : numbers ≡ map steps_in past
  text : Grew a.text b.text (text_of (lines_of (job order files s)) past ++ lead (length numbers))
  left : LeavesBy (Some (steps_of files order.product p.plan)) s numbers u
  undone : IsUndone (Some (steps_of files order.product p.plan)) numbers
  later : a.port.faults ≤ b.port.faults

whole-take : {X : Type 0} (xs : List X) (n : ℕ) → n ≡ length xs → take n xs ≡ xs
whole-take xs n e = take_all n xs (omega (arith, e))

-- one attempt more with a plan
after-made : (order : Order) (files : Files) (a b c : Outside) (kept : Option Prepared) (p : Prepared) (numbers : List ℕ) (count : ℕ) (end : Result (Unit {0}) DriveError) (s u t : Dev) (n : ℕ) (k : Before order files a b kept p numbers s u) →
    OneText (lines_of (job order files s)) k.past (with_plan kept n) count (Grew a.text c.text) end → EndsOne count (with_plan kept n) end → LeavesBy (Some (steps_of files order.product p.plan)) s (numbers ++ count ∷ []) t →
    LeavesBy (Some (steps_of files order.product p.plan)) s (numbers ++ n ∷ []) t → (end ≡ Err stop.Link → IsUndone (Some (steps_of files order.product p.plan)) (numbers ++ count ∷ [])) →
    EndedBy order files (IsHaltedNow a.port.faults c.port.faults) (Some p) numbers count s t end → AfterJob order files a c (Some p) numbers count end s t
after-made order files a b c kept p numbers count end s u t n k text last left printed undone ended =
    let this = with_plan kept n in
    let any = answered-any k.past this (plan-answered kept n) in
    record {
      past = k.past;
      this = this;
      ordered = order-more false k.past this k.ordered (plan-ordered kept n (list_any is_answered k.past) k.answered);
      counted = k.counted;
      text = text;
      last = last;
      answers = λ e. any;
      unasked = λ e. absurd (let no : true ≡ false = sym any ∙ e in cc);
      left = left;
      printed = subst (λ m. LeavesBy (Some (steps_of files order.product p.plan)) s (numbers ++ m ∷ []) t) (sym (plan-steps kept n)) printed;
      undone = undone;
      ended = ended;
    }

steps-whole : (order : Order) (files : Files) (a b c : Outside) (kept : Option Prepared) (p : Prepared) (numbers : List ℕ) (count : ℕ) (s u : Dev) (middle : Option (List ℕ)) (k : Before order files a b kept p numbers s u) → Grew b.text middle (joined (asks_first order kept s)) →
    Grew middle c.text (joined (take count (map (step_line (work_of order.product).sizes) p.plan))) →
    (count ≡ steps_in (with_plan kept count)) × Grew a.text c.text (text_of (lines_of (job order files s)) (k.past ++ with_plan kept count ∷ []))
steps-whole order files a b c kept p numbers count s u middle k asked shown =
    let lines = lines_of (job order files s) in
    let this = with_plan kept count in
    let here = subst (λ l. Grew middle c.text (joined (take count l))) (lines-are order files p s k.makes) shown in (
      sym (plan-steps kept count),
      subst (Grew a.text c.text) (append-nil (text_of lines (k.past ++ this ∷ [])))
          (join-cut lines k.past this numbers [] a.text b.text c.text k.counted k.text
          (plan-text order files kept s count [] b.text middle c.text asked (subst (Grew middle c.text) (sym (append-nil (joined (take count lines.steps)))) here))),
    )

steps-left : (order : Order) (files : Files) (a b : Outside) (kept : Option Prepared) (p : Prepared) (numbers : List ℕ) (s u t : Dev) (n : ℕ) → Before order files a b kept p numbers s u → is_fastboot u.mode ≡ true → LeftBehind (steps_of files order.product p.plan) u n t →
    LeavesBy (Some (steps_of files order.product p.plan)) s (numbers ++ n ∷ []) t
steps-left order files a b kept p numbers s u t n k f l = leaves_more (steps_of files order.product p.plan) s u t numbers n k.left f l

-- an attempt that took all steps
after-ok : (order : Order) (files : Files) (a b c : Outside) (kept : Option Prepared) (p : Prepared) (numbers : List ℕ) (count : ℕ) (done : Unit {0}) (s u t : Dev) (middle : Option (List ℕ)) → Before order files a b kept p numbers s u → is_fastboot u.mode ≡ true →
    Grew b.text middle (joined (asks_first order kept s)) →
    StepsEnd (lined files (running (supply (Some files) order.product p.max) p.plan)) count (seen b.port middle, seen c.port c.text) (u, t) (Ok done) → AfterJob order files a c (Some p) numbers count (Ok done) s t
after-ok order files a b c kept p numbers count done s u t middle k f asked took =
    let steps = steps_of files order.product p.plan in
    let lines = map (step_line (work_of order.product).sizes) p.plan in
    let long : count ≡ length lines = took.1 ∙ (length-map _ p.plan ∙ sym (length-map _ p.plan)) in
    let ran : run (take count steps) u ≡ Some t = ap (λ l. run l u) (whole-take steps count took.1) ∙ took.0 in
    let left = steps-left order files a b kept p numbers s u t count k f (left_serving steps u t count (left_taken steps u t count (let e = took.1 in omega (arith, e)) ran) took.2) in
    after-made order files a b c kept p numbers count (Ok done) s u t count k
    (steps-whole order files a b c kept p numbers count s u middle k asked (subst (λ l. Grew middle c.text (joined l)) (sym (whole-take lines count long)) took.3))
    (plan-answered kept count, plan-steps kept count) left left (λ e. absurd cc)
    (resumed order files p s u t numbers k.makes k.valid k.left f took.0, took.1)

-- an attempt that broke off, but not in a line
after-broken : (order : Order) (files : Files) (a b c : Outside) (kept : Option Prepared) (p : Prepared) (numbers : List ℕ) (count : ℕ) (error : DriveError) (s u t : Dev) (middle : Option (List ℕ)) (k : Before order files a b kept p numbers s u) → is_fastboot u.mode ≡ true →
    LeftBehind (steps_of files order.product p.plan) u count t → OneText (lines_of (job order files s)) k.past (with_plan kept count) count (Grew a.text c.text) (Err error) → EndsOne count (with_plan kept count) (Err error) →
    (error ≡ stop.Link → list_any leaves (steps_of files order.product p.plan) ≡ true → count < length (steps_of files order.product p.plan)) →
    EndedBy order files (IsHaltedNow a.port.faults c.port.faults) (Some p) numbers count s t (Err error) → AfterJob order files a c (Some p) numbers count (Err error) s t
after-broken order files a b c kept p numbers count error s u t middle k f l text last stuck ended =
    let left = steps-left order files a b kept p numbers s u t count k f l in
    after-made order files a b c kept p numbers count (Err error) s u t count k text last left left
    (λ e. undone-next (steps_of files order.product p.plan) numbers count k.undone (stuck (let same : error ≡ stop.Link = cc in same))) ended

after-refused : (order : Order) (files : Files) (a b c : Outside) (kept : Option Prepared) (p : Prepared) (numbers : List ℕ) (count : ℕ) (s u t : Dev) (text : List ℕ) → Before order files a b kept p numbers s u → is_fastboot u.mode ≡ true →
    IsNextRefused (steps_of files order.product p.plan) count text u t ⊎ IsHaltedNow b.port.faults c.port.faults text t →
    IsRefused (steps_of files order.product p.plan) s (numbers ++ count ∷ []) text t ⊎ IsHaltedNow a.port.faults c.port.faults text t
after-refused order files a b c kept p numbers count s u t text k f (inl r) = inl (record {
  place = record { earlier = numbers; last = count; split = refl; start = u; reached = reached (steps_of files order.product p.plan) s u numbers k.left f; taken = r.taken };
  step = r.step;
  next = r.next;
  refusal = r.refusal;
  serves = r.serves;
})
after-refused order files a b c kept p numbers count s u t text k f (inr h) = inr ((let r = h.0 in let l = k.later in omega (arith, r, l)), h.1, h.2)

after-cut : (order : Order) (files : Files) (a b c : Outside) (kept : Option Prepared) (p : Prepared) (numbers : List ℕ) (count : ℕ) (s u t : Dev) (middle : Option (List ℕ)) → Before order files a b kept p numbers s u → is_fastboot u.mode ≡ true →
    Grew b.text middle (joined (asks_first order kept s)) → BreaksAt (lined files (running (supply (Some files) order.product p.max) p.plan)) count stop.Output (seen b.port middle, seen c.port c.text) u t →
    AfterJob order files a c (Some p) numbers count (Err stop.Output) s t
after-cut order files a b c kept p numbers count s u t middle k f asked q =
    let w = q.shown in
    let lines = lines_of (job order files s) in
    let same = lines-are order files p s k.makes in
    after-made order files a b c kept p numbers count (Err stop.Output) s u t w.n k
    (record {
      counted = w.counted ∙ sym (plan-acknowledged kept w.n);
      line = w.line;
      next = plan-next lines kept w.n ∙ (ap (λ l. slice_get l w.n) (sym same) ∙ w.next);
      n = w.k;
      short = w.short;
      grew = join-cut lines k.past (with_plan kept w.n) numbers (take w.k w.line) a.text b.text c.text k.counted k.text
          (plan-text order files kept s w.n (take w.k w.line) b.text middle c.text asked (subst (λ l. Grew middle c.text (joined (take w.n l) ++ take w.k w.line)) same w.grew));
    }) tt (steps-left order files a b kept p numbers s u t count k f q.left) (steps-left order files a b kept p numbers s u t w.n k f w.left) (λ e. absurd cc) tt

after-steps : (order : Order) (files : Files) (a b c : Outside) (kept : Option Prepared) (p : Prepared) (numbers : List ℕ) (count : ℕ) (end : Result (Unit {0}) DriveError) (s u t : Dev) (middle : Option (List ℕ)) → Before order files a b kept p numbers s u → is_fastboot u.mode ≡ true →
    WhyOver order (trial b c (came kept (Some p) count end)) u end → Grew b.text middle (joined (asks_first order kept s)) →
    StepsEnd (lined files (running (supply (Some files) order.product p.max) p.plan)) count (seen b.port middle, seen c.port c.text) (u, t) end → AfterJob order files a c (Some p) numbers count end s t
after-steps order files a b c kept p numbers count (Ok done) s u t middle k f why asked q = after-ok order files a b c kept p numbers count done s u t middle k f asked q
after-steps order files a b c kept p numbers count (Err stop.Memory) s u t middle k f why asked q =
    after-broken order files a b c kept p numbers count stop.Memory s u t middle k f q.left (steps-whole order files a b c kept p numbers count s u middle k asked q.shown) tt (λ e. absurd cc) tt
after-steps order files a b c kept p numbers count (Err (stop.Directory file)) s u t middle k f why asked q =
    after-broken order files a b c kept p numbers count (stop.Directory file) s u t middle k f q.left (steps-whole order files a b c kept p numbers count s u middle k asked q.shown) (plan-answered kept count) (λ e. absurd cc) tt
after-steps order files a b c kept p numbers count (Err stop.Output) s u t middle k f why asked q = after-cut order files a b c kept p numbers count s u t middle k f asked q
after-steps order files a b c kept p numbers count (Err stop.Link) s u t middle k f why asked q =
    after-broken order files a b c kept p numbers count stop.Link s u t middle k f q.left (steps-whole order files a b c kept p numbers count s u middle k asked q.shown) tt (λ e. q.stuck) tt
after-steps order files a b c kept p numbers count (Err stop.Ended) s u t middle k f why asked q = absurd why
after-steps order files a b c kept p numbers count (Err (stop.Refused text)) s u t middle k f why asked q =
    after-broken order files a b c kept p numbers count (stop.Refused text) s u t middle k f q.left (steps-whole order files a b c kept p numbers count s u middle k asked q.shown) (plan-answered kept count) (λ e. absurd cc)
    (after-refused order files a b c kept p numbers count s u t text k f q.stuck)
after-steps order files a b c kept p numbers count (Err (stop.Peer x)) s u t middle k f why asked q = absurd why
after-steps order files a b c kept p numbers count (Err stop.TooManyInfos) s u t middle k f why asked q = absurd why
after-steps order files a b c kept p numbers count (Err (stop.Requirement line name value)) s u t middle k f why asked q = absurd (let no = why.0 in cc)
after-steps order files a b c kept p numbers count (Err (stop.Plan line kind)) s u t middle k f why asked q = absurd cc

-- an attempt for which no connection began, since the device doesn't run fastboot
after-barred : (order : Order) (files : Files) (a b c : Outside) (p : Prepared) (numbers : List ℕ) (s u t : Dev) → Before order files a b (Some p) p numbers s u → is_fastboot u.mode ≡ false → t ≡ u → Grew b.text c.text [] →
    AfterJob order files a c (Some p) numbers 0 (Err stop.Link) s t
after-barred order files a b c p numbers s u t k f e g =
    let steps = steps_of files order.product p.plan in
    let lines = lines_of (job order files s) in
    let left = leaves_unmet steps s t numbers (subst (λ d. LeavesBy (Some steps) s numbers d) (sym e) k.left) (ap (λ (d : Dev). is_fastboot d.mode) e ∙ f) (runs-not-halted s.mode k.serves) in
    after-made order files a b c (Some p) p numbers 0 (Err stop.Link) s u t 0 k
    (refl, join-whole lines k.past (Again 0) numbers a.text b.text c.text k.counted k.text g) tt left left
    (λ same. undone-next steps numbers 0 k.undone (λ any. any-within steps 0 any refl)) tt

-- An attempt in which no plan was made.
record Unplanned (order : Order) (files : Files) (a b : Outside) (numbers : List ℕ) (s : Dev) : Type 0 where
  past : List Attempt
  ordered : in_order false past ≡ true
  answered : list_any is_answered past ≡ false
  counted : numbers ≡ map steps_in past
  text : Grew a.text b.text (text_of (lines_of (job order files s)) past ++ lead (length numbers))
  left : LeavesBy None s numbers s

after-none : (order : Order) (files : Files) (a b c : Outside) (numbers : List ℕ) (count : ℕ) (end : Result (Unit {0}) DriveError) (s t : Dev) (this : Attempt) (k : Unplanned order files a b numbers s) → in_order false (this ∷ []) ≡ true → steps_in this ≡ 0 → count ≡ 0 → t ≡ s →
    OneText (lines_of (job order files s)) k.past this count (Grew a.text c.text) end → EndsOne count this end → (end ≡ Err stop.Link → is_answered this ≡ false) →
    EndedBy order files (IsHaltedNow a.port.faults c.port.faults) None numbers count s t end → AfterJob order files a c None numbers count end s t
after-none order files a b c numbers count end s t this k fits nothing none e text last asking ended =
    let left = leaves_unplanned s t numbers (subst (LeavesBy None s numbers) (sym e) k.left) in
    record {
      past = k.past;
      this = this;
      ordered = order-more false k.past this k.ordered (subst (λ b. in_order b (this ∷ []) ≡ true) (sym k.answered) fits);
      counted = k.counted;
      text = text;
      last = last;
      answers = λ q. answered-next k.past this ∙ (ap (λ b. b || is_answered this) k.answered ∙ asking q);
      unasked = λ q. refl;
      left = subst (λ n. LeavesBy None s (numbers ++ n ∷ []) t) (sym none) left;
      printed = subst (λ n. LeavesBy None s (numbers ++ n ∷ []) t) (sym nothing) left;
      undone = λ q. tt;
      ended = ended;
    }

asks-whole : (order : Order) (files : Files) (a b c : Outside) (numbers : List ℕ) (count m : ℕ) (s : Dev) (k : Unplanned order files a b numbers s) → count ≡ 0 → Grew b.text c.text (joined (take m (asks_of order s))) →
    (count ≡ steps_in (Asking m)) × Grew a.text c.text (text_of (lines_of (job order files s)) (k.past ++ Asking m ∷ []))
asks-whole order files a b c numbers count m s k none g = (none, join-whole (lines_of (job order files s)) k.past (Asking m) numbers a.text b.text c.text k.counted k.text g)

asked-whole : (order : Order) (files : Files) (a b c : Outside) (numbers : List ℕ) (count : ℕ) (s : Dev) (k : Unplanned order files a b numbers s) → count ≡ 0 → Grew b.text c.text (joined (asks_of order s)) →
    (count ≡ steps_in (Asked 0)) × Grew a.text c.text (text_of (lines_of (job order files s)) (k.past ++ Asked 0 ∷ []))
asked-whole order files a b c numbers count s k none g =
    (none, join-whole (lines_of (job order files s)) k.past (Asked 0) numbers a.text b.text c.text k.counted k.text (subst (Grew b.text c.text) (sym (append-nil (joined (asks_of order s)))) g))

after-unplanned : (order : Order) (files : Files) (a b c : Outside) (numbers : List ℕ) (count : ℕ) (end : Result (Unit {0}) DriveError) (s u t : Dev) → Unplanned order files a b numbers s → t ≡ s →
    WhyOver order (trial b c (came None None count end)) u end → EndsUnplanned order (trial b c (came None None count end)) s t end → AfterJob order files a c None numbers count end s t
after-unplanned order files a b c numbers count (Ok done) s u t k e why w = absurd w
after-unplanned order files a b c numbers count (Err stop.Memory) s u t k e why w =
    after-none order files a b c numbers count (Err stop.Memory) s t (Asking w.2.count) k refl refl w.0 e (asks-whole order files a b c numbers count w.2.count s k w.0 w.2.grew) tt (λ q. refl) tt
after-unplanned order files a b c numbers count (Err (stop.Directory file)) s u t k e why w = absurd why.1
after-unplanned order files a b c numbers count (Err stop.Output) s u t k e why w =
    let g = w.2 in
    after-none order files a b c numbers count (Err stop.Output) s t (Asking g.count) k refl refl w.0 e
    (record {
      counted = w.0;
      line = g.line;
      next = g.next;
      n = g.n;
      short = g.short;
      grew = join-cut (lines_of (job order files s)) k.past (Asking g.count) numbers (take g.n g.line) a.text b.text c.text k.counted k.text g.grew;
    }) tt (λ q. refl) tt
after-unplanned order files a b c numbers count (Err stop.Link) s u t k e why w =
    after-none order files a b c numbers count (Err stop.Link) s t (Asking w.2.count) k refl refl w.0 e (asks-whole order files a b c numbers count w.2.count s k w.0 w.2.grew) tt (λ q. refl) tt
after-unplanned order files a b c numbers count (Err stop.Ended) s u t k e why w = absurd why
after-unplanned order files a b c numbers count (Err (stop.Refused text)) s u t k e why w = absurd (why refl)
after-unplanned order files a b c numbers count (Err (stop.Peer x)) s u t k e why w = absurd why
after-unplanned order files a b c numbers count (Err stop.TooManyInfos) s u t k e why w = absurd why
after-unplanned order files a b c numbers count (Err (stop.Requirement line name value)) s u t k e why w =
    after-none order files a b c numbers count (Err (stop.Requirement line name value)) s t (Asked 0) k refl refl w.0 e (asked-whole order files a b c numbers count s k w.0 w.2) refl (λ q. absurd cc) (w.1 files)
after-unplanned order files a b c numbers count (Err (stop.Plan line kind)) s u t k e why w =
    after-none order files a b c numbers count (Err (stop.Plan line kind)) s t (Asked 0) k refl refl w.0 e (asked-whole order files a b c numbers count s k w.0 w.2) refl (λ q. absurd cc) (w.1 files)

first-of : (b : Bool) (P Q : Type 0) → b ≡ true → MatchBool b P Q → P
first-of true P Q e m = m
first-of false P Q e m = absurd cc

-- One attempt more, with the plan that was kept.
after-kept : (order : Order) (files : Files) (a b c : Outside) (p : Prepared) (numbers : List ℕ) (count : ℕ) (end : Result (Unit {0}) DriveError) (s u t : Dev) → a.port.faults ≤ b.port.faults → IsValid s →
    SoFar order files (Some p) numbers (lead (length numbers)) a.text b.text s u → MakesPlan order p.plan p.max s → is_fastboot s.mode ≡ true → (is_fastboot u.mode ≡ false → IsNotMet (came (Some p) (Some p) count end) u t) →
    WhyOver order (trial b c (came (Some p) (Some p) count end)) u end → CameTo order files (trial b c (came (Some p) (Some p) count end)) (u, t) (Some p) → AfterJob order files a c (Some p) numbers count end s t
after-kept order files a b c p numbers count end s u t later v k m f barred why w = by (is_fastboot u.mode) refl w
  where
    before : Before order files a b (Some p) p numbers s u
    before = record { makes = m; valid = v; serves = f; past = k.attempts; ordered = k.ordered; answered = k.answered; counted = k.counted; text = k.text; left = k.left; undone = k.undone; later = later }

    by : (x : Bool) → is_fastboot u.mode ≡ x → MatchBool x (TookSteps [] (lined files (running (supply (Some files) order.product p.max) p.plan)) (trial b c (came (Some p) (Some p) count end)) u t) (Grew b.text c.text []) →
        AfterJob order files a c (Some p) numbers count end s t
    by true e q = after-steps order files a b c (Some p) p numbers count end s u t q.middle before e why q.asked q.took
    by false e q =
        let n = barred e in
        subst (λ x. AfterJob order files a c (Some p) numbers count x s t) (sym n.end)
        (subst (λ x. AfterJob order files a c (Some p) numbers x (Err stop.Link) s t) (sym n.none) (after-barred order files a b c p numbers s u t before e n.same q))

some-same : (p q : Prepared) → ◌≡◌ {A = Option Prepared} (Some p) (Some q) → p ≡ q
some-same p q e = cc

-- One attempt more.
pub after-any : (order : Order) (files : Files) (a b c : Outside) (kept keeps : Option Prepared) (numbers : List ℕ) (count : ℕ) (end : Result (Unit {0}) DriveError) (s u t : Dev) → a.port.faults ≤ b.port.faults → IsValid s → StaysKept kept keeps →
    SoFar order files kept numbers (lead (length numbers)) a.text b.text s u → PlannedFor order kept s u → PlansFor order kept keeps u t → (is_fastboot u.mode ≡ false → IsNotMet (came kept keeps count end) u t) →
    WhyOver order (trial b c (came kept keeps count end)) u end → CameTo order files (trial b c (came kept keeps count end)) (u, t) keeps → AfterJob order files a c keeps numbers count end s t
after-any order files a b c None None numbers count end s u t later v stays k planned plans barred why w =
    after-unplanned order files a b c numbers count end s u t
    (record { past = k.attempts; ordered = k.ordered; answered = k.answered; counted = k.counted; text = k.text; left = subst (LeavesBy None s numbers) planned k.left }) (plans ∙ planned) why
    (subst (λ d. EndsUnplanned order (trial b c (came None None count end)) d t end) planned w)
after-any order files a b c (Some q) None numbers count end s u t later v stays k planned plans barred why w = absurd cc
after-any order files a b c None (Some p) numbers count end s u t later v stays k planned plans barred why w =
    let q = first-of (is_fastboot u.mode) (TookSteps (asks_of order u) (lined files (running (supply (Some files) order.product p.max) p.plan)) (trial b c (came None (Some p) count end)) u t) (Grew b.text c.text []) plans.1 w in
    let steps = steps_of files order.product p.plan in
    let serves : is_fastboot s.mode ≡ true = ap (λ (d : Dev). is_fastboot d.mode) (sym planned) ∙ plans.1 in
    let before : Before order files a b None p numbers s u = record {
      makes = subst (MakesPlan order p.plan p.max) planned plans.0;
      valid = v;
      serves = serves;
      past = k.attempts;
      ordered = k.ordered;
      answered = k.answered;
      counted = k.counted;
      text = k.text;
      left = leaves_before steps s u numbers k.left serves;
      undone = undone-before steps s u numbers k.left;
      later = later;
    } in
    after-steps order files a b c None p numbers count end s u t q.middle before plans.1 why (subst (λ d. Grew b.text q.middle (joined (asks_of order d))) planned q.asked) q.took
after-any order files a b c (Some q) (Some p) numbers count end s u t later v stays k planned plans barred why w =
    let e = some-same p q stays in
    subst (λ y. AfterJob order files a c (Some y) numbers count end s t) (sym e)
    (after-kept order files a b c q numbers count end s u t later v k planned.0 planned.1
    (subst (λ y. is_fastboot u.mode ≡ false → IsNotMet (came (Some q) (Some y) count end) u t) e barred)
    (subst (λ y. WhyOver order (trial b c (came (Some q) (Some y) count end)) u end) e why)
    (subst (λ y. CameTo order files (trial b c (came (Some q) (Some y) count end)) (u, t) (Some y)) e w))
