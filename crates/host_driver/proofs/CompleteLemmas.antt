-- Completeness follows from the causes.
use Rattle.std.proofs.Common.{◌≡◌, ◌⊎◌, inl, inr, ℕ, ◌-◌, ◌≤◌, Bool, true, false, Option, Some, None, List, [], ◌∷◌, ◌++◌, length, take, refl, sym, ap, ◌∙◌, subst, arith}
use Rattle.std.specs.Prelude.{not, ◌||◌, ◌&&◌, find, Result, Ok, Err, is_none, cond}
use Rattle.std.specs.List.{list_all}
use Rattle.fb_frame.specs.Causes.{Rose}
use Rattle.dev_model.specs.declared.device.Dev.{Dev}
use Rattle.dev_model.specs.declared.step.Step.{Step}
use Rattle.dev_model.specs.Partitions.{is_fastboot}
use Rattle.dev_model.specs.Steps.{run, first_refusal}
use Rattle.dev_model.proofs.Taken.{takes_unless_refused}
use Rattle.dev_model.proofs.RefusingLemmas.{run_stops, refused_after}
use Rattle.product_info.specs.declared.requirement.Requirement.{Requirement}
use Rattle.flash_plan.specs.declared.plan.PlanKind.{PlanKind}
use Rattle.flash_plan.specs.Moves.{PlanFault}
use Rattle.flash_plan.specs.Requiring.{holds_all, meets_line}
use Rattle.host_driver.specs.declared.drive.Done.{Done}
use Rattle.host_driver.specs.declared.drive.DriveError.{DriveError}
use Rattle.host_driver.specs.declared.drive.DriveError.TheVariants.{Memory, Directory, Output, Link, Ended, Refused, Peer, TooManyInfos, Requirement as Unmet, Plan}
use Rattle.host_driver.specs.Driven.{is_met, planned, made, made_of, Succeeds, Reached, IsRefused, RefusedBy, IsHaltedNow, RoseBy, Spent, IsUnmet, IsUnplanned}
use Rattle.host_driver.specs.Driving.{Caused, Moved, Tried}
use Rattle.host_driver.specs.Completing.{Undisturbed, IsDoneBy, IsRefusedBy, Completes, RefusesExactly}
use Rattle.host_driver.specs.Jobs.{Job, Course}

ok-same : {X E : Type 0} (x y : X) → ◌≡◌ {A = Result X E} (Ok x) (Ok y) → x ≡ y
ok-same x y e = cc

not-both : {X E : Type 0} (x : X) (f : E) → ◌≡◌ {A = Result X E} (Err f) (Ok x) → ⊥
not-both x f e = cc

-- where nothing rose there was one attempt
pub rose-some : (k before now : ℕ) → 1 ≤ k → RoseBy k before now → Rose before now
rose-some k before now l h = omega (arith, l, h)

one-left : (earlier numbers : List ℕ) (a before now : ℕ) → numbers ≡ earlier ++ a ∷ [] → RoseBy (length numbers - 1) before now → (Rose before now → ⊥) → earlier ≡ []
one-left [] numbers a before now e r h = refl
one-left (n ∷ earlier) numbers a before now e r h = absurd (h (more (length numbers) (long e) r)) where
  long : numbers ≡ n ∷ (earlier ++ a ∷ []) → 2 ≤ length numbers
  long f = subst (λ xs. 2 ≤ length xs) (sym f) (two earlier)
    where
      two : (xs : List ℕ) → 2 ≤ length (n ∷ (xs ++ a ∷ []))
      two [] = omega arith
      two (x ∷ xs) = omega arith

  more : (k : ℕ) → 2 ≤ k → RoseBy (k - 1) before now → Rose before now
  more k l r = omega (arith, l, r)

begun-at : (plan : List Step) (s u : Dev) (earlier : List ℕ) → earlier ≡ [] → Reached plan s earlier u → u ≡ s
begun-at plan s u [] e r = r
begun-at plan s u (n ∷ earlier) e r = absurd cc

meet-case : (p : Requirement → Bool) (line : Requirement) (lines : List Requirement) (b : Bool) → p line ≡ b → (b && list_all p lines) ≡ true →
    (list_all p lines ≡ true → find (λ l. not (p l)) lines ≡ None) → find (λ l. not (p l)) (line ∷ lines) ≡ None
meet-case p line lines true f e ih = ap (λ b. cond (not b) (Some line) (find (λ l. not (p l)) lines)) f ∙ ih e
meet-case p line lines false f e ih = absurd cc

pub all-meet : (p : Requirement → Bool) (lines : List Requirement) → list_all p lines ≡ true → find (λ line. not (p line)) lines ≡ None
all-meet p [] e = refl
all-meet p (line ∷ lines) e = meet-case p line lines (p line) refl e (all-meet p lines)

met-all : (force all : Bool) → force ≡ false → (force || all) ≡ true → all ≡ true
met-all true all e f = absurd cc
met-all false all e f = f

some-same : {X : Type 0} (x y : X) → ◌≡◌ {A = Option X} (Some x) (Some y) → x ≡ y
some-same x y e = cc

-- where a plan is made it is the one over the device, and the requirements are met
pub made-plan : (met : Bool) (p : Result (List Step) PlanFault) (plan : List Step) → made_of met p ≡ Some plan → p ≡ Ok plan
made-plan met (Err fault) plan e = absurd cc
made-plan true (Ok other) plan e = ap Ok (some-same other plan e)
made-plan false (Ok other) plan e = absurd cc

pub made-met : (met : Bool) (p : Result (List Step) PlanFault) (plan : List Step) → made_of met p ≡ Some plan → met ≡ true
made-met met (Err fault) plan e = absurd cc
made-met true (Ok other) plan e = refl
made-met false (Ok other) plan e = absurd cc

module _ {j : Job} {m : Moved} {course : Course} {t : Dev} {plan : List Step} (h : Undisturbed j m course t plan) where
  -- the last attempt was the first
  only-one : Tried m course j.device t → is_fastboot t.mode ≡ true → RoseBy (length course.numbers - 1) m.before.port m.now.port
  only-one (inl r) e = r
  only-one (inr f) e = let g = f.1.1 in absurd cc

  refused-at : (p : Option (List Step)) (text : List ℕ) → p ≡ Some plan → RefusedBy p j.device course.numbers text t → IsRefused plan j.device course.numbers text t
  refused-at None text e r = absurd r
  refused-at (Some other) text e r = subst (λ q. IsRefused q j.device course.numbers text t) (some-same other plan e) r

  start-is : {text : List ℕ} (r : IsRefused plan j.device course.numbers text t) → r.place.start ≡ j.device
  start-is r =
      begun-at plan j.device r.place.start r.place.earlier
      (one-left r.place.earlier course.numbers r.place.last m.before.port m.now.port r.place.split (only-one h.tried r.serves) h.no_fault) r.place.reached

  taken-is : {text : List ℕ} (r : IsRefused plan j.device course.numbers text t) → run (take r.place.last plan) j.device ≡ Some t
  taken-is r = subst (λ d. run (take r.place.last plan) d ≡ Some t) (start-is r) r.place.taken

  pub refused-none : {text : List ℕ} → IsRefused plan j.device course.numbers text t → run plan j.device ≡ None
  refused-none {text} r = run_stops plan j.device t r.place.last r.step (taken-is r) r.next (takes_unless_refused r.step t r.serves ∙ ap is_none r.refusal)

  pub refused-first : {text : List ℕ} → IsRefused plan j.device course.numbers text t → first_refusal plan j.device ≡ Some text
  refused-first {text} r = refused_after plan j.device t r.place.last r.step text (taken-is r) r.next r.refusal

  pub succeeded : {done : Done} → Succeeds j course.numbers done t → run plan j.device ≡ Some t
  succeeded g = subst (λ q. run q j.device ≡ Some t) (some-same g.plan plan (sym g.made_so ∙ h.planned)) g.runs

  pub no-unmet : {line : ℕ} {name : List ℕ} {value : Option (List ℕ)} → IsUnmet j line name value t → ⊥
  no-unmet u =
      let met = made-met (is_met j) (planned j) plan h.planned in
      let none = all-meet (meets_line j.device) j.product.requirements (met-all j.options.force (holds_all j.product.requirements j.device) u.asked_for met) in
      let some = u.first in absurd cc

  pub no-unplanned : {line : ℕ} {kind : PlanKind} → IsUnplanned j line kind t → ⊥
  no-unplanned {line} {kind} u = not-both plan (line, kind) (sym u.unplanned ∙ made-plan (is_met j) (planned j) plan h.planned)

  no-link : Spent m.before.port m.now.port (length course.numbers) j.device t → 1 ≤ length course.numbers → ⊥
  no-link (inl f) l = h.no_fault (rose-some (length course.numbers) m.before.port m.now.port l f)
  no-link (inr (inl f, n)) l = h.no_fault f
  no-link (inr (inr f, n)) l = let g = h.serves in absurd cc

  stuck : (text : List ℕ) → RefusedBy (made j) j.device course.numbers text t ⊎ IsHaltedNow m.before.port m.now.port text t → IsRefused plan j.device course.numbers text t
  stuck text (inl f) = refused-at (made j) text h.planned f
  stuck text (inr f) = absurd (h.no_fault f.0)

some-none : {X : Type 0} (x : X) (o : Option X) → o ≡ Some x → o ≡ None → ⊥
some-none x o e f = cc

module _ {j : Job} {m : Moved} {course : Course} {t : Dev} {plan : List Step} (h : Undisturbed j m course t plan) where
  pub done-case : (r : Dev) (outcome : Result Done DriveError) → Caused j m course.numbers t outcome → run plan j.device ≡ Some r → IsDoneBy plan j.device t outcome
  done-case r (Ok done) c e = succeeded h c
  done-case r (Err Memory) c e = tt
  done-case r (Err (Directory file)) c e = h.no_dir c.0
  done-case r (Err Output) c e = h.no_sink c
  done-case r (Err Link) c e = no-link h c.0 c.1
  done-case r (Err Ended) c e = c
  done-case r (Err (Refused text)) c e = some-none r (run plan j.device) e (refused-none h (stuck h text c))
  done-case r (Err (Peer kept)) c e = c
  done-case r (Err TooManyInfos) c e = c
  done-case r (Err (Unmet line name value)) c e = no-unmet h c
  done-case r (Err (Plan line kind)) c e = no-unplanned h c

  pub refused-case : (outcome : Result Done DriveError) → Caused j m course.numbers t outcome → run plan j.device ≡ None → IsRefusedBy plan j.device outcome
  refused-case (Ok done) c e = some-none t (run plan j.device) (succeeded h c) e
  refused-case (Err Memory) c e = tt
  refused-case (Err (Directory file)) c e = h.no_dir c.0
  refused-case (Err Output) c e = h.no_sink c
  refused-case (Err Link) c e = no-link h c.0 c.1
  refused-case (Err Ended) c e = c
  refused-case (Err (Refused text)) c e = refused-first h (stuck h text c)
  refused-case (Err (Peer kept)) c e = c
  refused-case (Err TooManyInfos) c e = c
  refused-case (Err (Unmet line name value)) c e = no-unmet h c
  refused-case (Err (Plan line kind)) c e = no-unplanned h c

pub completes : Completes
completes j m course t r plan h e = done-case h r course.outcome h.caused e

pub refuses_exactly : RefusesExactly
refuses_exactly j m course t plan h e = refused-case h course.outcome h.caused e
