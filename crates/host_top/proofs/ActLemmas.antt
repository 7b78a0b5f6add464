-- What the parts of a call come to, put together.
use Rattle.std.proofs.Common.{◌≡◌, ◌⊎◌, inl, inr, ℕ, ◌≤◌, Option, Some, None, List, refl, sym, ap, ◌∙◌, subst, arith}
use Rattle.std.specs.Prelude.{Result, Ok, Err, IfErr, IsTrue, is_some, option_map}
use Rattle.fb_frame.specs.Causes.{Rose}
use Rattle.wire_told.specs.Ports.{PortTold}
use Rattle.fb_link.specs.Seen.{Seen, seen}
use Rattle.host_driver.specs.declared.drive.DriveError.{DriveError}
use Rattle.host_driver.specs.declared.drive.DriveError.TheVariants as stop
use Rattle.host_driver.specs.Asking.{Told}
use Rattle.host_driver.specs.Driving.{Drives}
use Rattle.host_driver.specs.Jobs.{Outside, Folder, Order, Course, outside}
use Rattle.host_top.specs.declared.verdict.Verdict.{Verdict as Code}
use Rattle.host_top.specs.Acts.{HasRun, HasAsked, IsAnswered, answer_verdict}
use Rattle.host_top.specs.Ending.{ShowsLast}
use Rattle.host_top.specs.LineParts.{verdict_in}
use Rattle.host_top.specs.Verdicts.{Verdict, verdict_of}

-- a program's value tells something where it is there
there-too : (v : Option Code) (w : Option Verdict) → option_map verdict_in v ≡ w → IsTrue (is_some w) → IsTrue (is_some v)
there-too None w e t = subst (λ x. IsTrue (is_some x)) (sym e) t
there-too (Some v) w e t = refl

if-this : {X E : Type 0} (r : Result X E) (e : E) (P : E → Type 0) → IfErr r P → r ≡ Err e → P e
if-this r e P i h = subst (λ x. IfErr x P) h i

-- A question was asked over an aimed port, and the last line put.
pub asked-so : (name : List ℕ) (a b : PortTold) (f : Folder) (x y z : Option (List ℕ)) (m n k : ℕ) (answer : Result Told DriveError) (v : Option Code) (status : ℕ) →
    IsAnswered name (seen a x) (seen b y) answer → option_map verdict_in v ≡ answer_verdict answer → IfErr answer (λ e. e ≡ stop.Output → Rose m n) → m ≤ n →
    ShowsLast (option_map verdict_in v) y z status → (IsTrue (is_some v) → status ≡ 9 → Rose n k) → n ≤ k → HasAsked name (outside a f x m) (outside b f z k) status
asked-so name a b f x y z m n k answer v status q e o l s u t = record {
  answer = answer;
  mid = y;
  put = n;
  answered = q;
  unput = λ h. if-this answer stop.Output (λ e. e ≡ stop.Output → Rose m n) o h refl;
  earlier = l;
  shows = subst (λ w. ShowsLast w y z status) e s;
  shown_later = t;
  failed = λ w h. u (there-too v (answer_verdict answer) e w) h;
}

-- An installation ran over an aimed port, and the last line was put.
pub run-so : (o : Order) (old : Outside) (b : PortTold) (f : Folder) (y z : Option (List ℕ)) (n k : ℕ) (course : Course) (v : Option Code) (status : ℕ) →
    Drives o old (outside b f y n) course → option_map verdict_in v ≡ verdict_of course.outcome →
    ShowsLast (option_map verdict_in v) y z status → (IsTrue (is_some v) → status ≡ 9 → Rose n k) → n ≤ k → HasRun o old (outside b f z k) status
run-so o old b f y z n k course v status d e s u t = record {
  course = course;
  mid = y;
  put = n;
  drives = d;
  shows = subst (λ w. ShowsLast w y z status) e s;
  shown_later = t;
  failed = λ w h. u (there-too v (verdict_of course.outcome) e w) h;
}
