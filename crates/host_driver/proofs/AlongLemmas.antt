-- Steps of an attempt, one after another.
use Rattle.std.proofs.Common.{◌≡◌, ℕ, zero, suc, Bool, true, false, Option, Some, None, List, [], ◌∷◌, ◌++◌, take, refl, sym, ap, ◌∙◌, subst, arith, slice_get, append-nil}
use Rattle.std.specs.Prelude.{MatchBool}
use Rattle.std.proofs.lemmas.Option.{slice_get_within}
use Rattle.fb_frame.specs.Causes.{Rose}
use Rattle.fb_frame.specs.Sinks.{Grew}
use Rattle.fb_frame.proofs.SinkLemmas.{Grew-append, Grew-nothing}
use Rattle.dev_model.specs.declared.device.Dev.{Dev}
use Rattle.dev_model.specs.declared.device.Mode.TheVariants.{Halted}
use Rattle.dev_model.specs.declared.step.Step.{Step}
use Rattle.dev_model.specs.Attempts.{Left, LeftHalted, LeftBehind, IsNextAtMost, IsHaltedAt, is_halted}
use Rattle.dev_model.specs.Steps.{run}
use Rattle.dev_model.proofs.LeavingLemmas.{run_next, in-first, in-second}
use Rattle.wire_told.specs.Peers.{Peer, device_of}
use Rattle.wire_told.proofs.PortLemmas.{Kept-same, Kept-trans}
use Rattle.fb_link.specs.Seen.{Seen, seen}
use Rattle.host_driver.specs.declared.drive.DriveError.{DriveError}
use Rattle.host_driver.specs.Attempting.{LeftAfter, Lined, IsAlong, IsLeftAlong}
use Rattle.host_driver.specs.Commands.{TookStep}
use Rattle.host_driver.specs.Driving.{Grows}
use Rattle.host_driver.specs.Jobs.{OfTold}
use Rattle.host_driver.specs.Printing.{joined}
use Rattle.host_driver.specs.Stepping.{IsStepped, IsBrokenIn, IsStopped}
use Rattle.host_driver.proofs.AskLemmas.{joined-append}

-- What an attempt at one step leaves of a device that took those before it is what an attempt at the plan may
-- leave.
left-lifted : (plan : List Step) (s u t : Dev) (n : ℕ) (step : Step) → run (take n plan) s ≡ Some u → slice_get plan n ≡ Some step → Left (step ∷ []) u 0 t → Left plan s n t
left-lifted plan s u t n step e g l =
    let within = slice_get_within plan n step g in
    let same : u ≡ l.before = (let f = l.taken in cc) in
    record {
      count = omega (arith, within);
      before = l.before;
      taken = e ∙ ap Some same;
      next = subst (λ o. IsNextAtMost o l.before t) (sym g) l.next;
    }

left-by : (plan : List Step) (s u t : Dev) (n : ℕ) (step : Step) (b : Bool) → is_halted t.mode ≡ b → run (take n plan) s ≡ Some u → slice_get plan n ≡ Some step →
    MatchBool b (LeftHalted (step ∷ []) u 0 t) (Left (step ∷ []) u 0 t) → LeftBehind plan s n t
left-by plan s u t n step true h e g l =
    in-first (is_halted t.mode) (LeftHalted plan s n t) (Left plan s n t) h
    (record { before = l.before; left = left-lifted plan s u l.before n step e g l.left; halted = subst (λ o. IsHaltedAt o l.before t) (sym g) l.halted })
left-by plan s u t n step false h e g l =
    in-second (is_halted t.mode) (LeftHalted plan s n t) (Left plan s n t) h (left-lifted plan s u t n step e g l)

pub left_after : LeftAfter
left_after plan s u t n step e g l = left-by plan s u t n step (is_halted t.mode) refl e g l

-- Relations of told devices, one after another.
pub told-then : (R S T : Dev → Dev → Type 0) → ((s t u : Dev) → R s t → S t u → T s u) → (a b c : Option Peer) → OfTold a b R → OfTold b c S → OfTold a c T
told-then R S T f None None None r q = tt
told-then R S T f None None (Some z) r q = absurd q
told-then R S T f None (Some y) c r q = absurd r
told-then R S T f (Some x) None c r q = absurd r
told-then R S T f (Some x) (Some y) None r q = absurd q
told-then R S T f (Some x) (Some y) (Some z) r q = f (device_of x) (device_of y) (device_of z) r q

pub told-same : (R : Dev → Dev → Type 0) → ((s : Dev) → R s s) → (a : Option Peer) → OfTold a a R
told-same R f None = tt
told-same R f (Some x) = f (device_of x)

pub told-more : (R S : Dev → Dev → Type 0) → ((s t : Dev) → R s t → S s t) → (a b : Option Peer) → OfTold a b R → OfTold a b S
told-more R S f None None r = tt
told-more R S f None (Some y) r = r
told-more R S f (Some x) None r = r
told-more R S f (Some x) (Some y) r = f (device_of x) (device_of y) r

-- one line more
take-next : (lines : List (List ℕ)) (n : ℕ) (line : List ℕ) → slice_get lines n ≡ Some line → take (suc n) lines ≡ take n lines ++ line ∷ []
take-next [] n line e = absurd cc
take-next (x ∷ lines) zero line e = let same : x ≡ line = cc in ap (λ t. t ∷ []) same
take-next (x ∷ lines) (suc n) line e = ap (λ t. x ∷ t) (take-next lines n line e)

pub joined-next : (lines : List (List ℕ)) (n : ℕ) (line : List ℕ) → slice_get lines n ≡ Some line → joined (take (suc n) lines) ≡ joined (take n lines) ++ line
joined-next lines n line e =
    ap joined (take-next lines n line e)
    ∙ (joined-append (take n lines) (line ∷ []) ∙ ap (λ t. joined (take n lines) ++ t) (append-nil line))

pub grows-then : (a b c : Option (List ℕ)) → Grows a b → Grows b c → Grows a c
grows-then a b c g h = record { more = g.more ++ h.more; grew = Grew-append a b c g.more h.more g.grew h.grew }

pub grows-line : (a b : Option (List ℕ)) (line : List ℕ) → Grew a b line → Grows a b
grows-line a b line g = record { more = line; grew = g }

-- nothing was taken yet
pub along-none : (plan : Lined) (a : Seen) → IsAlong plan 0 a a
along-none plan a = record {
  ran = told-same (λ s t. run [] s ≡ Some t) (λ s. refl) a.port.peer;
  shown = told-same (λ s t. Grew a.text a.text []) (λ s. Grew-nothing a.text) a.port.peer;
  grows = record { more = []; grew = Grew-nothing a.text };
  kept = Kept-same a.port;
}

-- one step more, and its line
pub along-next : (cost : ℕ) (Wires : List ℕ → Type 0) (plan : Lined) (n : ℕ) (step : Step) (line : List ℕ) (a b c : Seen) (text : Option (List ℕ)) → IsAlong plan n a b → IsStepped cost Wires step b c →
    slice_get plan.steps n ≡ Some step → slice_get plan.lines n ≡ Some line → Grew c.text text line → IsAlong plan (suc n) a (seen c.port text)
along-next cost Wires plan n step line a b c text g k e l put = record {
  ran = told-then (λ s t. run (take n plan.steps) s ≡ Some t) (TookStep step) (λ s t. run (take (suc n) plan.steps) s ≡ Some t)
      (λ s t u r q. run_next plan.steps s t n step r e q.can_so ∙ ap Some (sym q.taken)) a.port.peer b.port.peer c.port.peer g.ran k.took;
  shown = told-then (λ s t. Grew a.text b.text (joined (take n plan.lines))) (λ s t. Grew b.text c.text []) (λ s t. Grew a.text text (joined (take (suc n) plan.lines)))
      (λ s t u r q.
      let quiet = subst (Grew a.text c.text) (append-nil (joined (take n plan.lines))) (Grew-append a.text b.text c.text (joined (take n plan.lines)) [] r q) in
      subst (Grew a.text text) (sym (joined-next plan.lines n line l)) (Grew-append a.text c.text text (joined (take n plan.lines)) line quiet put)) a.port.peer b.port.peer c.port.peer g.shown k.quiet;
  grows = grows-then a.text b.text text g.grows (grows-then b.text c.text text k.grows (grows-line c.text text line put));
  kept = Kept-trans a.port b.port c.port g.kept k.kept;
}

-- where the next step breaks off
pub along-stopped : (Files : List ℕ → Type 0) (plan : Lined) (n : ℕ) (step : Step) (a b c : Seen) (error : DriveError) → IsAlong plan n a b → IsStopped Files step b c error →
    slice_get plan.steps n ≡ Some step → IsLeftAlong plan n a c
along-stopped Files plan n step a b c error g k e =
    let broke = Rose b.port.faults c.port.faults in
    record {
      left = told-then (λ s t. run (take n plan.steps) s ≡ Some t) (IsBrokenIn step broke) (λ s t. LeftBehind plan.steps s n t)
          (λ s t u r q. left_after plan.steps s t u n step r e q.left) a.port.peer b.port.peer c.port.peer g.ran k.left;
      halted = told-then (λ s t. run (take n plan.steps) s ≡ Some t) (IsBrokenIn step broke) (λ s t. t.mode ≡ Halted → Rose a.port.faults c.port.faults)
          (λ s t u r q h. let rose = q.halted h in omega (arith, rose, g.kept.later)) a.port.peer b.port.peer c.port.peer g.ran k.left;
      shown = told-then (λ s t. Grew a.text b.text (joined (take n plan.lines))) (λ s t. Grew b.text c.text []) (λ s t. Grew a.text c.text (joined (take n plan.lines)))
          (λ s t u r q. subst (Grew a.text c.text) (append-nil (joined (take n plan.lines))) (Grew-append a.text b.text c.text (joined (take n plan.lines)) [] r q)) a.port.peer b.port.peer c.port.peer g.shown k.quiet;
      grows = grows-then a.text b.text c.text g.grows k.grows;
      kept = Kept-trans a.port b.port c.port g.kept k.kept;
    }
