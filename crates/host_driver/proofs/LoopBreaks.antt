-- Where the orders of a plan broke off.
use Rattle.std.proofs.Common.{◌≡◌, ◌⊎◌, inl, inr, ℕ, suc, ◌+◌, ◌<◌, Bool, true, false, Option, Some, None, List, [], ◌∷◌, ◌++◌, length, take, drop, refl, sym, ap, ◌∙◌, subst, arith, append-nil, length-append}
use Rattle.std.specs.Prelude.{IsTrue, slice_get, ◌==◌}
use Rattle.std.proofs.lemmas.Bool.Decides.{nat_tests}
use Rattle.std.specs.List.{list_any}
use Rattle.std.proofs.lemmas.Option.{slice_get_within}
use Rattle.fb_frame.specs.Causes.{Rose}
use Rattle.fb_frame.specs.Sinks.{Grew, GrewPart}
use Rattle.fb_frame.proofs.SinkLemmas.{Grew-append}
use Rattle.dev_model.specs.declared.device.Dev.{Dev}
use Rattle.dev_model.specs.declared.device.Mode.TheVariants.{Halted}
use Rattle.dev_model.specs.declared.step.Step.{Step}
use Rattle.dev_model.specs.Attempts.{LeftBehind, is_halted}
use Rattle.dev_model.specs.Partitions.{is_fastboot}
use Rattle.dev_model.specs.Refusals.{refusal_of}
use Rattle.dev_model.specs.Steps.{run, leaves as step_leaves}
use Rattle.dev_model.proofs.LeavingLemmas.{run_next, left_taken, left_unheard, left_serving}
use Rattle.wire_told.specs.Peers.{Peer, Apart, Joined, OfLink}
use Rattle.wire_told.specs.Ports.{PortTold, Drops, Kept}
use Rattle.wire_told.specs.Told.{HungUp, IsBarred}
use Rattle.wire_told.specs.Answered.{Sound}
use Rattle.wire_told.proofs.PortLemmas.{Kept-trans}
use Rattle.flash_plan.specs.declared.plan.Order.{Order}
use Rattle.flash_plan.specs.Files.{Files}
use Rattle.flash_plan.specs.Plans.{work_of, step_of, images_of, tables_in}
use Rattle.fb_link.specs.Seen.{Seen, seen}
use Rattle.host_driver.specs.declared.drive.DriveError.{DriveError}
use Rattle.host_driver.specs.declared.drive.DriveError.TheVariants as stop
use Rattle.host_driver.specs.Attempting.{Lined, IsAlong}
use Rattle.host_driver.specs.Beginning.{IsUnbegun, WhyUnbegun}
use Rattle.host_driver.specs.Commands.{TookStep, RefusedStep}
use Rattle.host_driver.specs.Driven.{IsHaltedNow}
use Rattle.host_driver.specs.Jobs.{OfTold}
use Rattle.host_driver.specs.Printing.{step_line, joined}
use Rattle.host_driver.specs.Running.{Running, lined, plan_cost, leave_last, IsFor, IsSoFar, IsRunSoFar, IsNextRefused, IsStuckAt, IsLineCut, ShowsSteps, BreaksAt, IsBrokenAt}
use Rattle.host_driver.specs.Stepping.{Serving, IsStepped, IsStopped, IsStuck, IsUnshown, IsFixed, WhyStopped}
use Rattle.host_driver.specs.Taking.{taking, step_in, is_leaving, is_renewing, order_cost, SendsOrder, IsTaken, IsUntaken}
use Rattle.host_driver.proofs.AlongLemmas.{told-then, told-more, along-stopped, grows-then, grows-line}
use Rattle.host_driver.proofs.DriveFixed.{fixed-then}
use Rattle.host_driver.proofs.LoopLemmas.{files-both, told-both, told-served, told-hung, told-is, none-back, steps-at, lines-at, length-map, stay-all, any-steps, renews-not-leaving, along-taken}
use Rattle.host_driver.proofs.DriveTaken.{why-move}
use Rattle.host_driver.proofs.TakeLemmas.{grows-part}

told-none : (R S : Dev → Dev → Type 0) (a b : Option Peer) → a ≡ None → OfTold a b R → OfTold a b S
told-none R S None None e r = tt
told-none R S None (Some b) e r = absurd r
told-none R S (Some a) b e r = absurd cc

breaks : (plan : Lined) (n : ℕ) (error : DriveError) (a c : Seen) → OfTold a.port.peer c.port.peer (λ s t. LeftBehind plan.steps s n t) →
    OfTold a.port.peer c.port.peer (IsStuckAt plan.steps n error (IsHaltedNow a.port.faults c.port.faults)) → OfTold a.port.peer c.port.peer (ShowsSteps plan n error (a, c)) →
    OfTold a.port.peer c.port.peer (BreaksAt plan n error (a, c))
breaks plan n error a c l k w =
    told-both (λ s t. LeftBehind plan.steps s n t × IsStuckAt plan.steps n error (IsHaltedNow a.port.faults c.port.faults) s t) (ShowsSteps plan n error (a, c)) (BreaksAt plan n error (a, c))
    (λ s t p q. record { left = p.0; stuck = p.1; shown = q }) a.port.peer c.port.peer
    (told-both (λ s t. LeftBehind plan.steps s n t) (IsStuckAt plan.steps n error (IsHaltedNow a.port.faults c.port.faults)) (λ s t. LeftBehind plan.steps s n t × IsStuckAt plan.steps n error (IsHaltedNow a.port.faults c.port.faults) s t)
    (λ s t p q. (p, q)) a.port.peer c.port.peer l k) w

-- In a step.
stuck-step : (plan : Lined) (n m : ℕ) (step : Step) (a b c : Seen) (error : DriveError) → Kept a.port b.port → n < length plan.steps → Serving m b.port.peer → OfTold a.port.peer b.port.peer (λ s t. run (take n plan.steps) s ≡ Some t) →
    slice_get plan.steps n ≡ Some step → OfTold a.port.peer c.port.peer (λ s t. LeftBehind plan.steps s n t) → IsStuck step b.port c.port error →
    OfTold a.port.peer c.port.peer (IsStuckAt plan.steps n error (IsHaltedNow a.port.faults c.port.faults))
stuck-step plan n m step a b c stop.Memory kept short s ran at l k = told-more (λ s t. LeftBehind plan.steps s n t) (λ s t. Unit {0}) (λ s t p. tt) a.port.peer c.port.peer l
stuck-step plan n m step a b c (stop.Directory file) kept short s ran at l k = told-more (λ s t. LeftBehind plan.steps s n t) (λ s t. Unit {0}) (λ s t p. tt) a.port.peer c.port.peer l
stuck-step plan n m step a b c stop.Output kept short s ran at l k = told-more (λ s t. LeftBehind plan.steps s n t) (λ s t. Unit {0}) (λ s t p. tt) a.port.peer c.port.peer l
stuck-step plan n m step a b c stop.Link kept short s ran at l k = told-more (λ s t. LeftBehind plan.steps s n t) (λ s t. IsTrue (list_any step_leaves plan.steps) → n < length plan.steps) (λ s t p q. short) a.port.peer c.port.peer l
stuck-step plan n m step a b c stop.Ended kept short s ran at l k = told-more (λ s t. LeftBehind plan.steps s n t) (λ s t. Unit {0}) (λ s t p. tt) a.port.peer c.port.peer l
stuck-step plan n m step a b c (stop.Refused text) kept short s ran at l k =
    told-then (λ x y. (run (take n plan.steps) x ≡ Some y) × (is_fastboot y.mode ≡ true)) (λ y z. RefusedStep step text y z ⊎ IsHaltedNow b.port.faults c.port.faults text z)
    (λ x z. IsNextRefused plan.steps n text x z ⊎ IsHaltedNow a.port.faults c.port.faults text z) one a.port.peer b.port.peer c.port.peer
    (told-served m a.port.peer b.port.peer (λ x y. run (take n plan.steps) x ≡ Some y) (λ x y. (run (take n plan.steps) x ≡ Some y) × (is_fastboot y.mode ≡ true)) (λ x y p f. (p, f)) s ran) k
  where
    one : (x y z : Dev) → (run (take n plan.steps) x ≡ Some y) × (is_fastboot y.mode ≡ true) → RefusedStep step text y z ⊎ IsHaltedNow b.port.faults c.port.faults text z → IsNextRefused plan.steps n text x z ⊎ IsHaltedNow a.port.faults c.port.faults text z
    one x y z p (inl q) = inl (record {
      taken = p.0 ∙ ap Some (sym q.same);
      step = step;
      next = at;
      refusal = ap (refusal_of step) q.same ∙ q.refusal;
      serves = ap (λ (d : Dev). is_fastboot d.mode) q.same ∙ p.1;
    })
    one x y z p (inr h) = inr ((let r = h.0 in let l = kept.later in omega (arith, r, l)), h.1, h.2)
stuck-step plan n m step a b c (stop.Peer x) kept short s ran at l k = told-more (λ s t. LeftBehind plan.steps s n t) (λ s t. Unit {0}) (λ s t p. tt) a.port.peer c.port.peer l
stuck-step plan n m step a b c stop.TooManyInfos kept short s ran at l k = told-more (λ s t. LeftBehind plan.steps s n t) (λ s t. Unit {0}) (λ s t p. tt) a.port.peer c.port.peer l
stuck-step plan n m step a b c (stop.Requirement line name value) kept short s ran at l k = told-more (λ s t. LeftBehind plan.steps s n t) (λ s t. Unit {0}) (λ s t p. tt) a.port.peer c.port.peer l
stuck-step plan n m step a b c (stop.Plan line kind) kept short s ran at l k = told-more (λ s t. LeftBehind plan.steps s n t) (λ s t. Unit {0}) (λ s t p. tt) a.port.peer c.port.peer l

shown-step : (plan : Lined) (n : ℕ) (a c : Seen) (error : DriveError) → IsUnshown error a.port.peer → OfTold a.port.peer c.port.peer (λ s t. Grew a.text c.text (joined (take n plan.lines))) → OfTold a.port.peer c.port.peer (ShowsSteps plan n error (a, c))
shown-step plan n a c stop.Memory u w = w
shown-step plan n a c (stop.Directory file) u w = w
shown-step plan n a c stop.Output u w = told-none (λ s t. Grew a.text c.text (joined (take n plan.lines))) (λ s t. IsLineCut plan n a.text c.text s t) a.port.peer c.port.peer u w
shown-step plan n a c stop.Link u w = w
shown-step plan n a c stop.Ended u w = w
shown-step plan n a c (stop.Refused text) u w = w
shown-step plan n a c (stop.Peer x) u w = w
shown-step plan n a c stop.TooManyInfos u w = w
shown-step plan n a c (stop.Requirement line name value) u w = w
shown-step plan n a c (stop.Plan line kind) u w = w

unshown-back : (error : DriveError) (a b : Option Peer) → (b ≡ None → a ≡ None) → IsUnshown error b → IsUnshown error a
unshown-back stop.Memory a b f u = tt
unshown-back (stop.Directory file) a b f u = tt
unshown-back stop.Output a b f u = f u
unshown-back stop.Link a b f u = tt
unshown-back stop.Ended a b f u = tt
unshown-back (stop.Refused text) a b f u = tt
unshown-back (stop.Peer x) a b f u = tt
unshown-back stop.TooManyInfos a b f u = tt
unshown-back (stop.Requirement line name value) a b f u = tt
unshown-back (stop.Plan line kind) a b f u = tt

step-breaks : (F : List ℕ → Type 0) (plan : Lined) (n m : ℕ) (step : Step) (a b c : Seen) (error : DriveError) → Serving m b.port.peer → IsAlong plan n a b → IsStopped F step b c error → slice_get plan.steps n ≡ Some step →
    (b.port.peer ≡ None → a.port.peer ≡ None) → OfTold a.port.peer c.port.peer (BreaksAt plan n error (a, c))
step-breaks F plan n m step a b c error s al k at back =
    let l = along-stopped F plan n step a b c error al k at in
    breaks plan n error a c l.left
    (stuck-step plan n m step a b c error al.kept (slice_get_within plan.steps n step at) s al.ran at l.left k.stuck)
    (shown-step plan n a c error (unshown-back error a.port.peer b.port.peer back k.unshown) l.shown)

pub Breaks-step : (F G : List ℕ → Type 0) (r : Running) (n : ℕ) (o : Order) (a b c : Seen) (error : DriveError) → slice_get r.plan n ≡ Some o → IsRunSoFar r n a b → ((x : List ℕ) → F x → G x) →
    IsUntaken F (taking r.from o) b c error → IsBrokenAt G r n (a, c) error
unfolding IsRunSoFar
Breaks-step F G r n o a b c error at so f u =
    let within = slice_get_within r.plan n o at in
    let later : Rose b.port.faults c.port.faults → Rose a.port.faults c.port.faults = λ x. (let l = so.kept.later in omega (arith, x, l)) in
    record {
      exact = files-both r.from.files _ _ _ (λ files al k. step-breaks F (lined files r) n (plan_cost (drop n r.plan)) (step_in files r.from.product o) a b c error (so.serving within) al k (steps-at files r n o at)
          (none-back IsFixed a.port.peer b.port.peer so.fixed)) so.along u.exact;
      within = omega (arith, within);
      why = why-move F G a.port b.port c.port error f so.kept (none-back IsFixed a.port.peer b.port.peer so.fixed) u.why;
      lives = told-then IsFixed (λ x y. y.mode ≡ Halted → Rose b.port.faults c.port.faults) (λ x y. y.mode ≡ Halted → Rose a.port.faults c.port.faults) (λ x y z p q h. later (q h)) a.port.peer b.port.peer c.port.peer so.fixed u.lives;
      fixed = told-then IsFixed IsFixed IsFixed fixed-then a.port.peer b.port.peer c.port.peer so.fixed u.fixed;
      grows = grows-then a.text b.text c.text so.grows u.grows;
      heard = λ h. u.heard (so.heard h);
      down = u.down;
      sound = u.sound;
      kept = Kept-trans a.port b.port c.port so.kept u.kept;
    }

-- After a step.
ran-next : (W : List ℕ → Type 0) (cost : ℕ) (plan : Lined) (n : ℕ) (step : Step) (a b c : Seen) → IsAlong plan n a b → IsStepped cost W step b c → slice_get plan.steps n ≡ Some step →
    OfTold a.port.peer c.port.peer (λ s t. run (take (suc n) plan.steps) s ≡ Some t)
ran-next W cost plan n step a b c al k at =
    told-then (λ s t. run (take n plan.steps) s ≡ Some t) (TookStep step) (λ s t. run (take (suc n) plan.steps) s ≡ Some t)
    (λ s t u p q. run_next plan.steps s t n step p at q.can_so ∙ ap Some (sym q.taken)) a.port.peer b.port.peer c.port.peer al.ran k.took

left-next : (steps : List Step) (n : ℕ) (s t : Dev) → n < length steps → is_halted t.mode ≡ false → run (take (suc n) steps) s ≡ Some t → LeftBehind steps s (suc n) t
left-next steps n s t h l e = left_serving steps s t (suc n) (left_taken steps s t (suc n) (omega (arith, h)) e) l

left-unprinted : (steps : List Step) (n : ℕ) (s t : Dev) → n < length steps → is_halted t.mode ≡ false → run (take (suc n) steps) s ≡ Some t → LeftBehind steps s n t
left-unprinted steps n s t h l e = left_serving steps s t n (left_unheard steps s t n (omega (arith, h)) e) l

-- a front of a line that lacks at least one byte
part-front : (before now : Option (List ℕ)) (line : List ℕ) → 0 < length line → GrewPart before now line → (k : ℕ) × (k < length line) × Grew before now (take k line)
part-front None None line s g = (0, s, tt)
part-front None (Some now) line s g = absurd g
part-front (Some before) None line s g = absurd g
part-front (Some before) (Some now) line s g = (g.count, g.fewer, g.grew)

line-some : (text : List ℕ) → 0 < length (text ++ 10 ∷ [])
line-some text = omega (arith, length-append text (10 ∷ []))

not-halted : (t : Dev) → is_halted t.mode ≡ false → t.mode ≡ Halted → ⊥
not-halted t l h = let n : is_halted Halted ≡ false = sym (ap is_halted h) ∙ l in cc

ran-left : (steps : List Step) (n : ℕ) (a c : Option Peer) → n < length steps → OfTold a c (λ s t. run (take (suc n) steps) s ≡ Some t) → OfTold a c (λ s t. is_halted t.mode ≡ false) → OfTold a c (λ s t. LeftBehind steps s (suc n) t × LeftBehind steps s n t)
ran-left steps n a c h r l =
    told-both (λ s t. run (take (suc n) steps) s ≡ Some t) (λ s t. is_halted t.mode ≡ false) (λ s t. LeftBehind steps s (suc n) t × LeftBehind steps s n t)
    (λ s t e q. (left-next steps n s t h q e, left-unprinted steps n s t h q e)) a c r l

line-breaks : (W : List ℕ → Type 0) (cost : ℕ) (plan : Lined) (n : ℕ) (step : Step) (line : List ℕ) (a b c : Seen) (text : Option (List ℕ)) (e : PortTold) → IsAlong plan n a b → IsStepped cost W step b c → slice_get plan.steps n ≡ Some step →
    slice_get plan.lines n ≡ Some line → 0 < length line → GrewPart c.text text line → HungUp c.port.peer e.peer → OfTold a.port.peer c.port.peer (λ s t. is_halted t.mode ≡ false) →
    OfTold a.port.peer e.peer (BreaksAt plan (suc n) stop.Output (a, seen e text))
line-breaks W cost plan n step line a b c text e al k at bt some g hung lives =
    let front = part-front c.text text line some g in
    let left = ran-left plan.steps n a.port.peer c.port.peer (slice_get_within plan.steps n step at) (ran-next W cost plan n step a b c al k at) lives in
    let quiet = told-then (λ s t. Grew a.text b.text (joined (take n plan.lines))) (λ s t. Grew b.text c.text []) (λ s t. Grew a.text text (joined (take n plan.lines) ++ take front.0 line))
    (λ s t u p q. Grew-append a.text c.text text (joined (take n plan.lines)) (take front.0 line)
    (subst (Grew a.text c.text) (append-nil (joined (take n plan.lines))) (Grew-append a.text b.text c.text (joined (take n plan.lines)) [] p q)) front.2) a.port.peer b.port.peer c.port.peer al.shown k.quiet in
    told-hung a.port.peer c.port.peer e.peer (BreaksAt plan (suc n) stop.Output (a, seen e text))
    (told-both (λ s t. LeftBehind plan.steps s (suc n) t × LeftBehind plan.steps s n t) (λ s t. Grew a.text text (joined (take n plan.lines) ++ take front.0 line)) (BreaksAt plan (suc n) stop.Output (a, seen e text))
    (λ s t p q. record {
      left = p.0;
      stuck = tt;
      shown = record { n = n; counted = refl; line = line; next = bt; k = front.0; short = front.1; grew = q; left = p.1 };
    }) a.port.peer c.port.peer left quiet) hung

lives-after : (r : Running) (n : ℕ) (o : Order) (a b c : Seen) → IsSoFar r n a b → IsTaken (taking r.from o) b c → OfTold a.port.peer c.port.peer (λ s t. is_halted t.mode ≡ false)
lives-after r n o a b c so t = told-then IsFixed (λ x y. is_halted y.mode ≡ false) (λ x y. is_halted y.mode ≡ false) (λ x y z p q. q) a.port.peer b.port.peer c.port.peer so.fixed t.lives

fixed-after : (r : Running) (n : ℕ) (o : Order) (a b c : Seen) → IsSoFar r n a b → IsTaken (taking r.from o) b c → OfTold a.port.peer c.port.peer IsFixed
fixed-after r n o a b c so t = told-then IsFixed IsFixed IsFixed fixed-then a.port.peer b.port.peer c.port.peer so.fixed t.fixed

pub Breaks-line : (F : List ℕ → Type 0) (r : Running) (n : ℕ) (o : Order) (a b c : Seen) (text : Option (List ℕ)) (e : PortTold) → slice_get r.plan n ≡ Some o → IsRunSoFar r n a b → IsTaken (taking r.from o) b c →
    GrewPart c.text text (step_line (work_of r.from.product).sizes o) → Drops c.port e → Sound e.peer → IsBrokenAt F r (suc n) (a, seen e text) stop.Output
unfolding IsRunSoFar
Breaks-line F r n o a b c text e at so t g d sound =
    let line = step_line (work_of r.from.product).sizes o in
    let lives = lives-after r n o a b c so t in
    record {
      exact = files-both r.from.files _ _ _ (λ files al k.
          line-breaks (λ wire. OfLink (λ w. SendsOrder files r.from.product r.from.most o wire) b.port.peer) (order_cost o) (lined files r) n (step_in files r.from.product o) line a b c text e al k (steps-at files r n o at) (lines-at files r n o at)
          (line-some _) g d.left lives) so.along t.exact;
      within = slice_get_within r.plan n o at;
      why = tt;
      lives = told-hung a.port.peer c.port.peer e.peer _ (told-more (λ x y. is_halted y.mode ≡ false) (λ x y. y.mode ≡ Halted → Rose a.port.faults e.faults) (λ x y q h. absurd (not-halted y q h)) a.port.peer c.port.peer lives) d.left;
      fixed = told-hung a.port.peer c.port.peer e.peer IsFixed (fixed-after r n o a b c so t) d.left;
      grows = grows-then a.text b.text text so.grows (grows-then b.text c.text text t.grows (grows-part c.text text line g));
      heard = λ h. tt;
      down = d.down;
      sound = sound;
      kept = Kept-trans a.port b.port e so.kept (Kept-trans b.port c.port e t.kept d.kept);
    }

-- After a reboot, where no connection began.
stuck-unbegun : (steps : List Step) (n : ℕ) (error : DriveError) (old e : PortTold) (H : List ℕ → Dev → Type 0) (s t : Dev) → (list_any step_leaves steps ≡ true → suc n < length steps) → WhyUnbegun old e error → IsStuckAt steps (suc n) error H s t
stuck-unbegun steps n stop.Memory old e H s t f w = absurd w
stuck-unbegun steps n (stop.Directory file) old e H s t f w = absurd w
stuck-unbegun steps n stop.Output old e H s t f w = absurd w
stuck-unbegun steps n stop.Link old e H s t f w = f
stuck-unbegun steps n stop.Ended old e H s t f w = tt
stuck-unbegun steps n (stop.Refused text) old e H s t f w = absurd w
stuck-unbegun steps n (stop.Peer x) old e H s t f w = tt
stuck-unbegun steps n stop.TooManyInfos old e H s t f w = absurd w
stuck-unbegun steps n (stop.Requirement line name value) old e H s t f w = absurd w
stuck-unbegun steps n (stop.Plan line kind) old e H s t f w = absurd w

shown-unbegun : (plan : Lined) (n : ℕ) (a : Seen) (c : PortTold) (text : Option (List ℕ)) (error : DriveError) (old : PortTold) → WhyUnbegun old c error → OfTold a.port.peer c.peer (λ s t. Grew a.text text (joined (take n plan.lines))) →
    OfTold a.port.peer c.peer (ShowsSteps plan n error (a, seen c text))
shown-unbegun plan n a c text stop.Memory old w g = absurd w
shown-unbegun plan n a c text (stop.Directory file) old w g = absurd w
shown-unbegun plan n a c text stop.Output old w g = absurd w
shown-unbegun plan n a c text stop.Link old w g = g
shown-unbegun plan n a c text stop.Ended old w g = g
shown-unbegun plan n a c text (stop.Refused x) old w g = absurd w
shown-unbegun plan n a c text (stop.Peer x) old w g = g
shown-unbegun plan n a c text stop.TooManyInfos old w g = absurd w
shown-unbegun plan n a c text (stop.Requirement line name value) old w g = absurd w
shown-unbegun plan n a c text (stop.Plan line kind) old w g = absurd w

barred-none : (a b : Option Peer) → OfTold a b (λ s t. is_fastboot t.mode ≡ true) → IsBarred b → ⊥
barred-none a None r k = k
barred-none None (Some b) r k = r
barred-none (Some a) (Some b) r k = let n : true ≡ false = sym r ∙ k in cc

why-unbegun : (F : List ℕ → Type 0) (a b e : PortTold) (error : DriveError) → Kept a b → (b.peer ≡ None → a.peer ≡ None) → (IsBarred b.peer → ⊥) → WhyUnbegun b e error → WhyStopped F a e error
why-unbegun F a b e stop.Memory kept back runs w = absurd w
why-unbegun F a b e (stop.Directory file) kept back runs w = absurd w
why-unbegun F a b e stop.Output kept back runs w = absurd w
why-unbegun F a b e stop.Link kept back runs (inl r) = (let l = kept.later in omega (arith, r, l))
why-unbegun F a b e stop.Link kept back runs (inr r) = absurd (runs r)
why-unbegun F a b e stop.Ended kept back runs w = (back w.0, (let r = w.1 in let l = kept.no_fewer in omega (arith, r, l)))
why-unbegun F a b e (stop.Refused text) kept back runs w = absurd w
why-unbegun F a b e (stop.Peer x) kept back runs w = back w
why-unbegun F a b e stop.TooManyInfos kept back runs w = absurd w
why-unbegun F a b e (stop.Requirement line name value) kept back runs w = absurd w
why-unbegun F a b e (stop.Plan line kind) kept back runs w = absurd w

-- a fact that follows from one of the device at the start
told-link : (X : Type 0) (R : Dev → Dev → Type 0) (a b : Option Peer) → OfLink (λ w. X) a → OfTold a b R → OfTold a b (λ s t. X)
told-link X R None None x r = tt
told-link X R None (Some b) x r = absurd r
told-link X R (Some (Apart dev)) b x r = absurd x
told-link X R (Some (Joined w)) None x r = absurd r
told-link X R (Some (Joined w)) (Some b) x r = x

link-fact : (P : Dev → Type 0) (X : Type 0) → ((d : Dev) → P d → X) → (a : Option Peer) → OfLink (λ w. P w.device) a → OfLink (λ w. X) a
link-fact P X f None p = tt
link-fact P X f (Some (Apart dev)) p = absurd p
link-fact P X f (Some (Joined w)) p = f w.device p

undone-next : (files : Files) (r : Running) (n : ℕ) (o : Order) → slice_get r.plan n ≡ Some o → is_leaving o ≡ false → leave_last r.plan ≡ true → list_any step_leaves (lined files r).steps ≡ true → suc n < length (lined files r).steps
undone-next files r n o at stays last any =
    by (slice_get_within r.plan n o at) (suc n == length r.plan) refl
  where
    by : n < length r.plan → (b : Bool) → (suc n == length r.plan) ≡ b → suc n < length (lined files r).steps
    by within true e =
        let same : suc n ≡ length r.plan = grind (arith, nat_tests) in
        absurd (let none = sym any ∙ (any-steps files r r.plan ∙ stay-all r.plan n o last at same stays) in cc)
    by within false e =
        let other : suc n < length r.plan = grind (arith, nat_tests, within) in
        omega (arith, other, length-map (step_of (images_of files r.from.product.tasks) (tables_in r.from.product.empty)) r.plan)

stuck-renewal : (files : Files) (r : Running) (n : ℕ) (o : Order) (a c : Option Peer) (error : DriveError) (old e : PortTold) (H : List ℕ → Dev → Type 0) → slice_get r.plan n ≡ Some o → is_leaving o ≡ false →
    OfTold a c (λ s t. leave_last r.plan ≡ true) → WhyUnbegun old e error → OfTold a c (IsStuckAt (lined files r).steps (suc n) error H)
stuck-renewal files r n o a c error old e H at stays last w =
    told-more (λ s t. leave_last r.plan ≡ true) (IsStuckAt (lined files r).steps (suc n) error H)
    (λ s t l. stuck-unbegun (lined files r).steps n error old e H s t (λ any. undone-next files r n o at stays l any) w) a c last

pub Breaks-settling : (F : List ℕ → Type 0) (r : Running) (n : ℕ) (o : Order) (a b c : Seen) (text : Option (List ℕ)) (e : PortTold) (error : DriveError) → slice_get r.plan n ≡ Some o → is_renewing o ≡ true →
    OfLink (λ w. IsFor r.plan r.from.most w.device) a.port.peer → IsRunSoFar r n a b → IsTaken (taking r.from o) b c → Grew c.text text (step_line (work_of r.from.product).sizes o) → IsUnbegun c.port e error →
    IsBrokenAt F r (suc n) (a, seen e text) error
unfolding IsRunSoFar
Breaks-settling F r n o a b c text e error at renews fit so t put u =
    let lives = lives-after r n o a b c so t in
    let fixed = fixed-after r n o a b c so t in
    let stays = renews-not-leaving o renews in
    let end = told-is a.port.peer c.port.peer e.peer IsFixed fixed u.still in
    let last = told-link (leave_last r.plan ≡ true) IsFixed a.port.peer e.peer (link-fact (IsFor r.plan r.from.most) (leave_last r.plan ≡ true) (λ d f. f.last) a.port.peer fit) end in
    let kept = Kept-trans a.port b.port c.port so.kept t.kept in
    let alive = told-is a.port.peer c.port.peer e.peer (λ x y. is_halted y.mode ≡ false) lives u.still in
    record {
      exact = files-both r.from.files _ _ _ (λ files al k.
          let next = along-taken files r n o a b c text at put al k in
          let ran = told-is a.port.peer c.port.peer e.peer (λ s t. run (take (suc n) (lined files r).steps) s ≡ Some t) next.ran u.still in
          let left = ran-left (lined files r).steps n a.port.peer e.peer (slice_get_within (lined files r).steps n (step_in files r.from.product o) (steps-at files r n o at)) ran alive in
          breaks (lined files r) (suc n) error a (seen e text)
          (told-more (λ s t. LeftBehind (lined files r).steps s (suc n) t × LeftBehind (lined files r).steps s n t) (λ s t. LeftBehind (lined files r).steps s (suc n) t) (λ s t p. p.0) a.port.peer e.peer left)
          (stuck-renewal files r n o a.port.peer e.peer error c.port e (IsHaltedNow a.port.faults e.faults) at stays last u.why)
          (shown-unbegun (lined files r) (suc n) a e text error c.port u.why (told-is a.port.peer c.port.peer e.peer (λ s t. Grew a.text text (joined (take (suc n) (lined files r).lines))) next.shown u.still))) so.along t.exact;
      within = slice_get_within r.plan n o at;
      why = why-unbegun F a.port c.port e error kept (none-back IsFixed a.port.peer c.port.peer fixed) (barred-none b.port.peer c.port.peer (t.runs stays)) u.why;
      lives = told-more (λ x y. is_halted y.mode ≡ false) (λ x y. y.mode ≡ Halted → Rose a.port.faults e.faults) (λ x y q h. absurd (not-halted y q h)) a.port.peer e.peer alive;
      fixed = end;
      grows = grows-then a.text b.text text so.grows (grows-then b.text c.text text t.grows (grows-line c.text text (step_line (work_of r.from.product).sizes o) put));
      heard = λ h. u.heard;
      down = u.down;
      sound = u.sound;
      kept = Kept-trans a.port c.port e kept u.kept;
    }

-- counted as a program counts
pub Breaks-counted : (F : List ℕ → Type 0) (r : Running) (n : ℕ) (views : Seen × Seen) (error : DriveError) → IsBrokenAt F r (suc n) views error → IsBrokenAt F r (n + 1) views error
Breaks-counted F r n views error k = subst (λ m. IsBrokenAt F r m views error) more k
  where
    more : suc n ≡ n + 1
    more = omega arith
