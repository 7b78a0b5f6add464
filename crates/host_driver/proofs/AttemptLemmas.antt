-- What one attempt comes to, joined of its connection, its plan and its steps.
use Rattle.std.proofs.Common.{◌≡◌, ◌⊎◌, inl, inr, ℕ, ◌+◌, ◌-◌, ◌^◌, ◌<◌, ◌≤◌, Bool, true, false, Option, Some, None, List, [], ◌∷◌, ◌++◌, length, take, take_all, refl, sym, ap, ◌∙◌, subst, arith, append_assoc}
use Rattle.std.specs.Prelude.{is_some, MatchBool, IfSome, IfErr, OnOk, Result, Ok, Err}
use Rattle.std.specs.List.{list_any}
use Rattle.fb_frame.specs.Causes.{Rose}
use Rattle.fb_frame.specs.Greeting.{handshake}
use Rattle.fb_frame.specs.Sinks.{Grew}
use Rattle.fb_frame.proofs.SinkLemmas.{Grew-nothing}
use Rattle.dev_model.specs.declared.device.Dev.{Dev}
use Rattle.dev_model.specs.declared.device.Mode.TheVariants.{Halted}
use Rattle.dev_model.specs.declared.step.Step.{Step}
use Rattle.dev_model.specs.Attempts.{LeftBehind, is_halted}
use Rattle.dev_model.specs.Partitions.{is_fastboot}
use Rattle.dev_model.specs.Steps.{run, leaves}
use Rattle.dev_model.proofs.LeavingLemmas.{left_taken, left_serving, in-first}
use Rattle.wire_told.specs.Peers.{Peer, Apart, Joined, device_of, OfLink}
use Rattle.wire_told.specs.Ports.{PortTold, Kept}
use Rattle.wire_told.proofs.PortLemmas.{Kept-trans}
use Rattle.flash_plan.specs.Files.{Files}
use Rattle.flash_plan.specs.Products.{OfFiles, IsWhole}
use Rattle.flash_plan.specs.Questions.{questions}
use Rattle.fb_link.specs.Seen.{Seen, seen}
use Rattle.host_driver.specs.declared.drive.DriveError.{DriveError}
use Rattle.host_driver.specs.declared.drive.DriveError.TheVariants as stop
use Rattle.host_driver.specs.declared.prepare.Prepared.{Prepared}
use Rattle.host_driver.specs.Attempting.{Lined, IsAlong}
use Rattle.host_driver.specs.Beginning.{IsBegun, IsUnbegun, WhyUnbegun}
use Rattle.host_driver.specs.Driven.{IsHaltedNow}
use Rattle.host_driver.specs.Driving.{Grows, StillFolder}
use Rattle.host_driver.specs.HeardLast.{HeardThen}
use Rattle.host_driver.specs.Jobs.{Order, Outside, outside, OfTold, job}
use Rattle.host_driver.specs.Preparing.{asks_of, MakesPlan, IsPrepared, IsUnprepared, WhyUnprepared, Unplans, ShowsAsks}
use Rattle.host_driver.specs.Printing.{joined}
use Rattle.host_driver.specs.Questioning.{OfDevice}
use Rattle.host_driver.specs.Running.{Running, running, lined, IsOf, IsFor, IsDoneAll, IsBrokenAt, IsUnreadNext, IsNextRefused, BreaksAt}
use Rattle.host_driver.specs.Stepping.{Serving, IsFixed, WhyStopped}
use Rattle.host_driver.specs.Taking.{supply}
use Rattle.host_driver.specs.Trying.{IsUsable, came, Trial, trial, StaysKept, IsPlanFor, PlansFor, WhyTried, StepsEnd, TookSteps, asks_first, CameTo, IsTriedOver, IsTried}
use Rattle.host_driver.specs.Wires.{WiresOrders, LogGrew, IsWire, asked_wire}
use Rattle.host_driver.proofs.AlongLemmas.{told-then, told-more, grows-then}
use Rattle.host_driver.proofs.DriveFixed.{fixed-is}
use Rattle.host_driver.proofs.DrivePlans.{plan-of, plan-for}
use Rattle.host_driver.proofs.DriveTaken.{serving-less}
use Rattle.host_driver.proofs.HaltLemmas.{running as runs-not-halted}
use Rattle.host_driver.proofs.LoopLemmas.{files-more, files-all, told-both, told-served, none-back, log-then, length-map}

-- the part of MatchBool that holds
pub by-bool : (b : Bool) (P Q : Type 0) → (b ≡ true → P) → (b ≡ false → Q) → MatchBool b P Q
by-bool true P Q f g = f refl
by-bool false P Q f g = g refl

-- facts of told files over told devices
pub told-files : (o : Option Files) (R : Dev → Dev → Type 0) (P : Files → Dev → Dev → Type 0) (a b : Option Peer) → OfTold a b R → OfFiles o (λ files. OfTold a b (P files)) → OfTold a b (λ s t. OfFiles o (λ files. P files s t))
told-files None R P a b r p = told-more R (λ s t. Unit {0}) (λ s t q. tt) a b r
told-files (Some files) R P a b r p = p

-- a device that is told is one over a connection that serves
link-told : (P : Dev → Type 0) (n : ℕ) (a b : Option Peer) → Serving n b → OfTold a b (λ s t. P t) → OfLink (λ w. P w.device) b
link-told P n None None q r = tt
link-told P n None (Some b) q r = absurd r
link-told P n (Some a) None q r = absurd r
link-told P n (Some a) (Some (Apart dev)) q r = absurd q
link-told P n (Some a) (Some (Joined w)) q r = r

device-told : (P : Dev → Type 0) (R : Dev → Dev → Type 0) (a b : Option Peer) → OfDevice P a → OfTold a b R → OfTold a b (λ s t. P s × R s t)
device-told P R None None p r = tt
device-told P R None (Some b) p r = absurd r
device-told P R (Some a) None p r = absurd r
device-told P R (Some a) (Some b) p r = (p, r)

not-fastboot : (s : Dev) (X : Type 0) → is_fastboot s.mode ≡ true → is_fastboot s.mode ≡ false → X
not-fastboot s X e f = absurd (let n : true ≡ false = sym e ∙ f in cc)

left-nothing : (steps : List Step) (s : Dev) → is_fastboot s.mode ≡ true → LeftBehind steps s 0 s
left-nothing steps s f = left_serving steps s s 0 (left_taken steps s s 0 (omega arith) refl) (runs-not-halted s.mode f)

any-some : (steps : List Step) → list_any leaves steps ≡ true → 0 < length steps
any-some [] e = absurd cc
any-some (step ∷ steps) e = omega arith

-- No connection began.
why-unbegun : (order : Order) (kept : Option Prepared) (old : Outside) (link : PortTold) (error : DriveError) → WhyUnbegun old.port link error →
    WhyTried order (trial old (outside link old.folder old.text old.unput) (came kept kept 0 (Err error))) (Err error)
why-unbegun order kept old link stop.Memory w = tt
why-unbegun order kept old link (stop.Directory file) w = absurd w
why-unbegun order kept old link stop.Output w = absurd w
why-unbegun order kept old link stop.Link w = w
why-unbegun order kept old link stop.Ended w = w
why-unbegun order kept old link (stop.Refused text) w = absurd w
why-unbegun order kept old link (stop.Peer x) w = w
why-unbegun order kept old link stop.TooManyInfos w = absurd w
why-unbegun order kept old link (stop.Requirement line name value) w = absurd w
why-unbegun order kept old link (stop.Plan line kind) w = absurd w

stays-same : (kept : Option Prepared) → StaysKept kept kept
stays-same None = tt
stays-same (Some p) = refl

own-usable : (order : Order) (a : Option Peer) (kept : Option Prepared) → IfSome kept (IsUsable order.product a) → IfSome kept (λ p. (131072 ≤ p.max) × IsOf order.product p.plan)
own-usable order a None u = tt
own-usable order a (Some p) u = (u.large, u.own)

plans-same : (order : Order) (kept : Option Prepared) (s t : Dev) → t ≡ s → PlansFor order kept kept s t
plans-same order None s t e = e
plans-same order (Some p) s t e = tt

came-unbegun : (order : Order) (files : Files) (kept : Option Prepared) (old : Outside) (link : PortTold) (s t : Dev) → t ≡ s →
    CameTo order files (trial old (outside link old.folder old.text old.unput) (came kept kept 0 (Err stop.Link))) (s, t) kept
came-unbegun order files None old link s t e = (refl, tt, record { count = 0; grew = Grew-nothing old.text })
came-unbegun order files (Some p) old link s t e =
    let plan = lined files (running (supply (Some files) order.product p.max) p.plan) in
    by-bool (is_fastboot s.mode) _ _
    (λ f. record {
      middle = old.text;
      asked = Grew-nothing old.text;
      took = record {
        left = subst (λ d. LeftBehind plan.steps s 0 d) (sym e) (left-nothing plan.steps s f);
        stuck = λ any. any-some plan.steps any;
        shown = Grew-nothing old.text;
      };
    })
    (λ f. Grew-nothing old.text)

one-unbegun : (order : Order) (kept : Option Prepared) (old : Outside) (link : PortTold) (s t : Dev) → t ≡ s →
    IsTriedOver order (trial old (outside link old.folder old.text old.unput) (came kept kept 0 (Err stop.Link))) s t
one-unbegun order kept old link s t e = record {
  halted = λ h. inl (ap (λ (d : Dev). d.mode) (sym e) ∙ h);
  fixed = fixed-is s t e;
  plans = plans-same order kept s t e;
  barred = λ f. record { same = e; keeps = refl; none = refl; end = refl };
  came_to = files-all old.folder.files _ (λ files. came-unbegun order files kept old link s t e);
  wired = files-all old.folder.files _ (λ files k. tt);
}

untold-not : (X : Type 0) (p : Peer) (a : Option Peer) → a ≡ Some p → a ≡ None → X
untold-not X p a e n = absurd cc

link-only : (old link : PortTold) (p : Peer) (error : DriveError) → old.peer ≡ Some p → WhyUnbegun old link error → error ≡ stop.Link
link-only old link p stop.Memory e w = absurd w
link-only old link p (stop.Directory file) e w = absurd w
link-only old link p stop.Output e w = absurd w
link-only old link p stop.Link e w = refl
link-only old link p stop.Ended e w = untold-not _ p old.peer e w.0
link-only old link p (stop.Refused text) e w = absurd w
link-only old link p (stop.Peer x) e w = untold-not _ p old.peer e w
link-only old link p stop.TooManyInfos e w = absurd w
link-only old link p (stop.Requirement line name value) e w = absurd w
link-only old link p (stop.Plan line kind) e w = absurd w

over-unbegun : (order : Order) (kept : Option Prepared) (old : Outside) (link : PortTold) (error : DriveError) (a b : Option Peer) → old.port.peer ≡ a → OfTold a b (λ s t. t ≡ s) → WhyUnbegun old.port link error →
    OfTold a b (IsTriedOver order (trial old (outside link old.folder old.text old.unput) (came kept kept 0 (Err error))))
over-unbegun order kept old link error None None e r w = tt
over-unbegun order kept old link error None (Some y) e r w = absurd r
over-unbegun order kept old link error (Some x) None e r w = absurd r
over-unbegun order kept old link error (Some x) (Some y) e r w =
    subst (λ k. IsTriedOver order (trial old (outside link old.folder old.text old.unput) (came kept kept 0 (Err k))) (device_of x) (device_of y)) (sym (link-only old.port link x error e w))
    (one-unbegun order kept old link (device_of x) (device_of y) r)

pub Tried-unbegun : (order : Order) (kept : Option Prepared) (old : Outside) (link : PortTold) (error : DriveError) → IfSome kept (IsUsable order.product old.port.peer) → IsUnbegun old.port link error →
    IsTried order (trial old (outside link old.folder old.text old.unput) (came kept kept 0 (Err error)))
Tried-unbegun order kept old link error usable u = record {
  why = why-unbegun order kept old link error u.why;
  heard = u.heard;
  stays = stays-same kept;
  own = own-usable order old.port.peer kept usable;
  over = over-unbegun order kept old link error old.port.peer link.peer refl u.still u.why;
  grows = record { more = []; grew = Grew-nothing old.text };
  kept = u.kept;
  down = u.down;
  sound = u.sound;
  folder = record { path = refl; files = refl; entered = refl; later = omega arith };
  shown_later = omega arith;
}

-- A connection began, and no plan was made.
why-unprepared : (order : Order) (old : Outside) (mid link : PortTold) (text : Option (List ℕ)) (unput : ℕ) (error : DriveError) → Kept old.port mid → (mid.peer ≡ None → old.port.peer ≡ None) → (error ≡ stop.Output → Rose old.unput unput) →
    WhyUnprepared order mid link error → WhyTried order (trial old (outside link old.folder text unput) (came None None 0 (Err error))) (Err error)
why-unprepared order old mid link text unput stop.Memory k back out w = tt
why-unprepared order old mid link text unput (stop.Directory file) k back out w = absurd w
why-unprepared order old mid link text unput stop.Output k back out w = out refl
why-unprepared order old mid link text unput stop.Link k back out w = inl (let l = k.later in omega (arith, w, l))
why-unprepared order old mid link text unput stop.Ended k back out w = (back w.0, (let r = w.1 in let l = k.no_fewer in omega (arith, r, l)))
why-unprepared order old mid link text unput (stop.Refused x) k back out w = λ e. back w
why-unprepared order old mid link text unput (stop.Peer x) k back out w = back w
why-unprepared order old mid link text unput stop.TooManyInfos k back out w = back w
why-unprepared order old mid link text unput (stop.Requirement line name value) k back out w = (refl, w.0, w.1)
why-unprepared order old mid link text unput (stop.Plan line kind) k back out w = refl

-- what is known of a device at which no plan was made
record Unmade (order : Order) (error : DriveError) (before now : Option (List ℕ)) (s t : Dev) : Type 0 where
  same : t ≡ s
  unplans : Unplans order error s t
  shown : ShowsAsks (asks_of order s) error before now

begun-runs : (old mid : PortTold) → IsBegun old mid → OfTold old.peer mid.peer (λ s t. (t ≡ s) × (is_fastboot s.mode ≡ true))
begun-runs old mid g =
    told-served (2 ^ 61 - 4) old.peer mid.peer (λ s t. t ≡ s) (λ s t. (t ≡ s) × (is_fastboot s.mode ≡ true))
    (λ s t e f. (e, ap (λ (d : Dev). is_fastboot d.mode) (sym e) ∙ f)) g.serving g.same

one-unprepared : (order : Order) (old : Outside) (link : PortTold) (text : Option (List ℕ)) (unput : ℕ) (error : DriveError) (s t : Dev) → is_fastboot s.mode ≡ true → Unmade order error old.text text s t →
    IsTriedOver order (trial old (outside link old.folder text unput) (came None None 0 (Err error))) s t
one-unprepared order old link text unput error s t f u = record {
  halted = λ h. inl (ap (λ (d : Dev). d.mode) (sym u.same) ∙ h);
  fixed = fixed-is s t u.same;
  plans = u.same;
  barred = λ g. not-fastboot s _ f g;
  came_to = files-all old.folder.files _ (λ files. (refl, u.unplans, u.shown));
  wired = files-all old.folder.files _ (λ files k. tt);
}

pub Tried-unprepared : (order : Order) (old : Outside) (mid link : PortTold) (text : Option (List ℕ)) (unput : ℕ) (error : DriveError) → IsBegun old.port mid → IsUnprepared order (seen mid old.text) (seen link text) error →
    old.unput ≤ unput → (error ≡ stop.Output → Rose old.unput unput) → IsTried order (trial old (outside link old.folder text unput) (came None None 0 (Err error)))
Tried-unprepared order old mid link text unput error g u later out =
    let unmade = told-both (λ s t. (t ≡ s) × Unplans order error s t) (λ s t. ShowsAsks (asks_of order s) error old.text text) (Unmade order error old.text text) (λ s t p q. record { same = p.0; unplans = p.1; shown = q }) mid.peer link.peer
    (told-both (λ s t. t ≡ s) (Unplans order error) (λ s t. (t ≡ s) × Unplans order error s t) (λ s t p q. (p, q)) mid.peer link.peer u.still u.unplans) u.shown in
    record {
      why = why-unprepared order old mid link text unput error g.kept (none-back (λ s t. t ≡ s) old.port.peer mid.peer g.same) out u.why;
      heard = u.heard g.heard;
      stays = tt;
      own = tt;
      over = told-then (λ s t. (t ≡ s) × (is_fastboot s.mode ≡ true)) (Unmade order error old.text text) (IsTriedOver order (trial old (outside link old.folder text unput) (came None None 0 (Err error))))
          (λ s m t p q. one-unprepared order old link text unput error s t p.1 (subst (λ d. Unmade order error old.text text d t) p.0 q)) old.port.peer mid.peer link.peer (begun-runs old.port mid g) unmade;
      grows = u.grows;
      kept = Kept-trans old.port mid link g.kept u.kept;
      down = u.down;
      sound = u.sound;
      folder = record { path = refl; files = refl; entered = refl; later = omega arith };
      shown_later = later;
    }

-- A connection began, over which the plan is to be run; these lines were shown.
pub record Met (order : Order) (kept : Option Prepared) (p : Prepared) (old : Outside) (now : Seen) : Type 0 where
  pub large : 131072 ≤ p.max
  pub own : IsOf order.product p.plan
  pub stays : StaysKept kept (Some p)
  pub same : OfTold old.port.peer now.port.peer (λ s t. (t ≡ s) × (is_fastboot s.mode ≡ true))
  pub plans : OfTold old.port.peer now.port.peer (λ s t. IsPlanFor order kept p s)
  pub shown : OfTold old.port.peer now.port.peer (λ s t. Grew old.text now.text (joined (asks_first order kept s)))
  pub serving : Serving (2 ^ 60) now.port.peer
  pub fits : OfLink (λ w. IsFor p.plan p.max w.device) now.port.peer
  pub log : kept ≡ None → LogGrew old.port.log now.port.log (λ bytes. OfTold old.port.peer now.port.peer (λ s t.
      bytes ≡ handshake 1 ++ asked_wire (questions order.product order.options s)))
  pub heard : HeardThen now.port.heard []
  pub grows : Grows old.text now.text
  pub held : Kept old.port now.port

pub met-kept : (order : Order) (p : Prepared) (old : Outside) (mid : PortTold) → IsUsable order.product old.port.peer p → IsBegun old.port mid → Met order (Some p) p old (seen mid old.text)
met-kept order p old mid u g =
    let both = begun-runs old.port mid g in
    record {
      large = u.large;
      own = u.own;
      stays = refl;
      same = both;
      plans = told-more _ (λ s t. Unit {0}) (λ s t q. tt) old.port.peer mid.peer both;
      shown = told-more _ (λ s t. Grew old.text old.text []) (λ s t q. Grew-nothing old.text) old.port.peer mid.peer both;
      serving = serving-less (2 ^ 61 - 4) (2 ^ 60) mid.peer (omega arith) g.serving;
      fits = link-told (IsFor p.plan p.max) (2 ^ 61 - 4) old.port.peer mid.peer g.serving
          (told-more (λ s t. IsFor p.plan p.max s × (t ≡ s)) (λ s t. IsFor p.plan p.max t) (λ s t q. subst (IsFor p.plan p.max) (sym q.1) q.0) old.port.peer mid.peer
          (device-told (IsFor p.plan p.max) (λ s t. t ≡ s) old.port.peer mid.peer u.fits g.same));
      log = λ e. absurd cc;
      heard = g.heard;
      grows = record { more = []; grew = Grew-nothing old.text };
      held = g.kept;
    }

pub met-made : (order : Order) (p : Prepared) (old : Outside) (mid : PortTold) (now : Seen) → IsWhole order.product → IsBegun old.port mid → IsPrepared order p.plan p.max (seen mid old.text) now → Met order None p old now
met-made order p old mid now whole g q =
    let runs = begun-runs old.port mid g in
    let a = old.port.peer in
    let b = mid.peer in
    let c = now.port.peer in
    let served : Serving (2 ^ 60) c = q.serving (2 ^ 60) (serving-less (2 ^ 61 - 4) (4194304 + 2 ^ 60) b (omega arith) g.serving) in
    record {
      large = q.large;
      own = plan-of order.product order.options q.facts p.plan whole q.made;
      stays = tt;
      same = told-then (λ s t. (t ≡ s) × (is_fastboot s.mode ≡ true)) (λ s t. (t ≡ s) × MakesPlan order p.plan p.max s) (λ s t. (t ≡ s) × (is_fastboot s.mode ≡ true))
          (λ s m t x y. (y.0 ∙ x.0, x.1)) a b c runs q.told;
      plans = told-then (λ s t. (t ≡ s) × (is_fastboot s.mode ≡ true)) (λ s t. (t ≡ s) × MakesPlan order p.plan p.max s) (λ s t. MakesPlan order p.plan p.max s × (is_fastboot s.mode ≡ true))
          (λ s m t x y. (subst (MakesPlan order p.plan p.max) x.0 y.1, x.1)) a b c runs q.told;
      shown = told-then (λ s t. t ≡ s) (λ s t. Grew old.text now.text (joined (asks_of order s))) (λ s t. Grew old.text now.text (joined (asks_of order s)))
          (λ s m t x y. subst (λ d. Grew old.text now.text (joined (asks_of order d))) x y) a b c g.same q.shown;
      serving = served;
      fits = link-told (IsFor p.plan p.max) (2 ^ 60) b c served
          (told-more (λ s t. (t ≡ s) × MakesPlan order p.plan p.max s) (λ s t. IsFor p.plan p.max t) (λ s t x. plan-for order.product order.options p.max s t p.plan whole x.1.planned x.1.most_is (fixed-is s t x.0)) b c q.told);
      log = λ e. log-then (λ bytes. bytes ≡ handshake 1) (λ bytes. OfTold b c (λ s t. bytes ≡ asked_wire (questions order.product order.options s)))
          (λ bytes. OfTold a c (λ s t. bytes ≡ handshake 1 ++ asked_wire (questions order.product order.options s)))
          (λ x y h k. told-then (λ s t. t ≡ s) (λ s t. y ≡ asked_wire (questions order.product order.options s)) (λ s t. x ++ y ≡ handshake 1 ++ asked_wire (questions order.product order.options s))
          (λ s m t same z. ap (λ l. l ++ y) h ∙ ap (λ l. handshake 1 ++ l) (z ∙ ap (λ d. asked_wire (questions order.product order.options d)) same)) a b c g.same k) old.port.log mid.log now.port.log g.log q.log;
      heard = q.heard g.heard;
      grows = q.grows;
      held = Kept-trans old.port mid now.port g.kept q.kept;
    }

pub met-any : {X : Type 0} (told : X → PortTold) (order : Order) (kept : Option Prepared) (p : Prepared) (old : Outside) (first made : X) (text : Option (List ℕ)) → IsWhole order.product → IfSome kept (IsUsable order.product old.port.peer) → IsBegun old.port (told first) →
    ((q : Prepared) → kept ≡ Some q → (made ≡ first) × (p ≡ q)) → (is_some kept ≡ true → text ≡ old.text) → (kept ≡ None → IsPrepared order p.plan p.max (seen (told first) old.text) (seen (told made) text)) → Met order kept p old (seen (told made) text)
met-any told order None p old first made text whole u g k quiet q = met-made order p old (told first) (seen (told made) text) whole g (q refl)
met-any told order (Some kept) p old first made text whole u g k quiet q =
    let e = k kept refl in
    let base : Met order (Some p) p old (seen (told first) old.text) = met-kept order p old (told first) (subst (IsUsable order.product old.port.peer) (sym e.1) u) g in
    let same : Met order (Some kept) p old (seen (told first) old.text) = subst (λ y. Met order (Some y) p old (seen (told first) old.text)) e.1 base in
    subst (λ x. Met order (Some kept) p old (seen (told x) text)) (sym e.0) (subst (λ t. Met order (Some kept) p old (seen (told first) t)) (sym (quiet refl)) same)

-- The plan was run.
why-ran : (order : Order) (kept : Option Prepared) (p : Prepared) (count : ℕ) (old new : Outside) (mid : PortTold) (error : DriveError) → Kept old.port mid → (mid.peer ≡ None → old.port.peer ≡ None) → (error ≡ stop.Output → Rose old.unput new.unput) →
    WhyStopped (IsUnreadNext (running (supply old.folder.files order.product p.max) p.plan) count old.folder.faults new.folder.faults) mid new.port error → WhyTried order (trial old new (came kept (Some p) count (Err error))) (Err error)
why-ran order kept p count old new mid stop.Memory k back out w = tt
why-ran order kept p count old new mid (stop.Directory file) k back out w = (w.3, (w.0, w.1, w.2))
why-ran order kept p count old new mid stop.Output k back out w = out refl
why-ran order kept p count old new mid stop.Link k back out w = inl (let l = k.later in omega (arith, w, l))
why-ran order kept p count old new mid stop.Ended k back out w = (back w.0, (let r = w.1 in let l = k.no_fewer in omega (arith, r, l)))
why-ran order kept p count old new mid (stop.Refused x) k back out w = λ e. absurd cc
why-ran order kept p count old new mid (stop.Peer x) k back out w = back w
why-ran order kept p count old new mid stop.TooManyInfos k back out w = back w
why-ran order kept p count old new mid (stop.Requirement line name value) k back out w = absurd w
why-ran order kept p count old new mid (stop.Plan line kind) k back out w = absurd w

-- counts of an earlier time
breaks-since : (plan : Lined) (n : ℕ) (error : DriveError) (a b : PortTold) (text : Option (List ℕ)) (c : Seen) (s t : Dev) → a.faults ≤ b.faults → BreaksAt plan n error (seen b text, c) s t → BreaksAt plan n error (seen a text, c) s t
breaks-since plan n stop.Memory a b text c s t l k = record { left = k.left; stuck = tt; shown = k.shown }
breaks-since plan n (stop.Directory file) a b text c s t l k = record { left = k.left; stuck = tt; shown = k.shown }
breaks-since plan n stop.Output a b text c s t l k = record { left = k.left; stuck = tt; shown = k.shown }
breaks-since plan n stop.Link a b text c s t l k = record { left = k.left; stuck = k.stuck; shown = k.shown }
breaks-since plan n stop.Ended a b text c s t l k = record { left = k.left; stuck = tt; shown = k.shown }
breaks-since plan n (stop.Refused x) a b text c s t l k = record { left = k.left; stuck = by k.stuck; shown = k.shown }
  where
    by : IsNextRefused plan.steps n x s t ⊎ IsHaltedNow b.faults c.port.faults x t → IsNextRefused plan.steps n x s t ⊎ IsHaltedNow a.faults c.port.faults x t
    by (inl r) = inl r
    by (inr h) = inr ((let r = h.0 in omega (arith, r, l)), h.1, h.2)
breaks-since plan n (stop.Peer x) a b text c s t l k = record { left = k.left; stuck = tt; shown = k.shown }
breaks-since plan n stop.TooManyInfos a b text c s t l k = record { left = k.left; stuck = tt; shown = k.shown }
breaks-since plan n (stop.Requirement line name value) a b text c s t l k = record { left = k.left; stuck = tt; shown = k.shown }
breaks-since plan n (stop.Plan line kind) a b text c s t l k = record { left = k.left; stuck = tt; shown = k.shown }

-- what a device comes to by the steps, as far as it is told
record Stepped (x : Trial) (plan : Files → Lined) (middle : Option (List ℕ)) (s t : Dev) : Type 0 where
  halted : t.mode ≡ Halted → Rose x.old.port.faults x.new.port.faults
  fixed : IsFixed s t
  took : OfFiles x.old.folder.files (λ files. StepsEnd (plan files) x.came.count (seen x.old.port middle, seen x.new.port x.new.text) (s, t) x.came.end)

one-ran : (order : Order) (kept : Option Prepared) (p : Prepared) (old new : Outside) (count : ℕ) (end : Result (Unit {0}) DriveError) (middle : Option (List ℕ)) (s t : Dev) → is_fastboot s.mode ≡ true → IsPlanFor order kept p s →
    Grew old.text middle (joined (asks_first order kept s)) → Stepped (trial old new (came kept (Some p) count end)) (λ files. lined files (running (supply (Some files) order.product p.max) p.plan)) middle s t →
    OfFiles old.folder.files (λ files. kept ≡ None → OnOk end (LogGrew old.port.log new.port.log (IsWire (job order files s)))) →
    IsTriedOver order (trial old new (came kept (Some p) count end)) s t
one-ran order kept p old new count end middle s t f q g k w = record {
  halted = λ h. inr (k.halted h);
  fixed = k.fixed;
  plans = q;
  barred = λ b. not-fastboot s _ f b;
  came_to = files-more old.folder.files _ _ (λ files took. in-first (is_fastboot s.mode) (TookSteps (asks_first order kept s) (lined files (running (supply (Some files) order.product p.max) p.plan)) (trial old new (came kept (Some p) count end)) s t)
      (Grew old.text new.text []) f (record { middle = middle; asked = g; took = took })) k.took;
  wired = w;
}

over-ran : (order : Order) (kept : Option Prepared) (p : Prepared) (old new : Outside) (count : ℕ) (end : Result (Unit {0}) DriveError) (mid : Seen) → Met order kept p old mid →
    OfTold mid.port.peer new.port.peer (Stepped (trial old new (came kept (Some p) count end)) (λ files. lined files (running (supply (Some files) order.product p.max) p.plan)) mid.text) →
    OfTold old.port.peer new.port.peer (λ s t. OfFiles old.folder.files (λ files. kept ≡ None → OnOk end (LogGrew old.port.log new.port.log (IsWire (job order files s))))) →
    OfTold old.port.peer new.port.peer (IsTriedOver order (trial old new (came kept (Some p) count end)))
over-ran order kept p old new count end mid m k w =
    let x = trial old new (came kept (Some p) count end) in
    let plan : Files → Lined = λ files. lined files (running (supply (Some files) order.product p.max) p.plan) in
    let a = old.port.peer in
    let b = mid.port.peer in
    let c = new.port.peer in
    let first = told-both (λ s t. (t ≡ s) × (is_fastboot s.mode ≡ true)) (λ s t. IsPlanFor order kept p s) (λ s t. (t ≡ s) × (is_fastboot s.mode ≡ true) × IsPlanFor order kept p s) (λ s t y z. (y.0, y.1, z)) a b m.same m.plans in
    let all = told-both (λ s t. (t ≡ s) × (is_fastboot s.mode ≡ true) × IsPlanFor order kept p s) (λ s t. Grew old.text mid.text (joined (asks_first order kept s)))
    (λ s t. (t ≡ s) × (is_fastboot s.mode ≡ true) × IsPlanFor order kept p s × Grew old.text mid.text (joined (asks_first order kept s))) (λ s t y z. (y.0, y.1, y.2, z)) a b first m.shown in
    told-both (λ s t. (is_fastboot s.mode ≡ true) × IsPlanFor order kept p s × Grew old.text mid.text (joined (asks_first order kept s)) × Stepped x plan mid.text s t)
    (λ s t. OfFiles old.folder.files (λ files. kept ≡ None → OnOk end (LogGrew old.port.log new.port.log (IsWire (job order files s))))) (IsTriedOver order x)
    (λ s t y z. one-ran order kept p old new count end mid.text s t y.0 y.1 y.2 y.3 z) a c
    (told-then (λ s t. (t ≡ s) × (is_fastboot s.mode ≡ true) × IsPlanFor order kept p s × Grew old.text mid.text (joined (asks_first order kept s))) (Stepped x plan mid.text)
    (λ s t. (is_fastboot s.mode ≡ true) × IsPlanFor order kept p s × Grew old.text mid.text (joined (asks_first order kept s)) × Stepped x plan mid.text s t)
    (λ s u t y z. (y.1, y.2, y.3, subst (λ d. Stepped x plan mid.text d t) y.0 z)) a b c all k) w

-- All steps were taken.
whole-take : {X : Type 0} (xs : List X) (n : ℕ) → length xs ≡ n → take n xs ≡ xs
whole-take xs n e = take_all n xs (omega (arith, e))

alive-not : (t : Dev) (X : Type 0) → is_halted t.mode ≡ false → t.mode ≡ Halted → X
alive-not t X l h = absurd (let n : is_halted Halted ≡ false = sym (ap is_halted h) ∙ l in cc)

ends-done : (files : Files) (order : Order) (p : Prepared) (count : ℕ) (r : Running) (done : Unit {0}) (b c : Seen) → r.plan ≡ p.plan → count ≡ length r.plan → IsAlong (lined files r) (length r.plan) b c →
    OfTold b.port.peer c.port.peer (λ s t. is_halted t.mode ≡ false) → OfTold b.port.peer c.port.peer (λ s t. StepsEnd (lined files r) count (b, c) (s, t) (Ok done))
ends-done files order p count r done b c e n al lives =
    let steps = length-map _ r.plan in
    let lines = length-map _ r.plan in
    told-both (λ s t. (run (take (length r.plan) (lined files r).steps) s ≡ Some t) × (is_halted t.mode ≡ false)) (λ s t. Grew b.text c.text (joined (take (length r.plan) (lined files r).lines))) (λ s t. StepsEnd (lined files r) count (b, c) (s, t) (Ok done))
    (λ s t x y. (
      ap (λ l. run l s) (sym (whole-take (lined files r).steps (length r.plan) steps)) ∙ x.0,
      n ∙ sym steps,
      x.1,
      subst (λ l. Grew b.text c.text (joined l)) (whole-take (lined files r).lines (length r.plan) lines) y,
    )) b.port.peer c.port.peer
    (told-both (λ s t. run (take (length r.plan) (lined files r).steps) s ≡ Some t) (λ s t. is_halted t.mode ≡ false) (λ s t. (run (take (length r.plan) (lined files r).steps) s ≡ Some t) × (is_halted t.mode ≡ false)) (λ s t x y. (x, y)) b.port.peer c.port.peer al.ran lives) al.shown

wired-told : (order : Order) (kept : Option Prepared) (p : Prepared) (files : Files) (l m n : Option (List ℕ)) (a b c : Option Peer) → Serving (2 ^ 60) b → OfTold a b (λ s t. (t ≡ s) × (is_fastboot s.mode ≡ true)) → OfTold a b (λ s t. IsPlanFor order kept p s) →
    OfTold b c IsFixed → (kept ≡ None → LogGrew l m (λ bytes. OfTold a b (λ s t. bytes ≡ handshake 1 ++ asked_wire (questions order.product order.options s)))) →
    LogGrew m n (λ wire. OfLink (λ w. WiresOrders files order.product p.max (take (length p.plan) p.plan) wire) b) → OfTold a c (λ s t. kept ≡ None → LogGrew l n (IsWire (job order files s)))
wired-told order kept p files l m n None None None q e k f g h = tt
wired-told order kept p files l m n None None (Some z) q e k f g h = absurd f
wired-told order kept p files l m n None (Some y) c q e k f g h = absurd e
wired-told order kept p files l m n (Some x) None c q e k f g h = absurd e
wired-told order kept p files l m n (Some x) (Some (Apart dev)) c q e k f g h = absurd q
wired-told order kept p files l m n (Some x) (Some (Joined w)) None q e k f g h = absurd f
wired-told order kept p files l m n (Some x) (Some (Joined w)) (Some z) q e k f g h = λ none.
    let s = device_of x in
    let made : MakesPlan order p.plan p.max s × (is_fastboot s.mode ≡ true) = subst (λ o. IsPlanFor order o p s) none k in
    log-then (λ bytes. bytes ≡ handshake 1 ++ asked_wire (questions order.product order.options s)) (λ wire. WiresOrders files order.product p.max (take (length p.plan) p.plan) wire) (IsWire (job order files s))
    (λ u v i j. record {
      plan = p.plan;
      planned = made.0.planned;
      steps = v;
      sent = subst (λ k. WiresOrders files order.product k p.plan v) made.0.most_is (subst (λ o. WiresOrders files order.product p.max o v) (whole-take p.plan (length p.plan) refl) j);
      all = ap (λ o. o ++ v) i ∙ append_assoc (handshake 1) (asked_wire (questions order.product order.options s)) v;
    }) l m n (g none) h

stepped-done : (order : Order) (kept : Option Prepared) (p : Prepared) (old new : Outside) (count : ℕ) (done : Unit {0}) (mid : Seen) → count ≡ length p.plan →
    IsDoneAll (running (supply old.folder.files order.product p.max) p.plan) mid (seen new.port new.text) → Kept old.port mid.port →
    OfTold mid.port.peer new.port.peer (Stepped (trial old new (came kept (Some p) count (Ok done))) (λ files. lined files (running (supply (Some files) order.product p.max) p.plan)) mid.text)
stepped-done order kept p old new count done mid e k held =
    let r = running (supply old.folder.files order.product p.max) p.plan in
    let x = trial old new (came kept (Some p) count (Ok done)) in
    let plan : Files → Lined = λ files. lined files (running (supply (Some files) order.product p.max) p.plan) in
    let c = seen new.port new.text in
    let both = told-both IsFixed (λ s t. is_halted t.mode ≡ false) (λ s t. IsFixed s t × (is_halted t.mode ≡ false)) (λ s t y z. (y, z)) mid.port.peer new.port.peer k.so_far.fixed k.so_far.lives in
    told-both (λ s t. IsFixed s t × (is_halted t.mode ≡ false)) (λ s t. OfFiles old.folder.files (λ files. StepsEnd (plan files) count (seen old.port mid.text, c) (s, t) (Ok done))) (Stepped x plan mid.text)
    (λ s t y z. record { halted = λ h. alive-not t _ y.1 h; fixed = y.0; took = z }) mid.port.peer new.port.peer both
    (told-files old.folder.files IsFixed (λ files s t. StepsEnd (plan files) count (seen old.port mid.text, c) (s, t) (Ok done)) mid.port.peer new.port.peer k.so_far.fixed
    (files-more old.folder.files _ _ (λ files al. ends-done files order p count r done mid c refl e al k.so_far.lives) k.so_far.along))

wired-done : (order : Order) (kept : Option Prepared) (p : Prepared) (old new : Outside) (mid : Seen) → Met order kept p old mid → IsDoneAll (running (supply old.folder.files order.product p.max) p.plan) mid (seen new.port new.text) →
    OfTold old.port.peer new.port.peer (λ s t. OfFiles old.folder.files (λ files. kept ≡ None → LogGrew old.port.log new.port.log (IsWire (job order files s))))
wired-done order kept p old new mid m k =
    told-files old.folder.files (λ s t. Unit {0}) (λ files s t. kept ≡ None → LogGrew old.port.log new.port.log (IsWire (job order files s))) old.port.peer new.port.peer
    (told-then (λ s t. (t ≡ s) × (is_fastboot s.mode ≡ true)) IsFixed (λ s t. Unit {0}) (λ s u t y z. tt) old.port.peer mid.port.peer new.port.peer m.same k.so_far.fixed)
    (files-more old.folder.files _ _ (λ files l. wired-told order kept p files old.port.log mid.port.log new.port.log old.port.peer mid.port.peer new.port.peer m.serving m.same m.plans k.so_far.fixed m.log l) k.so_far.log)

stepped-broken : (order : Order) (kept : Option Prepared) (p : Prepared) (old new : Outside) (count : ℕ) (error : DriveError) (mid : Seen) (F : List ℕ → Type 0) → Kept old.port mid.port →
    IsBrokenAt F (running (supply old.folder.files order.product p.max) p.plan) count (mid, seen new.port new.text) error →
    OfTold mid.port.peer new.port.peer (Stepped (trial old new (came kept (Some p) count (Err error))) (λ files. lined files (running (supply (Some files) order.product p.max) p.plan)) mid.text)
stepped-broken order kept p old new count error mid F held k =
    let x = trial old new (came kept (Some p) count (Err error)) in
    let plan : Files → Lined = λ files. lined files (running (supply (Some files) order.product p.max) p.plan) in
    let c = seen new.port new.text in
    let both = told-both IsFixed (λ s t. t.mode ≡ Halted → Rose mid.port.faults new.port.faults) (λ s t. IsFixed s t × (t.mode ≡ Halted → Rose mid.port.faults new.port.faults)) (λ s t y z. (y, z)) mid.port.peer new.port.peer k.fixed k.lives in
    told-both (λ s t. IsFixed s t × (t.mode ≡ Halted → Rose mid.port.faults new.port.faults)) (λ s t. OfFiles old.folder.files (λ files. StepsEnd (plan files) count (seen old.port mid.text, c) (s, t) (Err error))) (Stepped x plan mid.text)
    (λ s t y z. record { halted = λ h. (let q = y.1 h in let l = held.later in omega (arith, q, l)); fixed = y.0; took = z }) mid.port.peer new.port.peer both
    (told-files old.folder.files IsFixed (λ files s t. StepsEnd (plan files) count (seen old.port mid.text, c) (s, t) (Err error)) mid.port.peer new.port.peer k.fixed
    (files-more old.folder.files _ _ (λ files al. told-more (BreaksAt (plan files) count error (mid, c)) (λ s t. StepsEnd (plan files) count (seen old.port mid.text, c) (s, t) (Err error))
    (λ s t y. breaks-since (plan files) count error old.port mid.port mid.text c s t held.later y) mid.port.peer new.port.peer al) k.exact))

pub Tried-ran : (order : Order) (kept : Option Prepared) (p : Prepared) (old new : Outside) (count : ℕ) (end : Result (Unit {0}) DriveError) (mid : Seen) → Met order kept p old mid → StillFolder old.folder new.folder → old.unput ≤ new.unput →
    IfErr end (λ e. e ≡ stop.Output → Rose old.unput new.unput) → OnOk end (count ≡ length p.plan) → OnOk end (IsDoneAll (running (supply old.folder.files order.product p.max) p.plan) mid (seen new.port new.text)) →
    IfErr end (λ e. IsBrokenAt (IsUnreadNext (running (supply old.folder.files order.product p.max) p.plan) count old.folder.faults new.folder.faults) (running (supply old.folder.files order.product p.max) p.plan) count (mid, seen new.port new.text) e) →
    IsTried order (trial old new (came kept (Some p) count end))
Tried-ran order kept p old new count (Ok done) mid m folder later out e all broken = record {
  why = e;
  heard = tt;
  stays = m.stays;
  own = (m.large, m.own);
  over = over-ran order kept p old new count (Ok done) mid m (stepped-done order kept p old new count done mid e all m.held) (wired-done order kept p old new mid m all);
  grows = grows-then old.text mid.text new.text m.grows all.so_far.grows;
  kept = Kept-trans old.port mid.port new.port m.held all.so_far.kept;
  down = all.down;
  sound = all.sound;
  folder = folder;
  shown_later = later;
}
Tried-ran order kept p old new count (Err error) mid m folder later out e all broken = record {
  why = why-ran order kept p count old new mid.port error m.held (none-back (λ s t. (t ≡ s) × (is_fastboot s.mode ≡ true)) old.port.peer mid.port.peer m.same) out broken.why;
  heard = broken.heard m.heard;
  stays = m.stays;
  own = (m.large, m.own);
  over = over-ran order kept p old new count (Err error) mid m
      (stepped-broken order kept p old new count error mid (IsUnreadNext (running (supply old.folder.files order.product p.max) p.plan) count old.folder.faults new.folder.faults) m.held broken)
      (told-then (λ s t. (t ≡ s) × (is_fastboot s.mode ≡ true)) IsFixed (λ s t. OfFiles old.folder.files (λ files. kept ≡ None → Unit {0}))
      (λ s u t y z. files-all old.folder.files _ (λ files n. tt)) old.port.peer mid.port.peer new.port.peer m.same broken.fixed);
  grows = grows-then old.text mid.text new.text m.grows broken.grows;
  kept = Kept-trans old.port mid.port new.port m.held broken.kept;
  down = broken.down;
  sound = broken.sound;
  folder = folder;
  shown_later = later;
}
