-- A step's command over a connection: what its answers come to.
use Rattle.std.proofs.Common.{◌≡◌, ◌⊎◌, ◌≢◌, inl, inr, ℕ, ◌+◌, ◌^◌, ◌<◌, Bool, true, false, Option, Some, None, List, [], ◌∷◌, ◌++◌, length, take, refl, sym, ap, ◌∙◌, subst, arith, length-append, append_assoc, append-nil}
use Rattle.std.specs.Prelude.{IsTrue, codes, unwrap_or, is_some, ◌&&◌, nat_lt, decimal}
use Rattle.std.specs.List.{list_all}
use Rattle.std.proofs.lemmas.Bool.Decides.{nat_tests}
use Rattle.fb_frame.specs.NameText.{is_name, IsName}
use Rattle.std.proofs.lemmas.Grind.{flat_map-append}
use Rattle.fb_frame.specs.Causes.{Rose}
use Rattle.fb_frame.specs.Framing.{frame, head}
use Rattle.fb_frame.specs.Greeting.{handshake}
use Rattle.fb_frame.specs.Sinks.{Grew, GrewPart}
use Rattle.fb_message.specs.declared.reply.Reply.{Reply}
use Rattle.fb_message.specs.declared.reply.Reply.TheVariants.{Okay, Fail}
use Rattle.fb_message.specs.declared.command.BootTarget.{BootTarget}
use Rattle.fb_message.specs.declared.command.BootTarget.TheVariants.{System, Bootloader, Fastboot, Recovery}
use Rattle.fb_message.specs.CommandText.{CommandValue, Reboot, Flash, Erase, UpdateSuper, Resize, spelling}
use Rattle.fb_message.specs.Prefixes.{only_if}
use Rattle.fb_message.specs.ReplyText.{reply_bytes}
use Rattle.fb_message.proofs.Commands.{command_again}
use Rattle.dev_model.specs.declared.device.Dev.{Dev}
use Rattle.dev_model.specs.declared.device.Mode.TheVariants.{Halted}
use Rattle.dev_model.specs.declared.step.Step.{Step}
use Rattle.dev_model.specs.Attempts.{is_halted}
use Rattle.dev_model.specs.Partitions.{is_fastboot}
use Rattle.dev_model.specs.Refusals.{refusal_of}
use Rattle.dev_model.proofs.Valid.{both}
use Rattle.dev_model.specs.Steps.{apply, is_boot}
use Rattle.wire_model.specs.Says.{Loaded, says, decides}
use Rattle.wire_model.specs.Wire.{Wire}
use Rattle.wire_told.specs.Answered.{IsAnswered, Sound, reply_frames, is_line}
use Rattle.wire_told.specs.Exchanges.{said_to, IsExchanged, IsInterrupted, Exchanged}
use Rattle.wire_told.specs.Peers.{Peer, Apart, Joined, OfLink, OnLink, OffLink}
use Rattle.wire_told.specs.Places.{Appended}
use Rattle.wire_told.specs.Ports.{PortTold, Kept, Drops}
use Rattle.wire_told.proofs.ExchangeLemmas.{said-open}
use Rattle.wire_told.proofs.Lifted.{of-of, of-both, of-on, on-hung, with-on}
use Rattle.wire_told.proofs.OneFrames.{length-frame}
use Rattle.wire_told.proofs.PortLemmas.{Kept-trans}
use Rattle.fb_link.specs.Broken.{BrokeOff, ShownInPart, SaysFirst}
use Rattle.fb_link.specs.Concluded.{Concluded, IsCutOff, IsUndue, LogsWhole}
use Rattle.fb_link.specs.Errors.{Why}
use Rattle.fb_link.specs.Lines.{shown_lines}
use Rattle.fb_link.specs.Seen.{Seen, seen}
use Rattle.fb_link.specs.declared.link_error.LinkError.{LinkError}
use Rattle.fb_link.specs.declared.link_error.LinkError.TheVariants as link
use Rattle.fb_link.proofs.EndLemmas.{frames-snoc}
use Rattle.fb_link.proofs.TypedLemmas.{Exchanged-concluded}
use Rattle.host_driver.specs.declared.drive.DriveError.{DriveError}
use Rattle.host_driver.specs.declared.drive.DriveError.TheVariants as stop
use Rattle.host_driver.specs.Commands.{TookStep, RefusedStep, IsCommandOf}
use Rattle.host_driver.specs.Driving.{Grows}
use Rattle.host_driver.specs.HeardLast.{HeardThen, HeardAt, LogEnds}
use Rattle.host_driver.specs.Jobs.{OfTold}
use Rattle.host_driver.specs.Stepping.{IsServing, Serving, IsCommandAt, stop_of, IsStepped, IsBrokenIn, WhyStopped, IsStuck, IsUnshown, NoFiles, IsStopped}
use Rattle.host_driver.specs.Wires.{command_wire, LogGrew}
use Rattle.host_driver.proofs.HaltLemmas.{DecidedBy, command-decides, left-same, left-took}
use Rattle.host_driver.proofs.StepLemmas.{decides-okay, decides-fail, took}

-- Relations of connections as relations of devices.
pub told-on : (R : Dev → Dev → Type 0) (a b : Option Peer) → OnLink (λ w u. R w.device u.device) a b → OfTold a b R
told-on R None None r = tt
told-on R None (Some q) r = absurd r
told-on R (Some (Apart dev)) b r = absurd r
told-on R (Some (Joined w)) None r = absurd r
told-on R (Some (Joined w)) (Some (Apart dev)) r = absurd r
told-on R (Some (Joined w)) (Some (Joined u)) r = r

pub told-off : (R : Dev → Dev → Type 0) (a b : Option Peer) → OffLink (λ w dev. R w.device dev) a b → OfTold a b R
told-off R None None r = tt
told-off R None (Some q) r = absurd r
told-off R (Some (Apart dev)) b r = absurd r
told-off R (Some (Joined w)) None r = absurd r
told-off R (Some (Joined w)) (Some (Joined u)) r = absurd r
told-off R (Some (Joined w)) (Some (Apart dev)) r = r

pub with-off : (P : Wire → Type 0) (R S : Wire → Dev → Type 0) → ((w : Wire) (dev : Dev) → P w → R w dev → S w dev) → (a b : Option Peer) → OfLink P a → OffLink R a b → OffLink S a b
with-off P R S f None None p r = tt
with-off P R S f None (Some q) p r = absurd r
with-off P R S f (Some (Apart dev)) b p r = absurd r
with-off P R S f (Some (Joined w)) None p r = absurd r
with-off P R S f (Some (Joined w)) (Some (Joined u)) p r = absurd r
with-off P R S f (Some (Joined w)) (Some (Apart dev)) p r = f w dev p r

-- What a step's command is decided by at a connection.
abbrev Decides : CommandValue → Step → Wire → Type 0
Decides c s w = DecidedBy c s w.device w.loaded × (is_fastboot w.device.mode ≡ true)

decides-at : (c : CommandValue) (s : Step) (spare : ℕ) (a : Option Peer) → IsCommandAt c s a → Serving spare a → OfLink (Decides c s) a
decides-at c s spare a k f =
    of-both (λ w. IsCommandOf c s w.device w.loaded) (IsServing spare) (Decides c s) (λ w p q. (command-decides c s w.device w.loaded p q.runs, q.runs)) a k f

pub okay-told : (line : List ℕ) → Okay line ≡ Fail (codes "disk fault") → ⊥
okay-told line e = cc

pub fail-told : (x y : List ℕ) → Fail x ≡ Fail y → x ≡ y
fail-told x y e = cc

-- An acknowledged step.
took-so : (broke : Type 0) (c : CommandValue) (s : Step) (line : List ℕ) (w u : Wire) → Decides c s w → IsExchanged broke c (Okay line) w u → TookStep s w.device u.device
took-so broke c s line w u d (inl x) =
    let e = decides-okay (refusal_of s w.device) (apply s) w.device w.loaded x.says_so.lines line (sym d.0.replies ∙ x.says_so.all) in
    took s w.device u.device d.1 e.0 (x.device ∙ (d.0.device ∙ e.1))
took-so broke c s line w u d (inr x) = absurd (okay-told line x.1.told)

serving-so : (broke : Type 0) (c : CommandValue) (s : Step) (line p : List ℕ) (spare : ℕ) → spelling c ≡ Some p → is_boot s ≡ false → (w u : Wire) → Decides c s w × IsServing (4104 + spare) w → IsExchanged broke c (Okay line) w u → IsServing spare u
serving-so broke c s line p spare e b w u d (inl x) =
    let t = took-so broke c s line w u d.0 (inl x) in
    let short = d.0.0.short p e in
    record {
      free = record { running = x.closed ∙ said-open c (d.0.0.still b) w; bounded = omega (arith, d.1.free.bounded, x.taken p e, length-frame p, short) };
      runs = ap (λ (x : Dev). is_fastboot x.mode) t.taken ∙ d.0.0.runs b;
    }
serving-so broke c s line p spare e b w u d (inr x) = absurd (okay-told line x.1.told)

-- Nothing is shown before a step's one reply.
pub none-before : (infos : List Reply) (end one : Reply) → infos ++ end ∷ [] ≡ one ∷ [] → infos ≡ []
none-before [] end one e = refl
none-before (i ∷ infos) end one e = let n = ap length e in let m = length-append infos (end ∷ []) in absurd (omega (arith, n, m))

pub decided-one : (o : Option (List ℕ)) (change : Dev → Dev) (dev : Dev) (loaded : Loaded) (infos : List Reply) (end : Reply) → infos ++ end ∷ [] ≡ (decides o change dev loaded).replies → infos ≡ []
decided-one None change dev loaded infos end e = none-before infos end (Okay []) e
decided-one (Some text) change dev loaded infos end e = none-before infos end (Fail text) e

quiet-so : (broke : Type 0) (c : CommandValue) (s : Step) (end : Reply) (p : List ℕ) (infos : List Reply) → spelling c ≡ Some p → (w u : Wire) → Decides c s w → IsAnswered broke p (infos ++ end ∷ []) w u → infos ≡ []
quiet-so broke c s end p infos e w u d (inl x) =
    decided-one (refusal_of s w.device) (apply s) w.device w.loaded infos end
    (x.all ∙ (ap (λ k. (says w.device w.loaded k).replies) (command_again c p e) ∙ d.0.replies))
quiet-so broke c s end p infos e w u d (inr x) = none-before infos end (Fail (codes "disk fault")) x.1.told

shown-none : (infos : List Reply) (a b : Option (List ℕ)) → Grew a b (shown_lines infos) → infos ≡ [] → Grew a b []
shown-none infos a b g e = subst (λ x. Grew a b (shown_lines x)) e g

quiet-told : (c : CommandValue) (s : Step) (a b : Seen) (end : Reply) → OfLink (Decides c s) a.port.peer → Concluded c a b end → OnLink (λ w u. Grew a.text b.text []) a.port.peer b.port.peer
quiet-told c s a b end d k =
    with-on (Decides c s) (IsAnswered (Rose a.port.faults b.port.faults) k.payload (k.infos ++ end ∷ [])) (λ w u. Grew a.text b.text [])
    (λ w u p q. shown-none k.infos a.text b.text k.shown (quiet-so (Rose a.port.faults b.port.faults) c s end k.payload k.infos k.spelled w u p q)) a.port.peer b.port.peer d k.told

-- What is heard of a connection.
pub heard-more : (a b : Option (List ℕ)) (rs : List Reply) (x : List ℕ) → HeardThen a [] → Appended a b (reply_frames rs ++ x) → HeardThen b x
heard-more None None rs x h f = tt
heard-more None (Some b) rs x h f = absurd f
heard-more (Some a) None rs x h f = absurd f
heard-more (Some a) (Some b) rs x h f = (
  h.0 ++ rs,
  f ∙ (ap (λ t. t ++ (reply_frames rs ++ x)) (h.1 ∙ append-nil (handshake 1 ++ reply_frames h.0))
      ∙ (sym (append_assoc (handshake 1 ++ reply_frames h.0) (reply_frames rs) x)
      ∙ ap (λ t. t ++ x) (append_assoc (handshake 1) (reply_frames h.0) (reply_frames rs) ∙ ap (λ t. handshake 1 ++ t) (sym (flat_map-append (λ r. frame (reply_bytes r)) h.0 rs))))),
)

pub heard-again : (a b : Option (List ℕ)) (rs : List Reply) → HeardThen a [] → Appended a b (reply_frames rs) → HeardThen b []
heard-again a b rs h f = heard-more a b rs [] h (subst (Appended a b) (sym (append-nil (reply_frames rs))) f)

pub wire-is : (c : CommandValue) (p : List ℕ) → spelling c ≡ Some p → frame p ≡ command_wire c
wire-is c p e = ap (λ o. frame (unwrap_or o [])) (sym e)

pub logged : (c : CommandValue) (a b : Option (List ℕ)) (p : List ℕ) → spelling c ≡ Some p → Appended a b (frame p) → LogGrew a b (λ bytes. bytes ≡ command_wire c)
logged c None None p e f = tt
logged c None (Some b) p e f = f
logged c (Some a) None p e f = f
logged c (Some a) (Some b) p e f = (frame p, f, wire-is c p e)

pub stepped-okay : (c : CommandValue) (s : Step) (a b : Seen) (line : List ℕ) → IsCommandAt c s a.port.peer → Serving 4104 a.port.peer → Concluded c a b (Okay line) → Kept a.port b.port → IsStepped 4104 (λ bytes. bytes ≡ command_wire c) s a b
stepped-okay c s a b line at f k kept =
    let broke = Rose a.port.faults b.port.faults in
    let d = decides-at c s 4104 a.port.peer at f in
    let x = Exchanged-concluded c a b (Okay line) k in
    record {
      took = told-on (TookStep s) a.port.peer b.port.peer (with-on (Decides c s) (IsExchanged broke c (Okay line)) (λ w u. TookStep s w.device u.device) (took-so broke c s line) a.port.peer b.port.peer d x);
      serving = λ boot spare free.
          of-on (λ w. Decides c s w × IsServing (4104 + spare) w) (IsExchanged broke c (Okay line)) (IsServing spare) (serving-so broke c s line k.payload spare k.spelled boot) a.port.peer b.port.peer
          (of-both (Decides c s) (IsServing (4104 + spare)) (λ w. Decides c s w × IsServing (4104 + spare) w) (λ w p q. (p, q)) a.port.peer d free) x;
      quiet = told-on (λ x y. Grew a.text b.text []) a.port.peer b.port.peer (quiet-told c s a b (Okay line) d k);
      grows = record { more = shown_lines k.infos; grew = k.shown };
      heard = λ h. heard-again a.port.heard b.port.heard (k.infos ++ Okay line ∷ []) h k.bytes;
      log = logged c a.port.log b.port.log k.payload k.spelled k.log;
      kept = kept;
    }

-- A refused step.
pub same-lives : (s : Step) (broke : Type 0) (dev t : Dev) → is_fastboot dev.mode ≡ true → t ≡ dev → IsBrokenIn s broke dev t
same-lives s broke dev t f e = record { left = left-same s dev t f e; halted = λ h. absurd (let n : is_fastboot t.mode ≡ true = ap (λ (x : Dev). is_fastboot x.mode) e ∙ f in cc) }

broken-fail : (broke more : Type 0) → (broke → more) → (c : CommandValue) (s : Step) (text : List ℕ) (w u : Wire) → Decides c s w → IsExchanged broke c (Fail text) w u → IsBrokenIn s more w.device u.device
broken-fail broke more later c s text w u d (inl x) =
    let e = decides-fail (refusal_of s w.device) (apply s) w.device w.loaded x.says_so.lines text (sym d.0.replies ∙ x.says_so.all) in
    same-lives s more w.device u.device d.1 (x.device ∙ (d.0.device ∙ e.1))
broken-fail broke more later c s text w u d (inr x) = record { left = (d.0.halted u.device x.1.halts).0; halted = λ h. later x.0 }

-- what a step that was refused with this text comes to
abbrev Stuck : Step → List ℕ → Type 0 → Dev → Dev → Type 0
Stuck s text broke dev t = RefusedStep s text dev t ⊎ (broke × (text ≡ codes "disk fault") × (t.mode ≡ Halted))

stuck-so : (broke more : Type 0) → (broke → more) → (c : CommandValue) (s : Step) (text : List ℕ) (w u : Wire) → Decides c s w → IsExchanged broke c (Fail text) w u → Stuck s text more w.device u.device
stuck-so broke more later c s text w u d (inl x) =
    let e = decides-fail (refusal_of s w.device) (apply s) w.device w.loaded x.says_so.lines text (sym d.0.replies ∙ x.says_so.all) in
    inl (record { refusal = e.0; same = x.device ∙ (d.0.device ∙ e.1) })
stuck-so broke more later c s text w u d (inr x) =
    inr (later x.0, fail-told text (codes "disk fault") x.1.told, (d.0.halted u.device x.1.halts).1)

pub stopped-fail : (c : CommandValue) (s : Step) (a b : Seen) (d : PortTold) (text : List ℕ) → IsCommandAt c s a.port.peer → Serving 4104 a.port.peer → Concluded c a b (Fail text) → Kept a.port b.port → Drops b.port d → Sound d.peer →
    IsStopped NoFiles s a (seen d b.text) (stop.Refused text)
stopped-fail c s a b d text at f k kept drops sound =
    let broke = Rose a.port.faults b.port.faults in
    let more = Rose a.port.faults d.faults in
    let later : broke → more = λ r. omega (arith, r, drops.kept.later) in
    let q = decides-at c s 4104 a.port.peer at f in
    let x = Exchanged-concluded c a b (Fail text) k in
    let broken = with-on (Decides c s) (IsExchanged broke c (Fail text)) (λ w u. IsBrokenIn s more w.device u.device) (broken-fail broke more later c s text) a.port.peer b.port.peer q x in
    let stuck = with-on (Decides c s) (IsExchanged broke c (Fail text)) (λ w u. Stuck s text more w.device u.device) (stuck-so broke more later c s text) a.port.peer b.port.peer q x in
    record {
      why = tt;
      unshown = tt;
      left = told-off (IsBrokenIn s more) a.port.peer d.peer (on-hung (λ w u. IsBrokenIn s more w.device u.device) (λ w dev. IsBrokenIn s more w.device dev) (λ w u r. r) a.port.peer b.port.peer d.peer broken drops.left);
      stuck = told-off (Stuck s text more) a.port.peer d.peer
          (on-hung (λ w u. Stuck s text more w.device u.device) (λ w dev. Stuck s text more w.device dev) (λ w u r. r) a.port.peer b.port.peer d.peer stuck drops.left);
      quiet = told-off (λ x y. Grew a.text b.text []) a.port.peer d.peer
          (on-hung (λ w u. Grew a.text b.text []) (λ w dev. Grew a.text b.text []) (λ w u r. r) a.port.peer b.port.peer d.peer (quiet-told c s a b (Fail text) q k) drops.left);
      grows = record { more = shown_lines k.infos; grew = k.shown };
      heard = λ h. subst (λ o. HeardThen o (frame (reply_bytes (Fail text)))) (sym drops.heard)
          (heard-more a.port.heard b.port.heard k.infos (frame (reply_bytes (Fail text))) h (subst (Appended a.port.heard b.port.heard) (sym (frames-snoc k.infos (Fail text))) k.bytes));
      down = drops.down;
      sound = sound;
      kept = Kept-trans a.port b.port d kept drops.kept;
    }

-- A step that was cut.
broken-cut : (broke : Type 0) (c : CommandValue) (s : Step) (w : Wire) (dev : Dev) → Decides c s w → IsInterrupted broke c w dev → IsBrokenIn s broke w.device dev
broken-cut broke c s w dev d (inl e) = same-lives s broke w.device dev d.1 e
broken-cut broke c s w dev d (inr (inl e)) = done (refusal_of s w.device) refl (e ∙ d.0.device)
  where
    done : (o : Option (List ℕ)) → refusal_of s w.device ≡ o → dev ≡ (decides (refusal_of s w.device) (apply s) w.device w.loaded).device → IsBrokenIn s broke w.device dev
    done (Some text) r k = same-lives s broke w.device dev d.1 (k ∙ ap (λ o. (decides o (apply s) w.device w.loaded).device) r)
    done None r k =
        let took-it = took s w.device dev d.1 r (k ∙ ap (λ o. (decides o (apply s) w.device w.loaded).device) r) in
        record {
          left = left-took s w.device dev d.0.lives took-it;
          halted = λ h. absurd (let n : is_halted dev.mode ≡ false = ap (λ (x : Dev). is_halted x.mode) took-it.taken ∙ d.0.lives in cc);
        }
broken-cut broke c s w dev d (inr (inr x)) = record { left = (d.0.halted dev x.1).0; halted = λ h. x.0 }

cut-told : (c : CommandValue) (s : Step) (a b : PortTold) → IsCommandAt c s a.peer → Serving 4104 a.peer → Exchanged c a b None → OfTold a.peer b.peer (IsBrokenIn s (Rose a.faults b.faults))
cut-told c s a b at f x =
    told-off (IsBrokenIn s (Rose a.faults b.faults)) a.peer b.peer
    (with-off (Decides c s) (IsInterrupted (Rose a.faults b.faults) c) (λ w dev. IsBrokenIn s (Rose a.faults b.faults) w.device dev) (broken-cut (Rose a.faults b.faults) c s) a.peer b.peer (decides-at c s 4104 a.peer at f) x)

-- Over a told device the lines that were heard are the first that it says, and to a step's command it says none.
no-lines : (infos more : List Reply) (one : Reply) → list_all is_line infos ≡ true → is_line one ≡ false → one ∷ [] ≡ infos ++ more → infos ≡ []
no-lines [] more one l n e = refl
no-lines (i ∷ infos) more one l n e =
    let first : one ≡ i = cc in
    let line : is_line i ≡ true = (both (is_line i) (list_all is_line infos) l).0 in
    absurd (let f : is_line i ≡ false = subst (λ r. is_line r ≡ false) first n in cc)

decided-none : (o : Option (List ℕ)) (change : Dev → Dev) (dev : Dev) (loaded : Loaded) (infos more : List Reply) → list_all is_line infos ≡ true → (decides o change dev loaded).replies ≡ infos ++ more → infos ≡ []
decided-none None change dev loaded infos more l e = no-lines infos more (Okay []) l refl e
decided-none (Some text) change dev loaded infos more l e = no-lines infos more (Fail text) l refl e

says-none : (c : CommandValue) (s : Step) (infos : List Reply) → list_all is_line infos ≡ true → (a : Option Peer) → OfLink (Decides c s) a → SaysFirst c a infos → OfLink (λ w. infos ≡ []) a
says-none c s infos l a d f =
    of-both (Decides c s) (λ w. (more : List Reply) × ((said_to c w).replies ≡ infos ++ more)) (λ w. infos ≡ [])
    (λ w p q. decided-none (refusal_of s w.device) (apply s) w.device w.loaded infos q.0 l (sym p.0.replies ∙ q.1)) a d f

quiet-cut : (c : CommandValue) (a b : PortTold) (Q : Type 0) → Exchanged c a b None → OfLink (λ w. Q) a.peer → OfTold a.peer b.peer (λ s t. Q)
quiet-cut c a b Q x q =
    told-off (λ s t. Q) a.peer b.peer (with-off (λ w. Q) (IsInterrupted (Rose a.faults b.faults) c) (λ w dev. Q) (λ w dev p r. p) a.peer b.peer q x)

part-none : (infos : List Reply) (a b : Option (List ℕ)) → GrewPart a b (shown_lines infos) → infos ≡ [] → Grew a b []
part-none infos None None g e = tt
part-none infos None (Some b) g e = g
part-none infos (Some a) None g e = g
part-none infos (Some a) (Some b) g e = absurd (let short = g.fewer in omega (arith, short, ap (λ x. length (shown_lines x)) e))

pub why-broken : (c : CommandValue) (e : LinkError) (a b : PortTold) → Why (IsUndue c) e a b → WhyStopped NoFiles a b (stop_of e)
why-broken c link.Link a b w = w
why-broken c link.Ended a b w = w
why-broken c (link.BadHandshake four) a b w = absurd w
why-broken c (link.BadLength n) a b w = w.0
why-broken c (link.BadReply reply) a b w = w.0
why-broken c link.TooManyInfos a b w = w

unstuck : (s : Step) (a b : PortTold) (e : LinkError) → IsStuck s a b (stop_of e)
unstuck s a b link.Link = tt
unstuck s a b link.Ended = tt
unstuck s a b (link.BadHandshake four) = tt
unstuck s a b (link.BadLength n) = tt
unstuck s a b (link.BadReply reply) = tt
unstuck s a b link.TooManyInfos = tt

-- An output fails in a step only where no device is told.
pub unshown-link : (e : LinkError) (a : Option Peer) → IsUnshown (stop_of e) a
unshown-link link.Link a = tt
unshown-link link.Ended a = tt
unshown-link (link.BadHandshake four) a = tt
unshown-link (link.BadLength n) a = tt
unshown-link (link.BadReply reply) a = tt
unshown-link link.TooManyInfos a = tt

pub unshown-none : (infos : List Reply) (a : Option Peer) → 0 < length infos → OfLink (λ w. infos ≡ []) a → a ≡ None
unshown-none infos None n e = refl
unshown-none infos (Some (Apart dev)) n e = absurd e
unshown-none infos (Some (Joined w)) n e = absurd (let l = ap length e in omega (arith, n, l))

pub unshown-later : (e : DriveError) (a b : Option Peer) → (b ≡ None → a ≡ None) → IsUnshown e b → IsUnshown e a
unshown-later stop.Memory a b n u = u
unshown-later (stop.Directory file) a b n u = u
unshown-later stop.Output a b n u = n u
unshown-later stop.Link a b n u = u
unshown-later stop.Ended a b n u = u
unshown-later (stop.Refused text) a b n u = u
unshown-later (stop.Peer kept) a b n u = u
unshown-later stop.TooManyInfos a b n u = u
unshown-later (stop.Requirement line name value) a b n u = u
unshown-later (stop.Plan line kind) a b n u = u

pub some-of : {X : Type 0} (o : Option X) → is_some o ≡ true → (x : X) × (o ≡ Some x)
some-of None e = absurd cc
some-of (Some x) e = (x, refl)

undue-log : (c : CommandValue) (a b : Option (List ℕ)) (p : List ℕ) → spelling c ≡ Some p → Appended a b (frame p) → LogEnds b c
undue-log c None None p e f = (p, e, tt)
undue-log c None (Some b) p e f = absurd f
undue-log c (Some a) None p e f = absurd f
undue-log c (Some a) (Some b) p e f = (p, e, (a, f))

pub heard-broken : (c : CommandValue) (p : List ℕ) (e : LinkError) (a b : Seen) → BrokeOff (SaysFirst c a.port.peer) 0 a b e → Why (IsUndue c) e a.port b.port → (e ≢ link.Link → LogsWhole c a.port b.port) → spelling c ≡ Some p → HeardThen a.port.heard [] → HeardAt b.port (stop_of e)
unfolding LogsWhole
heard-broken c p link.Link a b k w l spelled h = tt
heard-broken c p link.Ended a b k w l spelled h = tt
heard-broken c p (link.BadHandshake four) a b k w l spelled h = absurd w
heard-broken c p (link.BadLength n) a b k w l spelled h = inr (inl (record {
  n = n;
  wrong = w.1;
  bytes = refl;
  heard = heard-more a.port.heard b.port.heard k.infos (head n) h (subst (λ r. Appended a.port.heard b.port.heard (reply_frames k.infos ++ r)) k.stands.1 k.bytes);
}))
heard-broken c p (link.BadReply reply) a b k w l spelled h = inr (inr (inl (record {
  command = c;
  sent = undue-log c a.port.log b.port.log p spelled (l (λ e. cc) p spelled);
  undue = w.1;
  heard = heard-more a.port.heard b.port.heard k.infos (frame reply) h (subst (λ r. Appended a.port.heard b.port.heard (reply_frames k.infos ++ r)) k.stands.3 k.bytes);
})))
heard-broken c p link.TooManyInfos a b k w l spelled h =
    let same : k.infos ++ [] ≡ k.infos = append-nil k.infos in
    record {
      first = k.infos;
      later = [];
      lines = ap (list_all is_line) same ∙ k.lines;
      many = (let n = k.stands.0 in omega (arith, ap length same, n));
      heard = inl (heard-more a.port.heard b.port.heard [] (reply_frames (k.infos ++ [])) h
          (subst (Appended a.port.heard b.port.heard) (sym (ap reply_frames same ∙ (sym (append-nil (reply_frames k.infos)) ∙ ap (λ r. reply_frames k.infos ++ r) (sym k.stands.1)))) k.bytes));
    }

pub stopped-broken : (c : CommandValue) (s : Step) (a b : Seen) (e : LinkError) (error : DriveError) → IsTrue (is_some (spelling c)) → error ≡ stop_of e → IsCommandAt c s a.port.peer → Serving 4104 a.port.peer → BrokeOff (SaysFirst c a.port.peer) 0 a b e → Why (IsUndue c) e a.port b.port → (e ≢ link.Link → LogsWhole c a.port b.port) →
    IsCutOff c a.port b.port → Exchanged c a.port b.port None → Kept a.port b.port → IsStopped NoFiles s a b error
stopped-broken c s a b e error written same at f k w l cut x kept =
    let spelled = some-of (spelling c) written in
    let d = decides-at c s 4104 a.port.peer at f in
    subst (IsStopped NoFiles s a b) (sym same) (record {
      why = why-broken c e a.port b.port w;
      left = cut-told c s a.port b.port at f x;
      stuck = unstuck s a.port b.port e;
      unshown = unshown-link e a.port.peer;
      quiet = quiet-cut c a.port b.port (Grew a.text b.text []) x
          (of-of (λ w. k.infos ≡ []) (λ w. Grew a.text b.text []) (λ w e. shown-none k.infos a.text b.text k.shown e) a.port.peer (says-none c s k.infos k.lines a.port.peer d k.due));
      grows = record { more = shown_lines k.infos; grew = k.shown };
      heard = heard-broken c spelled.0 e a b k w l spelled.1;
      down = cut.down;
      sound = cut.sound;
      kept = kept;
    })

pub grows-part : (a b : Option (List ℕ)) (bytes : List ℕ) → GrewPart a b bytes → Grows a b
grows-part None None bytes g = record { more = []; grew = tt }
grows-part None (Some b) bytes g = absurd g
grows-part (Some a) None bytes g = absurd g
grows-part (Some a) (Some b) bytes g = record { more = take g.count bytes; grew = g.grew }

pub stopped-unshown : (c : CommandValue) (s : Step) (a b : Seen) → IsCommandAt c s a.port.peer → Serving 4104 a.port.peer → ShownInPart (SaysFirst c a.port.peer) 0 a b → IsCutOff c a.port b.port → Exchanged c a.port b.port None → Kept a.port b.port →
    IsStopped NoFiles s a b stop.Output
stopped-unshown c s a b at f k cut x kept = record {
  why = tt;
  left = cut-told c s a.port b.port at f x;
  stuck = tt;
  unshown = unshown-none k.infos a.port.peer k.some (says-none c s k.infos k.lines a.port.peer (decides-at c s 4104 a.port.peer at f) k.due);
  quiet = quiet-cut c a.port b.port (Grew a.text b.text []) x
      (of-of (λ w. k.infos ≡ []) (λ w. Grew a.text b.text []) (λ w e. part-none k.infos a.text b.text k.shown e) a.port.peer (says-none c s k.infos k.lines a.port.peer (decides-at c s 4104 a.port.peer at f) k.due));
  grows = grows-part a.text b.text (shown_lines k.infos) k.shown;
  heard = λ h. tt;
  down = cut.down;
  sound = cut.sound;
  kept = kept;
}

-- A command whose name is a name is spelled.
named-spelled : (b : Bool) (bytes : List ℕ) → b ≡ true → is_some (only_if b bytes) ≡ true
named-spelled b bytes e = ap (λ c. is_some (only_if c bytes)) e

pub flash-spelled : (name : List ℕ) → IsName name → is_some (spelling (Flash name)) ≡ true
flash-spelled name n = named-spelled (is_name name) (codes "flash:" ++ name) n

pub erase-spelled : (name : List ℕ) → IsName name → is_some (spelling (Erase name)) ≡ true
erase-spelled name n = named-spelled (is_name name) (codes "erase:" ++ name) n

pub super-spelled : (name : List ℕ) (wipe : Bool) → IsName name → is_some (spelling (UpdateSuper name wipe)) ≡ true
super-spelled name false n = named-spelled (is_name name) (codes "update-super:" ++ name) n
super-spelled name true n = named-spelled (is_name name) (codes "update-super:" ++ (name ++ codes ":wipe")) n

pub resize-spelled : (name : List ℕ) (size : ℕ) → IsName name → size < 2 ^ 64 → is_some (spelling (Resize name size)) ≡ true
resize-spelled name size n h =
    let fits : nat_lt size (2 ^ 64) ≡ true = grind (arith, nat_tests) in
    named-spelled (is_name name && nat_lt size (2 ^ 64)) (codes "resize-logical-partition:" ++ (name ++ 58 ∷ decimal size)) (ap (λ b. b && nat_lt size (2 ^ 64)) n ∙ fits)

pub reboot-spelled : (what : BootTarget) → is_some (spelling (Reboot what)) ≡ true
reboot-spelled System = refl
reboot-spelled Bootloader = refl
reboot-spelled Fastboot = refl
reboot-spelled Recovery = refl

pub ruleset spells = (flash-spelled, erase-spelled, super-spelled, resize-spelled, reboot-spelled)
