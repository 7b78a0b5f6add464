-- A flash of what was loaded.
use Rattle.std.proofs.Common.{◌≡◌, ◌≢◌, ◌⊎◌, inl, inr, ℕ, ◌+◌, Bool, true, false, List, [], ◌∷◌, ◌++◌, Option, Some, None, refl, sym, ap, ◌∙◌, subst, arith}
use Rattle.std.specs.Prelude.{not, is_none, option_and_then, codes}
use Rattle.std.specs.Option.{option_or}
use Rattle.fb_frame.specs.Causes.{Rose}
use Rattle.fb_frame.specs.Framing.{frame}
use Rattle.fb_frame.specs.Sinks.{Grew}
use Rattle.fb_frame.specs.NameText.{IsName}
use Rattle.fb_message.specs.Prefixes.{only_if}
use Rattle.fb_message.specs.CommandText.{Flash, spelling}
use Rattle.fb_message.specs.declared.reply.Reply.{Reply}
use Rattle.fb_message.specs.declared.reply.Reply.TheVariants.{Okay, Fail}
use Rattle.fb_message.specs.ReplyText.{reply_bytes}
use Rattle.fb_message.proofs.Commands.{command_again}
use Rattle.std.specs.List.{list_all}
use Rattle.dev_model.proofs.Valid.{both}
use Rattle.dev_model.specs.declared.cells.Cell.{Cell}
use Rattle.dev_model.specs.declared.device.Dev.{Dev}
use Rattle.dev_model.specs.declared.step.Step.TheVariants.{Put}
use Rattle.dev_model.specs.Images.{image}
use Rattle.dev_model.specs.Options.{first_passed}
use Rattle.dev_model.specs.Partitions.{is_fastboot, is_target, bytes_of}
use Rattle.dev_model.specs.Refusals.{flash_refusal, refusal_of, is_too_large}
use Rattle.dev_model.specs.Steps.{apply}
use Rattle.wire_model.specs.Says.{Loaded, says, decides, loaded_image}
use Rattle.wire_model.specs.Wire.{Wire}
use Rattle.wire_told.specs.Answered.{IsAnswered, Sound, is_line, IsFree, Free}
use Rattle.wire_told.specs.Exchanges.{IsExchanged, IsInterrupted, Exchanged}
use Rattle.wire_told.specs.Peers.{Peer, Apart, Joined, OfLink, OnLink, OffLink}
use Rattle.wire_told.specs.Places.{Appended}
use Rattle.wire_told.specs.Ports.{PortTold, Kept, Drops}
use Rattle.wire_told.proofs.ExchangeLemmas.{said-open}
use Rattle.wire_told.proofs.Lifted.{of-of, of-on, on-hung, with-on}
use Rattle.wire_told.proofs.OneFrames.{length-frame}
use Rattle.wire_told.proofs.PortLemmas.{Kept-trans}
use Rattle.fb_link.specs.Broken.{BrokeOff, ShownInPart, SaysFirst}
use Rattle.fb_link.specs.Concluded.{Concluded, IsCutOff, IsUndue, LogsWhole}
use Rattle.fb_link.specs.Errors.{Why}
use Rattle.fb_link.specs.Lines.{shown_lines}
use Rattle.fb_link.specs.Seen.{Seen, seen}
use Rattle.fb_link.specs.declared.link_error.LinkError.{LinkError}
use Rattle.fb_link.specs.declared.link_error.LinkError.TheVariants as link
use Rattle.fb_link.proofs.EndLemmas.{frames-snoc}
use Rattle.fb_link.proofs.TypedLemmas.{Exchanged-concluded}
use Rattle.host_driver.specs.declared.drive.DriveError.{DriveError}
use Rattle.host_driver.specs.declared.drive.DriveError.TheVariants as stop
use Rattle.host_driver.specs.Commands.{TookStep, RefusedStep}
use Rattle.host_driver.specs.Driven.{IsHaltedNow}
use Rattle.host_driver.specs.HeardLast.{HeardThen}
use Rattle.host_driver.specs.Puts.{HasFlashed, IsFlashLeft, IsFlashStuck, FlashFails}
use Rattle.host_driver.specs.Stepping.{IsServing, Serving, stop_of}
use Rattle.host_driver.proofs.HaltLemmas.{flash-short, under-over}
use Rattle.host_driver.proofs.LoadLemmas.{quiet-none, quiet-part}
use Rattle.host_driver.proofs.StepLemmas.{decides-okay, decides-fail, took, decisions}
use Rattle.host_driver.proofs.TakeLemmas.{unshown-link, unshown-none, heard-more, heard-again, heard-broken, why-broken, grows-part, decided-one, none-before, okay-told, fail-told, wire-is}

-- A flash that isn't refused is a step that isn't.
all-false : (a b c d e : Bool) (t u v x y : List ℕ) → first_passed ((a, t) ∷ (b, u) ∷ (c, v) ∷ (d, x) ∷ (e, y) ∷ []) ≡ None → option_or (first_passed ((a, t) ∷ (c, v) ∷ [])) (first_passed ((e, y) ∷ [])) ≡ None
all-false true b c d e t u v x y h = absurd cc
all-false false true c d e t u v x y h = absurd cc
all-false false false true d e t u v x y h = absurd cc
all-false false false false true e t u v x y h = absurd cc
all-false false false false false true t u v x y h = absurd cc
all-false false false false false false t u v x y h = refl

unrefused-flash : (dev : Dev) (loaded : Loaded) (name : List ℕ) → flash_refusal dev loaded name ≡ None → refusal_of (Put name (loaded_image loaded)) dev ≡ None
unrefused-flash dev loaded name e =
    all-false dev.locked (is_none loaded) (not (is_target dev name)) (is_none (option_and_then image loaded)) (is_too_large (loaded_image loaded) dev name) (codes "locked") (codes "nothing downloaded") (codes "no such partition") (codes "bad image") (codes "image too large") e

-- what a device says to it
flash-decides : (name : List ℕ) (w : Wire) → says w.device w.loaded (Flash name) ≡ decides (flash_refusal w.device w.loaded name) (apply (Put name (loaded_image w.loaded))) w.device w.loaded
unfolding says
flash-decides name w = refl

took-by : (name : List ℕ) (w : Wire) (t : Dev) → is_fastboot w.device.mode ≡ true → flash_refusal w.device w.loaded name ≡ None → t ≡ apply (Put name (loaded_image w.loaded)) w.device → TookStep (Put name (loaded_image w.loaded)) w.device t
took-by name w t f e g = took (Put name (loaded_image w.loaded)) w.device t f (unrefused-flash w.device w.loaded name e) g

took-flash : (broke : Type 0) (name line : List ℕ) (w u : Wire) → is_fastboot w.device.mode ≡ true → IsExchanged broke (Flash name) (Okay line) w u → TookStep (Put name (loaded_image w.loaded)) w.device u.device
took-flash broke name line w u f (inl x) =
    let said = flash-decides name w in
    let e = decides-okay (flash_refusal w.device w.loaded name) (apply (Put name (loaded_image w.loaded))) w.device w.loaded x.says_so.lines line (sym (ap (λ s. s.replies) said) ∙ x.says_so.all) in
    took-by name w u.device f e.0 (x.device ∙ (ap (λ s. s.device) said ∙ e.1))
took-flash broke name line w u f (inr x) = absurd (okay-told line x.1.told)

serve-flash : (broke : Type 0) (name line p : List ℕ) (spare : ℕ) → spelling (Flash name) ≡ Some p → (w u : Wire) → IsServing (4104 + spare) w → IsExchanged broke (Flash name) (Okay line) w u → IsServing spare u
serve-flash broke name line p spare e w u s (inl x) =
    let t = took-flash broke name line w u s.runs (inl x) in
    record {
      free = record { running = x.closed ∙ said-open (Flash name) refl w; bounded = (let b = s.free.bounded in omega (arith, b, x.taken p e, length-frame p, flash-short name p e)) };
      runs = ap (λ (x : Dev). is_fastboot x.mode) t.taken ∙ s.runs;
    }
serve-flash broke name line p spare e w u s (inr x) = absurd (okay-told line x.1.told)

-- nothing is shown before its one reply
quiet-flash : (broke : Type 0) (name p : List ℕ) (infos : List Reply) (end : Reply) → spelling (Flash name) ≡ Some p → (w u : Wire) → IsAnswered broke p (infos ++ end ∷ []) w u → infos ≡ []
quiet-flash broke name p infos end e w u (inl x) =
    decided-one (flash_refusal w.device w.loaded name) (apply (Put name (loaded_image w.loaded))) w.device w.loaded infos end
    (x.all ∙ (ap (λ k. (says w.device w.loaded k).replies) (command_again (Flash name) p e) ∙ ap (λ s. s.replies) (flash-decides name w)))
quiet-flash broke name p infos end e w u (inr x) = none-before infos end (Fail (codes "disk fault")) x.1.told

concluded-quiet : (name : List ℕ) (a b : Seen) (end : Reply) → Concluded (Flash name) a b end → OfLink (λ w. Grew a.text b.text []) a.port.peer
concluded-quiet name a b end k = quiet-none k.infos a.port.peer a.text b.text (each a.port.peer b.port.peer k.told) k.shown
  where
    each : (p q : Option Peer) → OnLink (IsAnswered (Rose a.port.faults b.port.faults) k.payload (k.infos ++ end ∷ [])) p q → OfLink (λ w. k.infos ≡ []) p
    each None q t = tt
    each (Some (Apart dev)) q t = absurd t
    each (Some (Joined w)) None t = absurd t
    each (Some (Joined w)) (Some (Apart dev)) t = absurd t
    each (Some (Joined w)) (Some (Joined u)) t = quiet-flash (Rose a.port.faults b.port.faults) name k.payload k.infos end k.spelled w u t

pub Flashed-okay : (name : List ℕ) (a b : Seen) (line : List ℕ) → Serving 4104 a.port.peer → Concluded (Flash name) a b (Okay line) → Kept a.port b.port → HasFlashed name a b
Flashed-okay name a b line f k kept =
    let broke = Rose a.port.faults b.port.faults in
    let x = Exchanged-concluded (Flash name) a b (Okay line) k in
    record {
      took = with-on (IsServing 4104) (IsExchanged broke (Flash name) (Okay line)) (λ w u. TookStep (Put name (loaded_image w.loaded)) w.device u.device) (λ w u s y. took-flash broke name line w u s.runs y) a.port.peer b.port.peer f x;
      serving = λ spare s. of-on (IsServing (4104 + spare)) (IsExchanged broke (Flash name) (Okay line)) (IsServing spare) (serve-flash broke name line k.payload spare k.spelled) a.port.peer b.port.peer s x;
      log = subst (Appended a.port.log b.port.log) (wire-is (Flash name) k.payload k.spelled) k.log;
      goes = record {
        quiet = concluded-quiet name a b (Okay line) k;
        grows = record { more = shown_lines k.infos; grew = k.shown };
        heard = λ h. heard-again a.port.heard b.port.heard (k.infos ++ Okay line ∷ []) h k.bytes;
        kept = kept;
      };
    }

-- What it leaves where it broke off.
left-said : (broke : Type 0) (name : List ℕ) (w : Wire) (t : Dev) → is_fastboot w.device.mode ≡ true → t ≡ (says w.device w.loaded (Flash name)).device → IsFlashLeft broke name (loaded_image w.loaded) w.device t
left-said broke name w t f e = by (flash_refusal w.device w.loaded name) refl
  where
    said : (o : Option (List ℕ)) → flash_refusal w.device w.loaded name ≡ o → t ≡ (decides o (apply (Put name (loaded_image w.loaded))) w.device w.loaded).device
    said o r = e ∙ (ap (λ s. s.device) (flash-decides name w) ∙ ap (λ z. (decides z (apply (Put name (loaded_image w.loaded))) w.device w.loaded).device) r)

    by : (o : Option (List ℕ)) → flash_refusal w.device w.loaded name ≡ o → IsFlashLeft broke name (loaded_image w.loaded) w.device t
    by (Some text) r = inl (said (Some text) r)
    by None r = inr (inl (took-by name w t f r (said None r)))

left-cut : (broke : Type 0) (name : List ℕ) (w : Wire) (t : Dev) → is_fastboot w.device.mode ≡ true → IsInterrupted broke (Flash name) w t → IsFlashLeft broke name (loaded_image w.loaded) w.device t
left-cut broke name w t f (inl e) = inl e
left-cut broke name w t f (inr (inl e)) = left-said broke name w t f e
left-cut broke name w t f (inr (inr h)) = inr (inr (h.0, (h.1.change.0, under-over (loaded_image w.loaded) (bytes_of w.device name) h.1.change.0 h.1.change.1, h.1.change.2)))

left-fail : (broke more : Type 0) → (broke → more) → (name text : List ℕ) (w u : Wire) → is_fastboot w.device.mode ≡ true → IsExchanged broke (Flash name) (Fail text) w u → IsFlashLeft more name (loaded_image w.loaded) w.device u.device
left-fail broke more later name text w u f (inl x) = left-said more name w u.device f x.device
left-fail broke more later name text w u f (inr x) =
    let c = x.1.halts.change in inr (inr (later x.0, (c.0, under-over (loaded_image w.loaded) (bytes_of w.device name) c.0 c.1, c.2)))

-- why it is refused
stuck-said : (name text : List ℕ) (w u : Wire) (cells : List Cell) → (loaded : Loaded) → w.loaded ≡ loaded → option_and_then image loaded ≡ Some cells → IsExchanged ⊥ (Flash name) (Fail text) w u → RefusedStep (Put name cells) text w.device u.device
stuck-said name text w u cells None l e x = absurd cc
stuck-said name text w u cells (Some file) l e (inr x) = absurd x.0
stuck-said name text w u cells (Some file) l e (inl x) =
    let said = ap (λ o. says w.device o (Flash name)) l ∙ decisions.put name file cells w.device e in
    let d = decides-fail (refusal_of (Put name cells) w.device) (apply (Put name cells)) w.device (Some file) x.says_so.lines text (sym (ap (λ s. s.replies) said) ∙ x.says_so.all) in
    record { refusal = d.0; same = x.device ∙ (ap (λ s. s.device) said ∙ d.1) }

stuck-fail : (broke : Type 0) (k l : ℕ) → (broke → Rose k l) → (name text : List ℕ) (w u : Wire) → IsExchanged broke (Flash name) (Fail text) w u → (cells : List Cell) → option_and_then image w.loaded ≡ Some cells → RefusedStep (Put name cells) text w.device u.device ⊎ IsHaltedNow k l text u.device
stuck-fail broke k l later name text w u (inl x) cells e = inl (stuck-said name text w u cells w.loaded refl e (inl x))
stuck-fail broke k l later name text w u (inr x) cells e =
    inr (later x.0, fail-told text (codes "disk fault") x.1.told, ap (λ (d : Dev). d.mode) x.1.halts.change.2)

pub Flash-fail : (name : List ℕ) (a b : Seen) (d : PortTold) (text : List ℕ) → Serving 4104 a.port.peer → Concluded (Flash name) a b (Fail text) → Kept a.port b.port → Drops b.port d → Sound d.peer → FlashFails name a (seen d b.text) (stop.Refused text)
Flash-fail name a b d text f k kept drops sound =
    let broke = Rose a.port.faults b.port.faults in
    let more = Rose a.port.faults d.faults in
    let later : broke → more = λ r. (let l = drops.kept.later in omega (arith, r, l)) in
    let x = Exchanged-concluded (Flash name) a b (Fail text) k in
    record {
      why = tt;
      unshown = tt;
      left = on-hung (λ w u. IsFlashLeft more name (loaded_image w.loaded) w.device u.device) (λ w t. IsFlashLeft more name (loaded_image w.loaded) w.device t) (λ w u r. r) a.port.peer b.port.peer d.peer
          (with-on (IsServing 4104) (IsExchanged broke (Flash name) (Fail text)) (λ w u. IsFlashLeft more name (loaded_image w.loaded) w.device u.device) (λ w u s y. left-fail broke more later name text w u s.runs y) a.port.peer b.port.peer f x) drops.left;
      stuck = on-hung (IsExchanged broke (Flash name) (Fail text)) (λ w t. (cells : List Cell) → option_and_then image w.loaded ≡ Some cells → RefusedStep (Put name cells) text w.device t ⊎ IsHaltedNow a.port.faults d.faults text t)
          (stuck-fail broke a.port.faults d.faults later name text) a.port.peer b.port.peer d.peer x drops.left;
      quiet = concluded-quiet name a b (Fail text) k;
      grows = record { more = shown_lines k.infos; grew = k.shown };
      heard = λ h. subst (λ o. HeardThen o (frame (reply_bytes (Fail text)))) (sym drops.heard)
          (heard-more a.port.heard b.port.heard k.infos (frame (reply_bytes (Fail text))) h (subst (Appended a.port.heard b.port.heard) (sym (frames-snoc k.infos (Fail text))) k.bytes));
      down = drops.down;
      sound = sound;
      kept = Kept-trans a.port b.port d kept drops.kept;
    }

with-off : (P : Wire → Type 0) (R S : Wire → Dev → Type 0) → ((w : Wire) (dev : Dev) → P w → R w dev → S w dev) → (a b : Option Peer) → OfLink P a → OffLink R a b → OffLink S a b
with-off P R S f None None p r = tt
with-off P R S f None (Some q) p r = absurd r
with-off P R S f (Some (Apart dev)) b p r = absurd r
with-off P R S f (Some (Joined w)) None p r = absurd r
with-off P R S f (Some (Joined w)) (Some (Joined u)) p r = absurd r
with-off P R S f (Some (Joined w)) (Some (Apart dev)) p r = f w dev p r

cut-left : (name : List ℕ) (a b : PortTold) → Serving 4104 a.peer → Exchanged (Flash name) a b None → OffLink (λ w t. IsFlashLeft (Rose a.faults b.faults) name (loaded_image w.loaded) w.device t) a.peer b.peer
cut-left name a b f x =
    with-off (IsServing 4104) (IsInterrupted (Rose a.faults b.faults) (Flash name)) (λ w t. IsFlashLeft (Rose a.faults b.faults) name (loaded_image w.loaded) w.device t)
    (λ w t s y. left-cut (Rose a.faults b.faults) name w t s.runs y) a.peer b.peer f x

unstuck-flash : (name : List ℕ) (a b : PortTold) (e : LinkError) → IsFlashStuck (stop_of e) name a b
unstuck-flash name a b link.Link = tt
unstuck-flash name a b link.Ended = tt
unstuck-flash name a b (link.BadHandshake four) = tt
unstuck-flash name a b (link.BadLength n) = tt
unstuck-flash name a b (link.BadReply reply) = tt
unstuck-flash name a b link.TooManyInfos = tt

okay-line : (x : Reply) → is_line x ≡ true → x ≡ Okay [] → ⊥
okay-line x l e = let h : is_line (Okay []) ≡ true = sym (ap is_line e) ∙ l in cc

fail-line : (x : Reply) (text : List ℕ) → is_line x ≡ true → x ≡ Fail text → ⊥
fail-line x text l e = let h : is_line (Fail text) ≡ true = sym (ap is_line e) ∙ l in cc

lines-decided : (infos more : List Reply) (o : Option (List ℕ)) (change : Dev → Dev) (dev : Dev) (loaded : Loaded) → list_all is_line infos ≡ true → (decides o change dev loaded).replies ≡ infos ++ more → infos ≡ []
lines-decided [] more o change dev loaded l e = refl
lines-decided (x ∷ infos) more None change dev loaded l e =
    let h : x ≡ Okay [] = cc in absurd (okay-line x (both (is_line x) (list_all is_line infos) l).0 h)
lines-decided (x ∷ infos) more (Some text) change dev loaded l e =
    let h : x ≡ Fail text = cc in absurd (fail-line x text (both (is_line x) (list_all is_line infos) l).0 h)

says-flash : (name : List ℕ) (infos : List Reply) (a : Option Peer) → list_all is_line infos ≡ true → SaysFirst (Flash name) a infos → OfLink (λ w. infos ≡ []) a
says-flash name infos a l d =
    of-of (λ w. (more : List Reply) × ((says w.device w.loaded (Flash name)).replies ≡ infos ++ more)) (λ w. infos ≡ [])
    (λ w q. lines-decided infos q.0 (flash_refusal w.device w.loaded name) (apply (Put name (loaded_image w.loaded))) w.device w.loaded l (sym (ap (λ s. s.replies) (flash-decides name w)) ∙ q.1)) a d

pub Flash-broken : (name p : List ℕ) (a b : Seen) (e : LinkError) (error : DriveError) → spelling (Flash name) ≡ Some p → error ≡ stop_of e → Serving 4104 a.port.peer → BrokeOff (SaysFirst (Flash name) a.port.peer) 0 a b e → Why (IsUndue (Flash name)) e a.port b.port → (e ≢ link.Link → LogsWhole (Flash name) a.port b.port) → IsCutOff (Flash name) a.port b.port → Exchanged (Flash name) a.port b.port None → Kept a.port b.port → FlashFails name a b error
Flash-broken name p a b e error spelled same f k w l cut x kept = subst (FlashFails name a b) (sym same) (record {
  why = why-broken (Flash name) e a.port b.port w;
  left = cut-left name a.port b.port f x;
  stuck = unstuck-flash name a.port b.port e;
  unshown = unshown-link e a.port.peer;
  quiet = quiet-none k.infos a.port.peer a.text b.text (says-flash name k.infos a.port.peer k.lines k.due) k.shown;
  grows = record { more = shown_lines k.infos; grew = k.shown };
  heard = heard-broken (Flash name) p e a b k w l spelled;
  down = cut.down;
  sound = cut.sound;
  kept = kept;
})

pub Flash-unshown : (name : List ℕ) (a b : Seen) → Serving 4104 a.port.peer → ShownInPart (SaysFirst (Flash name) a.port.peer) 0 a b → IsCutOff (Flash name) a.port b.port → Exchanged (Flash name) a.port b.port None → Kept a.port b.port → FlashFails name a b stop.Output
Flash-unshown name a b f k cut x kept = record {
  why = tt;
  left = cut-left name a.port b.port f x;
  stuck = tt;
  unshown = unshown-none k.infos a.port.peer k.some (says-flash name k.infos a.port.peer k.lines k.due);
  quiet = quiet-part k.infos a.port.peer a.text b.text (says-flash name k.infos a.port.peer k.lines k.due) k.shown;
  grows = grows-part a.text b.text (shown_lines k.infos) k.shown;
  heard = λ h. tt;
  down = cut.down;
  sound = cut.sound;
  kept = kept;
}

-- a name is spelled
pub flash-some : (name : List ℕ) → IsName name → spelling (Flash name) ≡ Some (codes "flash:" ++ name)
flash-some name h = ap (λ b. only_if b (codes "flash:" ++ name)) h

pub Free-serving : (spare : ℕ) (a : Option Peer) → Serving spare a → Free a
Free-serving spare a s = of-of (IsServing spare) IsFree (λ w p. record { running = p.free.running; bounded = (let b = p.free.bounded in omega (arith, b)) }) a s

pub ruleset flashes = (Free-serving)
