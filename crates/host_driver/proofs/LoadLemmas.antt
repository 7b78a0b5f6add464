-- A download of a piece, from its command to its end.
use Rattle.std.proofs.Common.{◌≡◌, inl, inr, ℕ, ◌≢◌, ◌+◌, ◌^◌, ◌<◌, ◌≤◌, Bool, true, false, List, [], ◌∷◌, ◌++◌, length, length-append, Option, Some, None, refl, sym, ap, ◌∙◌, subst, arith}
use Rattle.std.specs.Prelude.{codes, ◌&&◌, nat_lt, ◌==◌, if◌then◌else◌, unwrap_or}
use Rattle.std.specs.List.{list_all}
use Rattle.std.proofs.lemmas.Bool.Decides.{nat_tests}
use Rattle.std.proofs.lemmas.Grind.{flat_map-append}
use Rattle.std.proofs.lemmas.List.{append-nil, append_assoc}
use Rattle.fb_frame.specs.Greeting.{handshake}
use Rattle.fb_frame.proofs.SinkLemmas.{Grew-append}
use Rattle.fb_message.proofs.Commands.{command_again}
use Rattle.host_driver.specs.Driving.{Grows}
use Rattle.fb_frame.specs.Causes.{Rose}
use Rattle.fb_frame.specs.Framing.{frame, head}
use Rattle.fb_message.specs.CommandText.{Download, spelling}
use Rattle.fb_message.specs.declared.reply.Reply.{Reply}
use Rattle.fb_message.specs.declared.reply.Reply.TheVariants.{Okay, Fail, Load}
use Rattle.dev_model.specs.declared.device.Dev.{Dev}
use Rattle.fb_frame.specs.Numbers.{hex8}
use Rattle.fb_frame.specs.Sinks.{Grew, GrewPart}
use Rattle.fb_message.specs.Prefixes.{only_if}
use Rattle.fb_message.specs.ReplyText.{reply_bytes, reply_fits}
use Rattle.dev_model.specs.Options.{first_passed}
use Rattle.dev_model.proofs.Valid.{both}
use Rattle.dev_model.specs.Refusals.{download_refusal}
use Rattle.wire_model.specs.Says.{Loaded, says, awaits}
use Rattle.wire_model.specs.Wire.{Wire}
use Rattle.wire_told.specs.Answered.{IsSending as IsSendingWire, Downloading, Unbegun, Loads, got_of, is_line, ends_well, reply_frames, Sound, IsAnswered}
use Rattle.wire_told.specs.Exchanges.{said_to, IsExchanged, Exchanged, IsInterrupted}
use Rattle.wire_told.specs.Peers.{Peer, Apart, Joined, OfLink, OnLink, OffLink}
use Rattle.wire_told.specs.Places.{Appended}
use Rattle.wire_told.specs.Ports.{PortTold, Kept, Drops}
use Rattle.wire_told.specs.Told.{Heard, HungUp}
use Rattle.wire_told.proofs.KeptLemmas.{Appended-append}
use Rattle.wire_told.proofs.Lifted.{of-of, of-both, on-on, on-then, kept-hung}
use Rattle.wire_told.proofs.ExchangeLemmas.{said-open}
use Rattle.wire_told.proofs.PortLemmas.{Kept-trans}
use Rattle.wire_told.proofs.StateLemmas.{finished, suits-load, announces-download}
use Rattle.fb_link.specs.Concluded.{Concluded, ConcludedAfter, Finished, IsCutOff, IsGivenUp, IsUndue, IsNoVerdict, LogsWhole}
use Rattle.fb_link.specs.Seen.{Seen, seen}
use Rattle.fb_link.specs.declared.link_error.LinkError.{LinkError}
use Rattle.fb_link.specs.declared.link_error.LinkError.TheVariants as link
use Rattle.fb_link.specs.Broken.{BrokeOff, ShownInPart, SaysFirst, GivesNone}
use Rattle.fb_link.specs.Lines.{shown_lines}
use Rattle.fb_link.specs.Errors.{Why}
use Rattle.fb_link.proofs.EndLemmas.{frames-snoc}
use Rattle.fb_link.proofs.TypedLemmas.{Exchanged-concluded}
use Rattle.host_driver.specs.LinkOuts.{IsTaken, HasGivenUp}
use Rattle.host_driver.specs.declared.drive.DriveError.{DriveError}
use Rattle.host_driver.specs.declared.drive.DriveError.TheVariants as stop
use Rattle.host_driver.specs.HeardLast.{HeardThen, HeardAt}
use Rattle.host_driver.specs.PutPieces.{AreSent, HasBegun, HasEnded, HeardLoad, Unrefused, IsUnloaded, IsUnread, GoesOn, IsLoadedBy, AreLoaded}
use Rattle.host_driver.specs.Stepping.{NoFiles, stop_of, WhyStopped}
use Rattle.host_driver.proofs.TakeLemmas.{heard-more, heard-again, heard-broken, why-broken, grows-part, unshown-link, unshown-none, unshown-later}
use Rattle.host_driver.specs.Wires.{command_wire, data_wire, download_wire, LogGrew}

-- Two facts of one call.
on-with : (R : Wire → Wire → Type 0) (Q : Wire → Type 0) → (a b : Option Peer) → OnLink R a b → OfLink Q b → OnLink (λ w v. R w v × Q v) a b
on-with R Q None None r q = tt
on-with R Q None (Some b) r q = absurd r
on-with R Q (Some (Apart dev)) b r q = absurd r
on-with R Q (Some (Joined w)) None r q = absurd r
on-with R Q (Some (Joined w)) (Some (Apart dev)) r q = absurd r
on-with R Q (Some (Joined w)) (Some (Joined v)) r q = (r, q)

on-both : (R S : Wire → Wire → Type 0) → (a b : Option Peer) → OnLink R a b → OnLink S a b → OnLink (λ w v. R w v × S w v) a b
on-both R S None None r s = tt
on-both R S None (Some b) r s = absurd r
on-both R S (Some (Apart dev)) b r s = absurd r
on-both R S (Some (Joined w)) None r s = absurd r
on-both R S (Some (Joined w)) (Some (Apart dev)) r s = absurd r
on-both R S (Some (Joined w)) (Some (Joined v)) r s = (r, s)

-- what holds of the later state holds of the earlier one, where it speaks of neither
of-first : (R : Wire → Wire → Type 0) (Q : Type 0) → (a b : Option Peer) → OnLink R a b → OfLink (λ w. Q) b → OfLink (λ w. Q) a
of-first R Q None b r q = tt
of-first R Q (Some (Apart dev)) b r q = absurd r
of-first R Q (Some (Joined w)) None r q = absurd r
of-first R Q (Some (Joined w)) (Some (Apart dev)) r q = absurd r
of-first R Q (Some (Joined w)) (Some (Joined v)) r q = q

pub on-none : (R : Wire → Wire → Type 0) → (a b : Option Peer) → OnLink R a b → b ≡ None → a ≡ None
on-none R None b r e = refl
on-none R (Some (Apart dev)) b r e = absurd r
on-none R (Some (Joined w)) None r e = absurd r
on-none R (Some (Joined w)) (Some b) r e = absurd cc

-- A download begins.
pub record IsAnnounced (n : ℕ) (w u : Wire) : Type 0 where
  pub device : u.device ≡ w.device
  pub running : u.closed ≡ false
  pub none : got_of u ≡ []
  pub taken : u.taken ≡ w.taken + length (command_wire (Download n))

awaits-device : (refusal : Option (List ℕ)) (count : ℕ) (dev : Dev) (loaded : Loaded) → (awaits refusal count dev loaded).device ≡ dev
awaits-device (Some text) count dev loaded = refl
awaits-device None count dev loaded = refl

download-device : (n : ℕ) (w : Wire) → (said_to (Download n) w).device ≡ w.device
unfolding says
download-device n w = awaits-device (download_refusal w.device n) n w.device w.loaded

announced : (broke : Type 0) (n : ℕ) (p : List ℕ) (end : Reply) → spelling (Download n) ≡ Some p → (w u : Wire) → IsExchanged broke (Download n) end w u × (got_of u ≡ []) → IsAnnounced n w u
announced broke n p end e w u (inl x, g) = record {
  device = x.device ∙ download-device n w;
  running = x.closed ∙ said-open (Download n) refl w;
  none = g;
  taken = x.taken p e ∙ ap (λ o. w.taken + length (frame (unwrap_or o []))) (sym e);
}
announced broke n p end e w u (inr x, g) = absurd x.1.halts.change

Announced-on : (n m : ℕ) (a b : Seen) → Concluded (Download n) a b (Load m) → Unbegun b.port.peer → OnLink (IsAnnounced n) a.port.peer b.port.peer
Announced-on n m a b k g =
    let broke = Rose a.port.faults b.port.faults in
    on-on (λ w u. IsExchanged broke (Download n) (Load m) w u × (got_of u ≡ [])) (IsAnnounced n) (announced broke n k.payload (Load m) k.spelled) a.port.peer b.port.peer
    (on-with (IsExchanged broke (Download n) (Load m)) (λ u. got_of u ≡ []) a.port.peer b.port.peer (Exchanged-concluded (Download n) a b (Load m) k) g)

-- Its data is sent.
record IsAllTaken (bytes wire : List ℕ) (w v : Wire) : Type 0 where
  pub device : v.device ≡ w.device
  pub got : got_of v ≡ bytes
  pub running : v.closed ≡ false
  pub taken : v.taken ≡ w.taken + length wire

took-both : (n : ℕ) (bytes wire : List ℕ) (w u v : Wire) → IsAnnounced n w u → IsTaken bytes wire u v → IsAllTaken bytes (command_wire (Download n) ++ wire) w v
took-both n bytes wire w u v x t = record {
  device = t.device ∙ x.device;
  got = t.got ∙ ap (λ g. g ++ bytes) x.none;
  running = t.running;
  taken = omega (arith, t.taken, x.taken, length-append (command_wire (Download n)) wire);
}

-- And its end is heard.
abbrev IsEndHeard : List ℕ → Wire → Wire → Type 0
IsEndHeard answer u v = (u ≡ record v { out = answer ++ v.out }) × (v.loaded ≡ Some (got_of u))

ended : (bytes wire answer : List ℕ) → wire ≡ download_wire bytes → (w u v : Wire) → IsAllTaken bytes wire w u → IsEndHeard answer u v → IsLoadedBy bytes w v
ended bytes wire answer e w u v x h = record {
  device = sym (ap (λ (y : Wire). y.device) h.0) ∙ x.device;
  loaded = h.1 ∙ ap Some x.got;
  running = sym (ap (λ (y : Wire). y.closed) h.0) ∙ x.running;
  taken = sym (ap (λ (y : Wire). y.taken) h.0) ∙ x.taken ∙ ap (λ t. w.taken + length t) e;
}

-- where the bytes are as many as were announced
wire-of : (W : List ℕ → Type 0) (n : ℕ) (bytes : List ℕ) → ((bytes : List ℕ) → W bytes → length bytes ≡ n) → W bytes → command_wire (Download n) ++ data_wire bytes ≡ download_wire bytes
wire-of W n bytes e p = ap (λ m. command_wire (Download m) ++ data_wire bytes) (sym (e bytes p))

log-of : (n : ℕ) (a b : Seen) (end : Reply) → Concluded (Download n) a b end → Appended a.port.log b.port.log (command_wire (Download n))
log-of n a b end k = subst (λ o. Appended a.port.log b.port.log (frame (unwrap_or o []))) (sym k.spelled) k.log

-- the facts of one download, over a told connection
finish-took : (W : List ℕ → Type 0) (n : ℕ) (bytes answer : List ℕ) → ((bytes : List ℕ) → W bytes → length bytes ≡ n) → (w u v y : Wire) → IsAnnounced n w u × W bytes → IsTaken bytes (data_wire bytes) u y → IsEndHeard answer y v → IsLoadedBy bytes w v
finish-took W n bytes answer e w u v y x t h =
    ended bytes (command_wire (Download n) ++ data_wire bytes) answer (wire-of W n bytes e x.1) w y v
    (took-both n bytes (data_wire bytes) w u y x.0 t) h

download-took : (W : List ℕ → Type 0) (n : ℕ) (bytes answer : List ℕ) (a b c d : Option Peer) → ((bytes : List ℕ) → W bytes → length bytes ≡ n) → OnLink (IsAnnounced n) a b → OfLink (λ w. W bytes) b → OnLink (IsTaken bytes (data_wire bytes)) b c → Heard c d answer → Loads c d → OnLink (IsLoadedBy bytes) a d
download-took W n bytes answer a b c d e x p t h l =
    let first = on-with (IsAnnounced n) (λ w. W bytes) a b x p in
    let last = on-both (λ u v. u ≡ record v { out = answer ++ v.out }) (λ u v. v.loaded ≡ Some (got_of u)) c d h l in
    on-then (λ w u. (y : Wire) × (IsAnnounced n w y × W bytes) × IsTaken bytes (data_wire bytes) y u) (IsEndHeard answer) (IsLoadedBy bytes)
    (λ w u v q r. finish-took W n bytes answer e w q.0 v u q.1 q.2 r) a c d
    (on-then (λ w u. IsAnnounced n w u × W bytes) (IsTaken bytes (data_wire bytes)) (λ w u. (y : Wire) × (IsAnnounced n w y × W bytes) × IsTaken bytes (data_wire bytes) y u) (λ w u v q r. (u, q, r)) a b c first t)
    last

log-grew : (P : List ℕ → Type 0) (a b : Option (List ℕ)) (x : List ℕ) → Appended a b x → P x → LogGrew a b P
log-grew P None None x f p = tt
log-grew P None (Some b) x f p = absurd f
log-grew P (Some a) None x f p = absurd f
log-grew P (Some a) (Some b) x f p = (x, f, p)

pub Part-loaded : (W : List ℕ → Type 0) (n m k : ℕ) (a b c d : Seen) (line : List ℕ) → ((bytes : List ℕ) → W bytes → length bytes ≡ n) → Concluded (Download n) a b (Load m) → Unbegun b.port.peer → AreSent W b.port c.port → Finished k c d (Okay line) → d.port.log ≡ c.port.log → AreLoaded W a.port d.port
unfolding AreSent AreLoaded
Part-loaded W n m k a b c d line e con g s f log =
    let x = Announced-on n m a b con g in
    let is = of-first (IsAnnounced n) (W s.bytes) a.port.peer b.port.peer x s.wanted in
    let wire = command_wire (Download n) ++ data_wire s.bytes in
    record {
      bytes = s.bytes;
      wanted = is;
      took = download-took W n s.bytes (reply_frames (f.infos ++ Okay line ∷ [])) a.port.peer b.port.peer c.port.peer d.port.peer e x s.wanted s.sent.took f.told f.loaded;
      log = log-grew (λ t. OfLink (λ w. t ≡ download_wire s.bytes) a.port.peer) a.port.log d.port.log wire
          (subst (λ t. Appended a.port.log t wire) (sym log)
          (Appended-append a.port.log b.port.log c.port.log (command_wire (Download n)) (data_wire s.bytes) (log-of n a b (Load m) con) s.sent.log))
          (of-of (λ w. W s.bytes) (λ w. wire ≡ download_wire s.bytes) (λ w p. wire-of W n s.bytes e p) a.port.peer is);
    }

-- A told device refuses no download that it has room for.
one-end : (x y : Reply) (lines : List Reply) → x ∷ [] ≡ lines ++ y ∷ [] → y ≡ x
one-end x y [] e = cc
one-end x y (z ∷ []) e = absurd cc
one-end x y (z ∷ (v ∷ lines)) e = absurd cc

load-fail : (n : ℕ) (text : List ℕ) → Fail text ≡ Load n → ⊥
load-fail n text e = cc

awaits-fits : (dev : Dev) (loaded : Loaded) (n : ℕ) → n ≤ dev.max → (b : Bool) → nat_lt dev.max n ≡ b → (awaits (download_refusal dev n) n dev loaded).replies ≡ Load n ∷ []
awaits-fits dev loaded n h true e = absurd (let k : dev.max < n = grind (arith, nat_tests) in omega (arith, h, k))
awaits-fits dev loaded n h false e = ap (λ b. (awaits (first_passed ((b, codes "download too large") ∷ [])) n dev loaded).replies) e

fits-replies : (n : ℕ) (w : Wire) → n ≤ w.device.max → (said_to (Download n) w).replies ≡ Load n ∷ []
unfolding says
fits-replies n w h = awaits-fits w.device w.loaded n h (nat_lt w.device.max n) refl

refused-none : (broke : Type 0) (n : ℕ) (text : List ℕ) (w u : Wire) → n ≤ w.device.max → IsExchanged broke (Download n) (Fail text) w u → ⊥
refused-none broke n text w u h (inl x) = load-fail n text (one-end (Load n) (Fail text) x.says_so.lines (sym (fits-replies n w h) ∙ x.says_so.all))
refused-none broke n text w u h (inr x) = x.1.halts.change

on-never : (P : Wire → Type 0) (R : Wire → Wire → Type 0) → ((w u : Wire) → P w → R w u → ⊥) → (a b : Option Peer) → OfLink P a → OnLink R a b → a ≡ None
on-never P R f None b p r = refl
on-never P R f (Some (Apart dev)) b p r = absurd p
on-never P R f (Some (Joined w)) None p r = absurd r
on-never P R f (Some (Joined w)) (Some (Apart dev)) p r = absurd r
on-never P R f (Some (Joined w)) (Some (Joined u)) p r = absurd (f w u p r)

pub Refused-untold : (n : ℕ) (a b : Seen) (text : List ℕ) → OfLink (λ w. n ≤ w.device.max) a.port.peer → Concluded (Download n) a b (Fail text) → a.port.peer ≡ None
Refused-untold n a b text h k =
    on-never (λ w. n ≤ w.device.max) (IsExchanged (Rose a.port.faults b.port.faults) (Download n) (Fail text))
    (λ w u p r. refused-none (Rose a.port.faults b.port.faults) n text w u p r) a.port.peer b.port.peer h (Exchanged-concluded (Download n) a b (Fail text) k)

-- a download is never answered by OKAY at once
pub Okay-never : (n : ℕ) (a b : Seen) (line : List ℕ) → Concluded (Download n) a b (Okay line) → ⊥
Okay-never n a b line k = let e = k.suitable in cc

-- An end of a download is OKAY over a told connection.
okay-only : (infos : List Reply) (end : Reply) → infos ++ end ∷ [] ≡ Okay [] ∷ [] → end ≡ Okay []
okay-only [] end e = cc
okay-only (x ∷ []) end e = absurd cc
okay-only (x ∷ (y ∷ infos)) end e = absurd cc

ends-last : (infos : List Reply) (end : Reply) → list_all is_line infos ≡ true → is_line end ≡ false → ends_well (infos ++ end ∷ []) ≡ true
ends-last [] end e f = ap (λ b. if b then false else true) f
ends-last (x ∷ infos) end e f =
    let h = both (is_line x) (list_all is_line infos) e in
    ap (λ b. if b then ends_well (infos ++ end ∷ []) else (length (infos ++ end ∷ []) == 0)) h.0 ∙ ends-last infos end h.1 f

fail-okay : (text : List ℕ) → Fail text ≡ Okay [] → ⊥
fail-okay text e = cc

ends-none : (infos : List Reply) (text : List ℕ) → list_all is_line infos ≡ true → list_all reply_fits (infos ++ Fail text ∷ []) ≡ true → (w v : Wire) → IsSendingWire 0 w → w ≡ record v { out = reply_frames (infos ++ Fail text ∷ []) ++ v.out } → ⊥
ends-none infos text lines fits w v s h =
    fail-okay text (okay-only infos (Fail text) (finished (infos ++ Fail text ∷ []) w v s (ends-last infos (Fail text) lines refl) fits h).0)

Ended-untold : (k : ℕ) (c d : Seen) (text : List ℕ) → Downloading 0 c.port.peer → Finished k c d (Fail text) → c.port.peer ≡ None
Ended-untold k c d text s f =
    on-never (IsSendingWire 0) (λ w v. w ≡ record v { out = reply_frames (f.infos ++ Fail text ∷ []) ++ v.out })
    (ends-none f.infos text f.lines f.fits) c.port.peer d.port.peer s f.told

sent-none : (W : List ℕ → Type 0) (b c : PortTold) → AreSent W b c → c.peer ≡ None → b.peer ≡ None
unfolding AreSent
sent-none W b c s e = on-none (IsTaken s.bytes (data_wire s.bytes)) b.peer c.peer s.sent.took e

begun-none : (n m : ℕ) (a b : Seen) → Concluded (Download n) a b (Load m) → b.port.peer ≡ None → a.port.peer ≡ None
begun-none n m a b k e =
    on-none (IsExchanged (Rose a.port.faults b.port.faults) (Download n) (Load m)) a.port.peer b.port.peer (Exchanged-concluded (Download n) a b (Load m) k) e

sent-due : (W : List ℕ → Type 0) (b c : PortTold) → AreSent W b c → Downloading 0 c.peer
unfolding AreSent
sent-due W b c s = s.sending

pub End-untold : (W : List ℕ → Type 0) (n m k : ℕ) (a b c d : Seen) (text : List ℕ) → Concluded (Download n) a b (Load m) → AreSent W b.port c.port → Finished k c d (Fail text) → a.port.peer ≡ None
End-untold W n m k a b c d text con s f =
    begun-none n m a b con (sent-none W b.port c.port s (Ended-untold k c d text (sent-due W b.port c.port s) f))

-- The connection is given up: at the command, amid the data, or at the end.
interrupted-same : (broke : Type 0) (n : ℕ) (w : Wire) (dev : Dev) → IsInterrupted broke (Download n) w dev → dev ≡ w.device
interrupted-same broke n w dev (inl e) = e
interrupted-same broke n w dev (inr (inl e)) = e ∙ download-device n w
interrupted-same broke n w dev (inr (inr h)) = absurd h.1.change

off-hung : (R : Wire → Dev → Type 0) → ((w : Wire) (dev : Dev) → R w dev → dev ≡ w.device) → (a b : Option Peer) → OffLink R a b → HungUp a b
off-hung R f None None r = tt
off-hung R f None (Some q) r = absurd r
off-hung R f (Some (Apart dev)) b r = absurd r
off-hung R f (Some (Joined w)) None r = absurd r
off-hung R f (Some (Joined w)) (Some (Joined v)) r = absurd r
off-hung R f (Some (Joined w)) (Some (Apart dev)) r = f w dev r

pub Cut-given : (n : ℕ) (a b : PortTold) → IsCutOff (Download n) a b → Exchanged (Download n) a b None → IsGivenUp a b
Cut-given n a b c x = record {
  down = c.down;
  left = off-hung (IsInterrupted (Rose a.faults b.faults) (Download n)) (interrupted-same (Rose a.faults b.faults) n) a.peer b.peer x;
  sound = c.sound;
}

begun-hung : (n m : ℕ) (a b : Seen) (c : Option Peer) → Concluded (Download n) a b (Load m) → HungUp b.port.peer c → HungUp a.port.peer c
begun-hung n m a b c k h =
    let broke = Rose a.port.faults b.port.faults in
    kept-hung (IsExchanged broke (Download n) (Load m)) (same broke) a.port.peer b.port.peer c (Exchanged-concluded (Download n) a b (Load m) k) h
  where
    same : (broke : Type 0) (w u : Wire) → IsExchanged broke (Download n) (Load m) w u → u.device ≡ w.device
    same broke w u (inl x) = x.device ∙ download-device n w
    same broke w u (inr x) = absurd x.1.halts.change

pub Data-given : (n m : ℕ) (a b : Seen) (c : PortTold) → Concluded (Download n) a b (Load m) → HasGivenUp b.port c → IsGivenUp a.port c
unfolding HasGivenUp
Data-given n m a b c k g = record { down = g.down; left = begun-hung n m a b c.peer k g.left; sound = g.sound }

pub Kept-given : (a b c : PortTold) → Kept a b → HasGivenUp b c → Kept a c
unfolding HasGivenUp
Kept-given a b c k g = Kept-trans a b c k g.kept

pub Kept-sent : (W : List ℕ → Type 0) (a b c : PortTold) → Kept a b → AreSent W b c → Kept a c
unfolding AreSent
Kept-sent W a b c k s = Kept-trans a b c k s.sent.kept

sent-hung : (W : List ℕ → Type 0) (b c : PortTold) (d : Option Peer) → AreSent W b c → HungUp c.peer d → HungUp b.peer d
unfolding AreSent
sent-hung W b c d s h = kept-hung (IsTaken s.bytes (data_wire s.bytes)) (λ w u t. t.device) b.peer c.peer d s.sent.took h

pub End-given : (W : List ℕ → Type 0) (n m : ℕ) (a b : Seen) (c d : PortTold) → Concluded (Download n) a b (Load m) → AreSent W b.port c → IsGivenUp c d → IsGivenUp a.port d
End-given W n m a b c d k s g = record {
  down = g.down;
  left = begun-hung n m a b d.peer k (sent-hung W b.port c d.peer s g.left);
  sound = g.sound;
}

-- What was said before a download was cut.
lines-load : (infos more : List Reply) (n : ℕ) → list_all is_line infos ≡ true → Load n ∷ [] ≡ infos ++ more → infos ≡ []
lines-load [] more n l e = refl
lines-load (x ∷ infos) more n l e = absurd (line-load x n (both (is_line x) (list_all is_line infos) l).0 cc)
  where
    line-load : (x : Reply) (n : ℕ) → is_line x ≡ true → x ≡ Load n → ⊥
    line-load x n l e = let h : is_line (Load n) ≡ true = subst (λ y. is_line y ≡ true) e l in cc

says-none : (n : ℕ) (infos : List Reply) (a : Option Peer) → list_all is_line infos ≡ true → OfLink (λ w. n ≤ w.device.max) a → SaysFirst (Download n) a infos → OfLink (λ w. infos ≡ []) a
says-none n infos a l f d =
    of-both (λ w. n ≤ w.device.max) (λ w. (more : List Reply) × ((said_to (Download n) w).replies ≡ infos ++ more)) (λ w. infos ≡ [])
    (λ w p q. lines-load infos q.0 n l (sym (fits-replies n w p) ∙ q.1)) a f d

pub quiet-none : (infos : List Reply) (a : Option Peer) (t u : Option (List ℕ)) → OfLink (λ w. infos ≡ []) a → Grew t u (shown_lines infos) → OfLink (λ w. Grew t u []) a
quiet-none infos a t u n g = of-of (λ w. infos ≡ []) (λ w. Grew t u []) (λ w e. subst (λ i. Grew t u (shown_lines i)) e g) a n

part-none : (t u : Option (List ℕ)) → GrewPart t u [] → Grew t u []
part-none None None g = tt
part-none None (Some u) g = absurd g
part-none (Some t) None g = absurd g
part-none (Some t) (Some u) g = absurd (omega (arith, g.fewer))

pub quiet-part : (infos : List Reply) (a : Option Peer) (t u : Option (List ℕ)) → OfLink (λ w. infos ≡ []) a → GrewPart t u (shown_lines infos) → OfLink (λ w. Grew t u []) a
quiet-part infos a t u n g = of-of (λ w. infos ≡ []) (λ w. Grew t u []) (λ w e. part-none t u (subst (λ i. GrewPart t u (shown_lines i)) e g)) a n

of-untold : (P : Wire → Type 0) (a : Option Peer) → a ≡ None → OfLink P a
of-untold P None e = tt
of-untold P (Some a) e = absurd cc

kept-told : (n : ℕ) (end : Reply) (a b : Seen) (c : Option Peer) → Concluded (Download n) a b end → HungUp b.port.peer c → HungUp a.port.peer c
kept-told n end a b c k h =
    let broke = Rose a.port.faults b.port.faults in
    kept-hung (IsExchanged broke (Download n) end) (same broke) a.port.peer b.port.peer c (Exchanged-concluded (Download n) a b end k) h
  where
    same : (broke : Type 0) (w u : Wire) → IsExchanged broke (Download n) end w u → u.device ≡ w.device
    same broke w u (inl x) = x.device ∙ download-device n w
    same broke w u (inr x) = absurd x.1.halts.change

unrefused-link : (e : LinkError) (a : Option Peer) → Unrefused (stop_of e) a
unrefused-link link.Link a = tt
unrefused-link link.Ended a = tt
unrefused-link (link.BadHandshake four) a = tt
unrefused-link (link.BadLength n) a = tt
unrefused-link (link.BadReply reply) a = tt
unrefused-link link.TooManyInfos a = tt

-- The command was refused, or its connection is lost.
pub Unbegun-fail : (n : ℕ) (a b : Seen) (d : PortTold) (text : List ℕ) → OfLink (λ w. n ≤ w.device.max) a.port.peer → Concluded (Download n) a b (Fail text) → Kept a.port b.port → Drops b.port d → Sound d.peer →
    IsUnloaded NoFiles (HeardThen a.port.heard []) a (seen d b.text) (stop.Refused text)
Unbegun-fail n a b d text f k kept drops sound =
    let untold = Refused-untold n a b text f k in
    record {
      why = tt;
      given_up = record { down = drops.down; left = kept-told n (Fail text) a b d.peer k drops.left; sound = sound };
      unrefused = untold;
      unshown = tt;
      quiet = of-untold (λ w. Grew a.text b.text []) a.port.peer untold;
      grows = record { more = shown_lines k.infos; grew = k.shown };
      heard = λ h. subst (λ o. HeardThen o (frame (reply_bytes (Fail text)))) (sym drops.heard)
          (heard-more a.port.heard b.port.heard k.infos (frame (reply_bytes (Fail text))) h (subst (Appended a.port.heard b.port.heard) (sym (frames-snoc k.infos (Fail text))) k.bytes));
      kept = Kept-trans a.port b.port d kept drops.kept;
    }

pub Unbegun-broken : (n : ℕ) (a b : Seen) (e : LinkError) (error : DriveError) → n < 2 ^ 32 → error ≡ stop_of e → OfLink (λ w. n ≤ w.device.max) a.port.peer → BrokeOff (SaysFirst (Download n) a.port.peer) 0 a b e → Why (IsUndue (Download n)) e a.port b.port → (e ≢ link.Link → LogsWhole (Download n) a.port b.port) → IsCutOff (Download n) a.port b.port → Exchanged (Download n) a.port b.port None → Kept a.port b.port →
    IsUnloaded NoFiles (HeardThen a.port.heard []) a b error
Unbegun-broken n a b e error small same f k w l cut x kept =
    let fits : nat_lt n (2 ^ 32) ≡ true = grind (arith, nat_tests, small) in
    let spelled : spelling (Download n) ≡ Some (codes "download:" ++ hex8 n) = ap (λ t. only_if t (codes "download:" ++ hex8 n)) fits in
    subst (IsUnloaded NoFiles (HeardThen a.port.heard []) a b) (sym same) (record {
      why = why-broken (Download n) e a.port b.port w;
      given_up = Cut-given n a.port b.port cut x;
      unrefused = unrefused-link e a.port.peer;
      unshown = unshown-link e a.port.peer;
      quiet = quiet-none k.infos a.port.peer a.text b.text (says-none n k.infos a.port.peer k.lines f k.due) k.shown;
      grows = record { more = shown_lines k.infos; grew = k.shown };
      heard = heard-broken (Download n) (codes "download:" ++ hex8 n) e a b k w l spelled;
      kept = kept;
    })

pub Unbegun-unshown : (n : ℕ) (a b : Seen) → OfLink (λ w. n ≤ w.device.max) a.port.peer → ShownInPart (SaysFirst (Download n) a.port.peer) 0 a b → IsCutOff (Download n) a.port b.port → Exchanged (Download n) a.port b.port None → Kept a.port b.port →
    IsUnloaded NoFiles (HeardThen a.port.heard []) a b stop.Output
Unbegun-unshown n a b f k cut x kept = record {
  why = tt;
  given_up = Cut-given n a.port b.port cut x;
  unrefused = tt;
  unshown = unshown-none k.infos a.port.peer k.some (says-none n k.infos a.port.peer k.lines f k.due);
  quiet = quiet-part k.infos a.port.peer a.text b.text (says-none n k.infos a.port.peer k.lines f k.due) k.shown;
  grows = grows-part a.text b.text (shown_lines k.infos) k.shown;
  heard = λ h. tt;
  kept = kept;
}

pub counted : (n m : ℕ) (a b : Seen) → Concluded (Download n) a b (Load m) → m ≡ n
counted n m a b k = same-count (announces-download (Download n) m (suits-load (Download n) m k.suitable))
  where
    same-count : Download n ≡ Download m → m ≡ n
    same-count e = cc

pub Begun-load : (n m lines : ℕ) (a b : Seen) → ConcludedAfter (Download n) a b (Load m) lines → Unbegun b.port.peer → Kept a.port b.port → HasBegun n a b lines
Begun-load n m lines a b k g kept = record { count = m; concluded = k.0; counted = k.1; unbegun = g; kept = kept }

-- The end of a download.
pub Ended-okay : (lines : ℕ) (a b : Seen) (line : List ℕ) → Finished lines a b (Okay line) → b.port.log ≡ a.port.log → Kept a.port b.port → HasEnded lines a b
Ended-okay lines a b line f l k = record { line = line; finished = f; log = l; kept = k }

-- what is heard after DATA and more
heard-load : (lines : ℕ) (a b : Option (List ℕ)) (rs : List Reply) (x : List ℕ) → HeardLoad lines a → Appended a b (reply_frames rs ++ x) → HeardThen b x
heard-load lines a b rs x h f = heard-more a b rs x (heard-same a (h.0 ++ Load h.1 ∷ []) h.4) f
  where
    heard-same : (a : Option (List ℕ)) (fs : List Reply) → HeardThen a (reply_frames fs) → HeardThen a []
    heard-same None fs h = tt
    heard-same (Some a) fs h = (h.0 ++ fs, h.1 ∙ (append_assoc (handshake 1) (reply_frames h.0) (reply_frames fs) ∙ (ap (λ t. handshake 1 ++ t) (sym (flat_map-append (λ r. frame (reply_bytes r)) h.0 fs)) ∙ sym (append-nil (handshake 1 ++ reply_frames (h.0 ++ fs))))))

pub Ended-fail : (lines : ℕ) (a b : Seen) (d : PortTold) (text : List ℕ) → Downloading 0 a.port.peer → Finished lines a b (Fail text) → Kept a.port b.port → Drops b.port d → Sound d.peer →
    IsUnloaded NoFiles (HeardLoad lines a.port.heard) a (seen d b.text) (stop.Refused text)
Ended-fail lines a b d text s f kept drops sound =
    let untold = Ended-untold lines a b text s f in
    record {
      why = tt;
      given_up = record { down = drops.down; left = kept-hung (λ w v. w ≡ record v { out = reply_frames (f.infos ++ Fail text ∷ []) ++ v.out }) (λ w v e. sym (ap (λ (x : Wire). x.device) e)) a.port.peer b.port.peer d.peer f.told drops.left; sound = sound };
      unrefused = untold;
      unshown = tt;
      quiet = of-untold (λ w. Grew a.text b.text []) a.port.peer untold;
      grows = record { more = shown_lines f.infos; grew = f.shown };
      heard = λ h. subst (λ o. HeardThen o (frame (reply_bytes (Fail text)))) (sym drops.heard)
          (heard-load lines a.port.heard b.port.heard f.infos (frame (reply_bytes (Fail text))) h (subst (Appended a.port.heard b.port.heard) (sym (frames-snoc f.infos (Fail text))) f.bytes));
      kept = Kept-trans a.port b.port d kept drops.kept;
    }

why-ended : (e : LinkError) (a b : PortTold) → Why IsNoVerdict e a b → WhyStopped NoFiles a b (stop_of e)
why-ended link.Link a b w = w
why-ended link.Ended a b w = w
why-ended (link.BadHandshake four) a b w = absurd w
why-ended (link.BadLength n) a b w = w.0
why-ended (link.BadReply reply) a b w = w.0
why-ended link.TooManyInfos a b w = w

-- replies that were heard after others
heard-both : (a b : Option (List ℕ)) (fs rs : List Reply) (x : List ℕ) → HeardThen a (reply_frames fs) → Appended a b (reply_frames rs ++ x) → HeardThen b (reply_frames (fs ++ rs) ++ x)
heard-both None None fs rs x h f = tt
heard-both None (Some b) fs rs x h f = absurd f
heard-both (Some a) None fs rs x h f = absurd f
heard-both (Some a) (Some b) fs rs x h f =
    let front = handshake 1 ++ reply_frames h.0 in (
      h.0,
      f ∙ (ap (λ t. t ++ (reply_frames rs ++ x)) h.1 ∙ (append_assoc front (reply_frames fs) (reply_frames rs ++ x)
          ∙ ap (λ t. front ++ t) (sym (append_assoc (reply_frames fs) (reply_frames rs) x) ∙ ap (λ t. t ++ x) (sym (flat_map-append (λ r. frame (reply_bytes r)) fs rs))))),
    )

heard-later : (b : Option (List ℕ)) (gs hs : List Reply) (x : List ℕ) → HeardThen b (reply_frames (gs ++ hs) ++ x) → HeardThen b (reply_frames hs ++ x)
heard-later None gs hs x h = tt
heard-later (Some b) gs hs x h = (
  h.0 ++ gs,
  h.1 ∙ (ap (λ t. (handshake 1 ++ reply_frames h.0) ++ (t ++ x)) (flat_map-append (λ r. frame (reply_bytes r)) gs hs)
      ∙ (ap (λ t. (handshake 1 ++ reply_frames h.0) ++ t) (append_assoc (reply_frames gs) (reply_frames hs) x)
      ∙ (sym (append_assoc (handshake 1 ++ reply_frames h.0) (reply_frames gs) (reply_frames hs ++ x))
      ∙ ap (λ t. t ++ (reply_frames hs ++ x)) (append_assoc (handshake 1) (reply_frames h.0) (reply_frames gs) ∙ ap (λ t. handshake 1 ++ t) (sym (flat_map-append (λ r. frame (reply_bytes r)) h.0 gs)))))),
)

all-both : (xs ys : List Reply) → list_all is_line xs ≡ true → list_all is_line ys ≡ true → list_all is_line (xs ++ ys) ≡ true
all-both [] ys e f = f
all-both (x ∷ xs) ys e f =
    let h = both (is_line x) (list_all is_line xs) e in
    ap (λ b. b && list_all is_line (xs ++ ys)) h.0 ∙ all-both xs ys h.1 f

heard-ended : (lines : ℕ) (e : LinkError) (a b : Seen) → BrokeOff (GivesNone a.port.peer) lines a b e → Why IsNoVerdict e a.port b.port → HeardLoad lines a.port.heard → HeardAt b.port (stop_of e)
heard-ended lines link.Link a b k w h = tt
heard-ended lines link.Ended a b k w h = tt
heard-ended lines (link.BadHandshake four) a b k w h = absurd w
heard-ended lines (link.BadLength n) a b k w h = inr (inl (record {
  n = n;
  wrong = w.1;
  bytes = refl;
  heard = heard-load lines a.port.heard b.port.heard k.infos (head n) h (subst (λ r. Appended a.port.heard b.port.heard (reply_frames k.infos ++ r)) k.stands.1 k.bytes);
}))
heard-ended lines (link.BadReply reply) a b k w h =
    let all = heard-both a.port.heard b.port.heard (h.0 ++ Load h.1 ∷ []) k.infos (frame reply) h.4 (subst (λ r. Appended a.port.heard b.port.heard (reply_frames k.infos ++ r)) k.stands.3 k.bytes) in
    inr (inr (inr (inl (record {
      undue = w.1;
      count = h.1;
      infos = k.infos;
      lines = k.lines;
      heard = heard-later b.port.heard h.0 (Load h.1 ∷ k.infos) (frame reply) (subst (λ t. HeardThen b.port.heard (reply_frames t ++ frame reply)) (append_assoc h.0 (Load h.1 ∷ []) k.infos) all);
    }))))
heard-ended lines link.TooManyInfos a b k w h =
    let all = heard-both a.port.heard b.port.heard (h.0 ++ Load h.1 ∷ []) k.infos [] h.4 (subst (λ r. Appended a.port.heard b.port.heard (reply_frames k.infos ++ r)) k.stands.1 k.bytes) in
    record {
      first = h.0;
      later = k.infos;
      lines = all-both h.0 k.infos h.2 k.lines;
      many = (let n = k.stands.0 in let m = h.3 in omega (arith, n, m, length-append h.0 k.infos));
      heard = inr (
        h.1,
        subst (λ t. HeardThen b.port.heard t) (append-nil (reply_frames (h.0 ++ Load h.1 ∷ k.infos)))
            (subst (λ t. HeardThen b.port.heard (reply_frames t ++ [])) (append_assoc h.0 (Load h.1 ∷ []) k.infos) all),
      );
    }

pub Ended-broken : (lines : ℕ) (a b : Seen) (e : LinkError) (error : DriveError) → error ≡ stop_of e → BrokeOff (GivesNone a.port.peer) lines a b e → Why IsNoVerdict e a.port b.port → IsGivenUp a.port b.port → Kept a.port b.port →
    IsUnloaded NoFiles (HeardLoad lines a.port.heard) a b error
Ended-broken lines a b e error same k w given kept = subst (IsUnloaded NoFiles (HeardLoad lines a.port.heard) a b) (sym same) (record {
  why = why-ended e a.port b.port w;
  given_up = given;
  unrefused = unrefused-link e a.port.peer;
  unshown = unshown-link e a.port.peer;
  quiet = quiet-none k.infos a.port.peer a.text b.text k.due k.shown;
  grows = record { more = shown_lines k.infos; grew = k.shown };
  heard = heard-ended lines e a b k w;
  kept = kept;
})

pub Ended-unshown : (lines : ℕ) (a b : Seen) → ShownInPart (GivesNone a.port.peer) lines a b → IsGivenUp a.port b.port → Kept a.port b.port →
    IsUnloaded NoFiles (HeardLoad lines a.port.heard) a b stop.Output
Ended-unshown lines a b k given kept = record {
  why = tt;
  given_up = given;
  unrefused = tt;
  unshown = unshown-none k.infos a.port.peer k.some k.due;
  quiet = quiet-part k.infos a.port.peer a.text b.text k.due k.shown;
  grows = grows-part a.text b.text (shown_lines k.infos) k.shown;
  heard = λ h. tt;
  kept = kept;
}

pub ruleset announces = (counted, Okay-never)

-- A whole download.
begun-quiet : (n m : ℕ) (a b : Seen) → OfLink (λ w. n ≤ w.device.max) a.port.peer → Concluded (Download n) a b (Load m) → OfLink (λ w. Grew a.text b.text []) a.port.peer
begun-quiet n m a b f k = quiet-none k.infos a.port.peer a.text b.text (none-said a.port.peer b.port.peer f k.told) k.shown
  where
    one-only : (x y : Reply) (lines : List Reply) → lines ++ y ∷ [] ≡ x ∷ [] → lines ≡ []
    one-only x y [] e = refl
    one-only x y (z ∷ lines) e = let l = ap length e in let m = length-append lines (y ∷ []) in absurd (omega (arith, l, m))

    said : (broke : Type 0) (w u : Wire) → n ≤ w.device.max → IsAnswered broke k.payload (k.infos ++ Load m ∷ []) w u → k.infos ≡ []
    said broke w u h (inl x) = one-only (Load n) (Load m) k.infos (x.all ∙ (ap (λ c. (says w.device w.loaded c).replies) (command_again (Download n) k.payload k.spelled) ∙ fits-replies n w h))
    said broke w u h (inr x) = one-only (Fail (codes "disk fault")) (Load m) k.infos x.1.told

    none-said : (p q : Option Peer) → OfLink (λ w. n ≤ w.device.max) p → OnLink (IsAnswered (Rose a.port.faults b.port.faults) k.payload (k.infos ++ Load m ∷ [])) p q → OfLink (λ w. k.infos ≡ []) p
    none-said None q f t = tt
    none-said (Some (Apart dev)) q f t = absurd f
    none-said (Some (Joined w)) None f t = absurd t
    none-said (Some (Joined w)) (Some (Apart dev)) f t = absurd t
    none-said (Some (Joined w)) (Some (Joined u)) f t = said (Rose a.port.faults b.port.faults) w u f t

ended-quiet : (k : ℕ) (c d : Seen) (line : List ℕ) → Downloading 0 c.port.peer → Finished k c d (Okay line) → OfLink (λ w. Grew c.text d.text []) c.port.peer
ended-quiet k c d line s f = quiet-none f.infos c.port.peer c.text d.text (none-heard c.port.peer d.port.peer s f.told) f.shown
  where
    none-infos : (infos : List Reply) (end : Reply) → infos ++ end ∷ [] ≡ Okay [] ∷ [] → infos ≡ []
    none-infos [] end e = refl
    none-infos (z ∷ lines) end e = let l = ap length e in let m = length-append lines (end ∷ []) in absurd (omega (arith, l, m))

    none-heard : (p q : Option Peer) → OfLink (IsSendingWire 0) p → OnLink (λ w v. w ≡ record v { out = reply_frames (f.infos ++ Okay line ∷ []) ++ v.out }) p q → OfLink (λ w. f.infos ≡ []) p
    none-heard None q x t = tt
    none-heard (Some (Apart dev)) q x t = absurd x
    none-heard (Some (Joined w)) None x t = absurd t
    none-heard (Some (Joined w)) (Some (Apart dev)) x t = absurd t
    none-heard (Some (Joined w)) (Some (Joined u)) x t =
        none-infos f.infos (Okay line) (finished (f.infos ++ Okay line ∷ []) w u x (ends-last f.infos (Okay line) f.lines refl) f.fits t).0

quiet-both : (a : Option Peer) (t u v : Option (List ℕ)) → OfLink (λ w. Grew t u []) a → OfLink (λ w. Grew u v []) a → OfLink (λ w. Grew t v []) a
quiet-both a t u v f g = of-both (λ w. Grew t u []) (λ w. Grew u v []) (λ w. Grew t v []) (λ w x y. Grew-append t u v [] [] x y) a f g

-- back to where the download began
begun-first : (n m : ℕ) (Q : Type 0) (W : List ℕ → Type 0) (a b : Seen) (c : PortTold) → Concluded (Download n) a b (Load m) → AreSent W b.port c → OfLink (λ w. Q) c.peer → OfLink (λ w. Q) a.port.peer
unfolding AreSent
begun-first n m Q W a b c k s q =
    of-first (IsExchanged (Rose a.port.faults b.port.faults) (Download n) (Load m)) Q a.port.peer b.port.peer (Exchanged-concluded (Download n) a b (Load m) k)
    (of-first (IsTaken s.bytes (data_wire s.bytes)) Q b.port.peer c.peer s.sent.took q)

sent-heard : (W : List ℕ → Type 0) (b c : PortTold) → AreSent W b c → c.heard ≡ b.heard
unfolding AreSent
sent-heard W b c s = s.sent.heard

pub Goes-on : (W : List ℕ → Type 0) (n lines : ℕ) (a b : Seen) (c : PortTold) (d : Seen) → OfLink (λ w. n ≤ w.device.max) a.port.peer → HasBegun n a b lines → AreSent W b.port c → HasEnded lines (seen c b.text) d → GoesOn a d
Goes-on W n lines a b c d fits h s e = record {
  quiet = quiet-both a.port.peer a.text b.text d.text (begun-quiet n h.count a b fits h.concluded)
      (begun-first n h.count (Grew b.text d.text []) W a b c h.concluded s (ended-quiet lines (seen c b.text) d e.line (sent-due W b.port c s) e.finished));
  grows = record { more = shown_lines h.concluded.infos ++ shown_lines e.finished.infos; grew = Grew-append a.text b.text d.text (shown_lines h.concluded.infos) (shown_lines e.finished.infos) h.concluded.shown e.finished.shown };
  heard = λ x. heard-again c.heard d.port.heard (e.finished.infos ++ Okay e.line ∷ [])
      (subst (λ o. HeardThen o []) (sym (sent-heard W b.port c s)) (heard-again a.port.heard b.port.heard (h.concluded.infos ++ Load h.count ∷ []) x h.concluded.bytes)) e.finished.bytes;
  kept = Kept-trans a.port c d.port (Kept-sent W a.port b.port c h.kept s) e.kept;
}

pub Loads-all : (W : List ℕ → Type 0) (n lines : ℕ) (a b : Seen) (c : PortTold) (d : Seen) → ((bytes : List ℕ) → W bytes → length bytes ≡ n) → HasBegun n a b lines → AreSent W b.port c → HasEnded lines (seen c b.text) d → AreLoaded W a.port d.port
Loads-all W n lines a b c d same h s e =
    Part-loaded W n h.count lines a b (seen c b.text) d e.line same h.concluded h.unbegun s e.finished e.log

-- It broke off: at its command, amid its data, or at its end.
pub why-files : (Files : List ℕ → Type 0) (a b : PortTold) (e : DriveError) → WhyStopped NoFiles a b e → WhyStopped Files a b e
why-files F a b stop.Memory w = w
why-files F a b (stop.Directory file) w = absurd w
why-files F a b stop.Output w = w
why-files F a b stop.Link w = w
why-files F a b stop.Ended w = w
why-files F a b (stop.Refused text) w = w
why-files F a b (stop.Peer kept) w = w
why-files F a b stop.TooManyInfos w = w
why-files F a b (stop.Requirement line name value) w = w
why-files F a b (stop.Plan line kind) w = w

pub Unloaded-begun : (Files : List ℕ → Type 0) (Before : Type 0) (a b : Seen) (e : DriveError) → IsUnloaded NoFiles Before a b e → IsUnloaded Files Before a b e
Unloaded-begun F B a b e u = record {
  why = why-files F a.port b.port e u.why;
  given_up = u.given_up;
  unrefused = u.unrefused;
  unshown = u.unshown;
  quiet = u.quiet;
  grows = u.grows;
  heard = u.heard;
  kept = u.kept;
}

pub Unloaded-read : (file : List ℕ) (k l n lines : ℕ) (a b : Seen) (c : PortTold) → OfLink (λ w. n ≤ w.device.max) a.port.peer → HasBegun n a b lines → HasGivenUp b.port c → Rose k l →
    IsUnloaded (IsUnread file k l) (HeardThen a.port.heard []) a (seen c b.text) (stop.Directory file)
Unloaded-read file k l n lines a b c fits h g r = record {
  why = (refl, r);
  given_up = Data-given n h.count a b c h.concluded g;
  unrefused = tt;
  unshown = tt;
  quiet = begun-quiet n h.count a b fits h.concluded;
  grows = record { more = shown_lines h.concluded.infos; grew = h.concluded.shown };
  heard = λ x. tt;
  kept = Kept-given a.port b.port c h.kept g;
}

pub Unloaded-link : (Files : List ℕ → Type 0) (n lines : ℕ) (a b : Seen) (c : PortTold) → OfLink (λ w. n ≤ w.device.max) a.port.peer → HasBegun n a b lines → HasGivenUp b.port c → Rose b.port.faults c.faults →
    IsUnloaded Files (HeardThen a.port.heard []) a (seen c b.text) stop.Link
Unloaded-link F n lines a b c fits h g r = record {
  why = (let k = h.kept.later in omega (arith, k, r));
  given_up = Data-given n h.count a b c h.concluded g;
  unrefused = tt;
  unshown = tt;
  quiet = begun-quiet n h.count a b fits h.concluded;
  grows = record { more = shown_lines h.concluded.infos; grew = h.concluded.shown };
  heard = λ x. tt;
  kept = Kept-given a.port b.port c h.kept g;
}

pub why-later : (Files : List ℕ → Type 0) (a b c : PortTold) (e : DriveError) → Kept a b → (b.peer ≡ None → a.peer ≡ None) → WhyStopped NoFiles b c e → WhyStopped Files a c e
why-later F a b c stop.Memory k n w = w
why-later F a b c (stop.Directory file) k n w = absurd w
why-later F a b c stop.Output k n w = w
why-later F a b c stop.Link k n w = omega (arith, k.later, w)
why-later F a b c stop.Ended k n w = (n w.0, omega (arith, k.no_fewer, w.1))
why-later F a b c (stop.Refused text) k n w = w
why-later F a b c (stop.Peer kept) k n w = n w
why-later F a b c stop.TooManyInfos k n w = n w
why-later F a b c (stop.Requirement line name value) k n w = w
why-later F a b c (stop.Plan line kind) k n w = w

unrefused-later : (e : DriveError) (a b : Option Peer) → (b ≡ None → a ≡ None) → Unrefused e b → Unrefused e a
unrefused-later stop.Memory a b n u = u
unrefused-later (stop.Directory file) a b n u = u
unrefused-later stop.Output a b n u = u
unrefused-later stop.Link a b n u = u
unrefused-later stop.Ended a b n u = u
unrefused-later (stop.Refused text) a b n u = n u
unrefused-later (stop.Peer kept) a b n u = u
unrefused-later stop.TooManyInfos a b n u = u
unrefused-later (stop.Requirement line name value) a b n u = u
unrefused-later (stop.Plan line kind) a b n u = u

grows-both : (a b c : Option (List ℕ)) (x : List ℕ) → Grew a b x → Grows b c → Grows a c
grows-both a b c x f g = record { more = x ++ g.more; grew = Grew-append a b c x g.more f g.grew }

heard-data : (n m : ℕ) (a b : Seen) (c : PortTold) (lines : ℕ) (k : Concluded (Download n) a b (Load m)) → lines ≡ length k.infos → c.heard ≡ b.port.heard → HeardThen a.port.heard [] → HeardLoad lines c.heard
heard-data n m a b c lines k e same h =
    (k.infos, m, k.lines, sym e, subst (λ o. HeardThen o (reply_frames (k.infos ++ Load m ∷ []))) (sym same) (heard-more a.port.heard b.port.heard [] (reply_frames (k.infos ++ Load m ∷ [])) h k.bytes))

pub Unloaded-ended : (Files : List ℕ → Type 0) (W : List ℕ → Type 0) (n lines : ℕ) (a b : Seen) (c : PortTold) (d : Seen) (e : DriveError) → OfLink (λ w. n ≤ w.device.max) a.port.peer → HasBegun n a b lines → AreSent W b.port c → IsUnloaded NoFiles (HeardLoad lines c.heard) (seen c b.text) d e →
    IsUnloaded Files (HeardThen a.port.heard []) a d e
Unloaded-ended F W n lines a b c d e fits h s u =
    let none : c.peer ≡ None → a.port.peer ≡ None = λ z. begun-none n h.count a b h.concluded (sent-none W b.port c s z) in
    let kept = Kept-sent W a.port b.port c h.kept s in
    record {
      why = why-later F a.port c d.port e kept none u.why;
      given_up = End-given W n h.count a b c d.port h.concluded s u.given_up;
      unrefused = unrefused-later e a.port.peer c.peer none u.unrefused;
      unshown = unshown-later e a.port.peer c.peer none u.unshown;
      quiet = quiet-both a.port.peer a.text b.text d.text (begun-quiet n h.count a b fits h.concluded) (begun-first n h.count (Grew b.text d.text []) W a b c h.concluded s u.quiet);
      grows = grows-both a.text b.text d.text (shown_lines h.concluded.infos) h.concluded.shown u.grows;
      heard = λ x. u.heard (heard-data n h.count a b c lines h.concluded h.counted (sent-heard W b.port c s) x);
      kept = Kept-trans a.port c d.port kept u.kept;
    }

pub Sent-due : (W : List ℕ → Type 0) (b c : PortTold) → AreSent W b c → Downloading 0 c.peer
Sent-due W b c s = sent-due W b c s

pub ruleset loads = (Sent-due)
