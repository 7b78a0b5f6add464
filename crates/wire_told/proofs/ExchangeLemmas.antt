-- What comes of a command over a told connection, whole or broken off.
use Rattle.std.proofs.Common.{◌≡◌, ◌⊎◌, inl, inr, ℕ, ◌+◌, ◌-◌, ◌^◌, ◌<◌, ◌≤◌, Bool, true, false, cond, refl, List, [], ◌∷◌, ◌++◌, length, take, drop, Option, Some, None, sym, ap, ◌∙◌, subst, arith, length-append, length-drop, take-append-drop, take_all}
use Rattle.std.specs.Prelude.{codes, nat_lt, ◌==◌}
use Rattle.std.specs.List.{list_all}
use Rattle.std.proofs.lemmas.Bool.Decides.{nat_tests}
use Rattle.fb_frame.specs.Causes.{Rose}
use Rattle.fb_frame.specs.Framing.{frame}
use Rattle.fb_message.specs.declared.reply.Reply.{Reply}
use Rattle.fb_message.specs.declared.reply.Reply.TheVariants.{Okay, Fail, Info, Text, Load}
use Rattle.fb_message.specs.CommandText.{CommandValue, GetVar, Download, Flash, Erase, SetActive, Reboot, Continue, Lock, Unlock, UnlockAbility, UpdateSuper, Create, Delete, Resize, Unknown, spelling, command_of}
use Rattle.dev_model.specs.declared.device.Dev.{Dev}
use Rattle.dev_model.proofs.Valid.{both}
use Rattle.wire_told.specs.Peers.{Peer, Apart, Joined, OfLink, OnLink, OffLink}
use Rattle.wire_model.specs.Says.{Loaded, says, decides, awaits}
use Rattle.wire_model.specs.Wire.{Wire, Phase, Command, Data, with_replies, received, awaited, paid}
use Rattle.wire_model.specs.Halts.{Halts}
use Rattle.wire_model.specs.Replies.{IsNoLoad}
use Rattle.wire_told.specs.Told.{GoesBy, IsLeft, LeftBy, Heard, IsIdle, Idle, OneFrame, StartsPlain}
use Rattle.wire_told.specs.Answered.{is_line, IsSaid, IsAnswered, IsFree, Free, got_of, Unbegun, IsWritten, Wrote, Loads}
use Rattle.wire_told.specs.Exchanges.{said_to, IsCarriedOut, IsExchanged, IsInterrupted, Exchanged, IsFreeFor, FreeFor}
use Rattle.wire_told.specs.Ports.{PortTold, OpensAt}
use Rattle.wire_model.proofs.InParts.{told}
use Rattle.wire_told.proofs.Lifted.{of-of, of-on, on-on}
use Rattle.wire_told.proofs.OneFrames.{length-frame, paid_by, IsBroken, goes-same, goes-whole}
use Rattle.wire_told.proofs.ToldLemmas.{idle-frame}
use Rattle.wire_told.proofs.AnswerLemmas.{answered-adds}
use Rattle.wire_told.proofs.RepliesLemmas.{awaited-plain}

-- a list of one has no front
only-last : (infos : List Reply) (end one : Reply) → infos ++ end ∷ [] ≡ one ∷ [] → end ≡ one
only-last [] end one e = cc
only-last (i ∷ infos) end one e = let n = ap length e in let m = length-append infos (end ∷ []) in absurd (omega (arith, n, m))

-- no line is DATA
no-load : (r : Reply) → is_line r ≡ true → IsNoLoad r
no-load (Info text) e = tt
no-load (Text text) e = tt
no-load (Okay text) e = tt
no-load (Fail text) e = tt
no-load (Load count) e = absurd cc

starts-plain : (infos : List Reply) (end : Reply) → list_all is_line infos ≡ true → IsNoLoad end → StartsPlain (infos ++ end ∷ [])
starts-plain [] end l n = n
starts-plain (r ∷ infos) end l n = no-load r (both (is_line r) (list_all is_line infos) l).0

same-closed : (b : Bool) (x y : Wire) → x.closed ≡ y.closed → (cond b x y).closed ≡ y.closed
same-closed true x y e = e
same-closed false x y e = refl

received-closed : (count : ℕ) (got : List ℕ) (w : Wire) → (received count got w).closed ≡ w.closed
received-closed count got w =
    same-closed (length got == count) (record (with_replies (Okay [] ∷ []) w) { loaded = Some got; phase = Command }) (record w { phase = Data count got }) refl

awaited-closed : (replies : List Reply) (w : Wire) → (awaited replies w).closed ≡ w.closed
awaited-closed [] w = refl
awaited-closed (Okay text ∷ replies) w = refl
awaited-closed (Fail text ∷ replies) w = refl
awaited-closed (Info text ∷ replies) w = refl
awaited-closed (Text text ∷ replies) w = refl
awaited-closed (Load count ∷ replies) w = received-closed count [] w

same-payload : (x y : List ℕ) → Some x ≡ Some y → x ≡ y
same-payload x y e = cc

said-so : (p : List ℕ) (infos : List Reply) (end : Reply) → list_all is_line infos ≡ true → spelling (command_of p) ≡ Some p → (w u : Wire) → IsSaid p (infos ++ end ∷ []) w u → IsCarriedOut (command_of p) end w u
said-so p infos end l e w u s =
    let said = said_to (command_of p) w in
    let v : Wire = record (with_replies said.replies w) { device = said.device; loaded = said.loaded; closed = said.closed } in
    record {
      says_so = record { lines = infos; all = sym s.all };
      device = ap (λ (x : Wire). x.device) s.state ∙ (answered-adds said w).0;
      loaded = λ n. ap (λ (x : Wire). x.loaded) s.state ∙ ap (λ (x : Wire). x.loaded) (awaited-plain said.replies v (subst StartsPlain s.all (starts-plain infos end l n)));
      closed = ap (λ (x : Wire). x.closed) s.state ∙ awaited-closed said.replies v;
      taken = λ q f. ap (λ (x : Wire). x.taken) s.state ∙ ap (λ t. w.taken + length (frame t)) (same-payload p q (sym e ∙ f));
    }

exchanged : (broke : Type 0) (p : List ℕ) (infos : List Reply) (end : Reply) → list_all is_line infos ≡ true → spelling (command_of p) ≡ Some p → (w u : Wire) → IsAnswered broke p (infos ++ end ∷ []) w u → IsExchanged broke (command_of p) end w u
exchanged broke p infos end l e w u (inl s) = inl (said-so p infos end l e w u s)
exchanged broke p infos end l e w u (inr f) = inr (f.0, record { told = only-last infos end (Fail (codes "disk fault")) f.1.told; halts = f.1.halts })

pub Exchanged-answered : (k l : ℕ) (a b : Option Peer) (c : CommandValue) (p : List ℕ) (infos : List Reply) (end : Reply) → command_of p ≡ c → spelling c ≡ Some p → list_all is_line infos ≡ true → OnLink (IsAnswered (Rose k l) p (infos ++ end ∷ [])) a b → OnLink (IsExchanged (Rose k l) c end) a b
Exchanged-answered k l a b c p infos end e f lines s =
    subst (λ x. OnLink (IsExchanged (Rose k l) x end) a b) e
    (on-on (IsAnswered (Rose k l) p (infos ++ end ∷ [])) (IsExchanged (Rose k l) (command_of p) end) (exchanged (Rose k l) p infos end lines (ap spelling e ∙ f)) a b s)

paid-device : (ph : Phase) (p : List ℕ) (w : Wire) → ph ≡ Command → (paid ph p w).device ≡ (said_to (command_of p) w).device
paid-device ph p w e = ap (λ x. (paid x p w).device) e ∙ (answered-adds (said_to (command_of p) w) w).0

whole-left : (broke : Type 0) (p : List ℕ) (w v : Wire) (dev : Dev) → w.phase ≡ Command → dev ≡ v.device → (v ≡ paid_by p w (length (frame p))) ⊎ (broke × IsBroken p (length (frame p)) w v) → IsInterrupted broke (command_of p) w dev
whole-left broke p w v dev c d (inl e) = inr (inl (d ∙ (ap (λ (x : Wire). x.device) e ∙ paid-device w.phase p w c)))
whole-left broke p w v dev c d (inr b) =
    let same : b.1.device ≡ dev = sym (d ∙ ap (λ (x : Wire). x.device) b.1.state) in
    let P : Dev → Type 0 = λ x. Halts w.device w.loaded (command_of p) x in
    inr (inr (b.0, subst P same b.1.halts))

less-or-all : (m n : ℕ) → (nat_lt m n ≡ true) ⊎ (nat_lt m n ≡ false) → (m < n) ⊎ (n ≤ m)
less-or-all m n (inl e) = inl (let h : m < n = grind (arith, nat_tests) in h)
less-or-all m n (inr e) = inr (let h : n ≤ m = grind (arith, nat_tests) in h)

left-by : (broke : Type 0) (spare : ℕ) (p : List ℕ) → 0 < length p → length p ≤ 4096 → 8 + length p ≤ spare → (w : Wire) (dev : Dev) → IsIdle spare w → (r : IsLeft broke (frame p) w dev) → (r.count < length (frame p)) ⊎ (length (frame p) ≤ r.count) → IsInterrupted broke (command_of p) w dev
left-by broke spare p some h room w dev i r (inl less) =
    let o = idle-frame spare p w i some h room in
    let n : take r.count (frame p) ++ drop r.count (frame p) ≡ frame p = take-append-drop r.count (frame p) in
    inl (r.device ∙ goes-same broke p (take r.count (frame p)) (drop r.count (frame p)) w r.state (subst (λ t. OneFrame p t w) (sym n) o) (omega (arith, less, length-drop r.count (frame p))) r.goes)
left-by broke spare p some h room w dev i r (inr all) =
    let o = idle-frame spare p w i some h room in
    let g : GoesBy broke w (frame p) r.state = subst (λ t. GoesBy broke w t r.state) (take_all r.count (frame p) all) r.goes in
    whole-left broke p w r.state dev i.commanding r.device (goes-whole broke p (frame p) w r.state o g)

interrupted : (broke : Type 0) (spare : ℕ) (c : CommandValue) (p : List ℕ) → command_of p ≡ c → 0 < length p → length p ≤ 4096 → 8 + length p ≤ spare → (w : Wire) (dev : Dev) → IsIdle spare w → IsLeft broke (frame p) w dev → IsInterrupted broke c w dev
interrupted broke spare c p e some h room w dev i r =
    subst (λ x. IsInterrupted broke x w dev) e
    (left-by broke spare p some h room w dev i r (less-or-all r.count (length (frame p)) (told (nat_lt r.count (length (frame p))))))

off-from : (P : Wire → Type 0) (S T : Wire → Dev → Type 0) → ((w : Wire) (dev : Dev) → P w → S w dev → T w dev) → (a b : Option Peer) → OfLink P a → OffLink S a b → OffLink T a b
off-from P S T f None None p r = tt
off-from P S T f None (Some q) p r = absurd r
off-from P S T f (Some (Apart dev)) b p r = absurd p
off-from P S T f (Some (Joined w)) None p r = absurd r
off-from P S T f (Some (Joined w)) (Some (Joined v)) p r = absurd r
off-from P S T f (Some (Joined w)) (Some (Apart dev)) p r = f w dev p r

pub Interrupted-left : (k l spare : ℕ) (a b : Option Peer) (c : CommandValue) (p : List ℕ) → Idle spare a → command_of p ≡ c → 0 < length p → length p ≤ 4096 → 8 + length p ≤ spare → LeftBy k l a b (frame p) → OffLink (IsInterrupted (Rose k l) c) a b
Interrupted-left k l spare a b c p i e some h room r =
    off-from (IsIdle spare) (IsLeft (Rose k l) (frame p)) (IsInterrupted (Rose k l) c) (λ w dev q s. interrupted (Rose k l) spare c p e some h room w dev q s) a b i r

-- a connection that is free for more is free
pub Free-for : (spare : ℕ) (a : Option Peer) → FreeFor spare a → Free a
Free-for spare a f = of-of (IsFreeFor spare) IsFree (λ w p. record { running = p.running; bounded = omega (arith, p.bounded) }) a f

open-next : (broke : Type 0) (c : CommandValue) (p : List ℕ) (end : Reply) (spare : ℕ) → spelling c ≡ Some p → length p ≤ 4096 → ((w : Wire) → (said_to c w).closed ≡ false) → (end ≡ Fail (codes "disk fault") → ⊥) → (w u : Wire) → IsFreeFor (4104 + spare) w → IsExchanged broke c end w u → IsFreeFor spare u
open-next broke c p end spare e h still unfailed w u f (inl x) = record { running = x.closed ∙ still w; bounded = omega (arith, f.bounded, x.taken p e, length-frame p, h) }
open-next broke c p end spare e h still unfailed w u f (inr x) = absurd (unfailed x.1.told)

-- after a command that leaves it open it is free for less
pub FreeFor-next : (c : CommandValue) (a b : PortTold) (p : List ℕ) (end : Reply) (spare : ℕ) → spelling c ≡ Some p → length p ≤ 4096 → ((w : Wire) → (said_to c w).closed ≡ false) → (end ≡ Fail (codes "disk fault") → ⊥) → FreeFor (4104 + spare) a.peer → Exchanged c a b (Some end) → FreeFor spare b.peer
FreeFor-next c a b p end spare e h still unfailed f x =
    of-on (IsFreeFor (4104 + spare)) (IsExchanged (Rose a.faults b.faults) c end) (IsFreeFor spare) (open-next (Rose a.faults b.faults) c p end spare e h still unfailed) a.peer b.peer f x

-- Only a reboot and `continue` close a connection.
abbrev pub closes : CommandValue → Bool
closes (Reboot what) = true
closes Continue = true
closes _ = false

decides-open : (refusal : Option (List ℕ)) (change : Dev → Dev) (dev : Dev) (loaded : Loaded) → (decides refusal change dev loaded).closed ≡ false
decides-open (Some text) change dev loaded = refl
decides-open None change dev loaded = refl

awaits-open : (refusal : Option (List ℕ)) (count : ℕ) (dev : Dev) (loaded : Loaded) → (awaits refusal count dev loaded).closed ≡ false
awaits-open (Some text) count dev loaded = refl
awaits-open None count dev loaded = refl

pub said-open : (c : CommandValue) → closes c ≡ false → (w : Wire) → (said_to c w).closed ≡ false
unfolding says
said-open (GetVar name) e w = refl
said-open (Download count) e w = awaits-open _ count w.device w.loaded
said-open (Flash name) e w = decides-open _ _ w.device w.loaded
said-open (Erase name) e w = decides-open _ _ w.device w.loaded
said-open (SetActive slot) e w = decides-open _ _ w.device w.loaded
said-open (Reboot what) e w = absurd cc
said-open Continue e w = absurd cc
said-open Lock e w = decides-open _ _ w.device w.loaded
said-open Unlock e w = refl
said-open UnlockAbility e w = refl
said-open (UpdateSuper name wipe) e w = decides-open _ _ w.device w.loaded
said-open (Create name size) e w = decides-open _ _ w.device w.loaded
said-open (Delete name) e w = decides-open _ _ w.device w.loaded
said-open (Resize name size) e w = decides-open _ _ w.device w.loaded
said-open Unknown e w = refl

-- A frame of data leaves as many bytes to come as it hasn't, and what is heard leaves all.
pub FreeFor-wrote : (spare : ℕ) (p : List ℕ) (a b : Option Peer) → FreeFor (8 + length p + spare) a → Wrote a b p → FreeFor spare b
FreeFor-wrote spare p a b f g =
    of-on (IsFreeFor (8 + length p + spare)) (IsWritten p) (IsFreeFor spare)
    (λ w v q r. record { running = r.running; bounded = omega (arith, q.bounded, r.taken, length-frame p) }) a b f g

pub FreeFor-heard : (spare : ℕ) (x : List ℕ) (a b : Option Peer) → FreeFor spare a → Heard a b x → FreeFor spare b
FreeFor-heard spare x a b f h =
    of-on (IsFreeFor spare) (λ w v. w ≡ record v { out = x ++ v.out }) (IsFreeFor spare)
    (λ w v q e. record { running = sym (ap (λ (y : Wire). y.closed) e) ∙ q.running; bounded = omega (arith, q.bounded, ap (λ (y : Wire). y.taken) e) }) a b f h

pub FreeFor-less : (m n : ℕ) (a : Option Peer) → n ≤ m → FreeFor m a → FreeFor n a
FreeFor-less m n a h f = of-of (IsFreeFor m) (IsFreeFor n) (λ w q. record { running = q.running; bounded = omega (arith, h, q.bounded) }) a f

-- a connection that began may take all but its handshake
pub FreeFor-opened : (a b : Option Peer) → OpensAt a b → FreeFor (2 ^ 61 - 4) b
FreeFor-opened None None o = tt
FreeFor-opened None (Some q) o = absurd o
FreeFor-opened (Some p) None o = absurd o
FreeFor-opened (Some p) (Some (Apart dev)) o = absurd o
FreeFor-opened (Some p) (Some (Joined w)) o = record { running = ap (λ (x : Wire). x.closed) o; bounded = omega (arith, ap (λ (x : Wire). x.taken) o) }

-- a download in one frame is loaded
pub Loads-wrote : (p : List ℕ) (a b c : Option Peer) → Unbegun a → Wrote a b p → Loads b c → OfLink (λ w. w.loaded ≡ Some p) c
Loads-wrote p a b c u g l =
    of-on (λ w. got_of w ≡ p) (λ w v. v.loaded ≡ Some (got_of w)) (λ w. w.loaded ≡ Some p) (λ w v e f. f ∙ ap Some e) b c
    (of-on (λ w. got_of w ≡ []) (IsWritten p) (λ w. got_of w ≡ p) (λ w v e r. r.got ∙ ap (λ t. t ++ p) e) a b u g) l
