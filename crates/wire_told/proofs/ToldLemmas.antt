-- Loops over a port: what its told connection comes to.
use Rattle.std.proofs.Common.{◌≡◌, ◌⊎◌, inl, inr, ◌≢◌, ℕ, ◌+◌, ◌-◌, ◌<◌, ◌≤◌, List, [], ◌++◌, length, take, drop, get_or, Option, Some, None, refl, sym, ap, ◌∙◌, subst, arith, append_assoc, append-nil, length-drop, length-take, length-append}
use Rattle.std.specs.Prelude.{IsTrue}
use Rattle.std.specs.Int.{w64, to_be_bytes, from_be_bytes}
use Rattle.std.proofs.lemmas.Nat.{be_bytes_8}
use Rattle.std.proofs.Math.Seq.{take-add, take-length, take-append_seam, drop-append_seam, take-append-add}
use Rattle.std.proofs.lemmas.List.{drop-drop, take-take, take-append-le, length-take-le, take-append-drop, take_all}
use borrow.Rule.Slice.PartMut.{put_mid, post_of}
use Rattle.fb_frame.specs.Framing.{head, frame}
use Rattle.fb_frame.specs.Greeting.{handshake}
use Rattle.dev_model.specs.declared.device.Dev.{Dev}
use Rattle.fb_frame.specs.Causes.{Rose}
use Rattle.wire_told.specs.Peers.{Peer, Apart, Joined, OnLink, OffLink}
use Rattle.wire_model.specs.Wire.{Wire, Shake, Command, fresh}
use Rattle.wire_told.specs.Turns.{room, IsTurn, IsSettled}
use Rattle.wire_told.specs.Told.{GoesBy, Sent, IsLeft, LeftBy, Heard, IsHead, HeardHead, HeardReply, HungUp, InTurn, MayHear, AtEnd, OneFrame, OneShake, SomeFrame, OneWhole, IsFront, MaySend, IsIdle, Idle, Begun, Gives}
use Rattle.wire_told.proofs.Lifted.{of-of, of-none, of-both, of-stays, of-on, on-then, on-off, on-hung, kept-hung}
use Rattle.wire_told.proofs.Going.{goes-append, goes-weaker, goes-nothing}
use Rattle.wire_told.proofs.OneFrames.{length-frame, goes-inside, frame-settled}
use Rattle.wire_told.proofs.OneShakes.{shake-part, shake-settled, fresh-shake}
use Rattle.wire_told.proofs.Turned.{front-turn}

rose-from : (k l m : ℕ) → k ≤ l → l ≤ m → Rose k l → Rose k m
rose-from k l m i j r = omega arith

rose-to : (k l m : ℕ) → k ≤ l → l ≤ m → Rose l m → Rose k m
rose-to k l m i j r = omega arith

-- one send after another
pub Sent-append : (k l m : ℕ) → k ≤ l → l ≤ m → (a b c : Option Peer) (x y : List ℕ) → Sent k l a b x → Sent l m b c y → Sent k m a c (x ++ y)
Sent-append k l m i j a b c x y f g =
    on-then (λ w v. GoesBy (Rose k l) w x v) (λ w v. GoesBy (Rose l m) w y v) (λ w v. GoesBy (Rose k m) w (x ++ y) v)
    (λ w u v p q. goes-append (Rose k m) w u v x y (goes-weaker (Rose k l) (Rose k m) (rose-from k l m i j) w u x p) (goes-weaker (Rose l m) (Rose k m) (rose-to k l m i j) u v y q))
    a b c f g

whole-settled : (bytes : List ℕ) (w : Wire) → OneWhole bytes w → IsSettled w
whole-settled bytes w (inl o) = frame-settled o.payload bytes w o.one
whole-settled bytes w (inr o) = shake-settled bytes w o

-- before the first send
pub Sent-nothing : (k : ℕ) (a : Option Peer) (bytes : List ℕ) → MaySend a bytes → Sent k k a a []
Sent-nothing k a bytes m =
    of-stays (IsFront bytes) (λ w v. GoesBy (Rose k k) w [] v) (λ w o. goes-nothing (Rose k k) w (whole-settled (bytes ++ o.more) w o.one)) a m

frame-next : (broke : Type 0) (x y : List ℕ) (w v : Wire) → SomeFrame (x ++ y) w → 0 < length y → GoesBy broke w x v → SomeFrame y v
frame-next broke x y w v o due g =
    record { payload = o.payload; one = goes-inside broke o.payload x y w v o.one due g }

whole-next : (broke : Type 0) (x y : List ℕ) (w v : Wire) → OneWhole (x ++ y) w → 0 < length y → GoesBy broke w x v → OneWhole y v
whole-next broke x y w v (inl o) due g = inl (frame-next broke x y w v o due g)
whole-next broke x y w v (inr o) due g = inr (shake-part broke x y w v o due g)

both-parts : (bytes more : List ℕ) (n : ℕ) → bytes ++ more ≡ take n bytes ++ (drop n bytes ++ more)
both-parts bytes more n = ap (λ b. b ++ more) (sym (take-append-drop n bytes)) ∙ append_assoc (take n bytes) (drop n bytes) more

front-next : (broke : Type 0) (bytes : List ℕ) (n : ℕ) → n < length bytes → (w v : Wire) → IsFront bytes w → GoesBy broke w (take n bytes) v → IsFront (drop n bytes) v
front-next broke bytes n h w v m g = record {
  more = m.more;
  one = whole-next broke (take n bytes) (drop n bytes ++ m.more) w v (subst (λ b. OneWhole b w) (both-parts bytes m.more n) m.one) (omega (arith, h, length-drop n bytes, length-append (drop n bytes) m.more)) g;
}

-- after a send of a first part the rest may be sent
pub MaySend-next : (k l : ℕ) (a b : Option Peer) (bytes : List ℕ) (n : ℕ) → MaySend a bytes → n < length bytes → Sent k l a b (take n bytes) → MaySend b (drop n bytes)
MaySend-next k l a b bytes n m h g =
    of-on (IsFront bytes) (λ w v. GoesBy (Rose k l) w (take n bytes) v) (IsFront (drop n bytes)) (front-next (Rose k l) bytes n h) a b m g

-- what a host keeps is the condition of `send`
pub InTurn-from : (a : Option Peer) (bytes : List ℕ) → MaySend a bytes → InTurn a bytes
InTurn-from a bytes m = of-of (IsFront bytes) (IsTurn bytes) (front-turn bytes) a m

-- also for a rest as a piece of the whole list
pub InTurn-rest : (a : Option Peer) (bytes : List ℕ) (at len : ℕ) → at < length bytes → len ≡ length bytes - at → (at < length bytes → MaySend a (drop at bytes)) → InTurn a (take len (drop at bytes))
InTurn-rest a bytes at len h e m =
    let all : take len (drop at bytes) ≡ drop at bytes = take_all len (drop at bytes) (omega (arith, e, length-drop at bytes)) in
    subst (InTurn a) (sym all) (InTurn-from a (drop at bytes) (m h))

take-short : (n len : ℕ) (xs : List ℕ) → n ≤ len → take n (take len xs) ≡ take n xs
take-short n len xs h = take-take n len xs h

-- the loop that sends a list from `at` on
pub Sent-more : (k l m : ℕ) → k ≤ l → l ≤ m → (a b c : Option Peer) (bytes : List ℕ) (at n len : ℕ) → n ≤ len → Sent k l a b (take at bytes) → Sent l m b c (take n (take len (drop at bytes))) → Sent k m a c (take (at + n) bytes)
Sent-more k l m i j a b c bytes at n len h f g =
    subst (Sent k m a c) (sym (take-add at n bytes))
    (Sent-append k l m i j a b c (take at bytes) (take n (drop at bytes)) f (subst (Sent l m b c) (take-short n len (drop at bytes) h) g))

pub MaySend-more : (k l : ℕ) (a b : Option Peer) (bytes : List ℕ) (at n len : ℕ) → n ≤ len → MaySend a (drop at bytes) → at + n < length bytes → Sent k l a b (take n (take len (drop at bytes))) → MaySend b (drop (at + n) bytes)
MaySend-more k l a b bytes at n len h m more g =
    subst (MaySend b) (drop-drop n at bytes)
    (MaySend-next k l a b (drop at bytes) n m (omega (arith, length-drop at bytes)) (subst (Sent k l a b) (take-short n len (drop at bytes) h) g))

left-more : (k l m : ℕ) → k ≤ l → l ≤ m → (bytes : List ℕ) (at len : ℕ) → at ≤ length bytes → (w u : Wire) (dev : Dev) → GoesBy (Rose k l) w (take at bytes) u → IsLeft (Rose l m) (take len (drop at bytes)) u dev → IsLeft (Rose k m) bytes w dev
left-more k l m i j bytes at len h w u dev g r =
    let n : r.count ≤ len = omega (arith, r.within, length-take len (drop at bytes)) in
    let d : at + r.count ≤ length bytes = omega (arith, r.within, length-take len (drop at bytes), length-drop at bytes) in
    let t : take r.count (take len (drop at bytes)) ≡ take r.count (drop at bytes) = take-take r.count len (drop at bytes) n in
    let e : take at bytes ++ take r.count (take len (drop at bytes)) ≡ take (at + r.count) bytes = ap (λ x. take at bytes ++ x) t ∙ sym (take-add at r.count bytes) in
    record {
      count = at + r.count;
      within = d;
      state = r.state;
      goes = subst (λ x. GoesBy (Rose k m) w x r.state) e
          (goes-append (Rose k m) w u r.state (take at bytes) (take r.count (take len (drop at bytes)))
          (goes-weaker (Rose k l) (Rose k m) (rose-from k l m i j) w u (take at bytes) g)
          (goes-weaker (Rose l m) (Rose k m) (rose-to k l m i j) u r.state (take r.count (take len (drop at bytes))) r.goes));
      device = r.device;
    }

-- a send that failed after others
pub LeftBy-more : (k l m : ℕ) → k ≤ l → l ≤ m → (a b c : Option Peer) (bytes : List ℕ) (at len : ℕ) → at ≤ length bytes → Sent k l a b (take at bytes) → LeftBy l m b c (take len (drop at bytes)) → LeftBy k m a c bytes
LeftBy-more k l m i j a b c bytes at len h g r =
    on-off (λ w v. GoesBy (Rose k l) w (take at bytes) v) (IsLeft (Rose l m) (take len (drop at bytes))) (IsLeft (Rose k m) bytes)
    (left-more k l m i j bytes at len h) a b c g r

pub ruleset told_loop = (Sent-more, MaySend-more, Sent-nothing, InTurn-rest, LeftBy-more)

-- Hearing.
heard-joined : (x y : List ℕ) (w u v : Wire) → w ≡ record u { out = x ++ u.out } → u ≡ record v { out = y ++ v.out } → w ≡ record v { out = (x ++ y) ++ v.out }
heard-joined x y w u v e f = rw (e, f, append_assoc) refl

pub Heard-append : (a b c : Option Peer) (x y : List ℕ) → Heard a b x → Heard b c y → Heard a c (x ++ y)
Heard-append a b c x y f g =
    on-then (λ w v. w ≡ record v { out = x ++ v.out }) (λ w v. w ≡ record v { out = y ++ v.out }) (λ w v. w ≡ record v { out = (x ++ y) ++ v.out }) (heard-joined x y) a b c f g

pub Heard-nothing : (a : Option Peer) (n : ℕ) → Gives a n → Heard a a []
Heard-nothing a n g = of-stays (λ w. n ≤ length w.out) (λ w v. w ≡ record v { out = [] ++ v.out }) (λ w h. refl) a g

pub Gives-more : (a b : Option Peer) (bytes : List ℕ) (n : ℕ) → Gives a (length bytes + n) → Heard a b bytes → Gives b n
Gives-more a b bytes n g h =
    of-on (λ w. length bytes + n ≤ length w.out) (λ w v. w ≡ record v { out = bytes ++ v.out }) (λ w. n ≤ length w.out)
    (λ w v p e. let t : length w.out ≡ length (bytes ++ v.out) = ap (λ (x : Wire). length x.out) e in omega (arith, t, length-append bytes v.out)) a b g h

pub MayHear-from : (a : Option Peer) (n : ℕ) → Gives a n → 0 < n → MayHear a
MayHear-from a n g h = of-of (λ w. n ≤ length w.out) (λ w. (0 < length w.out) ⊎ IsTrue w.closed) (λ w p. inl (omega arith)) a g

-- a connection that has bytes to give isn't at its end
pub not-at-end : (a : Option Peer) (n : ℕ) → Gives a n → 0 < n → AtEnd a → a ≡ None
not-at-end a n g h e =
    of-none (λ w. (n ≤ length w.out) × ((w.out ≡ []) × IsTrue w.closed)) (λ w p. absurd (omega (arith, h, p.0, ap length p.1.0))) a
    (of-both (λ w. n ≤ length w.out) (λ w. (w.out ≡ []) × IsTrue w.closed) (λ w. (n ≤ length w.out) × ((w.out ≡ []) × IsTrue w.closed)) (λ w p q. (p, q)) a g e)

-- a write of a part of a buffer
pub take-write : (buf new : List ℕ) (at n k : ℕ) → at ≤ length buf → n ≤ length new → take (at + n) (put_mid at k buf new) ≡ take at buf ++ take n new
take-write buf new at n k h m =
    let l : length (take at buf) ≡ at = length-take-le at buf h in
    ap (λ t. take (t + n) (take at buf ++ (new ++ post_of at k buf))) (sym l)
    ∙ (take-append-add (take at buf) (new ++ post_of at k buf) n
    ∙ ap (λ t. take at buf ++ t) (take-append-le n new (post_of at k buf) m))

-- the loop that receives into a buffer from `at` on
pub Heard-more : (a b c : Option Peer) (buf new : List ℕ) (at n k : ℕ) → at ≤ length buf → n ≤ length new → Heard a b (take at buf) → Heard b c (take n new) → Heard a c (take (at + n) (put_mid at k buf new))
Heard-more a b c buf new at n k h m f g =
    subst (Heard a c) (sym (take-write buf new at n k h m)) (Heard-append a b c (take at buf) (take n new) f g)

pub Gives-rest : (b c : Option Peer) (new : List ℕ) (n r m : ℕ) → n ≤ length new → m ≡ n + r → Gives b m → Heard b c (take n new) → Gives c r
Gives-rest b c new n r m h e f g =
    Gives-more b c (take n new) r (subst (Gives b) (e ∙ ap (λ t. t + r) (sym (length-take-le n new h))) f) g

-- a `recv` that failed after others left the device as it was
pub HungUp-more : (a b c : Option Peer) (bytes : List ℕ) → Heard a b bytes → HungUp b c → HungUp a c
HungUp-more a b c bytes f g =
    kept-hung (λ w v. w ≡ record v { out = bytes ++ v.out }) (λ w u e. sym (ap (λ (x : Wire). x.device) e)) a b c f g

pub heard-none : (a b : Option Peer) (x : List ℕ) → Heard a b x → b ≡ None → a ≡ None
heard-none None b x f e = refl
heard-none (Some p) b x f e = absurd (off p (subst (λ q. OnLink (λ w v. w ≡ record v { out = x ++ v.out }) (Some p) q) e f))
  where
    off : (p : Peer) → OnLink (λ w v. w ≡ record v { out = x ++ v.out }) (Some p) None → ⊥
    off (Apart dev) r = r
    off (Joined w) r = r

-- the connection ended where there was more to give: none is told
pub untold-end : (a b c : Option Peer) (x y : List ℕ) (n : ℕ) → Heard a b x → Heard b c y → Gives b n → 0 < n → AtEnd b → a ≡ None
untold-end a b c x y n f g h i e = heard-none a b x f (not-at-end b n h i e)

heard-gone : (a b : Option Peer) (x : List ℕ) → Heard a b x → a ≡ None → b ≡ None
heard-gone None None x f e = refl
heard-gone None (Some p) x f e = absurd f
heard-gone (Some p) b x f e = absurd (some-none p e)
  where
    some-none : (q : Peer) → Some q ≡ None → ⊥
    some-none q h = cc

pub gone-end : (b c : Option Peer) (y : List ℕ) (n : ℕ) → Heard b c y → Gives b n → 0 < n → AtEnd b → c ≡ None
gone-end b c y n g h i e = heard-gone b c y g (not-at-end b n h i e)

pub ruleset hear_loop = (Heard-more, Heard-nothing, Gives-rest, MayHear-from, HungUp-more, untold-end, gone-end)

-- One frame of a command, head and payload.
shake-not-command : Shake ≢ Command
shake-not-command e = cc

pub idle-frame : (spare : ℕ) (payload : List ℕ) (w : Wire) → IsIdle spare w → 0 < length payload → length payload ≤ 4096 → 8 + length payload ≤ spare → OneFrame payload (frame payload) w
idle-frame spare payload w i some h s = record {
  running = i.running;
  quiet = i.quiet;
  framed = λ e. shake-not-command (sym e ∙ i.commanding);
  whole = ap (λ r. r ++ frame payload) i.rest;
  due = omega (arith, length-frame payload);
  some = some;
  fits = subst (λ ph. length payload ≤ room ph) (sym i.commanding) h;
  small = omega arith;
  bounded = omega (arith, i.bounded, length-frame payload);
}

-- a head is what is to come of a frame, and then its payload is
pub head-front : (payload head_bytes : List ℕ) → head_bytes ≡ head (length payload) → (w : Wire) → OneFrame payload (frame payload) w → IsFront head_bytes w
head-front payload head_bytes e w o = record {
  more = payload;
  one = inl (record { payload = payload; one = subst (λ t. OneFrame payload (t ++ payload) w) (sym e) o });
}

pub payload-front : (broke : Type 0) (payload head_bytes : List ℕ) → head_bytes ≡ head (length payload) → (w v : Wire) → OneFrame payload (frame payload) w → GoesBy broke w head_bytes v → IsFront payload v
payload-front broke payload head_bytes e w v o g = record {
  more = [];
  one = inl (subst (λ b. SomeFrame b v) (sym (append-nil payload))
      (frame-next broke head_bytes payload w v
      (record { payload = payload; one = subst (λ t. OneFrame payload (t ++ payload) w) (sym e) o }) o.some g));
}

pub MaySend-head : (spare : ℕ) (a : Option Peer) (payload head_bytes : List ℕ) → Idle spare a → 0 < length payload → length payload ≤ 4096 → 8 + length payload ≤ spare → head_bytes ≡ to_be_bytes w64 (length payload) → MaySend a head_bytes
MaySend-head spare a payload head_bytes i some h s e =
    of-of (IsIdle spare) (IsFront head_bytes) (λ w p. head-front payload head_bytes e w (idle-frame spare payload w p some h s)) a i

pub MaySend-payload : (k l spare : ℕ) (a b : Option Peer) (payload head_bytes : List ℕ) → Idle spare a → 0 < length payload → length payload ≤ 4096 → 8 + length payload ≤ spare → head_bytes ≡ to_be_bytes w64 (length payload) → Sent k l a b head_bytes → MaySend b payload
MaySend-payload k l spare a b payload head_bytes i some h s e g =
    of-on (IsIdle spare) (λ w v. GoesBy (Rose k l) w head_bytes v) (IsFront payload)
    (λ w v p q. payload-front (Rose k l) payload head_bytes e w v (idle-frame spare payload w p some h s) q) a b i g

-- where the head failed, and where the payload did
left-head : (broke : Type 0) (x y : List ℕ) (w : Wire) (dev : Dev) → IsLeft broke x w dev → IsLeft broke (x ++ y) w dev
left-head broke x y w dev r = record {
  count = r.count;
  within = omega (arith, r.within, length-append x y);
  state = r.state;
  goes = subst (λ b. GoesBy broke w b r.state) (sym (take-append-le r.count x y r.within)) r.goes;
  device = r.device;
}

left-tail : (k l m : ℕ) → k ≤ l → l ≤ m → (x y : List ℕ) (w u : Wire) (dev : Dev) → GoesBy (Rose k l) w x u → IsLeft (Rose l m) y u dev → IsLeft (Rose k m) (x ++ y) w dev
left-tail k l m i j x y w u dev g r = record {
  count = length x + r.count;
  within = omega (arith, r.within, length-append x y);
  state = r.state;
  goes = subst (λ b. GoesBy (Rose k m) w b r.state) (sym (take-append-add x y r.count))
      (goes-append (Rose k m) w u r.state x (take r.count y) (goes-weaker (Rose k l) (Rose k m) (rose-from k l m i j) w u x g) (goes-weaker (Rose l m) (Rose k m) (rose-to k l m i j) u r.state (take r.count y) r.goes));
  device = r.device;
}

off-off : (R S : Wire → Dev → Type 0) → ((w : Wire) (dev : Dev) → R w dev → S w dev) → (a b : Option Peer) → OffLink R a b → OffLink S a b
off-off R S f None None r = tt
off-off R S f None (Some q) r = absurd r
off-off R S f (Some (Apart dev)) b r = absurd r
off-off R S f (Some (Joined w)) None r = absurd r
off-off R S f (Some (Joined w)) (Some (Joined v)) r = absurd r
off-off R S f (Some (Joined w)) (Some (Apart dev)) r = f w dev r

pub LeftBy-head : (k l : ℕ) (a b : Option Peer) (payload head_bytes : List ℕ) → head_bytes ≡ to_be_bytes w64 (length payload) → LeftBy k l a b head_bytes → LeftBy k l a b (frame payload)
LeftBy-head k l a b payload head_bytes e r =
    off-off (IsLeft (Rose k l) head_bytes) (IsLeft (Rose k l) (frame payload)) (λ w dev p. subst (λ t. IsLeft (Rose k l) (t ++ payload) w dev) e (left-head (Rose k l) head_bytes payload w dev p)) a b r

pub LeftBy-payload : (k l m : ℕ) → k ≤ l → l ≤ m → (a b c : Option Peer) (payload head_bytes : List ℕ) → head_bytes ≡ to_be_bytes w64 (length payload) → Sent k l a b head_bytes → LeftBy l m b c payload → LeftBy k m a c (frame payload)
LeftBy-payload k l m i j a b c payload head_bytes e g r =
    on-off (λ w v. GoesBy (Rose k l) w head_bytes v) (IsLeft (Rose l m) payload) (IsLeft (Rose k m) (frame payload))
    (λ w u dev p q. subst (λ t. IsLeft (Rose k m) (t ++ payload) w dev) e (left-tail k l m i j head_bytes payload w u dev p q)) a b c g r

-- One reply, head and text.
pub front-same : (x y a b : List ℕ) → length x ≡ length a → x ++ y ≡ a ++ b → (x ≡ a) × (y ≡ b)
front-same x y a b l e = (
  sym (take-append_seam x y) ∙ (ap (λ n. take n (x ++ y)) l ∙ (ap (take (length a)) e ∙ take-append_seam a b)),
  sym (drop-append_seam x y) ∙ (ap (λ n. drop n (x ++ y)) l ∙ (ap (drop (length a)) e ∙ drop-append_seam a b)),
)

-- eight bytes are the head of the length that they tell
pub is-head : (head_bytes : List ℕ) (n : ℕ) → length head_bytes ≡ 8 → ((i : ℕ) → get_or head_bytes i 0 < 256) → n ≡ from_be_bytes w64 head_bytes → IsHead n head_bytes
unfolding IsHead
is-head head_bytes n l small e = sym (be_bytes_8 head_bytes n l small e)

pub ruleset heads = (is-head)

-- a head that was heard is that of the length that it tells
pub Heard-head : (a b : Option Peer) (head_bytes : List ℕ) (n : ℕ) → Heard a b head_bytes → IsHead n head_bytes → HeardHead a b n
unfolding HeardHead IsHead
Heard-head a b head_bytes n f e = subst (Heard a b) e f

-- and then the text was heard, into the front of a buffer
pub Heard-text : (a b c : Option Peer) (text behind : List ℕ) (n : ℕ) → HeardHead a b n → Heard b c text → length text ≡ n → HeardReply a c (take n (text ++ behind))
unfolding HeardHead HeardReply
Heard-text a b c text behind n f g e =
    let whole : take n (text ++ behind) ≡ text = ap (λ k. take k (text ++ behind)) (sym e) ∙ take-append_seam text behind in
    subst (λ t. Heard a c (frame t)) (sym whole) (Heard-append a b c (head (length text)) text (subst (λ k. Heard a b (head k)) (sym e) f) g)

-- what is told of no connection after a head was told of none before it
pub untold-head : (a b : Option Peer) (n : ℕ) → HeardHead a b n → b ≡ None → a ≡ None
unfolding HeardHead
untold-head a b n f e = heard-none a b (head n) f e

left-whole : (k l m : ℕ) → k ≤ l → l ≤ m → (x : List ℕ) (w u : Wire) → GoesBy (Rose k l) w x u → IsLeft (Rose k m) x w u.device
left-whole k l m i j x w u g = record {
  count = length x;
  within = omega arith;
  state = u;
  goes = subst (λ b. GoesBy (Rose k m) w b u) (sym (take-length x)) (goes-weaker (Rose k l) (Rose k m) (rose-from k l m i j) w u x g);
  device = refl;
}

-- the connection ended while the reply was heard
pub LeftBy-heard : (k l m : ℕ) → k ≤ l → l ≤ m → (a b c : Option Peer) (x : List ℕ) → Sent k l a b x → HungUp b c → LeftBy k m a c x
LeftBy-heard k l m i j a b c x g h =
    on-hung (λ w v. GoesBy (Rose k l) w x v) (IsLeft (Rose k m) x) (left-whole k l m i j x) a b c g h

-- The handshake.
pub MaySend-greeting : (a : Option Peer) (bytes : List ℕ) → Begun a → bytes ≡ handshake 1 → MaySend a bytes
MaySend-greeting a bytes b e = of-of (λ w. w ≡ fresh w.device) (IsFront bytes) shaken a b
  where
    shaken : (w : Wire) → w ≡ fresh w.device → IsFront bytes w
    shaken w f = record {
      more = [];
      one = inr (subst (λ t. OneShake t w) (sym e ∙ sym (append-nil bytes)) (subst (OneShake (handshake 1)) (sym f) (fresh-shake w.device)));
    }

sent-none : (k l : ℕ) (a b : Option Peer) (x : List ℕ) → Sent k l a b x → b ≡ None → a ≡ None
sent-none k l None b x f e = refl
sent-none k l (Some p) b x f e = absurd (off p (subst (λ q. OnLink (λ w v. GoesBy (Rose k l) w x v) (Some p) q) e f))
  where
    off : (p : Peer) → OnLink (λ w v. GoesBy (Rose k l) w x v) (Some p) None → ⊥
    off (Apart dev) r = r
    off (Joined w) r = r

-- a port that told nothing before a send tells nothing after it
pub untold-before : (k l : ℕ) (a b : Option Peer) (x : List ℕ) → Sent k l a b x → b ≡ None → a ≡ None
untold-before k l a b x f e = sent-none k l a b x f e
