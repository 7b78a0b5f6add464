-- What a frame of a download's data does to what was sent since the download began.
use Rattle.std.proofs.Common.{◌≡◌, ◌⊎◌, inl, inr, ℕ, zero, suc, ◌+◌, ◌-◌, ◌*◌, ◌/◌, ◌<◌, ◌≤◌, Bool, true, false, List, [], ◌∷◌, ◌++◌, length, length-append, take, drop, Option, Some, None, refl, sym, ap, ◌∙◌, subst, arith, length-drop}
use Rattle.std.specs.Prelude.{nat_lt, IfSome, IsTrue, IsFalse}
use Rattle.std.proofs.lemmas.Bool.Decides.{nat_tests}
use Rattle.std.proofs.lemmas.List.{append-nil, append_assoc, take_all, take-append-le, drop-append-le, take-take}
use Rattle.std.proofs.Math.Seq.{drop-append_seam, take-add}
use Rattle.fb_frame.specs.Framing.{frame}
use Rattle.wire_model.specs.Wire.{Wire}
use Rattle.wire_told.specs.Answered.{Downloading, Sound, IsSending as IsSendingWire, IsWritten, Wrote, got_of}
use Rattle.wire_told.specs.Peers.{Peer, Apart, Joined, OnLink}
use Rattle.wire_told.specs.Ports.{PortTold, Sends, SendFails, Drops}
use Rattle.wire_told.specs.Told.{HungUp}
use Rattle.wire_told.proofs.KeptLemmas.{Appended-append, Appended-nothing}
use Rattle.wire_told.proofs.Lifted.{of-stays, on-then, kept-hung}
use Rattle.wire_told.proofs.PortLemmas.{Kept-same, Kept-trans}
use Rattle.fb_link.proofs.TypedLemmas.{Sound-sending, Sound-hung}
use Rattle.sparse_image.specs.Outside.{Grew, GrewInPart, HasRoom, Fell}
use Rattle.sparse_image.proofs.WriteLemmas.{grew-none, grew-then, fell-none, fell-then, room-left}
use Rattle.host_driver.specs.Wires.{full_frames, last_frame, data_wire}
use Rattle.host_driver.specs.LinkOuts.{IsTaken, IsSent, IsSending, HasGivenUp, HasFailed, data_by, SendsAll}

-- Frames of 65,536 bytes, and one more.
frames-append : (k : ℕ) (x r : List ℕ) → length x ≡ 65536 * k → full_frames k (x ++ r) ≡ full_frames k x
frames-append zero x r e = refl
frames-append (suc k) x r e =
    let h : 65536 ≤ length x = omega (arith, e) in
    ap (λ t. frame t ++ full_frames k (drop 65536 (x ++ r))) (take-append-le 65536 x r h)
    ∙ ap (λ t. frame (take 65536 x) ++ full_frames k t) (drop-append-le 65536 x r h)
    ∙ ap (λ t. frame (take 65536 x) ++ t) (frames-append k (drop 65536 x) r (omega (arith, e, length-drop 65536 x)))

frames-more : (k : ℕ) (x p : List ℕ) → length x ≡ 65536 * k → length p ≡ 65536 → full_frames (suc k) (x ++ p) ≡ full_frames k x ++ frame p
frames-more zero [] p e h = append-nil (frame (take 65536 p)) ∙ ap frame (take_all 65536 p (omega (arith, h)))
frames-more zero (b ∷ x) p e h = absurd (omega (arith, e))
frames-more (suc k) x p e h =
    let long : 65536 ≤ length x = omega (arith, e) in
    ap (λ t. frame t ++ full_frames (suc k) (drop 65536 (x ++ p))) (take-append-le 65536 x p long)
    ∙ ap (λ t. frame (take 65536 x) ++ full_frames (suc k) t) (drop-append-le 65536 x p long)
    ∙ ap (λ t. frame (take 65536 x) ++ t) (frames-more k (drop 65536 x) p (omega (arith, e, length-drop 65536 x)) h)
    ∙ sym (append_assoc (frame (take 65536 x)) (full_frames k (drop 65536 x)) (frame p))

some-zero : (x : List ℕ) → length x ≡ 0 → x ≡ []
some-zero [] e = refl
some-zero (b ∷ x) e = absurd (omega (arith, e))

wire-at : (k : ℕ) (x : List ℕ) → length x / 65536 ≡ k → data_wire x ≡ full_frames k x ++ last_frame (drop (65536 * k) x)
wire-at k x e = ap (λ q. full_frames q x ++ last_frame (drop (65536 * q) x)) e

-- data of so many whole frames, and of one more frame
wire-frames : (k : ℕ) (x : List ℕ) → length x ≡ 65536 * k → data_wire x ≡ full_frames k x
wire-frames k x e =
    wire-at k x (omega (arith, e))
    ∙ ap (λ t. full_frames k x ++ last_frame t) (some-zero (drop (65536 * k) x) (omega (arith, e, length-drop (65536 * k) x)))
    ∙ append-nil (full_frames k x)

last-some : (p : List ℕ) → 0 < length p → last_frame p ≡ frame p
last-some [] h = absurd (omega (arith, h))
last-some (b ∷ p) h = refl

wire-short : (k : ℕ) (x p : List ℕ) → length x ≡ 65536 * k → 0 < length p → length p < 65536 → data_wire (x ++ p) ≡ full_frames k x ++ frame p
wire-short k x p e some h =
    wire-at k (x ++ p) (omega (arith, e, h, length-append x p))
    ∙ ap (λ t. t ++ last_frame (drop (65536 * k) (x ++ p))) (frames-append k x p e)
    ∙ ap (λ n. full_frames k x ++ last_frame (drop n (x ++ p))) (sym e)
    ∙ ap (λ t. full_frames k x ++ last_frame t) (drop-append_seam x p)
    ∙ ap (λ t. full_frames k x ++ t) (last-some p some)

less-or-all : (m n : ℕ) → m ≤ n → (b : Bool) → nat_lt m n ≡ b → (m < n) ⊎ (m ≡ n)
less-or-all m n h true e = inl (let k : m < n = grind (arith, nat_tests) in k)
less-or-all m n h false e = inr (let k : n ≤ m = grind (arith, nat_tests) in omega (arith, h, k))

wire-rest : (k : ℕ) (x p : List ℕ) → length x ≡ 65536 * k → 0 < length p → length p ≤ 65536 → data_wire (x ++ p) ≡ full_frames k x ++ frame p
wire-rest k x p e some h = pick (less-or-all (length p) 65536 h (nat_lt (length p) 65536) refl)
  where
    pick : (length p < 65536) ⊎ (length p ≡ 65536) → data_wire (x ++ p) ≡ full_frames k x ++ frame p
    pick (inl l) = wire-short k x p e some l
    pick (inr l) = wire-frames (suc k) (x ++ p) (omega (arith, e, l, length-append x p)) ∙ frames-more k x p e l

-- One frame was sent after what was sent before.
taken-more : (x fx p : List ℕ) (w u v : Wire) → IsTaken x fx w u → IsWritten p u v → IsTaken (x ++ p) (fx ++ frame p) w v
taken-more x fx p w u v t r = record {
  device = r.device ∙ t.device;
  got = r.got ∙ (ap (λ g. g ++ p) t.got ∙ append_assoc (got_of w) x p);
  running = r.running;
  taken = omega (arith, t.taken, r.taken, length-append fx (frame p));
}

sent-more : (x fx p : List ℕ) (a b c : PortTold) → IsSent x fx a b → Sends b c (frame p) → Wrote b.peer c.peer p → IsSent (x ++ p) (fx ++ frame p) a c
sent-more x fx p a b c s f g = record {
  up = f.up;
  took = on-then (IsTaken x fx) (IsWritten p) (IsTaken (x ++ p) (fx ++ frame p)) (taken-more x fx p) a.peer b.peer c.peer s.took g;
  kept = Kept-trans a b c s.kept f.kept;
  heard = f.heard ∙ s.heard;
  log = Appended-append a.log b.log c.log fx (frame p) s.log f.log;
  ends = f.ends ∙ s.ends;
}

-- what came since is told by both views
data-is : (x fx : List ℕ) (a b : Option Peer) (p : List ℕ) → OnLink (IsTaken x fx) a b → IfSome (data_by a b p) (λ all. x ++ p ≡ all)
data-is x fx None None p t = tt
data-is x fx None (Some b) p t = absurd t
data-is x fx (Some (Apart dev)) b p t = absurd t
data-is x fx (Some (Joined w)) None p t = absurd t
data-is x fx (Some (Joined w)) (Some (Apart dev)) p t = absurd t
data-is x fx (Some (Joined w)) (Some (Joined v)) p t =
    sym (ap (λ g. drop (length (got_of w)) g ++ p) t.got ∙ ap (λ g. g ++ p) (drop-append_seam (got_of w) x))

data-frame : (x fx : List ℕ) (a b c : Option Peer) (p : List ℕ) → OnLink (IsTaken x fx) a b → Wrote b c p → data_by a c [] ≡ data_by a b p
data-frame x fx None None None p t g = refl
data-frame x fx None None (Some c) p t g = absurd g
data-frame x fx None (Some b) c p t g = absurd t
data-frame x fx (Some (Apart dev)) b c p t g = absurd t
data-frame x fx (Some (Joined w)) None c p t g = absurd t
data-frame x fx (Some (Joined w)) (Some (Apart dev)) c p t g = absurd t
data-frame x fx (Some (Joined w)) (Some (Joined v)) None p t g = absurd g
data-frame x fx (Some (Joined w)) (Some (Joined v)) (Some (Apart dev)) p t g = absurd g
data-frame x fx (Some (Joined w)) (Some (Joined v)) (Some (Joined u)) p t g =
    let h : length (got_of w) ≤ length (got_of v) = omega (arith, ap length t.got, length-append (got_of w) x) in
    ap Some
    (append-nil (drop (length (got_of w)) (got_of u))
    ∙ ap (λ y. drop (length (got_of w)) y) g.got
    ∙ drop-append-le (length (got_of w)) (got_of v) p h)

pub Data-more : (a b c : PortTold) (left : ℕ) (p : List ℕ) → IsSending a b left → Wrote b.peer c.peer p → data_by a.peer c.peer [] ≡ data_by a.peer b.peer p
unfolding IsSending
Data-more a b c left p s g = data-frame s.bytes (full_frames s.frames s.bytes) a.peer b.peer c.peer p s.sent.took g

pub Sending-more : (a b c : PortTold) (left : ℕ) (p : List ℕ) → IsSending a b left → length p ≡ 65536 → Sends b c (frame p) → Wrote b.peer c.peer p → Downloading (left - length p) c.peer → IsSending a c (left - length p)
unfolding IsSending
Sending-more a b c left p s long f g d = record {
  bytes = s.bytes ++ p;
  frames = suc s.frames;
  whole = omega (arith, s.whole, long, length-append s.bytes p);
  sent = subst (λ t. IsSent (s.bytes ++ p) t a c) (sym (frames-more s.frames s.bytes p s.whole long))
      (sent-more s.bytes (full_frames s.frames s.bytes) p a b c s.sent f g);
  sending = d;
}

-- the last frame of the data
pub Sends-rest : (a b c : PortTold) (left : ℕ) (p : List ℕ) → IsSending a b left → 0 < length p → length p ≤ 65536 → length p ≡ left → Sends b c (frame p) → Wrote b.peer c.peer p → Downloading (left - length p) c.peer → SendsAll (data_by a.peer b.peer p) a c
unfolding IsSending SendsAll
Sends-rest a b c left p s some small all f g d = record {
  bytes = s.bytes ++ p;
  whole = data-is s.bytes (full_frames s.frames s.bytes) a.peer b.peer p s.sent.took;
  sent = subst (λ t. IsSent (s.bytes ++ p) t a c) (sym (wire-rest s.frames s.bytes p s.whole some small))
      (sent-more s.bytes (full_frames s.frames s.bytes) p a b c s.sent f g);
  sending = subst (λ n. Downloading n c.peer) (omega (arith, all)) d;
}

pub Sends-frames : (a b : PortTold) (left : ℕ) → IsSending a b left → left ≡ 0 → SendsAll (data_by a.peer b.peer []) a b
unfolding IsSending SendsAll
Sends-frames a b left s none = record {
  bytes = s.bytes ++ [];
  whole = data-is s.bytes (full_frames s.frames s.bytes) a.peer b.peer [] s.sent.took;
  sent = subst (λ t. IsSent (s.bytes ++ []) t a b) (sym (wire-frames s.frames (s.bytes ++ []) (omega (arith, s.whole, length-append s.bytes [])) ∙ frames-append s.frames s.bytes [] s.whole))
      (subst (λ t. IsSent t (full_frames s.frames s.bytes) a b) (sym (append-nil s.bytes)) s.sent);
  sending = subst (λ n. Downloading n b.peer) none s.sending;
}

-- a call failed amid the data
pub Failed-amid : (a b c : PortTold) (left : ℕ) (p : List ℕ) → IsSending a b left → SendFails b c (frame p) → HungUp b.peer c.peer → Sound c.peer → HasFailed a c
unfolding IsSending HasFailed HasGivenUp
Failed-amid a b c left p s f h v = (
  record {
    down = f.down;
    left = kept-hung (IsTaken s.bytes (full_frames s.frames s.bytes)) (λ w u t. t.device) a.peer b.peer c.peer s.sent.took h;
    sound = v;
    kept = Kept-trans a b c s.sent.kept f.kept;
    heard = f.heard ∙ s.sent.heard;
    ends = f.ends ∙ s.sent.ends;
  },
  omega (arith, s.sent.kept.later, f.rose),
)

-- nothing was sent yet
none-taken : (left : ℕ) (w : Wire) → IsSendingWire left w → IsTaken [] [] w w
none-taken left w s = record { device = refl; got = sym (append-nil (got_of w)); running = s.running; taken = omega arith }

pub Sending-begun : (a : PortTold) (left : ℕ) → IsTrue a.up → Downloading left a.peer → IsSending a a left
unfolding IsSending
Sending-begun a left up d = record {
  bytes = [];
  frames = 0;
  whole = refl;
  sent = record {
    up = up;
    took = of-stays (IsSendingWire left) (IsTaken [] []) (none-taken left) a.peer d;
    kept = Kept-same a;
    heard = refl;
    log = Appended-nothing a.log;
    ends = refl;
  };
  sending = d;
}

-- what an invariant tells
pub Sending-up : (a b : PortTold) (left : ℕ) → IsSending a b left → IsTrue b.up
unfolding IsSending
Sending-up a b left s = s.sent.up

pub Sending-due : (a b : PortTold) (left : ℕ) → IsSending a b left → Downloading left b.peer
unfolding IsSending
Sending-due a b left s = s.sending

pub ruleset frames = (Sending-more, Data-more, Failed-amid, Sending-up, Sending-due)

-- the port of an out whose connection is given up
pub GivenUp-failed : (a b : PortTold) → HasFailed a b → HasGivenUp a b
unfolding HasFailed
GivenUp-failed a b f = f.0

pub Down-failed : (a b : PortTold) → HasFailed a b → IsFalse b.up
unfolding HasFailed HasGivenUp
Down-failed a b f = f.0.down

pub Sound-given : (a b : PortTold) → HasGivenUp a b → Sound b.peer
unfolding HasGivenUp
Sound-given a b f = f.sound

hung-twice : (a b c : Option Peer) → HungUp a b → HungUp b c → HungUp a c
hung-twice None None c h g = g
hung-twice None (Some b) c h g = absurd h
hung-twice (Some a) None c h g = absurd h
hung-twice (Some a) (Some (Joined v)) c h g = absurd h
hung-twice (Some a) (Some (Apart dev)) None h g = absurd g
hung-twice (Some a) (Some (Apart dev)) (Some (Joined u)) h g = absurd g
hung-twice (Some a) (Some (Apart dev)) (Some (Apart e)) h g = g ∙ h

GivenUp-sending : (a b c : PortTold) (left : ℕ) → IsSending a b left → Drops b c → HasGivenUp a c
unfolding IsSending HasGivenUp
GivenUp-sending a b c left s d = record {
  down = d.down;
  left = kept-hung (IsTaken s.bytes (full_frames s.frames s.bytes)) (λ w u t. t.device) a.peer b.peer c.peer s.sent.took d.left;
  sound = Sound-hung b.peer c.peer (Sound-sending left b.peer s.sending) d.left;
  kept = Kept-trans a b c s.sent.kept d.kept;
  heard = d.heard ∙ s.sent.heard;
  ends = d.ends ∙ s.sent.ends;
}

GivenUp-again : (a b c : PortTold) → HasFailed a b → Drops b c → HasGivenUp a c
unfolding HasFailed HasGivenUp
GivenUp-again a b c f d = record {
  down = d.down;
  left = hung-twice a.peer b.peer c.peer f.0.left d.left;
  sound = Sound-hung b.peer c.peer f.0.sound d.left;
  kept = Kept-trans a b c f.0.kept d.kept;
  heard = d.heard ∙ f.0.heard;
  ends = d.ends ∙ f.0.ends;
}

pub GivenUp-dropped : (up : Bool) (a b c : PortTold) (left : ℕ) → (up ≡ true → IsSending a b left) → (up ≡ false → HasFailed a b) → Drops b c → HasGivenUp a c
GivenUp-dropped true a b c left s f d = GivenUp-sending a b c left (s refl) d
GivenUp-dropped false a b c left s f d = GivenUp-again a b c (f refl) d

pub ruleset ends = (Sends-rest, Sends-frames, Failed-amid, Sending-up, Sending-due, GivenUp-failed, Down-failed)

-- more bytes are held
pub put-more : (a b : Option Peer) (buffer x : List ℕ) → Grew (data_by a b buffer) (data_by a b (buffer ++ x)) x
put-more None b buffer x = tt
put-more (Some (Apart dev)) b buffer x = tt
put-more (Some (Joined w)) None buffer x = tt
put-more (Some (Joined w)) (Some (Apart dev)) buffer x = tt
put-more (Some (Joined w)) (Some (Joined v)) buffer x = sym (append_assoc (drop (length (got_of w)) (got_of v)) buffer x)

-- an out that takes nothing any more tells nothing any more
pub part-lost : (a b : Option (List ℕ)) (bytes : List ℕ) → b ≡ None → GrewInPart a b bytes
part-lost a b bytes e = subst (λ (x : Option (List ℕ)). GrewInPart a x bytes) (sym e) (all a)
  where
    all : (a : Option (List ℕ)) → GrewInPart a None bytes
    all None = tt
    all (Some x) = tt

-- bytes were put one part after another
pub grew-more : (a b c : Option (List ℕ)) (bytes : List ℕ) (at n k : ℕ) → n ≤ k → Grew a b (take at bytes) → Grew b c (take n (take k (drop at bytes))) → Grew a c (take (at + n) bytes)
grew-more a b c bytes at n k h p q =
    subst (λ (x : List ℕ). Grew a c x) (sym (take-add at n bytes))
    (grew-then a b c (take at bytes) (take n (drop at bytes)) p (subst (λ (x : List ℕ). Grew b c x) (take-take n k (drop at bytes) h) q))

pub fell-more : (a b c : Option ℕ) (n m : ℕ) → Fell a b n → Fell b c m → Fell a c (n + m)
fell-more a b c n m p q = fell-then a b c n m p q

pub has-left : (a b : Option ℕ) (all n : ℕ) → HasRoom a all → Fell a b n → n ≤ all → HasRoom b (all - n)
has-left a b all n h f l = room-left a b all n (all - n) h f (omega arith)

pub ruleset puts = (put-more, part-lost, grew-more, fell-more, has-left, grew-none, fell-none)
