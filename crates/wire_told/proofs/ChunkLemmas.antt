-- A frame of data in a connection amid a download, whatever came before it.
use Rattle.std.proofs.Common.{◌≡◌, ℕ, ◌-◌, ◌<◌, ◌≤◌, List, ◌++◌, true, length, Option, Some, None, arith}
use Rattle.std.specs.Int.{w64, to_be_bytes}
use Rattle.std.specs.List.{list_all}
use Rattle.fb_frame.specs.Framing.{frame}
use Rattle.fb_frame.specs.Causes.{Rose}
use Rattle.fb_message.specs.declared.reply.Reply.{Reply}
use Rattle.fb_message.specs.ReplyText.{reply_fits}
use Rattle.wire_told.specs.Peers.{Peer, Apart, Joined}
use Rattle.wire_model.specs.Wire.{Wire}
use Rattle.wire_told.specs.Told.{GoesBy, Sent, LeftBy, Heard, HungUp, OneFrame, IsFront, MaySend}
use Rattle.wire_told.specs.Answered.{ends_well, reply_frames, IsListening, Listening, IsBetween, Between, IsSending, Downloading, got_of, IsWritten, Wrote, Loads}
use Rattle.wire_told.proofs.Lifted.{of-of, of-on, with-on}
use Rattle.wire_told.proofs.ToldLemmas.{head-front, payload-front}
use Rattle.wire_told.proofs.DataLemmas.{data-frame, data-left}
use Rattle.wire_told.proofs.StateLemmas.{due-of, due-receiving, written, sending-less, loads, sent-okay, finished}

chunk-frame : (left : ℕ) (p : List ℕ) (w : Wire) → IsSending left w → 0 < length p → length p ≤ left → length p ≤ 65536 → OneFrame p (frame p) w
chunk-frame left p w s some h small =
    let d = due-of left w (omega arith) s in
    data-frame 0 d.count d.got p w (due-receiving left w s d) some (omega (arith, h, d.all)) small

chunk-head : (left : ℕ) (p head_bytes : List ℕ) → 0 < length p → length p ≤ left → length p ≤ 65536 → head_bytes ≡ to_be_bytes w64 (length p) → (w : Wire) → IsSending left w → IsFront head_bytes w
chunk-head left p head_bytes some h small e w s =
    let d = due-of left w (omega arith) s in
    head-front p head_bytes e w (chunk-frame left p w s some h small)

pub MaySend-chunk-head : (left : ℕ) (p head_bytes : List ℕ) (a : Option Peer) → Downloading left a → 0 < length p → length p ≤ left → length p ≤ 65536 → head_bytes ≡ to_be_bytes w64 (length p) → MaySend a head_bytes
MaySend-chunk-head left p head_bytes a s some h small e = of-of (IsSending left) (IsFront head_bytes) (chunk-head left p head_bytes some h small e) a s

chunk-rest : (broke : Type 0) (left : ℕ) (p head_bytes : List ℕ) → 0 < length p → length p ≤ left → length p ≤ 65536 → head_bytes ≡ to_be_bytes w64 (length p) → (w v : Wire) → IsSending left w → GoesBy broke w head_bytes v → IsFront p v
chunk-rest broke left p head_bytes some h small e w v s g =
    let d = due-of left w (omega arith) s in
    payload-front broke p head_bytes e w v (chunk-frame left p w s some h small) g

pub MaySend-chunk : (k l left : ℕ) (p head_bytes : List ℕ) (a b : Option Peer) → Downloading left a → 0 < length p → length p ≤ left → length p ≤ 65536 → head_bytes ≡ to_be_bytes w64 (length p) → Sent k l a b head_bytes → MaySend b p
MaySend-chunk k l left p head_bytes a b s some h small e g =
    of-on (IsSending left) (λ w v. GoesBy (Rose k l) w head_bytes v) (IsFront p) (λ w v q r. chunk-rest (Rose k l) left p head_bytes some h small e w v q r) a b s g

pub Wrote-chunk : (k l left : ℕ) (p : List ℕ) (a b : Option Peer) → Downloading left a → 0 < length p → length p ≤ left → length p ≤ 65536 → Sent k l a b (frame p) → Wrote a b p
Wrote-chunk k l left p a b s some h small g =
    with-on (IsSending left) (λ w v. GoesBy (Rose k l) w (frame p) v) (IsWritten p) (λ w v q r. written (Rose k l) left p w v q some h small r) a b s g

pub Downloading-less : (k l left : ℕ) (p : List ℕ) (a b : Option Peer) → Downloading left a → 0 < length p → length p ≤ left → length p ≤ 65536 → Sent k l a b (frame p) → Downloading (left - length p) b
Downloading-less k l left p a b s some h small g =
    of-on (IsSending left) (λ w v. GoesBy (Rose k l) w (frame p) v) (IsSending (left - length p)) (λ w v q r. sending-less (Rose k l) left p w v q some h small r) a b s g

-- a failed frame of data left the device as it was
pub HungUp-chunk : (k l left : ℕ) (p : List ℕ) (a b : Option Peer) → Downloading left a → 0 < length p → length p ≤ left → length p ≤ 65536 → LeftBy k l a b (frame p) → HungUp a b
HungUp-chunk k l left p None None s some h small g = tt
HungUp-chunk k l left p None (Some b) s some h small g = absurd g
HungUp-chunk k l left p (Some (Apart dev)) b s some h small g = absurd s
HungUp-chunk k l left p (Some (Joined w)) None s some h small g = absurd g
HungUp-chunk k l left p (Some (Joined w)) (Some (Joined v)) s some h small g = absurd g
HungUp-chunk k l left p (Some (Joined w)) (Some (Apart dev)) s some h small g =
    let d = due-of left w (omega arith) s in
    data-left (Rose k l) 0 d.count d.got p some (omega (arith, h, d.all)) small w dev (due-receiving left w s d) g

-- The end of a download.
pub Listening-okay : (n : ℕ) (a : Option Peer) → n < 10000 → Downloading 0 a → Listening n a
Listening-okay n a h s = of-of (IsSending 0) (IsListening n) (λ w p. sent-okay n w h p) a s

pub Between-finished : (rs : List Reply) (a b : Option Peer) → Downloading 0 a → ends_well rs ≡ true → list_all reply_fits rs ≡ true → Heard a b (reply_frames rs) → Between b
Between-finished rs a b s ends fits h =
    of-on (IsSending 0) (λ w v. w ≡ record v { out = reply_frames rs ++ v.out }) IsBetween (λ w u p q. (finished rs w u p ends fits q).1) a b s h

-- what came is loaded
pub Loads-heard : (x : List ℕ) (a b : Option Peer) → Downloading 0 a → Heard a b x → Loads a b
Loads-heard x a b s h =
    with-on (IsSending 0) (λ w v. w ≡ record v { out = x ++ v.out }) (λ w v. v.loaded ≡ Some (got_of w)) (λ w v q e. loads x w v q e) a b s h
