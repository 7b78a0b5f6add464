-- The next reply, head and text.
use Rattle.std.proofs.Common.{◌≡◌, ℕ, ◌+◌, ◌^◌, ◌<◌, ◌≤◌, true, List, ◌++◌, length, Option, Some, None, refl, sym, ap, ◌∙◌, subst, arith, append_assoc, length-append}
use Rattle.std.specs.Int.{w64, from_be_bytes}
use Rattle.std.proofs.lemmas.Nat.{from_be_bytes-to_be_bytes_8}
use Rattle.fb_frame.specs.Framing.{head, frame}
use Rattle.fb_message.specs.declared.reply.Reply.{Reply}
use Rattle.fb_message.specs.ReplyText.{reply_bytes, reply_fits, reply_of}
use Rattle.fb_message.proofs.Words.{only-yes, only-inverse}
use Rattle.fb_message.proofs.Read.{reply_read}
use Rattle.wire_told.specs.Peers.{Peer, Apart, Joined, OfLink, OnLink}
use Rattle.wire_told.specs.Places.{AppendedReply}
use Rattle.wire_model.specs.Wire.{Wire}
use Rattle.wire_told.specs.Told.{Heard, IsHead, HeardHead, HeardReply, HungUp, Gives}
use Rattle.wire_told.specs.Answered.{IsListening, Listening, IsNext, Next, IsSized, Sized, Stays, is_line}
use Rattle.wire_told.proofs.Lifted.{of-of, of-none, of-on}
use Rattle.wire_told.proofs.ToldLemmas.{front-same, heard-none, front-same}
use Rattle.wire_told.proofs.AnswerLemmas.{frame-front}
use Rattle.wire_told.proofs.OneFrames.{length-frame}
use Rattle.wire_told.proofs.HearingLemmas.{reply-sized, listening-next, listening-more, listening-end}

pub Next-from : (n : ℕ) (a : Option Peer) → Listening n a → Next a
Next-from n a l = of-of (IsListening n) IsNext (listening-next n) a l

pub Gives-next : (a : Option Peer) → Next a → Gives a 8
Gives-next a t = of-of IsNext (λ w. 8 ≤ length w.out) (λ w p. omega (arith, ap length p.due, length-append (frame (reply_bytes p.reply)) p.more, length-frame (reply_bytes p.reply))) a t

sized : (head_bytes : List ℕ) (n : ℕ) → n < 2 ^ 64 → head_bytes ≡ head n → (w v : Wire) → IsNext w → w ≡ record v { out = head_bytes ++ v.out } → IsSized n v
sized head_bytes n small l w v t h =
    let text = reply_bytes t.reply in
    let size = reply-sized t.reply t.fits in
    let e : head_bytes ++ v.out ≡ head (length text) ++ (text ++ t.more) = sym (ap (λ (x : Wire). x.out) h) ∙ (t.due ∙ append_assoc (head (length text)) text t.more) in
    let f = front-same head_bytes v.out (head (length text)) (text ++ t.more) (ap length l) e in
    let k : n ≡ length text = sym (from_be_bytes-to_be_bytes_8 n small) ∙ (ap (from_be_bytes w64) (sym l ∙ f.0) ∙ from_be_bytes-to_be_bytes_8 (length text) (omega (arith, size.1))) in
    record { long = omega (arith, k, size.0); short = omega (arith, k, size.1); there = omega (arith, k, ap length f.1, length-append text t.more) }

-- the head of a reply was heard: it tells the length of one
pub Sized-from : (a b : Option Peer) (head_bytes : List ℕ) (n : ℕ) → Next a → Heard a b head_bytes → IsHead n head_bytes → n < 2 ^ 64 → Sized b n
unfolding IsHead
Sized-from a b head_bytes n t h l small =
    of-on IsNext (λ w v. w ≡ record v { out = head_bytes ++ v.out }) (IsSized n) (sized head_bytes n small l) a b t h

pub Gives-sized : (a : Option Peer) (n : ℕ) → Sized a n → Gives a n
Gives-sized a n o = of-of (IsSized n) (λ w. n ≤ length w.out) (λ w p. p.there) a o

-- no told connection owes less or more than a reply
pub untold-small : (a b : Option Peer) (n : ℕ) → HeardHead a b n → Sized b n → n < 4 → a ≡ None
unfolding HeardHead
untold-small a b n h o l = heard-none a b (head n) h (of-none (IsSized n) (λ w p. absurd (omega (arith, l, p.long))) b o)

pub untold-large : (a b : Option Peer) (n : ℕ) → HeardHead a b n → Sized b n → 256 < n → a ≡ None
unfolding HeardHead
untold-large a b n h o l = heard-none a b (head n) h (of-none (IsSized n) (λ w p. absurd (omega (arith, l, p.short))) b o)

pub Stays-trans : (a b c : Option Peer) → Stays a b → Stays b c → Stays a c
Stays-trans None None c p q = q
Stays-trans None (Some b) c p q = absurd p
Stays-trans (Some a) None c p q = absurd p
Stays-trans (Some a) (Some b) None p q = q
Stays-trans (Some a) (Some b) (Some c) p q = q ∙ p

pub Stays-hung : (a b : Option Peer) → HungUp a b → Stays a b
Stays-hung None None h = tt
Stays-hung None (Some b) h = absurd h
Stays-hung (Some a) None h = absurd h
Stays-hung (Some a) (Some (Joined w)) h = absurd h
Stays-hung (Some a) (Some (Apart dev)) h = h

pub Stays-heard : (a b : Option Peer) (bytes : List ℕ) → Heard a b bytes → Stays a b
Stays-heard None None bytes h = tt
Stays-heard None (Some b) bytes h = absurd h
Stays-heard (Some (Apart dev)) b bytes h = absurd h
Stays-heard (Some (Joined w)) None bytes h = absurd h
Stays-heard (Some (Joined w)) (Some (Apart dev)) bytes h = absurd h
Stays-heard (Some (Joined w)) (Some (Joined v)) bytes h = sym (ap (λ (x : Wire). x.device) h)

pub Stays-head : (a b : Option Peer) (n : ℕ) → HeardHead a b n → Stays a b
unfolding HeardHead
Stays-head a b n h = Stays-heard a b (head n) h

pub Stays-reply : (a b : Option Peer) (reply : List ℕ) → HeardReply a b reply → Stays a b
unfolding HeardReply
Stays-reply a b reply h = Stays-heard a b (frame reply) h

pub Stays-none : (a b : Option Peer) → a ≡ None → b ≡ None → Stays a b
Stays-none None None e f = tt
Stays-none None (Some b) e f = absurd cc
Stays-none (Some a) b e f = absurd cc

-- hanging up after calls that left the device
pub HungUp-stays : (a b c : Option Peer) → Stays a b → HungUp b c → HungUp a c
HungUp-stays None None c s h = h
HungUp-stays None (Some b) c s h = absurd s
HungUp-stays (Some a) None c s h = absurd s
HungUp-stays (Some a) (Some b) None s h = absurd h
HungUp-stays (Some a) (Some b) (Some (Joined w)) s h = absurd h
HungUp-stays (Some a) (Some b) (Some (Apart dev)) s h = h ∙ s

-- The text that was heard is the reply's.
reply-read : (text : List ℕ) (r : Reply) → reply_of text ≡ Some r → (reply_fits r ≡ true) × (reply_bytes r ≡ text)
reply-read text r e = only-inverse (reply_fits r) (reply_bytes r) text ((reply_read r text).1 e)

pub read-fits : (text : List ℕ) (r : Reply) → reply_of text ≡ Some r → reply_fits r ≡ true
read-fits text r e = (reply-read text r e).0

pub Heard-read : (a b : Option Peer) (text : List ℕ) (r : Reply) → HeardReply a b text → reply_of text ≡ Some r → HeardReply a b (reply_bytes r)
Heard-read a b text r h e = subst (HeardReply a b) (sym (reply-read text r e).1) h

pub Appended-read : (a b : Option (List ℕ)) (text : List ℕ) (r : Reply) → AppendedReply a b text → reply_of text ≡ Some r → AppendedReply a b (reply_bytes r)
Appended-read a b text r h e = subst (AppendedReply a b) (sym (reply-read text r e).1) h

not-none : (r : Reply) → Some r ≡ None → ⊥
not-none r e = cc

unread : (text : List ℕ) → length text ≤ 256 → reply_of text ≡ None → (w v : Wire) → IsNext w → w ≡ record v { out = frame text ++ v.out } → ⊥
unread text short e w v t h =
    let size = reply-sized t.reply t.fits in
    let f = frame-front text (reply_bytes t.reply) v.out t.more (omega (arith, short)) (omega (arith, size.1)) (sym (ap (λ (x : Wire). x.out) h) ∙ t.due) in
    not-none t.reply (sym (ap reply_of f.0 ∙ (reply_read t.reply (reply_bytes t.reply)).0 (only-yes (reply_fits t.reply) (reply_bytes t.reply) t.fits)) ∙ e)

told-none : (P : Wire → Type 0) (R : Wire → Wire → Type 0) → ((w v : Wire) → P w → R w v → ⊥) → (a b : Option Peer) → OfLink P a → OnLink R a b → a ≡ None
told-none P R f None b p r = refl
told-none P R f (Some (Apart dev)) b p r = absurd p
told-none P R f (Some (Joined w)) None p r = absurd r
told-none P R f (Some (Joined w)) (Some (Apart dev)) p r = absurd r
told-none P R f (Some (Joined w)) (Some (Joined v)) p r = absurd (f w v p r)

-- where the text is no reply no connection is told
pub untold-read : (a b : Option Peer) (text : List ℕ) → Next a → HeardReply a b text → length text ≤ 256 → reply_of text ≡ None → a ≡ None
unfolding HeardReply
untold-read a b text t h short e = told-none IsNext (λ w v. w ≡ record v { out = frame text ++ v.out }) (unread text short e) a b t h

-- after a line others are left
pub Listening-more : (n : ℕ) (a b : Option Peer) (r : Reply) → Listening n a → reply_fits r ≡ true → is_line r ≡ true → HeardReply a b (reply_bytes r) → Listening (n + 1) b
unfolding HeardReply
Listening-more n a b r l f i h = of-on (IsListening n) (λ w v. w ≡ record v { out = frame (reply_bytes r) ++ v.out }) (IsListening (n + 1)) (λ w v p q. listening-more n r w v p f i q) a b l h

pub untold-many : (a : Option Peer) → Listening 10000 a → a ≡ None
untold-many a l = of-none (IsListening 10000) listening-end a l

pub ruleset next_head = (Gives-next, Sized-from, Stays-hung, Stays-none)
