-- Calls on a port, one after the other.
use Rattle.std.proofs.Common.{◌≡◌, ℕ, ◌+◌, ◌^◌, ◌<◌, ◌≤◌, List, [], ◌++◌, length, take, drop, Option, Some, None, refl, sym, ap, ◌∙◌, subst, arith, length-take, append_assoc, append-nil, take-append-drop}
use Rattle.std.specs.Prelude.{IsTrue}
use Rattle.std.specs.Int.{w64, to_be_bytes}
use Rattle.std.proofs.Math.Seq.{take-add}
use Rattle.std.proofs.lemmas.List.{take-take}
use borrow.Rule.Slice.PartMut.{put_mid}
use Rattle.fb_frame.specs.Framing.{frame}
use Rattle.fb_message.specs.declared.reply.Reply.{Reply}
use Rattle.fb_message.specs.ReplyText.{reply_bytes, reply_of}
use Rattle.wire_told.specs.Places.{Place, Stands, KeepsOthers, Appended}
use Rattle.wire_told.specs.Told.{MaySend, Gives, IsHead}
use Rattle.wire_told.specs.Answered.{Next}
use Rattle.wire_told.specs.Ports.{PortTold, Kept, AppendedFront, Sends, SendFails, Hears, HearsHead, HearsReply, Misses, Ends, Drops}
use Rattle.wire_told.proofs.ToldLemmas.{MaySend-head, MaySend-payload, Sent-nothing, Sent-append, LeftBy-more, LeftBy-head, LeftBy-payload, Heard-nothing, Heard-more, Heard-head, Heard-text, HungUp-more, heard-none, not-at-end}
use Rattle.wire_told.proofs.NextLemmas.{Sized-from, Stays-hung, Stays-trans, Stays-heard, Heard-read, Appended-read}
use Rattle.wire_told.proofs.ChunkLemmas.{MaySend-chunk-head, MaySend-chunk}
use Rattle.wire_told.proofs.KeptLemmas.{Appended-nothing, Appended-append, Appended-more, Appended-head, Appended-text}

others-trans : (last : Option Place) (f g h : Stands) → KeepsOthers last f g → KeepsOthers last g h → KeepsOthers last f h
others-trans last f g h p q = λ other n. q other n ∙ p other n

pub Kept-same : (a : PortTold) → Kept a a
Kept-same a = record { aimed_still = refl; last_same = refl; others = λ other n. refl; later = omega arith; no_fewer = omega arith; honest = λ h. h }

pub Kept-trans : (a b c : PortTold) → Kept a b → Kept b c → Kept a c
Kept-trans a b c p q = record {
  aimed_still = q.aimed_still ∙ p.aimed_still;
  last_same = q.last_same ∙ p.last_same;
  others = others-trans a.last a.stands b.stands c.stands p.others (subst (λ k. KeepsOthers k b.stands c.stands) p.last_same q.others);
  later = omega (arith, p.later, q.later);
  no_fewer = omega (arith, p.no_fewer, q.no_fewer);
  honest = λ h. p.honest (q.honest h);
}

pub ruleset port_kept = (Kept-same, Kept-trans)

-- Fronts of what is appended.
pub Front-whole : (a b : Option (List ℕ)) (bytes : List ℕ) → Appended a b bytes → AppendedFront a b bytes
Front-whole a b bytes f = record { part = bytes; behind = []; whole = sym (append-nil bytes); appended = f }

pub Front-nothing : (a : Option (List ℕ)) (bytes : List ℕ) → AppendedFront a a bytes
Front-nothing a bytes = record { part = []; behind = bytes; whole = refl; appended = Appended-nothing a }

pub ruleset port_fronts = (Front-whole, Front-nothing)

pub Front-before : (a b : Option (List ℕ)) (x y : List ℕ) → AppendedFront a b x → AppendedFront a b (x ++ y)
Front-before a b x y f = record {
  part = f.part;
  behind = f.behind ++ y;
  whole = ap (λ t. t ++ y) f.whole ∙ append_assoc f.part f.behind y;
  appended = f.appended;
}

pub Front-behind : (a b c : Option (List ℕ)) (x y : List ℕ) → Appended a b x → AppendedFront b c y → AppendedFront a c (x ++ y)
Front-behind a b c x y f g = record {
  part = x ++ g.part;
  behind = g.behind;
  whole = ap (λ t. x ++ t) g.whole ∙ sym (append_assoc x g.part g.behind);
  appended = Appended-append a b c x g.part f g.appended;
}

-- Sends.
pub Sends-nothing : (a : PortTold) (bytes : List ℕ) → IsTrue a.up → MaySend a.peer bytes → Sends a a []
Sends-nothing a bytes up m = record {
  up = up;
  sent = Sent-nothing a.faults a.peer bytes m;
  kept = Kept-same a;
  heard = refl;
  log = Appended-nothing a.log;
  ends = refl;
}

pub Sends-append : (a b c : PortTold) (x y : List ℕ) → Sends a b x → Sends b c y → Sends a c (x ++ y)
Sends-append a b c x y f g = record {
  up = g.up;
  sent = Sent-append a.faults b.faults c.faults f.kept.later g.kept.later a.peer b.peer c.peer x y f.sent g.sent;
  kept = Kept-trans a b c f.kept g.kept;
  heard = g.heard ∙ f.heard;
  log = Appended-append a.log b.log c.log x y f.log g.log;
  ends = g.ends ∙ f.ends;
}

-- the loop that sends a list from `at` on
pub Sends-more : (a b c : PortTold) (bytes : List ℕ) (at n len : ℕ) → n ≤ len → Sends a b (take at bytes) → Sends b c (take n (take len (drop at bytes))) → Sends a c (take (at + n) bytes)
Sends-more a b c bytes at n len h f g =
    subst (Sends a c) (sym (take-add at n bytes))
    (Sends-append a b c (take at bytes) (take n (drop at bytes)) f (subst (Sends b c) (take-take n len (drop at bytes) h) g))

three-parts : (at len : ℕ) (bytes : List ℕ) → (take at bytes ++ take len (drop at bytes)) ++ drop len (drop at bytes) ≡ bytes
three-parts at len bytes =
    append_assoc (take at bytes) (take len (drop at bytes)) (drop len (drop at bytes))
    ∙ (ap (λ t. take at bytes ++ t) (take-append-drop len (drop at bytes)) ∙ take-append-drop at bytes)

pub SendFails-more : (a b c : PortTold) (bytes : List ℕ) (at len : ℕ) → at ≤ length bytes → Sends a b (take at bytes) → SendFails b c (take len (drop at bytes)) → SendFails a c bytes
SendFails-more a b c bytes at len h f g = record {
  down = g.down;
  left = LeftBy-more a.faults b.faults c.faults f.kept.later g.kept.later a.peer b.peer c.peer bytes at len h f.sent g.left;
  kept = Kept-trans a b c f.kept g.kept;
  heard = g.heard ∙ f.heard;
  log = subst (AppendedFront a.log c.log) (three-parts at len bytes)
      (Front-before a.log c.log (take at bytes ++ take len (drop at bytes)) (drop len (drop at bytes))
      (Front-behind a.log b.log c.log (take at bytes) (take len (drop at bytes)) f.log g.log));
  ends = g.ends ∙ f.ends;
  rose = omega (arith, f.kept.later, g.rose);
}

pub ruleset port_sends = (Sends-nothing, Sends-more, SendFails-more)

-- One frame, head and payload.
pub Sends-frame : (a b c : PortTold) (payload head_bytes : List ℕ) → head_bytes ≡ to_be_bytes w64 (length payload) → Sends a b head_bytes → Sends b c payload → Sends a c (frame payload)
Sends-frame a b c payload head_bytes e f g = subst (λ t. Sends a c (t ++ payload)) e (Sends-append a b c head_bytes payload f g)

pub SendFails-head : (a b : PortTold) (payload head_bytes : List ℕ) → head_bytes ≡ to_be_bytes w64 (length payload) → SendFails a b head_bytes → SendFails a b (frame payload)
SendFails-head a b payload head_bytes e f = record {
  down = f.down;
  left = LeftBy-head a.faults b.faults a.peer b.peer payload head_bytes e f.left;
  kept = f.kept;
  heard = f.heard;
  log = subst (λ t. AppendedFront a.log b.log (t ++ payload)) e (Front-before a.log b.log head_bytes payload f.log);
  ends = f.ends;
  rose = f.rose;
}

pub SendFails-payload : (a b c : PortTold) (payload head_bytes : List ℕ) → head_bytes ≡ to_be_bytes w64 (length payload) → Sends a b head_bytes → SendFails b c payload → SendFails a c (frame payload)
SendFails-payload a b c payload head_bytes e f g = record {
  down = g.down;
  left = LeftBy-payload a.faults b.faults c.faults f.kept.later g.kept.later a.peer b.peer c.peer payload head_bytes e f.sent g.left;
  kept = Kept-trans a b c f.kept g.kept;
  heard = g.heard ∙ f.heard;
  log = subst (λ t. AppendedFront a.log c.log (t ++ payload)) e (Front-behind a.log b.log c.log head_bytes payload f.log g.log);
  ends = g.ends ∙ f.ends;
  rose = omega (arith, f.kept.later, g.rose);
}

pub ruleset port_command = (Sends-frame, SendFails-head, SendFails-payload, MaySend-head, MaySend-payload)

pub ruleset port_data = (Sends-frame, SendFails-head, SendFails-payload, MaySend-chunk-head, MaySend-chunk)

-- Hearing.
pub Hears-nothing : (a : PortTold) (n : ℕ) → IsTrue a.up → Gives a.peer n → Hears a a []
Hears-nothing a n up g = record { up = up; got = Heard-nothing a.peer n g; kept = Kept-same a; heard = Appended-nothing a.heard; log = refl }

-- the loop that receives into a buffer from `at` on
pub Hears-more : (a b c : PortTold) (buf new : List ℕ) (at n k : ℕ) → at ≤ length buf → n ≤ length new → Hears a b (take at buf) → Hears b c (take n new) → Hears a c (take (at + n) (put_mid at k buf new))
Hears-more a b c buf new at n k h m f g = record {
  up = g.up;
  got = Heard-more a.peer b.peer c.peer buf new at n k h m f.got g.got;
  kept = Kept-trans a b c f.kept g.kept;
  heard = Appended-more a.heard b.heard c.heard buf new at n k h m f.heard g.heard;
  log = g.log ∙ f.log;
}

-- a part was heard before a call failed
pub Misses-drop : (a b c : PortTold) (buf : List ℕ) (at most : ℕ) → at < most → Hears a b (take at buf) → Drops b c → Misses a c most
Misses-drop a b c buf at most h f g = record {
  stays = Stays-hung a.peer c.peer (HungUp-more a.peer b.peer c.peer (take at buf) f.got g.left);
  kept = Kept-trans a b c f.kept g.kept;
  part = record { part = take at buf; short = omega (arith, h, length-take at buf); bytes = subst (λ x. Appended a.heard x (take at buf)) (sym g.heard) f.heard };
  log = g.log ∙ f.log;
}

-- and before the connection's end
pub Misses-end : (a b c : PortTold) (buf new : List ℕ) (at n most : ℕ) → at < most → n ≡ 0 → Hears a b (take at buf) → Hears b c (take n new) → Misses a c most
Misses-end a b c buf new at n most h e f g = record {
  stays = Stays-trans a.peer b.peer c.peer (Stays-heard a.peer b.peer (take at buf) f.got) (Stays-heard b.peer c.peer (take n new) g.got);
  kept = Kept-trans a b c f.kept g.kept;
  part = record {
    part = take at buf;
    short = omega (arith, h, length-take at buf);
    bytes = subst (Appended a.heard c.heard) (append-nil (take at buf))
        (Appended-append a.heard b.heard c.heard (take at buf) [] f.heard (subst (λ k. Appended b.heard c.heard (take k new)) e g.heard));
  };
  log = g.log ∙ f.log;
}

-- where the connection ended before all that was to come none is told
pub untold-at-end : (a b c : PortTold) (bytes : List ℕ) (n : ℕ) → Hears a b bytes → Gives b.peer n → 0 < n → Ends b c → a.peer ≡ None
untold-at-end a b c bytes n f g h e = heard-none a.peer b.peer bytes f.got (not-at-end b.peer n g h e.at_end)

pub ruleset port_hears = (Hears-nothing, Hears-more, Misses-drop, Misses-end, untold-at-end)

-- One reply, head and text.
pub HearsHead-from : (a b : PortTold) (head_bytes : List ℕ) (n : ℕ) → Next a.peer → Hears a b head_bytes → IsHead n head_bytes → n < 2 ^ 64 → b.ends ≡ a.ends → HearsHead a b n
HearsHead-from a b head_bytes n t f e small u = record {
  up = f.up;
  got = Heard-head a.peer b.peer head_bytes n f.got e;
  sized = Sized-from a.peer b.peer head_bytes n t f.got e small;
  kept = f.kept;
  heard = Appended-head a.heard b.heard head_bytes n f.heard e;
  log = f.log;
  unended = u;
}

pub ruleset port_head = (HearsHead-from)

pub HearsReply-from : (a b c : PortTold) (text behind : List ℕ) (n : ℕ) → HearsHead a b n → Hears b c text → length text ≡ n → c.ends ≡ b.ends → HearsReply a c (take n (text ++ behind))
HearsReply-from a b c text behind n f g e u = record {
  up = g.up;
  got = Heard-text a.peer b.peer c.peer text behind n f.got g.got e;
  kept = Kept-trans a b c f.kept g.kept;
  heard = Appended-text a.heard b.heard c.heard text behind n f.heard g.heard e;
  log = g.log ∙ f.log;
  unended = u ∙ f.unended;
}

pub HearsReply-read : (a b : PortTold) (text : List ℕ) (r : Reply) → HearsReply a b text → reply_of text ≡ Some r → HearsReply a b (reply_bytes r)
HearsReply-read a b text r f e = record {
  up = f.up;
  got = Heard-read a.peer b.peer text r f.got e;
  kept = f.kept;
  heard = Appended-read a.heard b.heard text r f.heard e;
  log = f.log;
  unended = f.unended;
}
