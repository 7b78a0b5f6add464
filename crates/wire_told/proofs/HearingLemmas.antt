-- Replies, heard one after another.
use Rattle.std.proofs.Common.{◌≡◌, ℕ, suc, ◌+◌, ◌≤◌, Bool, true, false, cond, List, [], ◌∷◌, ◌++◌, length, Some, refl, sym, ap, ◌∙◌, arith, append_assoc, length-append}
use Rattle.std.specs.Prelude.{◌==◌, nat_le, codes}
use Rattle.std.specs.List.{list_all}
use Rattle.std.proofs.lemmas.Bool.Decides.{nat_tests}
use Rattle.fb_frame.specs.Framing.{frame}
use Rattle.fb_message.specs.declared.reply.Reply.{Reply}
use Rattle.fb_message.specs.declared.reply.Reply.TheVariants.{Okay, Fail, Info, Text, Load}
use Rattle.fb_message.specs.ReplyText.{reply_bytes, reply_fits}
use Rattle.fb_message.proofs.Words.{only-yes}
use Rattle.fb_message.proofs.Replies.{one_reply}
use Rattle.dev_model.proofs.Valid.{both}
use Rattle.wire_model.specs.Wire.{Wire}
use Rattle.wire_told.specs.Answered.{is_line, ends_well, reply_frames, IsListening, IsNext}
use Rattle.wire_told.proofs.AnswerLemmas.{frame-front}

-- the bytes of a reply are 4 to 256
most : (m n : ℕ) → nat_le m n ≡ true → m ≤ n
most m n e = let h : m ≤ n = grind (arith, nat_tests) in h

abbrev pub IsReplySized : List ℕ → Type 0
IsReplySized bytes = (4 ≤ length bytes) × (length bytes ≤ 256)

pub reply-sized : (r : Reply) → reply_fits r ≡ true → IsReplySized (reply_bytes r)
reply-sized (Okay text) f = let h = most (length text) 252 f in (omega (arith, length-append (codes "OKAY") text), omega (arith, h, length-append (codes "OKAY") text))
reply-sized (Fail text) f = let h = most (length text) 252 f in (omega (arith, length-append (codes "FAIL") text), omega (arith, h, length-append (codes "FAIL") text))
reply-sized (Info text) f = let h = most (length text) 252 f in (omega (arith, length-append (codes "INFO") text), omega (arith, h, length-append (codes "INFO") text))
reply-sized (Text text) f = let h = most (length text) 252 f in (omega (arith, length-append (codes "TEXT") text), omega (arith, h, length-append (codes "TEXT") text))
reply-sized (Load count) f = (omega arith, omega arith)

-- no two replies have the same bytes
pub same-reply : (r s : Reply) → reply_fits r ≡ true → reply_fits s ≡ true → reply_bytes r ≡ reply_bytes s → r ≡ s
same-reply r s f g e = one_reply r s (reply_bytes s) (only-yes (reply_fits r) (reply_bytes r) f ∙ ap Some e) (only-yes (reply_fits s) (reply_bytes s) g)

-- so two lists that begin with the frame of a reply begin with the same one
pub same-front : (r s : Reply) (x y : List ℕ) → reply_fits r ≡ true → reply_fits s ≡ true → frame (reply_bytes r) ++ x ≡ frame (reply_bytes s) ++ y → (r ≡ s) × (x ≡ y)
same-front r s x y f g e =
    let m = reply-sized r f in
    let n = reply-sized s g in
    let h = frame-front (reply_bytes r) (reply_bytes s) x y (omega (arith, m.1)) (omega (arith, n.1)) e in
    (same-reply r s f g h.0, h.1)

frames-cons : (r : Reply) (rs : List Reply) (x : List ℕ) → reply_frames (r ∷ rs) ++ x ≡ frame (reply_bytes r) ++ (reply_frames rs ++ x)
frames-cons r rs x = append_assoc (frame (reply_bytes r)) (reply_frames rs) x

empty : (rs : List Reply) → (length rs == 0) ≡ true → rs ≡ []
empty [] e = refl
empty (r ∷ rs) e = absurd (let h : suc (length rs) ≡ 0 = grind (arith, nat_tests) in omega (arith, h))

-- what follows a line, and what follows the end
ends-line : (r : Reply) (rs : List Reply) → is_line r ≡ true → ends_well (r ∷ rs) ≡ true → ends_well rs ≡ true
ends-line r rs l e = sym (ap (λ b. cond b (ends_well rs) (length rs == 0)) l) ∙ e

ends-none : (r : Reply) (rs : List Reply) → is_line r ≡ false → ends_well (r ∷ rs) ≡ true → rs ≡ []
ends-none r rs l e = empty rs (sym (ap (λ b. cond b (ends_well rs) (length rs == 0)) l) ∙ e)

cons-same : (r s : Reply) (rs ss : List Reply) → r ≡ s → rs ≡ ss → r ∷ rs ≡ s ∷ ss
cons-same r s rs ss e f = λ i. e i ∷ f i

-- two lists of replies that end well are the same where their frames begin a list
pub same-replies : (rs ss : List Reply) (x y : List ℕ) → ends_well rs ≡ true → ends_well ss ≡ true → list_all reply_fits rs ≡ true → list_all reply_fits ss ≡ true → reply_frames rs ++ x ≡ reply_frames ss ++ y → (rs ≡ ss) × (x ≡ y)
same-replies [] ss x y a b f g e = absurd cc
same-replies (r ∷ rs) [] x y a b f g e = absurd cc
same-replies (r ∷ rs) (s ∷ ss) x y a b f g e =
    let fr = both (reply_fits r) (list_all reply_fits rs) f in
    let gs = both (reply_fits s) (list_all reply_fits ss) g in
    let h = same-front r s (reply_frames rs ++ x) (reply_frames ss ++ y) fr.0 gs.0 (sym (frames-cons r rs x) ∙ (e ∙ frames-cons s ss y)) in
    go (is_line r) refl h.0 fr.1 gs.1 h.1 (λ c d k. same-replies rs ss x y c d fr.1 gs.1 k)
  where
    go : (l : Bool) → is_line r ≡ l → r ≡ s → list_all reply_fits rs ≡ true → list_all reply_fits ss ≡ true → reply_frames rs ++ x ≡ reply_frames ss ++ y →
        (ends_well rs ≡ true → ends_well ss ≡ true → reply_frames rs ++ x ≡ reply_frames ss ++ y → (rs ≡ ss) × (x ≡ y)) → (r ∷ rs ≡ s ∷ ss) × (x ≡ y)
    go true l h p q k ih =
        let t = ih (ends-line r rs l a) (ends-line s ss (sym (ap is_line h) ∙ l) b) k in
        (cons-same r s rs ss h t.0, t.1)
    go false l h p q k ih =
        let n = ends-none r rs l a in
        let m = ends-none s ss (sym (ap is_line h) ∙ l) b in
        (cons-same r s rs ss h (n ∙ sym m), sym (ap (λ t. reply_frames t ++ x) n) ∙ (k ∙ ap (λ t. reply_frames t ++ y) m))

-- a reply is next
next-of : (n : ℕ) (more : List Reply) (w : Wire) (extra : List ℕ) → w.out ≡ reply_frames more ++ extra → ends_well more ≡ true → list_all reply_fits more ≡ true → IsNext w
next-of n [] w extra d e f = absurd cc
next-of n (r ∷ rs) w extra d e f = record {
  reply = r;
  more = reply_frames rs ++ extra;
  due = d ∙ frames-cons r rs extra;
  fits = (both (reply_fits r) (list_all reply_fits rs) f).0;
}

pub listening-next : (n : ℕ) (w : Wire) → IsListening n w → IsNext w
listening-next n w l = next-of n l.more w l.extra l.due l.ends l.fits

-- after a line others are left
line-heard : (n : ℕ) (more : List Reply) (extra : List ℕ) (r : Reply) (w v : Wire) → w.out ≡ reply_frames more ++ extra → ends_well more ≡ true → list_all reply_fits more ≡ true → n + length more ≤ 10000 →
    reply_fits r ≡ true → is_line r ≡ true → w ≡ record v { out = frame (reply_bytes r) ++ v.out } → IsListening (n + 1) v
line-heard n [] extra r w v d e f k g l h = absurd cc
line-heard n (s ∷ ss) extra r w v d e f k g l h =
    let gs = both (reply_fits s) (list_all reply_fits ss) f in
    let t = same-front r s v.out (reply_frames ss ++ extra) g gs.0 (sym (ap (λ (x : Wire). x.out) h) ∙ (d ∙ frames-cons s ss extra)) in
    record {
      more = ss;
      extra = extra;
      due = t.1;
      ends = ends-line s ss (sym (ap is_line t.0) ∙ l) e;
      fits = gs.1;
      few = omega (arith, k);
    }

pub listening-more : (n : ℕ) (r : Reply) (w v : Wire) → IsListening n w → reply_fits r ≡ true → is_line r ≡ true → w ≡ record v { out = frame (reply_bytes r) ++ v.out } → IsListening (n + 1) v
listening-more n r w v l f i h = line-heard n l.more l.extra r w v l.due l.ends l.fits l.few f i h

none-left : (more : List Reply) → 10000 + length more ≤ 10000 → ends_well more ≡ true → ⊥
none-left [] k e = cc
none-left (r ∷ rs) k e = absurd (omega (arith, k))

-- no more than 9,999 lines come
pub listening-end : (w : Wire) → IsListening 10000 w → ⊥
listening-end w l = none-left l.more l.few l.ends
