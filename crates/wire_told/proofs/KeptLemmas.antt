-- What calls keep, one after the other.
use Rattle.std.proofs.Common.{◌≡◌, ℕ, ◌+◌, ◌≤◌, List, [], ◌++◌, length, take, Option, Some, None, sym, ap, ◌∙◌, subst, append_assoc, append-nil}
use Rattle.std.proofs.Math.Seq.{take-append_seam}
use Rattle.fb_frame.specs.Framing.{head, frame}
use borrow.Rule.Slice.PartMut.{put_mid}
use Rattle.wire_told.specs.Places.{Appended, AppendedHead, AppendedReply}
use Rattle.wire_told.specs.Told.{IsHead}
use Rattle.wire_told.proofs.ToldLemmas.{take-write}

pub Appended-nothing : (a : Option (List ℕ)) → Appended a a []
Appended-nothing None = tt
Appended-nothing (Some a) = sym (append-nil a)

pub Appended-append : (a b c : Option (List ℕ)) (x y : List ℕ) → Appended a b x → Appended b c y → Appended a c (x ++ y)
Appended-append None None None x y p q = tt
Appended-append None None (Some c) x y p q = q
Appended-append None (Some b) c x y p q = absurd p
Appended-append (Some a) None c x y p q = absurd p
Appended-append (Some a) (Some b) None x y p q = q
Appended-append (Some a) (Some b) (Some c) x y p q = q ∙ (ap (λ t. t ++ y) p ∙ append_assoc a x y)

pub Appended-more : (a b c : Option (List ℕ)) (buf new : List ℕ) (at n k : ℕ) → at ≤ length buf → n ≤ length new → Appended a b (take at buf) → Appended b c (take n new) → Appended a c (take (at + n) (put_mid at k buf new))
Appended-more a b c buf new at n k h m f g =
    subst (Appended a c) (sym (take-write buf new at n k h m)) (Appended-append a b c (take at buf) (take n new) f g)

pub Appended-head : (a b : Option (List ℕ)) (head_bytes : List ℕ) (n : ℕ) → Appended a b head_bytes → IsHead n head_bytes → AppendedHead a b n
unfolding AppendedHead IsHead
Appended-head a b head_bytes n f e = subst (Appended a b) e f

pub Appended-text : (a b c : Option (List ℕ)) (text behind : List ℕ) (n : ℕ) → AppendedHead a b n → Appended b c text → length text ≡ n → AppendedReply a c (take n (text ++ behind))
unfolding AppendedHead AppendedReply
Appended-text a b c text behind n f g e =
    let whole : take n (text ++ behind) ≡ text = ap (λ k. take k (text ++ behind)) (sym e) ∙ take-append_seam text behind in
    subst (λ t. Appended a c (frame t)) (sym whole) (Appended-append a b c (head (length text)) text (subst (λ k. Appended a b (head k)) (sym e) f) g)
