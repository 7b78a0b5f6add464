-- Reading from a source in parts.
use Rattle.std.proofs.Common.{◌≡◌, ℕ, ◌+◌, ◌≤◌, List, ◌++◌, length, take, drop, Option, Some, None, refl, sym, ap, ◌∙◌}
use Rattle.std.proofs.lemmas.List.{take-append-le, drop-drop, length-take-le}
use Rattle.std.proofs.Math.Seq.{take-add, take-append-add}
use borrow.Rule.Slice.PartMut.{put_mid, post_of}
use Rattle.sparse_image.specs.Outside.{IsRead}

pub take-write : (buf new : List ℕ) (at n k : ℕ) → at ≤ length buf → n ≤ length new → take (at + n) (put_mid at k buf new) ≡ take at buf ++ take n new
take-write buf new at n k h i =
    let l : length (take at buf) ≡ at = length-take-le at buf h in
    ap (λ (t : ℕ). take (t + n) (take at buf ++ (new ++ post_of at k buf))) (sym l)
    ∙ take-append-add (take at buf) (new ++ post_of at k buf) n
    ∙ ap (λ (t : List ℕ). take at buf ++ t) (take-append-le n new (post_of at k buf) i)

pub IsRead-more : (o : Option (List ℕ)) (place at n k : ℕ) (buf new : List ℕ) → at ≤ length buf → n ≤ length new → IsRead o place buf at → IsRead o (place + at) new n → IsRead o place (put_mid at k buf new) (at + n)
IsRead-more (Some bytes) place at n k buf new h i p q =
    take-write buf new at n k h i ∙ ap (λ (xs : List ℕ). xs ++ take n new) p ∙ ap (λ (xs : List ℕ). take at (drop place bytes) ++ xs) (q ∙ ap (take n) (sym (drop-drop at place bytes))) ∙ sym (take-add at n (drop place bytes))
IsRead-more None place at n k buf new h i p q = tt

pub IsRead-none : (o : Option (List ℕ)) (place : ℕ) (buf : List ℕ) → IsRead o place buf 0
IsRead-none (Some bytes) place buf = refl
IsRead-none None place buf = tt

pub ruleset reads = (IsRead-more, IsRead-none)
