-- Structures with a digest in their midst: their parts, and how they are known by them.
use Rattle.std.proofs.Common.{◌≡◌, ℕ, ◌+◌, List, ◌++◌, length, take, drop, refl, sym, ap, ◌∙◌, arith, append_assoc, length-append}
use Rattle.std.proofs.lemmas.List.{drop-drop, take_at, drop_at}
use Rattle.std.proofs.Math.Seq.{take-add}
use Rattle.sha2.proofs.Facts256.{length-sha256}
use Rattle.super_meta.specs.Sealed.{digest_around, sealed}

-- two fields that follow each other
pub part : (n m total k j : ℕ) (bytes : List ℕ) → n + m ≡ total → k + n ≡ j → take total (drop k bytes) ≡ take n (drop k bytes) ++ take m (drop j bytes)
part n m total k j bytes e f =
    ap (λ t. take t (drop k bytes)) (sym e) ∙ (take-add n m (drop k bytes) ∙ ap (λ t. take n (drop k bytes) ++ take m t) (drop-drop n k bytes ∙ ap (λ t. drop t bytes) f))

length-digest : (front back : List ℕ) → length (digest_around front back) ≡ 32
unfolding digest_around
length-digest front back = length-sha256 _

-- bytes whose digest stands between their parts are sealed
pub seals : (n m k total : ℕ) (bytes front back : List ℕ) → n + 32 ≡ k → k + m ≡ total →
    take n bytes ≡ front → take m (drop k bytes) ≡ back → take 32 (drop n bytes) ≡ digest_around front back → take total bytes ≡ sealed front back
seals n m k total bytes front back e f a b d =
    let outer : take total bytes ≡ take n bytes ++ take (32 + m) (drop n bytes) = part n (32 + m) total 0 n bytes (omega arith) (omega arith) in
    let inner : take (32 + m) (drop n bytes) ≡ take 32 (drop n bytes) ++ take m (drop k bytes) = part 32 m (32 + m) n k bytes refl e in
    outer ∙ (ap (λ t. take n bytes ++ t) (inner ∙ (ap (λ t. t ++ take m (drop k bytes)) d ∙ ap (λ t. digest_around front back ++ t) b)) ∙ ap (λ t. t ++ (digest_around front back ++ back)) a)

regroup : (front digest back rest : List ℕ) → (front ++ (digest ++ back)) ++ rest ≡ front ++ (digest ++ (back ++ rest))
regroup front digest back rest = append_assoc front (digest ++ back) rest ∙ ap (λ t. front ++ t) (append_assoc digest back rest)

-- the parts of a structure at the front of bytes
pub seal-front : (n : ℕ) (bytes front back rest : List ℕ) → length front ≡ n → bytes ≡ sealed front back ++ rest → take n bytes ≡ front
seal-front n bytes front back rest l e = ap (take n) (e ∙ regroup front (digest_around front back) back rest) ∙ take_at front (digest_around front back ++ (back ++ rest)) n l

behind-front : (n : ℕ) (bytes front back rest : List ℕ) → length front ≡ n → bytes ≡ sealed front back ++ rest → drop n bytes ≡ digest_around front back ++ (back ++ rest)
behind-front n bytes front back rest l e = ap (drop n) (e ∙ regroup front (digest_around front back) back rest) ∙ drop_at front (digest_around front back ++ (back ++ rest)) n l

pub seal-digest : (n : ℕ) (bytes front back rest : List ℕ) → length front ≡ n → bytes ≡ sealed front back ++ rest → take 32 (drop n bytes) ≡ digest_around front back
seal-digest n bytes front back rest l e = ap (take 32) (behind-front n bytes front back rest l e) ∙ take_at (digest_around front back) (back ++ rest) 32 (length-digest front back)

pub seal-behind : (n k : ℕ) (bytes front back rest : List ℕ) → length front ≡ n → n + 32 ≡ k → bytes ≡ sealed front back ++ rest → drop k bytes ≡ back ++ rest
seal-behind n k bytes front back rest l f e =
    ap (λ t. drop t bytes) (sym f) ∙ (sym (drop-drop 32 n bytes) ∙ (ap (drop 32) (behind-front n bytes front back rest l e) ∙ drop_at (digest_around front back) (back ++ rest) 32 (length-digest front back)))

pub seal-back : (n k m : ℕ) (bytes front back rest : List ℕ) → length front ≡ n → n + 32 ≡ k → length back ≡ m → bytes ≡ sealed front back ++ rest → take m (drop k bytes) ≡ back
seal-back n k m bytes front back rest l f r e = ap (take m) (seal-behind n k bytes front back rest l f e) ∙ take_at back rest m r

pub length-sealed : (front back : List ℕ) → length (sealed front back) ≡ length front + 32 + length back
length-sealed front back = omega (arith, length-append front (digest_around front back ++ back), length-append (digest_around front back) back, length-digest front back)
