-- The first bytes of a list, with zeros behind its end.
use Rattle.std.proofs.Common.{◌≡◌, ℕ, zero, suc, ◌+◌, ◌-◌, ◌≤◌, min, List, [], ◌∷◌, ◌++◌, length, take, drop, replicate, Option, Some, None, refl, sym, ap, ◌∙◌, arith, ⊎_elim, length-drop, length-append}
use Rattle.std.specs.Prelude.{IfSome}
use Rattle.std.proofs.lemmas.Bool.Decides.{leb_tells}
use Rattle.std.proofs.lemmas.List.{append-nil, take_at, take-append-drop, length-replicate, take_all, take_min, drop_all, drop-drop}
use Rattle.std.proofs.Math.Seq.{drop-nil}
use Rattle.std.proofs.lemmas.Slice.{take-put_mid, drop-put_mid}
use borrow.Rule.Slice.PartMut.{put_mid}
use Rattle.sparse_image.specs.Outside.{HasLength, IsRead}
use Rattle.sparse_image.specs.Puts.{padded, padded_part}

pub padded-length : (n : ℕ) (bytes : List ℕ) → length (padded n bytes) ≡ n
unfolding padded
padded-length zero bytes = refl
padded-length (suc n) [] = omega (arith, padded-length n [])
padded-length (suc n) (byte ∷ bytes) = omega (arith, padded-length n bytes)

pub padded-none : (n : ℕ) → padded n [] ≡ replicate n 0
unfolding padded
padded-none zero = refl
padded-none (suc n) = ap (λ (xs : List ℕ). 0 ∷ xs) (padded-none n)

-- no bytes
pub padded-zero : (bytes : List ℕ) → padded 0 bytes ≡ []
unfolding padded
padded-zero bytes = refl

none-less : (n : ℕ) → 0 ≡ 0 - n
none-less n = omega arith

all-left : (n : ℕ) → n ≡ n - 0
all-left n = omega arith

next-sum : (a b : ℕ) → suc a + b ≡ suc (a + b)
next-sum a b = omega arith

-- as many of them as there are, and zeros
pub padded-split : (n : ℕ) (bytes : List ℕ) → padded n bytes ≡ take n bytes ++ replicate (n - length bytes) 0
unfolding padded
padded-split zero bytes = ap (λ (k : ℕ). replicate k 0) (none-less (length bytes))
padded-split (suc n) [] = ap (λ (xs : List ℕ). 0 ∷ xs) (padded-none n) ∙ ap (λ (k : ℕ). replicate k 0) (all-left (suc n))
padded-split (suc n) (byte ∷ bytes) =
    let e : n - length bytes ≡ suc n - suc (length bytes) = omega arith in
    ap (λ (xs : List ℕ). byte ∷ xs) (padded-split n bytes ∙ ap (λ (k : ℕ). take n bytes ++ replicate k 0) e)

pub padded-add : (a b : ℕ) (bytes : List ℕ) → padded (a + b) bytes ≡ padded a bytes ++ padded b (drop a bytes)
unfolding padded
padded-add zero b bytes = ap (λ (n : ℕ). padded n bytes) (omega arith)
padded-add (suc a) b [] =
    ap (λ (n : ℕ). padded n []) (next-sum a b) ∙ ap (λ (xs : List ℕ). 0 ∷ xs) (padded-add a b [] ∙ ap (λ (xs : List ℕ). padded a [] ++ padded b xs) (drop-nil a))
padded-add (suc a) b (byte ∷ bytes) = ap (λ (n : ℕ). padded n (byte ∷ bytes)) (next-sum a b) ∙ ap (λ (xs : List ℕ). byte ∷ xs) (padded-add a b bytes)

-- bytes of a list with zeros behind it are those of the list and zeros
pub padded-more : (n z : ℕ) (bytes : List ℕ) → n ≤ length bytes + z → padded n bytes ≡ take n (bytes ++ replicate z 0)
unfolding padded
padded-more zero z bytes l = refl
padded-more (suc n) z (byte ∷ bytes) l = ap (λ (xs : List ℕ). byte ∷ xs) (padded-more n z bytes (omega arith))
padded-more (suc n) zero [] l = absurd (omega arith)
padded-more (suc n) (suc z) [] l = ap (λ (xs : List ℕ). 0 ∷ xs) (padded-more n z [] (omega arith))

pub padded-behind : (n place z : ℕ) (file : List ℕ) → place + n ≤ length file + z → padded n (drop place file) ≡ take n (drop place (file ++ replicate z 0))
padded-behind n zero z file l = padded-more n z file (omega arith)
padded-behind n (suc place) z (byte ∷ file) l = padded-behind n place z file (omega arith)
padded-behind n (suc place) zero [] l = absurd (omega arith)
padded-behind n (suc place) (suc z) [] l = ap (λ (xs : List ℕ). padded n xs) (sym (drop-nil place)) ∙ padded-behind n place z [] (omega arith)

-- a part that is read in two
pub part-add : (at a b : ℕ) (file : List ℕ) → padded_part at (a + b) file ≡ padded_part at a file ++ padded_part (at + a) b file
part-add at a b file = padded-add a b (drop at file) ∙ ap (λ (xs : List ℕ). padded a (drop at file) ++ padded b xs) (drop-drop a at file)

-- what was read of a source's bytes, and zeros behind them
drop-least : (at len : ℕ) (file : List ℕ) → length file ≡ len → drop (min at len) file ≡ drop at file
drop-least at len file e =
    ⊎_elim
    (λ k. ap (λ (n : ℕ). drop n file) (omega (arith, k.1)))
    (λ k. drop_all (min at len) file (omega (arith, k.1)) ∙ sym (drop_all at file (omega (arith, k.1))))
    (leb_tells at len)

pub padded-read : (o : Option (List ℕ)) (len at place have n : ℕ) (front : List ℕ) → HasLength o len → place ≡ min at len → have ≡ min (len - place) n → length front ≡ have → IsRead o place front have →
    IfSome o (λ file. front ++ replicate (n - have) 0 ≡ padded_part at n file)
padded-read None len at place have n front l p e f r = tt
padded-read (Some file) len at place have n front l p e f r =
    let d : drop place file ≡ drop at file = ap (λ (x : ℕ). drop x file) p ∙ drop-least at len file l in
    let m : length (drop at file) ≡ len - place = ap length (sym d) ∙ length-drop place file ∙ ap (λ (x : ℕ). x - place) l in
    let k : have ≡ min n (length (drop at file)) = omega (arith, m) in
    let own : front ≡ take n (drop at file) = sym (take_all have front (omega arith)) ∙ r ∙ ap (λ (xs : List ℕ). take have xs) d ∙ ap (λ (x : ℕ). take x (drop at file)) k ∙ take_min n (drop at file) in
    let z : n - have ≡ n - length (drop at file) = omega (arith, m) in
    ap (λ (xs : List ℕ). xs ++ replicate (n - have) 0) own ∙ ap (λ (x : ℕ). take n (drop at file) ++ replicate x 0) z ∙ sym (padded-split n (drop at file))

-- a buffer of so many bytes whose front was read, and the rest cleared
pub filled : (have n k : ℕ) (front buf zeros : List ℕ) → length front ≡ have → length buf ≡ n → have ≤ n → k ≡ n - have → zeros ≡ replicate (n - have) 0 → put_mid have k (front ++ drop have buf) zeros ≡ front ++ replicate (n - have) 0
filled have n k front buf zeros f b h j z =
    let xs = front ++ drop have buf in
    let now = put_mid have k xs zeros in
    let len : length zeros ≡ n - have = ap length z ∙ length-replicate (n - have) 0 in
    let all : length xs ≡ n = length-append front (drop have buf) ∙ omega (arith, length-drop have buf, f, b, h) in
    let first : take n now ≡ front ++ zeros = take-put_mid have k xs zeros n (omega (arith, len, h)) (omega (arith, all, h)) ∙ ap (λ (ys : List ℕ). ys ++ zeros) (take_at front (drop have buf) have f) in
    let last : drop n now ≡ [] = drop-put_mid have k xs zeros n (omega (arith, j, h)) (omega (arith, all, h)) (len ∙ sym j) ∙ drop_all n xs (omega (arith, all)) in
    sym (take-append-drop n now) ∙ ap (λ (ys : List ℕ). ys ++ drop n now) first ∙ ap (λ (ys : List ℕ). (front ++ zeros) ++ ys) last ∙ append-nil (front ++ zeros) ∙ ap (λ (ys : List ℕ). front ++ ys) z

-- what is told of a value is told of an equal one
pub told-same : {X : Type 0} (o : Option (List ℕ)) (f : List ℕ → X) (a b : X) → a ≡ b → IfSome o (λ file. b ≡ f file) → IfSome o (λ file. a ≡ f file)
told-same None f a b e h = tt
told-same (Some file) f a b e h = e ∙ h

pub ruleset paddings = (padded-read)
