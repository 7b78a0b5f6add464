-- Blanks at the ends of a text, and the byte at which it is cut.
use Rattle.std.proofs.Common.{◌≡◌, ℕ, ◌+◌, ◌-◌, Bool, true, false, List, [], ◌∷◌, ◌++◌, length, take, drop, refl, sym, ◌∙◌, ap, subst, arith, Some, None, Option, cond, suc, append_assoc, append-nil, length-append}
use Rattle.std.specs.Prelude.{not, nat_lt, position, reverse}
use Rattle.std.specs.List.{list_all, prefix_len, position_or_len}
use Rattle.std.proofs.lemmas.List.{reverse-append, reverse-reverse, length-reverse, take-append-le, take_all}
use Rattle.std.proofs.lemmas.Bool.Decides.{nat_tests}
use Rattle.product_info.specs.Blanks.{is_blank, trim_front, trim_end, trimmed, cut}
use Rattle.product_info.specs.Grammar.{AreBlanks, IsFlush, IsPadded}
use Rattle.product_info.proofs.WordLemmas.{both, and-true, not-true}

pub all-append : (p : ℕ → Bool) (xs ys : List ℕ) → list_all p xs ≡ true → list_all p ys ≡ true → list_all p (xs ++ ys) ≡ true
all-append p [] ys h g = g
all-append p (x ∷ xs) ys h g =
    let q = both (p x) (list_all p xs) h in and-true (p x) (list_all p (xs ++ ys)) q.0 (all-append p xs ys q.1 g)

pub all-imply : (p q : ℕ → Bool) → ((b : ℕ) → p b ≡ true → q b ≡ true) → (xs : List ℕ) → list_all p xs ≡ true → list_all q xs ≡ true
all-imply p q f [] h = refl
all-imply p q f (x ∷ xs) h =
    let r = both (p x) (list_all p xs) h in and-true (q x) (list_all q xs) (f x r.0) (all-imply p q f xs r.1)

all-onto : (p : ℕ → Bool) (xs : List ℕ) (x : ℕ) → list_all p xs ≡ true → p x ≡ true → list_all p (xs ++ x ∷ []) ≡ true
all-onto p xs x h e = all-append p xs (x ∷ []) h (and-true (p x) true e refl)

pub all-reverse : (p : ℕ → Bool) (xs : List ℕ) → list_all p xs ≡ true → list_all p (reverse xs) ≡ true
all-reverse p [] h = refl
all-reverse p (x ∷ xs) h =
    let q = both (p x) (list_all p xs) h in
    subst (λ t. list_all p t ≡ true) (sym (reverse-append (x ∷ []) xs)) (all-onto p (reverse xs) x (all-reverse p xs q.1) q.0)

-- a text without blanks
pub flush-all : (xs : List ℕ) → list_all (λ b. not (is_blank b)) xs ≡ true → IsFlush xs
flush-all [] h = tt
flush-all (x ∷ xs) h = not-true (is_blank x) (both (not (is_blank x)) (list_all (λ b. not (is_blank b)) xs) h).0

trim-yes : (b : ℕ) (rest : List ℕ) → is_blank b ≡ true → trim_front (b ∷ rest) ≡ trim_front rest
trim-yes b rest h =
    ap (λ t. drop (cond t (1 + prefix_len is_blank rest) 0) (b ∷ rest)) h ∙ ap (λ n. drop n (b ∷ rest)) one
  where
    one : 1 + prefix_len is_blank rest ≡ suc (prefix_len is_blank rest)
    one = omega arith

trim-no : (b : ℕ) (rest : List ℕ) → is_blank b ≡ false → trim_front (b ∷ rest) ≡ b ∷ rest
trim-no b rest h = ap (λ t. drop (cond t (1 + prefix_len is_blank rest) 0) (b ∷ rest)) h

trim-flush : (text : List ℕ) → IsFlush text → trim_front text ≡ text
trim-flush [] h = refl
trim-flush (b ∷ rest) h = trim-no b rest h

pub trim-blanks : (front text : List ℕ) → AreBlanks front → trim_front (front ++ text) ≡ trim_front text
trim-blanks [] text h = refl
trim-blanks (b ∷ front) text h =
    let p = both (is_blank b) (list_all is_blank front) h in trim-yes b (front ++ text) p.0 ∙ trim-blanks front text p.1

-- The text is blanks, and then what is left without them.
record Fronted (text left : List ℕ) : Type 0 where
  front : List ℕ
  whole : text ≡ front ++ left
  blanks : AreBlanks front
  flush : IsFlush left

fronted : (text : List ℕ) → Fronted text (trim_front text)
fronted [] = record { front = []; whole = refl; blanks = refl; flush = tt }
fronted (b ∷ rest) = by (fronted rest) (is_blank b) refl where
  by : Fronted rest (trim_front rest) → (t : Bool) → is_blank b ≡ t → Fronted (b ∷ rest) (trim_front (b ∷ rest))
  by h true e = record {
    front = b ∷ h.front;
    whole = ap (λ t. b ∷ t) h.whole ∙ ap (λ t. b ∷ (h.front ++ t)) (sym (trim-yes b rest e));
    blanks = and-true (is_blank b) (list_all is_blank h.front) e h.blanks;
    flush = subst IsFlush (sym (trim-yes b rest e)) h.flush;
  }
  by h false e = subst (Fronted (b ∷ rest)) (sym (trim-no b rest e)) (record { front = []; whole = refl; blanks = refl; flush = e })

-- Without blanks at the end is without blanks in front, read backwards.
end-cut : (left front text : List ℕ) → reverse text ≡ front ++ left → text ≡ reverse left ++ reverse front
end-cut left front text e = sym (reverse-reverse text) ∙ (ap reverse e ∙ reverse-append front left)

take-front : (xs ys text : List ℕ) (n : ℕ) → text ≡ xs ++ ys → length ys ≡ n → take (length text - n) text ≡ xs
take-front xs ys text n e f =
    ap (λ t. take (length t - n) t) e
    ∙ (ap (λ k. take k (xs ++ ys)) (let g = length-append xs ys in omega (arith, g, f))
    ∙ (take-append-le (length xs) xs ys (omega arith) ∙ take_all (length xs) xs (omega arith)))

blank-prefix : (front left : List ℕ) → AreBlanks front → IsFlush left → prefix_len is_blank (front ++ left) ≡ length front
blank-prefix [] [] h g = refl
blank-prefix [] (b ∷ left) h g = ap (λ t. cond t (1 + prefix_len is_blank left) 0) g
blank-prefix (b ∷ front) left h g =
    let p = both (is_blank b) (list_all is_blank front) h in
    ap (λ t. cond t (1 + prefix_len is_blank (front ++ left)) 0) p.0 ∙ (let n = blank-prefix front left p.1 g in omega (arith, n))

pub trim-end : (inner back : List ℕ) → AreBlanks back → IsFlush (reverse inner) → trim_end (inner ++ back) ≡ inner
trim-end inner back h g =
    take-front inner back (inner ++ back) (prefix_len is_blank (reverse (inner ++ back))) refl
    (sym (length-reverse back) ∙ (sym (blank-prefix (reverse back) (reverse inner) (all-reverse is_blank back h) g)
    ∙ ap (prefix_len is_blank) (sym (reverse-append inner back))))

-- A text with blanks at its ends is trimmed to what stands between them.
pub trim-padded : (text inner front back : List ℕ) → text ≡ front ++ (inner ++ back) → AreBlanks front → AreBlanks back →
    IsFlush inner → IsFlush (reverse inner) → trimmed text ≡ inner
unfolding trimmed
trim-padded text [] front back e f b g h =
    ap (λ t. trim_end (trim_front t)) e
    ∙ (ap trim_end (trim-blanks front back f ∙ (ap trim_front (sym (append-nil back)) ∙ trim-blanks back [] b)))
trim-padded text (c ∷ inner) front back e f b g h =
    ap (λ t. trim_end (trim_front t)) e
    ∙ (ap trim_end (trim-blanks front ((c ∷ inner) ++ back) f ∙ trim-no c (inner ++ back) g) ∙ trim-end (c ∷ inner) back b h)

-- What stands between the blanks at a text's ends.
pub record Trimmed (text inner : List ℕ) : Type 0 where
  pub front : List ℕ
  pub back : List ℕ
  pub whole : text ≡ front ++ (inner ++ back)
  pub before : AreBlanks front
  pub after : AreBlanks back
  pub flush : IsFlush inner
  pub ends : IsFlush (reverse inner)

flush-front : (xs ys : List ℕ) → IsFlush (xs ++ ys) → IsFlush xs
flush-front [] ys h = tt
flush-front (x ∷ xs) ys h = h

pub trimmed-is : (text : List ℕ) → Trimmed text (trimmed text)
unfolding trimmed
trimmed-is text =
    let f = fronted text in
    let t = trim_front text in
    let g = fronted (reverse t) in
    let u = trim_front (reverse t) in
    let e : t ≡ reverse u ++ reverse g.front = end-cut u g.front t g.whole in
    let blanks : AreBlanks (reverse g.front) = all-reverse is_blank g.front g.blanks in
    let ends : IsFlush (reverse (reverse u)) = subst IsFlush (sym (reverse-reverse u)) g.flush in
    let same : trim_end t ≡ reverse u = ap trim_end e ∙ trim-end (reverse u) (reverse g.front) blanks ends in
    subst (Trimmed text) (sym same) (record {
      front = f.front;
      back = reverse g.front;
      whole = f.whole ∙ ap (λ x. f.front ++ x) e;
      before = f.blanks;
      after = blanks;
      flush = flush-front (reverse u) (reverse g.front) (subst IsFlush e f.flush);
      ends = ends;
    })

pub trimmed-padded : (text : List ℕ) → IsPadded text (trimmed text)
trimmed-padded text = let t = trimmed-is text in (t.front, t.back, t.whole, t.before, t.after)

-- one blank more in front, and blanks more at the end
pub trimmed-front : (b : ℕ) (text : List ℕ) → is_blank b ≡ true → trimmed (b ∷ text) ≡ trimmed text
unfolding trimmed
trimmed-front b text e = ap trim_end (trim-yes b text e)

pub trimmed-back : (text back : List ℕ) → AreBlanks back → trimmed (text ++ back) ≡ trimmed text
trimmed-back text back h =
    let t = trimmed-is text in
    trim-padded (text ++ back) (trimmed text) t.front (t.back ++ back)
    (ap (λ x. x ++ back) t.whole
    ∙ (append_assoc t.front (trimmed text ++ t.back) back ∙ ap (λ x. t.front ++ x) (append_assoc (trimmed text) t.back back)))
    t.before (all-append is_blank t.back back t.after h) t.flush t.ends

-- the first byte that passes, and what stands on its sides
module _ (p : ℕ → Bool) where
  -- a byte before what stands in front
  abbrev with_byte : ℕ → Option (List ℕ × List ℕ) → Option (List ℕ × List ℕ)
  with_byte b (Some sides) = Some (b ∷ sides.0, sides.1)
  with_byte b None = None

  cut-yes : (b : ℕ) (rest : List ℕ) → p b ≡ true → cut (b ∷ rest) (position p (b ∷ rest)) ≡ Some ([], rest)
  cut-yes b rest h =
      ap (λ t. cut (b ∷ rest) (cond (nat_lt (cond (not t) (1 + position_or_len p rest) 0) (length (b ∷ rest)))
      (Some (cond (not t) (1 + position_or_len p rest) 0)) None)) h
      ∙ ap (λ t. cut (b ∷ rest) (cond t (Some 0) None)) less
    where
      less : nat_lt 0 (length (b ∷ rest)) ≡ true
      less = grind (arith, nat_tests)

  cut-no : (b : ℕ) (rest : List ℕ) → p b ≡ false → cut (b ∷ rest) (position p (b ∷ rest)) ≡ with_byte b (cut rest (position p rest))
  cut-no b rest h =
      ap (λ t. cut (b ∷ rest) (cond (nat_lt (cond (not t) (1 + position_or_len p rest) 0) (length (b ∷ rest)))
      (Some (cond (not t) (1 + position_or_len p rest) 0)) None)) h
      ∙ (ap (λ t. cut (b ∷ rest) (cond t (Some (1 + position_or_len p rest)) None)) (less (position_or_len p rest) (length rest) (length (b ∷ rest)) one)
      ∙ by (nat_lt (position_or_len p rest) (length rest)))
    where
      one : length (b ∷ rest) ≡ length rest + 1
      one = omega arith

      less : (n m k : ℕ) → k ≡ m + 1 → nat_lt (1 + n) k ≡ nat_lt n m
      less n m k e = grind (arith, nat_tests)

      next : 1 + position_or_len p rest ≡ suc (position_or_len p rest)
      next = omega arith

      past : suc (position_or_len p rest) + 1 ≡ suc (position_or_len p rest + 1)
      past = omega arith

      by : (t : Bool) → cut (b ∷ rest) (cond t (Some (1 + position_or_len p rest)) None) ≡ with_byte b (cut rest (cond t (Some (position_or_len p rest)) None))
      by true =
          ap (λ n. Some (take n (b ∷ rest), drop (n + 1) (b ∷ rest))) next
          ∙ ap (λ n. Some (b ∷ take (position_or_len p rest) rest, drop n (b ∷ rest))) past
      by false = refl

  pub cut-read : (front : List ℕ) (b : ℕ) (rest : List ℕ) → list_all (λ c. not (p c)) front ≡ true → p b ≡ true →
      cut (front ++ b ∷ rest) (position p (front ++ b ∷ rest)) ≡ Some (front, rest)
  cut-read [] b rest h e = cut-yes b rest e
  cut-read (c ∷ front) b rest h e =
      let q = both (not (p c)) (list_all (λ d. not (p d)) front) h in
      cut-no c (front ++ b ∷ rest) (not-true (p c) q.0) ∙ ap (with_byte c) (cut-read front b rest q.1 e)

  -- what a cut tells of the text
  abbrev pub Cut : List ℕ → Option (List ℕ × List ℕ) → Type 0
  Cut text None = list_all (λ c. not (p c)) text ≡ true
  Cut text (Some sides) =
      (b : ℕ) × (list_all (λ c. not (p c)) sides.0 ≡ true) × (p b ≡ true) × (text ≡ sides.0 ++ b ∷ sides.1)

  cut-more : (b : ℕ) (rest : List ℕ) (o : Option (List ℕ × List ℕ)) → p b ≡ false → Cut rest o → Cut (b ∷ rest) (with_byte b o)
  cut-more b rest None e h = and-true (not (p b)) (list_all (λ c. not (p c)) rest) (ap not e) h
  cut-more b rest (Some sides) e h =
      (h.0, and-true (not (p b)) (list_all (λ c. not (p c)) sides.0) (ap not e) h.1, h.2, ap (λ t. b ∷ t) h.3)

  pub cut-is : (text : List ℕ) → Cut text (cut text (position p text))
  cut-is [] = refl
  cut-is (b ∷ rest) = by (cut-is rest) (p b) refl where
    by : Cut rest (cut rest (position p rest)) → (t : Bool) → p b ≡ t → Cut (b ∷ rest) (cut (b ∷ rest) (position p (b ∷ rest)))
    by h true e = subst (Cut (b ∷ rest)) (sym (cut-yes b rest e)) (b, refl, e, refl)
    by h false e = subst (Cut (b ∷ rest)) (sym (cut-no b rest e)) (cut-more b rest (cut rest (position p rest)) e h)
