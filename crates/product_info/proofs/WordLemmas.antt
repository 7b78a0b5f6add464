-- Words with blanks between them.
use Rattle.std.proofs.Common.{◌≡◌, ℕ, Bool, true, false, List, [], ◌∷◌, ◌++◌, length, refl, sym, ◌∙◌, ap, subst, arith, append-nil}
use Rattle.std.specs.Prelude.{◌&&◌, not, filter, nat_lt, if◌then◌else◌}
use Rattle.std.specs.List.{list_all, slice_split, onto_first}
use Rattle.std.proofs.lemmas.List.Splits.{slice_split-cons_no, slice_split-cons_yes}
use Rattle.product_info.specs.Blanks.{is_blank, words}
use Rattle.product_info.specs.Grammar.{AreBlanks, BeginsBlank, IsUnbroken, AreWordsOf}
use Rattle.product_info.proofs.BlankLemmas.{words-blank, kept}

pub both : (a b : Bool) → (a && b) ≡ true → (a ≡ true) × (b ≡ true)
both true b e = (refl, e)
both false b e = absurd cc

pub and-true : (a b : Bool) → a ≡ true → b ≡ true → (a && b) ≡ true
and-true true b e f = f
and-true false b e f = e

pub not-true : (a : Bool) → not a ≡ true → a ≡ false
not-true true e = absurd cc
not-true false e = refl

pub not-false : (a : Bool) → a ≡ false → not a ≡ true
not-false a e = ap not e

front-words : (front text : List ℕ) → AreBlanks front → words (front ++ text) ≡ words text
front-words [] text h = refl
front-words (b ∷ front) text h =
    let p = both (is_blank b) (list_all is_blank front) h in words-blank b (front ++ text) p.0 ∙ front-words front text p.1

no-words : words [] ≡ []
unfolding words
no-words = refl

blank-words : (text : List ℕ) → AreBlanks text → words text ≡ []
blank-words text h = ap words (sym (append-nil text)) ∙ (front-words text [] h ∙ no-words)

-- the bytes of a word before the first part
abbrev onto : List ℕ → List (List ℕ) → List (List ℕ)
onto word [] = word ∷ []
onto word (part ∷ parts) = (word ++ part) ∷ parts

onto-nil : (p : ℕ → Bool) (text : List ℕ) → slice_split p text ≡ onto [] (slice_split p text)
onto-nil p [] = refl
onto-nil p (b ∷ rest) = by (p b) where
  by-parts : (parts : List (List ℕ)) → onto_first b parts ≡ onto [] (onto_first b parts)
  by-parts [] = refl
  by-parts (part ∷ parts) = refl

  by : (t : Bool) → (if t then [] ∷ slice_split p rest else onto_first b (slice_split p rest))
      ≡ onto [] (if t then [] ∷ slice_split p rest else onto_first b (slice_split p rest))
  by true = refl
  by false = by-parts (slice_split p rest)

split-word : (p : ℕ → Bool) (word rest : List ℕ) → list_all (λ b. not (p b)) word ≡ true →
    slice_split p (word ++ rest) ≡ onto word (slice_split p rest)
split-word p [] rest h = onto-nil p rest
split-word p (b ∷ word) rest h =
    let q = both (not (p b)) (list_all (λ c. not (p c)) word) h in
    slice_split-cons_no p b (word ++ rest) (not-true (p b) q.0)
    ∙ (ap (onto_first b) (split-word p word rest q.1) ∙ first (slice_split p rest))
  where
    first : (parts : List (List ℕ)) → onto_first b (onto word parts) ≡ onto (b ∷ word) parts
    first [] = refl
    first (part ∷ parts) = refl

-- where nothing passes, the text is the one part
pub split-alone : (p : ℕ → Bool) (word : List ℕ) → list_all (λ b. not (p b)) word ≡ true → slice_split p word ≡ word ∷ []
split-alone p word h =
    ap (slice_split p) (sym (append-nil word)) ∙ (split-word p word [] h ∙ ap (λ w. w ∷ []) (append-nil word))

-- the first part ends before the first byte that passes
pub split-first : (p : ℕ → Bool) (word : List ℕ) (c : ℕ) (rest : List ℕ) → list_all (λ b. not (p b)) word ≡ true → p c ≡ true →
    slice_split p (word ++ c ∷ rest) ≡ word ∷ slice_split p rest
split-first p word c rest h e =
    split-word p word (c ∷ rest) h
    ∙ (ap (onto word) (slice_split-cons_yes p c rest e) ∙ ap (λ w. w ∷ slice_split p rest) (append-nil word))

pub word-first : (word rest : List ℕ) → IsUnbroken word → BeginsBlank rest → words (word ++ rest) ≡ word ∷ words rest
unfolding words
word-first word [] u b =
    ap (filter (λ w. nat_lt 0 (length w))) (ap (slice_split is_blank) (append-nil word) ∙ split-alone is_blank word u.1) ∙ kept word [] u.0
word-first word (c ∷ rest) u b =
    ap (filter (λ w. nat_lt 0 (length w))) (split-first is_blank word c rest u.1 b)
    ∙ (kept word (slice_split is_blank rest) u.0 ∙ ap (λ more. word ∷ more) (sym (words-blank c rest b)))

-- what is spelled is read
pub words-read : (ws : List (List ℕ)) (text : List ℕ) → AreWordsOf text ws → words text ≡ ws
words-read [] text h = blank-words text h
words-read (word ∷ ws) text h =
    ap words h.2
    ∙ (front-words h.0 (word ++ h.1) h.3
    ∙ (word-first word h.1 h.4 h.5 ∙ ap (λ more. word ∷ more) (words-read ws h.1 h.6)))

begins-blank : (text : List ℕ) → AreBlanks text → BeginsBlank text
begins-blank [] h = tt
begins-blank (b ∷ text) h = (both (is_blank b) (list_all is_blank text) h).0

with-blank : (b : ℕ) (rest : List ℕ) (ws : List (List ℕ)) → is_blank b ≡ true → AreWordsOf rest ws → AreWordsOf (b ∷ rest) ws
with-blank b rest [] e h = and-true (is_blank b) (list_all is_blank rest) e h
with-blank b rest (word ∷ ws) e h =
    (b ∷ h.0, h.1, ap (λ t. b ∷ t) h.2, and-true (is_blank b) (list_all is_blank h.0) e h.3, h.4, h.5, h.6)

one-byte : (b : ℕ) → is_blank b ≡ false → IsUnbroken (b ∷ [])
one-byte b e = (omega arith, and-true (not (is_blank b)) true (ap not e) refl)

-- some words
abbrev Spelled : List ℕ → Type 0
Spelled text = (ws : List (List ℕ)) × AreWordsOf text ws

word-more : (b : ℕ) (rest front after word : List ℕ) (ws : List (List ℕ)) → is_blank b ≡ false → rest ≡ front ++ (word ++ after) → AreBlanks front →
    IsUnbroken word → BeginsBlank after → AreWordsOf after ws → Spelled (b ∷ rest)
word-more b rest [] after word ws e f g u h more = (
  (b ∷ word) ∷ ws,
  (
    [],
    after,
    ap (λ t. b ∷ t) f,
    refl,
    (omega arith, and-true (not (is_blank b)) (list_all (λ c. not (is_blank c)) word) (ap not e) u.1),
    h,
    more,
  ),
)
word-more b rest (c ∷ front) after word ws e f g u h more = (
  (b ∷ []) ∷ word ∷ ws,
  (
    [],
    rest,
    refl,
    refl,
    one-byte b e,
    subst BeginsBlank (sym f) (both (is_blank c) (list_all is_blank front) g).0,
    (c ∷ front, after, f, g, u, h, more),
  ),
)

with-dark : (b : ℕ) (rest : List ℕ) (ws : List (List ℕ)) → is_blank b ≡ false → AreWordsOf rest ws → Spelled (b ∷ rest)
with-dark b rest [] e h = ((b ∷ []) ∷ [], ([], rest, refl, refl, one-byte b e, begins-blank rest h, h))
with-dark b rest (word ∷ ws) e h = word-more b rest h.0 h.1 word ws e h.2 h.3 h.4 h.5 h.6

some-words : (text : List ℕ) → Spelled text
some-words [] = ([], refl)
some-words (b ∷ rest) = by (some-words rest) (is_blank b) refl where
  by : Spelled rest → (t : Bool) → is_blank b ≡ t → Spelled (b ∷ rest)
  by more true e = (more.0, with-blank b rest more.0 e more.1)
  by more false e = with-dark b rest more.0 e more.1

-- what is read is spelled
pub words-spelled : (text : List ℕ) → AreWordsOf text (words text)
words-spelled text = let found = some-words text in subst (AreWordsOf text) (sym (words-read found.0 text found.1)) found.1
