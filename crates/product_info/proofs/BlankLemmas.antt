-- The first part between bytes of a value, and the first word.
use Rattle.std.proofs.Common.{◌≡◌, ℕ, ◌+◌, ◌-◌, ◌≤◌, ◌<◌, Bool, true, false, List, [], ◌∷◌, length, take, drop, get_or, refl, sym, ◌∙◌, ap, arith, Some, None, cond, inl, inr, suc, zero, length-drop, add-zero}
use Rattle.std.specs.Prelude.{◌==◌, nat_lt, filter, position}
use Rattle.std.specs.List.{prefix_len, position_or_len, slice_split}
use Rattle.std.proofs.lemmas.Bool.{cases_Bool}
use Rattle.std.proofs.lemmas.Bool.Decides.{nat_tests}
use Rattle.std.proofs.lemmas.List.{length-take-le, get_or-drop, take_all, drop_all, nil_from_length}
use Rattle.std.proofs.lemmas.List.Elements.{All-from_get_or}
use Rattle.std.proofs.lemmas.List.Sums.{fails_before_first, passes_at_first, prefix_len_stops}
use Rattle.std.proofs.lemmas.List.Splits.{slice_split_first, slice_split_none, slice_split-cons_yes}
use Rattle.product_info.specs.Blanks.{is_blank, parts, words}

-- a position that is found is the first one
found : {X : Type 0} (p : X → Bool) (xs : List X) (i : ℕ) → Some i ≡ position p xs → (position_or_len p xs ≡ i) × (i < length xs)
found p xs i e = grind (arith, nat_tests)

-- where no position is found, nothing passes
missed : {X : Type 0} (p : X → Bool) (xs : List X) → None ≡ position p xs → length xs ≤ position_or_len p xs
missed p xs e = grind (arith, nat_tests)

cut-some : (p : ℕ → Bool) (text : List ℕ) (i : ℕ) → Some i ≡ position p text → slice_split p text ≡ take i text ∷ slice_split p (drop (i + 1) text)
cut-some p text i e =
    let f = found p text i e in
    let k : position_or_len p text < length text = omega (arith, f.0, f.1) in
    slice_split_first p text 0 k ∙ ap (λ n. take n text ∷ slice_split p (drop (n + 1) text)) f.0

cut-none : (p : ℕ → Bool) (text : List ℕ) → None ≡ position p text → slice_split p text ≡ text ∷ []
cut-none p text e =
    let m = missed p text e in
    slice_split_none p text (All-from_get_or (λ x. p x ≡ false) text 0 (λ k h. fails_before_first p text k 0 (omega (arith, m, h))))

pub part-none : (at : ℕ) (text : List ℕ) → None ≡ position (λ b. b == at) text → parts at text ≡ text ∷ []
unfolding parts
part-none at text e = cut-none (λ b. b == at) text e

pub words-blank : (b : ℕ) (rest : List ℕ) → is_blank b ≡ true → words (b ∷ rest) ≡ words rest
unfolding words
words-blank b rest h = ap (filter (λ word. nat_lt 0 (length word))) (slice_split-cons_yes is_blank b rest h)

front-yes : (b : ℕ) (rest : List ℕ) → words (drop (prefix_len is_blank rest) rest) ≡ words rest → is_blank b ≡ true → words (drop (prefix_len is_blank (b ∷ rest)) (b ∷ rest)) ≡ words (b ∷ rest)
front-yes b rest more h =
    ap (λ t. words (drop (cond t (1 + prefix_len is_blank rest) 0) (b ∷ rest))) h
    ∙ (ap (λ n. words (drop n (b ∷ rest))) one ∙ (more ∙ sym (words-blank b rest h)))
  where
    one : 1 + prefix_len is_blank rest ≡ suc (prefix_len is_blank rest)
    one = omega arith

front-no : (b : ℕ) (rest : List ℕ) → is_blank b ≡ false → words (drop (prefix_len is_blank (b ∷ rest)) (b ∷ rest)) ≡ words (b ∷ rest)
front-no b rest h = ap (λ t. words (drop (cond t (1 + prefix_len is_blank rest) 0) (b ∷ rest))) h

-- blanks in front make no word
words-front : (text : List ℕ) → words (drop (prefix_len is_blank text) text) ≡ words text
words-front [] = refl
words-front (b ∷ rest) = let more = words-front rest in elim (cases_Bool (is_blank b)) [ inl h ↦ front-yes b rest more h | inr h ↦ front-no b rest h ]

pub kept : (word : List ℕ) (more : List (List ℕ)) → 0 < length word → filter (λ w. nat_lt 0 (length w)) (word ∷ more) ≡ word ∷ filter (λ w. nat_lt 0 (length w)) more
kept word more h = grind (arith, nat_tests)

words-some : (text : List ℕ) (i : ℕ) → Some i ≡ position is_blank text → 0 < i → words text ≡ take i text ∷ words (drop (i + 1) text)
unfolding words
words-some text i e h =
    let f = found is_blank text i e in
    let n : length (take i text) ≡ i = length-take-le i text (omega (arith, f.1)) in
    ap (filter (λ w. nat_lt 0 (length w))) (cut-some is_blank text i e)
    ∙ kept (take i text) (slice_split is_blank (drop (i + 1) text)) (omega (arith, n, h))

words-none : (text : List ℕ) → None ≡ position is_blank text → 0 < length text → words text ≡ text ∷ []
unfolding words
words-none text e h = ap (filter (λ w. nat_lt 0 (length w))) (cut-none is_blank text e) ∙ kept text [] h

stops : (text t : List ℕ) → t ≡ drop (prefix_len is_blank text) text → 0 < length t → is_blank (get_or t 0 0) ≡ false
stops text t e h =
    let size : length t ≡ length text - prefix_len is_blank text = ap length e ∙ length-drop (prefix_len is_blank text) text in
    let k : prefix_len is_blank text < length text = omega arith in
    let at : get_or t 0 0 ≡ get_or text (prefix_len is_blank text) 0 =
    ap (λ (x : List ℕ). get_or x 0 0) e
    ∙ (get_or-drop (prefix_len is_blank text) text 0 0 ∙ ap (λ n. get_or text n 0) (add-zero (prefix_len is_blank text))) in
    ap is_blank at ∙ prefix_len_stops is_blank text 0 k

-- a first word isn't empty
positive : (t : List ℕ) (i : ℕ) → is_blank (get_or t 0 0) ≡ false → is_blank (get_or t i 0) ≡ true → 0 < i
positive t zero h q = absurd (differ (sym h ∙ q))
  where
    differ : false ≡ true → ⊥
    differ e = cc
positive t (suc i) h q = omega arith

whole : (t : List ℕ) (k : ℕ) → take (length t - k) (drop k t) ≡ drop k t
whole t k = take_all (length t - k) (drop k t) (let n = length-drop k t in omega arith)

pub part-some : (at : ℕ) (text : List ℕ) (i : ℕ) → Some i ≡ position (λ b. b == at) text →
    parts at text ≡ take i text ∷ parts at (take (length text - (i + 1)) (drop (i + 1) text))
unfolding parts
part-some at text i e =
    cut-some (λ b. b == at) text i e ∙ ap (λ x. take i text ∷ slice_split (λ b. b == at) x) (sym (whole text (i + 1)))

pub word-none : (text t : List ℕ) → t ≡ drop (prefix_len is_blank text) text → length t ≡ 0 → words text ≡ []
unfolding words
word-none text t e h = sym (words-front text) ∙ (ap words (sym e) ∙ ap words (nil_from_length t h))

pub word-cut : (text t : List ℕ) (i : ℕ) → t ≡ drop (prefix_len is_blank text) text → Some i ≡ position is_blank t →
    words text ≡ take i t ∷ words (take (length t - (i + 1)) (drop (i + 1) t))
word-cut text t i e f =
    let p = found is_blank t i f in
    let passes = passes_at_first is_blank t 0 (omega (arith, p.0, p.1)) in
    let q : is_blank (get_or t i 0) ≡ true = ap (λ n. is_blank (get_or t n 0)) (sym p.0) ∙ passes in
    let some : 0 < i = positive t i (stops text t e (omega (arith, p.1))) q in
    sym (words-front text) ∙ (ap words (sym e) ∙ (words-some t i f some ∙ ap (λ x. take i t ∷ words x) (sym (whole t (i + 1)))))

pub word-last : (text t : List ℕ) → t ≡ drop (prefix_len is_blank text) text → None ≡ position is_blank t → 0 < length t →
    words text ≡ t ∷ words (take (length t - length t) (drop (length t) t))
unfolding words
word-last text t e f h =
    sym (words-front text) ∙ (ap words (sym e) ∙ (words-none t f h ∙ ap (λ x. t ∷ x) rest))
  where
    rest : [] ≡ words (take (length t - length t) (drop (length t) t))
    rest = ap words (sym (whole t (length t) ∙ drop_all (length t) t (omega arith)))

pub ruleset parted = (part-some, part-none)

pub ruleset worded = (word-none, word-cut, word-last)
