-- Lines and words of a text, from the front.
use Rattle.std.proofs.Common.{◌≡◌, ◌∙◌, refl, ap, sym, ℕ, ◌+◌, ◌-◌, ◌<◌, ◌≤◌, Bool, true, false, List, [], ◌∷◌, length, take, drop, Option, Some, None, cond, arith, if◌then◌else◌, length-drop, ◌⊎◌, inl, inr, unwrap_or}
use Rattle.std.specs.Prelude.{◌==◌, position}
use Rattle.std.specs.List.{position_or_len, slice_split, onto_first}
use Rattle.std.proofs.lemmas.Bool.Decides.{nat_tests}
use Rattle.std.proofs.lemmas.List.{take_all}
use Rattle.std.proofs.lemmas.List.Elements.{All-from_get_or}
use Rattle.std.proofs.lemmas.List.Sums.{fails_before_first}
use Rattle.std.proofs.lemmas.List.Splits.{slice_split_first, slice_split_none}
use Rattle.dev_store.specs.LayoutLines.{is_feed, is_space, at_space, parted, lines, whole_lines}

-- a position that is found is the first one
found : {X : Type 0} (p : X → Bool) (xs : List X) (i : ℕ) → Some i ≡ position p xs → (position_or_len p xs ≡ i) × (i < length xs)
found p xs i e = grind (arith, nat_tests)

-- where no position is found, nothing passes
missed : {X : Type 0} (p : X → Bool) (xs : List X) → None ≡ position p xs → length xs ≤ position_or_len p xs
missed p xs e = grind (arith, nat_tests)

whole : (t : List ℕ) (k : ℕ) → take (length t - k) (drop k t) ≡ drop k t
whole t k = take_all (length t - k) (drop k t) (let n = length-drop k t in omega arith)

split-some : (p : ℕ → Bool) (text : List ℕ) (i : ℕ) → Some i ≡ position p text →
    slice_split p text ≡ take i text ∷ slice_split p (take (length text - (i + 1)) (drop (i + 1) text))
split-some p text i e =
    let f = found p text i e in
    let k : position_or_len p text < length text = omega (arith, f.0, f.1) in
    slice_split_first p text 0 k
    ∙ (ap (λ n. take n text ∷ slice_split p (drop (n + 1) text)) f.0
    ∙ ap (λ x. take i text ∷ slice_split p x) (sym (whole text (i + 1))))

split-none : (p : ℕ → Bool) (text : List ℕ) → None ≡ position p text → slice_split p text ≡ text ∷ []
split-none p text e =
    let m = missed p text e in
    slice_split_none p text (All-from_get_or (λ x. p x ≡ false) text 0 (λ k h. fails_before_first p text k 0 (omega (arith, m, h))))

-- there is always a first part
abbrev pub First : List (List ℕ) → Type 0
First parts = (x : List ℕ) × (xs : List (List ℕ)) × (parts ≡ x ∷ xs)

first-onto : (b : ℕ) (parts : List (List ℕ)) → First parts → First (onto_first b parts)
first-onto b [] f = (b ∷ [], [], refl)
first-onto b (x ∷ xs) f = (b ∷ x, xs, refl)

first-by : (b : ℕ) (parts : List (List ℕ)) (c : Bool) → First parts → First (cond c ([] ∷ parts) (onto_first b parts))
first-by b parts true f = ([], parts, refl)
first-by b parts false f = first-onto b parts f

pub first-part : (p : ℕ → Bool) (text : List ℕ) → First (slice_split p text)
first-part p [] = ([], [], refl)
first-part p (b ∷ text) = first-by b (slice_split p text) (p b) (first-part p text)

more-lines : (line : List ℕ) (parts : List (List ℕ)) → First parts → whole_lines (line ∷ parts) ≡ Some line ∷ whole_lines parts
more-lines line parts f = ap (λ r. whole_lines (line ∷ r)) f.2 ∙ ap (λ r. Some line ∷ whole_lines r) (sym f.2)

pub line-some : (text : List ℕ) (i : ℕ) → Some i ≡ position (λ b. b == 10) text →
    lines text ≡ Some (take i text) ∷ lines (take (length text - (i + 1)) (drop (i + 1) text))
unfolding lines
line-some text i e =
    ap whole_lines (split-some is_feed text i e)
    ∙ more-lines (take i text) (slice_split is_feed (take (length text - (i + 1)) (drop (i + 1) text))) (first-part is_feed (take (length text - (i + 1)) (drop (i + 1) text)))

pub line-none : (text : List ℕ) → None ≡ position (λ b. b == 10) text → lines text ≡ (if length text == 0 then [] else None ∷ [])
unfolding lines
line-none text e = ap whole_lines (split-none is_feed text e)

place-some : (text : List ℕ) (o : Option ℕ) (name rest : List ℕ) → o ≡ position is_space text → Some (name, rest) ≡ parted text o →
    slice_split is_space text ≡ name ∷ slice_split is_space rest
place-some text None name rest h e = absurd cc
place-some text (Some i) name rest h e =
    let first : take i text ≡ name = sym (ap (λ (p : Option (List ℕ × List ℕ)). (unwrap_or {T = List ℕ × List ℕ} p (name, rest)).0) e) in
    let after : drop (i + 1) text ≡ rest = sym (ap (λ (p : Option (List ℕ × List ℕ)). (unwrap_or {T = List ℕ × List ℕ} p (name, rest)).1) e) in
    split-some is_space text i h
    ∙ (ap (λ x. take i text ∷ slice_split is_space x) (whole text (i + 1))
    ∙ (ap (λ x. x ∷ slice_split is_space (drop (i + 1) text)) first ∙ ap (λ x. name ∷ slice_split is_space x) after))

place-none : (text : List ℕ) (o : Option ℕ) → o ≡ position is_space text → (let p : Option (List ℕ × List ℕ) = None in p ≡ parted text o) → slice_split is_space text ≡ text ∷ []
place-none text None h e = split-none is_space text h
place-none text (Some i) h e = absurd cc

-- the words of a text with a space, and of one with none
pub split-at : (text name rest : List ℕ) → Some (name, rest) ≡ at_space text → slice_split is_space text ≡ name ∷ slice_split is_space rest
split-at text name rest e = place-some text (position is_space text) name rest refl e

pub split-end : (text : List ℕ) → (let p : Option (List ℕ × List ℕ) = None in p ≡ at_space text) → slice_split is_space text ≡ text ∷ []
split-end text e = place-none text (position is_space text) refl e

-- one word, or several
pub record Several (text : List ℕ) : Type 0 where
  pub first : List ℕ
  pub second : List ℕ
  pub more : List (List ℕ)
  pub same : slice_split is_space text ≡ first ∷ second ∷ more

one-or-by : (text : List ℕ) (o : Option (List ℕ × List ℕ)) → o ≡ at_space text → (slice_split is_space text ≡ text ∷ []) ⊎ Several text
one-or-by text None e = inl (split-end text e)
one-or-by text (Some (name, rest)) e =
    let f = first-part is_space rest in
    inr (record { first = name; second = f.0; more = f.1; same = split-at text name rest e ∙ ap (λ r. name ∷ r) f.2 })

pub one-or-more : (text : List ℕ) → (slice_split is_space text ≡ text ∷ []) ⊎ Several text
one-or-more text = one-or-by text (at_space text) refl

pub ruleset cut = (line-some, line-none)
