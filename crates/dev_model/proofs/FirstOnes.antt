-- The first ones of a list, found from the left.
use Rattle.std.proofs.Common.{◌≡◌, ℕ, ◌+◌, ◌<◌, Bool, true, false, List, [], ◌∷◌, ◌++◌, length, get_or, drop, filter, refl, ap, sym, ◌∙◌, append_assoc, append-nil, add-one}
use Rattle.std.specs.Prelude.{not, ◌&&◌, ◌||◌, if◌then◌else◌, bytes_eq, cond}
use Rattle.std.specs.List.{list_any}
use Rattle.std.proofs.Math.Seq.{drop-cons}
use Rattle.std.proofs.lemmas.Slice.Eq.{bytes_eq-Decides}
use Rattle.dev_model.specs.Variables.{first_ones}

-- the text stands in the list
abbrev pub among : List (List ℕ) → List ℕ → Bool
among found y = list_any (λ x. bytes_eq y x) found

-- two filters are one
two-filters : (p q r : List ℕ → Bool) → ((y : List ℕ) → r y ≡ (q y && p y)) → (ys : List (List ℕ)) → filter p (filter q ys) ≡ filter r ys
two-filters p q r f [] = refl
two-filters p q r f (y ∷ ys) = by (two-filters p q r f ys) (q y) (p y) refl refl where
  by : filter p (filter q ys) ≡ filter r ys → (a b : Bool) → q y ≡ a → p y ≡ b → filter p (filter q (y ∷ ys)) ≡ filter r (y ∷ ys)
  by h true true e g =
      let k : r y ≡ true = f y ∙ ap (λ c. c && p y) e ∙ g in
      ap (λ c. filter p (cond c (y ∷ filter q ys) (filter q ys))) e ∙ ap (λ c. cond c (y ∷ filter p (filter q ys)) (filter p (filter q ys))) g
      ∙ ap (λ t. y ∷ t) h ∙ sym (ap (λ c. cond c (y ∷ filter r ys) (filter r ys)) k)
  by h true false e g =
      let k : r y ≡ false = f y ∙ ap (λ c. c && p y) e ∙ g in
      ap (λ c. filter p (cond c (y ∷ filter q ys) (filter q ys))) e ∙ ap (λ c. cond c (y ∷ filter p (filter q ys)) (filter p (filter q ys))) g
      ∙ h ∙ sym (ap (λ c. cond c (y ∷ filter r ys) (filter r ys)) k)
  by h false b e g =
      let k : r y ≡ false = f y ∙ ap (λ c. c && p y) e in
      ap (λ c. filter p (cond c (y ∷ filter q ys) (filter q ys))) e
      ∙ h ∙ sym (ap (λ c. cond c (y ∷ filter r ys) (filter r ys)) k)

-- what isn't among the found ones isn't one that is
old-one : (found : List (List ℕ)) (x : List ℕ) → among found x ≡ true → (y : List ℕ) → not (among found y) ≡ (not (bytes_eq y x) && not (among found y))
old-one found x h y = by (bytes_eq y x) refl where
  by : (b : Bool) → bytes_eq y x ≡ b → not (among found y) ≡ (not b && not (among found y))
  by true e = ap (λ t. not (among found t)) ((bytes_eq-Decides y x).0 e) ∙ ap not h
  by false e = refl

-- one more is found
more-found : (found : List (List ℕ)) (x y : List ℕ) → not (among (found ++ x ∷ []) y) ≡ (not (bytes_eq y x) && not (among found y))
more-found [] x y = by (bytes_eq y x) where
  by : (b : Bool) → not (b || false) ≡ (not b && true)
  by true = refl
  by false = refl
more-found (z ∷ found) x y = by (bytes_eq y z) (bytes_eq y x) (among found y) (among (found ++ x ∷ []) y) (more-found found x y) where
  by : (a b c d : Bool) → not d ≡ (not b && not c) → not (a || d) ≡ (not b && not (a || c))
  by true true c d e = refl
  by true false c d e = refl
  by false b c d e = e

pub first_begin : (ys : List (List ℕ)) → filter (λ y. true) ys ≡ ys
first_begin [] = refl
first_begin (y ∷ ys) = ap (λ t. y ∷ t) (first_begin ys)

-- one text more was looked at
first-step : (found : List (List ℕ)) (x : List ℕ) (ys : List (List ℕ)) →
    (found ++ (if among found x then [] else x ∷ [])) ++ filter (λ y. not (among (found ++ (if among found x then [] else x ∷ [])) y)) ys
    ≡ found ++ filter (λ y. not (among found y)) (x ∷ filter (λ y. not (bytes_eq y x)) ys)
first-step found x ys = by (among found x) refl where
  rest : List (List ℕ)
  rest = filter (λ y. not (among found y)) (filter (λ y. not (bytes_eq y x)) ys)

  by : (b : Bool) → among found x ≡ b →
      (found ++ (if among found x then [] else x ∷ [])) ++ filter (λ y. not (among (found ++ (if among found x then [] else x ∷ [])) y)) ys
      ≡ found ++ filter (λ y. not (among found y)) (x ∷ filter (λ y. not (bytes_eq y x)) ys)
  by true e =
      ap (λ c. (found ++ (if c then [] else x ∷ [])) ++ filter (λ y. not (among (found ++ (if c then [] else x ∷ [])) y)) ys) e
      ∙ ap (λ l. l ++ filter (λ y. not (among l y)) ys) (append-nil found)
      ∙ ap (λ t. found ++ t) (sym (two-filters (λ y. not (among found y)) (λ y. not (bytes_eq y x)) (λ y. not (among found y)) (old-one found x e) ys))
      ∙ sym (ap (λ c. found ++ cond (not c) (x ∷ rest) rest) e)
  by false e =
      ap (λ c. (found ++ (if c then [] else x ∷ [])) ++ filter (λ y. not (among (found ++ (if c then [] else x ∷ [])) y)) ys) e
      ∙ append_assoc found (x ∷ []) (filter (λ y. not (among (found ++ x ∷ []) y)) ys)
      ∙ ap (λ t. found ++ x ∷ t) (sym (two-filters (λ y. not (among found y)) (λ y. not (bytes_eq y x)) (λ y. not (among (found ++ x ∷ []) y)) (more-found found x) ys))
      ∙ sym (ap (λ c. found ++ cond (not c) (x ∷ rest) rest) e)

pub first_turn : (found texts : List (List ℕ)) (i : ℕ) (x : List ℕ) → i < length texts → x ≡ get_or texts i x →
    (found ++ (if among found x then [] else x ∷ [])) ++ filter (λ y. not (among (found ++ (if among found x then [] else x ∷ [])) y)) (first_ones (drop (i + 1) texts))
    ≡ found ++ filter (λ y. not (among found y)) (first_ones (drop i texts))
first_turn found texts i x h e =
    let next : x ∷ drop (i + 1) texts ≡ drop i texts = rw (add-one, drop-cons texts i x h, ← e) refl in
    first-step found x (first_ones (drop (i + 1) texts)) ∙ ap (λ t. found ++ filter (λ y. not (among found y)) (first_ones t)) next

pub ruleset first_turns = (first_turn, first_begin)
