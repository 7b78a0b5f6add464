-- How often a unit stands in a list, and in the lists of all parts.
use Rattle.std.proofs.Common.{◌≡◌, ℕ, ◌+◌, ◌*◌, ◌<◌, ◌≤◌, cond, eqb, List, [], ◌∷◌, ◌++◌, length, get_or, set, take, drop, replicate, sum_by, refl, sym, ap, ◌∙◌, arith}
use Rattle.std.proofs.lemmas.List.Sums.{sum_by-cons, sum_by-append, sum_by-set, get_or-le-sum_by}
use Rattle.std.proofs.lemmas.List.Folds.{sum_by-replicate}
use Rattle.std.proofs.lemmas.List.{take-append-drop}
use Rattle.unit_alloc.specs.Owning.{times_in, times}

pub times_in-nil : (u : ℕ) → times_in u [] ≡ 0
unfolding times_in
times_in-nil u = refl

pub times_in-cons : (u x : ℕ) (xs : List ℕ) → times_in u (x ∷ xs) ≡ cond (eqb x u) 1 0 + times_in u xs
unfolding times_in
times_in-cons u x xs = sum_by-cons (λ y. cond (eqb y u) 1 0) x xs

pub times_in-append : (u : ℕ) (xs ys : List ℕ) → times_in u (xs ++ ys) ≡ times_in u xs + times_in u ys
unfolding times_in
times_in-append u xs ys = sum_by-append (λ y. cond (eqb y u) 1 0) xs ys

-- the first units of a list and the others
pub times_in-take-drop : (u k : ℕ) (xs : List ℕ) → times_in u (take k xs) + times_in u (drop k xs) ≡ times_in u xs
times_in-take-drop u k xs = sym (times_in-append u (take k xs) (drop k xs)) ∙ ap (times_in u) (take-append-drop k xs)

pub times-nil : (u : ℕ) → times u [] ≡ 0
unfolding times
times-nil u = refl

pub times-cons : (u : ℕ) (l : List ℕ) (parts : List (List ℕ)) → times u (l ∷ parts) ≡ times_in u l + times u parts
unfolding times
times-cons u l parts = sum_by-cons (times_in u) l parts

-- one part's list is another
pub times-set : (u : ℕ) (parts : List (List ℕ)) (p : ℕ) (l : List ℕ) → p < length parts → times u (set parts p l) + times_in u (get_or parts p []) ≡ times u parts + times_in u l
unfolding times
times-set u parts p l h = sum_by-set (times_in u) parts p l [] h

-- where no part has a unit
pub times-replicate : (u n : ℕ) → times u (replicate n []) ≡ 0
unfolding times
times-replicate u n =
    let e : sum_by (times_in u) (replicate n []) ≡ n * times_in u [] = sum_by-replicate (times_in u) n [] in
    let z = times_in-nil u in
    grind arith

-- a part's list is one of those of all parts
pub times_in-le-times : (u : ℕ) (parts : List (List ℕ)) (p : ℕ) → p < length parts → times_in u (get_or parts p []) ≤ times u parts
unfolding times
times_in-le-times u parts p h = get_or-le-sum_by (times_in u) parts p [] h
