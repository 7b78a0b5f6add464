-- What is left of a list to be checked.
use Rattle.std.proofs.Common.{◌≡◌, ◌≢◌, ℕ, ◌+◌, ◌-◌, ◌<◌, Bool, true, false, List, [], ◌∷◌, length, get_or, take, drop, map, refl, sym, ap, ◌∙◌, arith, suc, add-one}
use Rattle.std.proofs.lemmas.List.{take_rest}
use Rattle.std.proofs.Math.Seq.{drop-cons}
use Rattle.std.proofs.lemmas.Bool.Decides.{nat_tests}
use Rattle.std.specs.Prelude.{◌&&◌, ◌||◌, not, bytes_eq, ◌==◌}
use Rattle.std.specs.List.{list_any}
use Rattle.fb_frame.specs.Distinct.{are_distinct}
use Rattle.super_meta.specs.Contents.{are_apart, shares, take_in_turn}
use Rattle.super_meta.specs.declared.table.Extent.{Extent}
use Rattle.super_meta.specs.declared.table.Partition.{Partition}

any-map : {X Y : Type 0} (f : X → Y) (test : Y → Bool) (xs : List X) → list_any test (map f xs) ≡ list_any (λ x. test (f x)) xs
any-map f test [] = refl
any-map f test (x ∷ xs) = ap (λ b. test (f x) || b) (any-map f test xs)

-- the front of the list that is left
left-step : {X : Type 0} (xs : List X) (i : ℕ) (x : X) → i < length xs → x ≡ get_or xs i x → drop i xs ≡ x ∷ drop (i + 1) xs
left-step xs i x h e = drop-cons xs i x h ∙ (ap (λ y. y ∷ drop (suc i) xs) (sym e) ∙ ap (λ n. x ∷ drop n xs) (sym (add-one i)))

-- an entry's name is among those after it
taken : {T : Type 0} (named : T → List ℕ) (xs : List T) (i : ℕ) (x : T) → i < length xs → x ≡ get_or xs i x → list_any (λ y. bytes_eq (named y) (named x)) (drop (i + 1) xs) ≡ true → are_distinct (map named (drop i xs)) ≡ false
taken named xs i x h e k =
    ap (λ t. are_distinct (map named t)) (left-step xs i x h e)
    ∙ ap (λ b. not b && are_distinct (map named (drop (i + 1) xs))) (any-map named (λ y. bytes_eq y (named x)) (drop (i + 1) xs) ∙ k)

free : {T : Type 0} (named : T → List ℕ) (xs : List T) (i : ℕ) (x : T) → i < length xs → x ≡ get_or xs i x → list_any (λ y. bytes_eq (named y) (named x)) (drop (i + 1) xs) ≡ false → are_distinct (map named (drop (i + 1) xs)) ≡ are_distinct (map named (drop i xs))
free named xs i x h e k =
    sym (ap (λ t. are_distinct (map named t)) (left-step xs i x h e)
    ∙ ap (λ b. not b && are_distinct (map named (drop (i + 1) xs))) (any-map named (λ y. bytes_eq y (named x)) (drop (i + 1) xs) ∙ k))

behind : {T : Type 0} (named : T → List ℕ) (xs : List T) (i : ℕ) (x : T) (name : List ℕ) (found : Bool) → name ≡ named x → found ≡ list_any (λ y. bytes_eq (named y) name) (take (length xs - (i + 1)) (drop (i + 1) xs)) →
    list_any (λ y. bytes_eq (named y) (named x)) (drop (i + 1) xs) ≡ found
behind named xs i x name found n e =
    sym (e ∙ (ap (list_any (λ y. bytes_eq (named y) name)) (take_rest xs (i + 1)) ∙ ap (λ t. list_any (λ y. bytes_eq (named y) t) (drop (i + 1) xs)) n))

-- by the search that found the name, or didn't
pub taken-by : {T : Type 0} (named : T → List ℕ) (xs : List T) (i : ℕ) (x : T) (name : List ℕ) (found all : Bool) → i < length xs → x ≡ get_or xs i x → name ≡ named x →
    found ≡ list_any (λ y. bytes_eq (named y) name) (take (length xs - (i + 1)) (drop (i + 1) xs)) → found ≡ true → are_distinct (map named (drop i xs)) ≡ all → false ≡ all
taken-by named xs i x name found all h e n f k so_far = sym (taken named xs i x h e (behind named xs i x name found n f ∙ k)) ∙ so_far

pub free-by : {T : Type 0} (named : T → List ℕ) (xs : List T) (i : ℕ) (x : T) (name : List ℕ) (found all : Bool) → i < length xs → x ≡ get_or xs i x → name ≡ named x →
    found ≡ list_any (λ y. bytes_eq (named y) name) (take (length xs - (i + 1)) (drop (i + 1) xs)) → found ≡ false → are_distinct (map named (drop i xs)) ≡ all → are_distinct (map named (drop (i + 1) xs)) ≡ all
free-by named xs i x name found all h e n f k so_far = free named xs i x h e (behind named xs i x name found n f ∙ k) ∙ so_far

pub overlaps : (xs : List Extent) (i : ℕ) (x : Extent) → i < length xs → x ≡ get_or xs i x → list_any (shares x) (drop (i + 1) xs) ≡ true → are_apart (drop i xs) ≡ false
overlaps xs i x h e k = ap are_apart (left-step xs i x h e) ∙ ap (λ b. not b && are_apart (drop (i + 1) xs)) k

pub clears : (xs : List Extent) (i : ℕ) (x : Extent) → i < length xs → x ≡ get_or xs i x → list_any (shares x) (drop (i + 1) xs) ≡ false → are_apart (drop (i + 1) xs) ≡ are_apart (drop i xs)
clears xs i x h e k = sym (ap are_apart (left-step xs i x h e) ∙ ap (λ b. not b && are_apart (drop (i + 1) xs)) k)

pub ruleset apart_steps = (overlaps, clears)

-- a partition that doesn't take the next extents
pub breaks : (xs : List Partition) (i at extents : ℕ) (x : Partition) → i < length xs → x ≡ get_or xs i x → x.first ≢ at → take_in_turn extents at (drop i xs) ≡ false
breaks xs i at extents x h e k =
    let other : (x.first == at) ≡ false = grind (arith, nat_tests) in
    ap (take_in_turn extents at) (left-step xs i x h e) ∙ ap (λ b. b && take_in_turn extents (at + x.count) (drop (i + 1) xs)) other

pub goes-on : (xs : List Partition) (i at extents : ℕ) (x : Partition) → i < length xs → x ≡ get_or xs i x → x.first ≡ at → take_in_turn extents (at + x.count) (drop (i + 1) xs) ≡ take_in_turn extents at (drop i xs)
goes-on xs i at extents x h e k =
    let same : (x.first == at) ≡ true = grind (arith, nat_tests) in
    sym (ap (take_in_turn extents at) (left-step xs i x h e) ∙ ap (λ b. b && take_in_turn extents (at + x.count) (drop (i + 1) xs)) same)

pub ruleset turn_steps = (breaks, goes-on)
