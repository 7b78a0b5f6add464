-- Units of super: how many different ones there can be, and how many bytes they hold.
use Rattle.std.proofs.Common.{◌≡◌, ◌∙◌, refl, ℕ, zero, suc, ◌+◌, ◌*◌, ◌<◌, ◌≤◌, Bool, true, false, not, eqb, List, [], ◌∷◌, length, take, drop, arith}
use Rattle.std.specs.Prelude.{◌-◌, ◌/◌, ◌&&◌, ◌||◌, nat_eq, nat_lt}
use Rattle.std.specs.List.{list_any, list_all, flat_map, range_with_len}
use Rattle.std.specs.Int.{div_ceil}
use Rattle.std.proofs.Math.Nat.{div-mul-le_self, mul-le-mul_right, lt_of_mul-lt-mul_right}
use Rattle.std.proofs.lemmas.Grind.{div_ceil_times}
use Rattle.std.proofs.lemmas.Bool.Decides.{nat_tests}
use Rattle.std.proofs.lemmas.List.Sums.{sum_by-cons}
use Rattle.std.proofs.lemmas.List.Folds.{list_all-append}
use Rattle.unit_alloc.specs.Owning.{Owning, times_in, OneOwner}
use Rattle.unit_alloc.proofs.TimesLemmas.{times_in-nil, times_in-cons, times-nil, times-cons}
use Rattle.unit_alloc.proofs.FreeLemmas.{length-free_units, total}
use Rattle.dev_store.specs.Supers.{are_different}

both : (a b : Bool) → (a && b) ≡ true → (a ≡ true) × (b ≡ true)
both true true e = (refl, refl)
both true false e = absurd cc
both false b e = absurd cc

and-true : (a b : Bool) → a ≡ true → b ≡ true → (a && b) ≡ true
and-true a b e f = rw (e, f) refl

-- a number that isn't among others
times-none : (u : ℕ) (xs : List ℕ) → not (list_any (nat_eq u) xs) ≡ true → times_in u xs ≡ 0
times-none u [] h = times_in-nil u
times-none u (x ∷ xs) h = by (eqb u x) refl (times-none u xs) h where
  by : (b : Bool) → eqb u x ≡ b → (not (list_any (nat_eq u) xs) ≡ true → times_in u xs ≡ 0) → not (b || list_any (nat_eq u) xs) ≡ true → times_in u (x ∷ xs) ≡ 0
  by true e more k = absurd cc
  by false e more k =
      let c = times_in-cons u x xs in
      let i = more k in
      grind (arith, nat_tests)

-- different numbers stand once
pub times-once : (u : ℕ) (xs : List ℕ) → are_different xs ≡ true → times_in u xs ≤ 1
times-once u [] h = omega (arith, times_in-nil u)
times-once u (x ∷ xs) h =
    let p = both (not (list_any (nat_eq x) xs)) (are_different xs) h in
    by (eqb x u) refl p.0 (times-once u xs p.1) where
      by : (b : Bool) → eqb x u ≡ b → not (list_any (nat_eq x) xs) ≡ true → times_in u xs ≤ 1 → times_in u (x ∷ xs) ≤ 1
      by true e k i =
          let c = times_in-cons u x xs in
          let z = times-none x xs k in
          grind (arith, nat_tests)
      by false e k i =
          let c = times_in-cons u x xs in
          grind (arith, nat_tests)

-- numbers below a bound don't stand from it on
pub times-within : (n u : ℕ) (xs : List ℕ) → list_all (λ x. nat_lt x n) xs ≡ true → n ≤ u → times_in u xs ≡ 0
times-within n u [] h k = times_in-nil u
times-within n u (x ∷ xs) h k =
    let p = both (nat_lt x n) (list_all (λ x. nat_lt x n) xs) h in
    step p.0 (times-within n u xs p.1 k) where
      step : nat_lt x n ≡ true → times_in u xs ≡ 0 → times_in u (x ∷ xs) ≡ 0
      step l i =
          let c = times_in-cons u x xs in
          grind (arith, nat_tests)

-- there are at most n different numbers below n
pub few : (n : ℕ) (xs : List ℕ) → are_different xs ≡ true → list_all (λ x. nat_lt x n) xs ≡ true → length xs ≤ n
unfolding total
few n xs d b =
    let m : Owning = record { units = n; parts = xs ∷ [] } in
    let one : OneOwner m = record {
      once = λ u. let c = times-cons u xs [] in let z = times-nil u in let o = times-once u xs d in omega arith;
      within = λ u k. let c = times-cons u xs [] in let z = times-nil u in let o = times-within n u xs b k in omega arith;
    } in
    let l = length-free_units m one in
    let s = sum_by-cons (length {A = ℕ}) xs [] in
    omega arith

-- a unit lies in super
pub unit-fits : (size first unit u : ℕ) → 0 < unit → u < (size - first) / unit → first + u * unit + unit ≤ size
unit-fits size first unit u p h =
    let d = div-mul-le_self (size - first) unit in
    let m = mul-le-mul_right unit h in
    omega arith

-- n units hold what takes at most as many bytes
pub ceil-le : (a n unit : ℕ) → 0 < unit → a ≤ n * unit → div_ceil a unit ≤ n
ceil-le a n unit p h =
    let d = div_ceil_times a unit p in
    let l : div_ceil a unit * unit < suc n * unit = omega arith in
    let r = lt_of_mul-lt-mul_right unit l in
    omega arith

-- as many units as hold the bytes hold them
pub ceil-holds : (a unit : ℕ) → 0 < unit → a ≤ div_ceil a unit * unit
ceil-holds a unit p = (div_ceil_times a unit p).0

-- consecutive units up to a bound
pub range-below : (a n m : ℕ) → a + n ≤ m → list_all (λ u. nat_lt u m) (range_with_len a n) ≡ true
range-below a zero m h = refl
range-below a (suc n) m h = and-true (nat_lt a m) _ (grind (arith, nat_tests)) (range-below (a + 1) n m (omega arith))

-- what holds of all of a list holds of its front, and of what follows one
pub all-take : {X : Type 0} (test : X → Bool) (n : ℕ) (xs : List X) → list_all test xs ≡ true → list_all test (take n xs) ≡ true
all-take test zero xs h = refl
all-take test (suc n) [] h = refl
all-take test (suc n) (x ∷ xs) h = let p = both (test x) _ h in and-true (test x) _ p.0 (all-take test n xs p.1)

pub all-drop : {X : Type 0} (test : X → Bool) (n : ℕ) (xs : List X) → list_all test xs ≡ true → list_all test (drop n xs) ≡ true
all-drop test zero xs h = h
all-drop test (suc n) [] h = refl
all-drop test (suc n) (x ∷ xs) h = all-drop test n xs (both (test x) _ h).1

-- what holds of all elements of each list holds of all of all lists
pub all-flat : {X Y : Type 0} (test : Y → Bool) (f : X → List Y) (xs : List X) → ((x : X) → list_all test (f x) ≡ true) → list_all test (flat_map f xs) ≡ true
all-flat test f [] h = refl
all-flat test f (x ∷ xs) h = list_all-append test (f x) (flat_map f xs) ∙ and-true _ _ (h x) (all-flat test f xs h)
