-- How many units are free, and which is the lowest.
use Rattle.std.proofs.Common.{◌≡◌, ℕ, zero, suc, ◌+◌, ◌<◌, ◌≤◌, ◌≢◌, cond, eqb, ltb, not, List, [], ◌∷◌, ◌++◌, length, sum_by, count_by, filter, refl, sym, ap, ◌∙◌, inl, inr, arith, add-one, zero-add}
use Rattle.std.proofs.lemmas.List.Sums.{sum_by-cons, sum_by_push, length-filter}
use Rattle.std.proofs.lemmas.Bool.{cases_eq}
use Rattle.std.proofs.lemmas.Bool.Decides.{nat_tests}
use Rattle.std.specs.List.{range_with_len}
use Rattle.unit_alloc.specs.Owning.{Owning, times_in, times, OneOwner, free_units}
use Rattle.unit_alloc.proofs.TimesLemmas.{times_in-nil, times_in-cons, times-nil, times-cons}

-- how many units all parts have
unfoldable pub total : List (List ℕ) → ℕ
total parts = sum_by (length {A = ℕ}) parts

-- the sum of a function of the numbers from a on
abbrev sum_over : (ℕ → ℕ) → ℕ → ℕ → ℕ
sum_over f a n = sum_by f (range_with_len a n)

sum_over-zero : (f : ℕ → ℕ) (a n : ℕ) → ((u : ℕ) → f u ≡ 0) → sum_over f a n ≡ 0
sum_over-zero f a zero h = refl
sum_over-zero f a (suc n) h =
    let e = sum_by-cons f a (range_with_len (a + 1) n) in
    let i = sum_over-zero f (a + 1) n h in
    let z = h a in
    omega arith

sum_over-add : (f g h : ℕ → ℕ) (a n : ℕ) → ((u : ℕ) → h u ≡ f u + g u) → sum_over h a n ≡ sum_over f a n + sum_over g a n
sum_over-add f g h a zero e = refl
sum_over-add f g h a (suc n) e =
    let ef = sum_by-cons f a (range_with_len (a + 1) n) in
    let eg = sum_by-cons g a (range_with_len (a + 1) n) in
    let eh = sum_by-cons h a (range_with_len (a + 1) n) in
    let i = sum_over-add f g h (a + 1) n e in
    let z = e a in
    omega arith

-- a number that lies in the range is met once, and else never
sum_over-at : (x a n : ℕ) → sum_over (λ u. cond (eqb x u) 1 0) a n ≡ cond (ltb x a) 0 (cond (ltb x (a + n)) 1 0)
sum_over-at x a zero = grind (arith, nat_tests)
sum_over-at x a (suc n) =
    let e = sum_by-cons (λ u. cond (eqb x u) 1 0) a (range_with_len (a + 1) n) in
    let i = sum_over-at x (a + 1) n in
    grind (arith, nat_tests)

-- the numbers below n, counted one by one, are all of a list
sum_over-times_in : (n : ℕ) (xs : List ℕ) → ((u : ℕ) → n ≤ u → times_in u xs ≡ 0) → sum_over (λ u. times_in u xs) 0 n ≡ length xs
sum_over-times_in n [] h = sum_over-zero (λ u. times_in u []) 0 n times_in-nil
sum_over-times_in n (x ∷ xs) h =
    let s = sum_over-add (λ u. cond (eqb x u) 1 0) (λ u. times_in u xs) (λ u. times_in u (x ∷ xs)) 0 n (λ u. times_in-cons u x xs) in
    let i = sum_over-times_in n xs (λ u k. let e = times_in-cons u x xs in let z = h u k in omega arith) in
    let at = sum_over-at x 0 n in
    let e = times_in-cons x x xs in
    let z = h x in
    grind (arith, nat_tests)

-- the same of the lists of all parts
sum_over-times : (n : ℕ) (parts : List (List ℕ)) → ((u : ℕ) → n ≤ u → times u parts ≡ 0) → sum_over (λ u. times u parts) 0 n ≡ total parts
unfolding total
sum_over-times n [] h = sum_over-zero (λ u. times u []) 0 n times-nil
sum_over-times n (l ∷ parts) h =
    let s = sum_over-add (λ u. times_in u l) (λ u. times u parts) (λ u. times u (l ∷ parts)) 0 n (λ u. times-cons u l parts) in
    let i = sum_over-times n parts (λ u k. let e = times-cons u l parts in let z = h u k in omega arith) in
    let il = sum_over-times_in n l (λ u k. let e = times-cons u l parts in let z = h u k in omega arith) in
    let t = sum_by-cons (length {A = ℕ}) l parts in
    omega arith

-- a number is met or not
count-sum : (f : ℕ → ℕ) (a n : ℕ) → ((u : ℕ) → f u ≤ 1) → count_by (λ u. not (ltb 0 (f u))) (range_with_len a n) + sum_over f a n ≡ n
count-sum f a zero h = refl
count-sum f a (suc n) h =
    let ec = sum_by-cons (λ u. cond (not (ltb 0 (f u))) 1 0) a (range_with_len (a + 1) n) in
    let ef = sum_by-cons f a (range_with_len (a + 1) n) in
    let i = count-sum f (a + 1) n h in
    let b = h a in
    grind (arith, nat_tests)

-- each unit is free or stands in one list
pub length-free_units : (m : Owning) → OneOwner m → length (free_units m) + total m.parts ≡ m.units
unfolding free_units
length-free_units m one =
    let f = length-filter (λ u. not (ltb 0 (times u m.parts))) (range_with_len 0 m.units) in
    let c = count-sum (λ u. times u m.parts) 0 m.units one.once in
    let s = sum_over-times m.units m.parts one.within in
    omega arith

-- the numbers at which two functions agree
filter-same : (f g : ℕ → ℕ) (a n : ℕ) → ((k : ℕ) → a ≤ k → g k ≡ f k) →
    filter (λ u. not (ltb 0 (f u))) (range_with_len a n) ≡ filter (λ u. not (ltb 0 (g u))) (range_with_len a n)
filter-same f g a zero h = refl
filter-same f g a (suc n) h =
    let i = filter-same f g (a + 1) n (λ k le. h k (omega arith)) in
    let e = h a (omega arith) in
    grind (arith, nat_tests)

-- the lowest number that isn't met, and those that aren't met once it is
filter-lowest : (f g : ℕ → ℕ) (u a n : ℕ) → a ≤ u → u < a + n → f u ≡ 0 → 0 < g u →
    ((k : ℕ) → a ≤ k → k < u → 0 < f k) → ((k : ℕ) → k ≢ u → g k ≡ f k) →
    filter (λ u. not (ltb 0 (f u))) (range_with_len a n) ≡ u ∷ filter (λ u. not (ltb 0 (g u))) (range_with_len a n)
filter-lowest f g u a zero low high free met below same = absurd (omega arith)
filter-lowest f g u a (suc n) low high free met below same = elim (cases_eq a u) [
  | inl e ↦
      let i = filter-same f g (a + 1) n (λ k le. same k (λ q. omega arith)) in
      grind (arith, nat_tests)
  | inr ne ↦
      let i = filter-lowest f g u (a + 1) n (omega arith) (omega arith) free met (λ k le lt. below k (omega arith) lt) same in
      let e = same a ne in
      let b = below a (omega arith) (omega arith) in
      grind (arith, nat_tests)
]

-- the lowest free unit, and the units that are free once it is owned
pub free_units-lowest : (m n : Owning) (u : ℕ) → n.units ≡ m.units → u < m.units → times u m.parts ≡ 0 → 0 < times u n.parts →
    ((k : ℕ) → k < u → 0 < times k m.parts) → ((k : ℕ) → k ≢ u → times k n.parts ≡ times k m.parts) → free_units m ≡ u ∷ free_units n
unfolding free_units
free_units-lowest m n u e high free met below same =
    filter-lowest (λ k. times k m.parts) (λ k. times k n.parts) u 0 m.units (omega arith) (omega arith) free met (λ k le lt. below k lt) same
    ∙ ap (λ units. u ∷ filter (λ k. not (ltb 0 (times k n.parts))) (range_with_len 0 units)) (sym e)

filter-none : (f : ℕ → ℕ) (a n : ℕ) → ((k : ℕ) → a ≤ k → k < a + n → 0 < f k) → filter (λ u. not (ltb 0 (f u))) (range_with_len a n) ≡ []
filter-none f a zero h = refl
filter-none f a (suc n) h =
    let i = filter-none f (a + 1) n (λ k le lt. h k (omega arith) (omega arith)) in
    let e = h a (omega arith) (omega arith) in
    grind (arith, nat_tests)

-- where each unit has an owner, none is free
pub free_units-none : (m : Owning) → ((k : ℕ) → k < m.units → 0 < times k m.parts) → free_units m ≡ []
unfolding free_units
free_units-none m h = filter-none (λ k. times k m.parts) 0 m.units (λ k le lt. h k (omega arith))

-- how many units below a number are free
unfoldable pub free_below : Owning → ℕ → ℕ
free_below m n = count_by (λ u. not (ltb 0 (times u m.parts))) (range_with_len 0 n)

range_with_len_more : (a n : ℕ) → range_with_len a (suc n) ≡ range_with_len a n ++ (a + n) ∷ []
range_with_len_more a zero = ap (λ k. k ∷ []) (omega arith)
range_with_len_more a (suc n) =
    let i = range_with_len_more (a + 1) n in
    ap (λ l. a ∷ l) (i ∙ ap (λ k. range_with_len (a + 1) n ++ k ∷ []) (omega arith))

pub free_below-zero : (m : Owning) → free_below m 0 ≡ 0
unfolding free_below
free_below-zero m = refl

pub free_below_more : (m : Owning) (n : ℕ) → free_below m (n + 1) ≡ free_below m n + cond (not (ltb 0 (times n m.parts))) 1 0
unfolding free_below
free_below_more m n =
    let f : ℕ → ℕ = λ u. cond (not (ltb 0 (times u m.parts))) 1 0 in
    let e : sum_by f (range_with_len 0 (n + 1)) ≡ sum_by f (range_with_len 0 n ++ n ∷ []) =
    ap (λ k. sum_by f (range_with_len 0 k)) (add-one n) ∙ ap (sum_by f) (range_with_len_more 0 n ∙ ap (λ k. range_with_len 0 n ++ k ∷ []) (zero-add n)) in
    e ∙ sum_by_push f (range_with_len 0 n) n

pub length-free_units_below : (m : Owning) → length (free_units m) ≡ free_below m m.units
unfolding free_below free_units
length-free_units_below m = length-filter (λ u. not (ltb 0 (times u m.parts))) (range_with_len 0 m.units)

pub ruleset free_steps = (free_below-zero, free_below_more, length-free_units_below, nat_tests)
