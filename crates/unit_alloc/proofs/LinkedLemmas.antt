-- Units that follow one another, and what a change of one unit's next leaves.
use Rattle.std.proofs.Common.{◌≡◌, ℕ, zero, suc, ◌+◌, ◌-◌, ◌<◌, ◌≤◌, ◌≢◌, cond, eqb, List, [], ◌∷◌, ◌++◌, length, get_or, set, take, drop, refl, sym, ap, subst, true, false, ◌∙◌, arith, add-one, zero-add}
use Rattle.std.proofs.lemmas.List.{get_or-set_same, get_or-set_other, get_or_push}
use Rattle.std.proofs.lemmas.Bool.Decides.{nat_tests}
use Rattle.unit_alloc.specs.Owning.{times_in, run_from}
use Rattle.unit_alloc.specs.Chains.{stepped, linked}
use Rattle.unit_alloc.proofs.TimesLemmas.{times_in-cons}

pub length-linked : (next : List ℕ) (u n : ℕ) → length (linked next u n) ≡ n
unfolding linked
length-linked next u zero = refl
length-linked next u (suc n) = ap suc (length-linked next (get_or next u 0) n)

-- the first of the units, and those that follow
pub linked-suc : (next : List ℕ) (u n : ℕ) → linked next u (suc n) ≡ u ∷ linked next (get_or next u 0) n
unfolding linked
linked-suc next u n = refl

pub linked-zero : (next : List ℕ) (u : ℕ) → linked next u 0 ≡ []
unfolding linked
linked-zero next u = refl

pub take-linked : (next : List ℕ) (u k n : ℕ) → k ≤ n → take k (linked next u n) ≡ linked next u k
unfolding linked
take-linked next u zero n h = refl
take-linked next u (suc k) zero h = absurd (omega arith)
take-linked next u (suc k) (suc n) h = ap (λ l. u ∷ l) (take-linked next (get_or next u 0) k n (omega arith))

pub drop-linked : (next : List ℕ) (u k n : ℕ) → k ≤ n → drop k (linked next u n) ≡ linked next (stepped next u k) (n - k)
unfolding linked stepped
drop-linked next u zero n h = ap (linked next u) (omega arith)
drop-linked next u (suc k) zero h = absurd (omega arith)
drop-linked next u (suc k) (suc n) h = drop-linked next (get_or next u 0) k n (omega arith) ∙ ap (linked next (stepped next (get_or next u 0) k)) (omega arith)

-- the unit at a place
pub get_or-linked : (next : List ℕ) (u k n : ℕ) → k < n → get_or (linked next u n) k 0 ≡ stepped next u k
unfolding linked stepped
get_or-linked next u k zero h = absurd (omega arith)
get_or-linked next u zero (suc n) h = refl
get_or-linked next u (suc k) (suc n) h = get_or-linked next (get_or next u 0) k n (omega arith)

pub stepped-zero : (next : List ℕ) (u : ℕ) → stepped next u 0 ≡ u
unfolding stepped
stepped-zero next u = refl

stepped-suc : (next : List ℕ) (u k : ℕ) → stepped next u (suc k) ≡ get_or next (stepped next u k) 0
unfolding stepped
stepped-suc next u zero = refl
stepped-suc next u (suc k) = stepped-suc next (get_or next u 0) k

-- one more step
pub stepped_more : (next : List ℕ) (u k : ℕ) → stepped next u (k + 1) ≡ get_or next (stepped next u k) 0
stepped_more next u k = ap (stepped next u) (add-one k) ∙ stepped-suc next u k

-- the first of what is left
pub linked-rest : (next : List ℕ) (u n : ℕ) → 0 < n → linked next u n ≡ u ∷ linked next (get_or next u 0) (n - 1)
linked-rest next u zero h = absurd (omega arith)
linked-rest next u (suc n) h = linked-suc next u n ∙ ap (λ k. u ∷ linked next (get_or next u 0) k) (omega arith)

-- a unit at a place stands in the list
pub times_in-get_or : (xs : List ℕ) (k : ℕ) → k < length xs → 0 < times_in (get_or xs k 0) xs
times_in-get_or [] k h = absurd (omega arith)
times_in-get_or (x ∷ xs) zero h = let c = times_in-cons x x xs in grind (arith, nat_tests)
times_in-get_or (x ∷ xs) (suc k) h =
    let c = times_in-cons (get_or xs k 0) x xs in
    let i = times_in-get_or xs k (omega arith) in
    omega arith

-- a unit that doesn't stand in a list isn't its first
head-apart : (v x : ℕ) (xs : List ℕ) → times_in v (x ∷ xs) ≡ 0 → x ≢ v
head-apart v x xs h e = let c = times_in-cons v x xs in grind (arith, nat_tests)

-- a change of the next of a unit that isn't among them
pub linked-set_other : (next : List ℕ) (v w u n : ℕ) → times_in v (linked next u n) ≡ 0 → linked (set next v w) u n ≡ linked next u n
unfolding linked
linked-set_other next v w u zero h = refl
linked-set_other next v w u (suc n) h =
    let c = times_in-cons v u (linked next (get_or next u 0) n) in
    let e : get_or (set next v w) u 0 ≡ get_or next u 0 = get_or-set_other next v u w 0 (head-apart v u (linked next (get_or next u 0) n) h) in
    ap (λ k. u ∷ linked (set next v w) k n) e ∙ ap (λ l. u ∷ l) (linked-set_other next v w (get_or next u 0) n (omega arith))

-- the first of the units isn't the last of those behind it
first-apart : (next : List ℕ) (u n : ℕ) → times_in (stepped next u (suc n)) (linked next u (suc (suc n))) ≤ 1 → u ≢ stepped next u (suc n)
unfolding linked stepped
first-apart next u n once e =
    let r : ℕ = get_or next u 0 in
    let v : ℕ = stepped next r n in
    let c = times_in-cons v u (linked next r (suc n)) in
    let at : get_or (linked next r (suc n)) n 0 ≡ v = get_or-linked next r n (suc n) (omega arith) in
    let some : 0 < times_in v (linked next r (suc n)) =
    subst (λ (x : ℕ). 0 < times_in x (linked next r (suc n))) at (times_in-get_or (linked next r (suc n)) n (omega (arith, length-linked next r (suc n)))) in
    grind (arith, nat_tests)

-- one more unit behind the last
pub linked-set_last : (next : List ℕ) (w u n : ℕ) → stepped next u n < length next → times_in (stepped next u n) (linked next u (suc n)) ≤ 1 →
    linked (set next (stepped next u n) w) u (suc (suc n)) ≡ linked next u (suc n) ++ w ∷ []
unfolding linked stepped
linked-set_last next w u zero h once = ap (λ k. u ∷ k ∷ []) (get_or-set_same next u w 0 h)
linked-set_last next w u (suc n) h once =
    let r : ℕ = get_or next u 0 in
    let v : ℕ = stepped next r n in
    let c = times_in-cons v u (linked next r (suc n)) in
    let e : get_or (set next v w) u 0 ≡ r = get_or-set_other next v u w 0 (first-apart next u n once) in
    ap (λ k. u ∷ linked (set next v w) k (suc (suc n))) e
    ∙ ap (λ l. u ∷ l) (linked-set_last next w r n h (omega arith))

-- the unit behind the last is the one that was put there
pub stepped-set_last : (next : List ℕ) (w u n : ℕ) → stepped next u n < length next → times_in (stepped next u n) (linked next u (suc n)) ≤ 1 →
    stepped (set next (stepped next u n) w) u (suc n) ≡ w
stepped-set_last next w u n h once =
    let next' : List ℕ = set next (stepped next u n) w in
    sym (get_or-linked next' u (suc n) (suc (suc n)) (omega arith))
    ∙ ap (λ (l : List ℕ). get_or l (suc n) 0) (linked-set_last next w u n h once)
    ∙ get_or_push (linked next u (suc n)) w 0 (suc n) (length-linked next u (suc n))

-- the same units lead to the same place
pub stepped-same : (next next' : List ℕ) (u k n : ℕ) → k < n → linked next' u n ≡ linked next u n → stepped next' u k ≡ stepped next u k
stepped-same next next' u k n h e =
    sym (get_or-linked next' u k n h) ∙ ap (λ (l : List ℕ). get_or l k 0) e ∙ get_or-linked next u k n h

-- a run from the first unit
pub run_from-linked_yes : (next : List ℕ) (u r n : ℕ) → 0 < n → u ≡ r → run_from r (linked next u n) ≡ 1 + run_from (r + 1) (linked next (get_or next u 0) (n - 1))
run_from-linked_yes next u r n h e =
    let t : eqb u r ≡ true = grind (arith, nat_tests) in
    let l = linked next (get_or next u 0) (n - 1) in
    ap (run_from r) (linked-rest next u n h) ∙ ap (λ b. cond b (1 + run_from (r + 1) l) 0) t

pub run_from-linked_no : (next : List ℕ) (u r n : ℕ) → 0 < n → u ≢ r → run_from r (linked next u n) ≡ 0
run_from-linked_no next u r n h ne =
    let t : eqb u r ≡ false = grind (arith, nat_tests) in
    let l = linked next (get_or next u 0) (n - 1) in
    ap (run_from r) (linked-rest next u n h) ∙ ap (λ b. cond b (1 + run_from (r + 1) l) 0) t

pub run_from-linked_end : (next : List ℕ) (u r n : ℕ) → n ≡ 0 → run_from r (linked next u n) ≡ 0
run_from-linked_end next u r n e = ap (λ k. run_from r (linked next u k)) e ∙ ap (run_from r) (linked-zero next u)

-- the first of the units that are left after some
pub linked-left : (next : List ℕ) (u i n : ℕ) → i < n → linked next u (n - i) ≡ u ∷ linked next (get_or next u 0) (n - (i + 1))
linked-left next u i n h = linked-rest next u (n - i) (omega arith) ∙ ap (λ k. u ∷ linked next (get_or next u 0) k) (omega arith)

-- no unit is left
pub linked-none : (next : List ℕ) (u i n : ℕ) → n ≤ i → linked next u (n - i) ≡ []
linked-none next u i n h = ap (linked next u) (omega arith) ∙ linked-zero next u

pub ruleset walking = (stepped-zero, stepped_more)

-- steps from where steps lead to
pub stepped-stepped : (next : List ℕ) (u j k : ℕ) → stepped next (stepped next u j) k ≡ stepped next u (j + k)
unfolding stepped
stepped-stepped next u zero k = ap (λ (n : ℕ). stepped next u n) (sym (zero-add k))
stepped-stepped next u (suc j) k =
    let e : suc (j + k) ≡ suc j + k = omega arith in
    stepped-stepped next (get_or next u 0) j k ∙ ap (λ (n : ℕ). stepped next u n) e
