-- Numbers of any length, and tests on them.
use Rattle.std.proofs.Common.{◌≡◌, ◌∙◌, refl, ap, sym, ℕ, suc, zero, ◌+◌, ◌-◌, ◌*◌, ◌^◌, ◌<◌, ◌≤◌, min, Bool, true, false, ◌&&◌, ◌||◌, List, [], ◌∷◌, length, Some, None, if◌then◌else◌, arith, unwrap_or}
use Rattle.std.specs.Prelude.{nat_le, nat_lt, ◌==◌, fold, IsTrue}
use Rattle.std.specs.List.{list_all}
use Rattle.std.proofs.lemmas.Bool.Decides.{nat_tests}
use Rattle.dev_model.proofs.Valid.{both}
use Rattle.fb_frame.specs.Numbers.{is_digit, digits_worth, read_dec}
use Rattle.dev_store.specs.LayoutLines.{is_number}

-- a digit more
abbrev step : ℕ → ℕ → ℕ
step n b = 10 * n + (b - 48)

-- as many zeros more
abbrev tens : ℕ → ℕ → ℕ
tens zero n = n
tens (suc k) n = tens k (10 * n)

tens-more : (k a b : ℕ) → a ≤ b → tens k a ≤ tens k b
tens-more zero a b h = h
tens-more (suc k) a b h = tens-more k (10 * a) (10 * b) (omega arith)

least : (n : ℕ) (xs : List ℕ) → n ≤ fold step n xs
least n [] = omega arith
least n (x ∷ xs) = let h = least (step n x) xs in omega (arith, h)

grows : (k n : ℕ) (xs : List ℕ) → k ≤ length xs → tens k n ≤ fold step n xs
grows zero n xs h = least n xs
grows (suc k) n [] h = absurd (omega arith)
grows (suc k) n (x ∷ xs) h =
    let l : k ≤ length xs = omega arith in
    let i = grows k (step n x) xs l in
    let m = tens-more k (10 * n) (step n x) (omega arith) in
    omega (arith, i, m)

-- more than 20 digits, the first of which isn't 0, pass 64 bits
long-worth : (b : ℕ) (xs : List ℕ) → 48 < b → 20 ≤ length xs → 2 ^ 64 ≤ digits_worth (b ∷ xs)
long-worth b xs h l =
    let first : 1 ≤ step 0 b = omega arith in
    let i : tens 20 (step 0 b) ≤ fold step (step 0 b) xs = grows 20 (step 0 b) xs l in
    let m : 100000000000000000000 ≤ tens 20 (step 0 b) = tens-more 20 1 (step 0 b) first in
    omega (arith, i, m)

abbrev pub least-too-big : ℕ
least-too-big = 18446744073709551615

pick : (row small : Bool) (n : ℕ) → nat_lt n (2 ^ 64) ≡ small → (small ≡ true → row ≡ true) → unwrap_or (if row && small then Some n else None) least-too-big ≡ min n least-too-big
pick true true n e h = grind (arith, nat_tests)
pick false true n e h = absurd (let k = h refl in cc)
pick true false n e h = grind (arith, nat_tests)
pick false false n e h = grind (arith, nat_tests)

row-is : (a t l o : Bool) → (a && l && o) ≡ true → t ≡ true → (a && t && l && o) ≡ true
row-is true true true true h k = refl
row-is a false l o h k = absurd cc
row-is false true l o h k = absurd cc
row-is true true false o h k = absurd cc
row-is true true true false h k = absurd cc

short : (b : ℕ) (xs : List ℕ) → is_number (b ∷ xs) ≡ true → nat_lt (digits_worth (b ∷ xs)) (2 ^ 64) ≡ true → nat_le (length (b ∷ xs)) 20 ≡ true
short b xs h k = by (nat_le (length (b ∷ xs)) 20) refl where
  by : (t : Bool) → nat_le (length (b ∷ xs)) 20 ≡ t → t ≡ true
  by true e = refl
  by false e =
      let o = (both (nat_le 1 (length (b ∷ xs)) && list_all is_digit (b ∷ xs)) (length (b ∷ xs) == 1 || nat_lt 48 b) h).1 in
      let first : 48 < b = grind (arith, nat_tests, o) in
      let long : 20 ≤ length xs = grind (arith, nat_tests) in
      let worth = long-worth b xs first long in
      absurd (let w : 2 ^ 64 ≤ digits_worth (b ∷ xs) = worth in grind (arith, nat_tests))

pub number-is : (word : List ℕ) → IsTrue (is_number word) → unwrap_or (read_dec word) least-too-big ≡ min (digits_worth word) least-too-big
number-is [] h = absurd cc
number-is (b ∷ xs) h =
    pick (nat_le 1 (length (b ∷ xs)) && nat_le (length (b ∷ xs)) 20 && list_all is_digit (b ∷ xs) && (length (b ∷ xs) == 1 || nat_lt 48 b)) (nat_lt (digits_worth (b ∷ xs)) (2 ^ 64)) (digits_worth (b ∷ xs)) refl (λ k. row-is (nat_le 1 (length (b ∷ xs))) (nat_le (length (b ∷ xs)) 20) (list_all is_digit (b ∷ xs)) (length (b ∷ xs) == 1 || nat_lt 48 b) h (short b xs h k))

pub number-some : (word : List ℕ) (n : ℕ) → IsTrue (is_number word) → Some n ≡ read_dec word → n ≡ min (digits_worth word) least-too-big
number-some word n h e = ap (λ o. unwrap_or o least-too-big) e ∙ number-is word h

pub number-none : (word : List ℕ) → IsTrue (is_number word) → None ≡ read_dec word → least-too-big ≡ min (digits_worth word) least-too-big
number-none word h e = ap (λ o. unwrap_or o least-too-big) e ∙ number-is word h

pub ruleset numbers = (number-some, number-none)

-- A test that no great number passes says of a number what it says of the lesser of it and the greatest.
pub capped : (p : ℕ → Bool) → ((n : ℕ) → least-too-big ≤ n → p n ≡ false) → (w : ℕ) → p (min w least-too-big) ≡ p w
capped p h w = by (nat_lt w least-too-big) refl where
  by : (t : Bool) → nat_lt w least-too-big ≡ t → p (min w least-too-big) ≡ p w
  by true e = let same : min w least-too-big ≡ w = grind (arith, nat_tests) in ap p same
  by false e =
      let large : least-too-big ≤ w = grind (arith, nat_tests) in
      let same : min w least-too-big ≡ least-too-big = omega arith in
      ap p same ∙ (h least-too-big (omega arith) ∙ sym (h w large))

-- a number that passes such a test is below the greatest
pub uncapped : (p : ℕ → Bool) → ((n : ℕ) → least-too-big ≤ n → p n ≡ false) → (w : ℕ) → p (min w least-too-big) ≡ true → min w least-too-big ≡ w
uncapped p h w k = by (nat_lt w least-too-big) refl where
  by : (t : Bool) → nat_lt w least-too-big ≡ t → min w least-too-big ≡ w
  by true e = grind (arith, nat_tests)
  by false e =
      let large : least-too-big ≤ w = grind (arith, nat_tests) in
      let same : min w least-too-big ≡ least-too-big = omega arith in
      absurd (let z : p (min w least-too-big) ≡ false = ap p same ∙ h least-too-big (omega arith) in cc)
