-- How many hexadecimal digits a number of 64 bits has.
use Rattle.std.proofs.Common.{ℕ, zero, suc, ◌+◌, ◌*◌, ◌/◌, ◌%◌, ◌<◌, ◌≤◌, ◌^◌, Bool, true, false, cond, List, [], ◌∷◌, length, ◌≡◌, sym, subst, arith, ◌==◌}
use Rattle.std.specs.Fmt.{digits, digits_onto, digit_glyph}
use Rattle.std.proofs.lemmas.Bool.Decides.{nat_tests}

-- 16 to the power of k, the least number of more than k digits
top : ℕ → ℕ
top zero = 1
top (suc k) = 16 * top k

onto-step : (b : Bool) (f k n : ℕ) (acc : List ℕ) → 0 < k → length (digits_onto f 16 true (n / 16) (digit_glyph true (n % 16) ∷ acc)) ≤ k + length acc → length (cond b (digit_glyph true (n % 16) ∷ acc) (digits_onto f 16 true (n / 16) (digit_glyph true (n % 16) ∷ acc))) ≤ k + length acc
onto-step true f k n acc h g = omega arith
onto-step false f k n acc h g = g

onto-short : (f k n : ℕ) (acc : List ℕ) → n < top (suc k) → length (digits_onto f 16 true n acc) ≤ suc k + length acc
unfolding top
onto-short zero k n acc h = omega arith
onto-short (suc f) zero n acc h =
    let e : (n / 16 == 0) ≡ true = grind (arith, nat_tests) in
    subst (λ b. length (cond b (digit_glyph true (n % 16) ∷ acc) (digits_onto f 16 true (n / 16) (digit_glyph true (n % 16) ∷ acc))) ≤ 1 + length acc) (sym e) (omega arith)
onto-short (suc f) (suc k) n acc h =
    let ih = onto-short f k (n / 16) (digit_glyph true (n % 16) ∷ acc) (omega (arith, h)) in
    onto-step (n / 16 == 0) f (suc (suc k)) n acc (omega arith) (omega (arith, ih))

pub digits-short : (n : ℕ) → n < 2 ^ 64 → length (digits 16 true n) ≤ 16
unfolding digits top
digits-short n h = onto-short 64 15 n [] h
