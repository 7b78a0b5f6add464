use Rattle.std.proofs.Common.{◌≡◌, ◌≢◌, ◌∙◌, refl, sym, ap, ℕ, suc, ◌+◌, ◌-◌, ◌/◌, ◌%◌, ◌<◌, Bool, true, false, cond, eqb, List, [], ◌∷◌, length, drop, set, arith}
use Rattle.std.specs.Fmt.{digits, digits_onto, digit_glyph}
use Rattle.std.proofs.lemmas.Bool.{eqb-true}
use Rattle.std.proofs.lemmas.List.{drop_all, drop-set}
use Rattle.dev_store.proofs.variables_text.write_digits.Goals as goal

whole : (base : ℕ) (upper : Bool) (n : ℕ) → digits_onto 64 base upper n [] ≡ digits base upper n
unfolding digits
whole base upper n = refl

init : (base : ℕ) (upper : Bool) (n : ℕ) (xs : List ℕ) → length xs ≡ 64 → digits_onto 64 base upper n (drop 64 xs) ≡ digits base upper n
init base upper n xs h = ap (digits_onto 64 base upper n) (drop_all 64 xs (omega arith)) ∙ whole base upper n

pub loop-k-init : goal.loop-k-init
loop-k-init c = init c.args.base c.args.upper c.args.number c.args.buffer.now (omega arith)

no-zero : (n : ℕ) → n ≢ 0 → eqb n 0 ≡ false
no-zero n ne = by (eqb n 0) refl where
  by : (b : Bool) → eqb n 0 ≡ b → b ≡ false
  by true e = absurd (ne (eqb-true n 0 e))
  by false e = refl

one-more : (base : ℕ) (upper : Bool) (n m : ℕ) (acc : List ℕ) → n / base ≢ 0 → digits_onto (suc m) base upper n acc ≡ digits_onto m base upper (n / base) (digit_glyph upper (n % base) ∷ acc)
one-more base upper n m acc ne = ap (λ (b : Bool). cond b (digit_glyph upper (n % base) ∷ acc) (digits_onto m base upper (n / base) (digit_glyph upper (n % base) ∷ acc))) (no-zero (n / base) ne)

step : (base : ℕ) (upper : Bool) (n m g : ℕ) (xs ds : List ℕ) → length xs ≡ 64 → m < 64 → n / base ≢ 0 → g ≡ digit_glyph upper (n % base) → digits_onto (suc m) base upper n (drop (suc m) xs) ≡ ds →
    digits_onto m base upper (n / base) (drop m (set xs m g)) ≡ ds
step base upper n m g xs ds l h ne e i =
    ap (digits_onto m base upper (n / base)) (drop-set xs m g (omega arith) ∙ ap (λ d. d ∷ drop (m + 1) xs) e)
    ∙ (ap (λ k. digits_onto m base upper (n / base) (digit_glyph upper (n % base) ∷ drop k xs)) {x = m + 1} {y = suc m} (omega arith) ∙ (sym (one-more base upper n m (drop (suc m) xs) ne) ∙ i))

at-place : (base : ℕ) (upper : Bool) (n k g : ℕ) (xs ds : List ℕ) → length xs ≡ 64 → k < 64 → n / base ≢ 0 → g ≡ digit_glyph upper (n % base) → digits_onto (64 - k) base upper n (drop (64 - k) xs) ≡ ds →
    digits_onto (64 - (k + 1)) base upper (n / base) (drop (64 - (k + 1)) (set xs (63 - k) g)) ≡ ds
at-place base upper n k g xs ds l h ne e i =
    ap (λ m. digits_onto m base upper (n / base) (drop m (set xs (63 - k) g))) {x = 64 - (k + 1)} {y = 63 - k} (omega arith)
    ∙ step base upper n (63 - k) g xs ds l (omega arith) ne e (ap (λ m. digits_onto m base upper n (drop m xs)) {x = suc (63 - k)} {y = 64 - k} (omega arith) ∙ i)

pub loop-k-preserved : goal.loop-k-preserved
loop-k-preserved c = at-place c.args.base c.args.upper c.loop-k.rest c.loop-k.k c.glyph.result c.loop-k.buffer (digits c.args.base c.args.upper c.args.number) (omega arith) (omega arith) c.if-rest-eq0.false c.glyph.ensures c.loop-k.invariant
