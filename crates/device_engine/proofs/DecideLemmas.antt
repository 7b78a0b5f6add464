-- Two devices are the same, or they aren't.
use Rattle.std.proofs.Common.{◌≡◌, ◌⊎◌, inl, inr, refl, ap, ℕ, zero, suc, arith}
use Rattle.std.specs.Coded.{Coded, codes}
use Rattle.dev_model.specs.declared.device.Dev.{Dev}
use base.Stored.{Gv, gnil, gnum, gcons}

-- a fact, or none
abbrev Or-not : Type 0 → Type 0
Or-not P = P ⊎ (P → ⊥)

number-is : (m n : ℕ) → Or-not (m ≡ n)
number-is zero zero = inl refl
number-is zero (suc n) = inr (λ e. omega arith)
number-is (suc m) zero = inr (λ e. omega arith)
number-is (suc m) (suc n) = by (number-is m n) where
  by : Or-not (m ≡ n) → Or-not (suc m ≡ suc n)
  by (inl e) = inl (ap suc e)
  by (inr k) = inr (λ e. k (omega arith))

pair-is : (a b c d : Gv) → Or-not (a ≡ c) → Or-not (b ≡ d) → Or-not (gcons a b ≡ gcons c d)
pair-is a b c d (inl p) (inl q) = inl (λ i. gcons (p i) (q i))
pair-is a b c d (inl p) (inr k) = inr (λ e. k cc)
pair-is a b c d (inr k) q = inr (λ e. k cc)

leaf-is : (m n : ℕ) → Or-not (m ≡ n) → Or-not (gnum m ≡ gnum n)
leaf-is m n (inl e) = inl (ap gnum e)
leaf-is m n (inr k) = inr (λ e. k cc)

code-is : (x y : Gv) → Or-not (x ≡ y)
code-is gnil gnil = inl refl
code-is gnil (gnum n) = inr (λ e. absurd cc)
code-is gnil (gcons c d) = inr (λ e. absurd cc)
code-is (gnum m) gnil = inr (λ e. absurd cc)
code-is (gnum m) (gnum n) = leaf-is m n (number-is m n)
code-is (gnum m) (gcons c d) = inr (λ e. absurd cc)
code-is (gcons a b) gnil = inr (λ e. absurd cc)
code-is (gcons a b) (gnum n) = inr (λ e. absurd cc)
code-is (gcons a b) (gcons c d) = pair-is a b c d (code-is a c) (code-is b d)

value-is : {A : Type 0} (c : Coded A) (x y : A) → Or-not (c.code x ≡ c.code y) → Or-not (x ≡ y)
value-is c x y (inl e) = inl (c.inj x y e)
value-is c x y (inr k) = inr (λ e. k (ap c.code e))

coded-device : Coded Dev
coded-device = hlevel codes

pub device-is : (d e : Dev) → (d ≡ e) ⊎ (d ≡ e → ⊥)
device-is d e = value-is coded-device d e (code-is (coded-device.code d) (coded-device.code e))
