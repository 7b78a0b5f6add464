-- Draws one after another, and lists that grow by them.
use Rattle.std.proofs.Common.{◌≡◌, ◌<◌, ℕ, zero, suc, ◌+◌, ◌-◌, ◌%◌, List, [], ◌∷◌, ◌++◌, refl, ap, ◌∙◌, sym, arith}
use Rattle.std.proofs.Common.{append_assoc, append-nil}
use Rattle.sample_product.specs.Draws.{next, draw, after, bytes}
use Rattle.sample_product.specs.Images.{chunks, after_chunks, groups}

one-more : (n : ℕ) → n + 1 ≡ suc n
one-more n = omega arith

after-suc : (n x : ℕ) → after (suc n) x ≡ next (after n x)
unfolding after
after-suc zero x = refl
after-suc (suc n) x = after-suc n (next x)

bytes-suc : (n x : ℕ) → bytes (suc n) x ≡ bytes n x ++ draw (after n x) % 256 ∷ []
unfolding bytes after
bytes-suc zero x = refl
bytes-suc (suc n) x = ap (λ rest. draw x % 256 ∷ rest) (bytes-suc n (next x))

-- one draw more, after n of them
pub after-more : (n x : ℕ) → after (n + 1) x ≡ next (after n x)
after-more n x = ap (λ m. after m x) (one-more n) ∙ after-suc n x

bytes-more : (n x : ℕ) → bytes (n + 1) x ≡ bytes n x ++ draw (after n x) % 256 ∷ []
bytes-more n x = ap (λ m. bytes m x) (one-more n) ∙ bytes-suc n x

-- before any draw
pub put-none : (x : ℕ) (old : List ℕ) → old ≡ old ++ bytes 0 x
unfolding bytes
put-none x old = sym (append-nil old)

pub after-none : (x : ℕ) → x ≡ after 0 x
unfolding after
after-none x = refl

-- a list that grows twice
pub grown : {X : Type 0} (old s t : List X) {now more : List X} → now ≡ old ++ s → more ≡ now ++ t → more ≡ old ++ (s ++ t)
grown old s t p q = q ∙ ap (λ l. l ++ t) p ∙ append_assoc old s t

-- a byte more, after n drawn ones
pub put-more : (n x byte : ℕ) (old : List ℕ) {now more : List ℕ} → now ≡ old ++ bytes n x → byte ≡ draw (after n x) % 256
    → more ≡ now ++ byte ∷ [] → more ≡ old ++ bytes (n + 1) x
put-more n x byte old p b q =
    grown old (bytes n x) (byte ∷ []) p q
    ∙ ap (λ c. old ++ (bytes n x ++ c ∷ [])) b
    ∙ ap (λ l. old ++ l) (sym (bytes-more n x))

groups-suc : (n m x : ℕ) → n ≡ suc m → groups n x ≡ chunks x ++ groups m (after_chunks x)
unfolding groups
groups-suc n m x e = ap (λ k. groups k x) e

-- the next three chunks, where there are more
pub put-chunks : (n i x : ℕ) (all now : List ℕ) {more : List ℕ} → i < n → now ++ groups (n - i) x ≡ all → more ≡ now ++ chunks x
    → more ++ groups (n - (i + 1)) (after_chunks x) ≡ all
put-chunks n i x all now h p q =
    let rest = groups (n - (i + 1)) (after_chunks x) in
    ap (λ l. l ++ rest) q
    ∙ append_assoc now (chunks x) rest
    ∙ ap (λ l. now ++ l) (sym (groups-suc (n - i) (n - (i + 1)) x (omega (arith, h))))
    ∙ p

no-groups : (n x : ℕ) → n ≡ 0 → groups n x ≡ []
unfolding groups
no-groups n x e = ap (λ k. groups k x) e

-- all of them were put
pub put-groups : (n x : ℕ) (all now : List ℕ) → n ≡ 0 → now ++ groups n x ≡ all → now ≡ all
put-groups n x all now e p = sym (append-nil now) ∙ ap (λ l. now ++ l) (sym (no-groups n x e)) ∙ p
