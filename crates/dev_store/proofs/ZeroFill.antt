-- Zeros over a range of a partition.
use Rattle.std.proofs.Common.{◌≡◌, ℕ, zero, suc, ◌*◌, ◌/◌, ◌%◌, ◌<◌, ◌≤◌, List, [], ◌∷◌, take, refl, sym, ap, subst, ◌∙◌, arith}
use Rattle.std.specs.Prelude.{Option}
use Rattle.fb_frame.specs.Bytes.{zeros}
use Rattle.dev_model.specs.Images.{copies}
use Rattle.dev_store.specs.declared.part_place.Part.{Part}
use Rattle.dev_store.specs.Changes.{repeated}
use Rattle.dev_store.specs.PartPlaces.{Puts, PutsSome}
use Rattle.dev_store.proofs.MadeText.{length-zeros}
use Rattle.dev_store.proofs.PartFills.{repeated_front}

abbrev four : List ℕ
four = 0 ∷ 0 ∷ 0 ∷ 0 ∷ []

copies-zeros : (n : ℕ) → copies n four ≡ zeros (4 * n)
unfolding zeros
copies-zeros zero = refl
copies-zeros (suc n) = let e : suc (suc (suc (suc (4 * n)))) ≡ 4 * suc n = omega arith in ap (λ l. 0 ∷ 0 ∷ 0 ∷ 0 ∷ l) (copies-zeros n) ∙ ap zeros e

repeated-zeros : (count : ℕ) → count % 4 ≡ 0 → repeated count four ≡ zeros count
repeated-zeros count h = let e : 4 * (count / 4) ≡ count = omega arith in copies-zeros (count / 4) ∙ ap zeros e

-- the buffer's first bytes are zeros, and it holds nothing else
pub zeros-front : (len : ℕ) (new : List ℕ) → new ≡ repeated len four → 0 < len → len % 4 ≡ 0 → take 4 new ≡ four
zeros-front len new h some w = ap (take 4) h ∙ repeated_front 4 len four refl (omega arith) refl

-- zeros were written over the range
pub zeros-put : (part : Part) (from count len : ℕ) (new : List ℕ) (a b c : Option (List ℕ)) → new ≡ repeated len four → 0 < len → len % 4 ≡ 0 → count % 4 ≡ 0 → c ≡ b →
    Puts part from (repeated count (take 4 new)) a b → Puts part from (zeros count) a c
zeros-put part from count len new a b c h some w k e puts =
    let z : repeated count (take 4 new) ≡ zeros count = ap (repeated count) (zeros-front len new h some w) ∙ repeated-zeros count k in
    subst (λ xs. Puts part from xs a c) z (subst (Puts part from (repeated count (take 4 new)) a) (sym e) puts)

-- what was written whole is some of it
pub zeros-some : (part : Part) (from count : ℕ) (a b : Option (List ℕ)) → Puts part from (zeros count) a b → PutsSome part from count a b
zeros-some part from count a b puts layout state table name place kept =
    let same : count ≤ count = omega arith in
    (count, same, (zeros count, length-zeros count, puts layout state table name place kept))
