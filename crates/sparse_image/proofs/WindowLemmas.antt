-- Reading through a window.
use Rattle.std.proofs.Common.{◌≡◌, ℕ, ◌+◌, ◌-◌, ◌≤◌, List, length, take, drop, Option, Some, None, sym, ap, ◌∙◌, arith}
use Rattle.std.proofs.lemmas.List.{take-take, drop-take, drop-drop}
use Rattle.sparse_image.specs.Outside.{IsRead}
use Rattle.sparse_image.proofs.ReadLemmas.{IsRead-none}

part-same : (n k m : ℕ) (xs : List ℕ) → k + n ≤ m → take n (drop k (take m xs)) ≡ take n (drop k xs)
part-same n k m xs h =
    let e : m ≡ k + (m - k) = omega arith in
    ap (λ (x : ℕ). take n (drop k (take x xs))) e ∙ ap (λ (ys : List ℕ). take n ys) (drop-take k (m - k) xs) ∙ take-take n (m - k) (drop k xs) (omega arith)

-- what was copied of a window was read
pub IsRead-near : (o : Option (List ℕ)) (place at skip n have : ℕ) (room buf : List ℕ) → IsRead o place room have → at ≡ place + skip → skip + n ≤ have → take n buf ≡ take n (drop skip (take have room)) → IsRead o at buf n
IsRead-near None place at skip n have room buf h e l c = tt
IsRead-near (Some bytes) place at skip n have room buf h e l c =
    c ∙ ap (λ (xs : List ℕ). take n (drop skip xs)) h ∙ part-same n skip have (drop place bytes) l ∙ ap (λ (xs : List ℕ). take n xs) (drop-drop skip place bytes ∙ ap (λ (x : ℕ). drop x bytes) (sym e))

pub ruleset nears = (IsRead-none)
