-- A part that keeps its first units, and what is handed out before or after.
use Rattle.std.proofs.Common.{◌≡◌, ℕ, ◌<◌, ◌≤◌, ◌≢◌, List, [], ◌∷◌, ◌++◌, length, take, sym, ap, ◌∙◌, arith}
use Rattle.std.proofs.lemmas.List.{take-append-le, take_all, set-set, set_comm, get_or-set_same, get_or-set_other, length-append, set-get_or}
use Rattle.unit_alloc.specs.Owning.{Owning, units_of, handed, kept, with_units}

-- the last list counts
pub with_units-with_units : (m : Owning) (p : ℕ) (xs ys : List ℕ) → with_units (with_units m p xs) p ys ≡ with_units m p ys
with_units-with_units m p xs ys = ap (λ (l : List (List ℕ)). let n : Owning = record m { parts = l } in n) (set-set m.parts p xs ys)

-- two parts' lists, in either order
pub with_units_comm : (m : Owning) (p q : ℕ) (xs ys : List ℕ) → p ≢ q → with_units (with_units m p xs) q ys ≡ with_units (with_units m q ys) p xs
with_units_comm m p q xs ys ne = ap (λ (l : List (List ℕ)). let n : Owning = record m { parts = l } in n) (set_comm m.parts p q xs ys ne)

pub kept-handed_full : (m : Owning) (p k u : ℕ) → p < length m.parts → k ≤ length (units_of m p) → kept (handed m p (u ∷ [])) p k ≡ kept m p k
kept-handed_full m p k u h full =
    with_units-with_units m p (units_of m p ++ u ∷ []) (take k (units_of (handed m p (u ∷ [])) p))
    ∙ ap (λ l. with_units m p (take k l)) (get_or-set_same m.parts p (units_of m p ++ u ∷ []) [] h)
    ∙ ap (λ l. with_units m p l) (take-append-le k (units_of m p) (u ∷ []) full)

pub kept-handed_room : (m : Owning) (p k u : ℕ) → p < length m.parts → length (units_of m p) < k → kept (handed m p (u ∷ [])) p k ≡ handed (kept m p k) p (u ∷ [])
kept-handed_room m p k u h room =
    let n : length (units_of m p ++ u ∷ []) ≤ k = omega (arith, length-append (units_of m p) (u ∷ [])) in
    with_units-with_units m p (units_of m p ++ u ∷ []) (take k (units_of (handed m p (u ∷ [])) p))
    ∙ ap (λ l. with_units m p (take k l)) (get_or-set_same m.parts p (units_of m p ++ u ∷ []) [] h)
    ∙ ap (λ l. with_units m p l) (take_all k (units_of m p ++ u ∷ []) n)
    ∙ ap (λ l. with_units m p (l ++ u ∷ [])) (sym (take_all k (units_of m p) (omega arith)) ∙ sym (get_or-set_same m.parts p (take k (units_of m p)) [] h))
    ∙ sym (with_units-with_units m p (take k (units_of m p)) (units_of (kept m p k) p ++ u ∷ []))

pub kept-handed_other : (m : Owning) (p q k u : ℕ) → q ≢ p → kept (handed m q (u ∷ [])) p k ≡ handed (kept m p k) q (u ∷ [])
kept-handed_other m p q k u ne =
    ap (λ l. with_units (handed m q (u ∷ [])) p (take k l)) (get_or-set_other m.parts q p (units_of m q ++ u ∷ []) [] (λ e. ne (sym e)))
    ∙ with_units_comm m q p (units_of m q ++ u ∷ []) (take k (units_of m p)) ne
    ∙ ap (λ l. with_units (kept m p k) q (l ++ u ∷ [])) (sym (get_or-set_other m.parts p q (take k (units_of m p)) [] ne))

-- no units stay no units
pub kept-none : (m : Owning) (p k : ℕ) → units_of m p ≡ [] → kept m p k ≡ m
kept-none m p k e =
    ap (λ l. with_units m p (take k l)) e
    ∙ ap (λ l. with_units m p l) (take_all k [] (omega arith) ∙ sym e)
    ∙ ap (λ (l : List (List ℕ)). let n : Owning = record m { parts = l } in n) (set-get_or m.parts p [])

-- a part that keeps all of its units
pub kept-all : (m : Owning) (p k : ℕ) → length (units_of m p) ≤ k → kept m p k ≡ m
kept-all m p k h =
    ap (λ l. with_units m p l) (take_all k (units_of m p) h)
    ∙ ap (λ (l : List (List ℕ)). let n : Owning = record m { parts = l } in n) (set-get_or m.parts p [])
