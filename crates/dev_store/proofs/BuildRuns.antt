-- Maximal runs of units, from a place on.
use Rattle.std.proofs.Common.{◌≡◌, ℕ, suc, ◌+◌, ◌<◌, ◌≤◌, Bool, true, false, List, [], ◌∷◌, ◌++◌, length, get_or, drop, refl, sym, ap, ◌∙◌, arith, drop_of_length-le, append-nil}
use Rattle.std.specs.Prelude.{◌==◌, if◌then◌else◌}
use Rattle.std.proofs.Math.Seq.{drop-cons}
use Rattle.std.proofs.lemmas.List.{drop-drop}
use Rattle.std.proofs.lemmas.Bool.Decides.{nat_tests}
use Rattle.unit_alloc.specs.Owning.{run_from}
use Rattle.super_meta.specs.declared.table.Extent.{Extent}
use Rattle.dev_store.specs.declared.layout.SuperPart.{SuperPart}
use Rattle.dev_store.specs.Runs.{Run, run_on, runs_of, extents_for}
use Rattle.dev_store.specs.Building.{run_of}

first-on : (u v r n : ℕ) (rest : List Run) (l : List ℕ) (b : Bool) → (v == u + 1) ≡ b → runs_of (v ∷ l) ≡ run_of (v, 1 + r) ∷ rest → rest ≡ runs_of (drop r l) →
    n ≡ (if b then 1 + r else 0) → run_on u (runs_of (v ∷ l)) ≡ run_of (u, 1 + n) ∷ runs_of (drop n (v ∷ l))
first-on u v r n rest l true e h k m =
    let c : 1 + r + 1 ≡ 1 + n = omega arith in
    let d : n ≡ suc r = omega arith in
    ap (run_on u) h
    ∙ (ap (λ b. if b then run_of (u, 1 + r + 1) ∷ rest else run_of (u, 1) ∷ run_of (v, 1 + r) ∷ rest) e
    ∙ ((λ i. run_of (u, c i) ∷ k i) ∙ ap (λ x. run_of (u, 1 + n) ∷ runs_of (drop x (v ∷ l))) (sym d)))
first-on u v r n rest l false e h k m =
    let c : 1 ≡ 1 + n = omega arith in
    let d : n ≡ 0 = m in
    ap (run_on u) h
    ∙ (ap (λ b. if b then run_of (u, 1 + r + 1) ∷ rest else run_of (u, 1) ∷ run_of (v, 1 + r) ∷ rest) e
    ∙ ((λ i. run_of (u, c i) ∷ sym h i) ∙ ap (λ x. run_of (u, 1 + n) ∷ runs_of (drop x (v ∷ l))) (sym d)))

-- the first run has as many units as count up from its first, and the others are the runs of what follows
first-run : (u : ℕ) (l : List ℕ) → runs_of (u ∷ l) ≡ run_of (u, 1 + run_from (u + 1) l) ∷ runs_of (drop (run_from (u + 1) l) l)
unfolding runs_of
first-run u [] = refl
first-run u (v ∷ l) = by (v == u + 1) refl (first-run v l)
  where
    by : (b : Bool) → (v == u + 1) ≡ b → runs_of (v ∷ l) ≡ run_of (v, 1 + run_from (v + 1) l) ∷ runs_of (drop (run_from (v + 1) l) l) →
        runs_of (u ∷ v ∷ l) ≡ run_of (u, 1 + run_from (u + 1) (v ∷ l)) ∷ runs_of (drop (run_from (u + 1) (v ∷ l)) (v ∷ l))
    by true e h =
        let w : v ≡ u + 1 = grind (arith, nat_tests) in
        first-on u v (run_from (v + 1) l) (run_from (u + 1) (v ∷ l)) (runs_of (drop (run_from (v + 1) l) l)) l true e h refl
        (ap (λ b. if b then 1 + run_from (u + 1 + 1) l else 0) e ∙ ap (λ x. 1 + run_from (x + 1) l) (sym w))
    by false e h =
        first-on u v (run_from (v + 1) l) (run_from (u + 1) (v ∷ l)) (runs_of (drop (run_from (v + 1) l) l)) l false e h refl
        (ap (λ b. if b then 1 + run_from (u + 1 + 1) l else 0) e)

run-self : (u : ℕ) (l : List ℕ) → run_from u (u ∷ l) ≡ 1 + run_from (u + 1) l
run-self u l = let e : (u == u) ≡ true = let r : u ≡ u = refl in grind (arith, nat_tests) in ap (λ b. if b then 1 + run_from (u + 1) l else 0) e

-- the run at a place
pub run-here : (units : List ℕ) (place : ℕ) (run : ℕ × ℕ) → place < length units → run.0 ≡ get_or units place 0 → run.1 ≡ run_from run.0 (drop place units) →
    runs_of (drop place units) ≡ run_of run ∷ runs_of (drop (place + run.1) units)
run-here units place run h f n =
    let u = run.0 in
    let l = drop (suc place) units in
    let front : drop place units ≡ u ∷ l = drop-cons units place 0 h ∙ ap (λ x. x ∷ l) (sym f) in
    let m : run.1 ≡ 1 + run_from (u + 1) l = n ∙ (ap (run_from u) front ∙ run-self u l) in
    let k : suc place + run_from (u + 1) l ≡ place + run.1 = omega arith in
    ap runs_of front
    ∙ (first-run u l
    ∙ (λ i. run_of (u, sym m i) ∷ runs_of ((drop-drop (run_from (u + 1) l) (suc place) units ∙ ap (λ x. drop x units) k) i)))

pub ruleset runs_here = (run-here)

-- no run is left
pub extents-end : (s : SuperPart) (units : List ℕ) (place left : ℕ) (now end : List Extent) → length units ≤ place →
    now ++ extents_for s left (runs_of (drop place units)) ≡ end → now ≡ end
unfolding runs_of
extents-end s units place left now end h k =
    sym (ap (λ l. now ++ extents_for s left (runs_of l)) (drop_of_length-le units h) ∙ append-nil now) ∙ k
