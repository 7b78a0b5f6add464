-- Runs of units: how long they are, what stands in them, and that their units are there.
use Rattle.std.proofs.Common.{◌≡◌, ℕ, zero, suc, ◌+◌, ◌-◌, ◌<◌, ◌≤◌, List, [], ◌∷◌, length, get_or, drop, sym, ap, ◌∙◌, inl, inr, arith, length-drop}
use Rattle.std.proofs.lemmas.List.{get_or-drop}
use Rattle.std.proofs.lemmas.Bool.{cases_lt}
use Rattle.std.proofs.lemmas.Bool.Decides.{nat_tests}
use Rattle.unit_alloc.specs.Owning.{Owning, OneOwner, units_of, run_from}
use Rattle.unit_alloc.proofs.TimesLemmas.{times_in-le-times}
use Rattle.unit_alloc.proofs.LinkedLemmas.{times_in-get_or}

run_from-le : (n : ℕ) (l : List ℕ) → run_from n l ≤ length l
run_from-le n [] = omega arith
run_from-le n (x ∷ l) = let i = run_from-le (n + 1) l in grind (arith, nat_tests)

run_from-each : (n k : ℕ) (l : List ℕ) → k < run_from n l → get_or l k 0 ≡ n + k
run_from-each n k [] h = absurd (omega arith)
run_from-each n zero (x ∷ l) h = grind (arith, nat_tests)
run_from-each n (suc k) (x ∷ l) h = let i = run_from-each (n + 1) k l in grind (arith, nat_tests)

run_from-some : (n : ℕ) (l : List ℕ) → 0 < length l → n ≡ get_or l 0 0 → 0 < run_from n l
run_from-some n [] h e = absurd (omega arith)
run_from-some n (x ∷ l) h e = grind (arith, nat_tests)

-- a run has a unit
pub run-some : (list : List ℕ) (place first run : ℕ) → place < length list → first ≡ get_or list place 0 → run ≡ run_from first (drop place list) → 0 < run
run-some list place first run inside unit e =
    let d = length-drop place list in
    let at : first ≡ get_or (drop place list) 0 0 = unit ∙ sym (get_or-drop place list 0 0 ∙ ap (λ (k : ℕ). get_or list k 0) (omega arith)) in
    let some = run_from-some first (drop place list) (omega arith) at in
    omega arith

-- it has no more than are left
pub run-rest : (list : List ℕ) (place first run : ℕ) → place < length list → run ≡ run_from first (drop place list) → place + run ≤ length list
run-rest list place first run inside e =
    let d = length-drop place list in
    let le = run_from-le first (drop place list) in
    omega arith

-- its units count up by one
pub run-each : (list : List ℕ) (place first run : ℕ) → run ≡ run_from first (drop place list) → (k : ℕ) → k < run → get_or list (place + k) 0 ≡ first + k
run-each list place first run e k h =
    sym (get_or-drop place list k 0) ∙ run_from-each first k (drop place list) (omega arith)

-- a unit of a part is there
pub unit-there : (m : Owning) (part place : ℕ) → OneOwner m → part < length m.parts → place < length (units_of m part) → get_or (units_of m part) place 0 < m.units
unit-there m part place one inside h =
    let u = get_or (units_of m part) place 0 in
    let some = times_in-get_or (units_of m part) place h in
    let all = times_in-le-times u m.parts part inside in
    elim (cases_lt u m.units) [
      | inl lt ↦ lt
      | inr ge ↦ let none = one.within u ge in absurd (omega arith)
    ]

pub unit-is_there : (m : Owning) (part place unit : ℕ) → OneOwner m → part < length m.parts → place < length (units_of m part) →
    unit ≡ get_or (units_of m part) place 0 → unit < m.units
unit-is_there m part place unit one inside h e = let there = unit-there m part place one inside h in omega arith

-- the units of a run are there
pub run-there : (m : Owning) (part place first run : ℕ) → OneOwner m → part < length m.parts → place < length (units_of m part) →
    first ≡ get_or (units_of m part) place 0 → run ≡ run_from first (drop place (units_of m part)) → first + run ≤ m.units
run-there m part place first run one inside h unit e =
    let list : List ℕ = units_of m part in
    let some = run-some list place first run h unit e in
    let rest = run-rest list place first run h e in
    let last : ℕ = run - 1 in
    let at = run-each list place first run e last (omega arith) in
    let there = unit-there m part (place + last) one inside (omega arith) in
    omega arith

pub ruleset runs = (run-some, run-rest, run-each, unit-is_there, run-there)
