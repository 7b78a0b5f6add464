-- Pieces that are put over one after another.
use Rattle.std.proofs.Common.{◌≡◌, ℕ, zero, suc, ◌+◌, ◌-◌, ◌≤◌, List, [], ◌∷◌, ◌++◌, length, take, drop, replicate, length-append, refl, sym, ap, ◌∙◌, arith}
use Rattle.std.proofs.Math.Seq.{take-append-add}
use Rattle.std.proofs.lemmas.List.{append-nil, take-append-drop, length-replicate}
use Rattle.dev_model.proofs.Runs.{over_length}
use Rattle.sparse_image.specs.declared.runs.Run.{Run}
use Rattle.sparse_image.specs.Runs.{Left, run_at, run_cells, AreGiven, AreGivenSoFar, put_runs}
use Rattle.sparse_image.specs.Laws.{RunsPut, RunsFront}
use Rattle.dev_model.specs.Images.{over}
use Rattle.dev_model.specs.declared.cells.Cell.{Cell}
use Rattle.dev_model.specs.declared.cells.Cell.TheVariants.{Byte, Skip}

over-nothing : (n : ℕ) (old : List ℕ) → over (replicate n Skip) old ≡ old
over-nothing zero old = refl
over-nothing (suc n) [] = refl
over-nothing (suc n) (o ∷ old) = ap (λ (xs : List ℕ). o ∷ xs) (over-nothing n old)

-- a front of an image with skips behind it, and then the rest of the image
front-put : (m z : ℕ) (cells : List Cell) (old : List ℕ) → m ≤ length cells → length cells ≤ length old →
    take m (over (take m cells ++ replicate z Skip) old) ++ over (drop m cells) (drop m (over (take m cells ++ replicate z Skip) old)) ≡ over cells old
front-put zero z cells old h l = ap (λ (xs : List ℕ). over cells xs) (over-nothing z old)
front-put (suc m) z [] old h l = absurd (omega arith)
front-put (suc m) z (cell ∷ cells) [] h l = absurd (omega arith)
front-put (suc m) z (Byte b ∷ cells) (o ∷ old) h l = ap (λ (xs : List ℕ). b ∷ xs) (front-put m z cells old (omega arith) (omega arith))
front-put (suc m) z (Skip ∷ cells) (o ∷ old) h l = ap (λ (xs : List ℕ). o ∷ xs) (front-put m z cells old (omega arith) (omega arith))

-- the same from a place on, with skips before it
pub middle-put : (a m n z : ℕ) (cells : List Cell) (old : List ℕ) → n ≡ a + m → n ≤ length cells → length cells ≤ length old →
    take n (over (replicate a Skip ++ (take m (drop a cells) ++ replicate z Skip)) old) ++ over (drop n cells) (drop n (over (replicate a Skip ++ (take m (drop a cells) ++ replicate z Skip)) old))
    ≡ take a old ++ over (drop a cells) (drop a old)
middle-put zero m n z cells old e h l =
    let k : n ≡ m = omega arith in
    rw k (front-put m z cells old (omega arith) l)
middle-put (suc a) m zero z cells old e h l = absurd (omega arith)
middle-put (suc a) m (suc n) z [] old e h l = absurd (omega arith)
middle-put (suc a) m (suc n) z (cell ∷ cells) [] e h l = absurd (omega arith)
middle-put (suc a) m (suc n) z (cell ∷ cells) (o ∷ old) e h l = ap (λ (xs : List ℕ). o ∷ xs) (middle-put a m n z cells old (omega arith) (omega arith) (omega arith))

-- a run, and then what is left behind it
run-front : (own rest : List Cell) (old : List ℕ) → length own ≤ length old → take (length own) (over own old) ++ over rest (drop (length own) (over own old)) ≡ over (own ++ rest) old
run-front [] rest old h = refl
run-front (cell ∷ own) rest [] h = absurd (omega arith)
run-front (Byte b ∷ own) rest (o ∷ old) h = ap (λ (xs : List ℕ). b ∷ xs) (run-front own rest old (omega arith))
run-front (Skip ∷ own) rest (o ∷ old) h = ap (λ (xs : List ℕ). o ∷ xs) (run-front own rest old (omega arith))

run-gap : (gap n : ℕ) (own rest : List Cell) (old : List ℕ) → n ≡ gap + length own → n ≤ length old →
    take n (over (replicate gap Skip ++ own) old) ++ over rest (drop n (over (replicate gap Skip ++ own) old)) ≡ over (replicate gap Skip ++ (own ++ rest)) old
run-gap zero n own rest old e h = let k : n ≡ length own = omega arith in rw k (run-front own rest old (omega arith))
run-gap (suc gap) zero own rest old e h = absurd (omega arith)
run-gap (suc gap) (suc n) own rest [] e h = absurd (omega arith)
run-gap (suc gap) (suc n) own rest (o ∷ old) e h = ap (λ (xs : List ℕ). o ∷ xs) (run-gap gap n own rest old (omega arith) (omega arith))

run-place : (a gap place n : ℕ) (own rest : List Cell) (old : List ℕ) → place ≡ a + gap → n ≡ place + length own → n ≤ length old →
    take n (over (replicate place Skip ++ own) old) ++ over rest (drop n (over (replicate place Skip ++ own) old)) ≡ take a old ++ over (replicate gap Skip ++ (own ++ rest)) (drop a old)
run-place zero gap place n own rest old p e h = let k : place ≡ gap = omega arith in rw k (run-gap gap n own rest old (omega arith) h)
run-place (suc a) gap zero n own rest old p e h = absurd (omega arith)
run-place (suc a) gap (suc place) zero own rest old p e h = absurd (omega arith)
run-place (suc a) gap (suc place) (suc n) own rest [] p e h = absurd (omega arith)
run-place (suc a) gap (suc place) (suc n) own rest (o ∷ old) p e h = ap (λ (xs : List ℕ). o ∷ xs) (run-place a gap place n own rest old (omega arith) (omega arith) (omega arith))

given-put : (runs : List Run) (left : Left) (old : List ℕ) → AreGiven left runs → left.at + length left.cells ≤ length old → put_runs runs old ≡ take left.at old ++ over left.cells (drop left.at old)
given-put [] left old g h =
    let skips = g.1.0 in
    let none : left.cells ≡ replicate (g.0.at - left.at) Skip = skips.cells ∙ ap (λ (xs : List Cell). replicate (g.0.at - left.at) Skip ++ xs) g.1.1 ∙ append-nil (replicate (g.0.at - left.at) Skip) in
    sym (ap (λ (xs : List Cell). take left.at old ++ over xs (drop left.at old)) none ∙ ap (λ (xs : List ℕ). take left.at old ++ xs) (over-nothing (g.0.at - left.at) (drop left.at old)) ∙ take-append-drop left.at old)
given-put (run ∷ runs) left old g h =
    let now = g.0 in
    let gives = g.1.0 in
    let gap = run_at run - left.at in
    let whole = ap length gives.cells ∙ length-append (replicate gap Skip) (run_cells run ++ now.cells) in
    let n : now.at ≤ length old = omega (arith, h, whole, length-append (run_cells run) now.cells, length-replicate gap Skip, gives.at, gives.later) in
    let long : now.at + length now.cells ≤ length old = omega (arith, h, whole, length-append (run_cells run) now.cells, length-replicate gap Skip, gives.at, gives.later) in
    let same = over_length (replicate (run_at run) Skip ++ run_cells run) old in
    given-put runs now (over (replicate (run_at run) Skip ++ run_cells run) old) g.1.1 (omega (arith, same, long))
    ∙ run-place left.at gap (run_at run) now.at (run_cells run) now.cells old (omega (arith, gives.later)) gives.at n
    ∙ ap (λ (xs : List Cell). take left.at old ++ over xs (drop left.at old)) (sym gives.cells)

pub runs-put : RunsPut
runs-put file left runs old i g h =
    given-put runs left old g (omega (arith, i.at, h)) ∙ ap (λ (n : ℕ). take n old ++ over left.cells (drop n old)) i.at

given-later : (runs : List Run) (before now : Left) → AreGivenSoFar before runs now → before.at ≤ now.at
given-later [] before now g = omega (arith, ap (λ (left : Left). left.at) g)
given-later (run ∷ runs) before now (next, (gives, more)) = omega (arith, gives.later, gives.at, given-later runs next now more)

-- a front that ends after a run's cells
run-take : (gap m n : ℕ) (own rest : List Cell) → m ≡ gap + (length own + n) → take m (replicate gap Skip ++ (own ++ rest)) ≡ replicate gap Skip ++ (own ++ take n rest)
run-take zero m n own rest e = let k : m ≡ length own + n = omega (arith, e) in rw k (take-append-add own rest n)
run-take (suc gap) zero n own rest e = absurd (omega (arith, e))
run-take (suc gap) (suc m) n own rest e = ap (λ (xs : List Cell). Skip ∷ xs) (run-take gap m n own rest (omega (arith, e)))

front-given : (runs : List Run) (left now : Left) (old : List ℕ) → AreGivenSoFar left runs now → left.at + length left.cells ≤ length old →
    put_runs runs old ≡ take left.at old ++ over (take (now.at - left.at) left.cells) (drop left.at old)
front-given [] left now old g h =
    let none : now.at - left.at ≡ 0 = omega (arith, ap (λ (l : Left). l.at) g) in
    sym (ap (λ (n : ℕ). take left.at old ++ over (take n left.cells) (drop left.at old)) none ∙ take-append-drop left.at old)
front-given (run ∷ runs) left now old (next, (gives, more)) h =
    let gap = run_at run - left.at in
    let own = run_cells run in
    let more_cells = take (now.at - next.at) next.cells in
    let whole = ap length gives.cells ∙ length-append (replicate gap Skip) (own ++ next.cells) in
    let after = given-later runs next now more in
    let n : next.at ≤ length old = omega (arith, h, whole, length-append own next.cells, length-replicate gap Skip, gives.at, gives.later) in
    let long : next.at + length next.cells ≤ length old = omega (arith, h, whole, length-append own next.cells, length-replicate gap Skip, gives.at, gives.later) in
    let same = over_length (replicate (run_at run) Skip ++ own) old in
    let count : now.at - left.at ≡ gap + (length own + (now.at - next.at)) = omega (arith, gives.at, gives.later, after) in
    let front : replicate gap Skip ++ (own ++ more_cells) ≡ take (now.at - left.at) left.cells =
    sym (ap (λ (xs : List Cell). take (now.at - left.at) xs) gives.cells ∙ run-take gap (now.at - left.at) (now.at - next.at) own next.cells count) in
    front-given runs next now (over (replicate (run_at run) Skip ++ own) old) more (omega (arith, same, long))
    ∙ run-place left.at gap (run_at run) next.at own more_cells old (omega (arith, gives.later)) gives.at n
    ∙ ap (λ (xs : List Cell). take left.at old ++ over xs (drop left.at old)) front

pub runs-front : RunsFront
runs-front file left now runs old i g h =
    let zero_at : now.at - left.at ≡ now.at = omega (arith, i.at) in
    front-given runs left now old g (omega (arith, i.at, h))
    ∙ ap (λ (n : ℕ). take left.at old ++ over (take n left.cells) (drop left.at old)) zero_at
    ∙ ap (λ (n : ℕ). take n old ++ over (take now.at left.cells) (drop n old)) i.at
