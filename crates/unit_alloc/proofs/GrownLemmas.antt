-- A part that grows by one unit after another.
use Rattle.std.proofs.Common.{◌≡◌, ℕ, ◌+◌, ◌<◌, List, [], ◌∷◌, ◌++◌, length, get_or, set, take, drop, refl, sym, ap, ◌∙◌, arith, length-set, length-drop}
use Rattle.std.proofs.lemmas.List.{take_more, drop_more, append-nil, set-get_or}
use Rattle.unit_alloc.specs.Owning.{Owning, IsLowestFree, free_units, units_of, handed}
use Rattle.unit_alloc.proofs.HandedLemmas.{handed-handed, free_units-handed}

-- a part has grown by the first of the units that were free
pub record Grown (old new : Owning) (part count : ℕ) : Type 0 where
  pub owning : new ≡ handed old part (take count (free_units old))
  pub rest : free_units new ≡ drop count (free_units old)
  pub parts : length new.parts ≡ length old.parts

pub Grown-none : (m : Owning) (p : ℕ) → Grown m m p 0
Grown-none m p = record {
  owning = sym (ap (λ (l : List (List ℕ)). let n : Owning = record m { parts = l } in n) (ap (set m.parts p) (append-nil (units_of m p)) ∙ set-get_or m.parts p []));
  rest = refl;
  parts = refl;
}

-- units are left while fewer have been handed out than were free
pub Grown-left : (old new : Owning) (p i : ℕ) → Grown old new p i → i < length (free_units old) → 0 < length (free_units new)
Grown-left old new p i g h =
    let e = ap (length {A = ℕ}) g.rest in
    let d = length-drop i (free_units old) in
    omega arith

-- the same with a copy of the value that is there before the next unit
pub Grown-more : (old new : Owning) (p i u : ℕ) → Grown old new p i → p < length old.parts → i < length (free_units old) → IsLowestFree new u → Grown old (handed new p (u ∷ [])) p (i + 1)
Grown-more old new p i u g hp hi low =
    let e : u ∷ free_units (handed new p (u ∷ [])) ≡ get_or (free_units old) i 0 ∷ drop (i + 1) (free_units old) =
    sym (free_units-handed new p u (omega (arith, g.parts)) low.there low.free low.lowest) ∙ g.rest ∙ drop_more (free_units old) i 0 hi in
    let head : u ≡ get_or (free_units old) i 0 = cc in
    let tail : free_units (handed new p (u ∷ [])) ≡ drop (i + 1) (free_units old) = cc in
    record {
      owning =
          ap (λ (n : Owning). handed n p (u ∷ [])) g.owning
          ∙ handed-handed old p (take i (free_units old)) (u ∷ []) hp
          ∙ ap (λ (l : List ℕ). handed old p l) (ap (λ (x : ℕ). take i (free_units old) ++ x ∷ []) head ∙ sym (take_more (free_units old) i 0 hi));
      rest = tail;
      parts = length-set new.parts p (units_of new p ++ u ∷ []) ∙ g.parts;
    }

pub ruleset growing = (Grown-none, Grown-left, Grown-more)
