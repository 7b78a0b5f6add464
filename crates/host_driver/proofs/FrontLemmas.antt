-- Pieces of an image that are put over a partition one after another: its front up to the last of them.
use Rattle.std.proofs.Common.{◌≡◌, ℕ, zero, suc, ◌*◌, ◌≤◌, Bool, true, false, List, [], ◌∷◌, ◌++◌, map, length, length-append, take, replicate, refl, sym, ap, ◌∙◌, arith}
use Rattle.std.specs.Prelude.{Ok, unwrap_or, bytes_eq, nat_lt, codes, if◌then◌else◌}
use Rattle.std.specs.Option.{option_or}
use Rattle.std.proofs.lemmas.List.{take_all, length-replicate}
use Rattle.std.proofs.Math.Seq.{take-append_seam}
use Rattle.dev_model.specs.declared.cells.Cell.{Cell}
use Rattle.dev_model.specs.declared.cells.Cell.TheVariants.{Byte, Skip}
use Rattle.dev_model.specs.declared.device.Dev.{Dev}
use Rattle.dev_model.specs.declared.step.Step.TheVariants.{Put}
use Rattle.dev_model.specs.Images.{over}
use Rattle.dev_model.specs.Options.{first_passed}
use Rattle.dev_model.specs.Partitions.{bytes_of, with_bytes, physical_changed, logical_changed}
use Rattle.dev_model.specs.Refusals.{erase_refusal, refusal_of}
use Rattle.dev_model.specs.Steps.{apply}
use Rattle.dev_model.proofs.KeepingLemmas.{writes_twice, writes-alike, put_refused_again}
use Rattle.sparse_image.specs.Pieces.{piece_cells}
use Rattle.sparse_image.specs.Walks.{Kept, checked, kept_cells}
use Rattle.sparse_image.proofs.PieceLemmas.{pieces-front}

-- an image over the first bytes of a list
over-take : (c : List Cell) (n : ℕ) (z : List ℕ) → over c (take n z) ≡ take n (over c z)
over-take [] n z = refl
over-take (c ∷ cells) zero z = refl
over-take (c ∷ cells) (suc n) [] = refl
over-take (Byte b ∷ cells) (suc n) (o ∷ z) = ap (λ t. b ∷ t) (over-take cells n z)
over-take (Skip ∷ cells) (suc n) (o ∷ z) = ap (λ t. o ∷ t) (over-take cells n z)

-- what holds of long lists holds of all
over-short : (p t u : List Cell) (n : ℕ) → ((y : List ℕ) → n ≤ length y → over p (over t y) ≡ over u y) → (x : List ℕ) → over p (over t x) ≡ over u x
over-short p t u n f x =
    let y = x ++ replicate n 0 in
    let long : n ≤ length y = omega (arith, length-append x (replicate n 0), length-replicate {A = ℕ} n 0) in
    let same : take (length x) y ≡ x = take-append_seam x (replicate n 0) in
    sym (ap (λ z. over p (over t z)) same)
    ∙ (ap (over p) (over-take t (length x) y)
    ∙ (over-take p (length x) (over t y)
    ∙ (ap (take (length x)) (f y long)
    ∙ (sym (over-take u (length x) y) ∙ ap (over u) same))))

-- a piece put over what the image's front before it gave
module _ (file : List ℕ) (kept : Kept) (is : checked file ≡ Ok kept) (first last : ℕ) (h : first ≤ last) (g : last ≤ kept.blocks) where
  abbrev whole : List Cell
  whole = kept_cells kept file

  front-long : (y : List ℕ) → length whole ≤ length y → over (piece_cells kept file first last) (over (take (first * kept.block) whole) y) ≡ over (take (last * kept.block) whole) y
  front-long y long =
      sym (ap (over (piece_cells kept file first last)) (pieces-front file kept first (first ∷ []) y is (omega arith, omega arith, refl) (omega (arith, h, g)) long))
      ∙ pieces-front file kept last (first ∷ last ∷ []) y is (omega arith, h, (h, omega arith, refl)) g long

  pub front-joins : (x : List ℕ) → over (piece_cells kept file first last) (over (take (first * kept.block) whole) x) ≡ over (take (last * kept.block) whole) x
  front-joins x = over-short (piece_cells kept file first last) (take (first * kept.block) whole) (take (last * kept.block) whole) (length whole) front-long x

-- no cells change nothing
all-self : {X : Type 0} (f : X → X) → ((x : X) → f x ≡ x) → (xs : List X) → map f xs ≡ xs
all-self f h [] = refl
all-self f h (x ∷ xs) = let one = h x in let rest = all-self f h xs in λ i. one i ∷ rest i

chosen-self : (b : Bool) (x : List ℕ) → (if b then over [] else λ bytes. bytes) x ≡ x
chosen-self true x = refl
chosen-self false x = refl

pub put-nothing : (name : List ℕ) (dev : Dev) → with_bytes name (over []) dev ≡ dev
put-nothing name dev =
    let a = all-self (physical_changed name (over [])) (λ p. ap (λ x. record p { bytes = x }) (chosen-self (bytes_eq p.name name) p.bytes)) dev.physical in
    let b = all-self (logical_changed name (over [])) (λ p. ap (λ x. record p { bytes = x }) (chosen-self (bytes_eq p.name name) p.bytes)) dev.logical in
    λ i. record dev { physical = a i; logical = b i }

-- The device with the first n cells put over the partition.
abbrev pub front_put : List ℕ → List Cell → ℕ → Dev → Dev
front_put name cells n dev = with_bytes name (over (take n cells)) dev

pub front-none : (name : List ℕ) (cells : List Cell) (dev : Dev) → front_put name cells 0 dev ≡ dev
front-none name cells dev = put-nothing name dev

pub front-all : (name : List ℕ) (cells : List Cell) (n : ℕ) (dev : Dev) → length cells ≤ n → front_put name cells n dev ≡ apply (Put name cells) dev
front-all name cells n dev h = ap (λ c. with_bytes name (over c) dev) (take_all n cells h)

-- one piece more
pub front-next : (file name : List ℕ) (kept : Kept) (first last : ℕ) (dev : Dev) → checked file ≡ Ok kept → first ≤ last → last ≤ kept.blocks →
    apply (Put name (piece_cells kept file first last)) (front_put name (kept_cells kept file) (first * kept.block) dev) ≡ front_put name (kept_cells kept file) (last * kept.block) dev
front-next file name kept first last dev is h g =
    writes_twice name (over (take (first * kept.block) (kept_cells kept file))) (over (piece_cells kept file first last)) dev
    ∙ writes-alike name (λ x. over (piece_cells kept file first last) (over (take (first * kept.block) (kept_cells kept file)) x)) (over (take (last * kept.block) (kept_cells kept file))) dev
    (front-joins file kept is first last h g)

-- whether an image is refused depends on its length alone, and on nothing that a front of it changes
refused-long : (name : List ℕ) (a b : List Cell) (dev : Dev) → length a ≡ length b → refusal_of (Put name a) dev ≡ refusal_of (Put name b) dev
refused-long name a b dev e =
    ap (λ n. option_or (erase_refusal dev name) (first_passed ((nat_lt (length (unwrap_or (bytes_of dev name) [])) n, codes "image too large") ∷ []))) e

pub refused-front : (name : List ℕ) (part cells : List Cell) (n : ℕ) (dev : Dev) → length part ≡ length cells → refusal_of (Put name part) (front_put name cells n dev) ≡ refusal_of (Put name cells) dev
refused-front name part cells n dev e = put_refused_again name (take n cells) part dev ∙ refused-long name part cells dev e
