-- A file that is sent whole has the image of the file that was checked.
use Rattle.std.proofs.Common.{◌≡◌, ℕ, zero, suc, ◌-◌, ◌<◌, Bool, true, false, List, [], ◌∷◌, ◌++◌, length, drop, map, replicate, Some, Ok, refl, sym, ap, ◌∙◌, subst, arith, ⊎_elim}
use Rattle.std.specs.Prelude.{◌&&◌, ◌^◌, nat_lt, nat_eq, if◌then◌else◌}
use Rattle.std.proofs.lemmas.Bool.Decides.{nat_tests, eqb_tells, leb_tells}
use Rattle.std.proofs.lemmas.List.{append-nil}
use Rattle.dev_model.specs.Options.{◌>>=◌, needs}
use Rattle.dev_model.specs.Images.{image, is_sparse, round_up}
use Rattle.dev_model.specs.declared.cells.Cell.{Cell}
use Rattle.dev_model.specs.declared.cells.Cell.TheVariants.{Byte}
use Rattle.sparse_image.specs.declared.errors.SparseKind.TheVariants.{TooLong, Empty}
use Rattle.sparse_image.specs.Walks.{Kept, checked, sparse_checked, raw_checked, raw_kept, kept_cells, header_of, walked, source_of, flaw, ◌then_on◌}
use Rattle.sparse_image.specs.Laws.{WholeImage}
use Rattle.sparse_image.proofs.WalkLemmas.{walk-agrees, image-raw, padded-length, raw-cells}
use Rattle.sparse_image.proofs.KeptLemmas.{then-ok, no-err, same-kept}

and-false : (x : Bool) → (x && false) ≡ false
and-false true = refl
and-false false = refl

-- zeros behind a file don't make it sparse
unsparse : (file : List ℕ) (z : ℕ) → is_sparse file ≡ false → 0 < length file → is_sparse (file ++ replicate z 0) ≡ false
unsparse [] z h l = absurd (omega arith)
unsparse (a ∷ []) zero h l = h
unsparse (a ∷ []) (suc z) h l = and-false (nat_eq 0x3a a)
unsparse (a ∷ (b ∷ [])) zero h l = h
unsparse (a ∷ (b ∷ [])) (suc z) h l = ap (λ (x : Bool). nat_eq 0x3a a && x) (and-false (nat_eq 0xff b)) ∙ and-false (nat_eq 0x3a a)
unsparse (a ∷ (b ∷ (c ∷ []))) zero h l = h
unsparse (a ∷ (b ∷ (c ∷ []))) (suc z) h l = ap (λ (x : Bool). nat_eq 0x3a a && (nat_eq 0xff b && x)) (and-false (nat_eq 0x26 c)) ∙ ap (λ (x : Bool). nat_eq 0x3a a && x) (and-false (nat_eq 0xff b)) ∙ and-false (nat_eq 0x3a a)
unsparse (a ∷ (b ∷ (c ∷ (d ∷ xs)))) z h l = h

sparse-true : (file : List ℕ) (kept : Kept) → sparse_checked file ≡ Ok kept → kept.sparse ≡ true
sparse-true file kept h =
    let a = then-ok (header_of (length file) file) (λ header. walked header.chunks header.block header.blocks 28 (drop 28 file) then_on λ chunks. Ok (record { sparse = true; source_len = length file; block = header.block; blocks = header.blocks; chunks = chunks })) kept h in
    let b = then-ok (walked a.0.chunks a.0.block a.0.blocks 28 (drop 28 file)) (λ chunks. Ok (record { sparse = true; source_len = length file; block = a.0.block; blocks = a.0.blocks; chunks = chunks })) kept a.2 in
    sym (ap (λ (k : Kept). k.sparse) (same-kept (record { sparse = true; source_len = length file; block = a.0.block; blocks = a.0.blocks; chunks = b.0 }) kept b.2))

image-of : (file : List ℕ) (kept : Kept) → checked file ≡ Ok kept → image file ≡ Some (kept_cells kept file)
image-of file kept h = let a = walk-agrees file in rw h at a

whole-sparse : (file : List ℕ) (kept : Kept) → kept.sparse ≡ true → image file ≡ Some (kept_cells kept file) → image (source_of kept file) ≡ Some (kept_cells kept file)
whole-sparse file kept s h =
    let e : source_of kept file ≡ file = ap (λ (b : Bool). if b then file else (file ++ replicate (round_up (length file) - length file) 0)) s in
    ap (λ (xs : List ℕ). image xs) e ∙ h

whole-raw : (file : List ℕ) → 0 < length file → is_sparse file ≡ false → round_up (length file) < 2 ^ 44 → image (source_of (raw_kept file) file) ≡ Some (kept_cells (raw_kept file) file)
whole-raw file some s h =
    let padded = source_of (raw_kept file) file in
    let l = padded-length file in
    let none : round_up (length padded) - length padded ≡ 0 = omega arith in
    let short : nat_lt (round_up (length padded)) (2 ^ 44) ≡ true = grind (arith, nat_tests) in
    image-raw padded (omega (arith, l, some)) (unsparse file (round_up (length file) - length file) s some)
    ∙ ap (λ (b : Bool). needs b >>= λ _. Some (map Byte (padded ++ replicate (round_up (length padded) - length padded) 0))) short
    ∙ ap (λ (n : ℕ). Some (map Byte (padded ++ replicate n 0))) none
    ∙ ap (λ (xs : List ℕ). Some (map Byte xs)) (append-nil padded)
    ∙ ap (λ (xs : List Cell). Some xs) (raw-cells file)

whole-by : (file : List ℕ) (kept : Kept) (b : Bool) → is_sparse file ≡ b → 0 < length file → checked file ≡ Ok kept → (if b then sparse_checked else raw_checked) file ≡ Ok kept → image (source_of kept file) ≡ Some (kept_cells kept file)
whole-by file kept true s some c h = whole-sparse file kept (sparse-true file kept h) (image-of file kept c)
whole-by file kept false s some c h =
    ⊎_elim
    (λ k. subst (λ (x : Kept). image (source_of x file) ≡ Some (kept_cells x file)) (same-kept (raw_kept file) kept (rw k.0 at h)) (whole-raw file some s (omega (arith, k.1))))
    (λ k. absurd (no-err (flaw TooLong 0) kept (rw k.0 at h)))
    (leb_tells (suc (round_up (length file))) (2 ^ 44))

pub whole-image : WholeImage
whole-image file kept h =
    ⊎_elim
    (λ k. absurd (no-err (flaw Empty 0) kept (rw k.0 at h)))
    (λ k. whole-by file kept (is_sparse file) refl (grind (arith, nat_tests)) h (rw k.0 at h))
    (eqb_tells (length file) 0)
