-- Places of copies in super, and what is read there.
use Rattle.std.proofs.Common.{◌≡◌, ℕ, suc, ◌+◌, ◌*◌, ◌-◌, ◌<◌, ◌≤◌, Bool, true, false, List, length, take, drop, Option, Some, None, Result, refl, sym, ap, subst, ◌∙◌, arith, mul-le-mul_left}
use Rattle.std.specs.Prelude.{IfSome, if◌then◌else◌}
use Rattle.std.specs.Result.{result_ok}
use Rattle.std.proofs.lemmas.List.{drop-drop, drop-take, take-take}
use Rattle.dev_disk.specs.Files.{IsRead, copy, IsInside}
use Rattle.super_meta.specs.Contents.{Content}
use Rattle.super_meta.specs.TableText.{table_of}
use Rattle.dev_store.specs.declared.layout.SuperPart.{SuperPart}
use Rattle.dev_store.specs.LayoutLines.{first_unit, unit_count}
use Rattle.dev_store.specs.Supers.{geometry_copy, holds_geometry, copy_place, copy_reads}
use Rattle.dev_store.specs.SuperBounds.{IsBounded, geometry_place}

-- bytes of a part of a file are the file's
pub copy-inside : (file : List ℕ) (at size k n : ℕ) → k + n ≤ size → take n (drop k (take size (drop at file))) ≡ copy file (at + k) n
copy-inside file at size k n h =
    let e : k + (size - k) ≡ size = omega arith in
    let m : n ≤ size - k = omega arith in
    ap (λ z. take n (drop k (take z (drop at file)))) (sym e)
    ∙ (ap (take n) (drop-take k (size - k) (drop at file))
    ∙ (take-take n (size - k) (drop k (drop at file)) m ∙ ap (take n) (drop-drop k at file)))

-- a copy of the table lies before the first unit
pub place-before : (s : SuperPart) (k : ℕ) → IsBounded s → k < 2 * s.slots → copy_place s k + s.max_size ≤ 12288 + 2 * s.slots * s.max_size
place-before s k b h =
    let m : s.max_size * (k + 1) ≤ s.max_size * (2 * s.slots) = mul-le-mul_left s.max_size (omega arith) in
    omega arith

pub tables-inside : (s : SuperPart) → IsBounded s → 12288 + 2 * s.slots * s.max_size ≤ s.size
tables-inside s b = let c = b.copies in let i = b.inside in omega (arith, c, i)

pub place-inside : (s : SuperPart) (k : ℕ) → IsBounded s → k < 2 * s.slots → copy_place s k + s.max_size ≤ s.size
place-inside s k b h = let p = place-before s k b h in let t = tables-inside s b in omega arith

pub block-before : (second : Bool) → geometry_place second + 4096 ≤ 12288
block-before true = omega arith
block-before false = omega arith

pub block-inside : (s : SuperPart) (second : Bool) → IsBounded s → geometry_place second + 4096 ≤ s.size
block-inside s second b = let p = block-before second in let t = tables-inside s b in omega arith

pub range-inside : (o : Option ℕ) (at size k n : ℕ) → IsInside o at size → k + n ≤ size → IsInside o (at + k) n
range-inside None at size k n h l = h
range-inside (Some z) at size k n h l = omega arith

geometry-place : (second : Bool) (super : List ℕ) → geometry_copy second super ≡ take 4096 (drop (geometry_place second) super)
geometry-place true super = refl
geometry-place false super = refl

pub geometry-at : (s : SuperPart) (file : List ℕ) (at : ℕ) (second : Bool) → IsBounded s → geometry_copy second (copy file at s.size) ≡ copy file (at + geometry_place second) 4096
geometry-at s file at second b = geometry-place second (copy file at s.size) ∙ copy-inside file at s.size (geometry_place second) 4096 (block-inside s second b)

-- a block that was read holds the geometry, or doesn't
pub geometry-read : (s : SuperPart) (o : Option (List ℕ)) (at : ℕ) (second : Bool) (block : List ℕ) (holds : Bool) → IsBounded s → length block ≡ 4096 →
    IsRead o (at + geometry_place second) block → holds ≡ holds_geometry s block →
    IfSome o (λ file. holds ≡ holds_geometry s (geometry_copy second (copy file at s.size)))
geometry-read s None at second block holds b l r h = tt
geometry-read s (Some file) at second block holds b l r h =
    h ∙ ap (holds_geometry s) (r ∙ (ap (λ n. take n (drop (at + geometry_place second) file)) l ∙ sym (geometry-at s file at second b)))

pub reads-at : (s : SuperPart) (file : List ℕ) (at k : ℕ) → IsBounded s → k < 2 * s.slots → copy_reads s k (copy file at s.size) ≡ result_ok (table_of (copy file (at + copy_place s k) s.max_size))
unfolding copy_reads
reads-at s file at k b h = ap (λ bytes. result_ok (table_of bytes)) (copy-inside file at s.size (copy_place s k) s.max_size (place-inside s k b h))

-- what a copy that was read reads as
pub table-read : (s : SuperPart) (o : Option (List ℕ)) (at k : ℕ) (bytes : List ℕ) (found : Option Content) → IsBounded s → k < 2 * s.slots → length bytes ≡ s.max_size →
    IsRead o (at + copy_place s k) bytes → found ≡ result_ok (table_of bytes) → IfSome o (λ file. found ≡ copy_reads s k (copy file at s.size))
table-read s None at k bytes found b h l r e = tt
table-read s (Some file) at k bytes found b h l r e =
    e ∙ (ap (λ t. result_ok (table_of t)) (r ∙ ap (λ n. take n (drop (at + copy_place s k) file)) l) ∙ sym (reads-at s file at k b h))
