-- What an inspection finds in the images of a folder, and in its super_empty.img.
use Rattle.std.proofs.Common.{◌≡◌, ℕ, ◌+◌, ◌<◌, ◌≤◌, true, false, List, length, Option, Some, None, Result, Ok, Err, refl, sym, ap, ◌∙◌, subst, arith, option_map}
use Rattle.std.specs.Prelude.{IsTrue, IfSome, nat_lt}
use Rattle.std.proofs.lemmas.Bool.Decides.{nat_tests}
use Rattle.fb_frame.specs.Causes.{Rose}
use Rattle.sparse_image.specs.declared.errors.SparseError.{SparseError}
use Rattle.sparse_image.specs.Walks.{Kept, checked, IsChecked}
use Rattle.super_meta.specs.declared.errors.MetaError.{MetaError}
use Rattle.super_meta.specs.Held.{tables_flaw}
use Rattle.super_meta.proofs.HeldLemmas.{tables-flaw}
use Rattle.flash_plan.specs.declared.product.Flaw.{Flaw}
use Rattle.flash_plan.specs.declared.product.Flaw.TheVariants as flaw
use Rattle.flash_plan.specs.declared.product.ProductError.{ProductError}
use Rattle.flash_plan.specs.declared.product.ProductError.TheVariants.{Memory, Directory, Bad}
use Rattle.flash_plan.specs.Files.{Files, HasSize, file_in}
use Rattle.flash_plan.specs.Products.{Fault, OfFiles, text_of, image_by, counted, empty_by, empty_of, unflawed, super_file, holds_tables}
use Rattle.flash_plan.specs.Inspecting.{Finds, Stops, in_file, text_in, kept_in, image_in, empty_in, image_alone, unspoilt}

-- an image that was checked
checked-by : (o : Option (List ℕ)) (file : List ℕ) (len : ℕ) (r : Result Kept SparseError) → IfSome o (λ bytes. checked bytes ≡ r) → Some len ≡ option_map length o →
    in_file file (image_alone o) ≡ in_file file (unspoilt r)
checked-by None file len r c s = absurd (none s)
  where
    none : Some len ≡ None → ⊥
    none q = cc
checked-by (Some bytes) file len r c s = ap (λ x. in_file file (unspoilt x)) c

pub kept-found : (told : Option Files) (file : List ℕ) (len : ℕ) (kept : Kept) → IsChecked (file_in told file) (Ok kept) → HasSize told file (Some len) → Finds told (kept_in file) kept
kept-found None file len kept c s = tt
kept-found (Some files) file len kept c s = checked-by (files file) file len (Ok kept) c s

pub kept-flaw : (told : Option Files) (file : List ℕ) (len before now : ℕ) (found : SparseError) → IsChecked (file_in told file) (Err found) → HasSize told file (Some len) →
    Stops told (kept_in file) before now (Bad file (flaw.Image found))
kept-flaw None file len before now found c s = tt
kept-flaw (Some files) file len before now found c s = checked-by (files file) file len (Err found) c s

pub ruleset checks = (kept-found, kept-flaw)

-- an image that isn't there
pub image-absent : (told : Option Files) (file : List ℕ) (chunks before now : ℕ) → HasSize told file None → Stops told (image_in file chunks) before now (Bad file flaw.Absent)
image-absent None file chunks before now s = tt
image-absent (Some files) file chunks before now s = by-file (files file) s
  where
    by-file : (o : Option (List ℕ)) → None ≡ option_map length o → in_file file (image_by chunks o) ≡ Err (file, flaw.Absent)
    by-file None q = refl
    by-file (Some bytes) q = absurd cc

-- an image that was checked, among others
counted-by : (o : Option (List ℕ)) (file : List ℕ) (chunks : ℕ) (kept : Kept) → in_file file (image_alone o) ≡ Ok kept →
    in_file file (image_by chunks o) ≡ in_file file (counted chunks (Ok kept))
counted-by None file chunks kept e = absurd cc
counted-by (Some bytes) file chunks kept e = by-check (checked bytes) e
  where
    by-check : (r : Result Kept SparseError) → in_file file (unspoilt r) ≡ Ok kept →
        in_file file (counted chunks r) ≡ in_file file (counted chunks (Ok kept))
    by-check (Ok k) q = let same : k ≡ kept = cc in ap (λ x. in_file file (counted chunks (Ok x))) same
    by-check (Err f) q = absurd cc

image-found : (told : Option Files) (file : List ℕ) (chunks : ℕ) (kept : Kept) → Finds told (kept_in file) kept → chunks + length kept.chunks ≤ 4000000 → Finds told (image_in file chunks) kept
image-found None file chunks kept f h = tt
image-found (Some files) file chunks kept f h =
    let n : nat_lt 4000000 (chunks + length kept.chunks) ≡ false = grind (arith, nat_tests) in
    counted-by (files file) file chunks kept f ∙ rw n refl

image-many : (told : Option Files) (file : List ℕ) (chunks : ℕ) (kept : Kept) → Finds told (kept_in file) kept → 4000000 < chunks + length kept.chunks →
    OfFiles told (λ files. image_in file chunks files ≡ Err (file, flaw.TooManyChunks))
image-many None file chunks kept f h = tt
image-many (Some files) file chunks kept f h =
    let n : nat_lt 4000000 (chunks + length kept.chunks) ≡ true = grind (arith, nat_tests) in
    counted-by (files file) file chunks kept f ∙ rw n refl

pub image-kept : (told : Option Files) (file : List ℕ) (chunks : ℕ) (checked kept : Kept) → Finds told (kept_in file) checked → kept ≡ checked → chunks + length kept.chunks ≤ 4000000 → Finds told (image_in file chunks) kept
image-kept told file chunks checked kept f e h = image-found told file chunks kept (subst (λ (x : Kept). Finds told (kept_in file) x) (sym e) f) h

pub image-refused : (told : Option Files) (file : List ℕ) (chunks before now : ℕ) (checked : Kept) (e : ProductError) → Finds told (kept_in file) checked → e ≡ Bad file flaw.TooManyChunks → 4000000 < chunks + length checked.chunks →
    Stops told (image_in file chunks) before now e
image-refused told file chunks before now checked e f n h = subst (λ (x : ProductError). Stops told (image_in file chunks) before now x) (sym n) (image-many told file chunks checked f h)

stopped-by : (o : Option (List ℕ)) (file : List ℕ) (chunks : ℕ) (fault : Fault) → in_file file (image_alone o) ≡ Err fault →
    in_file file (image_by chunks o) ≡ Err fault
stopped-by None file chunks fault e = e
stopped-by (Some bytes) file chunks fault e = by-check (checked bytes) e
  where
    by-check : (r : Result Kept SparseError) → in_file file (unspoilt r) ≡ Err fault → in_file file (counted chunks r) ≡ Err fault
    by-check (Ok k) q = absurd cc
    by-check (Err f) q = q

rose-later : (before mid now : ℕ) → before ≤ mid → Rose mid now → Rose before now
rose-later before mid now h r = omega (arith, r)

pub image-stop : (told : Option Files) (file : List ℕ) (chunks before mid now : ℕ) (e : ProductError) → before ≤ mid → Stops told (kept_in file) mid now e → Stops told (image_in file chunks) before now e
image-stop told file chunks before mid now Memory h s = tt
image-stop told file chunks before mid now (Directory at) h s = rose-later before mid now h s
image-stop None file chunks before mid now (Bad at flaw) h s = tt
image-stop (Some files) file chunks before mid now (Bad at flaw) h s = stopped-by (files file) file chunks (at, flaw) s

pub ruleset images = (image-absent, image-kept, image-refused, image-stop)

-- super_empty.img
empty-by : (file text : List ℕ) (r : Result (List ℕ) Flaw) → in_file file r ≡ Ok text →
    in_file file (empty_by r) ≡ in_file file (unflawed text (tables_flaw text))
empty-by file text (Ok t) e = let same : t ≡ text = cc in ap (λ x. in_file file (unflawed x (tables_flaw x))) same
empty-by file text (Err f) e = absurd cc

empty-err : (file : List ℕ) (r : Result (List ℕ) Flaw) (fault : Fault) → in_file file r ≡ Err fault → in_file file (empty_by r) ≡ Err fault
empty-err file (Ok t) fault e = absurd cc
empty-err file (Err f) fault e = e

abbrev empty_file : List ℕ → Files → Result (List ℕ) Fault
empty_file file files = in_file file (empty_of (files file))

empty-at : (told : Option Files) (file text : List ℕ) → Finds told (text_in file 131072) text → None ≡ tables_flaw text → Finds told (empty_file file) text
empty-at None file text f n = tt
empty-at (Some files) file text f n =
    empty-by file text (text_of 131072 (files file)) f ∙ ap (λ x. in_file file (unflawed text x)) (sym n)

pub empty-found : (told : Option Files) (file text : List ℕ) → file ≡ super_file → Finds told (text_in file 131072) text → None ≡ tables_flaw text → Finds told empty_in text
empty-found told file text e f n = subst (λ (x : List ℕ). Finds told (empty_file x) text) e (empty-at told file text f n)

flaw-at : (told : Option Files) (file text : List ℕ) (before now : ℕ) (found : MetaError) → Finds told (text_in file 131072) text → Some found ≡ tables_flaw text →
    Stops told (empty_file file) before now (Bad file (flaw.Meta found))
flaw-at None file text before now found f n = tt
flaw-at (Some files) file text before now found f n =
    empty-by file text (text_of 131072 (files file)) f ∙ ap (λ x. in_file file (unflawed text x)) (sym n)

pub empty-flaw : (told : Option Files) (file text : List ℕ) (before now : ℕ) (found : MetaError) → file ≡ super_file → Finds told (text_in file 131072) text → Some found ≡ tables_flaw text →
    Stops told empty_in before now (Bad file (flaw.Meta found))
empty-flaw told file text before now found e f n =
    subst (λ (x : List ℕ). Stops told (empty_file x) before now (Bad file (flaw.Meta found))) e (flaw-at told file text before now found f n)

stop-at : (told : Option Files) (file : List ℕ) (before now : ℕ) (e : ProductError) → Stops told (text_in file 131072) before now e → Stops told (empty_file file) before now e
stop-at told file before now Memory s = tt
stop-at told file before now (Directory at) s = s
stop-at None file before now (Bad at flaw) s = tt
stop-at (Some files) file before now (Bad at flaw) s = empty-err file (text_of 131072 (files file)) (at, flaw) s

pub empty-stop : (told : Option Files) (file : List ℕ) (before now : ℕ) (e : ProductError) → file ≡ super_file → Stops told (text_in file 131072) before now e → Stops told empty_in before now e
empty-stop told file before now e n s = subst (λ (x : List ℕ). Stops told (empty_file x) before now e) n (stop-at told file before now e s)

-- a file without a flaw holds tables
pub empty-tables : (text : List ℕ) → length text ≤ 131072 → None ≡ tables_flaw text → IsTrue (holds_tables text)
empty-tables text h n = (tables-flaw text h).0 (sym n)

pub ruleset empties = (empty-found, empty-flaw, empty-stop, empty-tables)
