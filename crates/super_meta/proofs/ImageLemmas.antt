-- An image of an empty super by its two parts.
use Rattle.std.proofs.Common.{◌≡◌, ◌≢◌, ℕ, ◌+◌, ◌-◌, ◌≤◌, true, false, List, length, take, drop, Some, Result, Ok, Err, refl, sym, ap, ◌∙◌, arith, length-drop}
use Rattle.std.specs.Prelude.{◌==◌, if◌then◌else◌}
use Rattle.std.specs.Result.{IsErrOf, result_err}
use Rattle.std.proofs.lemmas.Bool.Decides.{nat_tests}
use Rattle.std.proofs.lemmas.List.{take_rest}
use Rattle.super_meta.specs.declared.errors.MetaError.{MetaError}
use Rattle.super_meta.specs.declared.errors.MetaError.TheVariants.{BadSize}
use Rattle.super_meta.specs.declared.errors.ReadError.{ReadError}
use Rattle.super_meta.specs.declared.errors.ReadError.TheVariants.{Bad}
use Rattle.super_meta.specs.declared.geometry.Geometry.{Geometry}
use Rattle.super_meta.specs.Flaws.{◌then_on◌}
use Rattle.super_meta.specs.Contents.{Content}
use Rattle.super_meta.specs.TableText.{table_of, table_size}
use Rattle.super_meta.specs.ImageText.{block_geometry, image_of}
use Rattle.super_meta.proofs.FoundLemmas.{bad, bad-same}

-- what follows the block
abbrev pub rest_of : List ℕ → List ℕ
rest_of bytes = take (length bytes - 4096) (drop 4096 bytes)

-- the end of an image
abbrev pub ended : List ℕ → Geometry → Content → Result (Geometry × Content) MetaError
ended bytes g c = if length bytes == 4096 + table_size c then Ok (g, c) else Err BadSize

-- an image after its block
abbrev pub tabled : List ℕ → Geometry → Result Content MetaError → Result (Geometry × Content) MetaError
tabled bytes g r = r then_on λ c. ended bytes g c

after-block : (bytes : List ℕ) (g : Geometry) (r : Result Content MetaError) → Ok g ≡ block_geometry bytes → table_of (rest_of bytes) ≡ r → image_of bytes ≡ tabled bytes g r
after-block bytes g r a t =
    ap (λ b. b then_on λ x. tabled bytes x (table_of (drop 4096 bytes))) (sym a)
    ∙ ap (tabled bytes g) (ap table_of (sym (take_rest bytes 4096)) ∙ t)

length-rest : (bytes : List ℕ) → length (rest_of bytes) ≡ length bytes - 4096
length-rest bytes = ap length (take_rest bytes 4096) ∙ length-drop 4096 bytes

pub image-ok : (bytes : List ℕ) (g : Geometry) (c : Content) → 4096 ≤ length bytes → Ok g ≡ block_geometry bytes → table_of (rest_of bytes) ≡ Ok c → length (rest_of bytes) ≡ table_size c → image_of bytes ≡ Ok (g, c)
image-ok bytes g c l a t s =
    let n : length bytes ≡ 4096 + table_size c = omega (arith, length-rest bytes, s, l) in
    let same : (length bytes == 4096 + table_size c) ≡ true = grind (arith, nat_tests) in
    after-block bytes g (Ok c) a t ∙ rw same refl

pub image-long : (bytes : List ℕ) (g : Geometry) (c : Content) → 4096 ≤ length bytes → Ok g ≡ block_geometry bytes → table_of (rest_of bytes) ≡ Ok c → length (rest_of bytes) ≢ table_size c → image_of bytes ≡ Err BadSize
image-long bytes g c l a t s =
    let n : length bytes ≢ 4096 + table_size c = λ e. s (omega (arith, length-rest bytes, e, l)) in
    let other : (length bytes == 4096 + table_size c) ≡ false = grind (arith, nat_tests) in
    after-block bytes g (Ok c) a t ∙ rw other refl

pub image-table : (bytes : List ℕ) (g : Geometry) (e : MetaError) → Ok g ≡ block_geometry bytes → table_of (rest_of bytes) ≡ Err e → image_of bytes ≡ Err e
image-table bytes g e a t = after-block bytes g (Err e) a t

abbrev pub failed : (T : Type 0) → ReadError → Result T ReadError
failed T e = Err e

-- one error of two results
pub err-as : (T U : Type 0) (e d : ReadError) → IsErrOf (failed T e) d → IsErrOf (failed U e) d
err-as T U e d h = cc

pub image-long-by : (T : Type 0) (bytes : List ℕ) (g : Geometry) (c : Content) → 4096 ≤ length bytes → Ok g ≡ block_geometry bytes → table_of (rest_of bytes) ≡ Ok c → length (rest_of bytes) ≢ table_size c →
    (d : MetaError) → IsErrOf (bad T BadSize) (Bad d) → image_of bytes ≡ Err d
image-long-by T bytes g c l a t s d k = image-long bytes g c l a t s ∙ ap Err (bad-same T BadSize d k)

-- what is wrong with an image, by what is wrong with its table
pub image-wrong : (bytes : List ℕ) (g : Geometry) (d : MetaError) → Ok g ≡ block_geometry bytes → Some d ≡ result_err (table_of (rest_of bytes)) → result_err (image_of bytes) ≡ Some d
image-wrong bytes g d a t = ap result_err (after-block bytes g (table_of (rest_of bytes)) a refl) ∙ stopped (table_of (rest_of bytes)) t
  where
    stopped : (r : Result Content MetaError) → Some d ≡ result_err r → result_err (tabled bytes g r) ≡ Some d
    stopped (Ok c) e = absurd cc
    stopped (Err f) e = sym e
