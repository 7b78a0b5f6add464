-- An image is read of exactly its bytes.
use Rattle.std.proofs.Common.{◌≡◌, ℕ, ◌+◌, ◌≤◌, Bool, true, false, List, length, take, drop, Some, None, Result, Ok, Err, refl, sym, ap, ◌∙◌, subst, arith, lit≤}
use Rattle.std.specs.Prelude.{nat_lt, ◌==◌, if◌then◌else◌, IfOk, OnErr}
use Rattle.std.specs.Result.{result_err}
use Rattle.std.proofs.lemmas.Bool.Decides.{nat_tests}
use Rattle.std.proofs.lemmas.List.{take-take}
use Rattle.super_meta.specs.declared.errors.MetaError.{MetaError}
use Rattle.super_meta.specs.declared.errors.MetaError.TheVariants.{ShortInput, BadSize}
use Rattle.super_meta.specs.declared.errors.ReadError.{ReadError}
use Rattle.super_meta.specs.declared.geometry.Geometry.{Geometry}
use Rattle.super_meta.specs.declared.table.Table.{Table}
use Rattle.super_meta.specs.Flaws.{◌then_on◌}
use Rattle.fb_frame.specs.Bytes.{AreBytes}
use Rattle.super_meta.specs.GeometryText.{geometry_of, GeometryBytes}
use Rattle.super_meta.specs.Contents.{Content, content}
use Rattle.super_meta.specs.TableText.{table_of, table_size}
use Rattle.super_meta.specs.TableBytes.{TableBytes}
use Rattle.super_meta.specs.ImageText.{block_geometry, image_of}
use Rattle.super_meta.specs.ImageBytes.{ImageBytes}
use Rattle.super_meta.specs.Laws.{ImageRead, ImageSpelled}
use Rattle.fb_frame.proofs.FieldLemmas.{bytes-take, bytes-drop}
use Rattle.super_meta.proofs.GeometryLemmas.{geometry-read, geometry-spelled}
use Rattle.super_meta.proofs.TakenLemmas.{takes}
use Rattle.super_meta.proofs.GivenLemmas.{gives}
use Rattle.super_meta.proofs.ImageLemmas.{tabled}

-- a geometry at the front of a block, or of all bytes
of-block : (g : Geometry) (bytes : List ℕ) → GeometryBytes g (take 4096 bytes) → GeometryBytes g bytes
of-block g bytes h = record { good = h.good; max_size = h.max_size; slots = h.slots; spelled = sym (take-take 52 4096 bytes (lit≤ tt)) ∙ h.spelled }

in-block : (g : Geometry) (bytes : List ℕ) → GeometryBytes g bytes → GeometryBytes g (take 4096 bytes)
in-block g bytes h = record { good = h.good; max_size = h.max_size; slots = h.slots; spelled = take-take 52 4096 bytes (lit≤ tt) ∙ h.spelled }

same : (a b : ℕ) → (a == b) ≡ true → a ≡ b
same a b h = grind (arith, nat_tests)

same-if : (a b : ℕ) → a ≡ b → (a == b) ≡ true
same-if a b h = grind (arith, nat_tests)

long-if : (n k : ℕ) → k ≤ n → nat_lt n k ≡ false
long-if n k h = grind (arith, nat_tests)

abbrev read : Geometry × Content → Result (Geometry × Content) MetaError
read image = Ok image

ok-same : (x y : Geometry × Content) → read x ≡ read y → x ≡ y
ok-same x y e = cc

pub image-spelled : ImageSpelled
image-spelled bytes g c b e = by-block (block_geometry bytes) refl e
  where
    by-length : (x : Geometry) (short : Bool) → (if short then Err ShortInput else geometry_of (take 4096 bytes)) ≡ Ok x → geometry_of (take 4096 bytes) ≡ Ok x
    by-length x true h = absurd cc
    by-length x false h = h

    by-end : (x : Geometry) (d : Content) (whole : Bool) → (length bytes == 4096 + table_size d) ≡ whole → GeometryBytes x bytes → TableBytes d (drop 4096 bytes) → (if whole then read (x, d) else Err BadSize) ≡ Ok (g, c) → ImageBytes g c bytes
    by-end x d true w p t h =
        let pair = ok-same (x, d) (g, c) h in
        let own : d ≡ c = ap (λ (p : Geometry × Content). p.1) pair in
        record {
          geometry = subst (λ (y : Geometry). GeometryBytes y bytes) (ap (λ (y : Geometry × Content). y.0) pair) p;
          table = subst (λ (y : Content). TableBytes y (drop 4096 bytes)) own t;
          end = same _ _ w ∙ ap (λ (y : Content). 4096 + table_size y) own;
        }
    by-end x d false w p t h = absurd cc

    by-table : (x : Geometry) (r : Result Content MetaError) → GeometryBytes x bytes → table_of (drop 4096 bytes) ≡ r → tabled bytes x r ≡ Ok (g, c) → ImageBytes g c bytes
    by-table x (Ok d) p t h = by-end x d (length bytes == 4096 + table_size d) refl p (takes (drop 4096 bytes) d (bytes-drop 4096 bytes b) t) h
    by-table x (Err f) p t h = absurd cc

    by-block : (r : Result Geometry MetaError) → block_geometry bytes ≡ r → (r then_on λ x. tabled bytes x (table_of (drop 4096 bytes))) ≡ Ok (g, c) → ImageBytes g c bytes
    by-block (Ok x) k h = by-table x (table_of (drop 4096 bytes)) (of-block x bytes (geometry-spelled (take 4096 bytes) x (bytes-take 4096 bytes b) (by-length x (nat_lt (length bytes) 4096) k))) refl h
    by-block (Err f) k h = absurd cc

pub image-read : ImageRead
image-read bytes g c h =
    let a = geometry-read (take 4096 bytes) g (in-block g bytes h.geometry) in
    let l : nat_lt (length bytes) 4096 ≡ false = long-if (length bytes) 4096 (omega (arith, h.end)) in
    let block : block_geometry bytes ≡ Ok g = rw l a in
    let t = gives (drop 4096 bytes) c h.table in
    let whole = same-if (length bytes) (4096 + table_size c) h.end in
    ap (λ r. r then_on λ x. tabled bytes x (table_of (drop 4096 bytes))) block ∙ (ap (tabled bytes g) t ∙ rw whole refl)

no-both : (g : Geometry) (c : Content) (e : MetaError) → read (g, c) ≡ Err e → ⊥
no-both g c e h = cc

-- bytes with a flaw are no image
pub image-only : (bytes : List ℕ) (e : MetaError) → image_of bytes ≡ Err e → (g : Geometry) (c : Content) → ImageBytes g c bytes → ⊥
image-only bytes e k g c h = no-both g c e (sym (image-read bytes g c h) ∙ k)

-- what a call found, by what it read
pub image-found-by : (bytes : List ℕ) (result : Result (Geometry × Table) ReadError) → AreBytes bytes → IfOk result (λ image. image_of bytes ≡ Ok (image.0, content image.1)) →
    IfOk result (λ image. ImageBytes image.0 (content image.1) bytes)
image-found-by bytes (Ok image) b h = image-spelled bytes image.0 (content image.1) b h
image-found-by bytes (Err e) b h = tt

pub room-found-by : (bytes : List ℕ) (result : Result Geometry MetaError) (c : Content) → AreBytes bytes → IfOk result (λ g. image_of bytes ≡ Ok (g, c)) → IfOk result (λ g. ImageBytes g c bytes)
room-found-by bytes (Ok g) c b h = image-spelled bytes g c b h
room-found-by bytes (Err e) c b h = tt

pub room-only-by : (bytes : List ℕ) (result : Result Geometry MetaError) → result_err result ≡ result_err (image_of bytes) → OnErr result ((g : Geometry) (c : Content) → ImageBytes g c bytes → ⊥)
room-only-by bytes (Ok g) h = tt
room-only-by bytes (Err e) h = λ g c k. none-some (ap result_err (sym (image-read bytes g c k)) ∙ sym h)
  where
    none-some : None ≡ Some e → ⊥
    none-some x = cc
