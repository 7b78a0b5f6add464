-- A geometry is read of exactly its bytes.
use Rattle.std.proofs.Common.{◌≡◌, ℕ, ◌+◌, ◌-◌, ◌^◌, ◌<◌, ◌≤◌, Bool, true, List, [], ◌∷◌, ◌++◌, length, take, drop, Option, Some, None, Result, Ok, Err, refl, sym, ap, ◌∙◌, arith, subst, lit<}
use Rattle.std.specs.Prelude.{IfOk, ◌||◌, not, nat_lt, ◌==◌, bytes_eq}
use Rattle.std.specs.Int.{w32, to_le_bytes}
use Rattle.std.proofs.lemmas.Bool.Decides.{nat_tests}
use Rattle.std.proofs.lemmas.List.{take-append-drop, drop-drop, length-take, take_at}
use Rattle.std.proofs.lemmas.Slice.Eq.{bytes_eq-Decides}
use Rattle.super_meta.specs.declared.errors.MetaError.{MetaError}
use Rattle.super_meta.specs.declared.errors.MetaError.TheVariants.{ShortInput, BadMagic, BadSize, BadChecksum}
use Rattle.super_meta.specs.declared.geometry.Geometry.{Geometry}
use Rattle.super_meta.specs.Flaws.{first_flaw, or_flaw}
use Rattle.super_meta.specs.GeometryText.{is_geometry, geometry_at, geometry_flaw, geometry_of, geometry_front, geometry_back, geometry_bytes, GeometryBytes}
use Rattle.super_meta.specs.Laws.{GeometryRead, GeometrySpelled, OneGeometry}
use Rattle.fb_frame.specs.Bytes.{AreBytes, zeros}
use Rattle.fb_frame.specs.Fields.{u32_at}
use Rattle.super_meta.specs.Sealed.{digest_around, sealed}
use Rattle.fb_frame.proofs.FieldLemmas.{field32, below32, again32}
use Rattle.super_meta.proofs.PutLemmas.{written-front}
use Rattle.super_meta.proofs.SealLemmas.{part, seals, seal-front, seal-digest, seal-behind, seal-back, length-sealed}

-- what is wrong, by the values of the fields
abbrev flaw_by : (len magic size : ℕ) (good same : Bool) → Option MetaError
flaw_by len magic size good same =
    first_flaw
    ((nat_lt len 52, ShortInput)
    ∷ (not (magic == 0x616C4467), BadMagic)
    ∷ (not (size == 52) || not good, BadSize)
    ∷ (not same, BadChecksum)
    ∷ [])

-- what is right with fields in which there is no flaw
record AreRight (len magic size : ℕ) (good same : Bool) : Type 0 where
  pub len-is : 52 ≤ len
  pub magic-is : magic ≡ 0x616C4467
  pub size-is : size ≡ 52
  pub good-is : good ≡ true
  pub same-is : same ≡ true

right : (len magic size : ℕ) (good same : Bool) → flaw_by len magic size good same ≡ None → AreRight len magic size good same
right len magic size good same h = record {
  len-is = grind (arith, nat_tests);
  magic-is = grind (arith, nat_tests);
  size-is = grind (arith, nat_tests);
  good-is = grind (arith, nat_tests);
  same-is = grind (arith, nat_tests);
}

rightly : (len magic size : ℕ) (good same : Bool) → 52 ≤ len → magic ≡ 0x616C4467 → size ≡ 52 → good ≡ true → same ≡ true → flaw_by len magic size good same ≡ None
rightly len magic size good same a b c d e = grind (arith, nat_tests)

-- no flaw where a value was read, and the value is the one that stands there
no-flaw : {X : Type 0} (o : Option MetaError) (x y : X) → or_flaw o x ≡ Ok y → (o ≡ None) × (x ≡ y)
no-flaw None x y h = (refl, cc)
no-flaw (Some e) x y h = absurd cc

abbrev same_digest : List ℕ → Bool
same_digest bytes = bytes_eq (take 32 (drop 8 bytes)) (digest_around (take 8 bytes) (take 12 (drop 40 bytes)))

-- the parts of bytes whose fields are right
front-is : (bytes : List ℕ) → AreBytes bytes → 8 ≤ length bytes → u32_at 0 bytes ≡ 0x616C4467 → u32_at 4 bytes ≡ 52 → take 8 bytes ≡ geometry_front
unfolding geometry_front
front-is bytes h l a b =
    part 4 4 8 0 4 bytes refl refl
    ∙ (ap (λ t. t ++ take 4 (drop 4 bytes)) (field32 0 bytes h (omega arith) ∙ ap (to_le_bytes w32) a)
    ∙ ap (λ t. to_le_bytes w32 0x616C4467 ++ t) (field32 4 bytes h (omega arith) ∙ ap (to_le_bytes w32) b))

back-is : (bytes : List ℕ) → AreBytes bytes → 52 ≤ length bytes → take 12 (drop 40 bytes) ≡ geometry_back (geometry_at bytes)
unfolding geometry_back
back-is bytes h l =
    part 8 4 12 40 48 bytes refl refl
    ∙ (ap (λ t. t ++ take 4 (drop 48 bytes)) (part 4 4 8 40 44 bytes refl refl)
    ∙ (ap (λ t. (take 4 (drop 40 bytes) ++ take 4 (drop 44 bytes)) ++ t) (field32 48 bytes h l)
    ∙ (ap (λ t. (take 4 (drop 40 bytes) ++ t) ++ to_le_bytes w32 (u32_at 48 bytes)) (field32 44 bytes h (omega arith))
    ∙ ap (λ t. (t ++ to_le_bytes w32 (u32_at 44 bytes)) ++ to_le_bytes w32 (u32_at 48 bytes)) (field32 40 bytes h (omega arith)))))

takes : (bytes : List ℕ) (g : Geometry) → AreBytes bytes → geometry_of bytes ≡ Ok g → GeometryBytes g bytes
takes bytes g h e =
    let f = no-flaw (geometry_flaw bytes) (geometry_at bytes) g e in
    let r = right (length bytes) (u32_at 0 bytes) (u32_at 4 bytes) (is_geometry (geometry_at bytes)) (same_digest bytes) f.0 in
    let same = (bytes_eq-Decides (take 32 (drop 8 bytes)) (digest_around (take 8 bytes) (take 12 (drop 40 bytes)))).0 r.same-is in
    let front = front-is bytes h (omega (arith, r.len-is)) r.magic-is r.size-is in
    let back = back-is bytes h r.len-is in
    let digest : take 32 (drop 8 bytes) ≡ digest_around geometry_front (geometry_back (geometry_at bytes)) = same ∙ (ap (λ t. digest_around t (take 12 (drop 40 bytes))) front ∙ ap (digest_around geometry_front) back) in
    subst (λ (x : Geometry). GeometryBytes x bytes) f.1
    (record {
      good = r.good-is;
      max_size = below32 40 bytes h;
      slots = below32 44 bytes h;
      spelled = seals 8 12 40 52 bytes geometry_front (geometry_back (geometry_at bytes)) refl refl front back digest;
    })

pub length-front : length geometry_front ≡ 8
unfolding geometry_front
length-front = refl

pub length-back : (g : Geometry) → length (geometry_back g) ≡ 12
unfolding geometry_back
length-back g = refl

-- the fields of a geometry's bytes
front-again : (bytes back rest : List ℕ) → bytes ≡ sealed geometry_front back ++ rest → (u32_at 0 bytes ≡ 0x616C4467) × (u32_at 4 bytes ≡ 52)
unfolding geometry_front
front-again bytes back rest e =
    (again32 0 0x616C4467 bytes _ (lit< tt) e, again32 4 52 bytes _ (lit< tt) (ap (drop 4) e))

back-again : (bytes rest : List ℕ) (g : Geometry) → g.max_size < 2 ^ 32 → g.slots < 2 ^ 32 → g.block_size < 2 ^ 32 → drop 40 bytes ≡ geometry_back g ++ rest → geometry_at bytes ≡ g
unfolding geometry_back
back-again bytes rest g a b c e =
    let x = again32 40 g.max_size bytes _ a e in
    let y = again32 44 g.slots bytes _ b (sym (drop-drop 4 40 bytes) ∙ ap (drop 4) e) in
    let z = again32 48 g.block_size bytes _ c (sym (drop-drop 8 40 bytes) ∙ ap (drop 8) e) in
    λ i. record { max_size = x i; slots = y i; block_size = z i }

block-is : (g : Geometry) → is_geometry g ≡ true → g.block_size ≡ 4096
block-is g h = grind (arith, nat_tests)

gives : (bytes : List ℕ) (g : Geometry) → GeometryBytes g bytes → geometry_of bytes ≡ Ok g
gives bytes g h =
    let e : bytes ≡ geometry_bytes g ++ drop 52 bytes = sym (take-append-drop 52 bytes) ∙ ap (λ t. t ++ drop 52 bytes) h.spelled in
    let long : 52 ≤ length bytes = omega (arith, length-take 52 bytes, ap length h.spelled, length-sealed geometry_front (geometry_back g), length-front, length-back g) in
    let behind = seal-behind 8 40 bytes geometry_front (geometry_back g) (drop 52 bytes) length-front refl e in
    let at = back-again bytes (drop 52 bytes) g h.max_size h.slots (omega (arith, block-is g h.good)) behind in
    let heads = front-again bytes (geometry_back g) (drop 52 bytes) e in
    let front = seal-front 8 bytes geometry_front (geometry_back g) (drop 52 bytes) length-front e in
    let back = seal-back 8 40 12 bytes geometry_front (geometry_back g) (drop 52 bytes) length-front refl (length-back g) e in
    let digest = seal-digest 8 bytes geometry_front (geometry_back g) (drop 52 bytes) length-front e in
    let same : take 32 (drop 8 bytes) ≡ digest_around (take 8 bytes) (take 12 (drop 40 bytes)) = digest ∙ (ap (λ t. digest_around t (geometry_back g)) (sym front) ∙ ap (digest_around (take 8 bytes)) (sym back)) in
    let none = rightly (length bytes) (u32_at 0 bytes) (u32_at 4 bytes) (is_geometry (geometry_at bytes)) (same_digest bytes) long heads.0 heads.1 (ap is_geometry at ∙ h.good) ((bytes_eq-Decides _ _).1 same) in
    ap (λ o. or_flaw o (geometry_at bytes)) none ∙ ap Ok at

pub geometry-read : GeometryRead
geometry-read bytes g h = gives bytes g h

pub geometry-spelled : GeometrySpelled
geometry-spelled bytes g b e = takes bytes g b e

abbrev read : {X : Type 0} → X → Result X MetaError
read x = Ok x

ok-same : {X : Type 0} (x y : X) → read x ≡ read y → x ≡ y
ok-same x y e = cc

pub one-geometry : OneGeometry
one-geometry bytes g h a b = ok-same g h (sym (gives bytes g a) ∙ gives bytes h b)

-- a block with a geometry at its front
pub block-written : (g : Geometry) (front back block cleared new : List ℕ) (n : ℕ) → front ≡ geometry_front → back ≡ geometry_back g → length block ≡ 4096 →
    n ≡ 0 + (length front + 32 + length back) → take n new ≡ sealed front back → ((k : ℕ) → n ≤ k → drop k new ≡ drop k cleared) → cleared ≡ zeros (length block) →
    new ≡ geometry_bytes g ++ zeros 4044
block-written g front back block cleared new n a b l e t r z =
    let n-is : n ≡ 52 = e ∙ omega (arith, ap length a, ap length b, length-front, length-back g) in
    let left : 4096 - n ≡ 4044 = omega arith in
    let spelled : take n new ≡ geometry_bytes g = t ∙ (ap (λ x. sealed x back) a ∙ ap (sealed geometry_front) b) in
    let rest : drop n new ≡ drop n (zeros 4096) = r n (omega arith) ∙ ap (drop n) (z ∙ ap zeros l) in
    written-front n 4096 new (geometry_bytes g) spelled rest ∙ ap (λ k. geometry_bytes g ++ zeros k) left

-- begins with that geometry
pub block-holds : (g : Geometry) (block rest : List ℕ) → is_geometry g ≡ true → g.max_size < 2 ^ 32 → g.slots < 2 ^ 32 → block ≡ geometry_bytes g ++ rest → GeometryBytes g block
block-holds g block rest h a b e = record {
  good = h;
  max_size = a;
  slots = b;
  spelled = ap (take 52) e ∙ take_at (geometry_bytes g) rest 52 (omega (arith, length-sealed geometry_front (geometry_back g), length-front, length-back g));
}

-- what was read, by the definition of reading
pub found-by : (bytes : List ℕ) (result : Result Geometry MetaError) → AreBytes bytes → result ≡ geometry_of bytes → IfOk result (λ g. GeometryBytes g bytes)
found-by bytes (Ok g) h e = takes bytes g h (sym e)
found-by bytes (Err d) h e = tt

pub only-by : (bytes : List ℕ) (result : Result Geometry MetaError) → result ≡ geometry_of bytes → (g : Geometry) → GeometryBytes g bytes → result ≡ Ok g
only-by bytes result e g h = e ∙ gives bytes g h
