-- The walk through a source.
use Rattle.std.proofs.Common.{◌≡◌, ℕ, suc, ◌+◌, ◌-◌, ◌≤◌, min, List, [], ◌∷◌, ◌++◌, ⊎_elim, length, take, drop, Option, Some, None, Result, Ok, Err, refl, sym, ap, ◌∙◌, subst, arith}
use Rattle.std.specs.Prelude.{IfSome, Bool, true, false, ◌==◌, ◌*◌, ◌<◌, if◌then◌else◌}
use Rattle.std.proofs.lemmas.List.{take-take, drop-take, take_min, take_all, length-drop, append_assoc, append-nil, drop-drop}
use Rattle.std.proofs.lemmas.Bool.Decides.{eqb_tells, nat_tests}
use Rattle.std.proofs.lemmas.List.Sums.{sum_by_push}
use Rattle.std.proofs.lemmas.List.Elements.{All-nil, All-push}
use Rattle.fb_frame.specs.Fields.{u16_at, u32_at}
use Rattle.dev_model.specs.Images.{image, is_sparse}
use Rattle.sparse_image.specs.declared.errors.SparseKind.TheVariants.{Empty}
use Rattle.sparse_image.proofs.WalkLemmas.{walk-agrees, image-none}
use Rattle.sparse_image.specs.declared.walk.Header.{Header}
use Rattle.sparse_image.specs.declared.errors.SparseError.{SparseError}
use Rattle.sparse_image.specs.declared.chunk.Chunk.{Chunk}
use Rattle.sparse_image.specs.declared.chunk.Content.{Content}
use Rattle.sparse_image.specs.declared.chunk.Content.TheVariants.{Raw, Fill, DontCare}
use Rattle.sparse_image.specs.Outside.{IsRead}
use Rattle.sparse_image.proofs.RunLemmas.{spent}
use Rattle.sparse_image.specs.Walks.{Kept, checked, sparse_checked, raw_checked, kept_cells, flaw, front_of, header_of, walked, kept, prepend, chunk_len, content_len, end_flaw, LiesIn, AreWell, ◌then_on◌}

-- a part of the first bytes
part-same : (n k m : ℕ) (xs : List ℕ) → k + n ≤ m → take n (drop k (take m xs)) ≡ take n (drop k xs)
part-same n k m xs h =
    let e : m ≡ k + (m - k) = omega arith in
    ap (λ (x : ℕ). take n (drop k (take x xs))) e ∙ ap (take n) (drop-take k (m - k) xs) ∙ take-take n (m - k) (drop k xs) (omega arith)

-- the first 16 bytes tell the chunk
pub front-take : (block blocks place left : ℕ) (xs : List ℕ) → front_of block blocks place left (take 16 xs) ≡ front_of block blocks place left xs
unfolding front_of u16_at u32_at
front-take block blocks place left xs =
    rw (part-same 2 0 16 xs (omega arith), part-same 4 4 16 xs (omega arith), part-same 4 8 16 xs (omega arith), part-same 4 12 16 xs (omega arith)) refl

-- what was read of the front of what is left
read-front : (file : List ℕ) (len place have : ℕ) (buf : List ℕ) → length file ≡ len → have ≡ min (len - place) 16 → length buf ≡ have → take have buf ≡ take have (drop place file) →
    buf ≡ take 16 (drop place file)
read-front file len place have buf l e n r =
    let d = length-drop place file in
    let m : have ≡ min 16 (length (drop place file)) = omega arith in
    sym (take_all have buf (omega arith)) ∙ r ∙ ap (λ (x : ℕ). take x (drop place file)) m ∙ take_min 16 (drop place file)

-- the chunk that was read is the one that stands there
pub front-read : (o : Option (List ℕ)) (len block blocks place have : ℕ) (buf : List ℕ) (r : Result Chunk SparseError) → IfSome o (λ file. length file ≡ len) → have ≡ min (len - place) 16 → length buf ≡ have → IsRead o place buf have →
    r ≡ front_of block blocks place (len - place) buf →
    IfSome o (λ file. front_of block blocks place (length (drop place file)) (drop place file) ≡ r)
front-read (Some file) len block blocks place have buf r l e n i h =
    let d : length (drop place file) ≡ len - place = length-drop place file ∙ ap (λ (x : ℕ). x - place) l in
    rw d (sym (front-take block blocks place (len - place) (drop place file)) ∙ ap (λ (xs : List ℕ). front_of block blocks place (len - place) xs) (sym (read-front file len place have buf l e n i)) ∙ sym h)
front-read None len block blocks place have buf r l e n i h = tt

pub ruleset fronts = (front-read)

-- the first four bytes tell whether a file is sparse, and the first 28 the header
read-start : (file buf : List ℕ) (len n : ℕ) → length file ≡ len → length buf ≡ min len n → take (length buf) buf ≡ take (length buf) file → buf ≡ take n file
read-start file buf len n l m r =
    let k : length buf ≡ min n (length file) = omega arith in
    sym (take_all (length buf) buf (omega arith)) ∙ r ∙ ap (λ (x : ℕ). take x file) k ∙ take_min n file

pub magic-read : (o : Option (List ℕ)) (len : ℕ) (buf : List ℕ) → IfSome o (λ file. length file ≡ len) → length buf ≡ min len 4 → IsRead o 0 buf (length buf) →
    IfSome o (λ file. is_sparse file ≡ is_sparse buf)
magic-read (Some file) len buf l m r = rw (read-start file buf len 4 l m r, take-take 4 4 file (omega arith)) refl
magic-read None len buf l m r = tt

pub header-take : (len : ℕ) (file : List ℕ) → header_of len (take 28 file) ≡ header_of len file
unfolding u16_at u32_at
header-take len file =
    rw (part-same 2 4 28 file (omega arith), part-same 2 6 28 file (omega arith), part-same 2 8 28 file (omega arith), part-same 2 10 28 file (omega arith), part-same 4 12 28 file (omega arith), part-same 4 16 28 file (omega arith), part-same 4 20 28 file (omega arith)) refl

pub header-read : (o : Option (List ℕ)) (len : ℕ) (buf : List ℕ) (r : Result Header SparseError) → IfSome o (λ file. length file ≡ len) → length buf ≡ min len 28 → IsRead o 0 buf (length buf) →
    r ≡ header_of len buf → IfSome o (λ file. header_of (length file) file ≡ r)
header-read (Some file) len buf r l m i h =
    rw l (sym (header-take len file) ∙ ap (λ (xs : List ℕ). header_of len xs) (sym (read-start file buf len 28 l m i)) ∙ sym h)
header-read None len buf r l m i h = tt

pub ruleset magics = (magic-read)

pub ruleset headers = (header-read)

prepend-none : (r : Result (List Chunk) SparseError) → prepend [] r ≡ r
prepend-none (Ok chunks) = refl
prepend-none (Err e) = refl

-- what is kept so far stands before what the walk will keep
kept-more : (chunk : Chunk) (chunks : List Chunk) → kept chunk [] ++ chunks ≡ kept chunk chunks
kept-more chunk chunks = ⊎_elim (λ h. rw h.0 refl) (λ h. rw h.0 refl) (eqb_tells chunk.blocks 0)

prepend-next : (before : List Chunk) (chunk : Chunk) (r : Result (List Chunk) SparseError) → prepend (before ++ kept chunk []) r ≡ prepend before (r then_on λ chunks. Ok (kept chunk chunks))
prepend-next before chunk (Err e) = refl
prepend-next before chunk (Ok chunks) = ap Ok (append_assoc before (kept chunk []) chunks ∙ ap (λ (xs : List Chunk). before ++ xs) (kept-more chunk chunks))

-- the chunks of a walk that goes on, whose whole is told
pub told-next : (o : Option (List ℕ)) (whole : List ℕ → Result (List Chunk) SparseError) (n m block blocks place : ℕ) (before : List Chunk) (chunk : Chunk) → n ≡ suc m →
    IfSome o (λ file. front_of block blocks place (length (drop place file)) (drop place file) ≡ Ok chunk) →
    IfSome o (λ file. prepend before (walked n block blocks place (drop place file)) ≡ whole file) →
    IfSome o (λ file. prepend (before ++ kept chunk []) (walked m block (blocks - chunk.blocks) (place + chunk_len block chunk) (drop (place + chunk_len block chunk) file)) ≡ whole file)
told-next None whole n m block blocks place before chunk k f w = tt
told-next (Some file) whole n m block blocks place before chunk k f w =
    let rest = drop place file in
    let v = rw k at w in
    rw (← drop-drop (chunk_len block chunk) place file)
    (prepend-next before chunk (walked m block (blocks - chunk.blocks) (place + chunk_len block chunk) (drop (chunk_len block chunk) rest))
    ∙ ap (λ (r : Result Chunk SparseError). prepend before (r then_on λ chunk. walked m block (blocks - chunk.blocks) (place + chunk_len block chunk) (drop (chunk_len block chunk) rest) then_on λ chunks. Ok (kept chunk chunks))) (sym f)
    ∙ v)

pub told-stops : (o : Option (List ℕ)) (whole : List ℕ → Result (List Chunk) SparseError) (n m block blocks place : ℕ) (before : List Chunk) (e : SparseError) → n ≡ suc m →
    IfSome o (λ file. front_of block blocks place (length (drop place file)) (drop place file) ≡ Err e) →
    IfSome o (λ file. prepend before (walked n block blocks place (drop place file)) ≡ whole file) → IfSome o (λ file. whole file ≡ Err e)
told-stops None whole n m block blocks place before e k f w = tt
told-stops (Some file) whole n m block blocks place before e k f w =
    let rest = drop place file in
    let v = rw k at w in
    sym v ∙ ap (λ (r : Result Chunk SparseError). prepend before (r then_on λ chunk. walked m block (blocks - chunk.blocks) (place + chunk_len block chunk) (drop (chunk_len block chunk) rest) then_on λ chunks. Ok (kept chunk chunks))) f

pub told-ends : (o : Option (List ℕ)) (whole : List ℕ → Result (List Chunk) SparseError) (n len block blocks place : ℕ) (before : List Chunk) → n ≡ 0 → IfSome o (λ file. length file ≡ len) →
    end_flaw blocks place (len - place) ≡ None → IfSome o (λ file. prepend before (walked n block blocks place (drop place file)) ≡ whole file) → IfSome o (λ file. whole file ≡ Ok before)
told-ends None whole n len block blocks place before k l e w = tt
told-ends (Some file) whole n len block blocks place before k l e w =
    let d : length (drop place file) ≡ len - place = length-drop place file ∙ ap (λ (x : ℕ). x - place) l in
    let v = rw (k, d, e) at w in
    sym v ∙ ap Ok (append-nil before)

pub told-bad_end : (o : Option (List ℕ)) (whole : List ℕ → Result (List Chunk) SparseError) (n len block blocks place : ℕ) (before : List Chunk) (flaw : SparseError) → n ≡ 0 → IfSome o (λ file. length file ≡ len) →
    end_flaw blocks place (len - place) ≡ Some flaw → IfSome o (λ file. prepend before (walked n block blocks place (drop place file)) ≡ whole file) → IfSome o (λ file. whole file ≡ Err flaw)
told-bad_end None whole n len block blocks place before flaw k l e w = tt
told-bad_end (Some file) whole n len block blocks place before flaw k l e w =
    let d : length (drop place file) ≡ len - place = length-drop place file ∙ ap (λ (x : ℕ). x - place) l in
    let v = rw (k, d, e) at w in
    sym v

pub told-begins : (o : Option (List ℕ)) (n block blocks : ℕ) →
    IfSome o (λ file. prepend [] (walked n block blocks 28 (drop 28 file)) ≡ walked n block blocks 28 (drop 28 file))
told-begins None n block blocks = tt
told-begins (Some file) n block blocks = prepend-none (walked n block blocks 28 (drop 28 file))

-- what is kept so far
well-kept : (block len blocks : ℕ) (chunks : List Chunk) (chunk : Chunk) → AreWell block len blocks chunks → LiesIn len (chunk.blocks * block) chunk.content →
    (b : Bool) → (chunk.blocks == 0) ≡ b → AreWell block len (blocks + chunk.blocks) (chunks ++ (if b then [] else chunk ∷ []))
well-kept block len blocks chunks chunk w l true e =
    let z : chunk.blocks ≡ 0 = grind (arith, nat_tests) in
    record {
      total = rw append-nil (omega (arith, w.total));
      some = rw append-nil w.some;
      lies = rw append-nil w.lies;
    }
well-kept block len blocks chunks chunk w l false e =
    let z : 0 < chunk.blocks = grind (arith, nat_tests) in
    record {
      total = sum_by_push (λ (c : Chunk). c.blocks) chunks chunk ∙ ap (λ (x : ℕ). x + chunk.blocks) w.total;
      some = All-push (λ (c : Chunk). 0 < c.blocks) chunks chunk w.some z;
      lies = All-push (λ (c : Chunk). LiesIn len (c.blocks * block) c.content) chunks chunk w.lies l;
    }

pub well-next : (block len total left now : ℕ) (chunks : List Chunk) (chunk : Chunk) → AreWell block len (total - left) chunks → LiesIn len (chunk.blocks * block) chunk.content →
    left ≤ total → chunk.blocks ≤ left → now ≡ left - chunk.blocks → AreWell block len (total - now) (chunks ++ kept chunk [])
well-next block len total left now chunks chunk w l h i e =
    let n : total - left + chunk.blocks ≡ total - now = omega arith in
    subst (λ (x : ℕ). AreWell block len x (chunks ++ kept chunk [])) n (well-kept block len (total - left) chunks chunk w l (chunk.blocks == 0) refl)

pub well-none : (block len total : ℕ) → AreWell block len (total - total) []
well-none block len total = record { total = omega arith; some = All-nil _; lies = All-nil _ }

-- how far the walk is at most
content-short : (n : ℕ) (content : Content) → content_len n content ≤ n + 4
content-short n (Raw place) = omega arith
content-short n (Fill pattern) = omega arith
content-short n DontCare = omega arith

pub most-next : (block total left now place count : ℕ) (chunk : Chunk) → left ≤ total → chunk.blocks ≤ left → now ≡ left - chunk.blocks → place ≤ 28 + (total - left) * block + 16 * count →
    place + chunk_len block chunk ≤ 28 + (total - now) * block + 16 * (count + 1)
most-next block total left now place count chunk i d e h =
    omega (arith, h, spent (total - now) (total - left) chunk.blocks block (omega arith), content-short (chunk.blocks * block) chunk.content)

ended-walk : (blocks place left : ℕ) → end_flaw blocks place left ≡ None → (blocks ≡ 0) × (left ≡ 0)
ended-walk blocks place left h = (grind (arith, nat_tests), grind (arith, nat_tests))

pub most-ends : (block total left place len count : ℕ) → place ≤ len → end_flaw left place (len - place) ≡ None → place ≤ 28 + (total - left) * block + 16 * count → len ≤ 28 + total * block + 16 * count
most-ends block total left place len count i h m =
    let e = ended-walk left place (len - place) h in
    let n : total - left ≡ total = omega (arith, e.0) in
    omega (arith, i, e.1, m, ap (λ (x : ℕ). x * block) n)

pub kept-short : (chunk : Chunk) → length (kept chunk []) ≤ 1
kept-short chunk = ⊎_elim (λ h. rw h.0 (omega arith)) (λ h. rw h.0 (omega arith)) (eqb_tells chunk.blocks 0)

-- the index of a sparse source
pub sparse-kept : (o : Option (List ℕ)) (len : ℕ) (header : Header) (chunks : List Chunk) → IfSome o (λ file. length file ≡ len) → IfSome o (λ file. header_of (length file) file ≡ Ok header) →
    IfSome o (λ file. walked header.chunks header.block header.blocks 28 (drop 28 file) ≡ Ok chunks) →
    IfSome o (λ file. sparse_checked file ≡ Ok (record { sparse = true; source_len = len; block = header.block; blocks = header.blocks; chunks = chunks }))
sparse-kept None len header chunks l h w = tt
sparse-kept (Some file) len header chunks l h w = rw (h, w, l) refl

pub sparse-bad_header : (o : Option (List ℕ)) (flaw : SparseError) → IfSome o (λ file. header_of (length file) file ≡ Err flaw) → IfSome o (λ file. sparse_checked file ≡ Err flaw)
sparse-bad_header None flaw h = tt
sparse-bad_header (Some file) flaw h = rw h refl

pub sparse-bad_chunks : (o : Option (List ℕ)) (header : Header) (flaw : SparseError) → IfSome o (λ file. header_of (length file) file ≡ Ok header) →
    IfSome o (λ file. walked header.chunks header.block header.blocks 28 (drop 28 file) ≡ Err flaw) → IfSome o (λ file. sparse_checked file ≡ Err flaw)
sparse-bad_chunks None header flaw h w = tt
sparse-bad_chunks (Some file) header flaw h w = rw (h, w) refl

pub ruleset indexes = (sparse-kept, sparse-bad_header, sparse-bad_chunks)

-- the whole check
pub checked-empty : (o : Option (List ℕ)) (len : ℕ) → IfSome o (λ file. length file ≡ len) → len ≡ 0 → IfSome o (λ file. checked file ≡ Err (flaw Empty 0))
checked-empty None len l e = tt
checked-empty (Some file) len l e = rw (l, e) refl

pub checked-sparse : (o : Option (List ℕ)) (len : ℕ) (r : Result Kept SparseError) → IfSome o (λ file. length file ≡ len) → 0 < len → IfSome o (λ file. is_sparse file ≡ true) → IfSome o (λ file. sparse_checked file ≡ r) → IfSome o (λ file. checked file ≡ r)
checked-sparse None len r l e s h = tt
checked-sparse (Some file) len r l e s h =
    let z : (length file == 0) ≡ false = grind (arith, nat_tests) in
    rw (z, s) h

pub checked-raw : (o : Option (List ℕ)) (len : ℕ) (r : Result Kept SparseError) → IfSome o (λ file. length file ≡ len) → 0 < len → IfSome o (λ file. is_sparse file ≡ false) →
    ((file : List ℕ) → length file ≡ len → raw_checked file ≡ r) → IfSome o (λ file. checked file ≡ r)
checked-raw None len r l e s h = tt
checked-raw (Some file) len r l e s h =
    let z : (length file == 0) ≡ false = grind (arith, nat_tests) in
    rw (z, s) (h file l)

pub image-kept : (o : Option (List ℕ)) (kept : Kept) → IfSome o (λ file. checked file ≡ Ok kept) → IfSome o (λ file. image file ≡ Some (kept_cells kept file))
image-kept None kept h = tt
image-kept (Some file) kept h = let a = walk-agrees file in rw h at a

pub image-bad : (o : Option (List ℕ)) (flaw : SparseError) → IfSome o (λ file. checked file ≡ Err flaw) → IfSome o (λ file. image file ≡ None)
image-bad None flaw h = tt
image-bad (Some file) flaw h = image-none file flaw h

pub ruleset checks = (checked-empty, checked-sparse, checked-raw, image-kept, image-bad)
