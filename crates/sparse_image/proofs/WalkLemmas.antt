-- The walk keeps the cells of the image, or the image isn't there.
use Rattle.std.proofs.Common.{◌≡◌, ℕ, zero, suc, ◌+◌, ◌-◌, ◌*◌, ◌<◌, ◌≤◌, Bool, true, false, List, [], ◌++◌, length, take, drop, map, replicate, length-append, Option, Some, None, Result, Ok, Err, refl, sym, ap, ◌∙◌, arith, zero-mul, ⊎_elim, subst}
use Rattle.std.specs.Prelude.{◌&&◌, ◌%◌, ◌^◌, ◌/◌, nat_le, nat_lt, ◌==◌, if◌then◌else◌}
use Rattle.std.specs.Prelude.{IsSome}
use Rattle.std.specs.Result.{result_err}
use Rattle.std.specs.List.{flat_map}
use Rattle.std.proofs.lemmas.Bool.Decides.{nat_tests, eqb_tells, leb_tells}
use Rattle.std.proofs.lemmas.List.{drop-drop, take_all, append-nil, length-replicate, length-take-le, length-drop, length-map}
use Rattle.dev_model.specs.Options.{◌>>=◌, needs}
use Rattle.dev_model.specs.Images.{data_size, image, header_is_good, sparse_cells, raw_cells, round_up, is_sparse, chunks_cells, chunk_cells, copies}
use Rattle.fb_frame.specs.Fields.{u16_at, u32_at}
use Rattle.dev_model.specs.declared.cells.Cell.{Cell}
use Rattle.dev_model.specs.declared.cells.Cell.TheVariants.{Byte, Skip}
use Rattle.sparse_image.specs.declared.errors.SparseError.{SparseError}
use Rattle.sparse_image.specs.declared.errors.SparseKind.TheVariants.{Truncated, TooLong}
use Rattle.sparse_image.specs.declared.chunk.Chunk.{Chunk}
use Rattle.sparse_image.specs.declared.chunk.Content.{Content}
use Rattle.sparse_image.specs.declared.chunk.Content.TheVariants.{Raw, Fill, DontCare}
use Rattle.sparse_image.specs.Walks.{head_of, front_of, front_chunk, chunk_len, content_len, content_of, flaw, Kept, checked, sparse_checked, raw_checked, form_flaw, or_flaw, sized_header, header_of, raw_kept, kept_cells, walked, kept, ◌then_on◌, cells_of, content_cells, LiesIn, HasFour, IsFine, fields_of}
use Rattle.sparse_image.specs.declared.walk.Header.{Header}
use Rattle.sparse_image.specs.declared.walk.Head.{Head}
use Rattle.sparse_image.specs.Laws.{Agrees, WalkAgrees}

-- one chunk of the image, by the cells of the rest and its own, each by the size of its data
abbrev pub image_step : ℕ → ℕ → ℕ → Head → (ℕ → Option (List Cell)) → (ℕ → List Cell) → Option (List Cell)
image_step block blocks left head rest own = do
  size ← data_size head.kind head.blocks block
  _ ← needs (nat_le 12 left && nat_le head.blocks blocks && head.size == 12 + size && nat_le (12 + size) left)
  cells ← rest size
  Some (own size ++ cells)

step-err : (block blocks place left : ℕ) (head : Head) (first : List ℕ) (rest : ℕ → Option (List Cell)) (own : ℕ → List Cell) (e : SparseError) →
    front_chunk block blocks place left head first ≡ Err e → image_step block blocks left head rest own ≡ None
step-err block blocks place left head first rest own e h = grind (arith, nat_tests)

step-ok : (block blocks place left : ℕ) (head : Head) (first : List ℕ) (rest : ℕ → Option (List Cell)) (own : ℕ → List Cell) (chunk : Chunk) →
    front_chunk block blocks place left head first ≡ Ok chunk →
    image_step block blocks left head rest own ≡ (rest (content_len (chunk.blocks * block) chunk.content) >>= λ cells. Some (own (content_len (chunk.blocks * block) chunk.content) ++ cells))
step-ok block blocks place left head first rest own chunk h = grind (arith, nat_tests)

-- what a walk through chunks found, and the image's cells of them
abbrev pub Found : ℕ → List ℕ → Result (List Chunk) SparseError → Option (List Cell) → Type 0
Found block file (Ok chunks) found = found ≡ Some (flat_map (cells_of block file) chunks)
Found block file (Err e) found = found ≡ None

Found-by : (block : ℕ) (file : List ℕ) (r : Result (List Chunk) SparseError) (found : Option (List Cell)) →
    ((chunks : List Chunk) → r ≡ Ok chunks → found ≡ Some (flat_map (cells_of block file) chunks)) →
    ((e : SparseError) → r ≡ Err e → found ≡ None) → Found block file r found
Found-by block file (Ok chunks) found f g = f chunks refl
Found-by block file (Err e) found f g = g e refl

ends-nil : (block blocks place : ℕ) (bytes : List ℕ) (chunks : List Chunk) → walked zero block blocks place bytes ≡ Ok chunks → chunks ≡ []
ends-nil block blocks place bytes chunks h = grind (arith, nat_tests)

ends-some : (block blocks place : ℕ) (bytes : List ℕ) (chunks : List Chunk) → walked zero block blocks place bytes ≡ Ok chunks → chunks_cells zero block blocks bytes ≡ Some []
ends-some block blocks place bytes chunks h = grind (arith, nat_tests)

ends-ok : (block blocks place : ℕ) (file bytes : List ℕ) (chunks : List Chunk) → walked zero block blocks place bytes ≡ Ok chunks → chunks_cells zero block blocks bytes ≡ Some (flat_map (cells_of block file) chunks)
ends-ok block blocks place file bytes chunks h = ends-some block blocks place bytes chunks h ∙ ap (λ cs. Some (flat_map (cells_of block file) cs)) (sym (ends-nil block blocks place bytes chunks h))

ends-err : (block blocks place : ℕ) (bytes : List ℕ) (e : SparseError) → walked zero block blocks place bytes ≡ Err e → chunks_cells zero block blocks bytes ≡ None
ends-err block blocks place bytes e h = grind (arith, nat_tests)

ends : (block blocks place : ℕ) (file bytes : List ℕ) → Found block file (walked zero block blocks place bytes) (chunks_cells zero block blocks bytes)
ends block blocks place file bytes = Found-by block file _ _ (ends-ok block blocks place file bytes) (ends-err block blocks place bytes)

no-cells : (n block : ℕ) (file : List ℕ) (content : Content) → n ≡ 0 → content_cells (n * block) file content ≡ []
no-cells n block file (Raw place) h = rw (h, zero-mul) refl
no-cells n block file (Fill pattern) h = rw (h, zero-mul) refl
no-cells n block file DontCare h = rw (h, zero-mul) refl

kept-cells : (block : ℕ) (file : List ℕ) (chunk : Chunk) (chunks : List Chunk) → flat_map (cells_of block file) (kept chunk chunks) ≡ cells_of block file chunk ++ flat_map (cells_of block file) chunks
kept-cells block file chunk chunks =
    ⊎_elim (λ h. rw h.0 (ap (λ own. own ++ flat_map (cells_of block file) chunks) (sym (no-cells chunk.blocks block file chunk.content h.1)))) (λ h. rw h.0 refl) (eqb_tells chunk.blocks 0)

joined : (block : ℕ) (file : List ℕ) (chunk : Chunk) (r : Result (List Chunk) SparseError) (found : Option (List Cell)) → Found block file r found →
    Found block file (r then_on λ chunks. Ok (kept chunk chunks)) (found >>= λ cells. Some (cells_of block file chunk ++ cells))
joined block file chunk (Ok chunks) found h = rw h (ap Some (sym (kept-cells block file chunk chunks)))
joined block file chunk (Err e) found h = rw h refl

front-blocks : (block blocks place left : ℕ) (head : Head) (first : List ℕ) (chunk : Chunk) → front_chunk block blocks place left head first ≡ Ok chunk → chunk.blocks ≡ head.blocks
front-blocks block blocks place left head first chunk h = grind (arith, nat_tests)

front-content : (block blocks place left : ℕ) (head : Head) (first : List ℕ) (chunk : Chunk) → front_chunk block blocks place left head first ≡ Ok chunk → chunk.content ≡ content_of head.kind (place + 12) first
front-content block blocks place left head first chunk h = grind (arith, nat_tests)

front_chunk-fits : (block blocks place left : ℕ) (head : Head) (first : List ℕ) (chunk : Chunk) → front_chunk block blocks place left head first ≡ Ok chunk → 12 + content_len (chunk.blocks * block) chunk.content ≤ left
front_chunk-fits block blocks place left head first chunk h = grind (arith, nat_tests)

-- the content that a type tells has the cells of the image, where its data stands at the place
type-cells : (kind count block place : ℕ) (file : List ℕ) →
    chunk_cells kind count block (take (content_len (count * block) (content_of kind place (take 4 (drop place file)))) (drop place file)) ≡ content_cells (count * block) file (content_of kind place (take 4 (drop place file)))
type-cells kind count block place file =
    ⊎_elim (λ h. rw h.0 refl)
    (λ h. rw h.0 (⊎_elim (λ k. rw k.0 refl) (λ k. rw k.0 refl) (eqb_tells kind 0xCAC2)))
    (eqb_tells kind 0xCAC1)

-- the cells of a chunk that was found are those of the image
front-cells : (block blocks place left : ℕ) (head : Head) (file : List ℕ) (chunk : Chunk) →
    front_chunk block blocks place left head (take 4 (drop 12 (drop place file))) ≡ Ok chunk →
    chunk_cells head.kind head.blocks block (take (content_len (chunk.blocks * block) chunk.content) (drop 12 (drop place file))) ≡ cells_of block file chunk
front-cells block blocks place left head file chunk h =
    let b = front-blocks block blocks place left head _ chunk h in
    let c = front-content block blocks place left head _ chunk h in
    rw (b, c, drop-drop 12 place file) (type-cells head.kind head.blocks block (place + 12) file)

Found-at : (block : ℕ) (file : List ℕ) (r : Result (List Chunk) SparseError) (found more : Option (List Cell)) → found ≡ more → Found block file r more → Found block file r found
Found-at block file r found more e h = rw e h

pub front-stops : (more block blocks place : ℕ) (file : List ℕ) (e : SparseError) → front_of block blocks place (length (drop place file)) (drop place file) ≡ Err e →
    chunks_cells (suc more) block blocks (drop place file) ≡ None
unfolding front_of
front-stops more block blocks place file e h =
    let bytes = drop place file in
    step-err block blocks place (length bytes) (head_of bytes) _ (λ size. chunks_cells more block (blocks - u32_at 4 bytes) (drop (12 + size) bytes)) (λ size. chunk_cells (u16_at 0 bytes) (u32_at 4 bytes) block (take size (drop 12 bytes))) e h

-- the image's cells of some chunks, by the first of them
pub front-step : (more block blocks place : ℕ) (file : List ℕ) (chunk : Chunk) → front_of block blocks place (length (drop place file)) (drop place file) ≡ Ok chunk →
    chunks_cells (suc more) block blocks (drop place file) ≡ (chunks_cells more block (blocks - chunk.blocks) (drop (chunk_len block chunk) (drop place file)) >>= λ cells. Some (cells_of block file chunk ++ cells))
unfolding front_of
front-step more block blocks place file chunk h =
    let bytes = drop place file in
    let head = head_of bytes in
    let len = content_len (chunk.blocks * block) chunk.content in
    let s = step-ok block blocks place (length bytes) head _ (λ size. chunks_cells more block (blocks - u32_at 4 bytes) (drop (12 + size) bytes)) (λ size. chunk_cells (u16_at 0 bytes) (u32_at 4 bytes) block (take size (drop 12 bytes))) chunk h in
    let b = front-blocks block blocks place (length bytes) head _ chunk h in
    let c = front-cells block blocks place (length bytes) head file chunk h in
    s ∙ ap (λ (n : ℕ). chunks_cells more block (blocks - n) (drop (12 + len) bytes) >>= λ cells. Some (chunk_cells (u16_at 0 bytes) (u32_at 4 bytes) block (take len (drop 12 bytes)) ++ cells)) (sym b)
    ∙ ap (λ (own : List Cell). chunks_cells more block (blocks - chunk.blocks) (drop (12 + len) bytes) >>= λ cells. Some (own ++ cells)) c

walk-on : (more block blocks place : ℕ) (file : List ℕ) →
    ((b p : ℕ) → Found block file (walked more block b p (drop p file)) (chunks_cells more block b (drop p file))) →
    (r : Result Chunk SparseError) → front_of block blocks place (length (drop place file)) (drop place file) ≡ r →
    Found block file
    (r then_on λ chunk.
    walked more block (blocks - chunk.blocks) (place + chunk_len block chunk) (drop (chunk_len block chunk) (drop place file)) then_on λ chunks.
    Ok (kept chunk chunks))
    (chunks_cells (suc more) block blocks (drop place file))
walk-on more block blocks place file ih (Err e) h = front-stops more block blocks place file e h
walk-on more block blocks place file ih (Ok chunk) h =
    Found-at block file _ _ _ (front-step more block blocks place file chunk h)
    (joined block file chunk _ _ (rw (drop-drop (chunk_len block chunk) place file) (ih (blocks - chunk.blocks) (place + chunk_len block chunk))))

pub walk : (more block blocks place : ℕ) (file : List ℕ) → Found block file (walked more block blocks place (drop place file)) (chunks_cells more block blocks (drop place file))
walk zero block blocks place file = ends block blocks place file (drop place file)
walk (suc more) block blocks place file = walk-on more block blocks place file (λ b p. walk more block b p file) (front_of block blocks place (length (drop place file)) (drop place file)) refl

-- the header by its fields
abbrev header_by : (len major minor size chunk_size block blocks chunks : ℕ) → Result Header SparseError
header_by len major minor size chunk_size block blocks chunks =
    if nat_lt len 28 then Err (flaw Truncated len)
    else or_flaw (form_flaw major minor size chunk_size) (sized_header (record { block = block; blocks = blocks; chunks = chunks }))

abbrev pub good_by : (len major minor size chunk_size block blocks chunks : ℕ) → Bool
good_by len major minor size chunk_size block blocks chunks =
    nat_le 28 len
    && major == 1 && minor == 0 && size == 28 && chunk_size == 12
    && block % 512 == 0 && nat_le 512 block && nat_le block 65536
    && nat_lt 0 blocks && nat_le (blocks * block) (2 ^ 44) && nat_le chunks 1000000

header_by-err : (len major minor size chunk_size block blocks chunks : ℕ) (e : SparseError) → header_by len major minor size chunk_size block blocks chunks ≡ Err e → good_by len major minor size chunk_size block blocks chunks ≡ false
header_by-err len major minor size chunk_size block blocks chunks e h = grind (arith, nat_tests)

header_by-ok : (len major minor size chunk_size block blocks chunks : ℕ) (header : Header) → header_by len major minor size chunk_size block blocks chunks ≡ Ok header → good_by len major minor size chunk_size block blocks chunks ≡ true
header_by-ok len major minor size chunk_size block blocks chunks header h = grind (arith, nat_tests)

header_by-is : (len major minor size chunk_size block blocks chunks : ℕ) (header : Header) → header_by len major minor size chunk_size block blocks chunks ≡ Ok header → header ≡ record { block = block; blocks = blocks; chunks = chunks }
header_by-is len major minor size chunk_size block blocks chunks header h = grind (arith, nat_tests)

Agrees-at : (file : List ℕ) (r : Result Kept SparseError) (found more : Option (List Cell)) → found ≡ more → Agrees file r more → Agrees file r found
Agrees-at file r found more e h = rw e h

sparse-end : (file : List ℕ) (header : Header) (r : Result (List Chunk) SparseError) (found : Option (List Cell)) → Found header.block file r found →
    Agrees file (r then_on λ chunks. Ok (record { sparse = true; source_len = length file; block = header.block; blocks = header.blocks; chunks = chunks })) found
sparse-end file header (Ok chunks) found h = h
sparse-end file header (Err e) found h = h

sparse-on : (file : List ℕ) (r : Result Header SparseError) → header_of (length file) file ≡ r →
    Agrees file
    (r then_on λ header.
    walked header.chunks header.block header.blocks 28 (drop 28 file) then_on λ chunks.
    Ok (record { sparse = true; source_len = length file; block = header.block; blocks = header.blocks; chunks = chunks }))
    (sparse_cells file)
sparse-on file (Err e) h =
    let bad : header_is_good file ≡ false = header_by-err (length file) (u16_at 4 file) (u16_at 6 file) (u16_at 8 file) (u16_at 10 file) (u32_at 12 file) (u32_at 16 file) (u32_at 20 file) e h in
    ap (λ (b : Bool). needs b >>= λ _. chunks_cells (u32_at 20 file) (u32_at 12 file) (u32_at 16 file) (drop 28 file)) bad
sparse-on file (Ok header) h =
    let good : header_is_good file ≡ true = header_by-ok (length file) (u16_at 4 file) (u16_at 6 file) (u16_at 8 file) (u16_at 10 file) (u32_at 12 file) (u32_at 16 file) (u32_at 20 file) header h in
    let same = header_by-is (length file) (u16_at 4 file) (u16_at 6 file) (u16_at 8 file) (u16_at 10 file) (u32_at 12 file) (u32_at 16 file) (u32_at 20 file) header h in
    let e = ap (λ (b : Bool). needs b >>= λ _. chunks_cells (u32_at 20 file) (u32_at 12 file) (u32_at 16 file) (drop 28 file)) good
    ∙ ap (λ (x : Header). chunks_cells x.chunks x.block x.blocks (drop 28 file)) (sym same) in
    Agrees-at file _ _ _ e (sparse-end file header _ _ (walk header.chunks header.block header.blocks 28 file))

sparse-agrees : (file : List ℕ) → Agrees file (sparse_checked file) (sparse_cells file)
sparse-agrees file = sparse-on file (header_of (length file) file) refl

pub padded-length : (file : List ℕ) → length (file ++ replicate (round_up (length file) - length file) 0) ≡ round_up (length file) / 4096 * 4096
padded-length file = simp (length-append, length-replicate) (omega arith)

pub raw-cells : (file : List ℕ) → map Byte (file ++ replicate (round_up (length file) - length file) 0) ≡ kept_cells (raw_kept file) file
raw-cells file =
    let whole : take (round_up (length file) / 4096 * 4096) (file ++ replicate (round_up (length file) - length file) 0) ≡ file ++ replicate (round_up (length file) - length file) 0 = take_all _ _ (omega (arith, padded-length file)) in
    sym (append-nil (map Byte (take (round_up (length file) / 4096 * 4096) (file ++ replicate (round_up (length file) - length file) 0))) ∙ ap (map Byte) whole)

raw-agrees : (file : List ℕ) → Agrees file (raw_checked file) (raw_cells file)
raw-agrees file =
    elim (nat_lt (round_up (length file)) (2 ^ 44)) as (λ b. Agrees file (if b then Ok (raw_kept file) else Err (flaw TooLong 0)) (needs b >>= λ _. Some (map Byte (file ++ replicate (round_up (length file) - length file) 0))))
    [ true ↦ ap Some (raw-cells file) | false ↦ refl ]

some-agrees : (file : List ℕ) → Agrees file ((if is_sparse file then sparse_checked else raw_checked) file) ((if is_sparse file then sparse_cells else raw_cells) file)
some-agrees file =
    elim (is_sparse file) as (λ b. Agrees file ((if b then sparse_checked else raw_checked) file) ((if b then sparse_cells else raw_cells) file))
    [ true ↦ sparse-agrees file | false ↦ raw-agrees file ]

pub walk-agrees : WalkAgrees
unfolding image
walk-agrees file =
    ⊎_elim (λ h. rw (h.0, h.1) refl)
    (λ h. let more : nat_lt 0 (length file) ≡ true = grind (arith, nat_tests) in rw (h.0, more) (some-agrees file))
    (eqb_tells (length file) 0)

lies : (place left n kind : ℕ) (first : List ℕ) (content : Content) → content ≡ content_of kind (place + 12) first → 12 + content_len n content ≤ left → LiesIn (place + left) n content
lies place left n kind first (Raw at) e h = grind (arith, nat_tests)
lies place left n kind first (Fill pattern) e h = tt
lies place left n kind first DontCare e h = tt

-- the data of a raw chunk lies in the file
pub front-lies : (block blocks place left : ℕ) (bytes : List ℕ) (chunk : Chunk) → front_of block blocks place left bytes ≡ Ok chunk → LiesIn (place + left) (chunk.blocks * block) chunk.content
unfolding front_of
front-lies block blocks place left bytes chunk h = lies place left (chunk.blocks * block) (u16_at 0 bytes) (take 4 (drop 12 bytes)) chunk.content (front-content block blocks place left (head_of bytes) (take 4 (drop 12 bytes)) chunk h) (front_chunk-fits block blocks place left (head_of bytes) (take 4 (drop 12 bytes)) chunk h)

same-pattern : (kind place : ℕ) (first pattern : List ℕ) → Fill pattern ≡ content_of kind place first → pattern ≡ first
same-pattern kind place first pattern e = grind (arith, nat_tests)

four : (n kind place : ℕ) (bytes : List ℕ) (content : Content) → content ≡ content_of kind place (take 4 (drop 12 bytes)) → 12 + content_len n content ≤ length bytes → HasFour content
four n kind place bytes (Raw at) e h = tt
four n kind place bytes (Fill pattern) e h = ap length (same-pattern kind place (take 4 (drop 12 bytes)) pattern e) ∙ length-take-le 4 (drop 12 bytes) (simp length-drop (omega arith))
four n kind place bytes DontCare e h = tt

pub front-four : (block blocks place : ℕ) (bytes : List ℕ) (chunk : Chunk) → front_of block blocks place (length bytes) bytes ≡ Ok chunk → HasFour chunk.content
unfolding front_of
front-four block blocks place bytes chunk h = four (chunk.blocks * block) (u16_at 0 bytes) (place + 12) bytes chunk.content (front-content block blocks place (length bytes) (head_of bytes) (take 4 (drop 12 bytes)) chunk h) (front_chunk-fits block blocks place (length bytes) (head_of bytes) (take 4 (drop 12 bytes)) chunk h)

pub length-copies : {X : Type 0} (k : ℕ) (xs : List X) → length (copies k xs) ≡ k * length xs
length-copies zero xs = sym (zero-mul (length xs))
length-copies (suc k) xs = length-append xs (copies k xs) ∙ omega (arith, length-copies k xs)

-- a chunk has as many cells as its blocks have bytes
pub length-cells : (n : ℕ) (bytes : List ℕ) (content : Content) → LiesIn (length bytes) n content → HasFour content → n % 4 ≡ 0 → length (content_cells n bytes content) ≡ n
length-cells n bytes (Raw place) l f h = simp length-map (length-take-le n (drop place bytes) (simp length-drop (omega arith)))
length-cells n bytes (Fill pattern) l f h = length-copies (n / 4) (map Byte pattern) ∙ simp length-map (rw f (omega arith))
length-cells n bytes DontCare l f h = length-replicate n Skip

sized-fine : (header result : Header) → sized_header header ≡ Ok result → IsFine header
sized-fine header result h = record {
  multiple = grind (arith, nat_tests);
  low = grind (arith, nat_tests);
  high = grind (arith, nat_tests);
  some = grind (arith, nat_tests);
  short = grind (arith, nat_tests);
  few = grind (arith, nat_tests);
}

formed : (o : Option SparseError) (header result : Header) → or_flaw o (sized_header header) ≡ Ok result → sized_header header ≡ Ok result
formed None header result h = h
formed (Some e) header result h = cc

sized-same : (header result : Header) → sized_header header ≡ Ok result → header ≡ result
sized-same header result h = grind (arith, nat_tests)

err-not-ok : (e : SparseError) (header : Header) → Err e ≡ Ok header → ⊥
err-not-ok e header h = cc

header-sized : (len : ℕ) (head : List ℕ) (result : Header) → header_of len head ≡ Ok result → (28 ≤ len) × (sized_header (fields_of head) ≡ Ok result)
header-sized len head result h =
    ⊎_elim (λ k. absurd (err-not-ok (flaw Truncated len) result (rw k.0 at h))) (λ k. (omega arith, formed (form_flaw (u16_at 4 head) (u16_at 6 head) (u16_at 8 head) (u16_at 10 head)) (fields_of head) result (rw k.0 at h))) (leb_tells (suc len) 28)

pub header-fine : (len : ℕ) (head : List ℕ) (result : Header) → header_of len head ≡ Ok result → IsFine result
header-fine len head result h =
    let k = (header-sized len head result h).1 in
    subst (λ (x : Header). IsFine x) (sized-same (fields_of head) result k) (sized-fine (fields_of head) result k)

pub header-long : (len : ℕ) (head : List ℕ) (result : Header) → header_of len head ≡ Ok result → 28 ≤ len
header-long len head result h = (header-sized len head result h).0

pub ruleset headers = (header-fine, header-long)

front_chunk-due : (block blocks place left : ℕ) (head : Head) (first : List ℕ) (chunk : Chunk) → front_chunk block blocks place left head first ≡ Ok chunk → chunk.blocks ≤ blocks
front_chunk-due block blocks place left head first chunk h = grind (arith, nat_tests)

pub front-due : (block blocks place left : ℕ) (bytes : List ℕ) (chunk : Chunk) → front_of block blocks place left bytes ≡ Ok chunk → chunk.blocks ≤ blocks
unfolding front_of
front-due block blocks place left bytes chunk h = front_chunk-due block blocks place left (head_of bytes) (take 4 (drop 12 bytes)) chunk h

pub image-none : (file : List ℕ) (e : SparseError) → checked file ≡ Err e → image file ≡ None
image-none file e h = let a = walk-agrees file in rw h at a

pub image-empty : (file : List ℕ) → length file ≡ 0 → image file ≡ None
unfolding image
image-empty file h = rw h refl

pub image-sparse : (file : List ℕ) → 0 < length file → is_sparse file ≡ true → image file ≡ sparse_cells file
unfolding image
image-sparse file h k = let more : nat_lt 0 (length file) ≡ true = grind (arith, nat_tests) in rw (more, k) refl

pub image-raw : (file : List ℕ) → 0 < length file → is_sparse file ≡ false → image file ≡ raw_cells file
unfolding image
image-raw file h k = let more : nat_lt 0 (length file) ≡ true = grind (arith, nat_tests) in rw (more, k) refl

pub header-good : (file : List ℕ) (header : Header) → header_of (length file) file ≡ Ok header → sparse_cells file ≡ chunks_cells header.chunks header.block header.blocks (drop 28 file)
header-good file header h =
    let good : header_is_good file ≡ true = header_by-ok (length file) (u16_at 4 file) (u16_at 6 file) (u16_at 8 file) (u16_at 10 file) (u32_at 12 file) (u32_at 16 file) (u32_at 20 file) header h in
    let same = header_by-is (length file) (u16_at 4 file) (u16_at 6 file) (u16_at 8 file) (u16_at 10 file) (u32_at 12 file) (u32_at 16 file) (u32_at 20 file) header h in
    ap (λ (b : Bool). needs b >>= λ _. chunks_cells (u32_at 20 file) (u32_at 12 file) (u32_at 16 file) (drop 28 file)) good
    ∙ ap (λ (x : Header). chunks_cells x.chunks x.block x.blocks (drop 28 file)) (sym same)

some-not-none : (e : SparseError) → Some e ≡ None → ⊥
some-not-none e h = cc

found-some : (block : ℕ) (file : List ℕ) (r : Result (List Chunk) SparseError) (found : Option (List Cell)) → Found block file r found → result_err r ≡ None → IsSome found
found-some block file (Ok chunks) found h k = rw h refl
found-some block file (Err e) found h k = absurd (some-not-none e k)

pub walked-some : (more block blocks place : ℕ) (file : List ℕ) → result_err (walked more block blocks place (drop place file)) ≡ None → IsSome (chunks_cells more block blocks (drop place file))
walked-some more block blocks place file h = found-some block file _ _ (walk more block blocks place file) h

pub sparse-none : (file : List ℕ) (e : SparseError) → sparse_checked file ≡ Err e → sparse_cells file ≡ None
sparse-none file e h = let a = sparse-agrees file in rw h at a

pub raw-none : (file : List ℕ) (e : SparseError) → raw_checked file ≡ Err e → raw_cells file ≡ None
raw-none file e h = let a = raw-agrees file in rw h at a

pub ruleset front_lies = (front-lies)

pub front-within : (block blocks place left : ℕ) (bytes : List ℕ) (chunk : Chunk) → front_of block blocks place left bytes ≡ Ok chunk → chunk_len block chunk ≤ left
unfolding front_of
front-within block blocks place left bytes chunk h = front_chunk-fits block blocks place left (head_of bytes) (take 4 (drop 12 bytes)) chunk h
