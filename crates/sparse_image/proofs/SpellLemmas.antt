-- A sparse file that was spelled has the cells of its chunks.
use Rattle.std.proofs.Common.{◌≡◌, ℕ, zero, suc, ◌+◌, ◌-◌, ◌*◌, ◌<◌, ◌≤◌, Bool, true, List, [], ◌∷◌, ◌++◌, length, take, drop, length-append, Option, Some, refl, sym, ap, ◌∙◌, arith}
use Rattle.std.specs.Prelude.{◌&&◌, ◌^◌, ◌%◌, nat_le, ◌==◌}
use Rattle.std.specs.List.{flat_map, sum_by, All}
use Rattle.std.proofs.lemmas.Nat.{from_le_bytes-to_le_bytes_2, from_le_bytes-to_le_bytes_4}
use Rattle.std.proofs.lemmas.Bool.Decides.{nat_tests}
use Rattle.std.proofs.lemmas.List.{take_at, drop_at, length-take-le, length-drop, drop-drop}
use Rattle.std.proofs.lemmas.List.Elements.{All-head, All-tail}
use Rattle.sparse_image.proofs.WalkLemmas.{image_step, image-sparse, good_by}
use Rattle.sparse_image.specs.declared.walk.Head.{Head}
use Rattle.std.proofs.lemmas.List.Sums.{sum_by-cons}
use Rattle.dev_model.specs.Options.{◌>>=◌, needs}
use Rattle.dev_model.specs.Images.{image, header_is_good, data_size, chunks_cells, chunk_cells}
use Rattle.fb_frame.specs.Fields.{u16_at, u32_at}
use Rattle.dev_model.specs.declared.cells.Cell.{Cell}
use Rattle.sparse_image.specs.declared.chunk.Content.{Content}
use Rattle.sparse_image.specs.declared.chunk.Content.TheVariants.{Raw, Fill, DontCare}
use Rattle.sparse_image.specs.declared.chunk.Chunk.{Chunk}
use Rattle.sparse_image.specs.Walks.{head_of, content_len, chunk_len, cells_of, content_cells, LiesIn, HasFour}
use Rattle.sparse_image.specs.Pieces.{kind_of, data_bytes, head_bytes, chunk_bytes, header_bytes, sparse_file}

-- a chunk that a sparse file can spell
pub record IsSpelled (block len : ℕ) (chunk : Chunk) : Type 0 where
  pub blocks : chunk.blocks < 2 ^ 32
  pub size : chunk_len block chunk < 2 ^ 32
  pub lies : LiesIn len (chunk.blocks * block) chunk.content
  pub four : HasFour chunk.content

kind-fits : (content : Content) → kind_of content < 2 ^ 16
kind-fits (Raw place) = omega arith
kind-fits (Fill pattern) = omega arith
kind-fits DontCare = omega arith

head-kind : (kind blocks size : ℕ) (rest : List ℕ) → kind < 2 ^ 16 → u16_at 0 (head_bytes kind blocks size ++ rest) ≡ kind
unfolding u16_at
head-kind kind blocks size rest h = from_le_bytes-to_le_bytes_2 kind h

head-blocks : (kind blocks size : ℕ) (rest : List ℕ) → blocks < 2 ^ 32 → u32_at 4 (head_bytes kind blocks size ++ rest) ≡ blocks
unfolding u32_at
head-blocks kind blocks size rest h = from_le_bytes-to_le_bytes_4 blocks h

head-size : (kind blocks size : ℕ) (rest : List ℕ) → size < 2 ^ 32 → u32_at 8 (head_bytes kind blocks size ++ rest) ≡ size
unfolding u32_at
head-size kind blocks size rest h = from_le_bytes-to_le_bytes_4 size h

data-size-of : (block blocks : ℕ) (content : Content) → data_size (kind_of content) blocks block ≡ Some (content_len (blocks * block) content)
data-size-of block blocks (Raw place) = refl
data-size-of block blocks (Fill pattern) = refl
data-size-of block blocks DontCare = refl

data-size : (block : ℕ) (chunk : Chunk) → data_size (kind_of chunk.content) chunk.blocks block ≡ Some (content_len (chunk.blocks * block) chunk.content)
data-size block chunk = data-size-of block chunk.blocks chunk.content

pub data-length : (n : ℕ) (source : List ℕ) (content : Content) → LiesIn (length source) n content → HasFour content → length (data_bytes n source content) ≡ content_len n content
data-length n source (Raw place) l f = length-take-le n (drop place source) (simp length-drop (omega arith))
data-length n source (Fill pattern) l f = f
data-length n source DontCare l f = refl

data-cells : (block blocks : ℕ) (source : List ℕ) (content : Content) → chunk_cells (kind_of content) blocks block (data_bytes (blocks * block) source content) ≡ content_cells (blocks * block) source content
data-cells block blocks source (Raw place) = refl
data-cells block blocks source (Fill pattern) = refl
data-cells block blocks source DontCare = refl

-- a chunk whose fields are all as they must be
all-pass : (left count blocks size len : ℕ) → 12 + len ≤ left → count ≤ blocks → size ≡ 12 + len → (nat_le 12 left && nat_le count blocks && size == 12 + len && nat_le (12 + len) left) ≡ true
all-pass left count blocks size len l d e = grind (arith, nat_tests)

step-known : (block blocks left : ℕ) (head : Head) (len : ℕ) (rest : ℕ → Option (List Cell)) (own : ℕ → List Cell) (cells : List Cell) →
    data_size head.kind head.blocks block ≡ Some len → 12 + len ≤ left → head.blocks ≤ blocks → head.size ≡ 12 + len → rest len ≡ Some cells →
    image_step block blocks left head rest own ≡ Some (own len ++ cells)
step-known block blocks left head len rest own cells d l b e r =
    let p = all-pass left head.blocks blocks head.size len l b e in
    rw (d, p, r) refl

-- one spelled chunk before the rest
pub spelled-step : (more block total : ℕ) (source : List ℕ) (chunk : Chunk) (rest : List ℕ) (cells : List Cell) → IsSpelled block (length source) chunk → chunk.blocks ≤ total →
    chunks_cells more block (total - chunk.blocks) rest ≡ Some cells →
    chunks_cells (suc more) block total (chunk_bytes block source chunk ++ rest) ≡ Some (cells_of block source chunk ++ cells)
spelled-step more block total source chunk rest cells w due h =
    let n = chunk.blocks * block in
    let kind = kind_of chunk.content in
    let size = chunk_len block chunk in
    let content = data_bytes n source chunk.content in
    let len = content_len n chunk.content in
    let bytes = chunk_bytes block source chunk ++ rest in
    let k = head-kind kind chunk.blocks size (content ++ rest) (kind-fits chunk.content) in
    let b = head-blocks kind chunk.blocks size (content ++ rest) w.blocks in
    let s = head-size kind chunk.blocks size (content ++ rest) w.size in
    let l = data-length n source chunk.content w.lies w.four in
    let d : drop (12 + len) bytes ≡ rest = sym (drop-drop len 12 bytes) ∙ drop_at content rest len l in
    let t : take len (drop 12 bytes) ≡ content = take_at content rest len l in
    let e = ap (λ (x : ℕ). data_size x (u32_at 4 bytes) block) k ∙ ap (λ (x : ℕ). data_size kind x block) b ∙ data-size block chunk in
    let r : chunks_cells more block (total - u32_at 4 bytes) (drop (12 + len) bytes) ≡ Some cells =
    ap (λ (x : ℕ). chunks_cells more block (total - x) (drop (12 + len) bytes)) b ∙ ap (λ (xs : List ℕ). chunks_cells more block (total - chunk.blocks) xs) d ∙ h in
    let own = ap (λ (xs : List ℕ). chunk_cells (u16_at 0 bytes) (u32_at 4 bytes) block xs) t ∙ ap (λ (x : ℕ). chunk_cells x (u32_at 4 bytes) block content) k ∙ ap (λ (x : ℕ). chunk_cells kind x block content) b ∙ data-cells block chunk.blocks source chunk.content in
    step-known block total (length bytes) (head_of bytes) len (λ x. chunks_cells more block (total - u32_at 4 bytes) (drop (12 + x) bytes)) (λ x. chunk_cells (u16_at 0 bytes) (u32_at 4 bytes) block (take x (drop 12 bytes))) cells
    e (omega (arith, length-append content rest, l)) (omega (arith, b)) s r
    ∙ ap (λ (front : List Cell). Some (front ++ cells)) own

spelled-none : (block : ℕ) → chunks_cells zero block 0 [] ≡ Some []
spelled-none block = refl

-- spelled chunks have their cells
pub spelled-cells : (block : ℕ) (source : List ℕ) (chunks : List Chunk) (total : ℕ) → All (IsSpelled block (length source)) chunks → sum_by (λ (c : Chunk). c.blocks) chunks ≡ total →
    chunks_cells (length chunks) block total (flat_map (chunk_bytes block source) chunks) ≡ Some (flat_map (cells_of block source) chunks)
spelled-cells block source [] total w e = rw (← e) (spelled-none block)
spelled-cells block source (chunk ∷ chunks) total w e =
    let s : chunk.blocks + sum_by (λ (c : Chunk). c.blocks) chunks ≡ total = sym (sum_by-cons (λ (c : Chunk). c.blocks) chunk chunks) ∙ e in
    let own = All-head (IsSpelled block (length source)) chunk chunks w in
    let others = All-tail (IsSpelled block (length source)) chunk chunks w in
    spelled-step (length chunks) block total source chunk (flat_map (chunk_bytes block source) chunks) (flat_map (cells_of block source) chunks) own (omega arith)
    (spelled-cells block source chunks (total - chunk.blocks) others (omega arith))

good-now : (len block blocks chunks : ℕ) → 28 ≤ len → block % 512 ≡ 0 → 512 ≤ block → block ≤ 65536 → 0 < blocks → blocks * block ≤ 2 ^ 44 → chunks ≤ 1000000 → good_by len 1 0 28 12 block blocks chunks ≡ true
good-now len block blocks chunks l m low high some short few = grind (arith, nat_tests)

-- a spelled file has an image
pub spelled-image : (block blocks : ℕ) (source : List ℕ) (chunks : List Chunk) → block % 512 ≡ 0 → 512 ≤ block → block ≤ 65536 → 0 < blocks → blocks < 2 ^ 32 → blocks * block ≤ 2 ^ 44 → length chunks ≤ 1000000 →
    All (IsSpelled block (length source)) chunks → sum_by (λ (c : Chunk). c.blocks) chunks ≡ blocks →
    image (sparse_file block blocks source chunks) ≡ Some (flat_map (cells_of block source) chunks)
unfolding u16_at u32_at
spelled-image block blocks source chunks m low high some fits short few w e =
    let body = flat_map (chunk_bytes block source) chunks in
    let file = sparse_file block blocks source chunks in
    let b : u32_at 12 file ≡ block = from_le_bytes-to_le_bytes_4 block (omega arith) in
    let n : u32_at 16 file ≡ blocks = from_le_bytes-to_le_bytes_4 blocks fits in
    let k : u32_at 20 file ≡ length chunks = from_le_bytes-to_le_bytes_4 (length chunks) (omega arith) in
    let g : good_by (length file) 1 0 28 12 block blocks (length chunks) ≡ true = good-now (length file) block blocks (length chunks) (omega (arith, length-append (header_bytes block blocks (length chunks)) body)) m low high some short few in
    let good : header_is_good file ≡ true =
    ap (λ (x : ℕ). good_by (length file) 1 0 28 12 x (u32_at 16 file) (u32_at 20 file)) b
    ∙ ap (λ (x : ℕ). good_by (length file) 1 0 28 12 block x (u32_at 20 file)) n
    ∙ ap (λ (x : ℕ). good_by (length file) 1 0 28 12 block blocks x) k ∙ g in
    image-sparse file (omega (arith, length-append (header_bytes block blocks (length chunks)) body)) refl
    ∙ ap (λ (x : Bool). needs x >>= λ _. chunks_cells (u32_at 20 file) (u32_at 12 file) (u32_at 16 file) (drop 28 file)) good
    ∙ ap (λ (x : ℕ). chunks_cells (u32_at 20 file) x (u32_at 16 file) body) b
    ∙ ap (λ (x : ℕ). chunks_cells (u32_at 20 file) block x body) n
    ∙ ap (λ (x : ℕ). chunks_cells x block blocks body) k
    ∙ spelled-cells block source chunks blocks w e
