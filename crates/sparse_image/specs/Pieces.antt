-- The pieces of an image: sparse files (sparse_format.h, version 1.0) that are put one after another,
-- each with a part of the image and skips before and behind it.
use Rattle.std.specs.Prelude.{◌≡◌, ◌≤◌, ◌<◌, ℕ, ◌+◌, ◌-◌, ◌*◌, List, [], ◌∷◌, ◌++◌, length, take, drop, replicate, nat_le, ◌==◌, if◌then◌else◌}
use Rattle.std.specs.List.{flat_map, sum_by}
use Rattle.std.specs.Int.{w16, w32, to_le_bytes}
use Rattle.dev_model.specs.Images.{over}
use Rattle.dev_model.specs.declared.cells.Cell.{Cell}
use Rattle.dev_model.specs.declared.cells.Cell.TheVariants.{Skip}
use Rattle.sparse_image.specs.declared.chunk.Content.{Content}
use Rattle.sparse_image.specs.declared.chunk.Content.TheVariants.{Raw, Fill, DontCare}
use Rattle.sparse_image.specs.declared.chunk.Chunk.{Chunk}
use Rattle.sparse_image.specs.Walks.{Kept, chunk_len, kept_cells, source_of}

-- the type that a header tells of a chunk
abbrev pub kind_of : Content → ℕ
kind_of (Raw place) = 0xCAC1
kind_of (Fill pattern) = 0xCAC2
kind_of DontCare = 0xCAC3

-- the data of a chunk of so many bytes of the image
abbrev pub data_bytes : ℕ → List ℕ → Content → List ℕ
data_bytes n source (Raw place) = take n (drop place source)
data_bytes n source (Fill pattern) = pattern
data_bytes n source DontCare = []

-- the header of a chunk: type, two reserved bytes, blocks, size with the header
abbrev pub head_bytes : ℕ → ℕ → ℕ → List ℕ
head_bytes kind blocks size = to_le_bytes w16 kind ++ to_le_bytes w16 0 ++ to_le_bytes w32 blocks ++ to_le_bytes w32 size

-- a chunk of a source as it stands in a sparse file
abbrev pub chunk_bytes : ℕ → List ℕ → Chunk → List ℕ
chunk_bytes block source chunk = head_bytes (kind_of chunk.content) chunk.blocks (chunk_len block chunk) ++ data_bytes (chunk.blocks * block) source chunk.content

-- the header of a sparse file, with image checksum 0
abbrev pub header_bytes : ℕ → ℕ → ℕ → List ℕ
header_bytes block blocks chunks =
    (0x3a ∷ 0xff ∷ 0x26 ∷ 0xed ∷ []) ++ to_le_bytes w16 1 ++ to_le_bytes w16 0 ++ to_le_bytes w16 28 ++ to_le_bytes w16 12
    ++ to_le_bytes w32 block ++ to_le_bytes w32 blocks ++ to_le_bytes w32 chunks ++ to_le_bytes w32 0

-- the sparse file of some chunks of a source
abbrev pub sparse_file : ℕ → ℕ → List ℕ → List Chunk → List ℕ
sparse_file block blocks source chunks = header_bytes block blocks (length chunks) ++ flat_map (chunk_bytes block source) chunks

-- how long it is
abbrev pub sparse_len : ℕ → List Chunk → ℕ
sparse_len block chunks = 28 + sum_by (chunk_len block) chunks

-- the first n blocks of chunks
abbrev pub first_blocks : ℕ → List Chunk → List Chunk
first_blocks n [] = []
first_blocks n (chunk ∷ chunks) =
    if nat_le chunk.blocks n then chunk ∷ first_blocks (n - chunk.blocks) chunks
    else (if n == 0 then [] else record { blocks = n; content = chunk.content } ∷ [])

-- content behind so many bytes of the image
abbrev pub content_behind : ℕ → Content → Content
content_behind n (Raw place) = Raw (place + n)
content_behind n (Fill pattern) = Fill pattern
content_behind n DontCare = DontCare

-- the chunks behind the first n blocks
abbrev pub behind_blocks : ℕ → ℕ → List Chunk → List Chunk
behind_blocks block n [] = []
behind_blocks block n (chunk ∷ chunks) =
    if nat_le chunk.blocks n then behind_blocks block (n - chunk.blocks) chunks
    else record { blocks = chunk.blocks - n; content = content_behind (n * block) chunk.content } ∷ chunks

-- so many blocks that stay as they were
abbrev pub hole : ℕ → List Chunk
hole n = if n == 0 then [] else record { blocks = n; content = DontCare } ∷ []

-- the chunks of the piece from a first block on up to a last one, which isn't in it
abbrev pub piece_chunks : Kept → ℕ → ℕ → List Chunk
piece_chunks kept first last = hole first ++ (first_blocks (last - first) (behind_blocks kept.block first kept.chunks) ++ hole (kept.blocks - last))

-- the cells of that piece: the image's between its blocks, and skips before and behind
abbrev pub piece_cells : Kept → List ℕ → ℕ → ℕ → List Cell
piece_cells kept file first last =
    replicate (first * kept.block) Skip
    ++ (take ((last - first) * kept.block) (drop (first * kept.block) (kept_cells kept file))
    ++ replicate ((kept.blocks - last) * kept.block) Skip)

-- how many bytes a file has that is sent whole: a raw one with its padding, a sparse one as it is
abbrev pub whole_len : Kept → ℕ
whole_len kept = if kept.sparse then kept.source_len else kept.blocks * kept.block

-- a piece of these blocks keeps both bounds, on its bytes and on its chunks
pub record Fits (kept : Kept) (max first last : ℕ) : Type 0 where
  pub more : first < last
  pub within : last ≤ kept.blocks
  pub size : sparse_len kept.block (piece_chunks kept first last) ≤ max
  pub few : length (piece_chunks kept first last) ≤ 1000000

-- the greatest place up to which both bounds are kept
pub record EndsAt (kept : Kept) (max first last : ℕ) : Type 0 where
  pub fits : Fits kept max first last
  pub greatest : (place : ℕ) → Fits kept max first place → place ≤ last

-- a piece that isn't the whole file, as a file
abbrev pub piece_file : Kept → List ℕ → ℕ → ℕ → List ℕ
piece_file kept file first last = sparse_file kept.block kept.blocks (source_of kept file) (piece_chunks kept first last)

-- what is there after pieces are put, the first from a block on up to the first place, and so on
abbrev pub put_pieces : Kept → List ℕ → ℕ → List ℕ → List ℕ → List ℕ
put_pieces kept file first [] old = old
put_pieces kept file first (last ∷ places) old = put_pieces kept file last places (over (piece_cells kept file first last) old)

-- places that rise from a block to the last one
abbrev pub Rise : ℕ → List ℕ → ℕ → Type 0
Rise first [] total = first ≡ total
Rise first (last ∷ places) total = (first ≤ last) × (last ≤ total) × Rise last places total
