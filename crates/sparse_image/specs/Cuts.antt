-- Cutting an image into pieces: files that a device with a small download buffer takes one by one.
use Rattle.std.specs.Prelude.{◌≡◌, ◌≤◌, ◌<◌, ℕ, ◌+◌, ◌-◌, ◌*◌, ◌^◌, ◌⊎◌, Bool, true, false, List, [], ◌∷◌, length, nat_le, ◌==◌, Option, Some, None, IfSome, Ok, unwrap_or, if◌then◌else◌}
use Rattle.std.specs.List.{All, sum_by}
use Rattle.dev_model.specs.Images.{image, over}
use Rattle.dev_model.specs.declared.cells.Cell.{Cell}
use Rattle.sparse_image.specs.declared.chunk.Chunk.{Chunk}
use Rattle.sparse_image.specs.declared.rest.Rest.{Rest}
use Rattle.sparse_image.specs.Walks.{Kept, IsKept, checked, kept_cells, source_of, LiesIn}
use Rattle.sparse_image.specs.Puts.{Puts, PutsInPart}
use Rattle.sparse_image.specs.Pieces.{behind_blocks, piece_chunks, piece_file, piece_cells, sparse_len, whole_len, EndsAt, Fits}

-- what is left to be cut into pieces of at most so many bytes: an image's blocks from a first one on
pub record Cutting : Type 0 where
  pub kept : Kept
  pub max : ℕ
  pub first : ℕ

-- a piece: the whole file, or blocks from a first one on up to a last one, which isn't in it
pub record Part : Type 0 where
  pub kept : Kept
  pub whole : Bool
  pub first : ℕ
  pub last : ℕ

-- the bytes of a piece, by the file that was checked
abbrev pub part_bytes : Part → List ℕ → List ℕ
part_bytes part file = if part.whole then source_of part.kept file else piece_file part.kept file part.first part.last

-- how many they are
abbrev pub part_len : Part → ℕ
part_len part = if part.whole then whole_len part.kept else sparse_len part.kept.block (piece_chunks part.kept part.first part.last)

-- its cells: the whole image's between its blocks, and skips before and behind
abbrev pub part_cells : Part → List ℕ → List Cell
part_cells part file = piece_cells part.kept file part.first part.last

-- where the next piece ends: a file that is sent whole is the only piece, and else as many blocks as fit
abbrev pub EndsBy : Bool → Kept → ℕ → ℕ → ℕ → Type 0
EndsBy true kept max first last = (first ≡ 0) × (last ≡ kept.blocks)
EndsBy false kept max first last = EndsAt kept max first last

-- the next piece, which begins where the one before it ended
pub record GivesPart (before : Cutting) (part : Part) (now : Cutting) : Type 0 where
  pub kept : part.kept ≡ before.kept
  pub whole : part.whole ≡ nat_le (whole_len before.kept) before.max
  pub first : part.first ≡ before.first
  pub ends : EndsBy part.whole before.kept before.max part.first part.last
  pub left : now ≡ record { kept = before.kept; max = before.max; first = part.last }

-- the next piece, and none only where all blocks were given
abbrev pub Cuts : Cutting → Option Part → Cutting → Type 0
Cuts before (Some part) now = GivesPart before part now
Cuts before None now = (before.first ≡ before.kept.blocks) × (now ≡ before)

-- these pieces were given, one after another, and then none
abbrev pub AreCut : Cutting → List Part → Type 0
AreCut cutting [] = (now : Cutting) × Cuts cutting None now
AreCut cutting (part ∷ parts) = (now : Cutting) × (Cuts cutting (Some part) now × AreCut now parts)

-- the most bytes that chunks take in pieces, except what each piece has of its own
abbrev pub chunks_most : ℕ → List Chunk → ℕ
chunks_most block chunks = sum_by (λ (c : Chunk). 12 + c.blocks * block) chunks

-- the most bytes of a file that is sent whole, or nothing after it
abbrev pub whole_most : Kept → ℕ → ℕ
whole_most kept first = if first == kept.blocks then 0 else (whole_len kept - 64)

-- the most bytes of all pieces that are still to be given, except 64 for each of them
abbrev pub most_left : Cutting → ℕ
most_left c = if nat_le (whole_len c.kept) c.max then whole_most c.kept c.first else chunks_most c.kept.block (behind_blocks c.kept.block c.first c.kept.chunks)

-- bytes after pieces are put over them, each as the file that it is
abbrev pub put_parts : List Part → List ℕ → List ℕ → List ℕ
put_parts [] file old = old
put_parts (part ∷ parts) file old = put_parts parts file (over (unwrap_or (image (part_bytes part file)) []) old)

-- a piece is a file with an image as long as the whole one, and within both bounds
pub record IsPiece (kept : Kept) (file : List ℕ) (max : ℕ) (part : Part) : Type 0 where
  pub image : image (part_bytes part file) ≡ Some (part_cells part file)
  pub cells : length (part_cells part file) ≡ length (kept_cells kept file)
  pub size : length (part_bytes part file) ≤ max
  pub few : part.whole ≡ false → length (piece_chunks part.kept part.first part.last) ≤ 1000000

-- each piece begins where the one before it ended, the first at a block and the last up to the last block
abbrev pub Follow : ℕ → List Part → ℕ → Type 0
Follow first [] total = first ≡ total
Follow first (part ∷ parts) total = (part.first ≡ first) × (part.first < part.last) × Follow part.last parts total

-- no two neighbours fit in one piece
abbrev pub AreFull : Kept → ℕ → List Part → Type 0
AreFull kept max [] = Unit {0}
AreFull kept max (part ∷ []) = Unit {0}
AreFull kept max (part ∷ (next ∷ parts)) = (Fits kept max part.first next.last → ⊥) × AreFull kept max (next ∷ parts)

-- what the pieces of a file are together
pub record AreSplit (kept : Kept) (file : List ℕ) (max : ℕ) (parts : List Part) : Type 0 where
  pub each : All (IsPiece kept file max) parts
  pub follow : Follow 0 parts kept.blocks
  pub full : AreFull kept max parts
  pub whole : whole_len kept ≤ max → parts ≡ record { kept = kept; whole = true; first = 0; last = kept.blocks } ∷ []
  pub put : (old : List ℕ) → length (kept_cells kept file) ≤ length old → put_parts parts file old ≡ over (kept_cells kept file) old

-- the first chunk
abbrev pub first_chunk : List Chunk → Option Chunk
first_chunk [] = None
first_chunk (chunk ∷ chunks) = Some chunk

-- the chunks from a block on
abbrev pub rest_chunks : Rest → List Chunk
rest_chunks rest = behind_blocks rest.block rest.skip rest.chunks.now

-- fewer blocks are left out than the first chunk has
abbrev pub IsInside : ℕ → List Chunk → Type 0
IsInside skip [] = skip ≡ 0
IsInside skip (chunk ∷ chunks) = skip < chunk.blocks

-- each chunk has blocks, and no place of its data passes its type
pub record IsRest (rest : Rest) : Type 0 where
  pub inside : IsInside rest.skip rest.chunks.now
  pub some : All (λ (chunk : Chunk). 0 < chunk.blocks) rest.chunks.now
  pub lies : All (λ (chunk : Chunk). LiesIn (2 ^ 64 - 1) (chunk.blocks * rest.block) chunk.content) rest.chunks.now

-- the parts of what is left to be cut
pub record IsCutting (kept : Kept) (max first : ℕ) (rest : Rest) : Type 0 where
  pub index : IsKept kept
  pub large : 131072 ≤ max
  pub small : max < 2 ^ 32
  pub within : first ≤ kept.blocks
  pub well : IsRest rest
  pub block : rest.block ≡ kept.block
  pub chunks : first < kept.blocks → rest_chunks rest ≡ behind_blocks kept.block first kept.chunks
  pub once : whole_len kept ≤ max → (first ≡ 0) ⊎ (first ≡ kept.blocks)

-- the parts of a piece that isn't the whole file: its bytes and chunks, and the chunks from its first block on
pub record IsCut (kept : Kept) (first last chunks : ℕ) (after : Rest) : Type 0 where
  pub few : chunks ≤ 1000000
  pub count : chunks ≡ length (piece_chunks kept first last)
  pub well : IsRest after
  pub block : after.block ≡ kept.block
  pub rest : rest_chunks after ≡ behind_blocks kept.block first kept.chunks

-- the parts of a piece
pub record IsPart (part : Part) (len chunks : ℕ) (rest : Rest) : Type 0 where
  pub index : IsKept part.kept
  pub more : part.first < part.last
  pub within : part.last ≤ part.kept.blocks
  pub size : len ≡ part_len part
  pub small : len < 2 ^ 32
  pub all : part.whole ≡ true → (part.first ≡ 0) × (part.last ≡ part.kept.blocks)
  pub cut : part.whole ≡ false → IsCut part.kept part.first part.last chunks rest

-- whatever pieces are given one after another up to the last one, they are together what the file is
abbrev pub Splits : Kept → ℕ → Cutting → Type 0
Splits kept max cutting = (file : List ℕ) (parts : List Part) → checked file ≡ Ok kept → AreCut cutting parts → AreSplit kept file max parts

-- and they have at most so many bytes together: those of the image, 16 for each chunk that a file may have, and 64 for each piece
abbrev pub HasBytesLeft : Kept → Cutting → Type 0
HasBytesLeft kept cutting = (parts : List Part) → AreCut cutting parts → sum_by part_len parts ≤ kept.blocks * kept.block + 16 * 1000000 + 64 * length parts

-- the bytes of a piece were put
abbrev pub PutsPart : Part → Option (List ℕ) → Option (List ℕ) → Option (List ℕ) → Type 0
PutsPart part told before now = Puts told (part_bytes part) (part_len part) before now

-- a front of them was put, that lacks at least one
abbrev pub PutsPartInPart : Part → Option (List ℕ) → Option (List ℕ) → Option (List ℕ) → Type 0
PutsPartInPart part told before now = PutsInPart told (part_bytes part) (part_len part) before now

-- of a told file the piece has the image of its cells
abbrev pub HasPartImage : Part → Option (List ℕ) → Type 0
HasPartImage part told = IfSome told (λ file. image (part_bytes part file) ≡ Some (part_cells part file))
