-- The walk through an image file (sparse_format.h, version 1.0): what is kept of it, or the first thing
-- that is wrong, with its kind and place.
use Rattle.std.specs.Prelude.{◌≡◌, ◌≤◌, ◌<◌, ℕ, zero, suc, ◌+◌, ◌-◌, ◌*◌, ◌/◌, ◌%◌, ◌^◌, Bool, true, false, ◌||◌, not, List, [], ◌∷◌, ◌++◌, length, take, drop, map, replicate, nat_lt, ◌==◌, Option, Some, None, IfSome, Result, Ok, Err, if◌then◌else◌}
use Rattle.std.specs.List.{flat_map, sum_by, All}
use Rattle.fb_frame.specs.Fields.{u16_at, u32_at}
use Rattle.dev_model.specs.Images.{image, round_up, is_sparse, data_size, copies}
use Rattle.dev_model.specs.declared.cells.Cell.{Cell}
use Rattle.dev_model.specs.declared.cells.Cell.TheVariants.{Byte, Skip}
use Rattle.sparse_image.specs.declared.errors.SparseKind.{SparseKind}
use Rattle.sparse_image.specs.declared.errors.SparseKind.TheVariants.{Truncated, BadHeader, BadBlockSize, BadChunk, CrcChunk, CountMismatch, TrailingBytes, TooLong, Empty}
use Rattle.sparse_image.specs.declared.errors.SparseError.{SparseError}
use Rattle.sparse_image.specs.declared.chunk.Content.{Content}
use Rattle.sparse_image.specs.declared.chunk.Content.TheVariants.{Raw, Fill, DontCare}
use Rattle.sparse_image.specs.declared.chunk.Chunk.{Chunk}
use Rattle.sparse_image.specs.declared.walk.Header.{Header}
use Rattle.sparse_image.specs.declared.walk.Head.{Head}

-- something wrong at a place
abbrev pub flaw : SparseKind → ℕ → SparseError
flaw kind place = record { kind = kind; at = place }

-- the next result of the value, where there is one
infixl 10 ◌then_on◌
abbrev pub ◌then_on◌ : {X Y E : Type 0} → Result X E → (X → Result Y E) → Result Y E
(Ok x) then_on next = next x
(Err e) then_on next = Err e

-- what is wrong with the fields that are the same in each header: version and sizes of headers
abbrev pub form_flaw : ℕ → ℕ → ℕ → ℕ → Option SparseError
form_flaw major minor header_size head_size =
    if not (major == 1) then Some (flaw BadHeader 4)
    else (if not (minor == 0) then Some (flaw BadHeader 6)
    else (if not (header_size == 28) then Some (flaw BadHeader 8)
    else (if not (head_size == 12) then Some (flaw BadHeader 10) else None)))

-- what is wrong with a header's sizes
abbrev pub size_flaw : Header → Option SparseError
size_flaw header =
    if not (header.block % 512 == 0) || (nat_lt header.block 512 || nat_lt 65536 header.block) then Some (flaw BadBlockSize 12)
    else (if header.blocks == 0 then Some (flaw BadHeader 16)
    else (if nat_lt (2 ^ 44) (header.blocks * header.block) then Some (flaw TooLong 16)
    else (if nat_lt 1000000 header.chunks then Some (flaw TooLong 20) else None)))

-- the flaw, where there is one, and else the value
abbrev pub or_flaw : {X : Type 0} → Option SparseError → Result X SparseError → Result X SparseError
or_flaw None value = value
or_flaw (Some found) value = Err found

-- a header's fields, as they stand
abbrev pub fields_of : List ℕ → Header
fields_of head = record { block = u32_at 12 head; blocks = u32_at 16 head; chunks = u32_at 20 head }

-- the header, unless something is wrong with its sizes
abbrev pub sized_header : Header → Result Header SparseError
sized_header header = or_flaw (size_flaw header) (Ok header)

-- The header of a sparse file of so many bytes, by the file's first 28 bytes. Its fields are tried in the
-- order in which they stand.
abbrev pub header_of : ℕ → List ℕ → Result Header SparseError
header_of len head =
    if nat_lt len 28 then Err (flaw Truncated len)
    else or_flaw (form_flaw (u16_at 4 head) (u16_at 6 head) (u16_at 8 head) (u16_at 10 head)) (sized_header (fields_of head))

-- a header with which nothing is wrong
pub record IsFine (header : Header) : Type 0 where
  pub multiple : header.block % 512 ≡ 0
  pub low : 512 ≤ header.block
  pub high : header.block ≤ 65536
  pub some : 0 < header.blocks
  pub short : header.blocks * header.block ≤ 2 ^ 44
  pub few : header.chunks ≤ 1000000

-- the header that stands at the front of a chunk
abbrev pub head_of : List ℕ → Head
head_of bytes = record { kind = u16_at 0 bytes; blocks = u32_at 4 bytes; size = u32_at 8 bytes }

-- what a chunk of a known type holds, by the place of its data and its data's first four bytes
abbrev pub content_of : ℕ → ℕ → List ℕ → Content
content_of kind place first = if kind == 0xCAC1 then Raw place else (if kind == 0xCAC2 then Fill first else DontCare)

-- The chunk with a header at a place of the file, where so many bytes are left of the file and so many
-- blocks of the image, and its data has a known size or is of no known type.
abbrev pub sized_chunk : ℕ → ℕ → ℕ → Head → List ℕ → Option ℕ → Result Chunk SparseError
sized_chunk blocks place left head first None = Err (flaw BadChunk place)
sized_chunk blocks place left head first (Some size) =
    if nat_lt blocks head.blocks then Err (flaw CountMismatch (place + 4))
    else (if not (head.size == 12 + size) then Err (flaw BadChunk (place + 8))
    else (if nat_lt left (12 + size) then Err (flaw Truncated (place + left))
    else Ok (record { blocks = head.blocks; content = content_of head.kind (place + 12) first })))

-- the chunk at a place, before its type is looked at
abbrev pub front_chunk : ℕ → ℕ → ℕ → ℕ → Head → List ℕ → Result Chunk SparseError
front_chunk block blocks place left head first =
    if nat_lt left 12 then Err (flaw Truncated (place + left))
    else (if head.kind == 0xCAC4 then Err (flaw CrcChunk place)
    else sized_chunk blocks place left head first (data_size head.kind head.blocks block))

-- the same by the bytes that are left, of which the first 16 tell all
unfoldable pub front_of : ℕ → ℕ → ℕ → ℕ → List ℕ → Result Chunk SparseError
front_of block blocks place left bytes = front_chunk block blocks place left (head_of bytes) (take 4 (drop 12 bytes))

-- how many bytes of the file so many bytes of an image take as a chunk's data
abbrev pub content_len : ℕ → Content → ℕ
content_len n (Raw place) = n
content_len n (Fill pattern) = 4
content_len n DontCare = 0

-- how many bytes of the file a chunk takes, with its header
abbrev pub chunk_len : ℕ → Chunk → ℕ
chunk_len block chunk = 12 + content_len (chunk.blocks * block) chunk.content

-- a chunk of at least one block before the others, which alone is kept
abbrev pub kept : Chunk → List Chunk → List Chunk
kept chunk chunks = if chunk.blocks == 0 then chunks else chunk ∷ chunks

-- what is wrong behind the last chunk: blocks of the image are due, or bytes of the file are left
abbrev pub end_flaw : ℕ → ℕ → ℕ → Option SparseError
end_flaw blocks place left =
    if nat_lt 0 blocks then Some (flaw CountMismatch 16)
    else (if nat_lt 0 left then Some (flaw TrailingBytes place) else None)

-- the kept ones of so many chunks, of so many blocks together, which are all bytes from a place on
abbrev pub walked : ℕ → ℕ → ℕ → ℕ → List ℕ → Result (List Chunk) SparseError
walked zero block blocks place bytes = or_flaw (end_flaw blocks place (length bytes)) (Ok [])
walked (suc more) block blocks place bytes =
    front_of block blocks place (length bytes) bytes then_on λ chunk.
    walked more block (blocks - chunk.blocks) (place + chunk_len block chunk) (drop (chunk_len block chunk) bytes) then_on λ chunks.
    Ok (kept chunk chunks)

-- what is kept of a file: whether it is sparse, its length, its block size, its blocks and its chunks
pub record Kept : Type 0 where
  pub sparse : Bool
  pub source_len : ℕ
  pub block : ℕ
  pub blocks : ℕ
  pub chunks : List Chunk

-- a raw file counts as one raw chunk in blocks of 4,096 bytes
abbrev pub raw_kept : List ℕ → Kept
raw_kept file = record {
  sparse = false;
  source_len = length file;
  block = 4096;
  blocks = round_up (length file) / 4096;
  chunks = record { blocks = round_up (length file) / 4096; content = Raw 0 } ∷ [];
}

abbrev pub sparse_checked : List ℕ → Result Kept SparseError
sparse_checked file =
    header_of (length file) file then_on λ header.
    walked header.chunks header.block header.blocks 28 (drop 28 file) then_on λ chunks.
    Ok (record { sparse = true; source_len = length file; block = header.block; blocks = header.blocks; chunks = chunks })

abbrev pub raw_checked : List ℕ → Result Kept SparseError
raw_checked file = if nat_lt (round_up (length file)) (2 ^ 44) then Ok (raw_kept file) else Err (flaw TooLong 0)

-- what is kept of a file, or the first thing that is wrong with it
abbrev pub checked : List ℕ → Result Kept SparseError
checked file =
    if length file == 0 then Err (flaw Empty 0)
    else (if is_sparse file then sparse_checked else raw_checked) file

-- so many cells of a source's content
abbrev pub content_cells : ℕ → List ℕ → Content → List Cell
content_cells n source (Raw place) = map Byte (take n (drop place source))
content_cells n source (Fill pattern) = copies (n / 4) (map Byte pattern)
content_cells n source DontCare = replicate n Skip

-- the cells of a chunk of a source
abbrev pub cells_of : ℕ → List ℕ → Chunk → List Cell
cells_of block source chunk = content_cells (chunk.blocks * block) source chunk.content

-- the bytes that the chunks speak of: those of the file, with a raw file's padding
abbrev pub source_of : Kept → List ℕ → List ℕ
source_of kept file = if kept.sparse then file else file ++ replicate (round_up (length file) - length file) 0

-- the cells of all that is kept of a file
abbrev pub kept_cells : Kept → List ℕ → List Cell
kept_cells kept file = flat_map (cells_of kept.block (source_of kept file)) kept.chunks

-- the data of a raw chunk lies in a source of so many bytes
abbrev pub LiesIn : ℕ → ℕ → Content → Type 0
LiesIn len n (Raw place) = place + n ≤ len
LiesIn len n (Fill pattern) = Unit {0}
LiesIn len n DontCare = Unit {0}

-- a fill has four bytes
abbrev pub HasFour : Content → Type 0
HasFour (Raw place) = Unit {0}
HasFour (Fill pattern) = length pattern ≡ 4
HasFour DontCare = Unit {0}

-- kept chunks of so many blocks together, each of at least one block, with their data in a source of so many bytes
pub record AreWell (block len blocks : ℕ) (chunks : List Chunk) : Type 0 where
  pub total : sum_by (λ chunk. chunk.blocks) chunks ≡ blocks
  pub some : All (λ chunk. 0 < chunk.blocks) chunks
  pub lies : All (λ chunk. LiesIn len (chunk.blocks * block) chunk.content) chunks

-- how many bytes the data of chunks may lie in: those of the file, with a raw file's padding
abbrev pub source_room : Kept → ℕ
source_room kept = if kept.sparse then kept.source_len else kept.blocks * kept.block

-- what can be kept of some file
pub record IsKept (kept : Kept) : Type 0 where
  pub multiple : kept.block % 512 ≡ 0
  pub low : 512 ≤ kept.block
  pub high : kept.block ≤ 65536
  pub some : 0 < kept.blocks
  pub short : kept.blocks * kept.block ≤ 2 ^ 44
  pub few : length kept.chunks ≤ 1000000
  pub source : kept.source_len < 2 ^ 64
  pub most : kept.source_len ≤ kept.blocks * kept.block + 16 * 1000000 + 28
  pub count : kept.blocks < 2 ^ 32
  pub well : AreWell kept.block (source_room kept) kept.blocks kept.chunks

-- chunks before those of a walk
abbrev pub prepend : List Chunk → Result (List Chunk) SparseError → Result (List Chunk) SparseError
prepend before (Ok chunks) = Ok (before ++ chunks)
prepend before (Err e) = Err e

-- what the walk through a told file answers
abbrev pub IsChecked : Option (List ℕ) → Result Kept SparseError → Type 0
IsChecked told result = IfSome told (λ file. checked file ≡ result)

-- a told file has the image that is kept of it
abbrev pub HasKeptImage : Option (List ℕ) → Kept → Type 0
HasKeptImage told kept = IfSome told (λ file. image file ≡ Some (kept_cells kept file))

-- a told file has no image
abbrev pub HasNoImage : Option (List ℕ) → Type 0
HasNoImage told = IfSome told (λ file. image file ≡ None)
