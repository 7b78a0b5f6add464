-- The chunk at the front of a list of bytes, as the program reads it.
use Rattle.std.specs.Prelude.{◌≡◌, ℕ, suc, ◌+◌, ◌-◌, ◌≤◌, List, ◌++◌, length, drop, Option, Some, None}
use Rattle.dev_model.specs.declared.cells.Cell.{Cell}
use Rattle.dev_model.specs.declared.sparse.Chunk.{Chunk}
use Rattle.dev_model.specs.Options.{◌>>=◌}
use Rattle.dev_model.specs.Images.{chunk_cells, chunks_cells}

-- the cells of so many chunks, as one word
unfoldable pub cells_of : ℕ → ℕ → ℕ → List ℕ → Option (List Cell)
cells_of chunks block blocks bytes = chunks_cells chunks block blocks bytes

-- The chunk lies in the bytes, and what follows it are the other chunks.
pub record IsFirstChunk (block blocks : ℕ) (bytes : List ℕ) (chunk : Chunk) : Type 0 where
  pub counted : chunk.blocks ≤ blocks
  pub inside : 12 + length chunk.data.now ≤ length bytes
  pub rest : (more : ℕ) → cells_of (suc more) block blocks bytes
      ≡ (cells_of more block (blocks - chunk.blocks) (drop (12 + length chunk.data.now) bytes)
      >>= λ cells. Some (chunk_cells chunk.kind chunk.blocks block chunk.data.now ++ cells))

-- a chunk stands at the front, or the bytes are no chunks
abbrev pub FirstChunk : ℕ → ℕ → List ℕ → Option Chunk → Type 0
FirstChunk block blocks bytes None = (more : ℕ) → cells_of (suc more) block blocks bytes ≡ None
FirstChunk block blocks bytes (Some chunk) = IsFirstChunk block blocks bytes chunk
