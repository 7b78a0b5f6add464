-- How far a piece reaches, while it grows by one chunk after another.
use Rattle.std.specs.Prelude.{◌≡◌, ◌≤◌, ◌<◌, ℕ, ◌+◌, ◌-◌, ◌*◌, ◌⊎◌, List, ◌++◌, length}
use Rattle.std.specs.List.{sum_by, All}
use Rattle.sparse_image.specs.declared.chunk.Chunk.{Chunk}
use Rattle.sparse_image.specs.declared.reach.Reach.{Reach}
use Rattle.sparse_image.specs.Walks.{Kept, chunk_len, content_len}
use Rattle.sparse_image.specs.Pieces.{first_blocks, behind_blocks, hole, piece_chunks, sparse_len, EndsAt}
use Rattle.sparse_image.specs.Cuts.{rest_chunks, IsRest}

-- how many chunks of skips a piece has at its end that reaches so many blocks further
abbrev pub holes_behind : Reach → ℕ → ℕ
holes_behind reach blocks = length (hole (reach.blocks - (reach.at + blocks)))

-- a chunk more of so many blocks and so many bytes keeps both bounds
pub record Keeps (reach : Reach) (blocks len : ℕ) : Type 0 where
  pub size : reach.bytes + len + 12 * holes_behind reach blocks ≤ reach.max
  pub few : reach.chunks + 1 + holes_behind reach blocks ≤ 1000000

-- it breaks one of them
abbrev pub Breaks : Reach → ℕ → ℕ → Type 0
Breaks reach blocks len = (reach.max < reach.bytes + len + 12 * holes_behind reach blocks) ⊎ (1000000 < reach.chunks + 1 + holes_behind reach blocks)

-- a growing piece keeps both bounds, and the chunks behind it are the rest of the image
pub record IsReach (reach : Reach) : Type 0 where
  pub rest : IsRest reach.rest
  pub low : 512 ≤ reach.rest.block
  pub high : reach.rest.block ≤ 65536
  pub total : reach.at + sum_by (λ (c : Chunk). c.blocks) (rest_chunks reach.rest) ≡ reach.blocks
  pub size : reach.bytes + 12 * holes_behind reach 0 ≤ reach.max
  pub few : reach.chunks + holes_behind reach 0 ≤ 1000000
  pub large : 131072 ≤ reach.max

-- what growth doesn't change
pub record IsSame (before now : Reach) : Type 0 where
  pub max : now.max ≡ before.max
  pub blocks : now.blocks ≡ before.blocks
  pub block : now.rest.block ≡ before.rest.block

-- a piece grew by one chunk of so many blocks and so many bytes
pub record Grows (before : Reach) (blocks len : ℕ) (now : Reach) : Type 0 where
  pub same : IsSame before now
  pub at : now.at ≡ before.at + blocks
  pub bytes : now.bytes ≡ before.bytes + len
  pub chunks : now.chunks ≡ before.chunks + 1
  pub rest : rest_chunks now.rest ≡ behind_blocks before.rest.block blocks (rest_chunks before.rest)

-- a piece grew by whole chunks
pub record GrowsBy (before : Reach) (done : List Chunk) (now : Reach) : Type 0 where
  pub same : IsSame before now
  pub some : All (λ (c : Chunk). 0 < c.blocks) done
  pub at : now.at ≡ before.at + sum_by (λ (c : Chunk). c.blocks) done
  pub bytes : now.bytes ≡ before.bytes + sum_by (chunk_len before.rest.block) done
  pub chunks : now.chunks ≡ before.chunks + length done
  pub rest : rest_chunks before.rest ≡ done ++ rest_chunks now.rest

-- a piece grew by the first blocks of a chunk that doesn't fit as it is, as many as fit
pub record GrowsInPart (before : Reach) (chunk : Chunk) (part : ℕ) (now : Reach) : Type 0 where
  pub same : IsSame before now
  pub below : part < chunk.blocks
  pub at : now.at ≡ before.at + part
  pub bytes : now.bytes ≡ before.bytes + sum_by (chunk_len before.rest.block) (first_blocks part (rest_chunks before.rest))
  pub chunks : now.chunks ≡ before.chunks + length (first_blocks part (rest_chunks before.rest))
  pub rest : rest_chunks now.rest ≡ behind_blocks before.rest.block part (rest_chunks before.rest)
  pub full : (n : ℕ) → part < n → n < chunk.blocks → (before.max < before.bytes + (12 + content_len (n * before.rest.block) chunk.content) + 12) ⊎ (1000000 < before.chunks + 2)
  pub some : before.bytes ≤ 40 → before.chunks ≤ 1 → 0 < part

-- a piece without blocks yet, which begins at a block of an image
pub record Begins (kept : Kept) (reach : Reach) : Type 0 where
  pub block : reach.rest.block ≡ kept.block
  pub blocks : reach.blocks ≡ kept.blocks
  pub bytes : reach.bytes ≡ 28 + 12 * length (hole reach.at)
  pub chunks : reach.chunks ≡ length (hole reach.at)
  pub rest : rest_chunks reach.rest ≡ behind_blocks kept.block reach.at kept.chunks
  pub some : reach.at < kept.blocks

-- a piece from a block on that grew as far as it can, before it is ended
pub record IsGrown (kept : Kept) (first : ℕ) (reach : Reach) : Type 0 where
  pub ends : EndsAt kept reach.max first reach.at
  pub bytes : reach.bytes + 12 * length (hole (kept.blocks - reach.at)) ≡ sparse_len kept.block (piece_chunks kept first reach.at)
  pub chunks : reach.chunks + length (hole (kept.blocks - reach.at)) ≡ length (piece_chunks kept first reach.at)
  pub rest : rest_chunks reach.rest ≡ behind_blocks kept.block reach.at kept.chunks

-- the same piece, ended
pub record IsEnded (kept : Kept) (first : ℕ) (reach : Reach) : Type 0 where
  pub ends : EndsAt kept reach.max first reach.at
  pub bytes : reach.bytes ≡ sparse_len kept.block (piece_chunks kept first reach.at)
  pub chunks : reach.chunks ≡ length (piece_chunks kept first reach.at)
  pub rest : rest_chunks reach.rest ≡ behind_blocks kept.block reach.at kept.chunks
