-- Images of drawn bytes, each with where the draws stand after it.
use Rattle.std.specs.Prelude.{◌≤◌, ℕ, zero, suc, ◌-◌, ◌*◌, List, [], ◌∷◌, ◌++◌}
use Rattle.sparse_image.specs.Pieces.{head_bytes, header_bytes}
use Rattle.sample_product.specs.declared.raw.Length.{Length}
use Rattle.sample_product.specs.declared.raw.Length.TheVariants.{Bytes, Blocks}
use Rattle.sample_product.specs.Draws.{next, count, after, bytes}

-- a length of at least one byte, and of at most 1,000,000 blocks
abbrev pub IsLength : Length → Type 0
IsLength (Bytes size) = 1 ≤ size
IsLength (Blocks most) = (1 ≤ most) × (most ≤ 1000000)

-- how many bytes a raw image has, by a draw where one decides
abbrev pub size_of : Length → ℕ → ℕ
size_of (Bytes size) x = size
size_of (Blocks most) x = 4096 * count most x

abbrev pub after_size : Length → ℕ → ℕ
after_size (Bytes size) x = x
after_size (Blocks most) x = next x

-- a raw image: 0, and drawn bytes
abbrev pub raw_image : Length → ℕ → List ℕ
raw_image length x = 0 ∷ bytes (size_of length x - 1) (after_size length x)

abbrev pub after_raw : Length → ℕ → ℕ
after_raw length x = after (size_of length x - 1) (after_size length x)

-- three chunks of a sparse file (sparse_format.h): one drawn block, two blocks of a drawn fill, and one block
-- that stays as it is
abbrev pub chunks : ℕ → List ℕ
chunks x =
    head_bytes 0xCAC1 1 4108 ++ bytes 4096 x
    ++ head_bytes 0xCAC2 2 16 ++ bytes 4 (after 4096 x)
    ++ head_bytes 0xCAC3 1 12

abbrev pub after_chunks : ℕ → ℕ
after_chunks x = after 4 (after 4096 x)

-- these n times
unfoldable pub groups : ℕ → ℕ → List ℕ
groups zero x = []
groups (suc n) x = chunks x ++ groups n (after_chunks x)

-- a sparse image of four blocks and three chunks, 1 to 200 times
abbrev pub sparse_of : ℕ → ℕ → List ℕ
sparse_of n x = header_bytes 4096 (4 * n) (3 * n) ++ groups n x

abbrev pub sparse_image : ℕ → List ℕ
sparse_image x = sparse_of (count 200 x) (next x)
