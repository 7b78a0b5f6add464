-- Little-endian numbers in the fields of a structure. The bytes of a number are std's `to_le_bytes`.
use Rattle.std.specs.Prelude.{ℕ, List, take, drop}
use Rattle.std.specs.Int.{w16, w32, w64, from_le_bytes}

-- the number of two bytes at a place
unfoldable pub u16_at : ℕ → List ℕ → ℕ
u16_at place bytes = from_le_bytes w16 (take 2 (drop place bytes))

-- the number of four bytes at a place
unfoldable pub u32_at : ℕ → List ℕ → ℕ
u32_at place bytes = from_le_bytes w32 (take 4 (drop place bytes))

-- the number of eight bytes at a place
unfoldable pub u64_at : ℕ → List ℕ → ℕ
u64_at place bytes = from_le_bytes w64 (take 8 (drop place bytes))
