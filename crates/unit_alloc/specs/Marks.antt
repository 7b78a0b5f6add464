-- The owner of each unit, and the free units as bits of words of 64 bits.
use Rattle.std.specs.Prelude.{◌≡◌, ℕ, ◌*◌, ◌/◌, ◌%◌, ◌^◌, ◌<◌, ◌≤◌, Bool, ◌&&◌, List, Option, None, is_none, length, nat_lt, ◌==◌, count_by, slice_index, slice_index_or}
use Rattle.std.specs.Int.{bit_at}

-- the unit's bit is set
unfoldable pub is_marked : List ℕ → ℕ → Bool
is_marked words unit = bit_at (slice_index words (unit / 64)) (unit % 64) == 1

-- the unit is there, and has no owner
abbrev pub is_free : List (Option ℕ) → ℕ → Bool
is_free owners unit = nat_lt unit (length owners) && is_none (slice_index_or owners unit None)

-- how many units have no owner
unfoldable pub free_count : List (Option ℕ) → ℕ
free_count owners = count_by is_none owners

-- the free units are marked in the words, and counted
pub record AreMarked (owners : List (Option ℕ)) (words : List ℕ) (free : ℕ) : Type 0 where
  pub marks : (unit : ℕ) → is_marked words unit ≡ is_free owners unit
  pub long : length owners ≤ 64 * length words
  pub small : length owners < 2 ^ 32
  pub counted : free ≡ free_count owners
