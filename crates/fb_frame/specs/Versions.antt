-- The minor versions of a table of logical partitions, and what each allows (liblp metadata_format.h).
use Rattle.std.specs.Prelude.{ℕ, ◌/◌, ◌%◌, Bool, ◌&&◌, ◌||◌, nat_lt, nat_le, ◌==◌, if◌then◌else◌}

-- The attributes of a partition: bit 0 (readonly), and from minor version 1 on bits 2 (updated) and
-- 3 (disabled).
abbrev pub are_attributes : ℕ → ℕ → Bool
are_attributes minor bits = if minor == 0 then nat_lt bits 2 else nat_lt bits 16 && bits / 2 % 2 == 0

-- a table's minor version, 2 at most, and its flags, which only version 2 has
abbrev pub is_version : ℕ → ℕ → Bool
is_version minor flags = nat_le minor 2 && (nat_le 2 minor || flags == 0)
