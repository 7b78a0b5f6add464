-- The text of a sink in memory.
use Rattle.std.specs.Prelude.{ℕ, ◌+◌, ◌-◌, ◌^◌, List, ◌++◌, length, min, nat_le, Bool, if◌then◌else◌}

-- what was put, how many bytes may be put in all, and how many puts failed
pub record MemoryText : Type 0 where
  pub put : List ℕ
  pub room : ℕ
  pub faults : ℕ

-- the bytes have room after what was put
abbrev pub has_room : MemoryText → List ℕ → Bool
has_room sink bytes = nat_le (length sink.put + length bytes) sink.room

-- the sink after a put: the bytes are added where they have room, else the put failed and adds none
abbrev pub after_put : MemoryText → List ℕ → MemoryText
after_put sink bytes =
    if has_room sink bytes
    then record sink { put = sink.put ++ bytes }
    else record sink { faults = min (sink.faults + 1) (2 ^ 64 - 1) }
