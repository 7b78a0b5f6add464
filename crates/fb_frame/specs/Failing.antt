-- Calls that are to fail, as an object for tests counts them.
use Rattle.std.specs.Prelude.{ℕ, ◌+◌, ◌-◌, ◌^◌, ◌==◌, Bool, true, not, ◌||◌, List, Option, Some, None, option_map, min, nat_le, if◌then◌else◌}
use Rattle.std.specs.List.{list_any}

-- Which calls fail.
--   fails: the numbers, from 1, of calls that fail
--   room: how many bytes the calls to come may write together; None where that isn't bounded
--   calls: how many calls there were
--   faults: how many of them failed
pub record Failing : Type 0 where
  pub fails : List ℕ
  pub room : Option ℕ
  pub calls : ℕ
  pub faults : ℕ

-- one more, up to the last number of 64 bits
abbrev pub next_number : ℕ → ℕ
next_number n = min (n + 1) (2 ^ 64 - 1)

-- n bytes have room
abbrev pub has_room : Option ℕ → ℕ → Bool
has_room (Some room) n = nat_le n room
has_room None n = true

-- The next call, which writes n bytes (0 for one that writes none), fails: by its number, or since the bytes
-- have no room.
unfoldable pub fails_next : Failing → ℕ → Bool
fails_next f n = list_any (λ k. k == next_number f.calls) f.fails || not (has_room f.room n)

-- one more call, which writes n bytes where it doesn't fail
abbrev pub counted : Failing → ℕ → Failing
counted f n =
    if fails_next f n
    then record f { calls = next_number f.calls; faults = next_number f.faults }
    else record f { calls = next_number f.calls; room = option_map (λ room. room - n) f.room }
