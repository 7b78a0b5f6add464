-- What bounds and counts the calls on a port.
use Rattle.std.specs.Prelude.{ℕ, ◌+◌, ◌-◌, ◌^◌, Bool, true, false, ◌==◌, List, length, min, max, nat_lt}
use Rattle.std.specs.Prelude.{slice_get}
use Rattle.std.specs.Prelude.{Option, Some, None, option_map, if◌then◌else◌}

--   sizes, turn: how many bytes a call passes at most, and the place of the next call's in this list
--   breaks: after how many bytes each connection breaks, if it does
--   begun: how many connections began
--   remaining: how many bytes may still pass in the last connection, if it breaks
--   broken: how many calls met a break
--   refused: how many calls weren't in turn, or began no connection, since the device is in no mode for it
--   ended: how often the end of a connection was met
pub record Counters : Type 0 where
  pub sizes : List ℕ
  pub turn : ℕ
  pub breaks : List (Option ℕ)
  pub begun : ℕ
  pub remaining : Option ℕ
  pub broken : ℕ
  pub refused : ℕ
  pub ended : ℕ

-- the counters of a new port
abbrev pub new_counters : List ℕ → List (Option ℕ) → Counters
new_counters sizes breaks = record {
  sizes = sizes;
  turn = 0;
  breaks = breaks;
  begun = 0;
  remaining = None;
  broken = 0;
  refused = 0;
  ended = 0;
}

-- one more, up to the last number of 64 bits
abbrev pub one_more : ℕ → ℕ
one_more n = max n (min (n + 1) (2 ^ 64 - 1))

-- the next size, and from the front again
abbrev pub next_turn : List ℕ → ℕ → ℕ
next_turn sizes turn = if nat_lt (turn + 1) (length sizes) then turn + 1 else 0

-- the smaller of a number and a bound, where there is one
abbrev pub bounded : Option ℕ → ℕ → ℕ
bounded None n = n
bounded (Some bound) n = min bound n

-- how many of n bytes the next call passes at most
abbrev pub most : Counters → ℕ → ℕ
most c n = bounded (slice_get c.sizes c.turn) (bounded c.remaining n)

-- an entry of the breaks, none after the last
abbrev pub entry_of : Option (Option ℕ) → Option ℕ
entry_of None = None
entry_of (Some entry) = entry

-- no byte may pass any more
abbrev pub is_spent : Option ℕ → Bool
is_spent None = false
is_spent (Some n) = n == 0

-- the counters after a connection began, after a call that passed n bytes, after one that met the end, after
-- one that met a break, and after one that was refused
abbrev pub begun_once : Counters → Counters
begun_once c = record c { begun = one_more c.begun; remaining = entry_of (slice_get c.breaks c.begun) }

abbrev pub passed : ℕ → Counters → Counters
passed n c = record c { turn = next_turn c.sizes c.turn; remaining = option_map (λ r. r - n) c.remaining }

abbrev pub ended_once : Counters → Counters
ended_once c = record c { ended = one_more c.ended }

abbrev pub broken_once : Counters → Counters
broken_once c = record c { broken = one_more c.broken }

abbrev pub refused_once : Counters → Counters
refused_once c = record c { refused = one_more c.refused }
