-- Bytes that are added to a packet.
use Rattle.std.proofs.Common.{◌≡◌, ℕ, ◌≤◌, List, length, take, arith, length-take}
use Rattle.std.proofs.lemmas.Slice.{take-put_mid}

-- how many bytes stand in a packet
pub length-front : (len : ℕ) (bytes old : List ℕ) → take len bytes ≡ old → len ≤ length bytes → length old ≡ len
length-front len bytes old e h = rw (← e) (omega (arith, length-take len bytes, h))

pub ruleset packets = (take-put_mid, length-front)
