-- What a deframer takes of a piece, and what it tells of it.
use Rattle.std.specs.Prelude.{◌≡◌, ℕ, ◌+◌, ◌-◌, ◌^◌, ◌<◌, ◌≤◌, min, List, [], ◌++◌, length, take}
use Rattle.fb_frame.specs.Framing.{head}
use Rattle.fb_frame.specs.declared.deframer.Event.{Event}
use Rattle.fb_frame.specs.declared.deframer.Event.TheVariants.{More, Length, Bytes, End}

-- Where a deframer stands: the bytes of a head that isn't whole yet, or how many bytes of a payload are
-- still to come.
pub data Stage : Type 0 where
  Head : List ℕ → Stage
  Left : ℕ → Stage

-- A feed took n bytes of the piece's front and told the event. In a head: all of the piece, or what
-- completes the head of the length that is told. In a payload: as much of it as came. A payload
-- of which nothing is left to come ends first.
abbrev pub Feeds : Stage → List ℕ → ℕ → Event → Stage → Type 0
Feeds (Head front) piece n More next =
    (n ≡ length piece) × (length front + n < 8) × (next ≡ Head (front ++ piece))
Feeds (Head front) piece n (Length len) next =
    (n ≤ length piece) × (length front + n ≡ 8) × (front ++ take n piece ≡ head len)
    × (len < 2 ^ 64) × (0 < n) × (next ≡ Left len)
Feeds (Left count) piece n More next = (piece ≡ []) × (n ≡ 0) × (0 < count) × (next ≡ Left count)
Feeds (Left count) piece n Bytes next = (0 < n) × (n ≡ min count (length piece)) × (next ≡ Left (count - n))
Feeds (Left count) piece n End next = (count ≡ 0) × (n ≡ 0) × (next ≡ Head [])
Feeds _ _ _ _ _ = ⊥
