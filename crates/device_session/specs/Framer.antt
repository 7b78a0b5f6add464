-- Frames that come in pieces, each payload into the end of a buffer.
use Rattle.std.specs.Prelude.{◌≡◌, ℕ, ◌+◌, ◌-◌, ◌<◌, ◌≤◌, List, [], ◌++◌, length, drop, Some, None}
use Rattle.fb_frame.specs.Stages.{Stage, Head, Left}
use Rattle.fb_frame.specs.Gathered.{half}
use Rattle.wire_model.specs.Wire as item
use Rattle.wire_model.specs.Wire.{first_frame}
use Rattle.device_session.specs.declared.framer.Heard.{Heard}
use Rattle.device_session.specs.declared.framer.Heard.TheVariants.{More, TooLong, Whole}

-- A frame of at most so many bytes can stand so, with this part of its payload: in its head, or in a payload
-- of which some is still to come.
abbrev pub Stands : ℕ → Stage → List ℕ → Type 0
Stands most (Head front) part = length front < 8
Stands most (Left count) part = (0 < count) × (length part + count ≤ most)

-- a payload is taken, of which some may be still to come
abbrev pub IsPayload : Stage → Type 0
IsPayload (Head front) = ⊥
IsPayload (Left count) = Unit {0}

-- The bytes were taken of a payload, of which `count` bytes were due, behind what the buffer had.
abbrev pub PaysOn : ℕ → List ℕ → List ℕ → Heard → Stage → List ℕ → Type 0
PaysOn count old bytes More next new =
    (length bytes < count) × (next ≡ Left (count - length bytes)) × (new ≡ old ++ bytes)
PaysOn count old bytes Whole next new =
    (length bytes ≡ count) × (next ≡ Head []) × (new ≡ old ++ bytes)
PaysOn count old bytes TooLong next new = ⊥

-- Where a frame stands, and the part of its payload that came.
pub record Framing : Type 0 where
  pub stage : Stage
  pub part : List ℕ

-- the bytes of a frame that came
abbrev pub rest_of : Framing → List ℕ
rest_of f = half f.stage f.part

-- What the bytes make of a frame of at most so many: it isn't whole yet, its head gives more, or its payload
-- is whole.
abbrev pub FramesOn : ℕ → Framing → List ℕ → Heard → Framing → Type 0
FramesOn most old bytes More new = (first_frame most (rest_of old ++ bytes) ≡ None)
    × (rest_of new ≡ rest_of old ++ bytes) × Stands most new.stage new.part
FramesOn most old bytes TooLong new =
    (first_frame most (rest_of old ++ bytes) ≡ Some (item.TooLong, [])) × (new.stage ≡ Head [])
FramesOn most old bytes Whole new =
    (first_frame most (rest_of old ++ bytes) ≡ Some (item.Payload new.part, [])) × (new.stage ≡ Head [])
    × (length new.part ≤ most)

abbrev pub framing : Stage → ℕ → List ℕ → Framing
framing stage base buffer = record { stage = stage; part = drop base buffer }
