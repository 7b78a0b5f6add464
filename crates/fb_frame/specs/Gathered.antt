-- What the events of a deframer tell of the frames in a stream.
use Rattle.std.specs.Prelude.{◌≡◌, ℕ, ◌+◌, ◌^◌, ◌<◌, List, [], ◌∷◌, ◌++◌, length, map, flat_map, All, Option, Some, None}
use Rattle.fb_frame.specs.declared.deframer.Event.{Event}
use Rattle.fb_frame.specs.declared.deframer.Event.TheVariants.{More, Length, Bytes, End}
use Rattle.fb_frame.specs.Bytes.{AreBytes}
use Rattle.fb_frame.specs.Framing.{head, frame, HasFrame, Cut}
use Rattle.fb_frame.specs.Stages.{Stage, Head, Left}

-- the lengths that were told, the payloads that ended, and the bytes of one that didn't
pub record Gathered : Type 0 where
  pub lengths : List ℕ
  pub whole : List (List ℕ)
  pub part : List ℕ

-- nothing was told yet
abbrev pub nothing : Gathered
nothing = record { lengths = []; whole = []; part = [] }

-- what an event adds, which took these bytes
abbrev pub noted : Event → List ℕ → Gathered → Gathered
noted More taken told = told
noted (Length len) taken told = record told { lengths = told.lengths ++ len ∷ [] }
noted Bytes taken told = record told { part = told.part ++ taken }
noted End taken told = record told { whole = told.whole ++ told.part ∷ []; part = [] }

-- A listener noted the event, or tells nothing any more.
abbrev pub Notes : Event → List ℕ → Option Gathered → Option Gathered → Type 0
Notes event taken (Some before) (Some now) = now ≡ noted event taken before
Notes event taken None (Some now) = ⊥
Notes event taken before None = Unit {0}

-- what was taken of the frame that a deframer stands in, of whose payload this part came
abbrev pub half : Stage → List ℕ → List ℕ
half (Head front) part = front
half (Left count) part = head (length part + count) ++ part

-- the length of that frame, where its head is whole
abbrev pub half_length : Stage → List ℕ → List ℕ
half_length (Head front) part = []
half_length (Left count) part = (length part + count) ∷ []

-- a stage that a deframer can stand in, with this part of a payload
abbrev pub IsStage : Stage → List ℕ → Type 0
IsStage (Head front) part = (length front < 8) × (part ≡ []) × AreBytes front
IsStage (Left count) part = length part + count < 2 ^ 64

-- The bytes are the frames of the payloads that ended, and then what the deframer stands in. The lengths
-- are those of the payloads, and of the frame that it stands in.
pub record Reads (bytes : List ℕ) (told : Gathered) (stage : Stage) : Type 0 where
  pub frames : bytes ≡ flat_map frame told.whole ++ half stage told.part
  pub lengths : told.lengths ≡ map (length {A = ℕ}) told.whole ++ half_length stage told.part
  pub fits : All HasFrame told.whole
  pub stands : IsStage stage told.part

-- the bytes are read so by a listener, where it tells
abbrev pub ReadsTold : List ℕ → Option Gathered → Stage → Type 0
ReadsTold bytes (Some told) stage = Reads bytes told stage
ReadsTold bytes None stage = Unit {0}

-- The payloads that ended are those into which the bytes are cut, and their lengths were told; what
-- remains is what the deframer stands in.
abbrev pub CutsTold : List ℕ → Option Gathered → Stage → Type 0
CutsTold bytes (Some told) stage =
    Cut bytes told.whole (half stage told.part)
    × (told.lengths ≡ map (length {A = ℕ}) told.whole ++ half_length stage told.part)
CutsTold bytes None stage = Unit {0}
