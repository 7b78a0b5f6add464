-- What a session takes of its connection, and what the bytes complete.
use Rattle.std.specs.Prelude.{◌≡◌, ℕ, ◌+◌, ◌==◌, Bool, true, false, List, [], ◌++◌, length}
use Rattle.std.specs.Prelude.{Some, None, is_some, if◌then◌else◌}
use Rattle.fb_frame.specs.Greeting.{read_handshake}
use Rattle.fb_frame.specs.Stages as frames
use Rattle.fb_frame.specs.Gathered.{half}
use Rattle.wire_model.specs.Says.{Loaded}
use Rattle.wire_model.specs.Wire as wire
use Rattle.wire_model.specs.Wire.{Phase, front}
use Rattle.device_session.specs.declared.inlet.Awaits.{Awaits}
use Rattle.device_session.specs.declared.inlet.Awaits.TheVariants.{Shake, Command, Data}
use Rattle.device_session.specs.declared.inlet.Came.{Came}
use Rattle.device_session.specs.declared.inlet.Came.TheVariants as came

-- What came of a connection: what was downloaded last, what is awaited next, the bytes that don't make a
-- whole handshake or frame yet, the payload of the last command while it is the last that came whole, how
-- many bytes were taken, and the longest download that there is room for.
pub record Inflow : Type 0 where
  pub loaded : Loaded
  pub phase : Phase
  pub rest : List ℕ
  pub command : List ℕ
  pub taken : ℕ
  pub room : ℕ

-- what is awaited as a phase, with the bytes of a download that came in whole frames
abbrev pub phase_of : Awaits → List ℕ → Phase
phase_of Shake got = wire.Shake
phase_of Command got = wire.Command
phase_of (Data count) got = wire.Data count got

-- the handshake is awaited
abbrev pub is_shaking : Phase → Bool
is_shaking wire.Shake = true
is_shaking wire.Command = false
is_shaking (wire.Data count got) = false

-- data is awaited
abbrev pub IsData : Phase → Type 0
IsData wire.Shake = ⊥
IsData wire.Command = ⊥
IsData (wire.Data count got) = Unit {0}

-- what was downloaded last
abbrev pub loaded_of : Bool → List ℕ → Loaded
loaded_of loaded bytes = if loaded then Some bytes else None

-- the bytes of a handshake or a frame that came, whose payload goes to the one or the other buffer
abbrev pub rest_of : Awaits → frames.Stage → List ℕ → List ℕ → List ℕ
rest_of Shake stage command part = command
rest_of Command stage command part = half stage command
rest_of (Data count) stage command part = half stage part

-- The bytes complete nothing yet, and are kept.
pub record IsPart (old new : Inflow) (bytes : List ℕ) : Type 0 where
  pub none : front old.phase (old.rest ++ bytes) ≡ None
  pub rest : new.rest ≡ old.rest ++ bytes
  pub phase : new.phase ≡ old.phase
  pub loaded : new.loaded ≡ old.loaded

-- The bytes complete a handshake, a good one or a bad one.
pub record IsShaken (old new : Inflow) (bytes : List ℕ) (good : Bool) : Type 0 where
  pub four : List ℕ
  pub item : front old.phase (old.rest ++ bytes) ≡ Some (wire.Greeting four, [])
  pub good_one : good ≡ is_some (read_handshake four)
  pub rest : new.rest ≡ []
  pub phase : new.phase ≡ (if good then wire.Command else old.phase)
  pub loaded : new.loaded ≡ old.loaded

-- The bytes complete a head that gives too much.
pub record IsTooLong (old new : Inflow) (bytes : List ℕ) : Type 0 where
  pub item : front old.phase (old.rest ++ bytes) ≡ Some (wire.TooLong, [])
  pub rest : new.rest ≡ []
  pub phase : new.phase ≡ old.phase
  pub loaded : new.loaded ≡ old.loaded

-- The bytes complete a command.
pub record IsOrdered (old new : Inflow) (bytes : List ℕ) : Type 0 where
  pub awaited : old.phase ≡ wire.Command
  pub item : front old.phase (old.rest ++ bytes) ≡ Some (wire.Payload new.command, [])
  pub rest : new.rest ≡ []
  pub phase : new.phase ≡ old.phase
  pub loaded : new.loaded ≡ old.loaded

-- So many bytes are due of a download and these have come: they are loaded where they are all, else more is
-- awaited.
pub record IsReceived (count : ℕ) (got : List ℕ) (old new : Inflow) (whole : Bool) : Type 0 where
  pub all : whole ≡ (length got == count)
  pub rest : new.rest ≡ []
  pub phase : new.phase ≡ (if whole then wire.Command else wire.Data count got)
  pub loaded : new.loaded ≡ (if whole then Some got else old.loaded)

-- The bytes complete a frame of data, which may be the last.
pub record IsFilled (old new : Inflow) (bytes : List ℕ) (whole : Bool) : Type 0 where
  pub count : ℕ
  pub got : List ℕ
  pub payload : List ℕ
  pub awaited : old.phase ≡ wire.Data count got
  pub item : front old.phase (old.rest ++ bytes) ≡ Some (wire.Payload payload, [])
  pub received : IsReceived count (got ++ payload) old new whole

-- what the bytes complete, by kind
abbrev pub CameBy : Inflow → List ℕ → Came → Inflow → Type 0
CameBy old bytes came.More new = IsPart old new bytes
CameBy old bytes (came.Greeting good) new = IsShaken old new bytes good
CameBy old bytes came.TooLong new = IsTooLong old new bytes
CameBy old bytes came.Command new = IsOrdered old new bytes
CameBy old bytes (came.Data whole) new = IsFilled old new bytes whole

-- The bytes were taken, and complete at most one item, which ends with them.
pub record ComesTo (old : Inflow) (bytes : List ℕ) (came : Came) (new : Inflow) : Type 0 where
  pub by : CameBy old bytes came new
  pub taken : new.taken ≡ old.taken + length bytes
  pub room : new.room ≡ old.room
