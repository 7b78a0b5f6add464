-- What a gate tells, as one value, and what each call on a gate does to it.
use Rattle.std.specs.Prelude.{◌≡◌, ℕ, ◌+◌, ◌≤◌, Bool, true, false, IsTrue, IsFalse}
use Rattle.std.specs.Prelude.{List, [], ◌∷◌, ◌++◌, length, take, drop, Option, Some, None, IfSome}
use Rattle.fb_frame.specs.Causes.{Rose}
use Rattle.fb_frame.specs.Told.{Both}

-- A connection: the bytes that it gives, how many of them were read, the bytes written, and whether a read
-- or a write failed.
pub record Connection : Type 0 where
  pub gives : List ℕ
  pub read : ℕ
  pub written : List ℕ
  pub failed : Bool

-- The connections of a gate: those that were accepted, the first of them first, and what those give that are
-- still to come.
pub record Connections : Type 0 where
  pub accepted : List Connection
  pub coming : List (List ℕ)

-- All that a gate tells.
--   listening: whether the last `listen` answered Ok
--   up: whether a connection was accepted that was neither hung up nor failed since
--   port: the port of the last `listen`, where the gate tells it; none before the first
--   connections: the connections, where the gate tells them
--   faults: how many calls failed
--   unaccepted: how many calls of `listen` and `accept` failed
pub record GateTold : Type 0 where
  pub listening : Bool
  pub up : Bool
  pub port : Option (Option ℕ)
  pub connections : Option Connections
  pub faults : ℕ
  pub unaccepted : ℕ

-- a connection in which nothing was read or written yet
abbrev pub new_connection : List ℕ → Connection
new_connection gives = record { gives = gives; read = 0; written = []; failed = false }

-- the next connection was accepted
pub record IsAccepted (a b : Connections) : Type 0 where
  pub gives : List ℕ
  pub next : a.coming ≡ gives ∷ b.coming
  pub last : b.accepted ≡ a.accepted ++ new_connection gives ∷ []

-- no connection is told to be left
abbrev pub IsUsedUp : Option Connections → Type 0
IsUsedUp None = ⊥
IsUsedUp (Some c) = c.coming ≡ []

-- the connection that was accepted last changed in this way, and nothing else
pub record LastChanged (Change : Connection → Connection → Type 0) (a b : Connections) : Type 0 where
  pub past : List Connection
  pub before : Connection
  pub now : Connection
  pub last : a.accepted ≡ past ++ before ∷ []
  pub changed : b ≡ record a { accepted = past ++ now ∷ [] }
  pub change : Change before now

-- the same, where the gate tells its connections
abbrev pub OnLast : (Connection → Connection → Type 0) → Option Connections → Option Connections → Type 0
OnLast Change old new = Both (LastChanged Change) old new

-- the bytes are the next that a connection gives, and were read
pub record IsReadOn (bytes : List ℕ) (c d : Connection) : Type 0 where
  pub next : bytes ≡ take (length bytes) (drop c.read c.gives)
  pub within : c.read + length bytes ≤ length c.gives
  pub changed : d ≡ record c { read = c.read + length bytes }

-- a read of a connection failed
abbrev pub IsReadFailed : Connection → Connection → Type 0
IsReadFailed c d = d ≡ record c { failed = true }

-- the bytes were written to a connection
abbrev pub IsWrittenOn : List ℕ → Connection → Connection → Type 0
IsWrittenOn bytes c d = d ≡ record c { written = c.written ++ bytes }

-- a write of the bytes to a connection failed after a front of them
pub record IsWriteFailed (bytes : List ℕ) (c d : Connection) : Type 0 where
  pub count : ℕ
  pub within : count ≤ length bytes
  pub changed : d ≡ record c { written = c.written ++ take count bytes; failed = true }

-- all that a connection gives was read
abbrev pub IsReadUp : Connection → Type 0
IsReadUp c = c.read ≡ length c.gives

-- all that the connection gives was read that was accepted last
pub record IsLastRead (c : Connections) : Type 0 where
  pub past : List Connection
  pub last : Connection
  pub there : c.accepted ≡ past ++ last ∷ []
  pub read_up : IsReadUp last

-- the same, where the gate tells its connections
abbrev pub IsAllRead : Option Connections → Type 0
IsAllRead told = IfSome told IsLastRead

-- the last `listen` was at this port, where the gate tells it
abbrev pub IsPort : Option (Option ℕ) → ℕ → Type 0
IsPort told port = IfSome told (λ last. last ≡ Some port)

-- What all calls but `listen` keep: whether the gate listens, and where; and the counts never fall.
pub record GateKept (old new : GateTold) : Type 0 where
  pub listening : new.listening ≡ old.listening
  pub port : new.port ≡ old.port
  pub later : old.faults ≤ new.faults
  pub no_fewer : old.unaccepted ≤ new.unaccepted

-- The gate listens at the port, and nothing changed in its connections.
pub record Listens (old new : GateTold) (port : ℕ) : Type 0 where
  pub listening : IsTrue new.listening
  pub at_port : IsPort new.port port
  pub up : new.up ≡ old.up
  pub connections : new.connections ≡ old.connections
  pub later : old.faults ≤ new.faults
  pub calm : new.unaccepted ≡ old.unaccepted

-- The gate doesn't listen after a call for this port, and nothing changed in its connections.
pub record FailsListen (old new : GateTold) (port : ℕ) : Type 0 where
  pub deaf : IsFalse new.listening
  pub at_port : IsPort new.port port
  pub up : new.up ≡ old.up
  pub connections : new.connections ≡ old.connections
  pub rose : Rose old.faults new.faults
  pub more : Rose old.unaccepted new.unaccepted
  pub later : old.faults ≤ new.faults
  pub no_fewer : old.unaccepted ≤ new.unaccepted

-- The next connection was accepted, in place of the one before.
pub record Accepts (old new : GateTold) : Type 0 where
  pub up : IsTrue new.up
  pub connections : Both IsAccepted old.connections new.connections
  pub kept : GateKept old new
  pub calm : new.unaccepted ≡ old.unaccepted

-- No connection is left, and the gate is as it was.
pub record FindsNone (old new : GateTold) : Type 0 where
  pub used_up : IsUsedUp old.connections
  pub up : new.up ≡ old.up
  pub connections : new.connections ≡ old.connections
  pub kept : GateKept old new
  pub calm : new.unaccepted ≡ old.unaccepted

-- No connection was accepted.
pub record FailsAccept (old new : GateTold) : Type 0 where
  pub up : new.up ≡ old.up
  pub connections : new.connections ≡ old.connections
  pub kept : GateKept old new
  pub rose : Rose old.faults new.faults
  pub more : Rose old.unaccepted new.unaccepted

-- The connection goes on, changed in this way.
pub record GoesOn (Change : Connection → Connection → Type 0) (old new : GateTold) : Type 0 where
  pub up : IsTrue new.up
  pub connections : OnLast Change old.connections new.connections
  pub kept : GateKept old new
  pub calm : new.unaccepted ≡ old.unaccepted

-- The connection is down after a call that failed, changed in this way.
pub record BreaksOff (Change : Connection → Connection → Type 0) (old new : GateTold) : Type 0 where
  pub down : IsFalse new.up
  pub connections : OnLast Change old.connections new.connections
  pub kept : GateKept old new
  pub calm : new.unaccepted ≡ old.unaccepted
  pub rose : Rose old.faults new.faults

-- No connection is up, and nothing else changed.
pub record HangsUp (old new : GateTold) : Type 0 where
  pub down : IsFalse new.up
  pub connections : new.connections ≡ old.connections
  pub kept : GateKept old new
  pub faults : new.faults ≡ old.faults
  pub calm : new.unaccepted ≡ old.unaccepted
