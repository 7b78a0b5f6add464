-- What a gate in memory tells of its connections.
use Rattle.std.specs.Prelude.{ℕ, Bool, List, [], ◌∷◌, length, take, drop, slice_get}
use Rattle.std.specs.Prelude.{Option, Some, None}
use Rattle.fb_frame.specs.Failing.{Failing}
use Rattle.device_session.specs.Gates.{Connection, Connections, GateTold}
use Rattle.device_session.specs.declared.script_gate.Passage.{Passage}

-- What a gate in memory holds. It fails by its list of failing calls.
pub record Scripted : Type 0 where
  pub listening : Bool
  pub up : Bool
  pub port : Option ℕ
  pub connections : Connections
  pub failing : Failing
  pub unaccepted : ℕ

-- all that it tells
abbrev pub told_of : Scripted → GateTold
told_of g = record {
  listening = g.listening;
  up = g.up;
  port = Some g.port;
  connections = Some g.connections;
  faults = g.failing.faults;
  unaccepted = g.unaccepted;
}

-- the bytes of a passage among all that were written
abbrev pub written_in : Passage → List ℕ → List ℕ
written_in p written = take p.size (drop p.from written)

-- the connection that gives these bytes and has this passage
abbrev pub connection_of : List ℕ → Passage → List ℕ → Connection
connection_of gives p written =
    record { gives = gives; read = p.read; written = written_in p written; failed = p.failed }

-- the connections with these passages, in the order of what they give
abbrev pub connections_of : List (List ℕ) → List Passage → List ℕ → List Connection
connections_of gives [] written = []
connections_of [] (p ∷ passages) written = []
connections_of (gives ∷ rest) (p ∷ passages) written =
    connection_of gives p written ∷ connections_of rest passages written

-- the connections that were accepted and those to come, by the passages of those that were accepted
abbrev pub split_at : List (List ℕ) → List Passage → List ℕ → Connections
split_at gives passages written = record {
  accepted = connections_of gives passages written;
  coming = drop (length passages) gives;
}

-- the bytes written in the connection of a number, from 0
abbrev pub written_by : Option Connection → List ℕ
written_by None = []
written_by (Some c) = c.written

-- what was written in connection k
abbrev pub written_at : Scripted → ℕ → List ℕ
written_at g k = written_by (slice_get g.connections.accepted k)
