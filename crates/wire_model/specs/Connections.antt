-- What the program makes of a wire state: the connection without the bytes that it took.
use Rattle.std.specs.Prelude.{ℕ, List, []}
use Rattle.wire_model.specs.declared.connection.Connection.{Connection}
use Rattle.wire_model.specs.declared.connection.Phase.{Phase}
use Rattle.wire_model.specs.declared.connection.Phase.TheVariants as code
use Rattle.wire_model.specs.declared.item.Item.{Item}
use Rattle.wire_model.specs.declared.item.Item.TheVariants as found
use Rattle.wire_model.specs.declared.served.Served1.{Served1}
use Rattle.wire_model.specs.Wire as wire

-- the phase that a value of the program stands for
abbrev pub phase_of : Phase → wire.Phase
phase_of code.Shake = wire.Shake
phase_of code.Command = wire.Command
phase_of (code.Data count got) = wire.Data count got

-- the item that a value of the program stands for
abbrev pub item_of : Item → wire.Item
item_of (found.Greeting four) = wire.Greeting four
item_of found.TooLong = wire.TooLong
item_of (found.Payload payload) = wire.Payload payload.now

-- the wire state of a connection, with no rest
abbrev pub wire_of : Connection → wire.Wire
wire_of c = record { device = c.device; loaded = c.loaded; phase = phase_of c.phase; rest = []; taken = 0; out = c.out; closed = c.closed }

-- the same with this rest, and so many bytes taken
abbrev pub wire_at : List ℕ → ℕ → Connection → wire.Wire
wire_at rest taken c = record (wire_of c) { rest = rest; taken = taken }

-- what is seen of a state when all bytes were given
abbrev pub served_of : wire.Wire → Served1
served_of w = record { out = w.out; after = w.device; closed = w.closed }
