use Rattle.std.proofs.Common.{◌≡◌, ◌-◌, length}
use Rattle.wire_model.specs.Wire.{settled}
use Rattle.wire_model.specs.Connections.{served_of, wire_at}
use Rattle.wire_model.proofs.serves.settled.Given as goal

-- the items that follow give what all items give
abbrev pub invariant-loop-i : goal.invariant-loop-i
invariant-loop-i l =
    served_of (settled (length l.bytes - l.i) (wire_at l.rest (length l.bytes) l.now))
    ≡ served_of (settled (length l.bytes) (wire_at l.bytes (length l.bytes) l.initial.now))
