-- What the calls on a session make of its wire state, one after another.
use Rattle.std.specs.Prelude.{◌≡◌, ℕ, List, [], ◌∷◌, ◌++◌, IsTrue}
use Rattle.fb_frame.specs.Causes.{Rose}
use Rattle.dev_model.specs.declared.device.Dev.{Dev}
use Rattle.wire_model.specs.Wire.{Wire, fresh}
use Rattle.wire_model.specs.Laws.{OnlyModeChanges}
use Rattle.wire_told.specs.Told.{GoesBy}

-- A call that took these bytes of a piece, or that took this front of the outbox away.
pub data Call : Type 0 where
  Feed : List ℕ → Call
  Drain : List ℕ → Call

-- the bytes that were taken, joined
abbrev pub fed : List Call → List ℕ
fed [] = []
fed (Feed bytes ∷ calls) = bytes ++ fed calls
fed (Drain bytes ∷ calls) = fed calls

-- the bytes that were drained, joined
abbrev pub drained : List Call → List ℕ
drained [] = []
drained (Feed bytes ∷ calls) = drained calls
drained (Drain bytes ∷ calls) = bytes ++ drained calls

-- The calls lead from the first state to the second, where a disk call can fail only if `broke` holds.
abbrev pub Calls : Type 0 → Wire → List Call → Wire → Type 0
Calls broke w [] v = v ≡ w
Calls broke w (Feed bytes ∷ calls) v = (u : Wire) × GoesBy broke w bytes u × Calls broke u calls v
Calls broke w (Drain bytes ∷ calls) v =
    (u : Wire) × (w ≡ record u { out = bytes ++ u.out }) × Calls broke u calls v

-- However a connection's bytes are cut and its outbox is drained: its state is one that follows from all the
-- bytes that were taken, and what was drained and stands in the outbox is what was answered.
abbrev pub OneConnection : Type 0
OneConnection = (before now : ℕ) (dev : Dev) (calls : List Call) (v : Wire) →
    Calls (Rose before now) (fresh dev) calls v →
    GoesBy (Rose before now) (fresh dev) (fed calls) (record v { out = drained calls ++ v.out })

-- A locked device keeps all but its mode, whatever its connection takes: partitions, groups, slot, flags and
-- lock.
abbrev pub LockedConnection : Type 0
LockedConnection = (before now : ℕ) (dev : Dev) (calls : List Call) (v : Wire) → IsTrue dev.locked →
    Calls (Rose before now) (fresh dev) calls v → OnlyModeChanges dev v.device
