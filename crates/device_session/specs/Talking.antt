-- A connection that is served, as far as it came.
use Rattle.std.specs.Prelude.{◌≡◌, ℕ, ◌+◌, ◌^◌, ◌<◌, ◌≤◌, List, [], ◌∷◌, ◌++◌, length, take, drop}
use Rattle.std.specs.Prelude.{Option, is_some, IsTrue, IsFalse}
use Rattle.fb_frame.specs.Told.{Both}
use Rattle.dev_disk.specs.Disks.{DiskTold}
use Rattle.dev_model.specs.declared.device.Mode.TheVariants.{Halted}
use Rattle.dev_model.specs.Partitions.{is_fastboot}
use Rattle.dev_store.specs.Held.{Held, image_of, DiskKept}
use Rattle.device_engine.specs.Running.{HasMax}
use Rattle.wire_model.specs.Wire.{Wire, fresh}
use Rattle.wire_told.specs.Told.{MayConnect}
use Rattle.device_session.specs.Gates.{Connection, Connections, GateTold, GateKept, new_connection}
use Rattle.device_session.specs.Living.{Live}
use Rattle.device_session.specs.Lives.{IsAlong}
use Rattle.device_session.specs.Serving.{ServesOne, IsHaltedBy}

-- What was taken of the connection led its session to a state; what was written and what stands in the outbox
-- is what was answered; and `left` was read and isn't taken yet.
pub record IsTalking {K : Type 0} (told : K → DiskTold) (begin : Held K) (live : Live K) (left : List ℕ)
    (c : Connection) : Type 0 where
  pub begins : MayConnect begin.device
  pub state : Wire
  pub taken : ℕ
  pub along : IsAlong told (told begin.disk).faults (fresh begin.device) live state
      (take taken c.gives) c.written
  pub next : left ≡ take (length left) (drop taken c.gives)
  pub read : taken + length left ≡ c.read
  pub within : c.read ≤ length c.gives
  pub calm : IsFalse c.failed

-- The connection that was accepted last is so, and nothing else changed since it was accepted.
pub record LastIs (P : Connection → Type 0) (a b : Connections) : Type 0 where
  pub past : List Connection
  pub last : Connection
  pub begun : a.accepted ≡ past ++ new_connection last.gives ∷ []
  pub now : b.accepted ≡ past ++ last ∷ []
  pub coming : b.coming ≡ a.coming
  pub here : P last

-- the same where the gate tells its connections, and as far as the disk tells the image
abbrev pub OnTold : {K : Type 0} → (K → DiskTold) → Held K → (Connection → Type 0) → Option Connections →
    Option Connections → Type 0
OnTold told begin P a b = Both (LastIs (λ c. IsTrue (is_some (image_of told begin)) → P c)) a b

-- the connection goes on, with this session, and this read and not taken
abbrev pub Talks : {K : Type 0} → (K → DiskTold) → Held K → Option Connections → Live K → List ℕ →
    GateTold → Type 0
Talks told begin a live left g = OnTold told begin (IsTalking told begin live left) a g.connections

-- the connection ended, and left the device that is held
abbrev pub Ends : {K : Type 0} → (K → DiskTold) → Held K → Option Connections → Live K → GateTold → Type 0
Ends told begin a live g = OnTold told begin (ServesOne told begin live.held) a g.connections

-- a connection that went on with the one session goes on with the other
abbrev pub TalksOn : {K : Type 0} → (K → DiskTold) → Live K → List ℕ → GateTold → Live K → List ℕ →
    GateTold → Type 0
TalksOn told old left before new rest after = (begin : Held _) (a : Option Connections) →
    Talks told begin a old left before → Talks told begin a new rest after

-- a connection that went on with the one session ended with the other
abbrev pub TalksOut : {K : Type 0} → (K → DiskTold) → Live K → List ℕ → GateTold → Live K → GateTold → Type 0
TalksOut told old left before new after = (begin : Held _) (a : Option Connections) →
    Talks told begin a old left before → Ends told begin a new after

-- The same, where some of what was read may be left over, but only where the session closed.
pub record TalksUp {K : Type 0} (told : K → DiskTold) (old : Live K) (left : List ℕ) (before : GateTold)
    (new : Live K) (after : GateTold) : Type 0 where
  pub rest : List ℕ
  pub done : IsFalse new.closed → rest ≡ []
  pub talks : TalksOn told old left before new rest after

-- What a call on a connection keeps of its gate.
pub record GateCalm (old new : GateTold) : Type 0 where
  pub kept : GateKept old new
  pub calm : new.unaccepted ≡ old.unaccepted

-- What the calls on a session keep, one after another.
pub record IsKept {K L : Type 0} (told : K → DiskTold) (lent : K → L) (old new : Live K) : Type 0 where
  pub runs : IsFalse new.closed → IsTrue (is_fastboot new.held.device.mode)
  pub limit : IsFalse new.closed → new.taken < 2 ^ 62
  pub max : HasMax old.held.device.max new.held.device
  pub kept : DiskKept told lent old.held.disk new.held.disk
  pub halts : new.held.device.mode ≡ Halted → IsHaltedBy told old.held.disk new.held
  pub room : new.room ≡ old.room
