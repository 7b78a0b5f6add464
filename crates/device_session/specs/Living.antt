-- A session as a wire state over a disk.
use Rattle.std.specs.Prelude.{◌≡◌, ℕ, ◌^◌, ◌<◌, ◌≤◌, Bool, not, ◌&&◌, ◌||◌, ◌==◌, nat_le}
use Rattle.std.specs.Prelude.{List, [], ◌++◌, length, take}
use Rattle.std.specs.Prelude.{None, IsTrue, IsFalse, if◌then◌else◌}
use Rattle.fb_frame.specs.Causes.{Rose}
use Rattle.dev_disk.specs.Disks.{DiskTold}
use Rattle.dev_model.specs.Partitions.{is_fastboot}
use Rattle.dev_store.specs.Held.{Held, image_of, seen, DiskKept}
use Rattle.device_engine.specs.Running.{held_of, IsInOrder, HasDevice, HasMax}
use Rattle.wire_model.specs.Says.{Loaded}
use Rattle.wire_model.specs.Wire.{Wire, Phase, front}
use Rattle.wire_told.specs.Told.{GoesBy}
use Rattle.device_session.specs.declared.responder.Responder.{Responder}
use Rattle.device_session.specs.Inlets.{Inflow, is_shaking}

-- A session: its device, its connection, and the longest download that there is room for.
pub record Live (K : Type 0) : Type 0 where
  pub held : Held K
  pub loaded : Loaded
  pub phase : Phase
  pub rest : List ℕ
  pub taken : ℕ
  pub out : List ℕ
  pub closed : Bool
  pub room : ℕ

-- the session of a device that answers, of what came in, and of whether it is closed
abbrev pub live_of : {K : Type 0} → Responder K → Inflow → Bool → Live K
live_of responder inflow closed = record {
  held = held_of responder.device;
  loaded = inflow.loaded;
  phase = inflow.phase;
  rest = if closed then [] else inflow.rest;
  taken = inflow.taken;
  out = responder.outbox;
  closed = closed;
  room = inflow.room;
}

-- its wire state
abbrev pub wire_of : {K : Type 0} → Live K → Wire
wire_of live = record {
  device = live.held.device;
  loaded = live.loaded;
  phase = live.phase;
  rest = live.rest;
  taken = live.taken;
  out = live.out;
  closed = live.closed;
}

-- The session is at this wire state, as far as its disk tells the device.
pub record IsAt {K : Type 0} (told : K → DiskTold) (live : Live K) (w : Wire) : Type 0 where
  pub same : wire_of live ≡ record w { device = live.held.device }
  pub device : HasDevice told live.held (seen (image_of told live.held) w.device)

-- The session took these bytes and is at a state that follows from them. A disk call failed only where the
-- count of faults rose.
pub record Feeds {K : Type 0} (told : K → DiskTold) (old new : Live K) (bytes : List ℕ) : Type 0 where
  pub running : IsFalse old.closed
  pub state : Wire
  pub goes : GoesBy (Rose (told old.held.disk).faults (told new.held.disk).faults) (wire_of old) bytes state
  pub comes : IsAt told new state

-- Its device is in order. While it isn't closed, the device runs fastboot, there is room for its longest
-- download, and the connection may take more.
pub record IsAlive {K : Type 0} (told : K → DiskTold) (live : Live K) : Type 0 where
  pub in_order : IsInOrder told live.held
  pub runs : IsFalse live.closed → IsTrue (is_fastboot live.held.device.mode)
  pub fits : IsFalse live.closed → live.held.device.max ≤ live.room
  pub limit : IsFalse live.closed → live.taken < 2 ^ 62

-- What a session keeps: its device is in order and takes no longer downloads, its disk holds the same image,
-- and it has the same room.
pub record SessionKept {K L : Type 0} (told : K → DiskTold) (lent : K → L) (old new : Live K) : Type 0 where
  pub alive : IsAlive told new
  pub max : HasMax old.held.device.max new.held.device
  pub kept : DiskKept told lent old.held.disk new.held.disk
  pub room : new.room ≡ old.room

-- Nothing is taken now: the connection is closed, there is nothing to take, or something that was answered
-- after the handshake isn't given on yet.
abbrev pub is_full : Wire → List ℕ → Bool
is_full w piece = w.closed || (length piece == 0 || (not (is_shaking w.phase) && not (length w.out == 0)))

-- the connection is over after this: it closes, or it took all that it takes
abbrev pub is_over : Bool → ℕ → Bool
is_over closes taken = closes || nat_le (2 ^ 62) taken

-- only the last of the bytes completes a handshake or a frame
abbrev pub StopsAtItem : Wire → List ℕ → Type 0
StopsAtItem w bytes = (n : ℕ) → n < length bytes → front w.phase (w.rest ++ take n bytes) ≡ None
