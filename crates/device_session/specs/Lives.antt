-- The calls on a session, one after another.
use Rattle.std.specs.Prelude.{◌≡◌, ◌⊎◌, ℕ, ◌≤◌, List, [], ◌∷◌, ◌++◌, is_some, IsTrue, IsFalse}
use Rattle.fb_frame.specs.Causes.{Rose}
use Rattle.dev_disk.specs.Disks.{DiskTold}
use Rattle.dev_model.specs.declared.device.Dev.{Dev}
use Rattle.dev_model.specs.Partitions.{is_fastboot}
use Rattle.dev_store.specs.Held.{image_of, IsWhole}
use Rattle.device_engine.specs.Running.{StaysLocked}
use Rattle.wire_model.specs.Wire.{Wire, fresh}
use Rattle.wire_told.specs.Told.{GoesBy}
use Rattle.device_session.specs.Calls.{Call, Feed, Drain, fed, drained}
use Rattle.device_session.specs.Living.{Live, wire_of, IsAt, Feeds, SessionKept}

-- A call that took these bytes, at least one of them.
pub record TakesSome {K L : Type 0} (told : K → DiskTold) (lent : K → L) (old : Live K) (bytes : List ℕ)
    (new : Live K) : Type 0 where
  pub feeds : Feeds told old new bytes
  pub kept : SessionKept told lent old new
  pub locked : StaysLocked told old.held new.held

-- a call that took these bytes, or none and left the session as it was
abbrev pub Takes : {K L : Type 0} → (K → DiskTold) → (K → L) → Live K → List ℕ → Live K → Type 0
Takes told lent old bytes new = ((bytes ≡ []) × (new ≡ old)) ⊎ TakesSome told lent old bytes new

-- a call that took this front of the outbox away
abbrev pub Drains : {K : Type 0} → Live K → List ℕ → Live K → Type 0
Drains old bytes new = old ≡ record new { out = bytes ++ new.out }

-- The calls lead from the first session to the last.
abbrev pub Lives : {K L : Type 0} → (K → DiskTold) → (K → L) → Live K → List Call → Live K → Type 0
Lives told lent old [] new = new ≡ old
Lives told lent old (Feed bytes ∷ calls) new =
    (mid : Live _) × Takes told lent old bytes mid × Lives told lent mid calls new
Lives told lent old (Drain bytes ∷ calls) new =
    (mid : Live _) × Drains old bytes mid × Lives told lent mid calls new

-- a connection that begins with this device
pub record IsBegun {K : Type 0} (told : K → DiskTold) (live : Live K) (dev : Dev) : Type 0 where
  pub whole : IsWhole told live.held
  pub runs : IsTrue (is_fastboot dev.mode)
  pub state : wire_of live ≡ fresh dev

-- the disk tells the bytes of the image
abbrev pub IsTold : {K : Type 0} → (K → DiskTold) → Live K → Type 0
IsTold told live = IsTrue (is_some (image_of told live.held))

-- How far the calls on a session led: from the first state by these bytes to this state, with this drained
-- before.
pub record IsAlong {K : Type 0} (told : K → DiskTold) (faults : ℕ) (begin : Wire) (live : Live K) (w : Wire)
    (bytes out : List ℕ) : Type 0 where
  pub has : IsTold told live
  pub at : IsAt told live w
  pub runs : IsFalse live.closed → IsTrue (is_fastboot live.held.device.mode)
  pub later : faults ≤ (told live.held.disk).faults
  pub goes : GoesBy (Rose faults (told live.held.disk).faults) begin bytes (record w { out = out ++ w.out })

-- Over a disk that tells the image: however a session is fed and its outbox is drained, what was drained and
-- what stands in the outbox, its device, and whether it is closed are those of a state that follows from all
-- the bytes that were taken, where a disk call can have failed only if the count of faults rose.
abbrev pub OneSession : {K L : Type 0} → (K → DiskTold) → (K → L) → Type 0
OneSession told lent = (dev : Dev) (calls : List Call) (old new : Live _) → IsBegun told old dev →
    IsTold told old → Lives told lent old calls new →
    (v : Wire) × IsAt told new v × GoesBy (Rose (told old.held.disk).faults (told new.held.disk).faults)
    (fresh dev) (fed calls) (record v { out = drained calls ++ v.out })

-- A locked device keeps partitions, groups, slot, flags and lock, whatever its session takes, also where a disk
-- call fails.
abbrev pub LockedSession : {K L : Type 0} → (K → DiskTold) → (K → L) → Type 0
LockedSession told lent = (dev : Dev) (calls : List Call) (old new : Live _) → IsBegun told old dev →
    Lives told lent old calls new → StaysLocked told old.held new.held
