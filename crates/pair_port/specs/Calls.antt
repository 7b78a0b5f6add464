-- What each call on the port does.
use Rattle.std.specs.Prelude.{◌≡◌, ◌⊎◌, ℕ, ◌≤◌, ◌==◌, not, ◌&&◌, ◌||◌, IsTrue, IsFalse, List, [], ◌++◌}
use Rattle.std.specs.Prelude.{length, drop, min}
use Rattle.fb_frame.specs.Causes.{Rose}
use Rattle.dev_disk.specs.Disks.{DiskTold, OpenKept}
use Rattle.dev_model.specs.declared.device.Dev.{Dev}
use Rattle.dev_model.specs.Partitions.{is_fastboot}
use Rattle.dev_model.specs.Validity.{IsValid}
use Rattle.dev_store.specs.Faults.{IsHonest}
use Rattle.dev_store.specs.Held.{Held}
use Rattle.dev_store.specs.Opening.{OpensImage, LeavesImage, OthersKept}
use Rattle.device_session.specs.Inlets.{is_shaking}
use Rattle.device_session.specs.Living.{Live, wire_of}
use Rattle.wire_model.specs.Wire.{Wire, fresh}
use Rattle.wire_told.specs.Told.{GoesBy}
use Rattle.pair_port.specs.Counters.{Counters, most, is_spent, passed, begun_once, ended_once}
use Rattle.pair_port.specs.Counters.{broken_once, refused_once}
use Rattle.pair_port.specs.Pairs.{End, Alone, Down, Up, Pair, disk_of, down, device_at, wire_at, TellsFiles}

-- The connection, if one was up, ended without a call of the disk, and the counters changed so.
abbrev pub ended : {K : Type 0} → (Counters → Counters) → Pair K → Pair K
ended count p = record { end = down p.end; left = p.left; counters = count p.counters }

-- The image of a path was opened, and its device is apart.
pub record OpensEnd {K : Type 0} (told : K → DiskTold) (old new : End K) (path : List ℕ) : Type 0 where
  pub held : Held K
  pub room : ℕ
  pub end_now : new ≡ Down held room
  pub opens : OpensImage (told (disk_of old)) (told held.disk) path held.device
  pub runs : IsTrue (is_fastboot held.device.mode)
  pub valid : IsValid held.device

-- No image was opened. That of the path stands for what it did, if what failed writes left is honest.
pub record MissesEnd {K : Type 0} (told : K → DiskTold) (old new : End K) (path : List ℕ) : Type 0 where
  pub disk : K
  pub end_now : new ≡ Alone disk
  pub leaves : IsHonest (told disk).torn → LeavesImage (told (disk_of old)) (told disk) path
  pub others : OthersKept (told (disk_of old)) (told disk) path

-- a device apart, and this holds of what is held of it
abbrev pub OfHeld : {K : Type 0} → (Held K → Type 0) → End K → Type 0
OfHeld P (Alone disk) = ⊥
OfHeld P (Down held room) = P held
OfHeld P (Up live) = ⊥

-- the device is in no mode in which a connection begins
abbrev pub IsUnready : {K : Type 0} → Held K → Type 0
IsUnready held = IsFalse (is_fastboot held.device.mode)

-- A session began with the device that was apart, which runs fastboot.
pub record BeginsEnd {K : Type 0} (old new : End K) : Type 0 where
  pub held : Held K
  pub room : ℕ
  pub live : Live K
  pub there : old ≡ Down held room
  pub end_now : new ≡ Up live
  pub same : live.held ≡ held
  pub same_room : live.room ≡ room
  pub state : wire_of live ≡ fresh held.device
  pub runs : IsTrue (is_fastboot held.device.mode)

-- A connection began, in place of the one that may have been up, and is the next one of those that may break.
pub record ConnectsPair {K : Type 0} (old new : Pair K) : Type 0 where
  pub begins : BeginsEnd (down old.end) new.end
  pub left : new.left ≡ old.left
  pub counters : new.counters ≡ begun_once old.counters

-- a fact of the device at the other end, which there is
abbrev pub OfDevice : {K : Type 0} → (Dev → Type 0) → End K → Dev → Type 0
OfDevice P (Alone disk) left = ⊥
OfDevice P (Down held room) left = P (device_at held left)
OfDevice P (Up live) left = P (device_at live.held left)

-- None began: the device is in no mode for it.
pub record RefusesPair {K : Type 0} (old new : Pair K) : Type 0 where
  pub unready : OfDevice (λ dev. IsFalse (is_fastboot dev.mode)) old.end old.left
  pub ends : new ≡ ended refused_once old

-- A session took the bytes: where the disk tells its files, the second wire state follows from the first by
-- them, and a disk call failed only where the count of faults rose.
pub record Takes {K : Type 0} (told : K → DiskTold) (old new : Live K) (from to : Wire)
    (bytes : List ℕ) : Type 0 where
  pub running : IsFalse old.closed
  pub kept : OpenKept (told old.held.disk) (told new.held.disk)
  pub goes : TellsFiles told new.held.disk →
      GoesBy (Rose (told old.held.disk).faults (told new.held.disk).faults) from bytes to

-- The session that is up took the bytes.
pub record FeedsPair {K : Type 0} (told : K → DiskTold) (old new : Pair K) (bytes : List ℕ) : Type 0 where
  pub before : Live K
  pub after : Live K
  pub up_before : old.end ≡ Up before
  pub up_now : new.end ≡ Up after
  pub takes : Takes told before after (wire_at before old.left) (wire_at after new.left) bytes

-- a session is up, and this holds of it
abbrev pub OfLive : {K : Type 0} → (Live K → Type 0) → End K → Type 0
OfLive P (Alone disk) = ⊥
OfLive P (Down held room) = ⊥
OfLive P (Up live) = P live

-- The session takes nothing now: it is closed, or something that was answered after the handshake isn't given
-- on yet.
abbrev pub IsStopped : {K : Type 0} → Live K → Type 0
IsStopped live = IsTrue (live.closed || (not (is_shaking live.phase) && not (length live.out == 0)))

-- It took bytes of a piece: as many as size, break and piece let through, unless it stops before.
pub record SendsPair {K : Type 0} (told : K → DiskTold) (old new : Pair K) (many : ℕ)
    (bytes : List ℕ) : Type 0 where
  pub feeds : FeedsPair told old new bytes
  pub within : length bytes ≤ most old.counters many
  pub all : (length bytes ≡ most old.counters many) ⊎ OfLive IsStopped new.end
  pub counters : new.counters ≡ passed (length bytes) old.counters

-- The session that is up gave its next bytes.
pub record GivesPair {K : Type 0} (old new : Pair K) (bytes : List ℕ) : Type 0 where
  pub live : Live K
  pub up_before : old.end ≡ Up live
  pub up_now : new.end ≡ Up (record live { out = drop (length bytes) live.out })
  pub next : live.out ≡ bytes ++ drop (length bytes) live.out
  pub left : new.left ≡ old.left

-- It gave as many as there are, and as size, break and buffer let through.
pub record HearsPair {K : Type 0} (old new : Pair K) (many : ℕ) (bytes : List ℕ) : Type 0 where
  pub gives : GivesPair old new bytes
  pub all : length bytes ≡ most old.counters (min (length gives.live.out) many)
  pub counters : new.counters ≡ passed (length bytes) old.counters

-- nothing is left to give, and the connection is closed
pub record IsAtEnd {K : Type 0} (live : Live K) : Type 0 where
  pub quiet : live.out ≡ []
  pub closed : IsTrue live.closed

-- nothing is left to give, and the connection isn't closed
pub record IsMute {K : Type 0} (live : Live K) : Type 0 where
  pub quiet : live.out ≡ []
  pub running : IsFalse live.closed

-- The end of the connection was met, and it is counted.
pub record MeetsEnd {K : Type 0} (old new : Pair K) : Type 0 where
  pub at_end : OfLive IsAtEnd old.end
  pub same : new ≡ record old { counters = ended_once old.counters }

-- The call met the break of the connection, which ended.
pub record BreaksPair {K : Type 0} (old new : Pair K) : Type 0 where
  pub spent : IsTrue (is_spent old.counters.remaining)
  pub ends : new ≡ ended broken_once old

-- The session wasn't in turn for the call, and the connection ended.
pub record GivesUp {K : Type 0} (Why : Live K → Type 0) (old new : Pair K) : Type 0 where
  pub why : OfLive Why old.end
  pub ends : new ≡ ended refused_once old
