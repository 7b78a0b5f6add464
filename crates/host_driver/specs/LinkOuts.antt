-- The data of a download as an out: what was put so far, what still fits, and what became of the port since.
use Rattle.std.specs.Prelude.{◌≡◌, ℕ, ◌+◌, ◌-◌, ◌*◌, ◌<◌, ◌≤◌, Bool, true, false, IsTrue, IsFalse}
use Rattle.std.specs.Prelude.{List, ◌++◌, length, drop, Option, Some, None, IfSome}
use Rattle.fb_frame.specs.Causes.{Rose}
use Rattle.wire_model.specs.Wire.{Wire}
use Rattle.wire_told.specs.Answered.{Downloading, Sound, got_of}
use Rattle.wire_told.specs.Peers.{Peer, Joined, OnLink}
use Rattle.wire_told.specs.Places.{Appended}
use Rattle.wire_told.specs.Ports.{PortTold, Kept}
use Rattle.wire_told.specs.Told.{HungUp}
use Rattle.host_driver.specs.Wires.{full_frames, data_wire}

-- A port amid a download or at its end: whether its connection is up, how many bytes are left to send, how
-- many lines were heard before, and the bytes that were put and aren't sent yet.
pub record Buffered (P : Type 0) : Type 0 where
  pub port : P
  pub up : Bool
  pub left : ℕ
  pub lines : ℕ
  pub buffer : List ℕ

-- The connection took these bytes of data, in frames that are these bytes: the device is as it was.
pub record IsTaken (bytes wire : List ℕ) (w v : Wire) : Type 0 where
  pub device : v.device ≡ w.device
  pub got : got_of v ≡ got_of w ++ bytes
  pub running : v.closed ≡ false
  pub taken : v.taken ≡ w.taken + length wire

-- These bytes of data were sent, in frames that are these bytes, and nothing was heard.
pub record IsSent (bytes wire : List ℕ) (old new : PortTold) : Type 0 where
  pub up : IsTrue new.up
  pub took : OnLink (IsTaken bytes wire) old.peer new.peer
  pub kept : Kept old new
  pub heard : new.heard ≡ old.heard
  pub log : Appended old.log new.log wire
  pub ends : new.ends ≡ old.ends

-- Some data was sent in frames of 65,536 bytes, and so much of the download is left.
pub record SendsFrames (old new : PortTold) (left : ℕ) : Type 0 where
  pub bytes : List ℕ
  pub frames : ℕ
  pub whole : length bytes ≡ 65536 * frames
  pub sent : IsSent bytes (full_frames frames bytes) old new
  pub sending : Downloading left new.peer

unfoldable pub IsSending : PortTold → PortTold → ℕ → Type 0
IsSending old new left = SendsFrames old new left

-- The connection was given up amid the data: nothing was heard, and the device is as it was.
pub record GivesUp (old new : PortTold) : Type 0 where
  pub down : IsFalse new.up
  pub left : HungUp old.peer new.peer
  pub sound : Sound new.peer
  pub kept : Kept old new
  pub heard : new.heard ≡ old.heard
  pub ends : new.ends ≡ old.ends

unfoldable pub HasGivenUp : PortTold → PortTold → Type 0
HasGivenUp old new = GivesUp old new

-- and a call failed
unfoldable pub HasFailed : PortTold → PortTold → Type 0
HasFailed old new = HasGivenUp old new × Rose old.faults new.faults

-- the data that came since, and then the bytes that aren't sent yet, where a connection is told
abbrev pub data_by : Option Peer → Option Peer → List ℕ → Option (List ℕ)
data_by (Some (Joined w)) (Some (Joined v)) buffer = Some (drop (length (got_of w)) (got_of v) ++ buffer)
data_by _ _ buffer = None

-- what was put so far, while the connection is up
abbrev pub put_by : Bool → Option Peer → Option Peer → List ℕ → Option (List ℕ)
put_by true old new buffer = data_by old new buffer
put_by false old new buffer = None

-- how many bytes still fit, while the connection is up
abbrev pub room_by : Bool → ℕ → ℕ → Option ℕ
room_by true left have = Some (left - have)
room_by false left have = None

-- The invariant of an out over a link, by the view at which its download began and by that of now.
pub record IsBuffered (P : Type 0) (old new : PortTold) (o : Buffered P) : Type 0 where
  pub sending : o.up ≡ true → IsSending old new o.left
  pub failed : o.up ≡ false → HasFailed old new
  pub few : o.lines < 10000
  pub small : length o.buffer ≤ 65536
  pub within : length o.buffer ≤ o.left

-- All that was announced was put, or the link failed before.
abbrev pub IsFull : {P : Type 0} → Buffered P → Type 0
IsFull o = IfSome (room_by o.up o.left (length o.buffer)) (λ n. n ≡ 0)

-- All the data was sent in frames of 65,536 bytes and a rest. It is what was put, where that is told.
pub record SendsData (put : Option (List ℕ)) (old new : PortTold) : Type 0 where
  pub bytes : List ℕ
  pub whole : IfSome put (λ all. bytes ≡ all)
  pub sent : IsSent bytes (data_wire bytes) old new
  pub sending : Downloading 0 new.peer

unfoldable pub SendsAll : Option (List ℕ) → PortTold → PortTold → Type 0
SendsAll put old new = SendsData put old new
