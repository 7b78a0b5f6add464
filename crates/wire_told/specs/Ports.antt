-- What a port tells, as one value, and what each call on a port does to it.
use Rattle.std.specs.Prelude.{◌≡◌, ℕ, ◌<◌, ◌≤◌, List, [], ◌++◌, length, Option, Some, None, Bool, IsTrue, IsFalse}
use Rattle.fb_frame.specs.Causes.{Rose}
use Rattle.dev_model.specs.declared.device.Dev.{Dev}
use Rattle.wire_told.specs.Peers.{Peer, Apart, Joined, device_of}
use Rattle.wire_model.specs.Wire.{Wire, Command, fresh}
use Rattle.wire_told.specs.Places.{Place, Stands, Aims, IsLast, KeepsOthers, Appended, AppendedHead}
use Rattle.wire_told.specs.Places.{AppendedReply, Emptied}
use Rattle.wire_told.specs.Told.{Sent, LeftBy, Heard, HeardHead, HeardReply, HungUp, Connected, AtEnd}
use Rattle.wire_told.specs.Answered.{Sized, Stays}

-- the state of a connection that has just begun with a device, after both handshakes
abbrev pub greeted_wire : Dev → Wire
greeted_wire dev = record (fresh dev) { phase = Command; rest = []; taken = 4; out = [] }

-- a connection with the same device began, and this is all that happened in it
abbrev pub OpensAt : Option Peer → Option Peer → Type 0
OpensAt None None = Unit {0}
OpensAt None (Some b) = ⊥
OpensAt (Some a) None = ⊥
OpensAt (Some a) (Some (Apart dev)) = ⊥
OpensAt (Some a) (Some (Joined w)) = w ≡ greeted_wire (device_of a)

-- All that a port tells.
--   peer: the device, apart or in a connection; None where the port tells none
--   up: whether a connection is up
--   aimed: whether the last `aim` answered Ok
--   last: the last target, where the port tells it
--   stands: what a target stands for, where the port tells it of that target
--   heard: the bytes received in the last connection, where the port tells them
--   log: the bytes sent over all connections, joined, where the port tells them
--   faults, ends: how many calls failed, and how often the end of a connection was met
--   honest: what failed writes of the disk at the other end left so far reads as before, as written, or not
--     at all; of a port without a disk it always holds
pub record PortTold : Type 1 where
  pub peer : Option Peer
  pub up : Bool
  pub aimed : Bool
  pub last : Option Place
  pub stands : Stands
  pub heard : Option (List ℕ)
  pub log : Option (List ℕ)
  pub faults : ℕ
  pub ends : ℕ
  pub honest : Type 0

-- What all calls but `aim` keep: whether the port is aimed, its last target, and what the others stand for;
-- and the counts never fall, and what is honest after was honest before.
pub record Kept (old new : PortTold) : Type 0 where
  pub aimed_still : new.aimed ≡ old.aimed
  pub last_same : new.last ≡ old.last
  pub others : KeepsOthers old.last old.stands new.stands
  pub later : old.faults ≤ new.faults
  pub no_fewer : old.ends ≤ new.ends
  pub honest : new.honest → old.honest

-- some front of the bytes was appended to a told list
pub record AppendedFront (a b : Option (List ℕ)) (bytes : List ℕ) : Type 0 where
  pub part : List ℕ
  pub behind : List ℕ
  pub whole : bytes ≡ part ++ behind
  pub appended : Appended a b part

-- The bytes were sent, and nothing was heard.
pub record Sends (old new : PortTold) (bytes : List ℕ) : Type 0 where
  pub up : IsTrue new.up
  pub sent : Sent old.faults new.faults old.peer new.peer bytes
  pub kept : Kept old new
  pub heard : new.heard ≡ old.heard
  pub log : Appended old.log new.log bytes
  pub ends : new.ends ≡ old.ends

-- A call failed while the bytes were sent, of which a front may have gone; the connection is down.
pub record SendFails (old new : PortTold) (bytes : List ℕ) : Type 0 where
  pub down : IsFalse new.up
  pub left : LeftBy old.faults new.faults old.peer new.peer bytes
  pub kept : Kept old new
  pub heard : new.heard ≡ old.heard
  pub log : AppendedFront old.log new.log bytes
  pub ends : new.ends ≡ old.ends
  pub rose : Rose old.faults new.faults

-- The bytes were heard, and nothing was sent.
pub record Hears (old new : PortTold) (bytes : List ℕ) : Type 0 where
  pub up : IsTrue new.up
  pub got : Heard old.peer new.peer bytes
  pub kept : Kept old new
  pub heard : Appended old.heard new.heard bytes
  pub log : new.log ≡ old.log

-- The head of a reply of this length was heard, and the text of one is next; no end was met.
pub record HearsHead (old new : PortTold) (n : ℕ) : Type 0 where
  pub up : IsTrue new.up
  pub got : HeardHead old.peer new.peer n
  pub sized : Sized new.peer n
  pub kept : Kept old new
  pub heard : AppendedHead old.heard new.heard n
  pub log : new.log ≡ old.log
  pub unended : new.ends ≡ old.ends

-- A whole reply was heard, nothing was sent, and no end was met.
pub record HearsReply (old new : PortTold) (reply : List ℕ) : Type 0 where
  pub up : IsTrue new.up
  pub got : HeardReply old.peer new.peer reply
  pub kept : Kept old new
  pub heard : AppendedReply old.heard new.heard reply
  pub log : new.log ≡ old.log
  pub unended : new.ends ≡ old.ends

-- fewer bytes than this were appended to a told list
pub record AppendedPart (most : ℕ) (a b : Option (List ℕ)) : Type 0 where
  pub part : List ℕ
  pub short : length part < most
  pub bytes : Appended a b part

-- Fewer bytes than this were heard, nothing was sent, and the device is as it was.
pub record Misses (old new : PortTold) (most : ℕ) : Type 0 where
  pub stays : Stays old.peer new.peer
  pub kept : Kept old new
  pub part : AppendedPart most old.heard new.heard
  pub log : new.log ≡ old.log

-- The end of the connection was met, and it is counted.
pub record Ends (old new : PortTold) : Type 0 where
  pub at_end : AtEnd old.peer
  pub rose : Rose old.ends new.ends

-- The connection is down, the device as it was, and nothing was sent or heard.
pub record Drops (old new : PortTold) : Type 0 where
  pub down : IsFalse new.up
  pub left : HungUp old.peer new.peer
  pub kept : Kept old new
  pub heard : new.heard ≡ old.heard
  pub log : new.log ≡ old.log
  pub ends : new.ends ≡ old.ends

-- A connection began, of which nothing was heard yet.
pub record Begins (old new : PortTold) : Type 0 where
  pub up : IsTrue new.up
  pub connected : Connected old.peer new.peer
  pub kept : Kept old new
  pub emptied : Emptied old.heard new.heard
  pub log : new.log ≡ old.log
  pub ends : new.ends ≡ old.ends

-- No connection is up, nothing was sent or heard, and only a fault is counted; what is honest after was
-- honest before.
pub record Turns (old new : PortTold) : Type 0 where
  pub down : IsFalse new.up
  pub heard : new.heard ≡ old.heard
  pub log : new.log ≡ old.log
  pub later : old.faults ≤ new.faults
  pub ends : new.ends ≡ old.ends
  pub honest : new.honest → old.honest

-- The port is aimed at the place, and no other target but the last one stands for anything else than it did.
pub record IsAimed (old new : PortTold) (place : Place) : Type 0 where
  pub aimed : IsTrue new.aimed
  pub last : IsLast new.stands new.last place
  pub aims : Aims old.stands place new.peer
  pub others : KeepsOthers new.last old.stands new.stands

-- The port is aimed at nothing and tells no device. All targets stand for what they did, where what failed
-- writes left is honest; and else no other than this one stands for anything else.
pub record IsAstray (old new : PortTold) (place : Place) : Type 0 where
  pub astray : IsFalse new.aimed
  pub untold : new.peer ≡ None
  pub stands : new.honest → new.stands ≡ old.stands
  pub others : KeepsOthers (Some place) old.stands new.stands
