-- Told connections: what each call on a port does to the connection at its other end.
use Rattle.std.specs.Prelude.{◌≡◌, ◌≢◌, ◌⊎◌, ℕ, ◌+◌, ◌-◌, ◌*◌, ◌^◌, ◌<◌, ◌≤◌, List, [], ◌++◌, length, take, Option, Some, None, IsTrue, IsFalse, true, false, codes, ◌∷◌}
use Rattle.fb_frame.specs.Framing.{head, frame}
use Rattle.fb_frame.specs.Greeting.{handshake}
use Rattle.fb_message.specs.CommandText.{command_of}
use Rattle.fb_message.specs.declared.reply.Reply.{Reply}
use Rattle.dev_model.specs.declared.device.Dev.{Dev}
use Rattle.dev_model.specs.Partitions.{is_fastboot}
use Rattle.fb_frame.specs.Causes.{Rose}
use Rattle.wire_told.specs.Peers.{Peer, Apart, Joined, device_of, OfLink, OnLink, OffLink}
use Rattle.wire_model.specs.Wire.{Wire, Shake, Command, Data, fresh, paid, after}
use Rattle.wire_model.specs.Halts.{Faults, Halts}
use Rattle.wire_model.specs.Replies.{IsNoLoad}
use Rattle.wire_told.specs.Turns.{room, IsTurn}

-- What may follow from these bytes, where a disk call can fail only if `broke` holds.
unfoldable pub GoesBy : Type 0 → Wire → List ℕ → Wire → Type 0
GoesBy broke w bytes v = (v ≡ after w bytes) ⊎ (broke × Faults w bytes v)

-- the connection goes on by these bytes, and a disk call failed only where the count rose between these
-- numbers
abbrev pub Sent : ℕ → ℕ → Option Peer → Option Peer → List ℕ → Type 0
Sent before now a b bytes = OnLink (λ w v. GoesBy (Rose before now) w bytes v) a b

-- some front of the bytes leads to a state that has this device
pub record IsLeft (broke : Type 0) (bytes : List ℕ) (w : Wire) (dev : Dev) : Type 0 where
  pub count : ℕ
  pub within : count ≤ length bytes
  pub state : Wire
  pub goes : GoesBy broke w (take count bytes) state
  pub device : dev ≡ state.device

-- the connection ended in a failed send of these bytes
abbrev pub LeftBy : ℕ → ℕ → Option Peer → Option Peer → List ℕ → Type 0
LeftBy before now a b bytes = OffLink (IsLeft (Rose before now) bytes) a b

-- these bytes were the front of the output, and nothing else changed
abbrev pub Heard : Option Peer → Option Peer → List ℕ → Type 0
Heard a b bytes = OnLink (λ w v. w ≡ record v { out = bytes ++ v.out }) a b

-- the bytes are the head of this length
unfoldable pub IsHead : ℕ → List ℕ → Type 0
IsHead n bytes = bytes ≡ head n

-- the head of a reply of this length was the front of the output
unfoldable pub HeardHead : Option Peer → Option Peer → ℕ → Type 0
HeardHead a b n = Heard a b (head n)

-- a whole reply was the front of the output
unfoldable pub HeardReply : Option Peer → Option Peer → List ℕ → Type 0
HeardReply a b reply = Heard a b (frame reply)

-- no connection is up, and the device is as it was
abbrev pub HungUp : Option Peer → Option Peer → Type 0
HungUp None None = Unit {0}
HungUp None (Some b) = ⊥
HungUp (Some a) None = ⊥
HungUp (Some a) (Some (Joined w)) = ⊥
HungUp (Some a) (Some (Apart dev)) = dev ≡ device_of a

-- the connection ended, and the device is as it was
abbrev pub Lost : Option Peer → Option Peer → Type 0
Lost a b = OffLink (λ w dev. dev ≡ w.device) a b

-- a connection with this device can begin
abbrev pub MayConnect : Dev → Type 0
MayConnect dev = IsTrue (is_fastboot dev.mode)

-- a connection began
abbrev pub Connected : Option Peer → Option Peer → Type 0
Connected None None = Unit {0}
Connected None (Some b) = ⊥
Connected (Some a) None = ⊥
Connected (Some a) (Some (Apart dev)) = ⊥
Connected (Some a) (Some (Joined w)) = MayConnect (device_of a) × (w ≡ fresh (device_of a))

-- the device is told to be in no mode in which a connection begins
abbrev pub IsBarred : Option Peer → Type 0
IsBarred None = ⊥
IsBarred (Some a) = IsFalse (is_fastboot (device_of a).mode)

-- the condition of `send`
abbrev pub InTurn : Option Peer → List ℕ → Type 0
InTurn a piece = OfLink (IsTurn piece) a

-- the condition of `recv`: there is something to give, or the connection has closed
abbrev pub MayHear : Option Peer → Type 0
MayHear a = OfLink (λ w. (0 < length w.out) ⊎ IsTrue w.closed) a

-- nothing is left to give, and the connection has closed
abbrev pub AtEnd : Option Peer → Type 0
AtEnd a = OfLink (λ w. (w.out ≡ []) × IsTrue w.closed) a

-- What is still to come of the frame of a payload.
pub record OneFrame (payload : List ℕ) (bytes : List ℕ) (w : Wire) : Type 0 where
  pub running : w.closed ≡ false
  pub quiet : w.out ≡ []
  pub framed : w.phase ≢ Shake
  pub whole : w.rest ++ bytes ≡ frame payload
  pub due : 0 < length bytes
  pub some : 0 < length payload
  pub fits : length payload ≤ room w.phase
  pub small : length payload ≤ 65536
  pub bounded : w.taken + length bytes < 2 ^ 62

-- What is still to come of the handshake.
pub record OneShake (bytes : List ℕ) (w : Wire) : Type 0 where
  pub running : w.closed ≡ false
  pub shaking : w.phase ≡ Shake
  pub whole : w.rest ++ bytes ≡ handshake 1
  pub due : 0 < length bytes
  pub bounded : w.taken + length bytes < 2 ^ 62

-- What is still to come of some frame.
pub record SomeFrame (bytes : List ℕ) (w : Wire) : Type 0 where
  pub payload : List ℕ
  pub one : OneFrame payload bytes w

-- one frame or the handshake is still to come
abbrev pub OneWhole : List ℕ → Wire → Type 0
OneWhole bytes w = SomeFrame bytes w ⊎ OneShake bytes w

-- these bytes and some more are what is still to come
pub record IsFront (bytes : List ℕ) (w : Wire) : Type 0 where
  pub more : List ℕ
  pub one : OneWhole (bytes ++ more) w

-- the condition that a host keeps: it sends no more than what is still to come of one frame or handshake
abbrev pub MaySend : Option Peer → List ℕ → Type 0
MaySend a bytes = OfLink (IsFront bytes) a

-- A command is awaited, all that was answered was heard, and `spare` bytes may still come.
pub record IsIdle (spare : ℕ) (w : Wire) : Type 0 where
  pub running : w.closed ≡ false
  pub quiet : w.out ≡ []
  pub commanding : w.phase ≡ Command
  pub rest : w.rest ≡ []
  pub bounded : w.taken + spare < 2 ^ 62

abbrev pub Idle : ℕ → Option Peer → Type 0
Idle spare a = OfLink (IsIdle spare) a

-- a connection has just begun
abbrev pub Begun : Option Peer → Type 0
Begun a = OfLink (λ w. w ≡ fresh w.device) a

-- the handshakes were exchanged and heard: commands are awaited
abbrev pub Greeted : Option Peer → Option Peer → Type 0
Greeted a b = OnLink (λ w v. v ≡ record w { phase = Command; rest = []; taken = w.taken + 4; out = [] }) a b

-- a connection with the same device began, and commands are awaited, of which `spare` bytes may come
abbrev pub Opened : ℕ → Option Peer → Option Peer → Type 0
Opened spare None None = Unit {0}
Opened spare None (Some b) = ⊥
Opened spare (Some a) None = ⊥
Opened spare (Some a) (Some (Apart dev)) = ⊥
Opened spare (Some a) (Some (Joined w)) = (w.device ≡ device_of a) × IsIdle spare w

-- at least n bytes are left to hear
abbrev pub Gives : Option Peer → ℕ → Type 0
Gives a n = OfLink (λ w. n ≤ length w.out) a

-- the one reply of a command in which a disk call failed
abbrev pub disk_fault : List ℕ
disk_fault = codes "FAILdisk fault"

-- the first of these replies isn't DATA
abbrev pub StartsPlain : List Reply → Type 0
StartsPlain [] = Unit {0}
StartsPlain (reply ∷ replies) = IsNoLoad reply

-- the state that a command's payload leads to from one that was idle
abbrev pub done : List ℕ → Wire → Wire
done payload w = record (paid Command payload w) { rest = []; taken = w.taken + length (frame payload) }

-- The data of a download is awaited, of which `count` bytes are announced and these came; and `spare` bytes
-- may still come after it.
pub record IsReceiving (spare count : ℕ) (got : List ℕ) (w : Wire) : Type 0 where
  pub running : w.closed ≡ false
  pub quiet : w.out ≡ []
  pub receiving : w.phase ≡ Data count got
  pub rest : w.rest ≡ []
  pub bounded : w.taken + 9 * (count - length got) + spare < 2 ^ 62

-- more of the data was taken, and the device is as it was
pub record IsFilled (spare count : ℕ) (got : List ℕ) (w v : Wire) : Type 0 where
  pub device : v.device ≡ w.device
  pub receiving : IsReceiving spare count got v

-- all of the data was taken: it is loaded, the device is as it was, and OKAY is left to hear
pub record IsLoaded (spare : ℕ) (got : List ℕ) (w v : Wire) : Type 0 where
  pub device : v.device ≡ w.device
  pub loaded : v.loaded ≡ Some got
  pub out : v.out ≡ frame (codes "OKAY")
  pub commanding : v.phase ≡ Command
  pub rest : v.rest ≡ []
  pub running : v.closed ≡ false
  pub bounded : v.taken + spare < 2 ^ 62

-- the closed connection to this device, in which the command was the last
abbrev pub failed_in : List ℕ → Dev → Wire → Wire
failed_in payload dev w =
    record w { device = dev; rest = []; taken = w.taken + length (frame payload); closed = true }

-- A disk call failed while the command was run: the device halted, and this was heard.
pub record IsFailed (payload answer : List ℕ) (w u : Wire) : Type 0 where
  pub told : answer ≡ disk_fault
  pub halts : Halts w.device w.loaded (command_of payload) u.device
  pub state : u ≡ failed_in payload u.device w
