-- A port whose other end is a session in the same process, and what it tells.
use Rattle.std.specs.Prelude.{◌≡◌, ℕ, ◌+◌, ◌≤◌, Bool, true, false, IsTrue, IsFalse, List, is_some}
use Rattle.std.specs.Prelude.{Option, Some, None, option_map, Result, Ok, Err}
use Rattle.dev_disk.specs.Disks.{DiskTold}
use Rattle.dev_disk.specs.Files.{Files}
use Rattle.dev_model.specs.declared.bad_image.BadImage.{BadImage}
use Rattle.dev_model.specs.declared.device.Dev.{Dev}
use Rattle.dev_model.specs.declared.device.Mode.{Mode}
use Rattle.dev_model.specs.declared.device.Mode.TheVariants.{Halted}
use Rattle.dev_store.specs.Faults.{IsHonest}
use Rattle.dev_store.specs.Held.{Held}
use Rattle.dev_store.specs.Stand.{stand}
use Rattle.device_session.specs.Living.{Live, wire_of}
use Rattle.wire_model.specs.Wire.{Wire}
use Rattle.wire_told.specs.Peers.{Peer, Apart, Joined}
use Rattle.wire_told.specs.Places.{Place, ImageAt, TcpAt, Stand, Device, Bad, Nothing, Stands}
use Rattle.wire_told.specs.Ports.{PortTold}
use Rattle.pair_port.specs.Counters.{Counters}

-- The other end of the port: no device, a device apart with room for downloads, or a session that is up.
pub data End (K : Type 0) : Type 0 where
  Alone : K → End K
  Down : Held K → ℕ → End K
  Up : Live K → End K

-- A port over a disk: its other end, the device that a failed disk left there, and its counters.
pub record Pair (K : Type 0) : Type 0 where
  pub end : End K
  pub left : Dev
  pub counters : Counters

-- the disk
abbrev pub disk_of : {K : Type 0} → End K → K
disk_of (Alone disk) = disk
disk_of (Down held room) = held.disk
disk_of (Up live) = live.held.disk

-- the other end without a connection
abbrev pub down : {K : Type 0} → End K → End K
down (Alone disk) = Alone disk
down (Down held room) = Down held room
down (Up live) = Down live.held live.room

-- a connection is up, and there is a device
abbrev pub is_up : {K : Type 0} → End K → Bool
is_up (Alone disk) = false
is_up (Down held room) = false
is_up (Up live) = true

abbrev pub is_aimed : {K : Type 0} → End K → Bool
is_aimed (Alone disk) = false
is_aimed (Down held room) = true
is_aimed (Up live) = true

-- the device that is held, or the one that was left where it halted
abbrev pub device_in : Mode → Dev → Dev → Dev
device_in Halted held left = left
device_in _ held left = held

abbrev pub device_at : {K : Type 0} → Held K → Dev → Dev
device_at held left = device_in held.device.mode held.device left

-- the wire state of a session, with that device
abbrev pub wire_at : {K : Type 0} → Live K → Dev → Wire
wire_at live left = record (wire_of live) { device = device_at live.held left }

-- what there is at the other end
abbrev pub peer_of : {K : Type 0} → End K → Dev → Option Peer
peer_of (Alone disk) left = None
peer_of (Down held room) left = Some (Apart (device_at held left))
peer_of (Up live) left = Some (Joined (wire_at live left))

-- it is told only over a disk that tells its files
abbrev pub peer_by : {K : Type 0} → Option Files → End K → Dev → Option Peer
peer_by None end left = None
peer_by (Some files) end left = peer_of end left

-- what a file stands for that may be there
abbrev pub stand_by : Result Dev BadImage → Stand
stand_by (Ok dev) = Device dev
stand_by (Err bad) = Bad bad

abbrev pub stand_in : Option (List ℕ) → Stand
stand_in None = Nothing
stand_in (Some file) = stand_by (stand file)

-- What a place stands for: a path what its file does, where the files are told, and an address nothing.
abbrev pub stands_in : Option Files → Stands
stands_in files (TcpAt host port) = Some Nothing
stands_in None (ImageAt path) = None
stands_in (Some files) (ImageAt path) = Some (stand_in (files path))

-- The faults of a port: its breaks and its disk's faults; and where no device is told, what was refused too.
abbrev pub faults_by : Option Files → Counters → ℕ → ℕ
faults_by None c faults = c.broken + faults + c.refused
faults_by (Some files) c faults = c.broken + faults

-- All that the port tells, over a disk that tells this.
abbrev pub told_by : {K : Type 0} → DiskTold → Pair K → PortTold
told_by disk p = record {
  peer = peer_by disk.files p.end p.left;
  up = is_up p.end;
  aimed = is_aimed p.end;
  last = option_map ImageAt disk.open_path;
  stands = stands_in disk.files;
  heard = None;
  log = None;
  faults = faults_by disk.files p.counters disk.faults;
  ends = p.counters.ended;
  honest = IsHonest disk.torn;
}

abbrev pub pair_told : {K : Type 0} → (K → DiskTold) → Pair K → PortTold
pair_told told p = told_by (told (disk_of p.end)) p

-- the disk tells its files
abbrev pub TellsFiles : {K : Type 0} → (K → DiskTold) → K → Type 0
TellsFiles told disk = IsTrue (is_some (told disk).files)
