-- The other end of a port, by the code's type, and what holds of it between two calls.
use Rattle.std.specs.Prelude.{◌≤◌, ℕ, IsTrue, IsFalse, is_some}
use Rattle.dev_disk.specs.Disks.{DiskTold}
use Rattle.dev_model.specs.declared.device.Dev.{Dev}
use Rattle.dev_model.specs.Partitions.{is_fastboot}
use Rattle.dev_store.specs.Held.{Held, image_of}
use Rattle.device_engine.specs.Running.{held_of, IsTyped, IsInOrder, HasDevice}
use Rattle.device_session.specs.Living.{Live}
use Rattle.pair_port.specs.Pairs.{End, Alone, Down, Up, device_at, TellsFiles}
use Rattle.pair_port.specs.declared.other.Other.{Other}
use Rattle.pair_port.specs.declared.other.Other.TheVariants as other

abbrev pub end_of : {K : Type 0} → Other K → End K
end_of (other.Alone disk) = Alone disk
end_of (other.Down device room) = Down (held_of device) room
end_of (other.Up session) = Up session

-- the mode of a device apart is that of its variant
abbrev pub IsTypedEnd : {K : Type 0} → Other K → Type 0
IsTypedEnd (other.Alone disk) = Unit {0}
IsTypedEnd (other.Down device room) = IsTyped device
IsTypedEnd (other.Up session) = Unit {0}

-- The device is in order, and the image stands for the one that is told; there is room for its longest
-- download. A disk that tells its files tells the image.
pub record IsReady {K : Type 0} (told : K → DiskTold) (held : Held K) (room : ℕ) (left : Dev) : Type 0 where
  pub in_order : IsInOrder told held
  pub has : HasDevice told held (device_at held left)
  pub fits : IsTrue (is_fastboot held.device.mode) → held.device.max ≤ room
  pub image : TellsFiles told held.disk → IsTrue (is_some (image_of told held))

-- a session that isn't closed runs fastboot
abbrev pub Runs : {K : Type 0} → Live K → Type 0
Runs live = IsFalse live.closed → IsTrue (is_fastboot live.held.device.mode)

abbrev pub IsReadyEnd : {K : Type 0} → (K → DiskTold) → End K → Dev → Type 0
IsReadyEnd told (Alone disk) left = Unit {0}
IsReadyEnd told (Down held room) left = IsReady told held room left
IsReadyEnd told (Up live) left = IsReady told live.held live.room left × Runs live
