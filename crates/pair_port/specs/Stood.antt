-- What the image at the other end of a port stands for.
use Rattle.std.specs.Prelude.{◌≡◌, ◌≢◌, Option, Some, None}
use Rattle.dev_model.specs.declared.device.Dev.{Dev}
use Rattle.dev_model.specs.declared.device.Mode.TheVariants.{Halted}
use Rattle.dev_model.specs.Partitions.{with_mode}
use Rattle.dev_store.specs.Stand.{Starts}
use Rattle.wire_told.specs.Peers.{Peer, device_of}
use Rattle.wire_told.specs.Places.{Place, Stand, Device, Stands}
use Rattle.wire_told.specs.Ports.{PortTold}

-- what stands at a place, where there is one and it is told
abbrev pub stand_at : Stands → Option Place → Option Stand
stand_at stands None = None
stand_at stands (Some place) = stands place

-- What stands here is the device, but for the mode: it is the mode in which the device starts, unless that
-- one halted.
pub record IsStand (stand : Stand) (dev : Dev) : Type 0 where
  pub found : Dev
  pub is : stand ≡ Device found
  pub same : dev ≡ with_mode dev.mode found
  pub starts : Starts found.mode dev.mode

abbrev pub StandsBy : Option Stand → Option Peer → Type 0
StandsBy stand None = Unit {0}
StandsBy None (Some peer) = ⊥
StandsBy (Some stand) (Some peer) = IsStand stand (device_of peer)

-- the last target stands for the device that the port tells, but for the mode
abbrev pub HoldsDevice : PortTold → Type 0
HoldsDevice t = StandsBy (stand_at t.stands t.last) t.peer

-- the port tells no device that halted
abbrev pub IsUnhalted : Option Peer → Type 0
IsUnhalted None = Unit {0}
IsUnhalted (Some peer) = (device_of peer).mode ≢ Halted
