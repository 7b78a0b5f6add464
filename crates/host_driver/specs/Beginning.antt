-- The connection with which an attempt begins.
use Rattle.std.specs.Prelude.{◌≡◌, ◌⊎◌, ◌-◌, ◌^◌, [], None, IsFalse}
use Rattle.fb_frame.specs.Causes.{Rose}
use Rattle.fb_frame.specs.Greeting.{handshake}
use Rattle.wire_told.specs.Answered.{Sound}
use Rattle.wire_told.specs.Ports.{PortTold, Kept}
use Rattle.wire_told.specs.Told.{IsBarred}
use Rattle.host_driver.specs.declared.drive.DriveError.{DriveError}
use Rattle.host_driver.specs.declared.drive.DriveError.TheVariants as stop
use Rattle.host_driver.specs.HeardLast.{HeardThen, HeardAt}
use Rattle.host_driver.specs.Jobs.{OfTold}
use Rattle.host_driver.specs.Stepping.{Serving}
use Rattle.host_driver.specs.Wires.{LogGrew}

-- A connection began: a told device is as it was and runs fastboot, and the handshakes alone were exchanged.
pub record IsBegun (old new : PortTold) : Type 0 where
  pub same : OfTold old.peer new.peer (λ s t. t ≡ s)
  pub serving : Serving (2 ^ 61 - 4) new.peer
  pub heard : HeardThen new.heard []
  pub log : LogGrew old.log new.log (λ bytes. bytes ≡ handshake 1)
  pub kept : Kept old new

-- Why none began: a call failed or the device is in no mode for one; ends and other handshakes are those of a
-- port that tells no device.
abbrev pub WhyUnbegun : PortTold → PortTold → DriveError → Type 0
WhyUnbegun old new stop.Link = Rose old.faults new.faults ⊎ IsBarred old.peer
WhyUnbegun old new stop.Ended = (old.peer ≡ None) × Rose old.ends new.ends
WhyUnbegun old new (stop.Peer kept) = old.peer ≡ None
WhyUnbegun old new _ = ⊥

-- No connection began, and a told device is as it was.
pub record IsUnbegun (old new : PortTold) (error : DriveError) : Type 0 where
  pub why : WhyUnbegun old new error
  pub still : OfTold old.peer new.peer (λ s t. t ≡ s)
  pub heard : HeardAt new error
  pub down : IsFalse new.up
  pub sound : Sound new.peer
  pub kept : Kept old new
