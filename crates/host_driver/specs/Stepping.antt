-- A step of a plan by its command, over a connection: what it comes to where it is acknowledged, and where
-- the attempt breaks off in it.
use Rattle.std.specs.Prelude.{◌≡◌, ◌⊎◌, ℕ, ◌+◌, List, [], ◌∷◌, Option, None, IsTrue, IsFalse}
use Rattle.std.specs.Prelude.{unwrap_or}
use Rattle.fb_frame.specs.Causes.{Rose}
use Rattle.fb_frame.specs.Framing.{head}
use Rattle.fb_frame.specs.Sinks.{Grew}
use Rattle.fb_message.specs.CommandText.{CommandValue, Unknown}
use Rattle.dev_model.specs.declared.device.Dev.{Dev}
use Rattle.dev_model.specs.declared.device.Mode.TheVariants.{Halted}
use Rattle.dev_model.specs.declared.step.Step.{Step}
use Rattle.dev_model.specs.Attempts.{LeftBehind}
use Rattle.dev_model.specs.Partitions.{is_fastboot}
use Rattle.dev_model.specs.Steps.{is_boot}
use Rattle.wire_model.specs.Wire.{Wire}
use Rattle.wire_told.specs.Answered.{Sound}
use Rattle.wire_told.specs.Exchanges.{IsFreeFor}
use Rattle.wire_told.specs.Peers.{Peer, OfLink}
use Rattle.wire_told.specs.Ports.{PortTold, Kept}
use Rattle.flash_plan.specs.declared.plan.Order.{Order}
use Rattle.fb_link.specs.Seen.{Seen}
use Rattle.fb_link.specs.declared.link_error.LinkError.{LinkError}
use Rattle.fb_link.specs.declared.link_error.LinkError.TheVariants as link
use Rattle.host_driver.specs.declared.drive.DriveError.{DriveError}
use Rattle.host_driver.specs.declared.drive.DriveError.TheVariants as stop
use Rattle.host_driver.specs.Commands.{IsCommandOf, TookStep, RefusedStep, command_for}
use Rattle.host_driver.specs.Driven.{IsHaltedNow}
use Rattle.host_driver.specs.Driving.{Grows}
use Rattle.host_driver.specs.HeardLast.{HeardThen, HeardAt}
use Rattle.host_driver.specs.Jobs.{OfTold}
use Rattle.host_driver.specs.Wires.{LogGrew, command_wire}

-- An open connection to a device that runs fastboot, over which so many bytes may come.
pub record IsServing (spare : ℕ) (w : Wire) : Type 0 where
  pub free : IsFreeFor spare w
  pub runs : IsTrue (is_fastboot w.device.mode)

abbrev pub Serving : ℕ → Option Peer → Type 0
Serving spare a = OfLink (IsServing spare) a

-- the command is the one by which a told device is to take the step
abbrev pub IsCommandAt : CommandValue → Step → Option Peer → Type 0
IsCommandAt command step a = OfLink (λ w. IsCommandOf command step w.device w.loaded) a

-- what a lost connection is to an installation
abbrev pub stop_of : LinkError → DriveError
stop_of link.Link = stop.Link
stop_of link.Ended = stop.Ended
stop_of (link.BadHandshake four) = stop.Peer four
stop_of (link.BadLength n) = stop.Peer (head n)
stop_of (link.BadReply reply) = stop.Peer reply
stop_of link.TooManyInfos = stop.TooManyInfos

-- The step was acknowledged: a told device took it, and nothing was shown. It took at most `cost` bytes of
-- the connection, and a told log grew by what it wires.
pub record IsStepped (cost : ℕ) (Wires : List ℕ → Type 0) (step : Step) (old new : Seen) : Type 0 where
  pub took : OfTold old.port.peer new.port.peer (TookStep step)
  pub serving : IsFalse (is_boot step) → (spare : ℕ) → Serving (cost + spare) old.port.peer
      → Serving spare new.port.peer
  pub quiet : OfTold old.port.peer new.port.peer (λ s t. Grew old.text new.text [])
  pub grows : Grows old.text new.text
  pub heard : HeardThen old.port.heard [] → HeardThen new.port.heard []
  pub log : LogGrew old.port.log new.port.log Wires
  pub kept : Kept old.port new.port

-- What is left of a device where an attempt broke off in a step: what an attempt at this step alone leaves.
-- It halts only where `broke` holds.
pub record IsBrokenIn (step : Step) (broke : Type 0) (s t : Dev) : Type 0 where
  pub left : LeftBehind (step ∷ []) s 0 t
  pub halted : t.mode ≡ Halted → broke

-- Why an attempt breaks off in a step; `Files` is why it does at a file. Ends and bad replies are those of a
-- port that tells no device.
abbrev pub WhyStopped : (List ℕ → Type 0) → PortTold → PortTold → DriveError → Type 0
WhyStopped Files old new stop.Memory = ⊥
WhyStopped Files old new (stop.Directory file) = Files file
WhyStopped Files old new stop.Output = Unit {0}
WhyStopped Files old new stop.Link = Rose old.faults new.faults
WhyStopped Files old new stop.Ended = (old.peer ≡ None) × Rose old.ends new.ends
WhyStopped Files old new (stop.Refused text) = Unit {0}
WhyStopped Files old new (stop.Peer kept) = old.peer ≡ None
WhyStopped Files old new stop.TooManyInfos = old.peer ≡ None
WhyStopped Files old new (stop.Requirement line name value) = ⊥
WhyStopped Files old new (stop.Plan line kind) = ⊥

-- A step was refused with this text: a told device refuses it, or halted in it.
abbrev pub IsStuck : Step → PortTold → PortTold → DriveError → Type 0
IsStuck step old new (stop.Refused text) = OfTold old.peer new.peer (λ s t.
    RefusedStep step text s t ⊎ IsHaltedNow old.faults new.faults text t)
IsStuck step old new _ = Unit {0}

-- of a told device nothing is shown in a step, so that no output fails
abbrev pub IsUnshown : DriveError → Option Peer → Type 0
IsUnshown stop.Output a = a ≡ None
IsUnshown _ a = Unit {0}

-- what no step changes: the most bytes of a download, and the name of super
pub record IsFixed (s t : Dev) : Type 0 where
  pub most : t.max ≡ s.max
  pub super_name : t.super_name ≡ s.super_name

-- The attempt broke off in a step with this error, and the connection is down. Of a told device nothing was
-- shown.
pub record IsStopped (Files : List ℕ → Type 0) (step : Step) (old new : Seen) (error : DriveError) :
    Type 0 where
  pub why : WhyStopped Files old.port new.port error
  pub left : OfTold old.port.peer new.port.peer (IsBrokenIn step (Rose old.port.faults new.port.faults))
  pub stuck : IsStuck step old.port new.port error
  pub unshown : IsUnshown error old.port.peer
  pub quiet : OfTold old.port.peer new.port.peer (λ s t. Grew old.text new.text [])
  pub grows : Grows old.text new.text
  pub heard : HeardThen old.port.heard [] → HeardAt new.port error
  pub down : IsFalse new.port.up
  pub sound : Sound new.port.peer
  pub kept : Kept old.port new.port

-- no file is read
abbrev pub NoFiles : List ℕ → Type 0
NoFiles file = ⊥

-- what an order sends that is one command
abbrev pub IsAlone : Order → List ℕ → Type 0
IsAlone order bytes = bytes ≡ command_wire (unwrap_or (command_for order) Unknown)
