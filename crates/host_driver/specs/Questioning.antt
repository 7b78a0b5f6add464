-- Questions to a device, one after another: what is learned of it, and what is left where an attempt breaks
-- off in them.
use Rattle.std.specs.Prelude.{◌≡◌, ℕ, ◌+◌, Bool, List, [], ◌∷◌, ◌++◌, map, flat_map, Option, Some, None}
use Rattle.std.specs.Prelude.{Ok, Err, IsTrue, IsFalse, if◌then◌else◌, codes}
use Rattle.fb_frame.specs.Causes.{Rose}
use Rattle.fb_frame.specs.Sinks.{Grew}
use Rattle.dev_model.specs.declared.device.Dev.{Dev}
use Rattle.dev_model.specs.Partitions.{has_slots}
use Rattle.wire_told.specs.Answered.{Sound}
use Rattle.wire_told.specs.Peers.{Peer, device_of}
use Rattle.wire_told.specs.Ports.{PortTold, Kept}
use Rattle.flash_plan.specs.Facts.{current_of}
use Rattle.fb_link.specs.Lines.{shown_line}
use Rattle.fb_link.specs.Seen.{Seen}
use Rattle.host_driver.specs.declared.drive.DriveError.{DriveError}
use Rattle.host_driver.specs.declared.drive.DriveError.TheVariants as stop
use Rattle.host_driver.specs.declared.questions.Traits.{Traits}
use Rattle.host_driver.specs.Asking.{Told, ShowsBy}
use Rattle.host_driver.specs.Driving.{Grows}
use Rattle.host_driver.specs.HeardLast.{HeardThen, HeardAt}
use Rattle.host_driver.specs.Jobs.{OfTold}
use Rattle.host_driver.specs.Printing.{infos_to, joined}
use Rattle.host_driver.specs.Stepping.{Serving}
use Rattle.host_driver.specs.Wires.{LogGrew, asked_wire}

-- a fact of a told device
abbrev pub OfDevice : (Dev → Type 0) → Option Peer → Type 0
OfDevice Fact None = Unit {0}
OfDevice Fact (Some a) = Fact (device_of a)

-- the lines that are shown as a device answers these questions
abbrev pub shown_to : Dev → List (List ℕ) → List (List ℕ)
shown_to dev names = map shown_line (flat_map (infos_to dev) names)

-- These questions, which a device's earlier answers may decide, were answered, and the fact is one of a told
-- device, which is as it was; all lines of its answers were shown. They took at most `cost` bytes of the
-- connection.
pub record IsLearned (cost : ℕ) (names : Dev → List (List ℕ)) (Fact : Dev → Type 0) (old new : Seen) :
    Type 0 where
  pub told : OfTold old.port.peer new.port.peer (λ s t. (t ≡ s) × Fact s)
  pub serving : (spare : ℕ) → Serving (cost + spare) old.port.peer → Serving spare new.port.peer
  pub shown : OfTold old.port.peer new.port.peer (λ s t.
      Grew old.text new.text (joined (shown_to s (names s))))
  pub grows : Grows old.text new.text
  pub heard : HeardThen old.port.heard [] → HeardThen new.port.heard []
  pub log : LogGrew old.port.log new.port.log (λ bytes. OfTold old.port.peer new.port.peer (λ s t.
      bytes ≡ asked_wire (names s)))
  pub kept : Kept old.port new.port

-- Why an attempt breaks off in questions, over any port: refusals, ends and bad replies are those of a port
-- that tells no device.
abbrev pub WhyUnlearned : PortTold → PortTold → DriveError → Type 0
WhyUnlearned old new stop.Memory = Unit {0}
WhyUnlearned old new (stop.Directory file) = ⊥
WhyUnlearned old new stop.Output = Unit {0}
WhyUnlearned old new stop.Link = Rose old.faults new.faults
WhyUnlearned old new stop.Ended = (old.peer ≡ None) × Rose old.ends new.ends
WhyUnlearned old new (stop.Refused text) = old.peer ≡ None
WhyUnlearned old new (stop.Peer kept) = old.peer ≡ None
WhyUnlearned old new stop.TooManyInfos = old.peer ≡ None
WhyUnlearned old new (stop.Requirement line name value) = ⊥
WhyUnlearned old new (stop.Plan line kind) = ⊥

-- The attempt broke off in these questions with this error, and the connection is down. A told device is as
-- it was.
pub record IsUnlearned (names : Dev → List (List ℕ)) (old new : Seen) (error : DriveError) : Type 0 where
  pub why : WhyUnlearned old.port new.port error
  pub still : OfTold old.port.peer new.port.peer (λ s t. t ≡ s)
  pub shown : OfTold old.port.peer new.port.peer (λ s t.
      ShowsBy (shown_to s (names s)) error old.text new.text)
  pub grows : Grows old.text new.text
  pub heard : HeardThen old.port.heard [] → HeardAt new.port error
  pub down : IsFalse new.port.up
  pub sound : Sound new.port.peer
  pub kept : Kept old.port new.port

-- what an attempt ends with, where nothing is read of an answer
abbrev pub unread_stop : Told → DriveError
unread_stop (Ok text) = stop.Peer text
unread_stop (Err refusal) = stop.Refused refusal

-- the questions for the active slot
abbrev pub slot_questions : Dev → List (List ℕ)
slot_questions dev = codes "slot-count" ∷ (if has_slots dev then codes "current-slot" ∷ [] else [])

-- the question for the name of super, where a task updates it
abbrev pub super_questions : Bool → Dev → List (List ℕ)
super_questions updates dev = if updates then codes "super-partition-name" ∷ [] else []

-- the questions for what every plan rests on
abbrev pub trait_questions : Bool → Dev → List (List ℕ)
trait_questions updates dev =
    slot_questions dev ++ (codes "max-download-size" ∷ super_questions updates dev)

-- what every plan rests on of a device
pub record AreTraits (updates : Bool) (traits : Traits) (dev : Dev) : Type 0 where
  pub current : traits.current ≡ current_of dev
  pub most : traits.max ≡ dev.max
  pub super_name : IsTrue updates → traits.super_name ≡ dev.super_name

-- these lists begin so
pub record IsFront {X : Type 0} (front all : List X) : Type 0 where
  pub more : List X
  pub whole : all ≡ front ++ more
