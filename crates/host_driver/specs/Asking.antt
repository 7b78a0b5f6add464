-- A question to a device: what its answer tells, and what is left where an attempt breaks off in it.
use Rattle.std.specs.Prelude.{◌≡◌, ℕ, ◌+◌, ◌<◌, List, [], ◌++◌, length, map, take, slice_get, codes}
use Rattle.std.specs.Prelude.{Option, Some, None, Result, Ok, Err, IsFalse}
use Rattle.fb_frame.specs.Framing.{frame}
use Rattle.fb_frame.specs.Sinks.{Grew}
use Rattle.fb_message.specs.declared.reply.Reply.{Reply}
use Rattle.fb_message.specs.declared.reply.Reply.TheVariants.{Okay, Fail}
use Rattle.fb_message.specs.CommandText.{GetVar}
use Rattle.fb_message.specs.ReplyText.{reply_bytes}
use Rattle.dev_model.specs.declared.device.Dev.{Dev}
use Rattle.dev_model.specs.Variables.{asked}
use Rattle.wire_told.specs.Answered.{Sound}
use Rattle.wire_told.specs.Ports.{Kept}
use Rattle.fb_link.specs.Lines.{shown_line}
use Rattle.fb_link.specs.Seen.{Seen}
use Rattle.host_driver.specs.declared.drive.DriveError.{DriveError}
use Rattle.host_driver.specs.declared.drive.DriveError.TheVariants as stop
use Rattle.host_driver.specs.Driving.{Grows}
use Rattle.host_driver.specs.HeardLast.{HeardThen, HeardAt}
use Rattle.host_driver.specs.Jobs.{OfTold}
use Rattle.host_driver.specs.Printing.{infos_to, joined}
use Rattle.host_driver.specs.Stepping.{Serving, WhyStopped, NoFiles}
use Rattle.host_driver.specs.Wires.{LogGrew, command_wire}

-- The text of a variable, or that of the refusal to tell one.
abbrev pub Told : Type 0
Told = Result (List ℕ) (List ℕ)

-- the reply that tells it
abbrev pub told_reply : Told → Reply
told_reply (Ok text) = Okay text
told_reply (Err refusal) = Fail refusal

-- the device has the variable with this text, or has none of the name
abbrev pub Tells : List ℕ → Told → Dev → Type 0
Tells name (Ok text) dev = asked dev name ≡ Some text
Tells name (Err refusal) dev = (asked dev name ≡ None) × (refusal ≡ codes "unknown variable")

-- the lines that are shown of a device's answer to a question
abbrev pub lines_to : Dev → List ℕ → List (List ℕ)
lines_to dev name = map shown_line (infos_to dev name)

-- The question was answered: a told device is as it was, and has this text; all lines of its answer were
-- shown.
pub record IsAsked (name : List ℕ) (answer : Told) (old new : Seen) : Type 0 where
  pub told : OfTold old.port.peer new.port.peer (λ s t. (t ≡ s) × Tells name answer s)
  pub serving : (spare : ℕ) → Serving (4104 + spare) old.port.peer → Serving spare new.port.peer
  pub shown : OfTold old.port.peer new.port.peer (λ s t.
      Grew old.text new.text (joined (lines_to s name)))
  pub grows : Grows old.text new.text
  pub heard : HeardThen old.port.heard [] → HeardThen new.port.heard []
  pub last : HeardThen old.port.heard []
      → HeardThen new.port.heard (frame (reply_bytes (told_reply answer)))
  pub log : LogGrew old.port.log new.port.log (λ bytes. bytes ≡ command_wire (GetVar name))
  pub kept : Kept old.port new.port

-- so many of the lines were shown
pub record ShowsSome (lines : List (List ℕ)) (before now : Option (List ℕ)) : Type 0 where
  pub count : ℕ
  pub grew : Grew before now (joined (take count lines))

-- A told text grew by so many of the lines, and by a front of the next one that lacks at least one byte.
pub record IsCutIn (lines : List (List ℕ)) (before now : Option (List ℕ)) : Type 0 where
  pub count : ℕ
  pub line : List ℕ
  pub next : slice_get lines count ≡ Some line
  pub n : ℕ
  pub short : n < length line
  pub grew : Grew before now (joined (take count lines) ++ take n line)

-- what was shown of lines where an attempt broke off with this error: amid a line only where the output
-- failed
abbrev pub ShowsBy : List (List ℕ) → DriveError → Option (List ℕ) → Option (List ℕ) → Type 0
ShowsBy lines stop.Output before now = IsCutIn lines before now
ShowsBy lines _ before now = ShowsSome lines before now

-- no device refuses a question
abbrev pub IsUnrefused : DriveError → Type 0
IsUnrefused (stop.Refused text) = ⊥
IsUnrefused _ = Unit {0}

-- The attempt broke off in a question with this error, and the connection is down. A told device is as it
-- was.
pub record IsUnasked (name : List ℕ) (old new : Seen) (error : DriveError) : Type 0 where
  pub why : WhyStopped NoFiles old.port new.port error
  pub unrefused : IsUnrefused error
  pub still : OfTold old.port.peer new.port.peer (λ s t. t ≡ s)
  pub shown : OfTold old.port.peer new.port.peer (λ s t.
      ShowsBy (lines_to s name) error old.text new.text)
  pub grows : Grows old.text new.text
  pub heard : HeardThen old.port.heard [] → HeardAt new.port error
  pub down : IsFalse new.port.up
  pub sound : Sound new.port.peer
  pub kept : Kept old.port new.port
