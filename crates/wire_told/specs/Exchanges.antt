-- One whole exchange over a told connection: a command, and what came of it.
use Rattle.std.specs.Prelude.{◌≡◌, ◌⊎◌, ℕ, ◌+◌, ◌^◌, ◌≤◌, false, List, [], ◌∷◌, ◌++◌, length, Option, Some}
use Rattle.std.specs.Prelude.{None, codes}
use Rattle.fb_frame.specs.Causes.{Rose}
use Rattle.fb_frame.specs.Framing.{frame}
use Rattle.fb_message.specs.declared.reply.Reply.{Reply}
use Rattle.fb_message.specs.declared.reply.Reply.TheVariants.{Fail}
use Rattle.fb_message.specs.CommandText.{CommandValue, spelling}
use Rattle.dev_model.specs.declared.device.Dev.{Dev}
use Rattle.wire_told.specs.Peers.{Peer, OfLink, OnLink, OffLink}
use Rattle.wire_model.specs.Says.{Said, says}
use Rattle.wire_model.specs.Wire.{Wire}
use Rattle.wire_model.specs.Halts.{Halts}
use Rattle.wire_model.specs.Replies.{IsNoLoad}
use Rattle.wire_told.specs.Answered.{IsAnswered}
use Rattle.wire_told.specs.Ports.{PortTold}

-- A command was sent over a told connection and all of its replies heard; a disk call fails only where the
-- count rises.
abbrev pub Answered : PortTold → PortTold → List ℕ → List Reply → Type 0
Answered old new payload replies =
    OnLink (IsAnswered (Rose old.faults new.faults) payload replies) old.peer new.peer

-- what the device of a connection says to a command
abbrev pub said_to : CommandValue → Wire → Said
said_to command w = says w.device w.loaded command

-- the last of the replies is this one
pub record EndsIn (end : Reply) (replies : List Reply) : Type 0 where
  pub lines : List Reply
  pub all : replies ≡ lines ++ end ∷ []

-- The reply is the last that the device says to the command, and the connection is as the command leaves it:
-- its device, what is loaded unless data is awaited, whether it is closed, and how many bytes it took.
pub record IsCarriedOut (command : CommandValue) (end : Reply) (w u : Wire) : Type 0 where
  pub says_so : EndsIn end (said_to command w).replies
  pub device : u.device ≡ (said_to command w).device
  pub loaded : IsNoLoad end → u.loaded ≡ (said_to command w).loaded
  pub closed : u.closed ≡ (said_to command w).closed
  pub taken :
      (payload : List ℕ) → spelling command ≡ Some payload → u.taken ≡ w.taken + length (frame payload)

-- A disk call failed in the command: the reply tells it, and the device halted with at most the command's
-- change.
pub record IsHaltedIn (command : CommandValue) (end : Reply) (w u : Wire) : Type 0 where
  pub told : end ≡ Fail (codes "disk fault")
  pub halts : Halts w.device w.loaded command u.device

-- the command was answered by this reply; a disk call fails only where `broke` holds
abbrev pub IsExchanged : Type 0 → CommandValue → Reply → Wire → Wire → Type 0
IsExchanged broke command end w u = IsCarriedOut command end w u ⊎ (broke × IsHaltedIn command end w u)

-- The connection ended while the command was sent or answered: the device is as it was, or as the command
-- leaves it, or it halted in it.
abbrev pub IsInterrupted : Type 0 → CommandValue → Wire → Dev → Type 0
IsInterrupted broke command w dev =
    (dev ≡ w.device) ⊎ (dev ≡ (said_to command w).device) ⊎ (broke × Halts w.device w.loaded command dev)

-- what came of a command over a told connection: this reply, or with None that the connection ended
abbrev pub Exchanged : CommandValue → PortTold → PortTold → Option Reply → Type 0
Exchanged command old new (Some end) =
    OnLink (IsExchanged (Rose old.faults new.faults) command end) old.peer new.peer
Exchanged command old new None =
    OffLink (IsInterrupted (Rose old.faults new.faults) command) old.peer new.peer

-- The connection is open, and `spare` bytes may come until it has taken 2 ^ 61.
pub record IsFreeFor (spare : ℕ) (w : Wire) : Type 0 where
  pub running : w.closed ≡ false
  pub bounded : w.taken + spare ≤ 2 ^ 61

abbrev pub FreeFor : ℕ → Option Peer → Type 0
FreeFor spare a = OfLink (IsFreeFor spare) a
