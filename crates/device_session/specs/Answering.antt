-- What a device makes of what came in.
use Rattle.std.specs.Prelude.{◌≡◌, ℕ, zero, suc, Bool, true, false, not, List, [], ◌++◌, Option, Some, None, if◌then◌else◌}
use Rattle.dev_disk.specs.Disks.{DiskTold}
use Rattle.fb_message.specs.CommandText.{command_of}
use Rattle.fb_message.specs.declared.reply.Reply.TheVariants.{Okay, Fail}
use Rattle.device_engine.specs.Replied.{Framed, reply_frame}
use Rattle.device_engine.specs.Running.{held_of, Order, Ran, answer}
use Rattle.wire_model.specs.Wire as wire
use Rattle.wire_model.specs.Wire.{too_long}
use Rattle.device_session.specs.declared.responder.Responder.{Responder}
use Rattle.device_session.specs.declared.inlet.Came.{Came}
use Rattle.device_session.specs.declared.inlet.Came.TheVariants as came
use Rattle.device_session.specs.Inlets.{Inflow, IsReceived}

-- the order that came last
abbrev pub order_in : Inflow → Order
order_in inflow = record { loaded = inflow.loaded; command = command_of inflow.command }

-- the frames of an answer, with OKAY after them where a download of no bytes is due
abbrev pub ended : Option ℕ → List ℕ → List ℕ
ended None frames = frames
ended (Some zero) frames = frames ++ reply_frame (Okay [])
ended (Some (suc count)) frames = frames

-- The device ran the order, and its answer is in the outbox: how many bytes of a download are due, and
-- whether the connection closes.
pub record RunsOrder {K : Type 0} (told : K → DiskTold) (old new : Responder K) (order : Order)
    (turn : Option ℕ × Bool) : Type 0 where
  pub replies : Framed
  pub ran : Ran told (held_of old.device) (held_of new.device) order (answer replies turn.0 turn.1)
  pub out : new.outbox ≡ ended turn.0 replies.frames

-- The data of a download of so many bytes is awaited, or loaded where they are none.
pub record AwaitsData (count : ℕ) (old new : Inflow) : Type 0 where
  pub whole : Bool
  pub received : IsReceived count [] (record old { loaded = None }) new whole
  pub taken : new.taken ≡ old.taken
  pub room : new.room ≡ old.room

-- what is due of a download is awaited
abbrev pub AwaitsDue : Option ℕ → Inflow → Inflow → Type 0
AwaitsDue None old new = new ≡ old
AwaitsDue (Some count) old new = AwaitsData count old new

-- The order that came was run, and what is due is awaited.
pub record Obeys {K : Type 0} (told : K → DiskTold) (old new : Responder K) (before after : Inflow)
    (closes : Bool) : Type 0 where
  pub due : Option ℕ
  pub ran : RunsOrder told old new (order_in before) (due, closes)
  pub awaits : AwaitsDue due before after

-- What is answered has room: nothing waits in the outbox when a command runs or a frame is answered.
abbrev pub IsReady : Came → Inflow → List ℕ → Type 0
IsReady came.More inflow out = Unit {0}
IsReady (came.Greeting good) inflow out = Unit {0}
IsReady came.TooLong inflow out = out ≡ []
IsReady came.Command inflow out = (out ≡ []) × (inflow.phase ≡ wire.Command) × (inflow.rest ≡ [])
IsReady (came.Data whole) inflow out = out ≡ []

-- A device that answers, and what came in.
pub record Side (K : Type 0) : Type 0 where
  pub responder : Responder K
  pub inflow : Inflow

abbrev pub side : {K : Type 0} → Responder K → Inflow → Side K
side responder inflow = record { responder = responder; inflow = inflow }

-- nothing changed but that this was said
abbrev pub Says : {K : Type 0} → List ℕ → Side K → Side K → Type 0
Says out old new = new ≡ side (record old.responder { outbox = old.responder.outbox ++ out }) old.inflow

-- what is made of what came in, and whether the connection closes
abbrev pub HearsBy : {K : Type 0} → (K → DiskTold) → Came → Side K → Side K → Bool → Type 0
HearsBy told came.More old new closes = (new ≡ old) × (closes ≡ false)
HearsBy told (came.Greeting good) old new closes = (new ≡ old) × (closes ≡ not good)
HearsBy told came.TooLong old new closes =
    Says (reply_frame (Fail (too_long old.inflow.phase))) old new × (closes ≡ true)
HearsBy told came.Command old new closes = Obeys told old.responder new.responder old.inflow new.inflow closes
HearsBy told (came.Data whole) old new closes =
    Says (if whole then reply_frame (Okay []) else []) old new × (closes ≡ false)
