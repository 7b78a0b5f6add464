-- What an installation never comes to: each is a walk of a wrong body, and the definition that excludes it.
use Rattle.std.specs.Prelude.{◌≡◌, ℕ, ◌≤◌, true, false, List, [], ◌∷◌, ◌++◌, length, Option, Some, None, Err, IsTrue}
use Rattle.std.specs.Prelude.{IsFalse}
use Rattle.std.specs.List.{list_any}
use Rattle.fb_frame.specs.declared.slot.Slot.TheVariants.{B}
use Rattle.fb_frame.specs.Framing.{frame}
use Rattle.fb_frame.specs.Greeting.{handshake}
use Rattle.fb_message.specs.declared.reply.Reply.{Reply}
use Rattle.fb_message.specs.declared.reply.Reply.TheVariants.{Load}
use Rattle.fb_message.specs.CommandText.{CommandValue, spelling}
use Rattle.fb_message.specs.ReplyText.{reply_bytes, reply_of}
use Rattle.dev_model.specs.declared.device.Dev.{Dev}
use Rattle.dev_model.specs.declared.step.Step.{Step}
use Rattle.dev_model.specs.Attempts.{is_halted}
use Rattle.dev_model.specs.Partitions.{is_fastboot}
use Rattle.dev_model.specs.Steps.{apply, leaves}
use Rattle.wire_told.specs.Answered.{is_line}
use Rattle.wire_told.specs.Ports.{PortTold}
use Rattle.flash_plan.specs.Examples.{falcon, with_slot_of, untasked}
use Rattle.flash_plan.specs.declared.options.SlotChoice.TheVariants.{Other}
use Rattle.flash_plan.specs.Rows.{folder}
use Rattle.host_driver.specs.declared.drive.Done.{Done}
use Rattle.host_driver.specs.declared.drive.DriveError.TheVariants.{Link, Refused}
use Rattle.host_driver.specs.Driven.{made, LeavesBy, Succeeds}
use Rattle.host_driver.specs.Driving.{Why, Caused, Moved, Tried, MayRetry, LinkFailed}
use Rattle.host_driver.specs.HeardLast.{LogEnds, IsUndueReply, IsUndueEnd}
use Rattle.host_driver.specs.Jobs.{Outside, Order, Job, last_in}
use Rattle.host_driver.specs.Jobs.{folder as folder_of}

-- an installation for the slot that isn't active, of a product without tasks
abbrev pub other_job : Job
other_job =
    record { files = folder [] []; product = untasked; options = with_slot_of Other; device = falcon }

-- a port that tells what was heard and sent, and no device
abbrev pub port_of : Option (List ℕ) → Option (List ℕ) → PortTold
port_of heard log = record {
  peer = None;
  up = false;
  aimed = true;
  last = None;
  stands = λ place. None;
  heard = heard;
  log = log;
  faults = 0;
  ends = 0;
  honest = Unit {0};
}

-- what is told before a call over such a port, or after it, with this count of faults
abbrev pub outside_of : ℕ → Outside
outside_of faults = record {
  port = record (port_of None None) { faults = faults };
  folder = folder_of None None true 0;
  text = None;
  unput = 0;
}

pub record Excluded : Type 0 where
  -- A line is told as a reply that isn't due.
  pub line_undue : (heard log : Option (List ℕ)) (kept : List ℕ) (line : Reply)
      → reply_of kept ≡ Some line → IsTrue (is_line line) → IsUndueReply (port_of heard log) kept → ⊥
  -- The DATA that begins a download is told as a reply that doesn't end it.
  pub data_undue : (log : Option (List ℕ)) (count : ℕ) → IsUndueEnd
      (port_of (Some (handshake 1 ++ frame (reply_bytes (Load count)))) log) (reply_bytes (Load count)) → ⊥
  -- A reply is told to be undue to a command that has no spelling.
  pub unsent : (log : Option (List ℕ)) (command : CommandValue) → spelling command ≡ None
      → LogEnds log command → ⊥
  -- The line of a retry is due where no attempt failed.
  pub retried_unfailed : (j : Job) (m : Moved) (t : Dev) (n : ℕ) → (LinkFailed m → ⊥)
      → IsTrue (is_fastboot j.device.mode) → 1 ≤ n → MayRetry j m t n → ⊥
  -- The line of a retry is due where none is left.
  pub retried_spent : (j : Job) (m : Moved) (t : Dev) (n : ℕ) → j.options.retries ≡ 0 → 1 ≤ n
      → MayRetry j m t n → ⊥
  -- All steps were taken, of which one leaves fastboot, and it is told that the link failed.
  pub success_as_link : (j : Job) (m : Moved) (numbers : List ℕ) (t : Dev) (plan : List Step)
      → made j ≡ Some plan → IsTrue (list_any leaves plan) → last_in numbers ≡ Some (length plan)
      → Caused j m numbers t (Err Link) → ⊥
  -- The link failed in the first attempt, and the retries that are left aren't used.
  pub gives_up_at_once : (order : Order) (before now : ℕ) → 1 ≤ order.options.retries
      → Why order (outside_of before) (outside_of now) 1 (Err Link) → ⊥
  -- A refused step is tried again.
  pub tries_a_refused_step : (m : Moved) (a b : ℕ) (text : List ℕ) (s t : Dev) → (LinkFailed m → ⊥)
      → Tried m (record { numbers = a ∷ b ∷ []; outcome = Err (Refused text) }) s t → ⊥
  -- The only step of a plan is counted as acknowledged, and it wasn't taken.
  pub counts_an_untaken_step : (step : Step) (s : Dev) → IsFalse (is_halted s.mode)
      → LeavesBy (Some (step ∷ [])) s (1 ∷ []) s → s ≡ apply step s
  -- The plan is made anew for a retry, so that the other slot of the left device is meant.
  pub asks_other_slot_anew : (numbers : List ℕ) (done : Done) (t : Dev) → Succeeds other_job numbers done t
      → t.active ≡ B
