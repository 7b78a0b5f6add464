-- The tasks of a product on a device: for which partition each is, or the first of which no plan is made.
use Rattle.std.specs.Prelude.{ℕ, Bool, true, false, List, [], ◌∷◌, ◌++◌, length, ◌==◌, filter, slice_index_or}
use Rattle.std.specs.Prelude.{is_none, ◌&&◌, not, Option, Some, None, Result, Ok, Err, if◌then◌else◌}
use Rattle.std.specs.List.{list_any}
use Rattle.fb_frame.specs.declared.slot.Slot.{Slot}
use Rattle.fb_message.specs.declared.command.BootTarget.{BootTarget}
use Rattle.fb_message.specs.declared.command.BootTarget.TheVariants as target
use Rattle.product_info.specs.declared.task.Action.{Action}
use Rattle.product_info.specs.declared.task.Action.TheVariants.{Flash, Reboot, UpdateSuper, Erase}
use Rattle.product_info.specs.declared.task.Task.{Task}
use Rattle.flash_plan.specs.declared.plan.PlanKind.{PlanKind}
use Rattle.flash_plan.specs.declared.plan_move.Move.{Move}
use Rattle.flash_plan.specs.declared.plan_move.Move.TheVariants.{Flashes, Erases, Updates, Boots}
use Rattle.flash_plan.specs.declared.plan.PlanKind.TheVariants as why
use Rattle.flash_plan.specs.Facts.{Facts}
use Rattle.flash_plan.specs.Targets.{candidates, target_in}

-- What a product brings to a plan: its tasks, how long the image of each flash task is, and the partitions
-- that its table lists, where a task updates super.
pub record Work : Type 0 where
  pub tasks : List Task
  pub sizes : List ℕ
  pub listed : List (List ℕ)

-- the line of a task, and why no plan is made of it
abbrev pub PlanFault : Type 0
PlanFault = ℕ × PlanKind

-- it is about a logical partition
abbrev pub is_logical_move : Move → Bool
is_logical_move (Flashes name logical size) = logical
is_logical_move (Erases name logical) = logical
is_logical_move (Updates name) = true
is_logical_move (Boots what) = false

-- it brings an image
abbrev pub is_flash : Move → Bool
is_flash (Flashes name logical size) = true
is_flash _ = false

-- the device leaves fastboot by it
abbrev pub leaves : BootTarget → Bool
leaves target.System = true
leaves target.Bootloader = false
leaves target.Fastboot = false
leaves target.Recovery = true

-- the task, where its partition is found
abbrev pub aimed : (List ℕ → Bool → Move) → Option (List ℕ × Bool) → Result Move PlanKind
aimed make None = Err why.NoPartition
aimed make (Some aim) = Ok (make aim.0 aim.1)

-- the update of this super, which stands before all else that is logical
abbrev pub updating : List Move → Option (List ℕ) → Result Move PlanKind
updating before None = Err why.NoSuper
updating before (Some name) =
    if list_any is_logical_move before then Err why.UpdateSuper else Ok (Updates name)

-- the reboot, by which the device leaves fastboot only at the end
abbrev pub booting : List Task → BootTarget → Result Move PlanKind
booting later what = if leaves what && not (length later == 0) then Err why.Reboot else Ok (Boots what)

-- how long the image of the next flash task is
abbrev pub next_size : Work → List Move → ℕ
next_size work before = slice_index_or work.sizes (length (filter is_flash before)) 0

-- The task between those before it and the later ones.
abbrev pub move_of : Work → Facts → Option Slot → List Move → List Task → Action → Result Move PlanKind
move_of work facts slot before later (Flash name file other) =
    if other && is_none slot then Err why.NoSlot
    else aimed (λ part logical. Flashes part logical (next_size work before))
    (target_in facts.kind work.listed (candidates slot other name))
move_of work facts slot before later (Erase name) =
    aimed Erases (target_in facts.kind work.listed (candidates slot false name))
move_of work facts slot before later UpdateSuper = updating before facts.super_name
move_of work facts slot before later (Reboot what) = booting later what

-- goes on, or stops at the line
abbrev pub at_line : {X Y : Type 0} → ℕ → Result X PlanKind → (X → Result Y PlanFault) → Result Y PlanFault
at_line line (Err kind) onward = Err (line, kind)
at_line line (Ok x) onward = onward x

-- these tasks after those before them, or the first line of which no plan is made
abbrev pub moves_from : Work → Facts → Option Slot → List Move → List Task → Result (List Move) PlanFault
moves_from work facts slot before [] = Ok before
moves_from work facts slot before (task ∷ later) =
    at_line task.line (move_of work facts slot before later task.action)
    (λ move. moves_from work facts slot (before ++ move ∷ []) later)
