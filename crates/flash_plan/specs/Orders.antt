-- The plan of an installation (fastboot flashall): a block of steps for each task, as a function of all
-- tasks.
use Rattle.std.specs.Prelude.{ℕ, Bool, true, false, List, [], ◌∷◌, ◌++◌, length, ◌==◌, map, filter, flat_map}
use Rattle.std.specs.Prelude.{◌&&◌, ◌||◌, not, Option, Some, None, option_to_list, Result, Ok, Err}
use Rattle.std.specs.Prelude.{if◌then◌else◌}
use Rattle.std.specs.Option.{option_or}
use Rattle.std.specs.List.{list_any}
use Rattle.fb_frame.specs.declared.slot.Slot.{Slot}
use Rattle.fb_message.specs.declared.command.BootTarget.TheVariants as target
use Rattle.dev_model.specs.Images.{round_up}
use Rattle.dev_model.specs.Variables.{first_ones}
use Rattle.flash_plan.specs.declared.options.Options.{Options}
use Rattle.flash_plan.specs.declared.plan.Order.{Order}
use Rattle.flash_plan.specs.declared.plan.Order.TheVariants.{Active, Resize, Put, Wipe, Table, Boot}
use Rattle.flash_plan.specs.declared.plan.PlanKind.TheVariants as why
use Rattle.flash_plan.specs.Facts.{Facts}
use Rattle.flash_plan.specs.Targets.{slot_of, is_slotless}
use Rattle.flash_plan.specs.declared.plan_move.Move.{Move}
use Rattle.flash_plan.specs.declared.plan_move.Move.TheVariants.{Flashes, Erases, Updates, Boots}
use Rattle.flash_plan.specs.Moves.{Work, PlanFault, is_logical_move}
use Rattle.flash_plan.specs.Moves.{is_flash, leaves, moves_from}

-- the logical partition that is flashed
abbrev pub logical_target : Move → List (List ℕ)
logical_target (Flashes name true size) = name ∷ []
logical_target _ = []

-- a logical partition is flashed
abbrev pub is_logical_flash : Move → Bool
is_logical_flash move = not (length (logical_target move) == 0)

-- the logical partitions that are flashed, each once, in the order of their first flash
abbrev pub logical_targets : List Move → List (List ℕ)
logical_targets moves = first_ones (flat_map logical_target moves)

-- a reboot, or about a logical partition
abbrev pub is_turn : Move → Bool
is_turn (Boots what) = true
is_turn (Flashes name logical size) = logical
is_turn (Erases name logical) = logical
is_turn (Updates name) = true

-- userspace runs after the task: a reboot to it, or about a logical partition
abbrev pub is_up : Option Move → Bool
is_up None = false
is_up (Some (Boots target.Fastboot)) = true
is_up (Some (Boots target.System)) = false
is_up (Some (Boots target.Bootloader)) = false
is_up (Some (Boots target.Recovery)) = false
is_up (Some (Flashes name logical size)) = logical
is_up (Some (Erases name logical)) = logical
is_up (Some (Updates name)) = true

-- the last that passes
abbrev pub last_that : (Move → Bool) → List Move → Option Move
last_that test [] = None
last_that test (move ∷ moves) = option_or (last_that test moves) (if test move then Some move else None)

-- userspace runs after these tasks: after the last that is a reboot or logical
abbrev pub runs_userspace : List Move → Bool
runs_userspace moves = is_up (last_that is_turn moves)

-- the reboot to userspace before a logical task, where userspace doesn't run
abbrev pub rises : List Move → Move → List Order
rises before move =
    if is_logical_move move && not (runs_userspace before) then Boot target.Fastboot ∷ [] else []

-- before the first flash of a logical partition, each that any task flashes is emptied
abbrev pub empties : List Move → Move → List Move → List Order
empties before move later =
    if is_logical_flash move && not (list_any is_logical_flash before)
    then map (λ name. Resize name 0) (logical_targets (before ++ move ∷ later))
    else []

-- a logical partition is made as long as its image
abbrev pub fits : Move → List Order
fits (Flashes name true size) = Resize name (round_up size) ∷ []
fits _ = []

-- the task's own step
abbrev pub own : Bool → List Move → Move → Order
own wipe before (Flashes name logical size) = Put name (length (filter is_flash before))
own wipe before (Erases name logical) = Wipe name
own wipe before (Updates name) = Table name wipe
own wipe before (Boots what) = Boot what

-- the block of a task between those before it and the later ones
abbrev pub block : Bool → List Move → Move → List Move → List Order
block wipe before move later =
    rises before move ++ (empties before move later ++ (fits move ++ own wipe before move ∷ []))

-- the blocks of these tasks after those before them
abbrev pub blocks : Bool → List Move → List Move → List Order
blocks wipe before [] = []
blocks wipe before (move ∷ later) = block wipe before move later ++ blocks wipe (before ++ move ∷ []) later

-- the device leaves fastboot by the task, where there is one
abbrev pub is_left : Option Move → Bool
is_left None = false
is_left (Some (Boots what)) = leaves what
is_left (Some (Flashes name logical size)) = false
is_left (Some (Erases name logical)) = false
is_left (Some (Updates name)) = false

-- the device leaves fastboot by the last task
abbrev pub ends_left : List Move → Bool
ends_left moves = is_left (last_that (λ move. true) moves)

-- the slot, the blocks, and the reboot at the end
abbrev pub ordered : Options → Option Slot → List Move → List Order
ordered options slot moves =
    map Active (option_to_list slot)
    ++ (blocks options.wipe [] moves
    ++ (if options.skip_reboot || ends_left moves then [] else Boot target.System ∷ []))

-- the steps of tasks that are found
abbrev pub ordered_by : Options → Option Slot → Result (List Move) PlanFault → Result (List Order) PlanFault
ordered_by options slot (Err fault) = Err fault
ordered_by options slot (Ok moves) = Ok (ordered options slot moves)

-- The plan of a product's tasks, or the first line of which none is made. A slot that isn't there stands
-- before all lines.
unfoldable pub orders : Work → Options → Facts → Result (List Order) PlanFault
orders work options facts =
    if is_slotless options.slot facts.current then Err (0, why.NoSlot)
    else ordered_by options (slot_of options.slot facts.current)
    (moves_from work facts (slot_of options.slot facts.current) [] work.tasks)
