-- What a planner carries from task to task, and over what it decides them.
use Rattle.std.specs.Prelude.{ℕ, ◌≤◌, ◌^◌, Bool, List, ◌++◌, map, filter, length, Option, option_to_list}
use Rattle.std.specs.List.{list_any}
use Rattle.flash_plan.specs.declared.plan_move.Move.{Move}
use Rattle.flash_plan.specs.declared.plan_move.Move.TheVariants.{Flashes, Erases, Updates, Boots}
use Rattle.flash_plan.specs.declared.plan_move.Past.{Past}
use Rattle.flash_plan.specs.declared.plan_moves.Setting.{Setting}
use Rattle.flash_plan.specs.declared.plan_targets.Candidates.{Candidates}
use Rattle.flash_plan.specs.Facts.{kind_in}
use Rattle.flash_plan.specs.Moves.{Work, is_flash, is_logical_move}
use Rattle.flash_plan.specs.Orders.{is_logical_flash, runs_userspace}
use Rattle.flash_plan.specs.Plans.{image_size}
use Rattle.flash_plan.specs.Targets.{candidates, target_in}

-- the names that are tried, in their order
abbrev pub names_of : Candidates → List (List ℕ)
names_of names = option_to_list names.first ++ option_to_list names.second

-- what these tasks leave to the next ones
abbrev pub past_of : List Move → Past
past_of before =
    record {
      flashes = length (filter is_flash before);
      logical = list_any is_logical_move before;
      emptied = list_any is_logical_flash before;
      userspace = runs_userspace before;
    }

-- the image is one that a device may hold
abbrev pub IsShort : Move → Type 0
IsShort (Flashes name logical size) = size ≤ 2 ^ 44
IsShort (Erases name logical) = Unit {0}
IsShort (Updates name) = Unit {0}
IsShort (Boots what) = Unit {0}

-- what the product brings, with the partitions that are said to be listed
abbrev pub work_in : Setting → Work
work_in setting =
    record {
      tasks = setting.product.now.tasks;
      sizes = map image_size setting.product.now.images;
      listed = setting.listed.now;
    }

-- the partition that a task's name stands for, and whether it is logical
abbrev pub aim_of : Setting → Bool → List ℕ → Option (List ℕ × Bool)
aim_of setting other name =
    target_in (kind_in setting.answers.now.parts) setting.listed.now (candidates setting.slot other name)
