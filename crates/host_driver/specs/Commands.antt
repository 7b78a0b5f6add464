-- A step of a plan as a command, and what a told device does to it (fastboot README, command reference).
use Rattle.std.specs.Prelude.{◌≡◌, ℕ, true, false, List, Bool, Option, Some, None}
use Rattle.fb_frame.specs.declared.slot.Slot.{Slot}
use Rattle.fb_frame.specs.declared.tables.Tables.{Tables}
use Rattle.fb_message.specs.declared.command.BootTarget.{BootTarget}
use Rattle.fb_message.specs.CommandText.{CommandValue, SetActive, Erase, Reboot, Flash, UpdateSuper}
use Rattle.fb_message.specs.CommandText as command
use Rattle.dev_model.specs.declared.cells.Cell.{Cell}
use Rattle.dev_model.specs.declared.device.Dev.{Dev}
use Rattle.dev_model.specs.declared.device.Mode.{Mode}
use Rattle.dev_model.specs.declared.step.Step.{Step}
use Rattle.dev_model.specs.declared.step.Step.TheVariants.{Active, Resize, Put, Wipe, Table, Boot}
use Rattle.dev_model.specs.Images.{image}
use Rattle.dev_model.specs.Refusals.{refusal_of}
use Rattle.dev_model.specs.Steps.{can, apply}
use Rattle.wire_model.specs.Says.{Loaded, says, decides, leaves, mode_of}
use Rattle.wire_model.specs.TableFile.{tables_of}
use Rattle.flash_plan.specs.declared.plan.Order.{Order}
use Rattle.flash_plan.specs.declared.plan.Order.TheVariants as order

-- To this command the device refuses the step or takes it, whichever it does.
abbrev pub IsDecided : CommandValue → Step → Dev → Loaded → Type 0
IsDecided command step dev loaded =
    says dev loaded command ≡ decides (refusal_of step dev) (apply step) dev loaded

-- The device could take the step, and took it.
pub record TookStep (step : Step) (s t : Dev) : Type 0 where
  pub can_so : can step s ≡ true
  pub taken : t ≡ apply step s

-- The device refuses the step with this text, and is as it was.
pub record RefusedStep (step : Step) (text : List ℕ) (s t : Dev) : Type 0 where
  pub refusal : refusal_of step s ≡ Some text
  pub same : t ≡ s

-- A reboot is taken by every device.
abbrev pub IsBooted : CommandValue → Mode → Dev → Loaded → Type 0
IsBooted command mode dev loaded = says dev loaded command ≡ leaves mode dev loaded

-- Which command decides a step, and of what has to be loaded before.
pub record Decisions : Type 0 where
  pub active : (slot : Slot) (dev : Dev) (loaded : Loaded)
      → IsDecided (SetActive slot) (Active slot) dev loaded
  pub resize : (name : List ℕ) (size : ℕ) (dev : Dev) (loaded : Loaded)
      → IsDecided (command.Resize name size) (Resize name size) dev loaded
  pub wipe : (name : List ℕ) (dev : Dev) (loaded : Loaded) → IsDecided (Erase name) (Wipe name) dev loaded
  pub put : (name file : List ℕ) (cells : List Cell) (dev : Dev) → image file ≡ Some cells
      → IsDecided (Flash name) (Put name cells) dev (Some file)
  pub table : (name file : List ℕ) (tables : Tables) (wipe : Bool) (dev : Dev) → tables_of file ≡ Some tables
      → dev.super_name ≡ Some name →
      IsDecided (UpdateSuper name wipe) (Table tables wipe) dev (Some file)
  pub boot : (what : BootTarget) (dev : Dev) (loaded : Loaded)
      → IsBooted (Reboot what) (mode_of what) dev loaded

-- the command takes a step
abbrev pub takes_step : CommandValue → Bool
takes_step (SetActive slot) = true
takes_step (command.Resize name size) = true
takes_step (Erase name) = true
takes_step (Reboot what) = true
takes_step (Flash name) = true
takes_step (UpdateSuper name wipe) = true
takes_step _ = false

-- What was downloaded is an image, and the step puts it over the partition.
pub record PutsLoaded (name : List ℕ) (step : Step) (loaded : Loaded) : Type 0 where
  pub file : List ℕ
  pub cells : List Cell
  pub there : loaded ≡ Some file
  pub holds : image file ≡ Some cells
  pub step_is : step ≡ Put name cells

-- What was downloaded holds tables, the name is that of the device's super, and the step brings them.
pub record BringsLoaded (name : List ℕ) (wipe : Bool) (step : Step) (dev : Dev) (loaded : Loaded) :
    Type 0 where
  pub file : List ℕ
  pub tables : Tables
  pub there : loaded ≡ Some file
  pub holds : tables_of file ≡ Some tables
  pub own : dev.super_name ≡ Some name
  pub step_is : step ≡ Table tables wipe

-- The command is the one by which the device, with this loaded, is to take the step.
abbrev pub IsCommandOf : CommandValue → Step → Dev → Loaded → Type 0
IsCommandOf (SetActive slot) step dev loaded = step ≡ Active slot
IsCommandOf (command.Resize name size) step dev loaded = step ≡ Resize name size
IsCommandOf (Erase name) step dev loaded = step ≡ Wipe name
IsCommandOf (Reboot what) step dev loaded = step ≡ Boot (mode_of what)
IsCommandOf (Flash name) step dev loaded = PutsLoaded name step loaded
IsCommandOf (UpdateSuper name wipe) step dev loaded = BringsLoaded name wipe step dev loaded
IsCommandOf _ step dev loaded = ⊥

-- the command of an order that takes one alone; an image and tables are downloaded before theirs
abbrev pub command_for : Order → Option CommandValue
command_for (order.Active slot) = Some (SetActive slot)
command_for (order.Resize name size) = Some (command.Resize name size)
command_for (order.Put name place) = None
command_for (order.Wipe name) = Some (Erase name)
command_for (order.Table name wipe) = None
command_for (order.Boot what) = Some (Reboot what)
