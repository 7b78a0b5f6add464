-- An installation rehearsed in memory: what it is given, and what it comes to.
use Rattle.std.specs.Prelude.{◌≡◌, ◌≢◌, ◌⊎◌, ℕ, ◌+◌, ◌≤◌, false, true, IsTrue, List, ◌++◌, length}
use Rattle.std.specs.Prelude.{Option, Some, Ok}
use Rattle.fb_frame.specs.Sinks.{Grew}
use Rattle.dev_model.specs.declared.device.Dev.{Dev}
use Rattle.dev_model.specs.declared.step.Step.{Step}
use Rattle.dev_model.specs.Steps.{run}
use Rattle.dev_disk.specs.declared.memory.MemoryDisk.{MemoryDisk}
use Rattle.dev_disk.specs.Files.{Files as Images}
use Rattle.dev_disk.specs.Memory.{memory_told}
use Rattle.wire_told.specs.Places.{Place, ImageAt, Device}
use Rattle.wire_told.specs.Ports.{PortTold}
use Rattle.flash_plan.specs.declared.options.Options.{Options}
use Rattle.flash_plan.specs.Files.{Files}
use Rattle.flash_plan.specs.Products.{product_of}
use Rattle.host_driver.specs.Driven.{made, LeavesBy}
use Rattle.host_driver.specs.Driving.{Counts, Moved, LinkFailed, FolderFailed, OutputFailed}
use Rattle.host_driver.specs.Jobs.{Job, Has, last_in}
use Rattle.host_driver.specs.Printing.{Attempt, in_order, is_answered, steps_in, text_of, lines_of}
use Rattle.host_words.specs.Requests.{Request, FlashAll, GetVar}
use Rattle.host_top.specs.Completing.{CompletesBy}
use Rattle.host_top.specs.Verdicts.{Done, last_line}
use Rattle.pair_port.specs.Pairs.{Pair, Alone, disk_of, pair_told, stand_in}
use Rattle.pair_port.specs.Stood.{HoldsDevice, IsStand}

-- what the folder holds, the images before and after, and the text before and after
pub record Scene : Type 0 where
  pub folder : Files
  pub before : Images
  pub after : Images
  pub text : Option (List ℕ)
  pub now : Option (List ℕ)

abbrev pub scene : Files → Images → Images → Option (List ℕ) → Option (List ℕ) → Scene
scene folder before after text now =
    record { folder = folder; before = before; after = after; text = text; now = now }

-- The folder's files hold the job's product, the options are those of the words, and the image of the path
-- stands for the job's device.
pub record IsJobAt (path : List ℕ) (options : Options) (scene : Scene) (j : Job) : Type 0 where
  pub files : scene.folder ≡ j.files
  pub read : product_of j.files j.options.wipe ≡ Ok j.product
  pub asked : j.options ≡ options
  pub stood : stand_in (scene.before path) ≡ Device j.device

-- The text grew by that of the attempts, the last of which printed each step's line, and by the line that
-- tells so many steps.
pub record IsReported (j : Job) (steps : ℕ) (scene : Scene) : Type 0 where
  pub attempts : List Attempt
  pub ordered : in_order false attempts ≡ true
  pub few : length attempts ≤ j.options.retries + 1
  pub last : Has (last_in attempts) (λ a. IsTrue (is_answered a) × (steps_in a ≡ steps))
  pub text : Grew scene.text scene.now (text_of (lines_of j) attempts ++ last_line (Done steps))

-- The plan was made, and the image stands for the device that its run gives, but for the mode.
pub record IsInstalled (path : List ℕ) (options : Options) (scene : Scene) : Type 0 where
  pub j : Job
  pub is_job : IsJobAt path options scene j
  pub plan : List Step
  pub made_so : made j ≡ Some plan
  pub final : Dev
  pub runs : run plan j.device ≡ Some final
  pub stands : IsStand (stand_in (scene.after path)) final
  pub reported : IsReported j (length plan) scene

-- The image stands for what attempts left of which these numbers of steps were acknowledged.
pub record IsLeft (path : List ℕ) (options : Options) (scene : Scene) : Type 0 where
  pub j : Job
  pub is_job : IsJobAt path options scene j
  pub numbers : List ℕ
  pub few : length numbers ≤ options.retries + 1
  pub final : Dev
  pub left : LeavesBy (made j) j.device numbers final
  pub stands : IsStand (stand_in (scene.after path)) final

-- the image stands for what it did
abbrev pub IsSameAt : List ℕ → Images → Images → Type 0
IsSameAt path before after = stand_in (after path) ≡ stand_in (before path)

-- The image stands for the device that it stood for, but for the mode.
pub record IsKept (path : List ℕ) (before after : Images) : Type 0 where
  pub device : Dev
  pub stood : stand_in (before path) ≡ Device device
  pub stands : IsStand (stand_in (after path)) device

-- What a call by these words leaves of the image that is its target.
abbrev pub LeavesImage : Option Request → Scene → Type 0
LeavesImage (Some (FlashAll (ImageAt path) place options)) s =
    IsSameAt path s.before s.after ⊎ IsLeft path options s
LeavesImage (Some (GetVar (ImageAt path) name)) s =
    IsSameAt path s.before s.after ⊎ IsKept path s.before s.after
LeavesImage _ s = Unit {0}

-- all images but the target stand for what they did
abbrev pub KeepsImages : Option Place → Images → Images → Type 0
KeepsImages target before after = (path : List ℕ) → target ≢ Some (ImageAt path) → IsSameAt path before after

-- a fact of an image's path, a folder's path and options, where the words ask for an installation there
abbrev pub OfFlash : Option Request → (List ℕ → List ℕ → Options → Type 0) → Type 0
OfFlash (Some (FlashAll (ImageAt path) place options)) P = P path place options
OfFlash _ P = Unit {0}

abbrev pub counts : ℕ → ℕ → ℕ → Counts
counts port folder output = record { port = port; folder = folder; output = output }

abbrev pub went : Counts → Counts → Moved
went before now = record { before = before; now = now }

-- no call of the link, the folder or the output failed
pub record IsUndisturbed (m : Moved) : Type 0 where
  pub link : LinkFailed m → ⊥
  pub folder : FolderFailed m → ⊥
  pub output : OutputFailed m → ⊥

-- a job that has a plan is done where the device can take every step, or refused where it can't
abbrev pub CompletesAt : List ℕ → Options → Scene → ℕ → Type 0
CompletesAt path options scene status =
    (j : Job) (plan : List Step) → IsJobAt path options scene j → made j ≡ Some plan → CompletesBy j plan status

-- A relation of what a port over the disk told at first and what it told at the end, when its last target stood
-- for the device that it told; so many of its calls met a break.
pub record OverPort (before after : MemoryDisk) (broken : ℕ) (R : PortTold → PortTold → Type 0) : Type 0 where
  pub first : Pair MemoryDisk
  pub alone : first.end ≡ Alone before
  pub last : Pair MemoryDisk
  pub disk : disk_of last.end ≡ after
  pub breaks : last.counters.broken ≡ broken
  pub holds : HoldsDevice (pair_told memory_told last)
  pub related : R (pair_told memory_told first) (pair_told memory_told last)
