-- An installation in which nothing of the outside fails: it succeeds, or a step is refused that the device
-- can't take.
use Rattle.std.specs.Prelude.{◌≡◌, ◌⊎◌, ℕ, false, List, Option, Some, None, Ok, IsTrue}
use Rattle.dev_model.specs.declared.device.Dev.{Dev}
use Rattle.dev_model.specs.declared.step.Step.{Step}
use Rattle.dev_model.specs.Partitions.{is_fastboot}
use Rattle.dev_model.specs.Steps.{run}
use Rattle.wire_told.specs.Places.{Place, Device}
use Rattle.flash_plan.specs.declared.options.Options.{Options}
use Rattle.flash_plan.specs.Products.{product_of}
use Rattle.host_driver.specs.Driven.{made}
use Rattle.host_driver.specs.Driving.{moved, LinkFailed, FolderFailed, OutputFailed}
use Rattle.host_driver.specs.Jobs.{Outside, Job}
use Rattle.host_words.specs.Requests.{Request, FlashAll}
use Rattle.host_top.specs.Subjects.{is_elsewhere}

-- The folder is that of the words, its files hold the job's product, the options are the words', and the target
-- stands for the job's device, which runs fastboot.
pub record IsJobOf (place : Place) (dir : List ℕ) (options : Options) (old : Outside) (j : Job) : Type 0 where
  pub here : is_elsewhere dir old.folder.path ≡ false
  pub files : old.folder.files ≡ Some j.files
  pub read : product_of j.files j.options.wipe ≡ Ok j.product
  pub asked : j.options ≡ options
  pub stands : old.port.stands place ≡ Some (Device j.device)
  pub serves : IsTrue (is_fastboot j.device.mode)

-- no count of the folder, the port or the output rose
pub record IsQuiet (old new : Outside) : Type 0 where
  pub folder : FolderFailed (moved old new) → ⊥
  pub link : LinkFailed (moved old new) → ⊥
  pub output : OutputFailed (moved old new) → ⊥

-- Where the job's device can take every step of the plan the call succeeds, and where it can't, a step is
-- refused, unless memory is wanting.
pub record CompletesBy (j : Job) (plan : List Step) (status : ℕ) : Type 0 where
  pub done : (t : Dev) → run plan j.device ≡ Some t → (status ≡ 0) ⊎ (status ≡ 2)
  pub refused : run plan j.device ≡ None → (status ≡ 7) ⊎ (status ≡ 2)

-- an installation in which no count rose, of a job that has a plan, completes
abbrev pub Completes : Option Request → Outside → Outside → ℕ → Type 0
Completes (Some (FlashAll place dir options)) old new status =
    IsQuiet old new → (j : Job) (plan : List Step) →
    IsJobOf place dir options old j → made j ≡ Some plan → CompletesBy j plan status
Completes _ old new status = Unit {0}
