-- What an installation is given, what is told of the outside, and what an installation comes to.
use Rattle.std.specs.Prelude.{ℕ, Bool, List, [], ◌∷◌, Option, Some, None, Result}
use Rattle.dev_model.specs.declared.device.Dev.{Dev}
use Rattle.wire_told.specs.Peers.{Peer, device_of}
use Rattle.wire_told.specs.Ports.{PortTold}
use Rattle.flash_plan.specs.declared.options.Options.{Options}
use Rattle.flash_plan.specs.declared.product.Product.{Product}
use Rattle.flash_plan.specs.Files.{Files}
use Rattle.host_driver.specs.declared.drive.Done.{Done}
use Rattle.host_driver.specs.declared.drive.DriveError.{DriveError}

-- what a folder tells: its path and its files where it tells them, whether it is entered, and its count of
-- faults
pub record Folder : Type 0 where
  pub path : Option (List ℕ)
  pub files : Option Files
  pub entered : Bool
  pub faults : ℕ

abbrev pub folder : Option (List ℕ) → Option Files → Bool → ℕ → Folder
folder path files entered faults = record { path = path; files = files; entered = entered; faults = faults }

-- what is told of the outside: the port, the folder, and the output's text and count of faults
pub record Outside : Type 1 where
  pub port : PortTold
  pub folder : Folder
  pub text : Option (List ℕ)
  pub unput : ℕ

abbrev pub outside : PortTold → Folder → Option (List ℕ) → ℕ → Outside
outside port folder text unput = record { port = port; folder = folder; text = text; unput = unput }

-- what is asked for: a product and the options
pub record Order : Type 0 where
  pub product : Product
  pub options : Options

abbrev pub order : Product → Options → Order
order product options = record { product = product; options = options }

-- An installation: the folder's files, their product, the options, and the device that is met first.
pub record Job : Type 0 where
  pub files : Files
  pub product : Product
  pub options : Options
  pub device : Dev

abbrev pub job : Order → Files → Dev → Job
job order files dev = record { files = files; product = order.product; options = order.options; device = dev }

-- What it came to: for each attempt how many steps were acknowledged, and how it ended.
pub record Course : Type 0 where
  pub numbers : List ℕ
  pub outcome : Result Done DriveError

abbrev pub course : List ℕ → Result Done DriveError → Course
course numbers outcome = record { numbers = numbers; outcome = outcome }

-- A relation of the told devices before and after. A port tells its device in both or in neither.
abbrev pub OfTold : Option Peer → Option Peer → (Dev → Dev → Type 0) → Type 0
OfTold None None R = Unit {0}
OfTold None (Some b) R = ⊥
OfTold (Some a) None R = ⊥
OfTold (Some a) (Some b) R = R (device_of a) (device_of b)

-- a relation of a job and the device after it, where the folder tells its files
abbrev pub OnFiles : Order → Option Files → Option Peer → Option Peer → (Job → Dev → Type 0) → Type 0
OnFiles order None a b R = Unit {0}
OnFiles order (Some files) a b R = OfTold a b (λ s t. R (job order files s) t)

abbrev pub OnJob : Order → Outside → Outside → (Job → Dev → Type 0) → Type 0
OnJob order old new R = OnFiles order old.folder.files old.port.peer new.port.peer R

-- a fact of what is there
abbrev pub Has : {X : Type 0} → Option X → (X → Type 0) → Type 0
Has None P = ⊥
Has (Some x) P = P x

-- the last of a list
abbrev pub last_in : {X : Type 0} → List X → Option X
last_in [] = None
last_in (x ∷ []) = Some x
last_in (x ∷ y ∷ rest) = last_in (y ∷ rest)
