-- A step of a plan, of whatever kind: what is needed for it, and what it comes to over any port and folder.
use Rattle.std.specs.Prelude.{◌≡◌, ℕ, ◌+◌, ◌*◌, ◌^◌, ◌<◌, Bool, true, false, List, [], ◌++◌, length, Option, Some}
use Rattle.std.specs.Prelude.{Ok, IsTrue, IsFalse, not, is_some, slice_get, flat_map}
use Rattle.fb_frame.specs.Causes.{Rose}
use Rattle.fb_message.specs.CommandText.{Reboot, UpdateSuper}
use Rattle.dev_model.specs.declared.device.Dev.{Dev}
use Rattle.dev_model.specs.declared.device.Mode.TheVariants.{Halted}
use Rattle.dev_model.specs.declared.step.Step.{Step}
use Rattle.dev_model.specs.Attempts.{is_halted}
use Rattle.dev_model.specs.Partitions.{is_fastboot}
use Rattle.sparse_image.specs.Walks.{Kept as KeptImage, checked}
use Rattle.wire_told.specs.Answered.{Sound}
use Rattle.wire_told.specs.Peers.{Peer, OfLink}
use Rattle.wire_told.specs.Ports.{Kept}
use Rattle.flash_plan.specs.declared.plan.Order.{Order}
use Rattle.flash_plan.specs.declared.plan.Order.TheVariants.{Put, Table, Boot}
use Rattle.flash_plan.specs.declared.product.Product.{Product}
use Rattle.flash_plan.specs.Files.{Files}
use Rattle.flash_plan.specs.Moves.{leaves}
use Rattle.flash_plan.specs.Plans.{step_of, images_of, tables_in}
use Rattle.flash_plan.specs.Products.{OfFiles, image_file}
use Rattle.fb_link.specs.Seen.{Seen}
use Rattle.host_driver.specs.declared.drive.DriveError.{DriveError}
use Rattle.host_driver.specs.Driving.{Grows}
use Rattle.host_driver.specs.HeardLast.{HeardThen, HeardAt}
use Rattle.host_driver.specs.Jobs.{OfTold}
use Rattle.host_driver.specs.Stepping.{Serving, IsStepped, IsStopped, WhyStopped, IsUnshown, IsFixed}
use Rattle.host_driver.specs.Wires.{command_wire, download_wire, WiresOrder}

-- What the steps of a plan are taken from: the folder's files where they are told, the product, and the most
-- bytes of one download.
pub record Supply : Type 0 where
  pub files : Option Files
  pub product : Product
  pub most : ℕ

abbrev pub supply : Option Files → Product → ℕ → Supply
supply files product most = record { files = files; product = product; most = most }

-- an order that is taken from there
pub record Taking : Type 0 where
  pub from : Supply
  pub order : Order

abbrev pub taking : Supply → Order → Taking
taking from order = record { from = from; order = order }

-- the step that an order stands for, of a folder's files
abbrev pub step_in : Files → Product → Order → Step
step_in files product order = step_of (images_of files product.tasks) (tables_in product.empty) order

-- the file is there, and this is what is kept of it
abbrev pub IsKeptOf : Option (List ℕ) → KeptImage → Type 0
IsKeptOf file kept = (bytes : List ℕ) × (file ≡ Some bytes) × (checked bytes ≡ Ok kept)

-- each image of a product is what is kept of its file
abbrev pub AreImages : Product → Files → Type 0
AreImages product files = (place : ℕ) (name : List ℕ) (kept : KeptImage)
    → slice_get (flat_map image_file product.tasks) place ≡ Some name
    → slice_get product.images place ≡ Some kept → IsKeptOf (files name) kept

-- what an order needs of the product: its image, or an image of an empty super
abbrev pub HasOwn : Product → Order → Type 0
HasOwn product (Put name place) = place < length product.images
HasOwn product (Table name wipe) = IsTrue (is_some product.empty)
HasOwn product _ = Unit {0}

-- what an order needs of a device: that super has the name
abbrev pub IsNamed : Dev → Order → Type 0
IsNamed dev (Table name wipe) = dev.super_name ≡ Some name
IsNamed dev _ = Unit {0}

-- the device leaves fastboot by the order
abbrev pub is_leaving : Order → Bool
is_leaving (Boot what) = leaves what
is_leaving _ = false

-- the order is a reboot
abbrev pub is_reboot : Order → Bool
is_reboot (Boot what) = true
is_reboot _ = false

-- after the order another connection is needed: a reboot into fastboot ends the one that was up
abbrev pub is_renewing : Order → Bool
is_renewing (Boot what) = not (leaves what)
is_renewing _ = false

-- how many bytes of a connection an update of super takes at most
abbrev pub tables_cost : ℕ
tables_cost = 8208 + 9 * 131072

-- how many bytes of a connection an order takes at most
abbrev pub order_cost : Order → ℕ
order_cost (Put name place) = 2 ^ 48
order_cost _ = 2 ^ 30

-- what an update of super sends
abbrev pub IsTablesWire : List ℕ → Bool → List ℕ → Option Peer → List ℕ → Type 0
IsTablesWire name wipe image a wire =
    OfLink (λ w. wire ≡ download_wire image ++ command_wire (UpdateSuper name wipe)) a

-- what an order sends over its own connection
abbrev pub SendsOrder : Files → Product → ℕ → Order → List ℕ → Type 0
SendsOrder files product most (Boot what) wire = wire ≡ command_wire (Reboot what)
SendsOrder files product most order wire = WiresOrder files product most order wire

-- The step of an order was acknowledged: of told files it is the one that they bring, and a told device
-- took it and nothing was shown. The device didn't halt, and runs fastboot still, unless the order leaves it.
pub record IsTaken (t : Taking) (old new : Seen) : Type 0 where
  pub exact : OfFiles t.from.files (λ files. IsStepped (order_cost t.order)
      (λ wire. OfLink (λ w. SendsOrder files t.from.product t.from.most t.order wire) old.port.peer)
      (step_in files t.from.product t.order) old new)
  pub serving : is_reboot t.order ≡ false → (spare : ℕ) → Serving (order_cost t.order + spare) old.port.peer
      → Serving spare new.port.peer
  pub runs : is_leaving t.order ≡ false →
      OfTold old.port.peer new.port.peer (λ s t. IsTrue (is_fastboot t.mode))
  pub lives : OfTold old.port.peer new.port.peer (λ s t. IsFalse (is_halted t.mode))
  pub fixed : OfTold old.port.peer new.port.peer IsFixed
  pub grows : Grows old.text new.text
  pub heard : HeardThen old.port.heard [] → HeardThen new.port.heard []
  pub kept : Kept old.port new.port

-- the order puts the image of this file
abbrev pub PutsFile : Product → Order → List ℕ → Type 0
PutsFile product (Put name place) file = slice_get (flat_map image_file product.tasks) place ≡ Some file
PutsFile product _ file = ⊥

-- the folder failed at the file of an order
abbrev pub IsUnreadAt : Product → Order → ℕ → ℕ → List ℕ → Type 0
IsUnreadAt product order before now file = PutsFile product order file × Rose before now

-- The attempt broke off in the step of an order, and the connection is down.
pub record IsUntaken (Files : List ℕ → Type 0) (t : Taking) (old new : Seen) (error : DriveError) :
    Type 0 where
  pub exact : OfFiles t.from.files (λ files.
      IsStopped Files (step_in files t.from.product t.order) old new error)
  pub why : WhyStopped Files old.port new.port error
  pub unshown : IsUnshown error old.port.peer
  pub lives : OfTold old.port.peer new.port.peer
      (λ s t. t.mode ≡ Halted → Rose old.port.faults new.port.faults)
  pub fixed : OfTold old.port.peer new.port.peer IsFixed
  pub grows : Grows old.text new.text
  pub heard : HeardThen old.port.heard [] → HeardAt new.port error
  pub down : IsFalse new.port.up
  pub sound : Sound new.port.peer
  pub kept : Kept old.port new.port
