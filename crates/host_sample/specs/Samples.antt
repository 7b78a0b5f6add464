-- A sample of an installation: the device, what is installed, and what is printed.
use Rattle.std.specs.Prelude.{◌≡◌, ℕ, true, false, List, [], ◌∷◌, ◌++◌, length, Option, Some, Ok, codes}
use Rattle.fb_frame.specs.Sinks.{Grew}
use Rattle.dev_model.specs.declared.device.Dev.{Dev}
use Rattle.dev_model.specs.declared.step.Step.{Step}
use Rattle.dev_model.specs.Steps.{run}
use Rattle.dev_disk.specs.Files.{Files as Images}
use Rattle.dev_store.specs.Layouts.{LayoutValue, layout_of}
use Rattle.dev_store.specs.NewDevice.{new_device}
use Rattle.dev_store.specs.Opening.{Makes}
use Rattle.device_jobs.specs.Printed.{show_text}
use Rattle.flash_plan.specs.MemoryFiles.{MemoryFolder, file_of}
use Rattle.flash_plan.specs.Products.{product_of}
use Rattle.host_driver.specs.Driven.{made}
use Rattle.host_driver.specs.Jobs.{Job}
use Rattle.host_words.specs.Words.{usual_options}
use Rattle.host_driver.specs.Printing.{joined, lines_of}
use Rattle.host_top.specs.Verdicts.{Done, last_line}
use Rattle.pair_port.specs.Pairs.{stand_in}
use Rattle.pair_port.specs.Stood.{IsStand}
use Rattle.sample_product.specs.Products.{layout_text, IsSampleProduct}

-- where the device's image and the product lie
abbrev pub image_path : List ℕ
image_path = codes "DEV"

abbrev pub folder_path : List ℕ
folder_path = codes "DIR"

-- the words of the installation
abbrev pub sample_words : List (List ℕ)
sample_words = codes "-s" ∷ codes "image:DEV" ∷ codes "flashall" ∷ folder_path ∷ []

-- The layout that the text gives.
abbrev pub IsSampleLayout : LayoutValue → Type 0
IsSampleLayout layout = layout_of layout_text ≡ Ok layout

-- The device is a new one of the layout, unlocked.
pub record IsSampleDevice (device : Dev) : Type 0 where
  pub layout : LayoutValue
  pub laid : IsSampleLayout layout
  pub is : device ≡ new_device layout true

-- its image was made
pub record HoldsSample (files : Images) : Type 0 where
  pub layout : LayoutValue
  pub laid : IsSampleLayout layout
  pub made : Makes (Some files) image_path layout true

-- the folder has the product that this number draws
pub record HasSample (number : ℕ) (dir : MemoryFolder) : Type 0 where
  pub path : dir.path ≡ folder_path
  pub product : IsSampleProduct number (file_of dir.files)

-- The plan of the product that this number draws was made for the device, and this is what its run gives.
pub record IsInstalled (number : ℕ) (j : Job) (final : Dev) : Type 0 where
  pub product : IsSampleProduct number j.files
  pub read : product_of j.files false ≡ Ok j.product
  pub options : j.options ≡ usual_options
  pub device : IsSampleDevice j.device
  pub plan : List Step
  pub made_so : made j ≡ Some plan
  pub runs : run plan j.device ≡ Some final

-- the report of an installation of so many steps: the lines of its questions, those of its steps, and the last
abbrev pub report : Job → ℕ → List ℕ
report j steps = joined (lines_of j).asks ++ joined (lines_of j).steps ++ last_line (Done steps)

-- It was reported, and the image stands for what the run gives.
pub record IsReported (number : ℕ) (files : Images) (text now : Option (List ℕ)) : Type 0 where
  pub j : Job
  pub final : Dev
  pub installed : IsInstalled number j final
  pub stands : IsStand (stand_in (files image_path)) final
  pub printed : Grew text now (report j (length installed.plan))

-- The text grew by the report of the installation and the text of the device that its run gives.
pub record IsSampled (number : ℕ) (text now : Option (List ℕ)) : Type 0 where
  pub j : Job
  pub final : Dev
  pub installed : IsInstalled number j final
  pub printed : Grew text now (report j (length installed.plan) ++ show_text final)
