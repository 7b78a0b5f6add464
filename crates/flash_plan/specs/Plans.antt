-- The steps that a plan stands for, with the images and the table that the product brings.
use Rattle.std.specs.Prelude.{ℕ, ◌*◌, List, [], map, flat_map, unwrap_or, slice_index_or, Option}
use Rattle.std.specs.Prelude.{option_and_then, Result, Ok, Err, if◌then◌else◌}
use Rattle.std.specs.List.{list_any}
use Rattle.fb_frame.specs.declared.tables.Tables.{Tables}
use Rattle.dev_model.specs.declared.cells.Cell.{Cell}
use Rattle.dev_model.specs.declared.device.Dev.{Dev}
use Rattle.dev_model.specs.declared.step.Step.{Step}
use Rattle.dev_model.specs.declared.step.Step.TheVariants as step
use Rattle.dev_model.specs.Images.{image}
use Rattle.wire_model.specs.Says.{mode_of}
use Rattle.wire_model.specs.TableFile.{tables_of}
use Rattle.product_info.specs.declared.task.Task.{Task}
use Rattle.sparse_image.specs.Walks.{Kept}
use Rattle.flash_plan.specs.declared.options.Options.{Options}
use Rattle.flash_plan.specs.declared.plan.Order.{Order}
use Rattle.flash_plan.specs.declared.plan.Order.TheVariants.{Active, Resize, Put, Wipe, Table, Boot}
use Rattle.flash_plan.specs.declared.product.Product.{Product}
use Rattle.flash_plan.specs.Files.{Files}
use Rattle.flash_plan.specs.Facts.{facts_of}
use Rattle.flash_plan.specs.Moves.{Work, PlanFault}
use Rattle.flash_plan.specs.Orders.{orders}
use Rattle.flash_plan.specs.Products.{is_update, image_file}

-- how many bytes an image has
abbrev pub image_size : Kept → ℕ
image_size kept = kept.blocks * kept.block

-- a file without tables, where no task brings one
abbrev pub no_tables : Tables
no_tables = record {
  partitions = [];
  groups = [];
  geometry = record { max_size = 0; slots = 0 };
  device = record { name = []; size = 0; alignment = 0; offset = 0 };
  minor = 0;
  flags = 0;
}

-- the tables that a product's super_empty.img holds
abbrev pub tables_in : Option (List ℕ) → Tables
tables_in empty = unwrap_or (option_and_then tables_of empty) no_tables

-- the partitions that a product's tables list, where a task updates super
abbrev pub listed_in : List Task → Option (List ℕ) → List (List ℕ)
listed_in tasks empty =
    if list_any is_update tasks then map (λ p. p.name) (tables_in empty).partitions else []

-- what a product brings to a plan
abbrev pub work_of : Product → Work
work_of product =
    record {
      tasks = product.tasks;
      sizes = map image_size product.images;
      listed = listed_in product.tasks product.empty;
    }

-- the cells of a file's image
abbrev pub cells_of : Files → List ℕ → List Cell
cells_of files file = unwrap_or (option_and_then image (files file)) []

-- the images of the flash tasks
abbrev pub images_of : Files → List Task → List (List Cell)
images_of files tasks = map (cells_of files) (flat_map image_file tasks)

-- the step that an order stands for
abbrev pub step_of : List (List Cell) → Tables → Order → Step
step_of images tables (Active slot) = step.Active slot
step_of images tables (Resize name size) = step.Resize name size
step_of images tables (Put name place) = step.Put name (slice_index_or images place [])
step_of images tables (Wipe name) = step.Wipe name
step_of images tables (Table name wipe) = step.Table tables wipe
step_of images tables (Boot what) = step.Boot (mode_of what)

-- the steps that orders stand for
abbrev pub steps_of : Files → Product → List Order → List Step
steps_of files product plan = map (step_of (images_of files product.tasks) (tables_in product.empty)) plan

-- the steps of a plan, where there is one
abbrev pub steps_by : Files → Product → Result (List Order) PlanFault → Result (List Step) PlanFault
steps_by files product (Err fault) = Err fault
steps_by files product (Ok plan) = Ok (steps_of files product plan)

-- The plan of a folder's product over a device, or the first line of which none is made.
abbrev pub plan_of : Files → Product → Options → Dev → Result (List Step) PlanFault
plan_of files product options dev = steps_by files product (orders (work_of product) options (facts_of dev))
