-- What an inspection of a folder answers: what a file or the whole folder holds, or why it stops; and what was
-- gathered of the first tasks.
use Rattle.std.specs.Prelude.{Bool, ◌≡◌, ℕ, ◌+◌, ◌≤◌, not, ◌||◌, List, [], ◌∷◌, ◌++◌, length, flat_map}
use Rattle.std.specs.Prelude.{Option, Some, None, is_some, IsTrue, IfSome, Result, Ok, Err}
use Rattle.std.specs.List.{list_any, sum_by}
use Rattle.std.specs.Option.{option_or}
use Rattle.fb_frame.specs.Causes.{Rose}
use Rattle.product_info.specs.declared.requirement.Requirement.{Requirement}
use Rattle.product_info.specs.declared.task.Action.{Action}
use Rattle.product_info.specs.declared.task.Action.TheVariants.{Flash, Reboot, UpdateSuper, Erase}
use Rattle.product_info.specs.declared.task.Task.{Task}
use Rattle.dev_model.specs.Repeats.{is_among}
use Rattle.flash_plan.specs.Products.{tasks_left}
use Rattle.product_info.specs.RequirementText.{requirements}
use Rattle.product_info.specs.TaskText.{tasks}
use Rattle.sparse_image.specs.declared.errors.SparseError.{SparseError}
use Rattle.sparse_image.specs.Walks.{Kept, checked}
use Rattle.flash_plan.specs.declared.product.Flaw.{Flaw}
use Rattle.flash_plan.specs.declared.product.Flaw.TheVariants.{Absent, Image}
use Rattle.flash_plan.specs.declared.inspect.Gathered.{Gathered}
use Rattle.flash_plan.specs.declared.product.ProductError.{ProductError}
use Rattle.flash_plan.specs.declared.product.ProductError.TheVariants.{Memory, Directory, Bad}
use Rattle.flash_plan.specs.Files.{Files}
use Rattle.flash_plan.specs.Products.{Fault, Brought, OfFiles, text_of, info_of, image_by, empty_of}
use Rattle.flash_plan.specs.Products.{requirements_file, tasks_file, super_file, brought_for, image_file}
use Rattle.flash_plan.specs.Products.{is_update, holds_tables}

-- the told files hold this
abbrev pub Finds : {X : Type 0} → Option Files → (Files → Result X Fault) → X → Type 0
Finds told held x = OfFiles told (λ files. held files ≡ Ok x)

-- Why an inspection stops: this is the first flaw of the told files, or the folder failed in this call. Memory
-- may be wanting at any time.
abbrev pub Stops : {X : Type 0} → Option Files → (Files → Result X Fault) → ℕ → ℕ → ProductError → Type 0
Stops told held before now Memory = Unit {0}
Stops told held before now (Directory file) = Rose before now
Stops told held before now (Bad file flaw) = OfFiles told (λ files. held files ≡ Err (file, flaw))

-- where the folder failed, it failed at one of these files
abbrev pub FailsAmong : List (List ℕ) → ProductError → Type 0
FailsAmong names Memory = Unit {0}
FailsAmong names (Directory file) = IsTrue (is_among names file)
FailsAmong names (Bad file flaw) = Unit {0}

-- the files of a task
abbrev pub files_of_action : Action → List (List ℕ)
files_of_action (Flash name file other) = file ∷ []
files_of_action UpdateSuper = super_file ∷ []
files_of_action (Reboot what) = []
files_of_action (Erase name) = []

abbrev pub task_files : List Task → List (List ℕ)
task_files list = flat_map (λ task. files_of_action task.action) list

-- the files of a folder that are looked at, up to the first flaw: both info files, and those of the tasks that
-- aren't skipped
abbrev pub looked_by : Bool → Result (List Task) Flaw → List (List ℕ)
looked_by wipe (Err flaw) = requirements_file ∷ tasks_file ∷ []
looked_by wipe (Ok all) = requirements_file ∷ tasks_file ∷ task_files (tasks_left wipe all)

abbrev pub looked_at : Bool → Files → List (List ℕ)
looked_at wipe files = looked_by wipe (info_of tasks (files tasks_file))

-- what stands in a file, or the file with its flaw
abbrev pub in_file : {X : Type 0} → List ℕ → Result X Flaw → Result X Fault
in_file file (Err flaw) = Err (file, flaw)
in_file file (Ok x) = Ok x

-- the bytes of a file, at most this number
abbrev pub text_in : List ℕ → ℕ → Files → Result (List ℕ) Fault
text_in file most files = in_file file (text_of most (files file))

-- the requirements, and all tasks
abbrev pub requirements_in : Files → Result (List Requirement) Fault
requirements_in files =
    in_file requirements_file (info_of requirements (files requirements_file))

abbrev pub tasks_in : Files → Result (List Task) Fault
tasks_in files = in_file tasks_file (info_of tasks (files tasks_file))

-- what is kept of an image
abbrev pub unspoilt : Result Kept SparseError → Result Kept Flaw
unspoilt (Err flaw) = Err (Image flaw)
unspoilt (Ok kept) = Ok kept

abbrev pub image_alone : Option (List ℕ) → Result Kept Flaw
image_alone None = Err Absent
image_alone (Some file) = unspoilt (checked file)

abbrev pub kept_in : List ℕ → Files → Result Kept Fault
kept_in file files = in_file file (image_alone (files file))

-- what is kept of an image after others with so many chunks
abbrev pub image_in : List ℕ → ℕ → Files → Result Kept Fault
image_in file chunks files = in_file file (image_by chunks (files file))

-- super_empty.img
abbrev pub empty_in : Files → Result (List ℕ) Fault
empty_in files = in_file super_file (empty_of (files super_file))

-- an image more
abbrev pub and_image : Gathered → Kept → Gathered
and_image gathered kept = record gathered {
  images = gathered.images ++ kept ∷ [];
  chunks = gathered.chunks + length kept.chunks;
}

-- super_empty.img, which may have been brought before
abbrev pub and_empty : Gathered → List ℕ → Gathered
and_empty gathered file = record gathered { empty = option_or gathered.empty (Some file) }

-- what was gathered, before what later tasks bring
abbrev pub and_later : Gathered → Result Brought Fault → Result Brought Fault
and_later gathered (Err fault) = Err fault
and_later gathered (Ok brought) = Ok (record {
  images = gathered.images ++ brought.images;
  empty = option_or gathered.empty brought.empty;
})

-- what a task of this action and later tasks bring after what was gathered
abbrev pub brought_after : Gathered → Action → (ℕ → Result Brought Fault) → Files → Result Brought Fault
brought_after gathered action later files =
    and_later gathered (brought_for files gathered.chunks action later)

-- a task of this action brought all between the old and the new
abbrev pub Takes : Option Files → Action → Gathered → Gathered → Type 0
Takes told action old new = (later : ℕ → Result Brought Fault)
    → OfFiles told (λ files. brought_after old action later files ≡ and_later new (later new.chunks))

-- what these tasks bring from any folder
pub record IsGathered (tasks : List Task) (gathered : Gathered) : Type 0 where
  pub count : sum_by (λ kept. length kept.chunks) gathered.images ≡ gathered.chunks
  pub few : gathered.chunks ≤ 4000000
  pub images : length gathered.images ≡ length (flat_map image_file tasks)
  pub updates : IsTrue (not (list_any is_update tasks) || is_some gathered.empty)
  pub tables : IfSome gathered.empty (λ file. IsTrue (holds_tables file))
