-- What a folder holds for a device (AOSP: android-info.txt, fastboot-info.txt version 1, the images that it
-- names, and super_empty.img), or the first file with a flaw in the order in which files are inspected.
use Rattle.std.specs.Prelude.{◌≡◌, ◌≤◌, ℕ, ◌+◌, Bool, true, false, not, ◌||◌, List, [], ◌∷◌, length, filter}
use Rattle.std.specs.Prelude.{flat_map, nat_lt, Option, Some, None, is_some, IsTrue, IfSome, Result, Ok}
use Rattle.std.specs.Prelude.{Err, if◌then◌else◌, codes}
use Rattle.std.specs.List.{list_any, list_all, sum_by}
use Rattle.product_info.specs.declared.requirement.Requirement.{Requirement}
use Rattle.product_info.specs.declared.task.Action.{Action}
use Rattle.product_info.specs.declared.task.Action.TheVariants.{Flash, Reboot, UpdateSuper, Erase}
use Rattle.product_info.specs.declared.task.Task.{Task}
use Rattle.product_info.specs.Reading.{Reading, Lists, Fails}
use Rattle.product_info.specs.RequirementText.{requirements}
use Rattle.product_info.specs.TaskText.{tasks}
use Rattle.sparse_image.specs.declared.errors.SparseError.{SparseError}
use Rattle.sparse_image.specs.Walks.{Kept, checked}
use Rattle.super_meta.specs.declared.errors.MetaError.{MetaError}
use Rattle.super_meta.specs.Held.{tables_flaw}
use Rattle.wire_model.specs.TableFile.{tables_of}
use Rattle.flash_plan.specs.declared.product.Flaw.{Flaw}
use Rattle.flash_plan.specs.declared.product.Flaw.TheVariants.{Absent, TooLong, TooManyChunks, Info, Image}
use Rattle.flash_plan.specs.declared.product.Flaw.TheVariants.{Meta}
use Rattle.flash_plan.specs.declared.product.Product.{Product}
use Rattle.flash_plan.specs.Files.{Files, is_file_name}

-- a file, and what is wrong with it
abbrev pub Fault : Type 0
Fault = List ℕ × Flaw

abbrev pub requirements_file : List ℕ
requirements_file = codes "android-info.txt"

abbrev pub tasks_file : List ℕ
tasks_file = codes "fastboot-info.txt"

abbrev pub super_file : List ℕ
super_file = codes "super_empty.img"

-- goes on with what a file holds, or stops at its flaw
abbrev pub at_file : {X Y : Type 0} → List ℕ → Result X Flaw → (X → Result Y Fault) → Result Y Fault
at_file file (Err flaw) onward = Err (file, flaw)
at_file file (Ok x) onward = onward x

-- the bytes of a file, at most this number
abbrev pub text_of : ℕ → Option (List ℕ) → Result (List ℕ) Flaw
text_of most None = Err Absent
text_of most (Some text) = if nat_lt most (length text) then Err TooLong else Ok text

-- what the lines of an info file say
abbrev pub said : {A : Type 0} → Reading A → Result (List A) Flaw
said (Lists items) = Ok items
said (Fails line kind) = Err (Info line kind)

-- an info file of at most 65,536 bytes
abbrev pub info_by : {A : Type 0} → (List ℕ → Reading A) → Result (List ℕ) Flaw → Result (List A) Flaw
info_by read (Err flaw) = Err flaw
info_by read (Ok text) = said (read text)

abbrev pub info_of : {A : Type 0} → (List ℕ → Reading A) → Option (List ℕ) → Result (List A) Flaw
info_of read file = info_by read (text_of 65536 file)

-- what is kept of an image after others with n chunks: all images together have at most 4,000,000
abbrev pub counted : ℕ → Result Kept SparseError → Result Kept Flaw
counted chunks (Err flaw) = Err (Image flaw)
counted chunks (Ok kept) = if nat_lt 4000000 (chunks + length kept.chunks) then Err TooManyChunks else Ok kept

abbrev pub image_by : ℕ → Option (List ℕ) → Result Kept Flaw
image_by chunks None = Err Absent
image_by chunks (Some file) = counted chunks (checked file)

-- an image of an empty super, or its first flaw
abbrev pub unflawed : List ℕ → Option MetaError → Result (List ℕ) Flaw
unflawed file (Some flaw) = Err (Meta flaw)
unflawed file None = Ok file

abbrev pub empty_by : Result (List ℕ) Flaw → Result (List ℕ) Flaw
empty_by (Err flaw) = Err flaw
empty_by (Ok file) = unflawed file (tables_flaw file)

-- super_empty.img, of at most 131,072 bytes
abbrev pub empty_of : Option (List ℕ) → Result (List ℕ) Flaw
empty_of file = empty_by (text_of 131072 file)

-- what the tasks bring: what is kept of the images, and super_empty.img
pub record Brought : Type 0 where
  pub images : List Kept
  pub empty : Option (List ℕ)

-- an image before those of later tasks
abbrev pub with_image : Kept → Result Brought Fault → Result Brought Fault
with_image kept (Err fault) = Err fault
with_image kept (Ok brought) = Ok (record brought { images = kept ∷ brought.images })

-- super_empty.img, which later tasks may bring again
abbrev pub with_empty : List ℕ → Result Brought Fault → Result Brought Fault
with_empty file (Err fault) = Err fault
with_empty file (Ok brought) = Ok (record brought { empty = Some file })

-- the files of a task after images with n chunks, and then those of later tasks after the chunks of all
abbrev pub brought_for : Files → ℕ → Action → (ℕ → Result Brought Fault) → Result Brought Fault
brought_for files chunks (Flash name file other) later =
    at_file file (image_by chunks (files file))
    (λ kept. with_image kept (later (chunks + length kept.chunks)))
brought_for files chunks UpdateSuper later =
    at_file super_file (empty_of (files super_file)) (λ file. with_empty file (later chunks))
brought_for files chunks (Reboot what) later = later chunks
brought_for files chunks (Erase name) later = later chunks

-- the files of the tasks in their order, after images with n chunks, or the first with a flaw
abbrev pub brought_by : Files → ℕ → List Task → Result Brought Fault
brought_by files chunks [] = Ok (record { images = []; empty = None })
brought_by files chunks (task ∷ tasks) = brought_for files chunks task.action (λ n. brought_by files n tasks)

-- the tasks of a run that wipes, or those of any run
abbrev pub tasks_left : Bool → List Task → List Task
tasks_left wipe tasks = filter (λ task. wipe || not task.if_wipe) tasks

-- the product of these requirements, these tasks and what they bring
abbrev pub product_by : List Requirement → List Task → Result Brought Fault → Result Product Fault
product_by wanted tasks (Err fault) = Err fault
product_by wanted tasks (Ok brought) =
    Ok (record { requirements = wanted; tasks = tasks; images = brought.images; empty = brought.empty })

-- The product of a folder, or its first file with a flaw. Tasks for a run that wipes are left out of another.
unfoldable pub product_of : Files → Bool → Result Product Fault
product_of files wipe =
    at_file requirements_file (info_of requirements (files requirements_file)) (λ wanted.
    at_file tasks_file (info_of tasks (files tasks_file)) (λ all.
    product_by wanted (tasks_left wipe all) (brought_by files 0 (tasks_left wipe all))))

-- the task updates super
abbrev pub is_update_action : Action → Bool
is_update_action UpdateSuper = true
is_update_action _ = false

abbrev pub is_update : Task → Bool
is_update task = is_update_action task.action

-- the file of a flash task
abbrev pub file_of_action : Action → List (List ℕ)
file_of_action (Flash name file other) = file ∷ []
file_of_action _ = []

abbrev pub image_file : Task → List (List ℕ)
image_file task = file_of_action task.action

-- an image of an empty super holds tables
abbrev pub holds_tables : List ℕ → Bool
holds_tables file = is_some (tables_of file)

-- What each product has: it keeps the limits, there is an image for each flash task, whose file has a file's
-- name, and tables where a task updates super.
pub record IsWhole (product : Product) : Type 0 where
  pub few_requirements : length product.requirements ≤ 256
  pub few_tasks : length product.tasks ≤ 256
  pub few_chunks : sum_by (λ kept. length kept.chunks) product.images ≤ 4000000
  pub images : length product.images ≡ length (flat_map image_file product.tasks)
  pub updates : IsTrue (not (list_any is_update product.tasks) || is_some product.empty)
  pub names : IsTrue (list_all is_file_name (flat_map image_file product.tasks))
  pub tables : IfSome product.empty (λ file. IsTrue (holds_tables file))

-- a fact of the files that a folder tells
abbrev pub OfFiles : Option Files → (Files → Type 0) → Type 0
OfFiles None P = Unit {0}
OfFiles (Some files) P = P files
