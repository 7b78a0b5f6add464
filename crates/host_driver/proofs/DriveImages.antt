-- The images of a folder's product are what is kept of their files.
use Rattle.std.proofs.Common.{◌≡◌, ℕ, zero, suc, ◌+◌, Bool, true, false, List, [], ◌∷◌, ◌++◌, length, Option, Some, None, refl, sym, ap, subst}
use Rattle.std.specs.Prelude.{Result, Ok, Err, flat_map, slice_get, nat_lt, if◌then◌else◌}
use Rattle.product_info.specs.declared.requirement.Requirement.{Requirement}
use Rattle.product_info.specs.declared.task.Action.{Action}
use Rattle.product_info.specs.declared.task.Action.TheVariants.{Flash, Reboot, UpdateSuper, Erase}
use Rattle.product_info.specs.declared.task.Task.{Task}
use Rattle.product_info.specs.RequirementText.{requirements}
use Rattle.product_info.specs.TaskText.{tasks}
use Rattle.sparse_image.specs.declared.errors.SparseError.{SparseError}
use Rattle.sparse_image.specs.Walks.{Kept as KeptImage, checked}
use Rattle.flash_plan.specs.declared.product.Flaw.{Flaw}
use Rattle.flash_plan.specs.declared.product.Flaw.TheVariants as flaw
use Rattle.flash_plan.specs.declared.product.Product.{Product}
use Rattle.flash_plan.specs.Files.{Files}
use Rattle.flash_plan.specs.Products.{Fault, Brought, at_file, info_of, counted, image_by, empty_of, super_file, requirements_file, tasks_file, with_image, with_empty, brought_for, brought_by, tasks_left, product_by, product_of, image_file, file_of_action}
use Rattle.host_driver.specs.Taking.{IsKeptOf, AreImages}

-- a file that went on
at-ok : {X Y : Type 0} (file : List ℕ) (r : Result X Flaw) (onward : X → Result Y Fault) (y : Y) → at_file file r onward ≡ Ok y → (x : X) × (r ≡ Ok x) × (onward x ≡ Ok y)
at-ok file (Err flaw) onward y e = absurd cc
at-ok file (Ok x) onward y e = (x, refl, e)

-- an image that was kept
counted-ok : (chunks : ℕ) (r : Result KeptImage SparseError) (kept : KeptImage) → counted chunks r ≡ Ok kept → r ≡ Ok kept
counted-ok chunks (Err flaw) kept e = absurd cc
counted-ok chunks (Ok k) kept e = by (nat_lt 4000000 (chunks + length k.chunks)) e
  where
    by : (b : Bool) → (if b then Err flaw.TooManyChunks else Ok k) ≡ Ok kept → ◌≡◌ {A = Result KeptImage SparseError} (Ok k) (Ok kept)
    by true q = absurd cc
    by false q = let same : k ≡ kept = cc in ap Ok same

image-ok : (chunks : ℕ) (file : Option (List ℕ)) (kept : KeptImage) → image_by chunks file ≡ Ok kept → IsKeptOf file kept
image-ok chunks None kept e = absurd cc
image-ok chunks (Some bytes) kept e = (bytes, refl, counted-ok chunks (checked bytes) kept e)

with-ok : (kept : KeptImage) (r : Result Brought Fault) (all : Brought) → with_image kept r ≡ Ok all → (b : Brought) × (r ≡ Ok b) × (all.images ≡ kept ∷ b.images)
with-ok kept (Err fault) all e = absurd cc
with-ok kept (Ok b) all e = (b, refl, (let same : record b { images = kept ∷ b.images } ≡ all = cc in sym (ap (λ (x : Brought). x.images) same)))

empty-ok : (file : List ℕ) (r : Result Brought Fault) (all : Brought) → with_empty file r ≡ Ok all → (b : Brought) × (r ≡ Ok b) × (all.images ≡ b.images)
empty-ok file (Err fault) all e = absurd cc
empty-ok file (Ok b) all e = (b, refl, (let same : record b { empty = Some file } ≡ all = cc in sym (ap (λ (x : Brought). x.images) same)))

abbrev AreKeptOf : Files → List (List ℕ) → List KeptImage → Type 0
AreKeptOf files names images = (place : ℕ) (name : List ℕ) (kept : KeptImage) → slice_get names place ≡ Some name → slice_get images place ≡ Some kept → IsKeptOf (files name) kept

kept-first : (files : Files) (file : List ℕ) (names : List (List ℕ)) (one : KeptImage) (images : List KeptImage) → IsKeptOf (files file) one → AreKeptOf files names images → AreKeptOf files (file ∷ names) (one ∷ images)
kept-first files file names one images k rest zero name kept e f =
    let same : file ≡ name = cc in
    let it : one ≡ kept = cc in
    subst (λ n. IsKeptOf (files n) kept) same (subst (IsKeptOf (files file)) it k)
kept-first files file names one images k rest (suc place) name kept e f = rest place name kept e f

images-for : (files : Files) (n : ℕ) (action : Action) (later : ℕ → Result Brought Fault) (names : List (List ℕ)) (all : Brought) → ((m : ℕ) (b : Brought) → later m ≡ Ok b → AreKeptOf files names b.images) →
    brought_for files n action later ≡ Ok all → AreKeptOf files (file_of_action action ++ names) all.images
images-for files n (Flash name file other) later names all rest e =
    let a = at-ok file (image_by n (files file)) (λ kept. with_image kept (later (n + length kept.chunks))) all e in
    let b = with-ok a.0 (later (n + length a.0.chunks)) all a.2 in
    subst (AreKeptOf files (file ∷ names)) (sym b.2) (kept-first files file names a.0 b.0.images (image-ok n (files file) a.0 a.1) (rest (n + length a.0.chunks) b.0 b.1))
images-for files n UpdateSuper later names all rest e =
    let a = at-ok super_file (empty_of (files super_file)) (λ file. with_empty file (later n)) all e in
    let b = empty-ok a.0 (later n) all a.2 in
    subst (AreKeptOf files names) (sym b.2) (rest n b.0 b.1)
images-for files n (Reboot what) later names all rest e = rest n all e
images-for files n (Erase name) later names all rest e = rest n all e

images-by : (files : Files) (n : ℕ) (list : List Task) (all : Brought) → brought_by files n list ≡ Ok all → AreKeptOf files (flat_map image_file list) all.images
images-by files n [] all e = λ place name kept f g. absurd (none place name f)
  where
    none : (place : ℕ) (name : List ℕ) → slice_get [] place ≡ Some name → ⊥
    none zero name f = cc
    none (suc place) name f = cc
images-by files n (task ∷ list) all e = images-for files n task.action (λ m. brought_by files m list) (flat_map image_file list) all (λ m b q. images-by files m list b q) e

product-ok : (wanted : List Requirement) (list : List Task) (r : Result Brought Fault) (product : Product) → product_by wanted list r ≡ Ok product → (b : Brought) × (r ≡ Ok b) × (product.tasks ≡ list) × (product.images ≡ b.images)
product-ok wanted list (Err fault) product e = absurd cc
product-ok wanted list (Ok b) product e =
    let same : record { requirements = wanted; tasks = list; images = b.images; empty = b.empty } ≡ product = cc in
    (b, refl, sym (ap (λ (x : Product). x.tasks) same), sym (ap (λ (x : Product). x.images) same))

-- The images of the product of a folder.
pub images_are : (files : Files) (wipe : Bool) (product : Product) → product_of files wipe ≡ Ok product → AreImages product files
unfolding product_of
images_are files wipe product e =
    let a = at-ok requirements_file (info_of requirements (files requirements_file)) _ product e in
    let b = at-ok tasks_file (info_of tasks (files tasks_file)) _ product a.2 in
    let list = tasks_left wipe b.0 in
    let p = product-ok a.0 list (brought_by files 0 list) product b.2 in
    λ place name kept f g.
    images-by files 0 list p.0 p.1 place name kept (subst (λ l. slice_get (flat_map image_file l) place ≡ Some name) p.2 f) (subst (λ i. slice_get i place ≡ Some kept) p.3 g)
