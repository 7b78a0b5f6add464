-- At which files of a folder an inspection may fail.
use Rattle.std.proofs.Common.{◌≡◌, ℕ, zero, suc, ◌<◌, Bool, true, false, List, [], ◌∷◌, ◌++◌, length, get_or, drop, Option, Some, None, Result, Ok, Err, refl, sym, ap, ◌∙◌, subst, arith}
use Rattle.std.specs.Prelude.{IsTrue, IfErr, ◌||◌, flat_map}
use Rattle.std.specs.List.{list_any}
use Rattle.std.specs.Result.{IsErrOf}
use Rattle.std.specs.Str.{bytes_eq}
use Rattle.std.proofs.lemmas.List.Folds.{list_any-append}
use Rattle.std.proofs.lemmas.Slice.Eq.{bytes_eq-Decides}
use Rattle.dev_model.specs.Repeats.{is_among}
use Rattle.product_info.specs.declared.task.Action.{Action}
use Rattle.product_info.specs.declared.task.Action.TheVariants.{Flash, UpdateSuper}
use Rattle.product_info.specs.declared.task.Task.{Task}
use Rattle.product_info.specs.TaskText.{tasks}
use Rattle.flash_plan.specs.declared.product.Flaw.{Flaw}
use Rattle.flash_plan.specs.declared.product.ProductError.{ProductError}
use Rattle.flash_plan.specs.declared.product.ProductError.TheVariants.{Memory, Directory, Bad}
use Rattle.flash_plan.specs.Files.{Files}
use Rattle.flash_plan.specs.Products.{Fault, OfFiles, info_of, requirements_file, tasks_file, super_file, tasks_left}
use Rattle.flash_plan.specs.Inspecting.{Finds, FailsAmong, files_of_action, task_files, looked_by, looked_at, in_file, tasks_in}

or-left : (a b : Bool) → (a || false) ≡ true → (a || b) ≡ true
or-left true b e = refl
or-left false b e = absurd cc

or-right : (a b : Bool) → b ≡ true → (a || b) ≡ true
or-right true b e = refl
or-right false b e = e

-- one file
pub fails-self : (file : List ℕ) → FailsAmong (file ∷ []) (Directory file)
fails-self file = or-left (bytes_eq file file) false (ap (λ b. b || false) ((bytes_eq-Decides file file).1 refl))

pub fails-same : (file name : List ℕ) (e : ProductError) → file ≡ name → FailsAmong (file ∷ []) e → FailsAmong (name ∷ []) e
fails-same file name e n f = subst (λ (x : List ℕ). FailsAmong (x ∷ []) e) n f

pub fails-memory : (names : List (List ℕ)) (e : ProductError) → e ≡ Memory → FailsAmong names e
fails-memory names e m = subst (λ (x : ProductError). FailsAmong names x) (sym m) tt

pub fails-flaw : (names : List (List ℕ)) (e : ProductError) (file : List ℕ) (flaw : Flaw) → e ≡ Bad file flaw → FailsAmong names e
fails-flaw names e file flaw m = subst (λ (x : ProductError). FailsAmong names x) (sym m) tt

-- the file of a task
pub fails-flash : (action : Action) (name file : List ℕ) (other : Bool) (e : ProductError) → action ≡ Flash name file other → FailsAmong (file ∷ []) e → FailsAmong (files_of_action action) e
fails-flash action name file other e a f = subst (λ (x : Action). FailsAmong (files_of_action x) e) (sym a) f

pub fails-update : (action : Action) (e : ProductError) → action ≡ UpdateSuper → FailsAmong (super_file ∷ []) e → FailsAmong (files_of_action action) e
fails-update action e a f = subst (λ (x : Action). FailsAmong (files_of_action x) e) (sym a) f

pub ruleset fails = (fails-self, fails-same, fails-memory, fails-flaw, fails-flash, fails-update)

-- the files of tasks
among-step : (b : Bool) (xs ys : List (List ℕ)) (name : List ℕ) → (is_among xs name ≡ true → is_among (xs ++ ys) name ≡ true) → (b || is_among xs name) ≡ true → (b || is_among (xs ++ ys) name) ≡ true
among-step true xs ys name f e = refl
among-step false xs ys name f e = f e

among-front : (xs ys : List (List ℕ)) (name : List ℕ) → is_among xs name ≡ true → is_among (xs ++ ys) name ≡ true
among-front [] ys name e = absurd cc
among-front (x ∷ xs) ys name e = among-step (bytes_eq x name) xs ys name (λ q. among-front xs ys name q) e

among-back : (xs ys : List (List ℕ)) (name : List ℕ) → is_among ys name ≡ true → is_among (xs ++ ys) name ≡ true
among-back [] ys name e = e
among-back (x ∷ xs) ys name e = or-right (bytes_eq x name) (is_among (xs ++ ys) name) (among-back xs ys name e)

among-item : (list : List Task) (i : ℕ) (task : Task) (name : List ℕ) → i < length list → task ≡ get_or list i task → is_among (files_of_action task.action) name ≡ true → is_among (task_files list) name ≡ true
among-item [] i task name h e m = absurd (omega arith)
among-item (first ∷ list) zero task name h e m =
    among-front (files_of_action first.action) (task_files list) name (subst (λ (x : Task). is_among (files_of_action x.action) name ≡ true) e m)
among-item (first ∷ list) (suc i) task name h e m = among-back (files_of_action first.action) (task_files list) name (among-item list i task name (omega arith) e m)

pub fails-item : (list : List Task) (i : ℕ) (task : Task) (e : ProductError) → i < length list → task ≡ get_or list i task → FailsAmong (files_of_action task.action) e → FailsAmong (task_files list) e
fails-item list i task Memory h q f = tt
fails-item list i task (Directory file) h q f = among-item list i task file h q f
fails-item list i task (Bad file flaw) h q f = tt

-- the files of a folder
among-first : (wipe : Bool) (r : Result (List Task) Flaw) (name : List ℕ) → is_among (requirements_file ∷ []) name ≡ true → is_among (looked_by wipe r) name ≡ true
among-first wipe (Err flaw) name e = or-left (bytes_eq requirements_file name) (is_among (tasks_file ∷ []) name) e
among-first wipe (Ok all) name e = or-left (bytes_eq requirements_file name) (is_among (tasks_file ∷ task_files (tasks_left wipe all)) name) e

among-second : (wipe : Bool) (r : Result (List Task) Flaw) (name : List ℕ) → is_among (tasks_file ∷ []) name ≡ true → is_among (looked_by wipe r) name ≡ true
among-second wipe (Err flaw) name e = or-right (bytes_eq requirements_file name) (is_among (tasks_file ∷ []) name) e
among-second wipe (Ok all) name e =
    or-right (bytes_eq requirements_file name) (is_among (tasks_file ∷ task_files (tasks_left wipe all)) name)
    (or-left (bytes_eq tasks_file name) (is_among (task_files (tasks_left wipe all)) name) e)

among-third : (wipe : Bool) (r : Result (List Task) Flaw) (all : List Task) (name : List ℕ) → in_file tasks_file r ≡ Ok all → is_among (task_files (tasks_left wipe all)) name ≡ true → is_among (looked_by wipe r) name ≡ true
among-third wipe (Err flaw) all name e m = absurd cc
among-third wipe (Ok list) all name e m =
    let same : all ≡ list = cc in
    or-right (bytes_eq requirements_file name) (is_among (tasks_file ∷ task_files (tasks_left wipe list)) name)
    (or-right (bytes_eq tasks_file name) (is_among (task_files (tasks_left wipe list)) name) (subst (λ (xs : List Task). is_among (task_files (tasks_left wipe xs)) name ≡ true) same m))

pub fails-first : (told : Option Files) (wipe : Bool) (e : ProductError) → FailsAmong (requirements_file ∷ []) e → OfFiles told (λ files. FailsAmong (looked_at wipe files) e)
fails-first None wipe e f = tt
fails-first (Some files) wipe Memory f = tt
fails-first (Some files) wipe (Directory file) f = among-first wipe (info_of tasks (files tasks_file)) file f
fails-first (Some files) wipe (Bad file flaw) f = tt

pub fails-second : (told : Option Files) (wipe : Bool) (e : ProductError) → FailsAmong (tasks_file ∷ []) e → OfFiles told (λ files. FailsAmong (looked_at wipe files) e)
fails-second None wipe e f = tt
fails-second (Some files) wipe Memory f = tt
fails-second (Some files) wipe (Directory file) f = among-second wipe (info_of tasks (files tasks_file)) file f
fails-second (Some files) wipe (Bad file flaw) f = tt

pub fails-third : (told : Option Files) (wipe : Bool) (all : List Task) (e : ProductError) → Finds told tasks_in all → FailsAmong (task_files (tasks_left wipe all)) e → OfFiles told (λ files. FailsAmong (looked_at wipe files) e)
fails-third None wipe all e a f = tt
fails-third (Some files) wipe all Memory a f = tt
fails-third (Some files) wipe all (Directory file) a f = among-third wipe (info_of tasks (files tasks_file)) all file a f
fails-third (Some files) wipe all (Bad file flaw) a f = tt

-- the file that an answer names
pub looked-of : {X : Type 0} (told : Option Files) (wipe : Bool) (r : Result X ProductError) (file : List ℕ) → IfErr r (λ e. OfFiles told (λ files. FailsAmong (looked_at wipe files) e)) → IsErrOf r (Directory file) →
    OfFiles told (λ files. IsTrue (is_among (looked_at wipe files) file))
looked-of told wipe (Ok x) file f e = absurd cc
looked-of told wipe (Err x) file f e =
    let same : x ≡ Directory file = cc in
    subst (λ (y : ProductError). OfFiles told (λ files. FailsAmong (looked_at wipe files) y)) same f

pub ruleset names = (looked-of)
