-- What the files of tasks bring, task by task, and the product of a whole folder.
use Rattle.std.proofs.Common.{◌≡◌, ℕ, zero, suc, ◌+◌, ◌<◌, ◌≤◌, Bool, true, false, List, [], ◌∷◌, ◌++◌, length, take, drop, Option, Some, None, Result, Ok, Err, refl, sym, ap, ◌∙◌, subst, arith, append_assoc, length-append, get_or, add-one, drop-cons}
use Rattle.std.specs.Prelude.{IsTrue, IfSome, not, ◌||◌, is_some, flat_map}
use Rattle.std.specs.List.{list_any, list_all}
use Rattle.std.specs.Option.{option_or}
use Rattle.std.specs.Prelude.{IfErr}
use Rattle.std.specs.Result.{IsErrOf}
use Rattle.std.proofs.lemmas.List.{append-nil}
use Rattle.std.proofs.Math.Seq.{take-suc}
use Rattle.std.proofs.lemmas.List.Folds.{list_any-append}
use Rattle.std.proofs.lemmas.List.Sums.{sum_by_push}
use Rattle.std.proofs.lemmas.Grind.{flat_map-append}
use Rattle.fb_frame.specs.Causes.{Rose}
use Rattle.product_info.specs.declared.requirement.Requirement.{Requirement}
use Rattle.product_info.specs.declared.task.Task.{Task}
use Rattle.product_info.specs.declared.task.Action.{Action}
use Rattle.product_info.specs.declared.task.Action.TheVariants.{Flash, Reboot, UpdateSuper, Erase}
use Rattle.product_info.specs.RequirementText.{requirements}
use Rattle.product_info.specs.TaskText.{tasks}
use Rattle.fb_message.specs.declared.command.BootTarget.{BootTarget}
use Rattle.sparse_image.specs.Walks.{Kept}
use Rattle.flash_plan.specs.declared.inspect.Gathered.{Gathered}
use Rattle.flash_plan.specs.declared.product.Flaw.{Flaw}
use Rattle.flash_plan.specs.declared.product.ProductError.{ProductError}
use Rattle.flash_plan.specs.declared.product.ProductError.TheVariants.{Memory, Directory, Bad}
use Rattle.flash_plan.specs.Files.{Files, is_file_name}
use Rattle.flash_plan.specs.Products.{Fault, Brought, OfFiles, at_file, image_by, empty_of, info_of, requirements_file, tasks_file, super_file, with_image, with_empty, brought_for, brought_by, product_of, product_by, tasks_left, image_file, file_of_action, is_update, is_update_action, holds_tables, IsWhole}
use Rattle.flash_plan.specs.Inspecting.{Finds, Stops, in_file, requirements_in, tasks_in, image_in, empty_in, and_image, and_empty, and_later, brought_after, Takes, IsGathered}
use Rattle.flash_plan.proofs.InspectLemmas.{all-parts, left-few, left-named}

abbrev stopped : {Y : Type 0} → Fault → Result Y Fault
stopped fault = Err fault

abbrev brings : List Kept → Option (List ℕ) → Result Brought Fault
brings images empty = Ok (record { images = images; empty = empty })

-- Goes on with what stands in a file.
at-ok : {X Y : Type 0} (file : List ℕ) (r : Result X Flaw) (x : X) (onward : X → Result Y Fault) → in_file file r ≡ Ok x → at_file file r onward ≡ onward x
at-ok file (Ok y) x onward e = let same : y ≡ x = cc in ap onward same
at-ok file (Err f) x onward e = absurd cc

at-err : {X Y : Type 0} (file : List ℕ) (r : Result X Flaw) (fault : Fault) (onward : X → Result Y Fault) → in_file file r ≡ Err fault → at_file file r onward ≡ Err fault
at-err file (Ok y) fault onward e = absurd cc
at-err file (Err f) fault onward e = let same : (file, f) ≡ fault = cc in ap (λ (x : Fault). stopped x) same

-- an image more
later-image : (old : Gathered) (kept : Kept) (r : Result Brought Fault) → and_later old (with_image kept r) ≡ and_later (and_image old kept) r
later-image old kept (Err fault) = refl
later-image old kept (Ok brought) =
    ap (λ (images : List Kept). brings images (option_or old.empty brought.empty)) (sym (append_assoc old.images (kept ∷ []) brought.images))

or-first : (a b : Option (List ℕ)) (file : List ℕ) → option_or a (Some file) ≡ option_or (option_or a (Some file)) b
or-first None b file = refl
or-first (Some x) b file = refl

later-empty : (old : Gathered) (file : List ℕ) (r : Result Brought Fault) → and_later old (with_empty file r) ≡ and_later (and_empty old file) r
later-empty old file (Err fault) = refl
later-empty old file (Ok brought) =
    ap (λ (e : Option (List ℕ)). brings (old.images ++ brought.images) e) (or-first old.empty brought.empty file)

-- a flash task
flash-takes : (told : Option Files) (name file : List ℕ) (other : Bool) (old : Gathered) (kept : Kept) → Finds told (image_in file old.chunks) kept → Takes told (Flash name file other) old (and_image old kept)
flash-takes None name file other old kept f later = tt
flash-takes (Some files) name file other old kept f later =
    ap (λ x. and_later old x) (at-ok file (image_by old.chunks (files file)) kept (λ k. with_image k (later (old.chunks + length k.chunks))) f)
    ∙ later-image old kept (later (old.chunks + length kept.chunks))

pub takes-image : (told : Option Files) (action : Action) (name file : List ℕ) (other : Bool) (old new : Gathered) (kept : Kept) → action ≡ Flash name file other → Finds told (image_in file old.chunks) kept → new ≡ and_image old kept →
    Takes told action old new
takes-image told action name file other old new kept a f n =
    subst (λ (x : Gathered). Takes told action old x) (sym n) (subst (λ (x : Action). Takes told x old (and_image old kept)) (sym a) (flash-takes told name file other old kept f))

and-later-err : (old : Gathered) (r : Result Brought Fault) (fault : Fault) → r ≡ Err fault → and_later old r ≡ Err fault
and-later-err old r fault e = ap (λ x. and_later old x) e

flash-stops : (told : Option Files) (name file : List ℕ) (other : Bool) (old : Gathered) (later : ℕ → Result Brought Fault) (before now : ℕ) (e : ProductError) → Stops told (image_in file old.chunks) before now e →
    Stops told (brought_after old (Flash name file other) later) before now e
flash-stops told name file other old later before now Memory s = tt
flash-stops told name file other old later before now (Directory at) s = s
flash-stops None name file other old later before now (Bad at flaw) s = tt
flash-stops (Some files) name file other old later before now (Bad at flaw) s =
    and-later-err old (brought_for files old.chunks (Flash name file other) later) (at, flaw)
    (at-err file (image_by old.chunks (files file)) (at, flaw) (λ k. with_image k (later (old.chunks + length k.chunks))) s)

pub stops-image : (told : Option Files) (action : Action) (name file : List ℕ) (other : Bool) (old : Gathered) (later : ℕ → Result Brought Fault) (before now : ℕ) (e : ProductError) → action ≡ Flash name file other →
    Stops told (image_in file old.chunks) before now e → Stops told (brought_after old action later) before now e
stops-image told action name file other old later before now e a s =
    subst (λ (x : Action). Stops told (brought_after old x later) before now e) (sym a) (flash-stops told name file other old later before now e s)

-- a task that updates super
update-takes : (told : Option Files) (old : Gathered) (file : List ℕ) → Finds told empty_in file → Takes told UpdateSuper old (and_empty old file)
update-takes None old file f later = tt
update-takes (Some files) old file f later =
    ap (λ x. and_later old x) (at-ok super_file (empty_of (files super_file)) file (λ t. with_empty t (later old.chunks)) f)
    ∙ later-empty old file (later old.chunks)

pub takes-empty : (told : Option Files) (action : Action) (old new : Gathered) (file : List ℕ) → action ≡ UpdateSuper → Finds told empty_in file → new ≡ and_empty old file → Takes told action old new
takes-empty told action old new file a f n =
    subst (λ (x : Gathered). Takes told action old x) (sym n) (subst (λ (x : Action). Takes told x old (and_empty old file)) (sym a) (update-takes told old file f))

update-stops : (told : Option Files) (old : Gathered) (later : ℕ → Result Brought Fault) (before now : ℕ) (e : ProductError) → Stops told empty_in before now e → Stops told (brought_after old UpdateSuper later) before now e
update-stops told old later before now Memory s = tt
update-stops told old later before now (Directory at) s = s
update-stops None old later before now (Bad at flaw) s = tt
update-stops (Some files) old later before now (Bad at flaw) s =
    and-later-err old (brought_for files old.chunks UpdateSuper later) (at, flaw)
    (at-err super_file (empty_of (files super_file)) (at, flaw) (λ t. with_empty t (later old.chunks)) s)

pub stops-empty : (told : Option Files) (action : Action) (old : Gathered) (later : ℕ → Result Brought Fault) (before now : ℕ) (e : ProductError) → action ≡ UpdateSuper → Stops told empty_in before now e →
    Stops told (brought_after old action later) before now e
stops-empty told action old later before now e a s = subst (λ (x : Action). Stops told (brought_after old x later) before now e) (sym a) (update-stops told old later before now e s)

-- a task without a file
none-takes : (told : Option Files) (action : Action) (old : Gathered) → ((files : Files) (n : ℕ) (later : ℕ → Result Brought Fault) → brought_for files n action later ≡ later n) → Takes told action old old
none-takes None action old h later = tt
none-takes (Some files) action old h later = ap (λ x. and_later old x) (h files old.chunks later)

pub takes-reboot : (told : Option Files) (action : Action) (what : BootTarget) (old : Gathered) → action ≡ Reboot what → Takes told action old old
takes-reboot told action what old a = none-takes told action old (λ files n later. ap (λ x. brought_for files n x later) a)

pub takes-erase : (told : Option Files) (action : Action) (name : List ℕ) (old : Gathered) → action ≡ Erase name → Takes told action old old
takes-erase told action name old a = none-takes told action old (λ files n later. ap (λ x. brought_for files n x later) a)

pub stops-memory : {X : Type 0} (told : Option Files) (held : Files → Result X Fault) (before now : ℕ) (e : ProductError) → e ≡ Memory → Stops told held before now e
stops-memory told held before now e m = subst (λ (x : ProductError). Stops told held before now x) (sym m) tt

-- what was gathered is what the tasks bring
or-nothing : (a b : Bool) → (not a || b) ≡ true → (not (a || false) || b) ≡ true
or-nothing true b h = h
or-nothing false b h = h

or-some : (a : Bool) (o : Option (List ℕ)) (file : List ℕ) → (not a || is_some (option_or o (Some file))) ≡ true
or-some true None file = refl
or-some true (Some x) file = refl
or-some false o file = refl

tables-kept : (o : Option (List ℕ)) (file : List ℕ) → IfSome o (λ f. IsTrue (holds_tables f)) → IsTrue (holds_tables file) → IfSome (option_or o (Some file)) (λ f. IsTrue (holds_tables f))
tables-kept None file h t = t
tables-kept (Some x) file h t = h

files-more : (done : List Task) (task : Task) → length (flat_map image_file (done ++ task ∷ [])) ≡ length (flat_map image_file done) + length (image_file task)
files-more done task =
    ap length (flat_map-append image_file done (task ∷ []) ∙ ap (λ (x : List (List ℕ)). flat_map image_file done ++ x) (append-nil (image_file task)))
    ∙ length-append (flat_map image_file done) (image_file task)

updates-more : (done : List Task) (task : Task) → list_any is_update (done ++ task ∷ []) ≡ (list_any is_update done || (is_update task || false))
updates-more done task = list_any-append is_update done (task ∷ [])

image-gathered : (done : List Task) (task : Task) (name file : List ℕ) (other : Bool) (old : Gathered) (kept : Kept) → task.action ≡ Flash name file other → old.chunks + length kept.chunks ≤ 4000000 → IsGathered done old →
    IsGathered (done ++ task ∷ []) (and_image old kept)
image-gathered done task name file other old kept a h g =
    let one : length (image_file task) ≡ 1 = ap (λ x. length (file_of_action x)) a in
    let other_task : is_update task ≡ false = ap is_update_action a in
    record {
      count = sum_by_push (λ (k : Kept). length k.chunks) old.images kept ∙ ap (λ (n : ℕ). n + length kept.chunks) g.count;
      few = h;
      images = length-append old.images (kept ∷ []) ∙ (omega (arith, g.images, one) ∙ sym (files-more done task));
      updates = ap (λ b. not b || is_some old.empty) (updates-more done task ∙ ap (λ b. list_any is_update done || (b || false)) other_task)
          ∙ or-nothing (list_any is_update done) (is_some old.empty) g.updates;
      tables = g.tables;
    }

empty-gathered : (done : List Task) (task : Task) (old : Gathered) (file : List ℕ) → task.action ≡ UpdateSuper → IsTrue (holds_tables file) → IsGathered done old → IsGathered (done ++ task ∷ []) (and_empty old file)
empty-gathered done task old file a t g =
    let nothing : length (image_file task) ≡ 0 = ap (λ x. length (file_of_action x)) a in
    record {
      count = g.count;
      few = g.few;
      images = omega (arith, g.images, nothing, files-more done task);
      updates = or-some (list_any is_update (done ++ task ∷ [])) old.empty file;
      tables = tables-kept old.empty file g.tables t;
    }

none-gathered : (done : List Task) (task : Task) (old : Gathered) → length (image_file task) ≡ 0 → is_update task ≡ false → IsGathered done old → IsGathered (done ++ task ∷ []) old
none-gathered done task old nothing other_task g =
    record {
      count = g.count;
      few = g.few;
      images = omega (arith, g.images, nothing, files-more done task);
      updates = ap (λ b. not b || is_some old.empty) (updates-more done task ∙ ap (λ b. list_any is_update done || (b || false)) other_task)
          ∙ or-nothing (list_any is_update done) (is_some old.empty) g.updates;
      tables = g.tables;
    }

pub gathered-image : (done : List Task) (task : Task) (name file : List ℕ) (other : Bool) (old new : Gathered) (kept : Kept) → task.action ≡ Flash name file other → old.chunks + length kept.chunks ≤ 4000000 → new ≡ and_image old kept →
    IsGathered done old → IsGathered (done ++ task ∷ []) new
gathered-image done task name file other old new kept a h n g = subst (IsGathered (done ++ task ∷ [])) (sym n) (image-gathered done task name file other old kept a h g)

pub gathered-empty : (done : List Task) (task : Task) (old new : Gathered) (file : List ℕ) → task.action ≡ UpdateSuper → IsTrue (holds_tables file) → new ≡ and_empty old file → IsGathered done old → IsGathered (done ++ task ∷ []) new
gathered-empty done task old new file a t n g = subst (IsGathered (done ++ task ∷ [])) (sym n) (empty-gathered done task old file a t g)

pub gathered-reboot : (done : List Task) (task : Task) (what : BootTarget) (old : Gathered) → task.action ≡ Reboot what → IsGathered done old → IsGathered (done ++ task ∷ []) old
gathered-reboot done task what old a g = none-gathered done task old (ap (λ x. length (file_of_action x)) a) (ap is_update_action a) g

pub gathered-erase : (done : List Task) (task : Task) (name : List ℕ) (old : Gathered) → task.action ≡ Erase name → IsGathered done old → IsGathered (done ++ task ∷ []) old
gathered-erase done task name old a g = none-gathered done task old (ap (λ x. length (file_of_action x)) a) (ap is_update_action a) g

pub ruleset takes =
    (takes-image, stops-image, takes-empty, stops-empty, takes-reboot, takes-erase, stops-memory, gathered-image, gathered-empty, gathered-reboot, gathered-erase)

-- the loop over the tasks
abbrev pub nothing : Gathered
nothing = record { images = []; chunks = 0; empty = None }

and-later-none : (r : Result Brought Fault) → and_later nothing r ≡ r
and-later-none (Err fault) = refl
and-later-none (Ok brought) = refl

-- what stands after the first tasks
abbrev pub Continues : Option Files → List Task → Gathered → List Task → Type 0
Continues told all gathered left = OfFiles told (λ files. brought_by files 0 all ≡ and_later gathered (brought_by files gathered.chunks left))

pub continues-start : (told : Option Files) (all : List Task) → Continues told all nothing all
continues-start None all = tt
continues-start (Some files) all = sym (and-later-none (brought_by files 0 all))

pub continues-next : (told : Option Files) (all left rest : List Task) (task : Task) (old new : Gathered) → left ≡ task ∷ rest → Continues told all old left → Takes told task.action old new → Continues told all new rest
continues-next None all left rest task old new l c t = tt
continues-next (Some files) all left rest task old new l c t =
    c ∙ ap (λ (xs : List Task). and_later old (brought_by files old.chunks xs)) l ∙ t (λ n. brought_by files n rest)

or-none : (a : Option (List ℕ)) → option_or a None ≡ a
or-none None = refl
or-none (Some x) = refl

later-none : (g : Gathered) → and_later g (Ok (record { images = []; empty = None })) ≡ Ok (record { images = g.images; empty = g.empty })
later-none g =
    ap (λ (images : List Kept). brings images (option_or g.empty None)) (append-nil g.images)
    ∙ ap (λ (e : Option (List ℕ)). brings g.images e) (or-none g.empty)

pub continues-end : (told : Option Files) (all left : List Task) (g : Gathered) → left ≡ [] → Continues told all g left → Finds told (λ files. brought_by files 0 all) (record { images = g.images; empty = g.empty })
continues-end None all left g l c = tt
continues-end (Some files) all left g l c =
    c ∙ ap (λ (xs : List Task). and_later g (brought_by files g.chunks xs)) l ∙ later-none g

rose-later : (before mid now : ℕ) → before ≤ mid → Rose mid now → Rose before now
rose-later before mid now h r = omega (arith, r)

pub continues-stop : (told : Option Files) (all left rest : List Task) (task : Task) (old : Gathered) (before mid now : ℕ) (e : ProductError) → left ≡ task ∷ rest → Continues told all old left → before ≤ mid →
    ((later : ℕ → Result Brought Fault) → Stops told (brought_after old task.action later) mid now e) → Stops told (λ files. brought_by files 0 all) before now e
continues-stop told all left rest task old before mid now Memory l c h s = tt
continues-stop told all left rest task old before mid now (Directory at) l c h s = rose-later before mid now h (s (λ n. Ok (record { images = []; empty = None })))
continues-stop None all left rest task old before mid now (Bad at flaw) l c h s = tt
continues-stop (Some files) all left rest task old before mid now (Bad at flaw) l c h s =
    c ∙ ap (λ (xs : List Task). and_later old (brought_by files old.chunks xs)) l ∙ s (λ n. brought_by files n rest)

pub gathered-none : IsGathered [] nothing
gathered-none = record { count = refl; few = omega arith; images = refl; updates = refl; tables = tt }

-- the task at a place
pub drop-item : (list : List Task) (i : ℕ) (task : Task) → i < length list → task ≡ get_or list i task → drop i list ≡ task ∷ drop (i + 1) list
drop-item list i task h e =
    rw add-one (drop-cons list i task h ∙ ap (λ (x : Task). x ∷ drop (suc i) list) (sym e))

pub take-item : (list : List Task) (i : ℕ) (task : Task) → i < length list → task ≡ get_or list i task → take i list ++ task ∷ [] ≡ take (i + 1) list
take-item list i task h e =
    rw add-one (ap (λ (x : Task). take i list ++ x ∷ []) e ∙ sym (take-suc list i task h))

named-drop : (i : ℕ) (list : List Task) → IsTrue (list_all is_file_name (flat_map image_file list)) → IsTrue (list_all is_file_name (flat_map image_file (drop i list)))
named-drop zero list n = n
named-drop (suc i) [] n = n
named-drop (suc i) (task ∷ list) n = named-drop i list (all-parts is_file_name (image_file task) (flat_map image_file list) n).1

pub named-item : (list : List Task) (i : ℕ) (task : Task) → i < length list → task ≡ get_or list i task → IsTrue (list_all is_file_name (flat_map image_file list)) → IsTrue (list_all is_file_name (image_file task))
named-item list i task h e n =
    (all-parts is_file_name (image_file task) (flat_map image_file (drop (i + 1) list))
    (subst (λ (xs : List Task). IsTrue (list_all is_file_name (flat_map image_file xs))) (drop-item list i task h e) (named-drop i list n))).0

pub ruleset loops = (continues-start, continues-next, continues-end, continues-stop, gathered-none)

-- the whole folder
pub product-found : (told : Option Files) (wipe : Bool) (wanted : List Requirement) (all left : List Task) (images : List Kept) (empty : Option (List ℕ)) → Finds told requirements_in wanted → Finds told tasks_in all →
    left ≡ tasks_left wipe all → Finds told (λ files. brought_by files 0 left) (record { images = images; empty = empty }) →
    Finds told (λ files. product_of files wipe) (record { requirements = wanted; tasks = left; images = images; empty = empty })
unfolding product_of
product-found None wipe wanted all left images empty a b l c = tt
product-found (Some files) wipe wanted all left images empty a b l c =
    at-ok requirements_file (info_of requirements (files requirements_file)) wanted
    (λ wanted. at_file tasks_file (info_of tasks (files tasks_file)) (λ all. product_by wanted (tasks_left wipe all) (brought_by files 0 (tasks_left wipe all)))) a
    ∙ at-ok tasks_file (info_of tasks (files tasks_file)) all (λ all. product_by wanted (tasks_left wipe all) (brought_by files 0 (tasks_left wipe all))) b
    ∙ ap (λ (xs : List Task). product_by wanted xs (brought_by files 0 xs)) (sym l)
    ∙ ap (λ x. product_by wanted left x) c

-- what stops at the requirements, at the tasks, or at a file of a task
pub first-stop : (told : Option Files) (wipe : Bool) (before now : ℕ) (e : ProductError) → Stops told requirements_in before now e → Stops told (λ files. product_of files wipe) before now e
unfolding product_of
first-stop told wipe before now Memory s = tt
first-stop told wipe before now (Directory at) s = s
first-stop None wipe before now (Bad at flaw) s = tt
first-stop (Some files) wipe before now (Bad at flaw) s =
    at-err requirements_file (info_of requirements (files requirements_file)) (at, flaw)
    (λ wanted. at_file tasks_file (info_of tasks (files tasks_file)) (λ all. product_by wanted (tasks_left wipe all) (brought_by files 0 (tasks_left wipe all)))) s

pub second-stop : (told : Option Files) (wipe : Bool) (wanted : List Requirement) (before mid now : ℕ) (e : ProductError) → Finds told requirements_in wanted → before ≤ mid → Stops told tasks_in mid now e →
    Stops told (λ files. product_of files wipe) before now e
unfolding product_of
second-stop told wipe wanted before mid now Memory a h s = tt
second-stop told wipe wanted before mid now (Directory at) a h s = rose-later before mid now h s
second-stop None wipe wanted before mid now (Bad at flaw) a h s = tt
second-stop (Some files) wipe wanted before mid now (Bad at flaw) a h s =
    at-ok requirements_file (info_of requirements (files requirements_file)) wanted
    (λ wanted. at_file tasks_file (info_of tasks (files tasks_file)) (λ all. product_by wanted (tasks_left wipe all) (brought_by files 0 (tasks_left wipe all)))) a
    ∙ at-err tasks_file (info_of tasks (files tasks_file)) (at, flaw) (λ all. product_by wanted (tasks_left wipe all) (brought_by files 0 (tasks_left wipe all))) s

pub third-stop : (told : Option Files) (wipe : Bool) (wanted : List Requirement) (all left : List Task) (before mid now : ℕ) (e : ProductError) → Finds told requirements_in wanted → Finds told tasks_in all → left ≡ tasks_left wipe all →
    before ≤ mid → Stops told (λ files. brought_by files 0 left) mid now e → Stops told (λ files. product_of files wipe) before now e
unfolding product_of
third-stop told wipe wanted all left before mid now Memory a b l h s = tt
third-stop told wipe wanted all left before mid now (Directory at) a b l h s = rose-later before mid now h s
third-stop None wipe wanted all left before mid now (Bad at flaw) a b l h s = tt
third-stop (Some files) wipe wanted all left before mid now (Bad at flaw) a b l h s =
    at-ok requirements_file (info_of requirements (files requirements_file)) wanted
    (λ wanted. at_file tasks_file (info_of tasks (files tasks_file)) (λ all. product_by wanted (tasks_left wipe all) (brought_by files 0 (tasks_left wipe all)))) a
    ∙ at-ok tasks_file (info_of tasks (files tasks_file)) all (λ all. product_by wanted (tasks_left wipe all) (brought_by files 0 (tasks_left wipe all))) b
    ∙ ap (λ (xs : List Task). product_by wanted xs (brought_by files 0 xs)) (sym l)
    ∙ ap (λ x. product_by wanted left x) s

pub product-whole : (wipe : Bool) (wanted : List Requirement) (all left : List Task) (g : Gathered) → length wanted ≤ 256 → length all ≤ 256 → IsTrue (list_all is_file_name (flat_map image_file all)) → left ≡ tasks_left wipe all →
    IsGathered left g → IsWhole (record { requirements = wanted; tasks = left; images = g.images; empty = g.empty })
product-whole wipe wanted all left g r t n l h =
    let few : length left ≤ length all = subst (λ (xs : List Task). length xs ≤ length all) (sym l) (left-few wipe all) in
    record {
      few_requirements = r;
      few_tasks = omega arith;
      few_chunks = omega (arith, h.count, h.few);
      images = h.images;
      updates = h.updates;
      names = subst (λ (xs : List Task). IsTrue (list_all is_file_name (flat_map image_file xs))) (sym l) (left-named wipe all n);
      tables = h.tables;
    }

pub ruleset folders = (product-found, first-stop, second-stop, third-stop, product-whole)

-- what an answer says
pub bad-of : {X : Type 0} (told : Option Files) (held : Files → Result X Fault) (before now : ℕ) (r : Result X ProductError) (file : List ℕ) (flaw : Flaw) → IfErr r (λ e. Stops told held before now e) → IsErrOf r (Bad file flaw) →
    OfFiles told (λ files. held files ≡ Err (file, flaw))
bad-of told held before now (Ok x) file flaw s e = absurd cc
bad-of told held before now (Err x) file flaw s e = let same : x ≡ Bad file flaw = cc in subst (λ (y : ProductError). Stops told held before now y) same s

pub directory-of : {X : Type 0} (told : Option Files) (held : Files → Result X Fault) (before now : ℕ) (r : Result X ProductError) (file : List ℕ) → IfErr r (λ e. Stops told held before now e) → IsErrOf r (Directory file) → Rose before now
directory-of told held before now (Ok x) file s e = absurd cc
directory-of told held before now (Err x) file s e = let same : x ≡ Directory file = cc in subst (λ (y : ProductError). Stops told held before now y) same s

pub ruleset answers = (bad-of, directory-of)
