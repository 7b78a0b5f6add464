-- What an inspection finds in the files of a folder.
use Rattle.std.proofs.Common.{◌≡◌, ℕ, zero, suc, ◌+◌, ◌≤◌, Bool, true, false, List, [], ◌∷◌, ◌++◌, length, Option, Some, None, Result, Ok, Err, refl, ap, ◌∙◌, subst, arith}
use Rattle.std.specs.Prelude.{IsTrue, ◌||◌, not, nat_le, nat_lt, flat_map, if◌then◌else◌, codes}
use Rattle.std.specs.List.{list_all}
use Rattle.std.proofs.lemmas.Bool.Decides.{nat_tests}
use Rattle.fb_frame.specs.NameText.{is_name_byte, is_word}
use Rattle.dev_model.proofs.Valid.{both, and-true}
use Rattle.product_info.proofs.FormLemmas.{tasks-spelled}
use Rattle.product_info.specs.Blanks.{lines, content, is_text_byte}
use Rattle.product_info.specs.Grammar.{form_action, Form, Flashes, Reboots, Updates, Erases, IsForm}
use Rattle.product_info.specs.Reading.{Reading, Lists, Fails, Line, Skipped, Says, Wrong, line_says, text_says, said as line_said, read_lines, behind, met}
use Rattle.product_info.specs.Reading.{is_skipped}
use Rattle.product_info.specs.TaskText.{tasks, task_of, tasks_from, met_first, version_of}
use Rattle.product_info.specs.RequirementText.{requirements}
use Rattle.product_info.specs.declared.info.InfoKind.{InfoKind}
use Rattle.product_info.specs.declared.info.InfoKind.TheVariants.{NoVersion, BadVersion, BadLine, NotText}
use Rattle.product_info.specs.declared.requirement.Requirement.{Requirement}
use Rattle.product_info.specs.declared.task.Task.{Task}
use Rattle.flash_plan.specs.declared.product.Flaw.{Flaw}
use Rattle.flash_plan.specs.declared.product.Flaw.TheVariants as flaw
use Rattle.flash_plan.specs.declared.product.ProductError.{ProductError}
use Rattle.flash_plan.specs.declared.product.ProductError.TheVariants.{Memory, Directory, Bad}
use Rattle.flash_plan.specs.Files.{Files, IsFile, IsAbsent, IsLonger, Exceeds, is_file_name, is_shown}
use Rattle.flash_plan.specs.Products.{Fault, text_of, said, info_by, info_of, requirements_file, tasks_file, image_file, file_of_action, tasks_left}
use Rattle.flash_plan.specs.Inspecting.{Finds, Stops, in_file, text_in, requirements_in, tasks_in}
use Rattle.flash_plan.proofs.NameLemmas.{IsFileName-image}

-- a file that was read whole
pub text-found : (told : Option Files) (file text : List ℕ) (most : ℕ) → IsFile told file (Some text) → length text ≤ most → Finds told (text_in file most) text
text-found None file text most e h = tt
text-found (Some files) file text most e h =
    let n : nat_lt most (length text) ≡ false = grind (arith, nat_tests) in
    rw (← e) (rw n refl)

pub text-absent : (told : Option Files) (file : List ℕ) (most before now : ℕ) → IsAbsent told file → Stops told (text_in file most) before now (Bad file flaw.Absent)
text-absent None file most before now e = tt
text-absent (Some files) file most before now e = rw e refl

exceeding : (o : Option (List ℕ)) (file : List ℕ) (most : ℕ) → Exceeds o most → in_file file (text_of most o) ≡ Err (file, flaw.TooLong)
exceeding None file most h = absurd h
exceeding (Some text) file most h =
    let n : nat_lt most (length text) ≡ true = grind (arith, nat_tests) in
    rw n refl

pub text-long : (told : Option Files) (file : List ℕ) (most before now : ℕ) → IsLonger told file most → Stops told (text_in file most) before now (Bad file flaw.TooLong)
text-long None file most before now h = tt
text-long (Some files) file most before now h = exceeding (files file) file most h

pub ruleset texts = (text-found, text-absent, text-long)

-- what the lines of a text say, that stands in a file
abbrev lines_in : {A : Type 0} → (List ℕ → Reading A) → List ℕ → Files → Result (List A) Fault
lines_in read file files = in_file file (info_of read (files file))

said-of : {A : Type 0} (read : List ℕ → Reading A) (file text : List ℕ) (r : Result (List ℕ) Flaw) → in_file file r ≡ Ok text →
    in_file file (info_by read r) ≡ in_file file (said (read text))
said-of read file text (Ok t) e = let same : t ≡ text = cc in ap (λ x. in_file file (said (read x))) same
said-of read file text (Err f) e = absurd cc

abbrev stopped : {A : Type 0} → Fault → Result (List A) Fault
stopped fault = Err fault

stops-of : {A : Type 0} (read : List ℕ → Reading A) (file : List ℕ) (r : Result (List ℕ) Flaw) (fault : Fault) → in_file file r ≡ Err fault →
    in_file file (info_by read r) ≡ Err fault
stops-of read file (Ok t) fault e = absurd cc
stops-of read file (Err f) fault e = let same : (file, f) ≡ fault = cc in ap (λ (x : Fault). stopped x) same

lines-found : {A : Type 0} (told : Option Files) (read : List ℕ → Reading A) (file text : List ℕ) (list : List A) → Finds told (text_in file 65536) text → read text ≡ Lists list →
    Finds told (lines_in read file) list
lines-found None read file text list f e = tt
lines-found (Some files) read file text list f e =
    said-of read file text (text_of 65536 (files file)) f ∙ ap (λ r. in_file file (said r)) e

lines-bad : {A : Type 0} (told : Option Files) (read : List ℕ → Reading A) (file text : List ℕ) (line before now : ℕ) (kind : InfoKind) → Finds told (text_in file 65536) text → read text ≡ Fails line kind →
    Stops told (lines_in read file) before now (Bad file (flaw.Info line kind))
lines-bad None read file text line before now kind f e = tt
lines-bad (Some files) read file text line before now kind f e =
    said-of read file text (text_of 65536 (files file)) f ∙ ap (λ r. in_file file (said r)) e

lines-stop : {A : Type 0} (told : Option Files) (read : List ℕ → Reading A) (file : List ℕ) (before now : ℕ) (e : ProductError) → Stops told (text_in file 65536) before now e → Stops told (lines_in read file) before now e
lines-stop told read file before now Memory h = tt
lines-stop told read file before now (Directory at) h = h
lines-stop None read file before now (Bad at flaw) h = tt
lines-stop (Some files) read file before now (Bad at flaw) h = stops-of read file (text_of 65536 (files file)) (at, flaw) h

-- android-info.txt
pub requirements-found : (told : Option Files) (file text : List ℕ) (list : List Requirement) → file ≡ requirements_file → Finds told (text_in file 65536) text → requirements text ≡ Lists list → Finds told requirements_in list
requirements-found told file text list n f e = subst (λ (x : List ℕ). Finds told (lines_in requirements x) list) n (lines-found told requirements file text list f e)

pub requirements-bad : (told : Option Files) (file text : List ℕ) (line before now : ℕ) (kind : InfoKind) → file ≡ requirements_file → Finds told (text_in file 65536) text → requirements text ≡ Fails line kind →
    Stops told requirements_in before now (Bad file (flaw.Info line kind))
requirements-bad told file text line before now kind n f e =
    subst (λ (x : List ℕ). Stops told (lines_in requirements x) before now (Bad file (flaw.Info line kind))) n (lines-bad told requirements file text line before now kind f e)

pub requirements-stop : (told : Option Files) (file : List ℕ) (before now : ℕ) (e : ProductError) → file ≡ requirements_file → Stops told (text_in file 65536) before now e → Stops told requirements_in before now e
requirements-stop told file before now e n h = subst (λ (x : List ℕ). Stops told (lines_in requirements x) before now e) n (lines-stop told requirements file before now e h)

pub ruleset wanted = (requirements-found, requirements-bad, requirements-stop)

-- fastboot-info.txt
pub tasks-found : (told : Option Files) (file text : List ℕ) (list : List Task) → file ≡ tasks_file → Finds told (text_in file 65536) text → tasks text ≡ Lists list → Finds told tasks_in list
tasks-found told file text list n f e = subst (λ (x : List ℕ). Finds told (lines_in tasks x) list) n (lines-found told tasks file text list f e)

pub tasks-bad : (told : Option Files) (file text : List ℕ) (line before now : ℕ) (kind : InfoKind) → file ≡ tasks_file → Finds told (text_in file 65536) text → tasks text ≡ Fails line kind →
    Stops told tasks_in before now (Bad file (flaw.Info line kind))
tasks-bad told file text line before now kind n f e =
    subst (λ (x : List ℕ). Stops told (lines_in tasks x) before now (Bad file (flaw.Info line kind))) n (lines-bad told tasks file text line before now kind f e)

pub tasks-stop : (told : Option Files) (file : List ℕ) (before now : ℕ) (e : ProductError) → file ≡ tasks_file → Stops told (text_in file 65536) before now e → Stops told tasks_in before now e
tasks-stop told file before now e n h = subst (λ (x : List ℕ). Stops told (lines_in tasks x) before now e) n (lines-stop told tasks file before now e h)

-- the file of a task has a file's name
shown-byte : (b : ℕ) → is_name_byte b ≡ true → is_shown b ≡ true
shown-byte b e = grind (arith, nat_tests)

shown-all : (xs : List ℕ) → list_all is_name_byte xs ≡ true → list_all is_shown xs ≡ true
shown-all [] e = refl
shown-all (x ∷ xs) e =
    let p = both (is_name_byte x) (list_all is_name_byte xs) e in
    and-true (is_shown x) (list_all is_shown xs) (shown-byte x p.0) (shown-all xs p.1)

-- each image file of these tasks has a file's name
abbrev AreNamed : List Task → Type 0
AreNamed list = IsTrue (list_all is_file_name (flat_map image_file list))

form-named : (form : Form) → IsForm form → list_all is_file_name (file_of_action (form_action form)) ≡ true
form-named (Flashes flags name None) g = and-true (is_file_name (name ++ codes ".img")) true (IsFileName-image name g.0.name) refl
form-named (Flashes flags name (Some file)) g =
    and-true (is_file_name file) true (and-true (is_word file) (list_all is_shown file) g.1.word (shown-all file g.1.bytes)) refl
form-named (Reboots what) g = refl
form-named Updates g = refl
form-named (Erases name) g = refl

line-named : (number : ℕ) (line : List ℕ) (task : Task) → task_of number line ≡ Some task → list_all is_file_name (image_file task) ≡ true
line-named number line task e =
    let s = tasks-spelled number line task e in
    ap (λ (t : Task). list_all is_file_name (image_file t)) s.says ∙ form-named s.form s.good

all-append : {A : Type 0} (p : A → Bool) (xs ys : List A) → list_all p xs ≡ true → list_all p ys ≡ true → list_all p (xs ++ ys) ≡ true
all-append p [] ys a b = b
all-append p (x ∷ xs) ys a b =
    let q = both (p x) (list_all p xs) a in
    and-true (p x) (list_all p (xs ++ ys)) q.0 (all-append p xs ys q.1 b)

pub all-parts : {A : Type 0} (p : A → Bool) (xs ys : List A) → list_all p (xs ++ ys) ≡ true → (list_all p xs ≡ true) × (list_all p ys ≡ true)
all-parts p [] ys e = (refl, e)
all-parts p (x ∷ xs) ys e =
    let q = both (p x) (list_all p (xs ++ ys)) e in
    let r = all-parts p xs ys q.1 in
    (and-true (p x) (list_all p xs) q.0 r.0, r.1)

said-task : (number : ℕ) (text : List ℕ) (o : Option Task) (item : Task) → line_said BadLine o ≡ Says item → o ≡ Some item
said-task number text None item e = absurd cc
said-task number text (Some t) item e = cc

says-task : (number : ℕ) (line : List ℕ) (item : Task) (a b : Bool) → (if a then Skipped else (if b then line_said BadLine (task_of number line) else Wrong NotText)) ≡ Says item →
    task_of number line ≡ Some item
says-task number line item true b e = absurd cc
says-task number line item false true e = said-task number line (task_of number line) item e
says-task number line item false false e = absurd cc

line-item : (number : ℕ) (text : List ℕ) (item : Task) → text_says BadLine (task_of number) text ≡ Says item → task_of number text ≡ Some item
line-item number text item e = says-task number text item (is_skipped text) (list_all is_text_byte text) e

behind-named : (item : Task) (r : Reading Task) (list : List Task) → list_all is_file_name (image_file item) ≡ true → ((l : List Task) → r ≡ Lists l → AreNamed l) → behind (item ∷ []) r ≡ Lists list → AreNamed list
behind-named item (Lists more) list i m e =
    let f : item ∷ more ≡ list = cc in
    subst AreNamed f (all-append is_file_name (image_file item) (flat_map image_file more) i (m more refl))
behind-named item (Fails n kind) list i m e = absurd cc

met-named : (number room : ℕ) (says : Line Task) (more : ℕ → Reading Task) (list : List Task) → ((item : Task) → says ≡ Says item → list_all is_file_name (image_file item) ≡ true) →
    ((left : ℕ) (l : List Task) → more left ≡ Lists l → AreNamed l) → met number room says more ≡ Lists list → AreNamed list
met-named number room Skipped more list i m e = m room list e
met-named number zero (Says item) more list i m e = absurd cc
met-named number (suc room) (Says item) more list i m e = behind-named item (more room) list (i item refl) (m room) e
met-named number room (Wrong kind) more list i m e = absurd cc

lines-named : (number room : ℕ) (ls : List (List ℕ)) (list : List Task) → read_lines BadLine task_of number room ls ≡ Lists list → AreNamed list
lines-named number room [] list e = let f : [] ≡ list = cc in subst AreNamed f refl
lines-named number room (line ∷ rest) list e =
    met-named number room (line_says BadLine (task_of number) line) (λ left. read_lines BadLine task_of (number + 1) left rest) list
    (λ item s. line-named number (content line) item (line-item number (content line) item s))
    (λ left l f. lines-named (number + 1) left rest l f) e

version-named : (b : Bool) (number : ℕ) (rest : List (List ℕ)) (list : List Task) → (if b then read_lines BadLine task_of (number + 1) 256 rest else Fails number BadVersion) ≡ Lists list → AreNamed list
version-named true number rest list e = lines-named (number + 1) 256 rest list e
version-named false number rest list e = absurd cc

first-named : (number : ℕ) (says : Line ℕ) (rest : List (List ℕ)) (more : Reading Task) (list : List Task) → ((l : List Task) → more ≡ Lists l → AreNamed l) → met_first number says rest more ≡ Lists list → AreNamed list
first-named number Skipped rest more list m e = m list e
first-named number (Says version) rest more list m e = version-named (nat_le version 1) number rest list e
first-named number (Wrong kind) rest more list m e = absurd cc

from-named : (number : ℕ) (ls : List (List ℕ)) (list : List Task) → tasks_from number ls ≡ Lists list → AreNamed list
from-named number [] list e = absurd cc
from-named number (line ∷ rest) list e =
    first-named number (line_says NoVersion version_of line) rest (tasks_from (number + 1) rest) list (λ l f. from-named (number + 1) rest l f) e

pub tasks-named : (text : List ℕ) (list : List Task) → tasks text ≡ Lists list → AreNamed list
unfolding tasks
tasks-named text list e = from-named 1 (lines text) list e

pub ruleset listed = (tasks-found, tasks-bad, tasks-stop, tasks-named)

-- the tasks that aren't skipped
left-step : (b : Bool) (task : Task) (rest : List Task) → list_all is_file_name (image_file task) ≡ true → AreNamed rest → AreNamed (if b then task ∷ rest else rest)
left-step true task rest i r = all-append is_file_name (image_file task) (flat_map image_file rest) i r
left-step false task rest i r = r

pub left-named : (wipe : Bool) (list : List Task) → AreNamed list → AreNamed (tasks_left wipe list)
left-named wipe [] h = refl
left-named wipe (task ∷ list) h =
    let p = all-parts is_file_name (image_file task) (flat_map image_file list) h in
    left-step (wipe || not task.if_wipe) task (tasks_left wipe list) p.0 (left-named wipe list p.1)

few-step : (b : Bool) (task : Task) (rest list : List Task) → length rest ≤ length list → length (if b then task ∷ rest else rest) ≤ length (task ∷ list)
few-step true task rest list h = omega arith
few-step false task rest list h = omega arith

pub left-few : (wipe : Bool) (list : List Task) → length (tasks_left wipe list) ≤ length list
left-few wipe [] = omega arith
left-few wipe (task ∷ list) = few-step (wipe || not task.if_wipe) task (tasks_left wipe list) list (left-few wipe list)
