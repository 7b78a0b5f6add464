-- The grammars of both files' lines (AOSP product files), said of whole lines.
use Rattle.std.specs.Prelude.{◌≡◌, ℕ, ◌<◌, ◌==◌, not, Bool, true, false, IsTrue, IsFalse, List, [], ◌∷◌, ◌++◌}
use Rattle.std.specs.Prelude.{length, reverse, Option, Some, None, option_to_list, IfSome, codes}
use Rattle.std.specs.List.{list_all}
use Rattle.fb_frame.specs.NameText.{is_name_byte, IsName, IsWord}
use Rattle.fb_message.specs.declared.command.BootTarget.{BootTarget}
use Rattle.fb_message.specs.declared.command.BootTarget.TheVariants.{System, Bootloader, Fastboot, Recovery}
use Rattle.product_info.specs.declared.requirement.ReqKind.{ReqKind}
use Rattle.product_info.specs.declared.requirement.ReqKind.TheVariants.{Require, Reject, Exists}
use Rattle.product_info.specs.declared.requirement.Requirement.{Requirement}
use Rattle.product_info.specs.declared.task.Action.{Action}
use Rattle.product_info.specs.declared.task.Action.TheVariants.{Flash, Reboot, UpdateSuper, Erase}
use Rattle.product_info.specs.declared.task.Task.{Task}
use Rattle.product_info.specs.Blanks.{is_blank}
use Rattle.product_info.specs.RequirementText.{is_variable_byte, asked_name}

-- blanks alone
abbrev pub AreBlanks : List ℕ → Type 0
AreBlanks text = IsTrue (list_all is_blank text)

-- nothing, or a blank in front
abbrev pub BeginsBlank : List ℕ → Type 0
BeginsBlank [] = Unit {0}
BeginsBlank (b ∷ rest) = IsTrue (is_blank b)

-- no blank in front
abbrev pub IsFlush : List ℕ → Type 0
IsFlush [] = Unit {0}
IsFlush (b ∷ rest) = IsFalse (is_blank b)

-- a text of one or more bytes, none of them a blank
abbrev pub IsUnbroken : List ℕ → Type 0
IsUnbroken word = (0 < length word) × IsTrue (list_all (λ b. not (is_blank b)) word)

-- The text is these words, with one or more blanks between two, and perhaps blanks at its ends.
abbrev pub AreWordsOf : List ℕ → List (List ℕ) → Type 0
AreWordsOf text [] = AreBlanks text
AreWordsOf text (word ∷ words) =
    (front : List ℕ) × (rest : List ℕ) × (text ≡ front ++ (word ++ rest)) × AreBlanks front × IsUnbroken word
    × BeginsBlank rest × AreWordsOf rest words

-- the flags of a flash task, in the order in which they stand
pub data Flags : Type 0 where
  Unflagged : Flags
  Vbmeta : Flags
  SlotOther : Flags
  VbmetaSlotOther : Flags
  SlotOtherVbmeta : Flags

abbrev pub flag_words : Flags → List (List ℕ)
flag_words Unflagged = []
flag_words Vbmeta = codes "--apply-vbmeta" ∷ []
flag_words SlotOther = codes "--slot-other" ∷ []
flag_words VbmetaSlotOther = codes "--apply-vbmeta" ∷ codes "--slot-other" ∷ []
flag_words SlotOtherVbmeta = codes "--slot-other" ∷ codes "--apply-vbmeta" ∷ []

-- the task is for the other slot
abbrev pub is_for_other : Flags → Bool
is_for_other Unflagged = false
is_for_other Vbmeta = false
is_for_other SlotOther = true
is_for_other VbmetaSlotOther = true
is_for_other SlotOtherVbmeta = true

-- the forms of a task: a flash of a partition, perhaps with its file, a reboot, update-super, an erase
pub data Form : Type 0 where
  Flashes : Flags → List ℕ → Option (List ℕ) → Form
  Reboots : BootTarget → Form
  Updates : Form
  Erases : List ℕ → Form

-- a partition's name that doesn't begin with `-`
pub record IsPartName (word : List ℕ) : Type 0 where
  pub name : IsName word
  pub plain : (rest : List ℕ) → word ≡ 45 ∷ rest → ⊥

-- a file: 1 to 64 bytes of `[A-Za-z0-9_.-]` of which the first isn't `-`; not `.` and not `..`
pub record IsFileWord (file : List ℕ) : Type 0 where
  pub word : IsWord file
  pub bytes : IsTrue (list_all is_name_byte file)
  pub plain : (rest : List ℕ) → file ≡ 45 ∷ rest → ⊥
  pub not_here : file ≡ codes "." → ⊥
  pub not_above : file ≡ codes ".." → ⊥

abbrev pub IsForm : Form → Type 0
IsForm (Flashes flags name file) = IsPartName name × IfSome file IsFileWord
IsForm (Reboots what) = Unit {0}
IsForm Updates = Unit {0}
IsForm (Erases name) = IsPartName name

-- what a reboot starts, the system where no word says it
abbrev pub target_words : BootTarget → List (List ℕ)
target_words System = []
target_words Bootloader = codes "bootloader" ∷ []
target_words Fastboot = codes "fastboot" ∷ []
target_words Recovery = codes "recovery" ∷ []

-- the words of a form
abbrev pub form_words : Form → List (List ℕ)
form_words (Flashes flags name file) = codes "flash" ∷ flag_words flags ++ name ∷ option_to_list file
form_words (Reboots what) = codes "reboot" ∷ target_words what
form_words Updates = codes "update-super" ∷ []
form_words (Erases name) = codes "erase" ∷ name ∷ []

-- the file of a partition, `NAME.img` where none is named
abbrev pub file_for : List ℕ → Option (List ℕ) → List ℕ
file_for name (Some file) = file
file_for name None = name ++ codes ".img"

-- what a form wants done
abbrev pub form_action : Form → Action
form_action (Flashes flags name file) = Flash name (file_for name file) (is_for_other flags)
form_action (Reboots what) = Reboot what
form_action Updates = UpdateSuper
form_action (Erases name) = Erase name

-- `if-wipe` before the words of a task for a run that wipes
abbrev pub wipe_words : Bool → List (List ℕ)
wipe_words true = codes "if-wipe" ∷ []
wipe_words false = []

-- The line of a task: perhaps `if-wipe`, and then the words of a form, with one or more blanks between two.
pub record IsTaskLine (number : ℕ) (line : List ℕ) (task : Task) : Type 0 where
  pub form : Form
  pub good : IsForm form
  pub spelled : AreWordsOf line (wipe_words task.if_wipe ++ form_words form)
  pub says : task ≡ record { line = number; if_wipe = task.if_wipe; action = form_action form }

-- the text is the inner one, with blanks at its ends
abbrev pub IsPadded : List ℕ → List ℕ → Type 0
IsPadded text inner =
    (front : List ℕ) × (back : List ℕ) × (text ≡ front ++ (inner ++ back)) × AreBlanks front × AreBlanks back

-- the name of a variable or of a product: 1 to 64 bytes of `[A-Za-z0-9_.:-]`
pub record IsVariable (name : List ℕ) : Type 0 where
  pub word : IsWord name
  pub bytes : IsTrue (list_all is_variable_byte name)

-- a value: 1 to 64 bytes without `|`, of which the first and the last are no blanks
pub record IsValue (value : List ℕ) : Type 0 where
  pub word : IsWord value
  pub bars : IsTrue (list_all (λ b. not (b == 124)) value)
  pub first : IsFlush value
  pub last : IsFlush (reverse value)

-- LIST: one or more values with `|` between two, and perhaps blanks round each
abbrev pub AreListed : List ℕ → List (List ℕ) → Type 0
AreListed text [] = ⊥
AreListed text (value ∷ []) = IsValue value × IsPadded text value
AreListed text (value ∷ next ∷ values) =
    (part : List ℕ) × (more : List ℕ) × (text ≡ part ++ 124 ∷ more) × IsValue value × IsPadded part value
    × AreListed more (next ∷ values)

-- how a line begins
pub data Opening : Type 0 where
  Unopened : Opening
  Requires : Opening
  Rejects : Opening
  ForProduct : List ℕ → Opening

-- the product that a line is for, where it is for one
abbrev pub opened_for : Opening → Option (List ℕ)
opened_for (ForProduct product) = Some product
opened_for Unopened = None
opened_for Requires = None
opened_for Rejects = None

-- the line rejects
abbrev pub is_rejecting : Opening → Bool
is_rejecting Rejects = true
is_rejecting Unopened = false
is_rejecting Requires = false
is_rejecting (ForProduct product) = false

-- the words that open a longer form
abbrev pub IsOpener : List ℕ → Opening → Type 0
IsOpener word Unopened = ⊥
IsOpener word Requires = word ≡ codes "require"
IsOpener word Rejects = word ≡ codes "reject"
IsOpener word (ForProduct product) = (word ≡ codes "require-for-product:" ++ product) × IsVariable product

-- a line of a longer form: its first word, a blank, and then the rest
pub record IsLonger (line : List ℕ) (opening : Opening) (rest : List ℕ) : Type 0 where
  pub word : List ℕ
  pub opens : IsOpener word opening
  pub blank : ℕ
  pub is_blank : IsTrue (is_blank blank)
  pub whole : line ≡ word ++ blank ∷ rest

-- A line is opened in this way, and this is what stands after it: of a line that begins as a longer form the
-- rest, of another one all.
abbrev pub IsOpened : List ℕ → Opening → List ℕ → Type 0
IsOpened line Unopened body = (body ≡ line) × ((opening : Opening) (rest : List ℕ) → IsLonger line opening rest → ⊥)
IsOpened line Requires body = IsLonger line Requires body
IsOpened line Rejects body = IsLonger line Rejects body
IsOpened line (ForProduct product) body = IsLonger line (ForProduct product) body

-- NAME, perhaps with blanks round it, `=`, and what stands after it
pub record IsPair (text name right : List ℕ) : Type 0 where
  pub left : List ℕ
  pub whole : text ≡ left ++ 61 ∷ right
  pub variable : IsVariable name
  pub named : IsPadded left name

-- What NAME and the text after its `=` want: `partition-exists=N` that there is a partition N, where the line
-- doesn't reject, and each other name that some value of the list matches, or none.
abbrev pub IsWanted : Bool → List ℕ → List ℕ → Requirement → ReqKind → Type 0
IsWanted rejects name right r Require =
    IsFalse rejects × (name ≡ codes "partition-exists" → ⊥) × (r.name ≡ asked_name name) × AreListed right r.values
IsWanted rejects name right r Reject = IsTrue rejects × (r.name ≡ asked_name name) × AreListed right r.values
IsWanted rejects name right r Exists =
    IsFalse rejects × (name ≡ codes "partition-exists") × IsName r.name × (r.values ≡ []) × IsPadded right r.name

-- The line of a requirement: how it is opened, NAME, `=`, and LIST or N.
pub record IsRequirementLine (number : ℕ) (line : List ℕ) (r : Requirement) : Type 0 where
  pub numbered : r.line ≡ number
  pub opening : Opening
  pub body : List ℕ
  pub opened : IsOpened line opening body
  pub product : r.product ≡ opened_for opening
  pub name : List ℕ
  pub right : List ℕ
  pub pair : IsPair body name right
  pub wanted : IsWanted (is_rejecting opening) name right r r.kind
