-- The lines of fastboot-info.txt (AOSP product files).
use Rattle.std.specs.Prelude.{◌≡◌, ℕ, ◌+◌, ◌<◌, ◌≤◌, ◌==◌, IsTrue, IsFalse, ◌&&◌, not, nat_le, Bool, true, false, List, [], ◌∷◌, ◌++◌, Option, Some, None, if◌then◌else◌, codes, slice_index}
use Rattle.std.specs.List.{list_all}
use Rattle.std.specs.Str.{bytes_eq}
use Rattle.fb_frame.specs.NameText.{is_name_byte, name_of, word_of}
use Rattle.fb_frame.specs.Numbers.{read_dec}
use Rattle.fb_message.specs.declared.command.BootTarget.{BootTarget}
use Rattle.fb_message.specs.declared.command.BootTarget.TheVariants.{System, Bootloader, Fastboot, Recovery}
use Rattle.product_info.specs.declared.task.Action.{Action}
use Rattle.product_info.specs.declared.task.Action.TheVariants.{Flash, Reboot, UpdateSuper, Erase}
use Rattle.product_info.specs.declared.task.Task.{Task}
use Rattle.product_info.specs.declared.info.InfoKind.{InfoKind}
use Rattle.product_info.specs.declared.info.InfoKind.TheVariants.{NoVersion, BadVersion, BadLine}
use Rattle.product_info.specs.Blanks.{words, lines}
use Rattle.product_info.specs.Reading.{Reading, Line, Skipped, Says, Wrong, Fails, line_says, read_lines}

-- a word that doesn't begin with `-`
abbrev pub is_plain : List ℕ → Bool
is_plain word = not (slice_index word 0 == 45)

-- the partition that a word names
abbrev pub part_of : List ℕ → Option (List ℕ)
part_of word = if is_plain word then name_of word else None

-- the file that a word names: 1 to 64 bytes of `[A-Za-z0-9_.-]`, not `.` or `..`
abbrev pub file_of : List ℕ → Option (List ℕ)
file_of word =
    if is_plain word && list_all is_name_byte word && not (bytes_eq word (codes ".")) && not (bytes_eq word (codes ".."))
    then word_of word else None

-- the file of a partition whose task names none
abbrev pub image_file : List ℕ → Option (List ℕ)
image_file name = word_of (name ++ codes ".img")

-- a flash of this partition from this file
abbrev pub flash : Bool → Option (List ℕ) → Option (List ℕ) → Option Action
flash other (Some name) (Some file) = Some (Flash name file other)
flash other (Some name) None = None
flash other None file = None

-- `NAME` or `NAME FILE`
abbrev pub flash_named : Bool → List ℕ → List (List ℕ) → Option Action
flash_named other name [] = flash other (part_of name) (image_file name)
flash_named other name (file ∷ []) = flash other (part_of name) (file_of file)
flash_named other name (file ∷ word ∷ rest) = None

-- the flags that are still free, each at most once and in any order, then the partition and perhaps its file
abbrev pub flash_of : Bool → Bool → List (List ℕ) → Option Action
flash_of vbmeta other [] = None
flash_of vbmeta other (word ∷ rest) =
    if not vbmeta && bytes_eq word (codes "--apply-vbmeta") then flash_of true other rest
    else (if not other && bytes_eq word (codes "--slot-other") then flash_of vbmeta true rest
    else flash_named other word rest)

-- what a reboot starts
abbrev pub target_of : List ℕ → Option BootTarget
target_of word =
    if bytes_eq word (codes "bootloader") then Some Bootloader
    else (if bytes_eq word (codes "fastboot") then Some Fastboot
    else (if bytes_eq word (codes "recovery") then Some Recovery else None))

-- a reboot into this target
abbrev pub reboot : Option BootTarget → Option Action
reboot (Some target) = Some (Reboot target)
reboot None = None

-- nothing, or a target
abbrev pub reboot_of : List (List ℕ) → Option Action
reboot_of [] = Some (Reboot System)
reboot_of (word ∷ []) = reboot (target_of word)
reboot_of (word ∷ next ∷ rest) = None

-- nothing
abbrev pub update_of : List (List ℕ) → Option Action
update_of [] = Some UpdateSuper
update_of (word ∷ rest) = None

-- an erase of this partition
abbrev pub erase : Option (List ℕ) → Option Action
erase (Some name) = Some (Erase name)
erase None = None

-- a partition
abbrev pub erase_of : List (List ℕ) → Option Action
erase_of [] = None
erase_of (word ∷ []) = erase (part_of word)
erase_of (word ∷ next ∷ rest) = None

-- the action that a word begins
abbrev pub action_by : List ℕ → List (List ℕ) → Option Action
action_by word rest =
    if bytes_eq word (codes "flash") then flash_of false false rest
    else (if bytes_eq word (codes "reboot") then reboot_of rest
    else (if bytes_eq word (codes "update-super") then update_of rest
    else (if bytes_eq word (codes "erase") then erase_of rest else None)))

-- the action of these words
abbrev pub action_of : List (List ℕ) → Option Action
action_of [] = None
action_of (word ∷ rest) = action_by word rest

-- an action, and whether it is for a run that wipes alone
abbrev pub when : Bool → Option Action → Option (Bool × Action)
when if_wipe (Some action) = Some (if_wipe, action)
when if_wipe None = None

-- what these words want done
abbrev pub order_of : List (List ℕ) → Option (Bool × Action)
order_of [] = None
order_of (word ∷ rest) = if bytes_eq word (codes "if-wipe") then when true (action_of rest) else when false (action_by word rest)

-- the task with this number
abbrev pub numbered : ℕ → Option (Bool × Action) → Option Task
numbered number (Some order) = Some (record { line = number; if_wipe = order.0; action = order.1 })
numbered number None = None

-- the task of a line
unfoldable pub task_of : ℕ → List ℕ → Option Task
task_of number line = numbered number (order_of (words line))

-- the version that these words tell
abbrev pub version_words : List (List ℕ) → Option ℕ
version_words [] = None
version_words (word ∷ []) = None
version_words (word ∷ number ∷ []) = if bytes_eq word (codes "version") then read_dec number else None
version_words (word ∷ number ∷ next ∷ rest) = None

-- the version that a line tells
unfoldable pub version_of : List ℕ → Option ℕ
version_of line = version_words (words line)

-- what follows the line of the version, which has this number
abbrev pub versioned : ℕ → List (List ℕ) → ℕ → Reading Task
versioned number rest version =
    if nat_le version 1 then read_lines BadLine task_of (number + 1) 256 rest else Fails number BadVersion

-- the first line that isn't skipped tells the version
abbrev pub met_first : ℕ → Line ℕ → List (List ℕ) → Reading Task → Reading Task
met_first number Skipped rest more = more
met_first number (Says version) rest more = versioned number rest version
met_first number (Wrong kind) rest more = Fails number kind

-- the tasks of these lines, the first of which has this number
abbrev pub tasks_from : ℕ → List (List ℕ) → Reading Task
tasks_from number [] = Fails 1 NoVersion
tasks_from number (line ∷ rest) =
    met_first number (line_says NoVersion version_of line) rest (tasks_from (number + 1) rest)

-- the tasks of fastboot-info.txt, at most 256
unfoldable pub tasks : List ℕ → Reading Task
tasks text = tasks_from 1 (lines text)

-- a line tells a version of at most 1, or is skipped
abbrev pub IsFirst : Line ℕ → Bool → Type 0
IsFirst Skipped found = IsFalse found
IsFirst (Says version) found = IsTrue found × (version ≤ 1)
IsFirst (Wrong kind) found = ⊥

-- a line that is to tell the version is bad in this way
abbrev pub IsBadFirst : Line ℕ → InfoKind → Type 0
IsBadFirst Skipped kind = ⊥
IsBadFirst (Says version) kind = (1 < version) × (kind ≡ BadVersion)
IsBadFirst (Wrong found) kind = kind ≡ found
