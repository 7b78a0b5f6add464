-- The text of a variable as a host reads it; None of a text that no device of this profile tells (fastboot
-- README, getvar).
use Rattle.std.specs.Prelude.{ℕ, Bool, true, false, ◌||◌, List, ◌++◌, Option, Some, None, if◌then◌else◌}
use Rattle.std.specs.Prelude.{bytes_eq, codes}
use Rattle.fb_frame.specs.declared.slot.Slot.{Slot}
use Rattle.fb_frame.specs.declared.slot.Slot.TheVariants.{A, B}
use Rattle.fb_frame.specs.NameText.{is_name}
use Rattle.host_driver.specs.SizeText.{download_size}

-- whether there are slots, by the text of slot-count, or without one
abbrev pub slots_read : Option (List ℕ) → Option Bool
slots_read None = Some false
slots_read (Some text) =
    if bytes_eq text (codes "2") then Some true
    else (if bytes_eq text (codes "0") then Some false else None)

-- the active slot, by the text of current-slot
abbrev pub slot_read : List ℕ → Option Slot
slot_read text =
    if bytes_eq text (codes "a") || bytes_eq text (codes "_a") then Some A
    else (if bytes_eq text (codes "b") || bytes_eq text (codes "_b") then Some B else None)

-- whether a partition is logical, by the text of is-logical, if there is one of the name
abbrev pub kind_read : Option (List ℕ) → Option (Option Bool)
kind_read None = Some None
kind_read (Some text) =
    if bytes_eq text (codes "yes") then Some (Some true)
    else (if bytes_eq text (codes "no") then Some (Some false) else None)

-- the variable that tells it
abbrev pub kind_question : List ℕ → List ℕ
kind_question name = codes "is-logical:" ++ name

-- the active slot, by the text of current-slot; None without one
abbrev pub active_read : Option (List ℕ) → Option Slot
active_read None = None
active_read (Some text) = slot_read text

-- how many bytes a device takes in one download, by the text of max-download-size; None without one
abbrev pub max_read : Option (List ℕ) → Option ℕ
max_read None = None
max_read (Some text) = download_size text

-- the name of super, by the text of super-partition-name, if there is a super
abbrev pub super_read : Option (List ℕ) → Option (Option (List ℕ))
super_read None = Some None
super_read (Some text) = if is_name text then Some (Some text) else None
