-- What reading a line of a layout answers.
use Rattle.std.specs.Prelude.{◌≡◌, ℕ, false, not, ◌&&◌, ◌∷◌, List, Option, Some, None, option_map, Result}
use Rattle.std.specs.Prelude.{Ok, Err, ◌+◌, if◌then◌else◌, IsTrue, bytes_eq}
use Rattle.std.specs.List.{list_all, list_any}
use Rattle.fb_frame.specs.NameText.{is_word, is_name_byte}
use Rattle.dev_model.specs.Validity.{own_names}
use Rattle.dev_store.specs.declared.entries.Entry.{Entry}
use Rattle.dev_store.specs.declared.entries.Entry.TheVariants.{SuperLine}
use Rattle.dev_store.specs.declared.layout.SuperPart.{SuperPart}
use Rattle.dev_store.specs.declared.layout.LayoutError.{LayoutError}
use Rattle.dev_store.specs.declared.layout_line.LineError.{LineError}
use Rattle.dev_store.specs.declared.layout_line.LineError.TheVariants.{Form, Size, Memory}
use Rattle.dev_store.specs.LayoutLines.{is_sized}
use Rattle.dev_store.specs.Layouts.{read_lines}

-- the line says this entry, whose numbers keep their conditions; it has no form, or its numbers don't
abbrev pub IsRead : Option Entry → Result Entry LineError → Type 0
IsRead said (Ok entry) = (said ≡ Some entry) × IsTrue (is_sized entry)
IsRead said (Err Form) = said ≡ None
IsRead said (Err Size) = option_map is_sized said ≡ Some false
IsRead said (Err Memory) = Unit {0}

-- a variable's name that isn't the device's own
abbrev pub variable_name : List ℕ → Option (List ℕ)
variable_name name =
    if is_word name && list_all is_name_byte name && not (list_any (λ own. bytes_eq own name) own_names)
    then Some name else None

abbrev pub if_sized : SuperPart → Option SuperPart
if_sized s = if is_sized (SuperLine s) then Some s else None

-- the super of these numbers, where they keep their conditions
abbrev pub sized_super : List ℕ → ℕ → ℕ → ℕ → ℕ → Option SuperPart
sized_super name size unit max_size slots =
    if_sized (record { name = name; size = size; unit = unit; max_size = max_size; slots = slots })

-- a line is added to these entries, whatever follows
abbrev pub IsGoneOn : ℕ → Option (List ℕ) → List Entry → List Entry → Type 0
IsGoneOn number line old new =
    (rest : List (Option (List ℕ))) →
    read_lines number old (line ∷ rest) ≡ read_lines (number + 1) new rest

-- a line is the first bad one, whatever follows
abbrev pub IsStopped : ℕ → Option (List ℕ) → List Entry → LayoutError → Type 0
IsStopped number line old bad =
    (rest : List (Option (List ℕ))) → read_lines number old (line ∷ rest) ≡ Err bad
