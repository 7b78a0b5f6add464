-- For which partition a task is: by the slot that is chosen and by what the device has (fastboot README,
-- slots).
use Rattle.std.specs.Prelude.{ℕ, Bool, true, false, List, [], ◌∷◌, ◌++◌, Option, Some, None, option_map}
use Rattle.std.specs.Prelude.{option_to_list, is_none, ◌&&◌, if◌then◌else◌}
use Rattle.std.specs.Option.{option_or}
use Rattle.fb_frame.specs.declared.slot.Slot.{Slot}
use Rattle.fb_frame.specs.Slots.{other_slot, with_slot}
use Rattle.flash_plan.specs.declared.options.SlotChoice.{SlotChoice}
use Rattle.flash_plan.specs.declared.options.SlotChoice.TheVariants.{Current, Is, Other}
use Rattle.dev_model.specs.Repeats.{is_among}

-- the slot that is meant, by the active one
abbrev pub chosen : SlotChoice → Slot → Slot
chosen Current slot = slot
chosen (Is named) slot = named
chosen Other slot = other_slot slot

-- the slot that is meant, where the device has slots
abbrev pub slot_of : SlotChoice → Option Slot → Option Slot
slot_of choice current = option_map (chosen choice) current

-- a slot is named, or the other one asked for
abbrev pub names_slot : SlotChoice → Bool
names_slot Current = false
names_slot (Is named) = true
names_slot Other = true

-- a slot is named, or the other one asked for, but the device has none
abbrev pub is_slotless : SlotChoice → Option Slot → Bool
is_slotless choice current = names_slot choice && is_none current

-- The names that a task's name may stand for, in the order in which they are tried: with slots that of the
-- slot and the name itself, for the other slot that of the other one alone. What is too long for a name is
-- none.
abbrev pub candidates : Option Slot → Bool → List ℕ → List (List ℕ)
candidates None false name = name ∷ []
candidates None true name = []
candidates (Some slot) false name = option_to_list (with_slot name slot) ++ name ∷ []
candidates (Some slot) true name = option_to_list (with_slot name (other_slot slot))

-- Whether a candidate is logical, where it is found: the device has it, or the product's table lists it.
abbrev pub found : (List ℕ → Option Bool) → List (List ℕ) → List ℕ → Option Bool
found kind listed name = option_or (kind name) (if is_among listed name then Some true else None)

-- the candidate, where it is found, or else what the next ones give
abbrev pub found_first : List ℕ → Option Bool → Option (List ℕ × Bool) → Option (List ℕ × Bool)
found_first name (Some logical) rest = Some (name, logical)
found_first name None rest = rest

-- the first candidate that is found, and whether it is logical
abbrev pub target_in : (List ℕ → Option Bool) → List (List ℕ) → List (List ℕ) → Option (List ℕ × Bool)
target_in kind listed [] = None
target_in kind listed (name ∷ names) = found_first name (found kind listed name) (target_in kind listed names)

-- what is asked of the candidates: each up to the first that is found
abbrev pub probed_by : List ℕ → Option Bool → List (List ℕ) → List (List ℕ)
probed_by name (Some logical) rest = name ∷ []
probed_by name None rest = name ∷ rest

abbrev pub probed : (List ℕ → Option Bool) → List (List ℕ) → List (List ℕ) → List (List ℕ)
probed kind listed [] = []
probed kind listed (name ∷ names) = probed_by name (found kind listed name) (probed kind listed names)
