-- The state record of a device image (this profile's own): 32 bytes, their SHA-256, and zeros. Version 2 has
-- the start mode, which is 0 in version 1.
use Rattle.std.specs.Prelude.{ℕ, ◌+◌, Bool, true, false, not, ◌&&◌, ◌||◌, List, [], ◌∷◌, ◌++◌, length, take}
use Rattle.std.specs.Prelude.{drop, ◌==◌, Option, Some, None, if◌then◌else◌, slice_index, bytes_eq, codes}
use Rattle.std.specs.Option.{option_or}
use Rattle.std.specs.List.{list_all, flat_map}
use Rattle.std.specs.Int.{w32, to_le_bytes}
use Rattle.sha2.specs.Sha256.{sha256}
use Rattle.fb_frame.specs.declared.slot.Slot.{Slot}
use Rattle.fb_frame.specs.declared.slot.Slot.TheVariants.{A, B}
use Rattle.dev_model.specs.declared.device.SlotFlags.{SlotFlags}
use Rattle.dev_model.specs.declared.device.BothFlags.{BothFlags}
use Rattle.dev_model.specs.declared.device.Dev.{Dev}
use Rattle.dev_model.specs.declared.device.Mode.{Mode}
use Rattle.dev_model.specs.declared.device.Mode.TheVariants.{Bootloader, Userspace}
use Rattle.dev_model.specs.Validity.{is_flags, is_blank, is_first}
use Rattle.dev_model.specs.Partitions.{is_userspace}
use Rattle.fb_frame.specs.Bytes.{zeros}
use Rattle.dev_store.specs.declared.state.State.{State}

-- 1 for true, 0 for false
abbrev pub flag : Bool → ℕ
flag b = if b then 1 else 0

abbrev pub slot_byte : Slot → ℕ
slot_byte A = 0
slot_byte B = 1

abbrev pub flags_bytes : SlotFlags → List ℕ
flags_bytes f = flag f.successful ∷ flag f.unbootable ∷ f.retries ∷ []

-- the first 32 bytes: a mark, the version, the lock, the active slot, the flags of both slots and the start
-- mode
unfoldable pub record_head : ℕ → State → List ℕ
record_head version s =
    codes "FBST" ++ to_le_bytes w32 version ++ flag s.locked ∷ slot_byte s.active ∷ []
    ++ flat_map flags_bytes s.flags
    ++ flag s.userspace ∷ zeros 15

-- the block of a state, in one of the versions
unfoldable pub record_block : ℕ → State → List ℕ
record_block version s = record_head version s ++ (sha256 (record_head version s) ++ zeros 4032)

-- the flags in three bytes from a place on
abbrev pub flags_at : ℕ → List ℕ → SlotFlags
flags_at place block = record {
  successful = slice_index block place == 1;
  unbootable = slice_index block (place + 1) == 1;
  retries = slice_index block (place + 2);
}

-- the state that a block's bytes tell
unfoldable pub state_at : List ℕ → State
state_at block = record {
  locked = slice_index block 8 == 1;
  active = if slice_index block 9 == 1 then B else A;
  flags = flags_at 10 block ∷ flags_at 13 block ∷ [];
  userspace = slice_index block 16 == 1;
}

-- a state of a device with so many slots: up to 7 retries, and nothing set where there are no slots
unfoldable pub is_state : ℕ → State → Bool
is_state slots s =
    length s.flags == 2
    && ((slots == 2 && list_all is_flags s.flags) || (slots == 0 && is_first s.active
    && list_all is_blank s.flags))

-- the block is the record of a state in this version
unfoldable pub is_record : ℕ → ℕ → List ℕ → Bool
is_record slots version block =
    is_state slots (state_at block) && (version == 2 || not (state_at block).userspace)
    && bytes_eq block (record_block version (state_at block))

-- the version and the state of a block, where it is a record
unfoldable pub record_of : ℕ → List ℕ → Option (ℕ × State)
record_of slots block =
    if is_record slots 2 block then Some (2, state_at block)
    else (if is_record slots 1 block then Some (1, state_at block) else None)

-- the first or the second of the two blocks of a device image
abbrev pub state_copy : Bool → List ℕ → List ℕ
state_copy second file = take 4096 (drop (if second then 8192 else 4096) file)

-- the record that is read: the first that is one
abbrev pub record_in : ℕ → List ℕ → Option (ℕ × State)
record_in slots file = option_or (record_of slots (state_copy false file)) (record_of slots
    (state_copy true file))

-- the mode in which a device of this record opens
abbrev pub start_mode : Bool → Mode
start_mode userspace = if userspace then Userspace else Bootloader

-- the first flags of a list, none set where there are none
abbrev pub flags_first : List SlotFlags → SlotFlags
flags_first [] = record { successful = false; unbootable = false; retries = 0 }
flags_first (f ∷ flags) = f

-- the flags of both slots
abbrev pub both_flags : List SlotFlags → BothFlags
both_flags flags = record { a = flags_first flags; b = flags_first (drop 1 flags) }

-- what a record keeps of a device
abbrev pub kept_state : Dev → State
kept_state dev = record {
  locked = dev.locked;
  active = dev.active;
  flags = dev.flags.a ∷ dev.flags.b ∷ [];
  userspace = is_userspace dev.mode;
}

-- the device with another state
abbrev pub with_state : State → Dev → Dev
with_state s dev = record dev {
  locked = s.locked;
  active = s.active;
  flags = both_flags s.flags;
  mode = start_mode s.userspace;
}
