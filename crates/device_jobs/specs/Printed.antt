-- The lines of the jobs on a device image.
use Rattle.std.specs.Prelude.{ℕ, ◌==◌, ◌||◌, Bool, List, [], ◌∷◌, ◌++◌, length}
use Rattle.std.specs.Prelude.{if◌then◌else◌, codes, decimal}
use Rattle.std.specs.List.{flat_map}
use Rattle.std.specs.Int.{w32, to_be_bytes}
use Rattle.hex.specs.Hex.{encode_lower}
use Rattle.sha2.specs.Sha256.{sha256}
use Rattle.fb_frame.specs.Slots.{letter}
use Rattle.fb_frame.specs.declared.tables.TableGroup.{TableGroup}
use Rattle.dev_model.specs.declared.bad_image.BadImage.{BadImage}
use Rattle.dev_model.specs.declared.bad_image.BadImage.TheVariants as bad
use Rattle.dev_model.specs.declared.device.Dev.{Dev}
use Rattle.dev_model.specs.declared.device.Physical.{Physical}
use Rattle.dev_model.specs.declared.device.Logical.{Logical}
use Rattle.dev_model.specs.Partitions.{has_slots}
use Rattle.dev_model.specs.Variables.{yes_or_no}
use Rattle.dev_store.specs.declared.layout.LayoutKind.{LayoutKind}
use Rattle.dev_store.specs.declared.layout.LayoutKind.TheVariants as kind
use Rattle.dev_store.specs.declared.layout.LayoutError.{LayoutError}
use Rattle.dev_store.specs.Layouts.{image_size}
use Rattle.device_jobs.specs.Outcomes.{Outcome, NoFile, BadLayout, BadDevice, Made, Shown, Unlocked}

abbrev pub bad_text : BadImage → List ℕ
bad_text bad.ShortFile = codes "ShortFile"
bad_text bad.BadLayout = codes "BadLayout"
bad_text bad.BadLength = codes "BadLength"
bad_text bad.BadState = codes "BadState"
bad_text bad.NoGeometry = codes "NoGeometry"
bad_text bad.NoTable = codes "NoTable"
bad_text bad.BadUnits = codes "BadUnits"

abbrev pub kind_text : LayoutKind → List ℕ
kind_text kind.BadFirst = codes "BadFirst"
kind_text kind.BadLine = codes "BadLine"
kind_text kind.Duplicate = codes "Duplicate"
kind_text kind.BadSize = codes "BadSize"
kind_text kind.TooMany = codes "TooMany"
kind_text kind.Missing = codes "Missing"
kind_text kind.NoRoom = codes "NoRoom"
kind_text kind.TooLong = codes "TooLong"

-- the first bad line of a layout text, and a file that stands for no device
abbrev pub layout_line : LayoutError → List ℕ
layout_line e = codes "error layout line " ++ decimal e.line ++ codes " " ++ kind_text e.kind ++ codes "\n"

abbrev pub device_line : BadImage → List ℕ
device_line e = codes "error device " ++ bad_text e ++ codes "\n"

abbrev pub memory_line : List ℕ
memory_line = codes "error memory\n"

abbrev pub disk_line : List ℕ
disk_line = codes "error disk\n"

-- how many bytes the new image has
abbrev pub made_line : ℕ → List ℕ
made_line size = codes "made " ++ decimal size ++ codes "\n"

-- the line of an unlocking, by whether the device was locked before
abbrev pub unlocked_line : Bool → List ℕ
unlocked_line locked = if locked then codes "unlocked\n" else codes "already unlocked\n"

-- how many bytes a partition has, and their digest in hexadecimal digits
abbrev pub digest_text : ℕ → List ℕ → List ℕ
digest_text size digest = decimal size ++ codes " " ++ encode_lower digest ++ codes "\n"

-- a partition's bytes, by how many they are and their SHA-256
abbrev pub part_text : List ℕ → List ℕ
part_text bytes = digest_text (length bytes) (sha256 bytes)

-- what stands before them
abbrev pub physical_label : List ℕ → List ℕ
physical_label name = codes "partition " ++ name ++ codes " "

abbrev pub logical_label : List ℕ → List ℕ → List ℕ
logical_label name group = codes "logical " ++ name ++ codes " " ++ group ++ codes " "

abbrev pub physical_line : Physical → List ℕ
physical_line p = physical_label p.name ++ part_text p.bytes

abbrev pub logical_line : Logical → List ℕ
logical_line p = logical_label p.name p.group ++ part_text p.bytes

abbrev pub group_text : List ℕ → ℕ → List ℕ
group_text name limit = codes "group " ++ name ++ codes " " ++ decimal limit ++ codes "\n"

abbrev pub group_line : TableGroup → List ℕ
group_line g = group_text g.name g.limit

abbrev pub product_line : List ℕ → List ℕ
product_line product = codes "product " ++ product ++ codes "\n"

abbrev pub locked_line : Bool → List ℕ
locked_line locked = codes "locked " ++ yes_or_no locked ++ codes "\n"

-- the active slot, where there are slots
abbrev pub slot_lines : Dev → List ℕ
slot_lines dev = if has_slots dev then codes "slot " ++ letter dev.active ∷ codes "\n" else []

-- eight hexadecimal digits of a number
unfoldable pub flags_text : ℕ → List ℕ
flags_text flags = encode_lower (to_be_bytes w32 flags)

abbrev pub minor_text : ℕ → List ℕ
minor_text minor = codes "metadata 10." ++ decimal minor ++ codes " "

abbrev pub version_line : ℕ → ℕ → List ℕ
version_line minor flags = minor_text minor ++ flags_text flags ++ codes "\n"

-- minor version and flags of the table, where the minor is 1 or 2
abbrev pub version_lines : ℕ → ℕ → List ℕ
version_lines minor flags = if (minor == 1) || (minor == 2) then version_line minor flags else []

-- what stands before the partitions
abbrev pub head_text : Dev → List ℕ
head_text dev = product_line dev.product ++ locked_line dev.locked ++ slot_lines dev

-- the text of a device
unfoldable pub show_text : Dev → List ℕ
show_text dev =
    head_text dev
    ++ flat_map physical_line dev.physical
    ++ version_lines dev.table_minor dev.table_flags
    ++ flat_map group_line dev.groups
    ++ flat_map logical_line dev.logical

-- the lines of an outcome
abbrev pub text_of : Outcome → List ℕ
text_of NoFile = disk_line
text_of (BadLayout e) = layout_line e
text_of (BadDevice e) = device_line e
text_of (Made layout) = made_line (image_size layout)
text_of (Shown dev) = show_text dev
text_of (Unlocked dev) = unlocked_line dev.locked
