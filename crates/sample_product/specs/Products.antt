-- The product that is drawn by a number, and the layout of the device that it is for.
use Rattle.std.specs.Prelude.{◌≡◌, ℕ, List, [], ◌∷◌, ◌++◌, Some, None, if◌then◌else◌, codes, bytes_eq}
use Rattle.std.specs.Prelude.{string_bytes}
use Rattle.flash_plan.specs.declared.memory_dir.DirFile.{DirFile}
use Rattle.flash_plan.specs.Files.{Files}
use Rattle.sample_product.specs.declared.raw.Length.{Length}
use Rattle.sample_product.specs.declared.raw.Length.TheVariants.{Bytes, Blocks}
use Rattle.sample_product.specs.Images.{raw_image, after_raw, sparse_image}
use Rattle.sample_product.specs.Metadata.{super_image}

abbrev pub layout_text : List ℕ
layout_text =
    codes "fbdevice 1\n"
    ++ codes "product falcon\n"
    ++ codes "serialno S3\n"
    ++ codes "slots 2\n"
    ++ codes "max-download 131072\n"
    ++ codes "var version-bootloader 1.25\n"
    ++ codes "partition bootloader_a 65536\n"
    ++ codes "partition bootloader_b 65536\n"
    ++ codes "partition radio_a 65536\n"
    ++ codes "partition radio_b 65536\n"
    ++ codes "partition boot_a 8388608\n"
    ++ codes "partition boot_b 8388608\n"
    ++ codes "partition vbmeta_a 65536\n"
    ++ codes "partition vbmeta_b 65536\n"
    ++ codes "partition userdata 131072\n"
    ++ codes "super super 67108864 65536 65536 2\n"

abbrev pub requirements : List ℕ
requirements = codes "require version-bootloader=1.2*|2.0\n"

abbrev pub tasks : List ℕ
tasks =
    codes "# fastboot-info for falcon\n"
    ++ codes "version 1\n"
    ++ codes "flash bootloader\n"
    ++ codes "flash radio\n"
    ++ codes "reboot bootloader\n"
    ++ codes "flash boot\n"
    ++ codes "flash --apply-vbmeta vbmeta\n"
    ++ codes "reboot fastboot\n"
    ++ codes "update-super\n"
    ++ codes "flash system\n"
    ++ codes "flash vendor\n"
    ++ codes "flash product\n"
    ++ codes "flash --slot-other system system_other.img\n"
    ++ codes "if-wipe erase userdata\n"

-- a name, and what the file of this name holds
pub record Entry : Type 0 where
  pub name : List ℕ
  pub bytes : List ℕ

abbrev pub entry : List ℕ → List ℕ → Entry
entry name bytes = record { name = name; bytes = bytes }

abbrev pub entry_of : DirFile → Entry
entry_of file = entry (string_bytes file.name) file.bytes.items

-- the files that aren't drawn
abbrev pub given_files : List Entry
given_files =
    entry (codes "android-info.txt") requirements
    ∷ entry (codes "fastboot-info.txt") tasks
    ∷ entry (codes "super_empty.img") super_image
    ∷ []

-- a raw image that is drawn, and what is drawn after it
abbrev pub draw_raw : List ℕ → Length → (ℕ → List Entry) → ℕ → List Entry
draw_raw name length rest x = entry name (raw_image length x) ∷ rest (after_raw length x)

-- the last image
abbrev pub draw_sparse : ℕ → List Entry
draw_sparse x = entry (codes "product.img") (sparse_image x) ∷ []

-- the images, in the order in which they are drawn
abbrev pub drawn_files : ℕ → List Entry
drawn_files =
    draw_raw (codes "bootloader.img") (Bytes 8192)
    (draw_raw (codes "radio.img") (Bytes 4096)
    (draw_raw (codes "boot.img") (Blocks 2048)
    (draw_raw (codes "vbmeta.img") (Bytes 4096)
    (draw_raw (codes "system.img") (Blocks 4096)
    (draw_raw (codes "vendor.img") (Blocks 2048)
    (draw_raw (codes "system_other.img") (Blocks 1024)
    draw_sparse))))))

-- all files
abbrev pub sample_entries : ℕ → List Entry
sample_entries number = given_files ++ drawn_files number

-- what the file of a name holds
abbrev pub found : List Entry → Files
found [] name = None
found (e ∷ entries) name = if bytes_eq e.name name then Some e.bytes else found entries name

-- the files are those of the product that this number draws
abbrev pub IsSampleProduct : ℕ → Files → Type 0
IsSampleProduct number files = (name : List ℕ) → files name ≡ found (sample_entries number) name
