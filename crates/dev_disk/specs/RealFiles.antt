-- What a disk of real files tells.
use Rattle.std.specs.Prelude.{ℕ, Option, None, option_map}
use Rattle.dev_disk.specs.declared.file.FileDisk.{FileDisk}
use Rattle.dev_disk.specs.Disks.{DiskTold}

-- the length of the open file
abbrev pub file_length : {R : Type 0} → FileDisk R → Option ℕ
file_length disk = option_map (λ opened. opened.size) disk.opened

-- how many errors there were
abbrev pub file_faults : {R : Type 0} → FileDisk R → ℕ
file_faults disk = disk.faults

-- it tells no bytes, so its failed writes may have left any
abbrev pub file_told : {R : Type 0} → FileDisk R → DiskTold
file_told disk = record {
  files = None;
  open_path = None;
  open_length = file_length disk;
  faults = file_faults disk;
  torn = λ _ _ _. Unit {0};
}
