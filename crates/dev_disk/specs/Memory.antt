-- What a disk in memory tells.
use Rattle.std.specs.Prelude.{◌≡◌, ℕ, Bool, List, Option, Some, option_map}
use Rattle.dev_disk.specs.declared.memory.MemoryDisk.{MemoryDisk}
use Rattle.dev_disk.specs.Files.{Files, content, unchanged}
use Rattle.dev_disk.specs.Disks.{DiskTold}
use Rattle.fb_frame.specs.Failing.{Failing, fails_next, counted}
use Rattle.dev_disk.specs.MemoryFiles.{file_of, path_at, length_at}

-- the bytes of each file
abbrev pub memory_files : MemoryDisk → Files
memory_files disk = file_of disk.files.items

-- the path of the open file
abbrev pub memory_path : MemoryDisk → Option (List ℕ)
memory_path disk = option_map (path_at disk.files.items) disk.opened

-- the bytes of the open file
abbrev pub memory_bytes : MemoryDisk → Option (List ℕ)
memory_bytes disk = content (Some (memory_files disk)) (memory_path disk)

-- the length of the open file
abbrev pub memory_length : MemoryDisk → Option ℕ
memory_length disk = option_map (length_at disk.files.items) disk.opened

-- the calls that fail, and the count of calls
abbrev pub memory_failing : MemoryDisk → Failing
memory_failing disk = disk.failures

-- how many calls failed
abbrev pub memory_faults : MemoryDisk → ℕ
memory_faults disk = disk.failures.faults

-- all that it tells
abbrev pub memory_told : MemoryDisk → DiskTold
memory_told disk = record {
  files = Some (memory_files disk);
  open_path = memory_path disk;
  open_length = memory_length disk;
  faults = memory_faults disk;
  torn = unchanged;
}

-- the next call fails, where it writes n bytes; 0 for one that writes none
abbrev pub must_fail : MemoryDisk → ℕ → Bool
must_fail disk n = fails_next (memory_failing disk) n

-- one more call was counted, which writes n bytes, and one more fault where it failed
abbrev pub Counts : MemoryDisk → MemoryDisk → ℕ → Type 0
Counts old new n = memory_failing new ≡ counted (memory_failing old) n

-- the files, the open path and its length are as they were
pub record KeepsFiles (old new : MemoryDisk) : Type 0 where
  pub same_files : memory_files new ≡ memory_files old
  pub same_path : memory_path new ≡ memory_path old
  pub same_length : memory_length new ≡ memory_length old
