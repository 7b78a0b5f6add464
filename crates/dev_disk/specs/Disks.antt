-- What a disk tells, as one value, and what each call on a disk does to it.
use Rattle.std.specs.Prelude.{◌≡◌, ℕ, ◌≤◌, List, Option, Some}
use Rattle.fb_frame.specs.Causes.{Rose}
use Rattle.fb_frame.specs.Told.{Both}
use Rattle.dev_disk.specs.Calls.{HasLength, OpensLength, OpensPath, HasZeros, IsOpen, StaysOrShuts}
use Rattle.dev_disk.specs.Files.{Files, content, Tears, StaysTorn, IsTornAt, Wrote, KeepsOthers, KeepsUnopened}

-- All that a disk tells.
--   files: the bytes of each file, where the disk tells them
--   open_path: the path of the open file, told where the files are; None where no file is open
--   open_length: the length of the open file in bytes; None where none is open
--   faults: how many calls failed
--   torn: what failed writes left so far, or more
pub record DiskTold : Type 1 where
  pub files : Option Files
  pub open_path : Option (List ℕ)
  pub open_length : Option ℕ
  pub faults : ℕ
  pub torn : Tears

-- the bytes of the open file, where the disk tells its files and one is open
abbrev pub open_bytes : DiskTold → Option (List ℕ)
open_bytes t = content t.files t.open_path

-- All files are as they were, and the same one is open.
pub record FilesKept (old new : DiskTold) : Type 0 where
  pub files : new.files ≡ old.files
  pub path : new.open_path ≡ old.open_path
  pub length : new.open_length ≡ old.open_length
  pub later : old.faults ≤ new.faults
  pub torn : StaysTorn old.torn new.torn

-- The same file is open, as long as it was, and no other one changed.
pub record OpenKept (old new : DiskTold) : Type 0 where
  pub path : new.open_path ≡ old.open_path
  pub length : new.open_length ≡ old.open_length
  pub others : KeepsUnopened old.files new.files old.open_path
  pub later : old.faults ≤ new.faults
  pub torn : StaysTorn old.torn new.torn

-- A call failed and changed nothing.
pub record FailsStill (old new : DiskTold) : Type 0 where
  pub kept : FilesKept old new
  pub rose : Rose old.faults new.faults

-- The file of this path is open, and this is its length; where there is none, the one that was open before.
pub record Opens (old new : DiskTold) (path : List ℕ) (size : Option ℕ) : Type 0 where
  pub found : HasLength old.files path size
  pub length : OpensLength old.open_length new.open_length size
  pub path_open : OpensPath old.files old.open_path new.open_path path size
  pub files : new.files ≡ old.files
  pub later : old.faults ≤ new.faults
  pub torn : StaysTorn old.torn new.torn

-- A file of zeros of this path was made, and is open.
pub record Creates (old new : DiskTold) (path : List ℕ) (size : ℕ) : Type 0 where
  pub zeros : HasZeros new.files path size
  pub length : new.open_length ≡ Some size
  pub path_open : IsOpen new.files new.open_path path
  pub others : KeepsOthers old.files new.files path
  pub later : old.faults ≤ new.faults
  pub torn : StaysTorn old.torn new.torn

-- No file was made; there may be any one of this path, or none.
pub record FailsCreate (old new : DiskTold) (path : List ℕ) : Type 0 where
  pub stays : StaysOrShuts old.open_length new.open_length old.open_path new.open_path
  pub others : KeepsOthers old.files new.files path
  pub later : old.faults ≤ new.faults
  pub torn : StaysTorn old.torn new.torn

-- The bytes were written over those of the open file.
pub record Writes (old new : DiskTold) (at : ℕ) (bytes : List ℕ) : Type 0 where
  pub wrote : Wrote (open_bytes old) (open_bytes new) at bytes
  pub kept : OpenKept old new

-- A write of the bytes failed: what their range holds now is among what failed writes left.
pub record FailsWrite (old new : DiskTold) (at : ℕ) (bytes : List ℕ) : Type 0 where
  pub part : Both (IsTornAt new.torn at bytes) (open_bytes old) (open_bytes new)
  pub kept : OpenKept old new
  pub rose : Rose old.faults new.faults
