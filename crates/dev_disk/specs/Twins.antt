-- Twin copies: two places of a file that hold one block and are written one after the other.
use Rattle.std.specs.Prelude.{◌≡◌, ◌⊎◌, ℕ, ◌+◌, ◌≤◌, Bool, List, length, Option, if◌then◌else◌}
use Rattle.dev_disk.specs.declared.twin.Twin.{Twin}
use Rattle.fb_frame.specs.Causes.{Rose}
use Rattle.fb_frame.specs.Told.{Both}
use Rattle.dev_disk.specs.Disks.{DiskTold, open_bytes, OpenKept}
use Rattle.dev_disk.specs.Files.{IsInside, DifferWithin, written, copy, Tears}

-- both copies lie in the open file and share no byte
pub record IsTwin (twin : Twin) (size : Option ℕ) : Type 0 where
  pub first_inside : IsInside size twin.first twin.size
  pub second_inside : IsInside size twin.second twin.size
  pub apart : (twin.first + twin.size ≤ twin.second) ⊎ (twin.second + twin.size ≤ twin.first)

-- the place of the second copy, or of the first
abbrev pub copy_place : Twin → Bool → ℕ
copy_place twin second = if second then twin.second else twin.first

-- the block was written over both copies, and nothing else changed
pub record WroteBoth (twin : Twin) (block old new : List ℕ) : Type 0 where
  pub whole : new ≡ written (written old twin.first block) twin.second block
  pub first : copy new twin.first twin.size ≡ block
  pub second : copy new twin.second twin.size ≡ block
  pub same_length : length new ≡ length old

-- a copy holds the block, or what a failed write of it left
abbrev pub IsLeft : Tears → List ℕ → List ℕ → List ℕ → Type 0
IsLeft torn old block now = (now ≡ block) ⊎ torn old block now

-- the first copy was being written, and nothing else changed
pub record IsFirstLeft (torn : Tears) (twin : Twin) (block old new : List ℕ) : Type 0 where
  pub differs : DifferWithin twin.first twin.size old new
  pub first : IsLeft torn (copy old twin.first twin.size) block (copy new twin.first twin.size)
  pub second : copy new twin.second twin.size ≡ copy old twin.second twin.size

-- the first copy holds the block, the second was being written, and nothing else changed
pub record IsSecondLeft (torn : Tears) (twin : Twin) (block old new : List ℕ) : Type 0 where
  pub differs : DifferWithin twin.second twin.size (written old twin.first block) new
  pub first : copy new twin.first twin.size ≡ block
  pub second : IsLeft torn (copy old twin.second twin.size) block (copy new twin.second twin.size)

-- One copy was being written: so the other one is whole.
abbrev pub WroteOne : Tears → Twin → List ℕ → List ℕ → List ℕ → Type 0
WroteOne torn twin block old new = IsFirstLeft torn twin block old new ⊎ IsSecondLeft torn twin block old new

-- the block was being written over one place, and nothing else changed
pub record IsLeftAt (torn : Tears) (at : ℕ) (block old new : List ℕ) : Type 0 where
  pub differs : DifferWithin at (length block) old new
  pub left : IsLeft torn (copy old at (length block)) block (copy new at (length block))

-- Both copies were written.
pub record WritesTwin (twin : Twin) (block : List ℕ) (old new : DiskTold) : Type 0 where
  pub both : Both (WroteBoth twin block) (open_bytes old) (open_bytes new)
  pub kept : OpenKept old new

-- One copy was being written when a call failed.
pub record FailsTwin (twin : Twin) (block : List ℕ) (old new : DiskTold) : Type 0 where
  pub one : Both (WroteOne new.torn twin block) (open_bytes old) (open_bytes new)
  pub kept : OpenKept old new
  pub rose : Rose old.faults new.faults

-- A block was being written over one place when a call failed.
pub record FailsCopy (old new : DiskTold) (at : ℕ) (block : List ℕ) : Type 0 where
  pub left : Both (IsLeftAt new.torn at block) (open_bytes old) (open_bytes new)
  pub kept : OpenKept old new
  pub rose : Rose old.faults new.faults
