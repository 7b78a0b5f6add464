-- What opening leaves of super: copies that it writes anew, and one whose write failed.
use Rattle.std.specs.Prelude.{◌≡◌, ◌≢◌, ◌⊎◌, ℕ, ◌+◌, ◌*◌, ◌<◌, true, false, List, Some, IsTrue}
use Rattle.std.specs.Prelude.{if◌then◌else◌}
use Rattle.std.specs.Result.{result_ok}
use Rattle.super_meta.specs.Contents.{Content, content}
use Rattle.super_meta.specs.TableText.{table_of}
use Rattle.dev_disk.specs.Files.{Tears, DifferWithin, copy}
use Rattle.dev_store.specs.declared.layout.SuperPart.{SuperPart}
use Rattle.dev_store.specs.declared.super_read.SuperRead.{SuperRead}
use Rattle.dev_store.specs.Supers.{geometry_copy, holds_geometry, copy_place, copy_reads, table_read}
use Rattle.dev_store.specs.SuperReads.{copy_read}
use Rattle.dev_store.specs.Repairs.{IsSuperRepaired}
use Rattle.dev_store.specs.Faults.{IsHonest}

-- the block holds the layout's geometry
abbrev pub HoldsGeometry : SuperPart → List ℕ → Type 0
HoldsGeometry s block = IsTrue (holds_geometry s block)

-- the bytes begin with the table
abbrev pub SaysTable : Content → List ℕ → Type 0
SaysTable c bytes = result_ok (table_of bytes) ≡ Some c

-- a range of a file holds what it is to hold, and all else is as it was
pub record IsRangeMended (at size : ℕ) (Holds : List ℕ → Type 0) (old new : List ℕ) : Type 0 where
  pub differs : DifferWithin at size old new
  pub holds : Holds (copy new at size)

-- a range of a file is as it was, or is what a failed write of these bytes left; all else is as it was
pub record IsRangeLeft (torn : Tears) (at size : ℕ) (bytes old new : List ℕ) : Type 0 where
  pub differs : DifferWithin at size old new
  pub left : (copy new at size ≡ copy old at size) ⊎ torn (copy old at size) bytes (copy new at size)

-- A copy of the table says it, unless it is the one that was read, which nothing changes. All else is as it
-- was.
pub record IsCopyMended (s : SuperPart) (at own : ℕ) (c : Content) (k : ℕ) (old new : List ℕ) : Type 0 where
  pub differs : DifferWithin (at + copy_place s k) s.max_size old new
  pub says : k ≢ own → SaysTable c (copy new (at + copy_place s k) s.max_size)
  pub kept : k ≡ own → new ≡ old

-- A copy other than the one that was read is as it was, or what a failed write left. All else is as it was.
pub record IsCopyLeft (torn : Tears) (s : SuperPart) (at : ℕ) (r : SuperRead) (k : ℕ)
    (old new : List ℕ) : Type 0 where
  pub other : k ≢ copy_read s r.backup
  pub left : IsRangeLeft torn (at + copy_place s k) s.max_size r.copy.items old new

-- The first copies of the table say it, and so does the one that was read; the others read as they did.
pub record AreMendedTo (s : SuperPart) (at own : ℕ) (c : Content) (count : ℕ)
    (old new : List ℕ) : Type 0 where
  pub differs : DifferWithin (at + 12288) (2 * s.slots * s.max_size) old new
  pub own_reads : copy_reads s own (copy new at s.size) ≡ Some c
  pub done : (k : ℕ) → k < count → copy_reads s k (copy new at s.size) ≡ Some c
  pub first : 0 < count ⊎ (copy_reads s 0 (copy new at s.size) ≡ copy_reads s 0 (copy old at s.size))

-- all copies of the table hold it
pub record AreTablesMended (s : SuperPart) (at : ℕ) (c : Content) (old new : List ℕ) : Type 0 where
  pub differs : DifferWithin (at + 12288) (2 * s.slots * s.max_size) old new
  pub copies : (k : ℕ) → k < 2 * s.slots → copy_reads s k (copy new at s.size) ≡ Some c

-- the table is read still, under the premise on failed writes
pub record AreTablesLeft (torn : Tears) (s : SuperPart) (at : ℕ) (c : Content)
    (old new : List ℕ) : Type 0 where
  pub differs : DifferWithin (at + 12288) (2 * s.slots * s.max_size) old new
  pub reads : IsHonest torn → table_read s (copy new at s.size) ≡ Some c

-- Super was repaired, in the file from a place on.
abbrev pub IsSuperMended : SuperPart → ℕ → List ℕ → List ℕ → Type 0
IsSuperMended s at old new = IsSuperRepaired s (copy old at s.size) (copy new at s.size)

-- Super reads as it did: a block holds the geometry, and the same table is read.
pub record IsSuperLeft (s : SuperPart) (at : ℕ) (old new : List ℕ) : Type 0 where
  pub geometry : IsTrue (if holds_geometry s (geometry_copy false (copy new at s.size))
      then true else holds_geometry s (geometry_copy true (copy new at s.size)))
  pub table : table_read s (copy new at s.size) ≡ table_read s (copy old at s.size)
