-- Writing all copies of a table: what it makes of a file, and what it leaves where the disk failed.
use Rattle.std.specs.Prelude.{◌≡◌, ◌⊎◌, ℕ, ◌+◌, ◌*◌, ◌<◌, List, length, Some}
use Rattle.dev_model.specs.Images.{copies}
use Rattle.dev_disk.specs.Files.{Tears, DifferWithin, IsTornAt, written, copy}
use Rattle.dev_disk.specs.Twins.{IsLeft}
use Rattle.dev_store.specs.declared.layout.SuperPart.{SuperPart}
use Rattle.super_meta.specs.Contents.{Content}
use Rattle.dev_store.specs.Faults.{IsHonest}
use Rattle.dev_store.specs.Supers.{copy_place, copy_reads, table_read}

-- so many of the blocks in a row were written, and a write of the next one failed
pub record AreSomeWritten (torn : Tears) (at count : ℕ) (block old new : List ℕ) : Type 0 where
  pub done : ℕ
  pub more : done < count
  pub next : IsTornAt torn (at + done * length block) block (written old at (copies done block)) new

-- All blocks in a row were written, or the first ones were: the first one holds the block, or what a failed
-- write of it left.
pub record AreLeft (torn : Tears) (at count : ℕ) (block old new : List ℕ) : Type 0 where
  pub differs : DifferWithin at (count * length block) old new
  pub first : IsLeft torn (copy old at (length block)) block (copy new at (length block))

-- the bytes of a copy of super's table, in the file from a place on
abbrev pub copy_in : SuperPart → ℕ → ℕ → List ℕ → List ℕ
copy_in s at k file = copy file (at + copy_place s k) s.max_size

-- each copy of super's table is these bytes, and all else is as it was
pub record AreCopiesWritten (s : SuperPart) (at : ℕ) (bytes old new : List ℕ) : Type 0 where
  pub differs : DifferWithin (at + 12288) (2 * s.slots * s.max_size) old new
  pub each : (k : ℕ) → k < 2 * s.slots → copy_in s at k new ≡ bytes

-- The copies were being written when the disk failed: the first of them, while its backup was as before, or
-- others behind it. All else is as it was.
pub record AreCopiesLeft (torn : Tears) (s : SuperPart) (at : ℕ) (bytes old new : List ℕ) : Type 0 where
  pub differs : DifferWithin (at + 12288) (2 * s.slots * s.max_size) old new
  pub left : (IsLeft torn (copy_in s at 0 old) bytes (copy_in s at 0 new)
      × (copy_in s at s.slots new ≡ copy_in s at s.slots old)) ⊎ (copy_in s at 0 new ≡ bytes)

-- The copies were being written when the disk failed: where all held one table, it is read still, or the one
-- that was being written is. All else is as it was.
pub record IsTableAround (torn : Tears) (s : SuperPart) (at : ℕ) (c : Content) (old new : List ℕ) : Type 0 where
  pub differs : DifferWithin (at + 12288) (2 * s.slots * s.max_size) old new
  pub reads : IsHonest torn → (was : Content) → copy_reads s 0 (copy old at s.size) ≡ Some was →
      copy_reads s s.slots (copy old at s.size) ≡ Some was →
      (table_read s (copy new at s.size) ≡ Some was) ⊎ (table_read s (copy new at s.size) ≡ Some c)
