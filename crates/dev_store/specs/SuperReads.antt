-- What opening reads of super: its geometry, its table, and which units each logical partition has.
use Rattle.std.specs.Prelude.{◌≡◌, ℕ, ◌≤◌, Bool, true, List, length, Option, Some, None, IsTrue}
use Rattle.std.specs.Prelude.{if◌then◌else◌, vec_capacity}
use Rattle.super_meta.specs.declared.table.Table.{Table}
use Rattle.super_meta.specs.Contents.{Content, content}
use Rattle.super_meta.specs.TableText.{table_size}
use Rattle.super_meta.specs.TableBytes.{TableBytes}
use Rattle.dev_store.specs.declared.layout.SuperPart.{SuperPart}
use Rattle.dev_store.specs.declared.super_read.SuperRead.{SuperRead}
use Rattle.dev_store.specs.declared.super_table.FoundTable.{FoundTable}
use Rattle.dev_store.specs.LayoutLines.{unit_count}
use Rattle.dev_store.specs.Supers.{geometry_copy, holds_geometry, copy_reads, table_read}
use Rattle.dev_store.specs.SuperBounds.{IsMapOf}

-- the same of what was read
abbrev pub IsMap : SuperPart → SuperRead → Type 0
IsMap s r = IsMapOf s (content r.table) r.owners r.parts.items

-- A table has room for as many partitions and groups as a device has at most, and for an extent of each unit.
pub record HasRoom (units : ℕ) (t : Table) : Type 0 where
  pub partitions : 128 ≤ vec_capacity t.partitions
  pub groups : 64 ≤ vec_capacity t.groups
  pub extents : units ≤ vec_capacity t.extents

-- There is such room for the table, for the next one, and for the part of each partition.
pub record HasRooms (s : SuperPart) (r : SuperRead) : Type 0 where
  pub table : HasRoom (unit_count s) r.table
  pub next : HasRoom (unit_count s) r.next
  pub parts : 128 ≤ vec_capacity r.parts

-- The table in its one spelling, with as many bytes as a copy has.
pub record IsSpelled (s : SuperPart) (r : SuperRead) : Type 0 where
  pub copy : TableBytes (content r.table) r.copy.items
  pub size : r.size ≡ table_size (content r.table)
  pub fits : r.size ≤ s.max_size
  pub long : length r.copy.items ≡ s.max_size

-- The next table is in the copy so.
pub record IsNextSpelled (s : SuperPart) (r : SuperRead) : Type 0 where
  pub copy : TableBytes (content r.next) r.copy.items
  pub size : r.size ≡ table_size (content r.next)
  pub fits : r.size ≤ s.max_size
  pub long : length r.copy.items ≡ s.max_size

-- the copy of the table that is read: the backup of slot 0, or else its primary
abbrev pub copy_read : SuperPart → Bool → ℕ
copy_read s backup = if backup then s.slots else 0

-- the table was read of this copy, and where that is the backup, the primary can't be read
pub record IsReadOf (s : SuperPart) (super : List ℕ) (backup : Bool) (c : Content) : Type 0 where
  pub copy : copy_reads s (copy_read s backup) super ≡ Some c
  pub first : backup ≡ true → copy_reads s 0 super ≡ None

-- the table that was found, or neither copy can be read
abbrev pub IsTableFound : SuperPart → List ℕ → Option FoundTable → Type 0
IsTableFound s super None = table_read s super ≡ None
IsTableFound s super (Some f) = IsReadOf s super f.backup (content f.table)

-- The geometry and the table of super are what was read.
pub record IsSuperRead (s : SuperPart) (super : List ℕ) (r : SuperRead) : Type 0 where
  pub geometry : IsTrue (holds_geometry s (geometry_copy r.second super))
  pub table : IsReadOf s super r.backup (content r.table)
  pub read : table_read s super ≡ Some (content r.table)
