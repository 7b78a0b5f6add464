-- Laws of geometries, tables and images: bytes determine them, and they determine their bytes. Laws of what a table says.
use Rattle.std.specs.Prelude.{◌≡◌, ◌≤◌, ℕ, List, length, take, flat_map, sum_by, count_by, slice_get, Some, None, IsSome, Ok, ◌↔◌, IsTrue}
use Rattle.super_meta.specs.declared.geometry.Geometry.{Geometry}
use Rattle.super_meta.specs.declared.table.Partition.{Partition}
use Rattle.super_meta.specs.declared.table.Extent.{Extent}
use Rattle.super_meta.specs.GeometryText.{geometry_of, GeometryBytes}
use Rattle.super_meta.specs.Contents.{Content, has_sector, are_apart, take_in_turn, are_indexed, extents_of}
use Rattle.super_meta.specs.TableText.{table_of}
use Rattle.super_meta.specs.TableBytes.{TableBytes}
use Rattle.super_meta.specs.ImageText.{image_of}
use Rattle.super_meta.specs.ImageBytes.{ImageBytes}
use Rattle.super_meta.specs.Held.{tables_of_image, tables_flaw}
use Rattle.fb_frame.specs.Bytes.{AreBytes}

-- Bytes that begin with a geometry's 52 bytes are read as it.
abbrev pub GeometryRead : Type 0
GeometryRead = (bytes : List ℕ) (g : Geometry) → GeometryBytes g bytes → geometry_of bytes ≡ Ok g

-- A geometry that is read of bytes stands at their front.
abbrev pub GeometrySpelled : Type 0
GeometrySpelled = (bytes : List ℕ) (g : Geometry) → AreBytes bytes → geometry_of bytes ≡ Ok g → GeometryBytes g bytes

-- Bytes begin with one geometry at most.
abbrev pub OneGeometry : Type 0
OneGeometry = (bytes : List ℕ) (g h : Geometry) → GeometryBytes g bytes → GeometryBytes h bytes → g ≡ h

-- Bytes that begin with a table's one spelling are read as it.
abbrev pub TableRead : Type 0
TableRead = (bytes : List ℕ) (c : Content) → TableBytes c bytes → table_of bytes ≡ Ok c

-- A table that is read of bytes stands at their front in its one spelling.
abbrev pub TableSpelled : Type 0
TableSpelled = (bytes : List ℕ) (c : Content) → AreBytes bytes → table_of bytes ≡ Ok c → TableBytes c bytes

-- Bytes begin with one table at most.
abbrev pub OneTable : Type 0
OneTable = (bytes : List ℕ) (c d : Content) → TableBytes c bytes → TableBytes d bytes → c ≡ d

-- Bytes that are the image of a geometry and a table are read as these.
abbrev pub ImageRead : Type 0
ImageRead = (bytes : List ℕ) (g : Geometry) (c : Content) → ImageBytes g c bytes → image_of bytes ≡ Ok (g, c)

-- Bytes that are read as an image are that of the geometry and the table.
abbrev pub ImageSpelled : Type 0
ImageSpelled = (bytes : List ℕ) (g : Geometry) (c : Content) → AreBytes bytes → image_of bytes ≡ Ok (g, c) → ImageBytes g c bytes

-- Extents are apart exactly where no sector lies in two of them.
abbrev pub SectorsOnce : Type 0
SectorsOnce = (extents : List Extent) → IsTrue (are_apart extents) ↔ ((sector : ℕ) → count_by (has_sector sector) extents ≤ 1)

-- Each partition's first extent is the sum of the counts before it, and all counts together are the number of extents.
pub record IsInTurn (extents : ℕ) (partitions : List Partition) : Type 0 where
  pub first : (i : ℕ) (p : Partition) → slice_get partitions i ≡ Some p → p.first ≡ sum_by (λ q. q.count) (take i partitions)
  pub all : sum_by (λ q. q.count) partitions ≡ extents

-- That is what it is to take extents in turn.
abbrev pub TakenInTurn : Type 0
TakenInTurn = (extents : ℕ) (partitions : List Partition) → IsTrue (take_in_turn extents 0 partitions) ↔ IsInTurn extents partitions

-- The extents of each partition, joined, are the extents.
abbrev pub ExtentsJoined : Type 0
ExtentsJoined = (c : Content) → IsTrue (are_indexed c) → flat_map (extents_of c) c.partitions ≡ c.extents

-- A file of at most 131,072 bytes holds tables exactly where it has no flaw.
abbrev pub TablesFlaw : Type 0
TablesFlaw = (file : List ℕ) → length file ≤ 131072 → (tables_flaw file ≡ None) ↔ IsSome (tables_of_image file)
