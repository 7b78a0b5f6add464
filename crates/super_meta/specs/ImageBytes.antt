-- The bytes of an image of an empty super (liblp, super_empty.img).
use Rattle.std.specs.Prelude.{◌≡◌, ℕ, ◌+◌, List, length, drop}
use Rattle.super_meta.specs.declared.geometry.Geometry.{Geometry}
use Rattle.super_meta.specs.GeometryText.{GeometryBytes}
use Rattle.super_meta.specs.Contents.{Content}
use Rattle.super_meta.specs.TableText.{table_size}
use Rattle.super_meta.specs.TableBytes.{TableBytes}

-- The geometry's bytes stand in the first block of 4,096, the table's bytes follow the block, and nothing follows them.
pub record ImageBytes (g : Geometry) (c : Content) (bytes : List ℕ) : Type 0 where
  pub geometry : GeometryBytes g bytes
  pub table : TableBytes c (drop 4096 bytes)
  pub end : length bytes ≡ 4096 + table_size c
