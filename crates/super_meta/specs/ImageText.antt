-- The image of an empty super: a block with the geometry, and a table (liblp, super_empty.img).
use Rattle.std.specs.Prelude.{ℕ, ◌+◌, List, length, take, drop, nat_lt, ◌==◌, Result, Ok, Err, if◌then◌else◌}
use Rattle.super_meta.specs.declared.errors.MetaError.{MetaError}
use Rattle.super_meta.specs.declared.errors.MetaError.TheVariants.{ShortInput, BadSize}
use Rattle.super_meta.specs.declared.geometry.Geometry.{Geometry}
use Rattle.super_meta.specs.Flaws.{◌then_on◌}
use Rattle.super_meta.specs.GeometryText.{geometry_of}
use Rattle.super_meta.specs.Contents.{Content}
use Rattle.super_meta.specs.TableText.{table_of, table_size}

-- the geometry in the first block
abbrev pub block_geometry : List ℕ → Result Geometry MetaError
block_geometry bytes = if nat_lt (length bytes) 4096 then Err ShortInput else geometry_of (take 4096 bytes)

-- The geometry and the table of such an image, or the first thing that is wrong with it: its length is
-- the last thing that is looked at.
abbrev pub image_of : List ℕ → Result (Geometry × Content) MetaError
image_of bytes =
    block_geometry bytes then_on λ geometry.
    table_of (drop 4096 bytes) then_on λ content.
    if length bytes == 4096 + table_size content then Ok (geometry, content) else Err BadSize
