-- The geometry of super: 52 bytes (liblp metadata_format.h, LpMetadataGeometry).
use Rattle.std.specs.Prelude.{◌≡◌, ℕ, ◌<◌, ◌^◌, ◌%◌, Bool, not, ◌&&◌, ◌||◌, List, [], ◌∷◌, ◌++◌, length, take, drop, nat_lt, ◌==◌, bytes_eq, Option, Result, IsTrue}
use Rattle.std.specs.Int.{w32, to_le_bytes}
use Rattle.super_meta.specs.declared.errors.MetaError.{MetaError}
use Rattle.super_meta.specs.declared.errors.MetaError.TheVariants.{ShortInput, BadMagic, BadSize, BadChecksum}
use Rattle.super_meta.specs.declared.geometry.Geometry.{Geometry}
use Rattle.super_meta.specs.Flaws.{first_flaw, or_flaw}
use Rattle.fb_frame.specs.Fields.{u32_at}
use Rattle.super_meta.specs.Sealed.{digest_around, sealed}

-- The room of a table's copy is a multiple of 512 bytes above 0, there is at least one metadata slot,
-- and a block has 4,096 bytes.
abbrev pub is_geometry : Geometry → Bool
is_geometry g = nat_lt 0 g.max_size && g.max_size % 512 == 0 && nat_lt 0 g.slots && g.block_size == 4096

-- the numbers after the digest, as they stand
abbrev pub geometry_at : List ℕ → Geometry
geometry_at bytes = record { max_size = u32_at 40 bytes; slots = u32_at 44 bytes; block_size = u32_at 48 bytes }

-- what is wrong with bytes as a geometry, None where they begin with one
abbrev pub geometry_flaw : List ℕ → Option MetaError
geometry_flaw bytes =
    first_flaw
    ((nat_lt (length bytes) 52, ShortInput)
    ∷ (not (u32_at 0 bytes == 0x616C4467), BadMagic)
    ∷ (not (u32_at 4 bytes == 52) || not (is_geometry (geometry_at bytes)), BadSize)
    ∷ (not (bytes_eq (take 32 (drop 8 bytes)) (digest_around (take 8 bytes) (take 12 (drop 40 bytes)))), BadChecksum)
    ∷ [])

-- the geometry with which the bytes begin, or the first thing that is wrong with it
abbrev pub geometry_of : List ℕ → Result Geometry MetaError
geometry_of bytes = or_flaw (geometry_flaw bytes) (geometry_at bytes)

-- what stands before the digest: magic number and structure size
unfoldable pub geometry_front : List ℕ
geometry_front = to_le_bytes w32 0x616C4467 ++ to_le_bytes w32 52

-- what follows the digest: the three numbers
unfoldable pub geometry_back : Geometry → List ℕ
geometry_back g = to_le_bytes w32 g.max_size ++ to_le_bytes w32 g.slots ++ to_le_bytes w32 g.block_size

-- a geometry's bytes
abbrev pub geometry_bytes : Geometry → List ℕ
geometry_bytes g = sealed geometry_front (geometry_back g)

-- The bytes begin with this geometry. What follows its 52 bytes counts for nothing.
pub record GeometryBytes (g : Geometry) (bytes : List ℕ) : Type 0 where
  pub good : IsTrue (is_geometry g)
  pub max_size : g.max_size < 2 ^ 32
  pub slots : g.slots < 2 ^ 32
  pub spelled : take 52 bytes ≡ geometry_bytes g
