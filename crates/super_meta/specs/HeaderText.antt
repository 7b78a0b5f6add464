-- The header of a table: 128 bytes, or 256 in version 10.2 (liblp metadata_format.h, LpMetadataHeader).
use Rattle.std.specs.Prelude.{ℕ, ◌+◌, ◌-◌, ◌*◌, Bool, not, ◌&&◌, ◌||◌, List, [], ◌∷◌, length, take, drop, nat_lt, ◌==◌, bytes_eq, Option, Result, if◌then◌else◌}
use Rattle.sha2.specs.Sha256.{sha256}
use Rattle.super_meta.specs.declared.errors.MetaError.{MetaError}
use Rattle.super_meta.specs.declared.errors.MetaError.TheVariants.{ShortInput, BadMagic, BadVersion, BadSize, BadChecksum, BadDescriptor}
use Rattle.super_meta.specs.declared.header.Header.{Header}
use Rattle.super_meta.specs.Flaws.{first_flaw, or_flaw, ◌or_else◌}
use Rattle.fb_frame.specs.Fields.{u16_at, u32_at}
use Rattle.super_meta.specs.Sealed.{digest_around}

-- how many bytes a header has
abbrev pub header_size : ℕ → ℕ
header_size minor = if minor == 2 then 256 else 128

-- the flags, which only version 10.2 has
unfoldable pub flags_at : List ℕ → ℕ
flags_at bytes = if u16_at 6 bytes == 2 then u32_at 128 bytes else 0

-- what the header tells of the tables after it
unfoldable pub header_at : List ℕ → Header
header_at bytes = record {
  minor = u16_at 6 bytes;
  flags = flags_at bytes;
  partitions = u32_at 84 bytes;
  extents = u32_at 96 bytes;
  groups = u32_at 108 bytes;
}

-- how many bytes the tables have before the block devices
abbrev pub lists_size : Header → ℕ
lists_size h = 52 * h.partitions + 24 * h.extents + 48 * h.groups

-- a descriptor at a place of the header tells this place and this entry size
abbrev pub describes : List ℕ → ℕ → ℕ → ℕ → Bool
describes bytes at place size = u32_at at bytes == place && u32_at (at + 8) bytes == size

-- The tables follow one another without gaps, with entries of their own sizes, and there is one block device.
unfoldable pub are_described : List ℕ → Header → Bool
are_described bytes h =
    describes bytes 80 0 52
    && describes bytes 92 (52 * h.partitions) 24
    && describes bytes 104 (52 * h.partitions + 24 * h.extents) 48
    && describes bytes 116 (lists_size h) 64
    && u32_at 120 bytes == 1

-- the digest of the header is that of the header without it
unfoldable pub header_holds : List ℕ → ℕ → Bool
header_holds bytes size = bytes_eq (take 32 (drop 12 bytes)) (digest_around (take 12 bytes) (take (size - 44) (drop 44 bytes)))

-- and that of the tables is theirs
unfoldable pub tables_hold : List ℕ → ℕ → ℕ → Bool
tables_hold bytes size more = bytes_eq (take 32 (drop 48 bytes)) (sha256 (take more (drop size bytes)))

-- what is wrong with a header's form, its size and the size of the tables
abbrev pub size_flaw : List ℕ → Header → Option MetaError
size_flaw bytes h =
    first_flaw
    ((nat_lt (length bytes) 128, ShortInput)
    ∷ (not (u32_at 0 bytes == 0x414C5030), BadMagic)
    ∷ (not (u16_at 4 bytes == 10) || nat_lt 2 h.minor, BadVersion)
    ∷ (not (u32_at 8 bytes == header_size h.minor), BadSize)
    ∷ (nat_lt (length bytes) (header_size h.minor + u32_at 44 bytes), ShortInput)
    ∷ (not (u32_at 44 bytes == lists_size h + 64 * u32_at 120 bytes), BadSize)
    ∷ [])

-- what is wrong with the digests and the descriptors
abbrev pub seal_flaw : List ℕ → Header → Option MetaError
seal_flaw bytes h =
    first_flaw
    ((not (header_holds bytes (header_size h.minor)) || not (tables_hold bytes (header_size h.minor) (u32_at 44 bytes)), BadChecksum)
    ∷ (not (are_described bytes h), BadDescriptor)
    ∷ [])

-- what is wrong with bytes as a header, with the size and the digest of the tables after it
abbrev pub header_flaw : List ℕ → Option MetaError
header_flaw bytes = size_flaw bytes (header_at bytes) or_else seal_flaw bytes (header_at bytes)

-- the header with which the bytes begin, or the first thing that is wrong with it
abbrev pub header_of : List ℕ → Result Header MetaError
header_of bytes = or_flaw (header_flaw bytes) (header_at bytes)
