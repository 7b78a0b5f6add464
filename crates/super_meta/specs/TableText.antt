-- A table's bytes: the header and, after it, the lists of partitions, extents, groups and block
-- devices (liblp metadata_format.h).
use Rattle.std.specs.Prelude.{ℕ, ◌+◌, ◌*◌, Bool, true, not, ◌&&◌, ◌||◌, List, [], ◌∷◌, map, take, drop, ◌==◌, Option, Result, if◌then◌else◌}
use Rattle.std.specs.List.{list_all}
use Rattle.super_meta.specs.declared.errors.MetaError.{MetaError}
use Rattle.super_meta.specs.declared.errors.MetaError.TheVariants.{BadName, BadIndex, Overlap, Unsupported}
use Rattle.super_meta.specs.declared.header.Header.{Header}
use Rattle.super_meta.specs.Flaws.{first_flaw, or_flaw, ◌or_else◌}
use Rattle.super_meta.specs.HeaderText.{header_size, header_at, lists_size, header_flaw}
use Rattle.super_meta.specs.Entries.{rows, is_zero, is_named, is_name_field, is_unset, partition_of, extent_of, group_of, device_of}
use Rattle.super_meta.specs.Contents.{Content, tables_size, are_named_apart, are_indexed, are_laid, are_known}

-- the entries of each list, in the bytes after the header
abbrev pub partition_rows : Header → List ℕ → List (List ℕ)
partition_rows h tables = rows 52 h.partitions tables

abbrev pub extent_rows : Header → List ℕ → List (List ℕ)
extent_rows h tables = rows 24 h.extents (drop (52 * h.partitions) tables)

abbrev pub group_rows : Header → List ℕ → List (List ℕ)
group_rows h tables = rows 48 h.groups (drop (52 * h.partitions + 24 * h.extents) tables)

abbrev pub device_row : Header → List ℕ → List ℕ
device_row h tables = take 64 (drop (lists_size h) tables)

-- what the entries say
unfoldable pub content_in : Header → List ℕ → Content
content_in h tables = record {
  minor = h.minor;
  flags = h.flags;
  partitions = map partition_of (partition_rows h tables);
  extents = map extent_of (extent_rows h tables);
  groups = map group_of (group_rows h tables);
  device = device_of (device_row h tables);
}

-- each field of a name holds one
unfoldable pub names_hold : Header → List ℕ → Bool
names_hold h tables =
    list_all is_named (partition_rows h tables) && list_all is_named (group_rows h tables) && is_name_field (take 36 (drop 24 (device_row h tables)))

-- each extent lies on the only block device
unfoldable pub sources_hold : Header → List ℕ → Bool
sources_hold h tables = list_all (is_unset 20) (extent_rows h tables)

-- the reserved bytes of version 10.2 are zeros
abbrev pub reserved_hold : List ℕ → Header → Bool
reserved_hold bytes h = if h.minor == 2 then list_all is_zero (take 124 (drop 132 bytes)) else true

-- each extent is linear, no group and no block device has a flag, and what is reserved is zeros
unfoldable pub kinds_hold : List ℕ → Header → List ℕ → Bool
kinds_hold bytes h tables =
    list_all (is_unset 8) (extent_rows h tables) && list_all (is_unset 36) (group_rows h tables) && is_unset 60 (device_row h tables)
    && reserved_hold bytes h

-- what is wrong with what the entries say, by the whole bytes, the header and the bytes after it
abbrev pub entries_flaw : List ℕ → Header → List ℕ → Option MetaError
entries_flaw bytes h tables =
    first_flaw
    ((not (names_hold h tables) || not (are_named_apart (content_in h tables)), BadName)
    ∷ (not (are_indexed (content_in h tables)) || not (sources_hold h tables), BadIndex)
    ∷ (not (are_laid (content_in h tables)), Overlap)
    ∷ (not (are_known (content_in h tables)) || not (kinds_hold bytes h tables), Unsupported)
    ∷ [])

-- the bytes after a header
abbrev pub behind : List ℕ → Header → List ℕ
behind bytes h = drop (header_size h.minor) bytes

-- what is wrong with bytes as a table, None where they begin with one
abbrev pub table_flaw : List ℕ → Option MetaError
table_flaw bytes = header_flaw bytes or_else entries_flaw bytes (header_at bytes) (behind bytes (header_at bytes))

-- the table with which the bytes begin, or the first thing that is wrong with it
abbrev pub table_of : List ℕ → Result Content MetaError
table_of bytes = or_flaw (table_flaw bytes) (content_in (header_at bytes) (behind bytes (header_at bytes)))

-- how many bytes a table has, with its header
abbrev pub table_size : Content → ℕ
table_size c = header_size c.minor + tables_size c
