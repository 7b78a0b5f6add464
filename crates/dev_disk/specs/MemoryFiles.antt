-- The files of a disk in memory, as a list; of two with one path the first counts.
use Rattle.std.specs.Prelude.{◌≡◌, ℕ, Bool, List, [], length, Option, Some, find, position, option_map, slice_get}
use Rattle.std.specs.Option.{option_map_or}
use Rattle.std.specs.Str.{bytes_eq}
use Rattle.dev_disk.specs.declared.memory_files.MemoryFile.{MemoryFile}

abbrev pub has_path : List ℕ → MemoryFile → Bool
has_path path file = bytes_eq file.path.items path

-- the bytes of the file of this path
unfoldable pub file_of : List MemoryFile → List ℕ → Option (List ℕ)
file_of files path = option_map (λ file. file.bytes.items) (find (has_path path) files)

-- the place of the file of this path
unfoldable pub place_of : List MemoryFile → List ℕ → Option ℕ
place_of files path = position (has_path path) files

-- the path of the file at this place
unfoldable pub path_at : List MemoryFile → ℕ → List ℕ
path_at files place = option_map_or (λ file. file.path.items) (slice_get files place) []

-- the length of the file at this place
unfoldable pub length_at : List MemoryFile → ℕ → ℕ
length_at files place = option_map_or (λ file. length file.bytes.items) (slice_get files place) 0

-- the file at this place is the one of its path
abbrev pub IsFirst : List MemoryFile → ℕ → Type 0
IsFirst files place = place_of files (path_at files place) ≡ Some place
