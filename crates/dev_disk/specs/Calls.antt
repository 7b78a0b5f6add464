-- Told disks: what opening and making a file does, and how the meanings of a disk hang together.
use Rattle.std.specs.Prelude.{◌≡◌, ◌⊎◌, ℕ, List, length, Option, Some, None, IsSome, option_map}
use Rattle.fb_frame.specs.Bytes.{zeros}
use Rattle.dev_disk.specs.Files.{Files}

-- the length of the told file of this path, none where there is none; some length where no files are told
abbrev pub HasLength : Option Files → List ℕ → Option ℕ → Type 0
HasLength None path size = IsSome size
HasLength (Some files) path size = size ≡ option_map length (files path)

-- the open path is this one, where the disk tells its files
abbrev pub IsOpen : Option Files → Option (List ℕ) → List ℕ → Type 0
IsOpen None open_path path = open_path ≡ None
IsOpen (Some files) open_path path = open_path ≡ Some path

-- the file of this path is there and holds zeros of this length, where the disk tells its files
abbrev pub HasZeros : Option Files → List ℕ → ℕ → Type 0
HasZeros None path size = Unit {0}
HasZeros (Some files) path size = files path ≡ Some (zeros size)

-- a file of this length is open; where there is none, the one that was open before
abbrev pub OpensLength : Option ℕ → Option ℕ → Option ℕ → Type 0
OpensLength old new None = new ≡ old
OpensLength old new (Some size) = new ≡ Some size

-- the file of this path is open; where there is none, the one that was open before
abbrev pub OpensPath : Option Files → Option (List ℕ) → Option (List ℕ) → List ℕ → Option ℕ → Type 0
OpensPath files old new path None = new ≡ old
OpensPath files old new path (Some size) = IsOpen files new path

-- the same file is open as before, or none
abbrev pub StaysOrShuts : Option ℕ → Option ℕ → Option (List ℕ) → Option (List ℕ) → Type 0
StaysOrShuts old new old_path new_path = ((new ≡ old) × (new_path ≡ old_path)) ⊎ ((new ≡ None) × (new_path ≡ None))

abbrev pub IsFileOf : Option (List ℕ) → ℕ → Type 0
IsFileOf None size = ⊥
IsFileOf (Some file) size = length file ≡ size

-- The open path is told where the files are; a file is open exactly where it has a length, and is there with it.
abbrev pub Agrees : Option Files → Option (List ℕ) → Option ℕ → Type 0
Agrees None open_path size = open_path ≡ None
Agrees (Some files) None size = size ≡ None
Agrees (Some files) (Some path) None = ⊥
Agrees (Some files) (Some path) (Some size) = IsFileOf (files path) size
