-- Told disks: the files by their paths, the open file, and lists of bytes that were written over.
use Rattle.std.specs.Prelude.{◌≡◌, ◌≢◌, ℕ, ◌+◌, ◌≤◌, List, ◌++◌, length, take, drop, Option, Some, None}
use Rattle.fb_frame.specs.Told.{Both}

-- the bytes of each file that is there, by the bytes of its path
abbrev pub Files : Type 0
Files = List ℕ → Option (List ℕ)

-- the old bytes, with these ones over them from this place on
unfoldable pub written : List ℕ → ℕ → List ℕ → List ℕ
written old at bytes = take at old ++ (bytes ++ drop (at + length bytes) old)

-- the bytes of the open file, where the disk tells its files and one is open
unfoldable pub content : Option Files → Option (List ℕ) → Option (List ℕ)
content None path = None
content (Some files) None = None
content (Some files) (Some path) = files path

-- both lists have the same length and differ at most in this range
pub record DifferWithin (at count : ℕ) (old new : List ℕ) : Type 0 where
  pub same_length : length new ≡ length old
  pub front : take at new ≡ take at old
  pub rest : drop (at + count) new ≡ drop (at + count) old

-- the range lies in the open file
abbrev pub IsInside : Option ℕ → ℕ → ℕ → Type 0
IsInside None at count = ⊥
IsInside (Some size) at count = at + count ≤ size

-- the told bytes of this place
abbrev pub IsRead : Option (List ℕ) → ℕ → List ℕ → Type 0
IsRead None at bytes = Unit {0}
IsRead (Some file) at bytes = bytes ≡ take (length bytes) (drop at file)

-- these bytes were written over the old ones
abbrev pub IsWritten : ℕ → List ℕ → List ℕ → List ℕ → Type 0
IsWritten at bytes old new = new ≡ written old at bytes

-- these bytes were written over the told ones
abbrev pub Wrote : Option (List ℕ) → Option (List ℕ) → ℕ → List ℕ → Type 0
Wrote old new at bytes = Both (IsWritten at bytes) old new

-- what failed writes left: the bytes that were there, those that were being written, and those that are there then
abbrev pub Tears : Type 1
Tears = List ℕ → List ℕ → List ℕ → Type 0

-- what was torn is torn still
abbrev pub StaysTorn : Tears → Tears → Type 0
StaysTorn before now = (old written left : List ℕ) → before old written left → now old written left

-- nothing is torn: what a failed write left is what was there
abbrev pub unchanged : Tears
unchanged old written left = left ≡ old

-- so many bytes of the file from this place on
abbrev pub copy : List ℕ → ℕ → ℕ → List ℕ
copy file at size = take size (drop at file)

-- a failed write left what the range holds, and nothing else changed
pub record IsTornAt (torn : Tears) (at : ℕ) (bytes old new : List ℕ) : Type 0 where
  pub differs : DifferWithin at (length bytes) old new
  pub left : torn (copy old at (length bytes)) bytes (copy new at (length bytes))

-- no file changed but that of this path
abbrev pub HasOthers : List ℕ → Files → Files → Type 0
HasOthers path old new = (other : List ℕ) → other ≢ path → new other ≡ old other

-- no told file changed but that of this path
abbrev pub KeepsOthers : Option Files → Option Files → List ℕ → Type 0
KeepsOthers old new path = Both (HasOthers path) old new

-- no told file changed but the open one
abbrev pub KeepsUnopened : Option Files → Option Files → Option (List ℕ) → Type 0
KeepsUnopened old new None = new ≡ old
KeepsUnopened old new (Some path) = KeepsOthers old new path
