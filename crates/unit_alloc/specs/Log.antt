-- Owners as the list of entries of one unit each, in the order in which the units were handed out.
use Rattle.std.specs.Prelude.{ℕ, ◌<◌, List, [], ◌∷◌, fold, if◌then◌else◌, ◌==◌, All}
use Rattle.unit_alloc.specs.declared.plain.Entry.{Entry}
use Rattle.unit_alloc.specs.Owning.{Owning, OneOwner, handed, unowned}

-- the entry's unit goes to the entry's part
abbrev pub entered : Owning → Entry → Owning
entered owning entry = handed owning entry.part (entry.unit ∷ [])

-- what the entries come to, one after another
unfoldable pub replayed : ℕ → ℕ → List Entry → Owning
replayed units parts entries = fold entered (unowned units parts) entries

-- the units that the entries give to a part, in their order
abbrev pub given : ℕ → List Entry → List ℕ
given part [] = []
given part (entry ∷ entries) = if entry.part == part then entry.unit ∷ given part entries else given part entries

-- each entry is of a part that there is, and no unit has two owners
pub record IsLog (units parts : ℕ) (entries : List Entry) : Type 0 where
  pub parted : All (λ entry. entry.part < parts) entries
  pub one : OneOwner (replayed units parts entries)
