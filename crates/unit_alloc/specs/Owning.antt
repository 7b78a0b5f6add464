-- Who owns which unit of super: the parts are the logical partitions, and a unit has one owner at most.
use Rattle.std.specs.Prelude.{◌≡◌, ℕ, ◌+◌, ◌<◌, ◌≤◌, Bool, not, List, [], ◌∷◌, ◌++◌, take, replicate, filter, count_by, sum_by, nat_lt, ◌==◌, if◌then◌else◌, slice_index_or, slice_set}
use Rattle.std.specs.List.{range_with_len}

-- how many units there are, and for each part the list of its units in the order in which they were handed out
pub record Owning : Type 0 where
  pub units : ℕ
  pub parts : List (List ℕ)

-- the units of a part, in the order in which they were handed out
abbrev pub units_of : Owning → ℕ → List ℕ
units_of owning part = slice_index_or owning.parts part []

-- how often a unit stands in a list
unfoldable pub times_in : ℕ → List ℕ → ℕ
times_in unit list = count_by (λ x. x == unit) list

-- how often a unit stands in the lists of all parts
unfoldable pub times : ℕ → List (List ℕ) → ℕ
times unit parts = sum_by (times_in unit) parts

-- a part has the unit
abbrev pub is_owned : Owning → ℕ → Bool
is_owned owning unit = nat_lt 0 (times unit owning.parts)

-- no unit stands twice in the lists, and none that there isn't
pub record OneOwner (owning : Owning) : Type 0 where
  pub once : (unit : ℕ) → times unit owning.parts ≤ 1
  pub within : (unit : ℕ) → owning.units ≤ unit → times unit owning.parts ≡ 0

-- the units without an owner, lowest first
unfoldable pub free_units : Owning → List ℕ
free_units owning = filter (λ unit. not (is_owned owning unit)) (range_with_len 0 owning.units)

-- no part has a unit
abbrev pub unowned : ℕ → ℕ → Owning
unowned units parts = record { units = units; parts = replicate parts [] }

-- a part has these units
abbrev pub with_units : Owning → ℕ → List ℕ → Owning
with_units owning part list = record owning { parts = slice_set owning.parts part list }

-- units go to a part, behind those that it has
abbrev pub handed : Owning → ℕ → List ℕ → Owning
handed owning part list = with_units owning part (units_of owning part ++ list)

-- a part keeps its first units, as many as are said, and the others are free
abbrev pub kept : Owning → ℕ → ℕ → Owning
kept owning part keep = with_units owning part (take keep (units_of owning part))

-- how many numbers at the front of a list count up by one from the number
abbrev pub run_from : ℕ → List ℕ → ℕ
run_from next [] = 0
run_from next (unit ∷ list) = if unit == next then 1 + run_from (next + 1) list else 0

-- the lowest unit without an owner
pub record IsLowestFree (owning : Owning) (unit : ℕ) : Type 0 where
  pub there : unit < owning.units
  pub free : times unit owning.parts ≡ 0
  pub lowest : (lower : ℕ) → lower < unit → 0 < times lower owning.parts
