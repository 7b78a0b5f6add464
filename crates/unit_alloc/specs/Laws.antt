-- Laws of owners: how many units there are, and what it means to hand units out.
use Rattle.std.specs.Prelude.{◌≡◌, ℕ, ◌+◌, ◌<◌, List, ◌++◌, length, sum_by, ◌==◌, if◌then◌else◌}
use Rattle.unit_alloc.specs.Owning.{Owning, OneOwner, units_of, times, times_in, free_units, handed}

-- Units that are free and units that have an owner are together all units.
abbrev pub FreeCount : Type 0
FreeCount = (owning : Owning) → OneOwner owning →
    length (free_units owning) + sum_by (length {A = ℕ}) owning.parts ≡ owning.units

-- A part that is handed units has them behind its own, and each other part has its own.
abbrev pub HandedUnits : Type 0
HandedUnits = (owning : Owning) (part other : ℕ) (list : List ℕ) → other < length owning.parts →
    units_of (handed owning part list) other
    ≡ (if part == other then units_of owning part ++ list else units_of owning other)

-- Each of the units that are handed out stands once more in the lists.
abbrev pub HandedTimes : Type 0
HandedTimes = (owning : Owning) (part unit : ℕ) (list : List ℕ) → part < length owning.parts →
    times unit (handed owning part list).parts ≡ times unit owning.parts + times_in unit list

-- Units that are handed out in two steps are handed out in one.
abbrev pub HandedTwice : Type 0
HandedTwice = (owning : Owning) (part : ℕ) (first second : List ℕ) → part < length owning.parts →
    handed (handed owning part first) part second ≡ handed owning part (first ++ second)
