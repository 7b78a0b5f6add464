-- What a job answers and prints: what its outcome says, or what of the outside failed.
use Rattle.std.specs.Prelude.{◌≡◌, ◌⊎◌, ℕ, List, Option, Some, None}
use Rattle.fb_frame.specs.Sinks.{Grew, GrewPart}
use Rattle.device_jobs.specs.Outcomes.{Outcome, NoFile, status_of}
use Rattle.device_jobs.specs.Printed.{text_of, memory_line, disk_line}

-- want of memory, a disk that failed, or an output that failed
abbrev pub IsOutside : ℕ → Type 0
IsOutside status = (status ≡ 2) ⊎ (status ≡ 3) ⊎ (status ≡ 9)

-- The status is that of the outcome, where it is told, or one of the outside.
abbrev pub IsDecided : Option Outcome → ℕ → Type 0
IsDecided None status = (status ≡ 0) ⊎ (status ≡ 4) ⊎ (status ≡ 5) ⊎ IsOutside status
IsDecided (Some outcome) status = (status ≡ status_of outcome) ⊎ IsOutside status

-- the disk failed, or the file of the words is told not to be there
abbrev pub IsDiskEnd : Option Outcome → Type 0 → Type 0
IsDiskEnd outcome rose = rose ⊎ (outcome ≡ Some NoFile)

-- a front of what would have been printed, without its last byte at least: of these lines, or of a fault's
abbrev pub IsCutShort : List ℕ → Option (List ℕ) → Option (List ℕ) → Type 0
IsCutShort lines old new = GrewPart old new lines ⊎ GrewPart old new memory_line ⊎ GrewPart old new disk_line

-- The told text grew by the lines of the outcome, or by the one line of a fault, as the status says. With
-- status 9 it grew by a front of them.
abbrev pub IsReported : Option Outcome → ℕ → Option (List ℕ) → Option (List ℕ) → Type 0
IsReported None status old new = (status ≡ 2 → Grew old new memory_line) × (status ≡ 3 → Grew old new disk_line)
IsReported (Some outcome) status old new =
    ((status ≡ status_of outcome) × Grew old new (text_of outcome))
    ⊎ ((status ≡ 2) × Grew old new memory_line)
    ⊎ ((status ≡ 3) × Grew old new disk_line)
    ⊎ ((status ≡ 9) × IsCutShort (text_of outcome) old new)
