-- The premise on failed writes: what they left never reads by chance as something else.
use Rattle.std.specs.Prelude.{◌≡◌, ◌⊎◌, List, ℕ, Option, None}
use Rattle.dev_disk.specs.Files.{Tears}

-- it reads as what was there, as what was being written, or not at all
abbrev pub ReadsAs : {X : Type 0} → Option X → Option X → Option X → Type 0
ReadsAs before written now = (now ≡ before) ⊎ (now ≡ written) ⊎ (now ≡ None)

-- What failed writes left reads, in one way of reading, as what was there, as what was being written, or not at all.
abbrev pub ReadsHonestly : {X : Type 0} → (List ℕ → Option X) → Tears → Type 0
ReadsHonestly read torn = (old written left : List ℕ) → torn old written left → ReadsAs (read old) (read written) (read left)
