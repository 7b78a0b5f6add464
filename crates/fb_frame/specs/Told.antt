-- What an object may tell of itself, or not: facts of what it tells before and after a call.
use Rattle.std.specs.Prelude.{Option, Some, None}

-- A relation of what is told before and after. An object tells both times or neither time; where it tells
-- nothing, nothing is said.
abbrev pub Both : {A B : Type 0} → (A → B → Type 0) → Option A → Option B → Type 0
Both R (Some a) (Some b) = R a b
Both R (Some a) None = ⊥
Both R None (Some b) = ⊥
Both R None None = Unit {0}
