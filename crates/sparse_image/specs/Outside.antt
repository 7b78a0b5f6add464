-- What calls do to sources and outs, which tell what they hold or don't.
use Rattle.std.specs.Prelude.{◌≡◌, ℕ, ◌+◌, ◌<◌, ◌≤◌, List, ◌++◌, length, take, drop, Option, Some, None, IfSome}

-- a told list has as many bytes as the length says
abbrev pub HasLength : Option (List ℕ) → ℕ → Type 0
HasLength told n = IfSome told (λ bytes. length bytes ≡ n)

-- the first n bytes of a buffer are those of a told list from a place on
abbrev pub IsRead : Option (List ℕ) → ℕ → List ℕ → ℕ → Type 0
IsRead (Some bytes) at buf n = take n buf ≡ take n (drop at bytes)
IsRead None at buf n = Unit {0}

-- what was put grew by all the bytes, where it is told
abbrev pub Grew : Option (List ℕ) → Option (List ℕ) → List ℕ → Type 0
Grew (Some before) (Some now) bytes = now ≡ before ++ bytes
Grew None None bytes = Unit {0}
Grew (Some before) None bytes = ⊥
Grew None (Some now) bytes = ⊥

-- What was put grew by a front of the bytes that lacks at least one of them, where it is told. An out may
-- tell no more from its first fault on.
abbrev pub GrewInPart : Option (List ℕ) → Option (List ℕ) → List ℕ → Type 0
GrewInPart (Some before) (Some now) bytes = (n : ℕ) × (n < length bytes) × (now ≡ before ++ take n bytes)
GrewInPart None None bytes = Unit {0}
GrewInPart (Some before) None bytes = Unit {0}
GrewInPart None (Some now) bytes = ⊥

-- what was put grew by these bytes, or is told no more
abbrev pub GrewOrLost : Option (List ℕ) → Option (List ℕ) → List ℕ → Type 0
GrewOrLost (Some before) (Some now) bytes = now ≡ before ++ bytes
GrewOrLost None None bytes = Unit {0}
GrewOrLost (Some before) None bytes = Unit {0}
GrewOrLost None (Some now) bytes = ⊥

-- so many bytes fit; an out without room takes nothing any more
abbrev pub HasRoom : Option ℕ → ℕ → Type 0
HasRoom (Some room) n = n ≤ room
HasRoom None n = ⊥

-- the room that is left fell by so many bytes
abbrev pub Fell : Option ℕ → Option ℕ → ℕ → Type 0
Fell (Some before) (Some now) n = now + n ≡ before
Fell None None n = Unit {0}
Fell (Some before) None n = ⊥
Fell None (Some now) n = ⊥

-- what an out in memory holds: the bytes that were put, and how many more it takes
pub record Held : Type 0 where
  pub bytes : List ℕ
  pub room : ℕ
