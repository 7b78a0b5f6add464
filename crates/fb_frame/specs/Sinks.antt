-- What a put does to the text that a sink tells.
use Rattle.std.specs.Prelude.{◌≡◌, ℕ, ◌<◌, List, ◌++◌, length, take, Option}
use Rattle.fb_frame.specs.Told.{Both}

-- a text grew by all the bytes
abbrev pub GrewBy : List ℕ → List ℕ → List ℕ → Type 0
GrewBy bytes before now = now ≡ before ++ bytes

-- a text grew by a front of the bytes that lacks at least one of them
pub record GrewByPart (bytes before now : List ℕ) : Type 0 where
  pub count : ℕ
  pub fewer : count < length bytes
  pub grew : now ≡ before ++ take count bytes

-- the told text grew by all the bytes
abbrev pub Grew : Option (List ℕ) → Option (List ℕ) → List ℕ → Type 0
Grew before now bytes = Both (GrewBy bytes) before now

-- the told text grew by a front of them
abbrev pub GrewPart : Option (List ℕ) → Option (List ℕ) → List ℕ → Type 0
GrewPart before now bytes = Both (GrewByPart bytes) before now
