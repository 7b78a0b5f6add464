-- Lists of bytes.
use Rattle.std.specs.Prelude.{ℕ, ◌<◌, List, get_or, replicate}

-- each is a byte
abbrev pub AreBytes : List ℕ → Type 0
AreBytes bytes = (i : ℕ) → get_or bytes i 0 < 256

-- n zero bytes
unfoldable pub zeros : ℕ → List ℕ
zeros n = replicate n 0
