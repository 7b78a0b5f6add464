-- Texts of the outside as they are printed.
use Rattle.std.specs.Prelude.{ℕ, ◌&&◌, List, map, nat_le, if◌then◌else◌}

-- a byte as it is printed: `?` in place of each outside 0x20 to 0x7E
abbrev pub shown_byte : ℕ → ℕ
shown_byte b = if nat_le 0x20 b && nat_le b 0x7E then b else 63

-- a text as it is printed
abbrev pub shown : List ℕ → List ℕ
shown text = map shown_byte text
