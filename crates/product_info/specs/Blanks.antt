-- Blanks, lines and words of a text.
use Rattle.std.specs.Prelude.{ℕ, ◌+◌, ◌-◌, ◌==◌, ◌||◌, ◌&&◌, nat_le, nat_lt, Bool, List, length, take, drop, filter, position, Option, Some, None}
use Rattle.std.specs.List.{prefix_len, suffix_len, slice_split}
use Rattle.std.specs.Str.Lines.{strip_carriage_return}

-- a space or a tab
abbrev pub is_blank : ℕ → Bool
is_blank b = b == 32 || b == 9

-- a blank, or a graphic byte of ASCII
abbrev pub is_text_byte : ℕ → Bool
is_text_byte b = is_blank b || (nat_le 0x21 b && nat_le b 0x7e)

-- without the blanks in front
abbrev pub trim_front : List ℕ → List ℕ
trim_front text = drop (prefix_len is_blank text) text

-- without the blanks at the end
abbrev pub trim_end : List ℕ → List ℕ
trim_end text = take (length text - suffix_len is_blank text) text

-- without the blanks at either end
unfoldable pub trimmed : List ℕ → List ℕ
trimmed text = trim_end (trim_front text)

-- what stands between the bytes of this value
unfoldable pub parts : ℕ → List ℕ → List (List ℕ)
parts at text = slice_split (λ b. b == at) text

-- what stands before the first byte that passes, and what behind it
abbrev pub cut : List ℕ → Option ℕ → Option (List ℕ × List ℕ)
cut text (Some at) = Some (take at text, drop (at + 1) text)
cut text None = None

-- what stands before the first byte of this value, and what behind it
abbrev pub cut_at : ℕ → List ℕ → Option (List ℕ × List ℕ)
cut_at at text = cut text (position (λ b. b == at) text)

-- what stands before the first blank, and what behind it
abbrev pub cut_blank : List ℕ → Option (List ℕ × List ℕ)
cut_blank text = cut text (position is_blank text)

-- the words of a text, with one or more blanks between them
unfoldable pub words : List ℕ → List (List ℕ)
words text = filter (λ word. nat_lt 0 (length word)) (slice_split is_blank text)

-- the lines of a file, each without its line feed; the last one may lack it
abbrev pub lines : List ℕ → List (List ℕ)
lines text = parts 10 text

-- a line without one carriage return at its end, and then without the blanks at either end
abbrev pub content : List ℕ → List ℕ
content line = trimmed (strip_carriage_return line)
