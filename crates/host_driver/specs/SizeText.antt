-- The text of a size (fastboot README: max-download-size).
use Rattle.std.specs.Prelude.{ℕ, ◌&&◌, ◌^◌, Bool, List, drop, length, nat_eq, nat_le, nat_lt, codes, min}
use Rattle.std.specs.Prelude.{Option, Some, None, if◌then◌else◌}
use Rattle.std.specs.Char.{digit_value}
use Rattle.std.specs.List.{starts_with, list_all}
use Rattle.std.specs.Str.Parse.{digits_value}
use Rattle.fb_frame.specs.Numbers.{read_dec}

-- what follows `0x`, where the text begins so
abbrev pub hex_digits : List ℕ → Option (List ℕ)
hex_digits text = if starts_with nat_eq text (codes "0x") then Some (drop 2 text) else None

-- a hexadecimal digit in either case
abbrev pub is_hex : ℕ → Bool
is_hex b = nat_lt (digit_value b) 16

-- 1 to 16 hexadecimal digits, worth less than 2 ^ 64
abbrev pub is_hex_row : List ℕ → Bool
is_hex_row text =
    nat_le 1 (length text) && (nat_le (length text) 16
    && (list_all is_hex text && nat_lt (digits_value 16 text) (2 ^ 64)))

-- the number that such digits write
abbrev pub hex_number : List ℕ → Option ℕ
hex_number text = if is_hex_row text then Some (digits_value 16 text) else None

-- the number of what may stand behind `0x`, else of the whole text in decimal
abbrev pub number_by : Option (List ℕ) → List ℕ → Option ℕ
number_by None text = read_dec text
number_by (Some digits) text = hex_number digits

-- a size as a device tells it: `0x` and hexadecimal digits, or decimal
abbrev pub size_read : List ℕ → Option ℕ
size_read text = number_by (hex_digits text) text

-- a device takes at least 131,072 bytes in one download, and more than 268,435,456 count as so many
abbrev pub size_bounded : Option ℕ → Option ℕ
size_bounded None = None
size_bounded (Some n) = if nat_le 131072 n then Some (min n 268435456) else None

-- how many bytes a device takes in one download, by the text of max-download-size
abbrev pub download_size : List ℕ → Option ℕ
download_size text = size_bounded (size_read text)
