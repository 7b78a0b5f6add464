-- The lines of android-info.txt (AOSP product files).
use Rattle.std.specs.Prelude.{ℕ, ◌==◌, ◌||◌, ◌&&◌, nat_eq, not, Bool, true, false, List, [], ◌∷◌, drop, Option, Some, None, if◌then◌else◌, codes}
use Rattle.std.specs.List.{list_all, starts_with}
use Rattle.std.specs.Str.{bytes_eq}
use Rattle.fb_frame.specs.NameText.{is_name, is_name_byte, word_of}
use Rattle.product_info.specs.declared.requirement.ReqKind.TheVariants.{Require, Reject, Exists}
use Rattle.product_info.specs.declared.requirement.Requirement.{Requirement}
use Rattle.product_info.specs.declared.info.InfoKind.TheVariants.{BadLine}
use Rattle.product_info.specs.Blanks.{trimmed, parts, cut_at, cut_blank, lines}
use Rattle.product_info.specs.Reading.{Reading, read_lines}

-- a byte of `[A-Za-z0-9_.:-]`
abbrev pub is_variable_byte : ℕ → Bool
is_variable_byte b = is_name_byte b || b == 58

-- the name of a variable or of a product: 1 to 64 such bytes
abbrev pub variable_of : List ℕ → Option (List ℕ)
variable_of text = if list_all is_variable_byte text then word_of text else None

-- the value, where the values before and behind it are given
abbrev pub value_then : Option (List ℕ) → Option (List (List ℕ)) → Option (List (List ℕ))
value_then (Some value) (Some more) = Some (value ∷ more)
value_then (Some value) None = None
value_then None more = None

-- the values that these parts are, each of 1 to 64 bytes without the blanks at its ends
abbrev pub values_in : List (List ℕ) → Option (List (List ℕ))
values_in [] = Some []
values_in (part ∷ rest) = value_then (word_of (trimmed part)) (values_in rest)

-- the values of a list, with `|` between them
abbrev pub values_of : List ℕ → Option (List (List ℕ))
values_of text = values_in (parts 124 text)

-- the variable that a name asks for
abbrev pub asked_name : List ℕ → List ℕ
asked_name name = if bytes_eq name (codes "board") then codes "product" else name

-- a line that wants one of these values, or none of them
abbrev pub listed : ℕ → Option (List ℕ) → Bool → List ℕ → Option (List (List ℕ)) → Option Requirement
listed number product rejects name (Some values) =
    Some (record { line = number; product = product; kind = (if rejects then Reject else Require); name = asked_name name; values = values })
listed number product rejects name None = None

-- a line that wants a partition of this name
abbrev pub exists : ℕ → Option (List ℕ) → List ℕ → Option Requirement
exists number product part =
    if is_name part then Some (record { line = number; product = product; kind = Exists; name = part; values = [] }) else None

-- a line on this name, with a text behind its `=`
abbrev pub named : ℕ → Option (List ℕ) → Bool → Option (List ℕ) → List ℕ → Option Requirement
named number product rejects (Some name) text =
    if not rejects && bytes_eq name (codes "partition-exists")
    then exists number product text
    else listed number product rejects name (values_of text)
named number product rejects None text = None

-- a line with a name and a text on the sides of its `=`
abbrev pub sided : ℕ → Option (List ℕ) → Bool → Option (List ℕ × List ℕ) → Option Requirement
sided number product rejects (Some sides) = named number product rejects (variable_of (trimmed sides.0)) (trimmed sides.1)
sided number product rejects None = None

-- `NAME=LIST` or `partition-exists=N`
abbrev pub body_of : ℕ → Option (List ℕ) → Bool → List ℕ → Option Requirement
body_of number product rejects body = sided number product rejects (cut_at 61 body)

-- the product P of the word `require-for-product:P`
abbrev pub product_of : List ℕ → Option (List ℕ)
product_of word =
    if starts_with nat_eq word (codes "require-for-product:") then variable_of (drop 20 word) else None

-- a line whose first word may name the product that it is for
abbrev pub for_product : ℕ → List ℕ → List ℕ → Option (List ℕ) → Option Requirement
for_product number line rest (Some product) = body_of number (Some product) false rest
for_product number line rest None = body_of number None false line

-- a line by its first word
abbrev pub by_word : ℕ → List ℕ → Option (List ℕ × List ℕ) → Option Requirement
by_word number line (Some sides) =
    if bytes_eq sides.0 (codes "require") then body_of number None false sides.1
    else (if bytes_eq sides.0 (codes "reject") then body_of number None true sides.1
    else for_product number line sides.1 (product_of sides.0))
by_word number line None = body_of number None false line

-- the requirement of a line
unfoldable pub requirement_of : ℕ → List ℕ → Option Requirement
requirement_of number line = by_word number line (cut_blank line)

-- the requirements of android-info.txt, at most 256
unfoldable pub requirements : List ℕ → Reading Requirement
requirements text = read_lines BadLine requirement_of 1 256 (lines text)
