-- What is read of the lines of a product file: a list, or the first bad line.
use Rattle.std.specs.Prelude.{◌≡◌, ℕ, zero, suc, ◌+◌, ◌<◌, ◌≤◌, ◌==◌, length, Bool, true, List, [], ◌∷◌, ◌++◌, Option, Some, None, if◌then◌else◌}
use Rattle.std.specs.List.{list_all}
use Rattle.product_info.specs.declared.info.InfoKind.{InfoKind}
use Rattle.product_info.specs.declared.info.InfoKind.TheVariants.{NotText, TooMany}
use Rattle.product_info.specs.Blanks.{is_text_byte, content}

-- what a whole file says: a list, or the number of its first bad line and why it is bad
pub data Reading (A : Type 0) : Type 0 where
  Lists : List A → Reading A
  Fails : ℕ → InfoKind → Reading A

-- what one line says
pub data Line (A : Type 0) : Type 0 where
  Skipped : Line A
  Says : A → Line A
  Wrong : InfoKind → Line A

-- an empty line, or a comment
abbrev pub is_skipped : List ℕ → Bool
is_skipped [] = true
is_skipped (b ∷ rest) = b == 35

-- a line of text says an item, or it is bad in this way
abbrev pub said : {A : Type 0} → InfoKind → Option A → Line A
said bad (Some item) = Says item
said bad None = Wrong bad

-- what the text of a line says, where `read` reads an item and a line that has none is bad in this way
abbrev pub text_says : {A : Type 0} → InfoKind → (List ℕ → Option A) → List ℕ → Line A
text_says bad read text =
    if is_skipped text then Skipped else (if list_all is_text_byte text then said bad (read text) else Wrong NotText)

-- what a line says
abbrev pub line_says : {A : Type 0} → InfoKind → (List ℕ → Option A) → List ℕ → Line A
line_says bad read line = text_says bad read (content line)

-- these items, and then what else is read
abbrev pub behind : {A : Type 0} → List A → Reading A → Reading A
behind items (Lists more) = Lists (items ++ more)
behind items (Fails number kind) = Fails number kind

-- what is read from a line on, where so many items may still come
abbrev pub met : {A : Type 0} → ℕ → ℕ → Line A → (ℕ → Reading A) → Reading A
met number room Skipped more = more room
met number zero (Says item) more = Fails number TooMany
met number (suc room) (Says item) more = behind (item ∷ []) (more room)
met number room (Wrong kind) more = Fails number kind

-- What is read from these lines, the first of which has this number, where so many items may still
-- come: the items of all lines, or the first line that is bad or one too many.
abbrev pub read_lines : {A : Type 0} → InfoKind → (ℕ → List ℕ → Option A) → ℕ → ℕ → List (List ℕ) → Reading A
read_lines bad read number room [] = Lists []
read_lines bad read number room (line ∷ rest) =
    met number room (line_says bad (read number) line) (λ left. read_lines bad read (number + 1) left rest)

-- what a line says is added to these items, of which there are fewer than 256
abbrev pub Added : {A : Type 0} → Line A → List A → List A → Type 0
Added Skipped old new = new ≡ old
Added (Says item) old new = (new ≡ old ++ item ∷ []) × (length old < 256)
Added (Wrong kind) old new = ⊥

-- behind these items a line is bad in this way
abbrev pub IsBad : {A : Type 0} → Line A → List A → InfoKind → Type 0
IsBad Skipped old kind = ⊥
IsBad (Says item) old kind = (256 ≤ length old) × (kind ≡ TooMany)
IsBad (Wrong found) old kind = kind ≡ found
