-- How long the texts of a device are that there can be, which `text_laws` of this crate names.
use Rattle.std.specs.Prelude.{◌≡◌, ℕ, ◌+◌, ◌≤◌, List, length, Some}
use Rattle.std.specs.List.{AllByRecursion}
use Rattle.dev_model.specs.declared.device.Dev.{Dev}
use Rattle.dev_model.specs.Validity.{IsValid, all_names}
use Rattle.dev_model.specs.Variables.{Row, value, all_rows}

-- the name of a variable and its text are short together
abbrev pub IsShortRow : Row → Type 0
IsShortRow row = length row.0 + length row.1 ≤ 251

-- and so are those of all of these
abbrev pub AreShortRows : List Row → Type 0
AreShortRows rows = AllByRecursion IsShortRow rows

-- the device's own texts, the names of partitions and groups, and the variables of its layout
pub record HasShortTexts (dev : Dev) : Type 0 where
  pub product : length dev.product ≤ 64
  pub serial : length dev.serial ≤ 64
  pub names : AllByRecursion (λ name. length name ≤ 35) (all_names dev)
  pub groups : AllByRecursion (λ g. length g.name ≤ 35) dev.groups
  pub variables : AllByRecursion (λ v. (length v.name ≤ 64) × (length v.text ≤ 128)) dev.vars

-- a valid device has short texts
abbrev pub TextsShort : Type 0
TextsShort = (dev : Dev) → IsValid dev → HasShortTexts dev

-- so has each variable that it tells
abbrev pub RowsShort : Type 0
RowsShort = (dev : Dev) → IsValid dev → AreShortRows (all_rows dev)

-- there are at most 848 of them
abbrev pub RowsFew : Type 0
RowsFew = (dev : Dev) → IsValid dev → length (all_rows dev) ≤ 848

-- a variable that is asked for has a short text
abbrev pub ValueShort : Type 0
ValueShort = (dev : Dev) (name text : List ℕ) → IsValid dev → value dev name ≡ Some text → length text ≤ 251
