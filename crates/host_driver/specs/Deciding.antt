-- Whether a device meets the requirements of a product: what is asked for each line, and what comes of it.
use Rattle.std.specs.Prelude.{◌≡◌, ℕ, Bool, List, [], ◌∷◌, map, filter}
use Rattle.std.specs.Prelude.{slice_get, Option, Some, None, is_some, if◌then◌else◌, codes}
use Rattle.std.specs.List.{list_any, AllByRecursion}
use Rattle.dev_model.specs.declared.device.Dev.{Dev}
use Rattle.dev_model.specs.Variables.{asked, value}
use Rattle.product_info.specs.declared.requirement.Requirement.{Requirement}
use Rattle.product_info.specs.Meeting.{is_for, meets}
use Rattle.flash_plan.specs.Questions.{looked_at, requirement_questions}
use Rattle.flash_plan.specs.Requiring.{variable_of, applies, meets_line, first_unmet}
use Rattle.host_driver.specs.declared.requirements.Unmet.{Unmet}

-- the question that decides a line, where it is for the device's product
abbrev pub line_question : Requirement → Dev → List (List ℕ)
line_question line dev = if applies dev line then variable_of line ∷ [] else []

-- the questions that decide these lines, up to the first that isn't met
abbrev pub line_questions : List Requirement → Dev → List (List ℕ)
line_questions lines dev = map variable_of (filter (applies dev) (looked_at dev lines))

-- the question for the product, where a line is for one
abbrev pub product_question : List Requirement → Dev → List (List ℕ)
product_question lines dev = if list_any (λ line. is_some line.product) lines then codes "product" ∷ [] else []

-- the questions of the requirements, none where they are passed over
abbrev pub check_questions : List Requirement → Bool → Dev → List (List ℕ)
check_questions lines force dev = if force then [] else requirement_questions dev lines

-- a line that isn't met, with the value of its variable
abbrev pub unmet_of : Requirement → Option (List ℕ) → Unmet
unmet_of line value = record { line = line.line; name = line.name; value = value }

-- the line, where this value of its variable doesn't meet it
abbrev pub judged : Requirement → Option (List ℕ) → Option (List ℕ) → Option Unmet
judged line product value = if meets line product value then None else Some (unmet_of line value)

-- whether the line is for this product is whether it is for the device's
abbrev pub IsProduct : Option (List ℕ) → Requirement → Dev → Type 0
IsProduct product line dev = is_for line.product product ≡ applies dev line

abbrev pub AreFor : Option (List ℕ) → List Requirement → Dev → Type 0
AreFor product lines dev = AllByRecursion (λ line. IsProduct product line dev) lines

-- the line, where the device doesn't meet it
abbrev pub IsJudged : Requirement → Option Unmet → Dev → Type 0
IsJudged line unmet dev =
    unmet ≡ (if meets_line dev line then None else Some (unmet_of line (asked dev (variable_of line))))

-- the first line that the device doesn't meet
abbrev pub first_judged : Option Requirement → Dev → Option Unmet
first_judged None dev = None
first_judged (Some line) dev = Some (unmet_of line (asked dev (variable_of line)))

abbrev pub AreJudged : List Requirement → Option Unmet → Dev → Type 0
AreJudged lines unmet dev = unmet ≡ first_judged (first_unmet lines dev) dev

-- none where the requirements are passed over
abbrev pub IsChecked : List Requirement → Bool → Option Unmet → Dev → Type 0
IsChecked lines force unmet dev = unmet ≡ (if force then None else first_judged (first_unmet lines dev) dev)

-- it is this line
pub record IsOfLine (line : Requirement) (unmet : Unmet) : Type 0 where
  pub line_is : line.line ≡ unmet.line
  pub name_is : line.name ≡ unmet.name

-- it is one of these lines
pub record IsListed (lines : List Requirement) (unmet : Unmet) : Type 0 where
  pub place : ℕ
  pub requirement : Requirement
  pub there : slice_get lines place ≡ Some requirement
  pub line_is : requirement.line ≡ unmet.line
  pub name_is : requirement.name ≡ unmet.name
