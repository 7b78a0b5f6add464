-- Whether a device meets a requirement.
use Rattle.std.specs.Prelude.{ℕ, ◌-◌, ◌==◌, ◌||◌, nat_eq, not, Bool, true, false, List, length, take, Option, Some, None, is_some, if◌then◌else◌, slice_index}
use Rattle.std.specs.List.{list_any, starts_with}
use Rattle.std.specs.Str.{bytes_eq}
use Rattle.product_info.specs.declared.requirement.ReqKind.{ReqKind}
use Rattle.product_info.specs.declared.requirement.ReqKind.TheVariants.{Require, Reject, Exists}
use Rattle.product_info.specs.declared.requirement.Requirement.{Requirement}

-- a value that ends in `*` matches each text that begins with what precedes the star, another its own text alone
abbrev pub matches : List ℕ → List ℕ → Bool
matches text value =
    let front = length value - 1 in
    if slice_index value front == 42 then starts_with nat_eq text (take front value) else bytes_eq text value

-- some value of the list matches the text, where there is one
abbrev pub matches_some : List (List ℕ) → Option (List ℕ) → Bool
matches_some values (Some text) = list_any (matches text) values
matches_some values None = false

-- the product is the one that a line is for, where it is for one
abbrev pub is_for : Option (List ℕ) → Option (List ℕ) → Bool
is_for None product = true
is_for (Some wanted) (Some product) = bytes_eq wanted product
is_for (Some wanted) None = false

-- a line of this kind holds for this value
abbrev pub holds : ReqKind → List (List ℕ) → Option (List ℕ) → Bool
holds Require values value = matches_some values value
holds Reject values value = not (matches_some values value)
holds Exists values value = is_some value

-- the line isn't for this product, or it holds for this value
abbrev pub meets : Requirement → Option (List ℕ) → Option (List ℕ) → Bool
meets requirement product value =
    not (is_for requirement.product product) || holds requirement.kind requirement.values value
