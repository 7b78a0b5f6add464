-- Reading a list of values from the front.
use Rattle.std.proofs.Common.{◌≡◌, ℕ, List, [], ◌∷◌, ◌++◌, Option, Some, None, refl, sym, ◌∙◌, ap, append_assoc, append-nil}
use Rattle.fb_frame.specs.NameText.{word_of}
use Rattle.product_info.specs.Blanks.{trimmed}
use Rattle.product_info.specs.RequirementText.{value_then, values_in}

-- these values, and then the others
abbrev pub values_behind : List (List ℕ) → Option (List (List ℕ)) → Option (List (List ℕ))
values_behind values (Some more) = Some (values ++ more)
values_behind values None = None

pub values-start : (more : Option (List (List ℕ))) → more ≡ values_behind [] more
values-start (Some more) = refl
values-start None = refl

behind-then : (values : List (List ℕ)) (value : List ℕ) (more : Option (List (List ℕ))) →
    values_behind values (value_then (Some value) more) ≡ values_behind (values ++ value ∷ []) more
behind-then values value (Some more) = ap Some (sym (append_assoc values (value ∷ []) more))
behind-then values value None = refl

pub values-more : (all : Option (List (List ℕ))) (values : List (List ℕ)) (part value : List ℕ) (left rest : List (List ℕ)) →
    all ≡ values_behind values (values_in left) → left ≡ part ∷ rest → Some value ≡ word_of (trimmed part) →
    all ≡ values_behind (values ++ value ∷ []) (values_in rest)
values-more all values part value left rest e f g =
    e ∙ (ap (λ x. values_behind values (values_in x)) f
    ∙ (ap (λ x. values_behind values (value_then x (values_in rest))) (sym g) ∙ behind-then values value (values_in rest)))

pub values-bad : (all : Option (List (List ℕ))) (values : List (List ℕ)) (part : List ℕ) (left rest : List (List ℕ)) →
    all ≡ values_behind values (values_in left) → left ≡ part ∷ rest → None ≡ word_of (trimmed part) → all ≡ None
values-bad all values part left rest e f g =
    e ∙ (ap (λ x. values_behind values (values_in x)) f ∙ ap (λ x. values_behind values (value_then x (values_in rest))) (sym g))

pub values-end : (all : Option (List (List ℕ))) (values : List (List ℕ)) → all ≡ values_behind values (values_in []) → all ≡ Some values
values-end all values e = e ∙ ap Some (append-nil values)

pub ruleset valued = (values-start, values-more, values-bad, values-end)
