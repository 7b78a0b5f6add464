-- What stands once, sought line by line.
use Rattle.std.proofs.Common.{◌≡◌, ◌∙◌, refl, ap, sym, ℕ, ◌+◌, Bool, true, false, ◌||◌, List, [], ◌∷◌, ◌++◌, length, Option, Some, None, is_some, cond, length-append}
use Rattle.std.specs.Prelude.{bytes_eq, filter_map, flat_map, count_by}
use Rattle.std.specs.List.{list_any}
use Rattle.std.proofs.lemmas.List.Elements.{filter_map-append}
use Rattle.std.proofs.lemmas.List.Sums.{sum_by-cons}
use Rattle.dev_store.specs.declared.entries.Entry.{Entry}
use Rattle.dev_store.specs.LayoutLines.{keys, is_taken}

or-assoc : (a b c : Bool) → (a || b || c) ≡ (a || (b || c))
or-assoc true b c = refl
or-assoc false b c = refl

any-append : {X : Type 0} (p : X → Bool) (xs ys : List X) → list_any p (xs ++ ys) ≡ (list_any p xs || list_any p ys)
any-append p [] ys = refl
any-append p (x ∷ xs) ys = ap (λ t. p x || t) (any-append p xs ys) ∙ sym (or-assoc (p x) (list_any p xs) (list_any p ys))

-- a key is taken where a line takes it
pub any-taken : (key : List ℕ) (before : List Entry) →
    list_any (λ entry. list_any (λ own. bytes_eq own key) (keys entry)) before ≡ is_taken before key
any-taken key [] = refl
any-taken key (entry ∷ before) =
    ap (λ t. list_any (λ own. bytes_eq own key) (keys entry) || t) (any-taken key before)
    ∙ sym (any-append (λ own. bytes_eq own key) (keys entry) (flat_map keys before))

one-or-none : {Y : Type 0} (o : Option Y) → length (filter_map (λ x. x) (o ∷ [])) ≡ cond (is_some o) 1 0
one-or-none None = refl
one-or-none (Some y) = refl

pub count-some : {Y : Type 0} (f : Entry → Option Y) (xs : List Entry) → count_by (λ x. is_some (f x)) xs ≡ length (filter_map f xs)
count-some f [] = refl
count-some f (x ∷ xs) =
    let parts = ap length (filter_map-append f (x ∷ []) xs) ∙ length-append (filter_map f (x ∷ [])) (filter_map f xs) in
    let one = one-or-none (f x) in
    sum_by-cons (λ y. cond (is_some (f y)) 1 0) x xs
    ∙ (ap (λ n. n + count_by (λ y. is_some (f y)) xs) (sym one)
    ∙ (ap (λ n. length (filter_map f (x ∷ [])) + n) (count-some f xs) ∙ sym parts))
