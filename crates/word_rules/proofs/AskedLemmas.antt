-- From a parse to what the words ask for.
use Rattle.std.proofs.Common.{◌≡◌, ◌≢◌, ◌∙◌, List, [], ◌∷◌, Option, Some, None, Result, Ok, Err, IfOk, refl, sym, ap, subst, ℕ}
use Rattle.clap.specs.Words.{App, Row, Kinds, fault_of, matches_of}
use Rattle.word_rules.specs.Rules.{asked, unless_faulty}

none-where : {R : Type 0} (k : Kinds) (o : Option R) → k ≢ [] → unless_faulty k o ≡ None
none-where [] o some = absurd (some refl)
none-where (kind ∷ k) o some = refl

-- What the words ask for is what the rows of a parse without a fault ask for.
pub asked-by : {R : Type 0} (command app : App) (request : List Row → Option R) (words : List (List ℕ)) (rows : List Row)
    → app ≡ command → fault_of app words ≡ [] → rows ≡ matches_of app words → asked command request words ≡ request rows
asked-by command app request words rows is free found =
    ap (λ (a : App). asked a request words) (sym is)
    ∙ ap (λ (k : Kinds). unless_faulty k (request (matches_of app words))) free
    ∙ ap request (sym found)

-- The words ask for what the parse gave.
pub asked-for : {R E : Type 0} (command app : App) (request : List Row → Option R) (words : List (List ℕ)) (rows : List Row) (result : Result R E)
    → app ≡ command → fault_of app words ≡ [] → rows ≡ matches_of app words
    → IfOk result (λ given. request rows ≡ Some given) → IfOk result (λ given. asked command request words ≡ Some given)
asked-for command app request words rows result is free found h =
    subst (λ o. IfOk result (λ given. o ≡ Some given)) (sym (asked-by command app request words rows is free found)) h

-- They ask for nothing where the parse has a fault.
pub asked-nothing : {R : Type 0} (command app : App) (request : List Row → Option R) (words : List (List ℕ))
    → app ≡ command → fault_of app words ≢ [] → asked command request words ≡ None
asked-nothing command app request words is faulty =
    ap (λ (a : App). asked a request words) (sym is) ∙ none-where (fault_of app words) (request (matches_of app words)) faulty

abbrev error-of : {T E : Type 0} → E → Result T E → E
error-of other (Ok given) = other
error-of other (Err error) = error

-- An error is the same, whatever might have been given in its place.
pub same-error : {T U E : Type 0} (error other : E) → ◌≡◌ {A = Result T E} (Err error) (Err other)
    → ◌≡◌ {A = Result U E} (Err error) (Err other)
same-error error other is = ap (λ result. Err (error-of other result)) is
