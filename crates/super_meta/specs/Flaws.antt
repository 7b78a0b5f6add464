-- What is wrong with bytes, as a table of tests in the order in which they are tried.
use Rattle.std.specs.Prelude.{Bool, true, false, List, [], ◌∷◌, Option, Some, None, Result, Ok, Err}
use Rattle.super_meta.specs.declared.errors.MetaError.{MetaError}

-- the error beside the first test that passes
abbrev pub first_flaw : List (Bool × MetaError) → Option MetaError
first_flaw [] = None
first_flaw ((true, flaw) ∷ rows) = Some flaw
first_flaw ((false, flaw) ∷ rows) = first_flaw rows

-- the value, unless something is wrong
abbrev pub or_flaw : {X : Type 0} → Option MetaError → X → Result X MetaError
or_flaw None value = Ok value
or_flaw (Some flaw) value = Err flaw

-- the first of two errors
infixl 10 ◌or_else◌
abbrev pub ◌or_else◌ : Option MetaError → Option MetaError → Option MetaError
None or_else next = next
(Some flaw) or_else next = Some flaw

-- the next result of the value, where there is one
infixl 10 ◌then_on◌
abbrev pub ◌then_on◌ : {X Y E : Type 0} → Result X E → (X → Result Y E) → Result Y E
(Ok x) then_on next = next x
(Err e) then_on next = Err e
