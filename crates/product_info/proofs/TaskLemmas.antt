-- Reading lines up to the version.
use Rattle.std.proofs.Common.{◌≡◌, ℕ, ◌+◌, ◌≤◌, ◌<◌, Bool, true, false, List, ◌∷◌, refl, sym, ◌∙◌, ap, subst, arith}
use Rattle.std.proofs.lemmas.Bool.Decides.{nat_tests}
use Rattle.product_info.specs.declared.info.InfoKind.{InfoKind}
use Rattle.product_info.specs.declared.info.InfoKind.TheVariants.{NoVersion, BadVersion, BadLine}
use Rattle.product_info.specs.declared.task.Task.{Task}
use Rattle.product_info.specs.Reading.{Reading, Fails, Line, Skipped, Says, Wrong, line_says, read_lines}
use Rattle.product_info.specs.TaskText.{version_of, task_of, tasks_from, versioned, met_first, IsFirst, IsBadFirst}

read : (version number : ℕ) (rest : List (List ℕ)) → version ≤ 1 → versioned number rest version ≡ read_lines BadLine task_of (number + 1) 256 rest
read version number rest h = grind (arith, nat_tests)

unread : (version number : ℕ) (rest : List (List ℕ)) → 1 < version → versioned number rest version ≡ Fails number BadVersion
unread version number rest h = grind (arith, nat_tests)

skipped : (says : Line ℕ) (number : ℕ) (rest : List (List ℕ)) (more : Reading Task) → IsFirst says false → met_first number says rest more ≡ more
skipped Skipped number rest more h = refl
skipped (Says version) number rest more h = absurd (never h.0)
  where
    never : false ≡ true → ⊥
    never e = cc
skipped (Wrong kind) number rest more h = absurd h

found : (says : Line ℕ) (number : ℕ) (rest : List (List ℕ)) (more : Reading Task) → IsFirst says true → met_first number says rest more ≡ read_lines BadLine task_of (number + 1) 256 rest
found Skipped number rest more h = absurd (never h)
  where
    never : true ≡ false → ⊥
    never e = cc
found (Says version) number rest more h = read version number rest h.1
found (Wrong kind) number rest more h = absurd h

bad : (says : Line ℕ) (number : ℕ) (rest : List (List ℕ)) (more : Reading Task) (kind : InfoKind) → IsBadFirst says kind → met_first number says rest more ≡ Fails number kind
bad Skipped number rest more kind h = absurd h
bad (Says version) number rest more kind h = unread version number rest h.0 ∙ ap (Fails number) (sym h.1)
bad (Wrong found) number rest more kind h = ap (Fails number) (sym h)

-- a line before the version
pub first-skipped : (all : Reading Task) (number : ℕ) (line : List ℕ) (left rest : List (List ℕ)) (says : Bool) →
    all ≡ tasks_from number left → left ≡ line ∷ rest → IsFirst (line_says NoVersion version_of line) says → says ≡ false →
    all ≡ tasks_from (number + 1) rest
first-skipped all number line left rest says e f h g =
    e ∙ (ap (tasks_from number) f ∙ skipped (line_says NoVersion version_of line) number rest (tasks_from (number + 1) rest) (subst (IsFirst (line_says NoVersion version_of line)) g h))

-- the version
pub first-found : (all : Reading Task) (number : ℕ) (line : List ℕ) (left rest : List (List ℕ)) (says : Bool) →
    all ≡ tasks_from number left → left ≡ line ∷ rest → IsFirst (line_says NoVersion version_of line) says → says ≡ true →
    all ≡ read_lines BadLine task_of (number + 1) 256 rest
first-found all number line left rest says e f h g =
    e ∙ (ap (tasks_from number) f ∙ found (line_says NoVersion version_of line) number rest (tasks_from (number + 1) rest) (subst (IsFirst (line_says NoVersion version_of line)) g h))

-- a bad line in place of the version
pub first-bad : (all : Reading Task) (number told : ℕ) (line : List ℕ) (left rest : List (List ℕ)) (kind : InfoKind) →
    all ≡ tasks_from number left → left ≡ line ∷ rest → told ≡ number → IsBadFirst (line_says NoVersion version_of line) kind →
    all ≡ Fails told kind
first-bad all number told line left rest kind e f g h =
    e ∙ (ap (tasks_from number) f ∙ (bad (line_says NoVersion version_of line) number rest (tasks_from (number + 1) rest) kind h ∙ ap (λ n. Fails n kind) (sym g)))

pub ruleset firsts = (first-skipped, first-found, first-bad)
