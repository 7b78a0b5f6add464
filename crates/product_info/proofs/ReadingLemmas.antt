-- Reading lines one after another.
use Rattle.std.proofs.Common.{◌≡◌, ℕ, suc, Result, Err, ◌+◌, ◌-◌, ◌<◌, List, [], ◌∷◌, ◌++◌, length, Option, refl, sym, ◌∙◌, ap, arith, append_assoc, append-nil, length-append}
use Rattle.product_info.specs.declared.info.InfoKind.{InfoKind}
use Rattle.product_info.specs.declared.info.InfoKind.TheVariants.{TooMany}
use Rattle.product_info.specs.Reading.{Reading, Lists, Fails, Line, Skipped, Says, Wrong, line_says, behind, met, read_lines, Added, IsBad}

behind-append : {A : Type 0} (some more : List A) (rest : Reading A) → behind some (behind more rest) ≡ behind (some ++ more) rest
behind-append some more (Lists items) = ap Lists (sym (append_assoc some more items))
behind-append some more (Fails number kind) = refl

-- the same room, where one item is added
room-one : {A : Type 0} (old new : List A) (item : A) → new ≡ old ++ item ∷ [] → length old < 256 → 256 - length old ≡ suc (256 - length new)
room-one old new item e h = let n : length new ≡ length old + 1 = ap length e ∙ length-append old (item ∷ []) in omega arith

met-says : {A : Type 0} (number room left : ℕ) (item : A) (more : ℕ → Reading A) → room ≡ suc left → met number room (Says item) more ≡ behind (item ∷ []) (more left)
met-says number room left item more e = ap (λ n. met number n (Says item) more) e

met-full : {A : Type 0} (number room : ℕ) (item : A) (more : ℕ → Reading A) → room ≡ 0 → met number room (Says item) more ≡ Fails number TooMany
met-full number room item more e = ap (λ n. met number n (Says item) more) e

added : {A : Type 0} (says : Line A) (number : ℕ) (old new : List A) (more : ℕ → Reading A) → Added says old new →
    behind old (met number (256 - length old) says more) ≡ behind new (more (256 - length new))
added Skipped number old new more e = ap (λ x. behind x (more (256 - length x))) (sym e)
added (Says item) number old new more e =
    ap (behind old) (met-says number (256 - length old) (256 - length new) item more (room-one old new item e.0 e.1))
    ∙ (behind-append old (item ∷ []) (more (256 - length new)) ∙ ap (λ x. behind x (more (256 - length new))) (sym e.0))
added (Wrong kind) number old new more e = absurd e

bad : {A : Type 0} (says : Line A) (number : ℕ) (old : List A) (kind : InfoKind) (more : ℕ → Reading A) → IsBad says old kind →
    behind old (met number (256 - length old) says more) ≡ Fails number kind
bad Skipped number old kind more e = absurd e
bad (Says item) number old kind more e =
    ap (behind old) (met-full number (256 - length old) item more (omega (arith, e.0))) ∙ ap (Fails number) (sym e.1)
bad (Wrong found) number old kind more e = ap (Fails number) (sym e)

-- one line more
pub lines-more : {A : Type 0} (all : Reading A) (otherwise : InfoKind) (read : ℕ → List ℕ → Option A) (number : ℕ)
    (line : List ℕ) (left rest : List (List ℕ)) (old new : List A) →
    all ≡ behind old (read_lines otherwise read number (256 - length old) left) → left ≡ line ∷ rest →
    Added (line_says otherwise (read number) line) old new →
    all ≡ behind new (read_lines otherwise read (number + 1) (256 - length new) rest)
lines-more all otherwise read number line left rest old new e f h =
    e ∙ (ap (λ x. behind old (read_lines otherwise read number (256 - length old) x)) f
    ∙ added (line_says otherwise (read number) line) number old new (λ n. read_lines otherwise read (number + 1) n rest) h)

-- a bad line
pub lines-bad : {A : Type 0} (all : Reading A) (otherwise : InfoKind) (read : ℕ → List ℕ → Option A) (number found : ℕ)
    (line : List ℕ) (left rest : List (List ℕ)) (old : List A) (kind : InfoKind) →
    all ≡ behind old (read_lines otherwise read number (256 - length old) left) → left ≡ line ∷ rest →
    found ≡ number → IsBad (line_says otherwise (read number) line) old kind → all ≡ Fails found kind
lines-bad all otherwise read number found line left rest old kind e f same h =
    e ∙ (ap (λ x. behind old (read_lines otherwise read number (256 - length old) x)) f
    ∙ (bad (line_says otherwise (read number) line) number old kind (λ n. read_lines otherwise read (number + 1) n rest) h
    ∙ ap (λ n. Fails n kind) (sym same)))

-- before the first line
pub lines-start : {A : Type 0} (rest : Reading A) → rest ≡ behind [] rest
lines-start (Lists items) = refl
lines-start (Fails number kind) = refl

-- behind the last line
pub lines-end : {A : Type 0} (all : Reading A) (items : List A) → all ≡ behind items (Lists []) → all ≡ Lists items
lines-end all items e = e ∙ ap Lists (append-nil items)

pub ruleset lined = (lines-more, lines-bad, lines-start, lines-end)

-- an error that is passed on is the one that was met
pub passed-on : {T U E : Type 0} (passed : Result T E) (x found wanted : E) → passed ≡ Err x → x ≡ found → passed ≡ Err wanted → ◌≡◌ {A = Result U E} (Err found) (Err wanted)
passed-on {T = T} {E = E} passed x found wanted e f g = ap Err (sym f ∙ same (sym e ∙ g))
  where
    same : ◌≡◌ {A = Result T E} (Err x) (Err wanted) → x ≡ wanted
    same h = cc
