-- The table in which that of an image is installed.
use Rattle.std.proofs.Common.{◌≡◌, ℕ, zero, suc, ◌+◌, ◌<◌, ◌≤◌, Bool, true, false, List, [], ◌∷◌, ◌++◌, length, get_or, drop, filter, cond, max, refl, sym, ap, subst, ◌∙◌, arith, add-one, length-append, drop_of_length-le}
use Rattle.std.specs.Prelude.{◌&&◌, bytes_eq, if◌then◌else◌}
use Rattle.std.proofs.Math.Seq.{drop-cons}
use Rattle.unit_alloc.specs.Owning.{Owning, units_of}
use Rattle.super_meta.specs.declared.table.Partition.{Partition}
use Rattle.super_meta.specs.declared.table.Group.{Group}
use Rattle.super_meta.specs.Contents.{Content}
use Rattle.dev_store.specs.declared.layout.SuperPart.{SuperPart}
use Rattle.dev_store.specs.declared.table_build.Planned.{Planned}
use Rattle.dev_store.specs.declared.table_install.Keeps.{Keeps}
use Rattle.dev_store.specs.LayoutLines.{unit_count}
use Rattle.dev_store.specs.Supers.{extents_of, bytes_in}
use Rattle.dev_store.specs.Building.{bare_table, with_groups, headed, built, with_planned, planned_entry}
use Rattle.dev_store.specs.Installing.{keeps, kept_long, planned_by, merged_head, HasSpace}
use Rattle.dev_store.proofs.BuildUnits.{added-few}
use Rattle.dev_store.proofs.BuildLaws.{units-here, units-append, built-append}
use Rattle.dev_store.proofs.UnitLemmas.{left-step}

-- the kept partition of a name is here, or among the others
pub kept-step : (k : Keeps) (c : Content) (name : List ℕ) (xs ys : List Partition) (i : ℕ) (p : Partition) (b : Bool) → xs ≡ ys → i < length xs → p ≡ get_or xs i p → b ≡ (keeps k p.name && bytes_eq p.name name) →
    kept_long k c name (drop i ys) ≡ (if b then bytes_in (extents_of c p) else kept_long k c name (drop (i + 1) ys))
kept-step k c name xs ys i p b s h e t =
    subst (λ l. kept_long k c name (drop i l) ≡ (if b then bytes_in (extents_of c p) else kept_long k c name (drop (i + 1) l))) s
    (ap (kept_long k c name) (left-step xs i p h e) ∙ ap (λ b. if b then bytes_in (extents_of c p) else kept_long k c name (drop (i + 1) xs)) (sym t))

pub kept-end : (k : Keeps) (c : Content) (name : List ℕ) (ps : List Partition) (i : ℕ) → length ps ≤ i → kept_long k c name (drop i ps) ≡ 0
kept-end k c name ps i h = ap (kept_long k c name) (drop_of_length-le ps h)

-- ---- plans, step by step

-- the next of these with its part
by-here : (f : Partition → ℕ → Planned) (p : Partition) (ps : List Partition) (parts : List ℕ) (i : ℕ) → i < length ps → i < length parts →
    planned_by f (drop i ps) (drop i parts) ≡ f (get_or ps i p) (get_or parts i 0) ∷ planned_by f (drop (suc i) ps) (drop (suc i) parts)
by-here f p [] parts i h k = absurd (omega arith)
by-here f p (q ∷ ps) [] i h k = absurd (omega arith)
by-here f p (q ∷ ps) (part ∷ parts) zero h k = refl
by-here f p (q ∷ ps) (part ∷ parts) (suc i) h k = by-here f p ps parts i (omega arith) (omega arith)

pub listed-here : (f : Partition → ℕ → Planned) (p : Partition) (q : Planned) (ps : List Partition) (parts : List ℕ) (i : ℕ) → i < length ps → i < length parts → p ≡ get_or ps i p → q ≡ f p (get_or parts i 0) →
    planned_by f (drop i ps) (drop i parts) ≡ q ∷ planned_by f (drop (i + 1) ps) (drop (i + 1) parts)
listed-here f p q ps parts i h k e t =
    by-here f p ps parts i h k
    ∙ (ap (λ x. f x (get_or parts i 0) ∷ planned_by f (drop (suc i) ps) (drop (suc i) parts)) (sym e)
    ∙ (λ j. sym t j ∷ planned_by f (drop (sym (add-one i) j) ps) (drop (sym (add-one i) j) parts)))

-- there is space for the rest
pub space-here : (s : SuperPart) (owning : Owning) (c next : Content) (p : Planned) (rest all : List Planned) → all ≡ p ∷ rest → next ≡ with_planned s owning c p → HasSpace s owning c all → HasSpace s owning next rest
space-here s owning c next p rest all e n h =
    let u = units-here owning p rest all e in
    let m = ap length e in
    let a = ap (λ t. length t.partitions) n in
    let b = length-append c.partitions (planned_entry owning (length c.extents) p ∷ []) in
    let f = added-few s p.bytes (units_of owning p.part) c.extents next.extents (ap (λ t. t.extents) n) in
    let x = h.few in
    let y = h.units in
    record { few = omega arith; units = omega arith }

-- there is space for the first
pub space-first : (s : SuperPart) (owning : Owning) (c : Content) (p : Planned) (rest all : List Planned) → all ≡ p ∷ rest → HasSpace s owning c all →
    (length c.partitions < 128) × (length c.extents + length (units_of owning p.part) ≤ unit_count s)
space-first s owning c p rest all e h =
    let u = units-here owning p rest all e in
    let m = ap length e in
    let x = h.few in
    let y = h.units in
    (omega arith, omega arith)

pub space-built : (s : SuperPart) (owning : Owning) (c : Content) (xs ys : List Planned) → HasSpace s owning c (xs ++ ys) → HasSpace s owning (built s owning c xs) ys
space-built s owning c [] ys h = h
space-built s owning c (x ∷ xs) ys h = space-built s owning (with_planned s owning c x) xs ys (space-here s owning c (with_planned s owning c x) x (xs ++ ys) (x ∷ (xs ++ ys)) refl refl h)

pub none-listed : (f : Partition → ℕ → Planned) (ps : List Partition) (parts : List ℕ) (i : ℕ) → length ps ≤ i → planned_by f (drop i ps) parts ≡ []
none-listed f ps parts i h = ap (λ l. planned_by f l parts) (drop_of_length-le ps h)

-- ---- those that are left over

filter-here : (t : Partition → Bool) (xs ys : List Partition) (i : ℕ) (p : Partition) (b : Bool) → xs ≡ ys → i < length xs → p ≡ get_or xs i p → b ≡ t p →
    filter t (drop i ys) ≡ cond b (p ∷ filter t (drop (i + 1) ys)) (filter t (drop (i + 1) ys))
filter-here t xs ys i p b s h e k =
    subst (λ l. filter t (drop i l) ≡ cond b (p ∷ filter t (drop (i + 1) l)) (filter t (drop (i + 1) l))) s
    (ap (filter t) (left-step xs i p h e) ∙ ap (λ x. cond x (p ∷ filter t (drop (i + 1) xs)) (filter t (drop (i + 1) xs))) (sym k))

-- one more is left over, with the next part
pub left-yes : (f : Partition → ℕ → Planned) (t : Partition → Bool) (xs ys : List Partition) (parts : List ℕ) (i place : ℕ) (p : Partition) (q : Planned) (b : Bool) → xs ≡ ys → i < length xs → p ≡ get_or xs i p → b ≡ t p → b ≡ true →
    place < length parts → q ≡ f p (get_or parts place 0) →
    planned_by f (filter t (drop i ys)) (drop place parts) ≡ q ∷ planned_by f (filter t (drop (i + 1) ys)) (drop (place + 1) parts)
left-yes f t xs ys parts i place p q b s h e k is l m =
    let here = filter-here t xs ys i p b s h e k ∙ ap (λ x. cond x (p ∷ filter t (drop (i + 1) ys)) (filter t (drop (i + 1) ys))) is in
    (λ j. planned_by f (here j) (drop-cons parts place 0 l j))
    ∙ (λ j. sym m j ∷ planned_by f (filter t (drop (i + 1) ys)) (drop (sym (add-one place) j) parts))

-- it isn't
pub left-no : (t : Partition → Bool) (xs ys : List Partition) (i : ℕ) (p : Partition) (b : Bool) → xs ≡ ys → i < length xs → p ≡ get_or xs i p → b ≡ t p → b ≡ false →
    filter t (drop i ys) ≡ filter t (drop (i + 1) ys)
left-no t xs ys i p b s h e k is = filter-here t xs ys i p b s h e k ∙ ap (λ x. cond x (p ∷ filter t (drop (i + 1) ys)) (filter t (drop (i + 1) ys))) is

pub left-many : (t : Partition → Bool) (xs ys : List Partition) (i : ℕ) (p : Partition) (b : Bool) → xs ≡ ys → i < length xs → p ≡ get_or xs i p → b ≡ t p → b ≡ true →
    length (filter t (drop i ys)) ≡ suc (length (filter t (drop (i + 1) ys)))
left-many t xs ys i p b s h e k is = ap length (filter-here t xs ys i p b s h e k ∙ ap (λ x. cond x (p ∷ filter t (drop (i + 1) ys)) (filter t (drop (i + 1) ys))) is)

pub none-left : (f : Partition → ℕ → Planned) (t : Partition → Bool) (ps : List Partition) (parts : List ℕ) (i : ℕ) → length ps ≤ i → planned_by f (filter t (drop i ps)) parts ≡ []
none-left f t ps parts i h = ap (λ l. planned_by f (filter t l) parts) (drop_of_length-le ps h)

pub space-front : (s : SuperPart) (owning : Owning) (c : Content) (xs ys : List Planned) → HasSpace s owning c (xs ++ ys) → HasSpace s owning c xs
space-front s owning c xs ys h =
    let a = length-append xs ys in
    let b = units-append owning xs ys in
    let x = h.few in
    let y = h.units in
    record { few = omega arith; units = omega arith }

-- the table is begun with the version and the groups of the new one
pub head-is : (s : SuperPart) (c new first second : Content) (n : ℕ) (groups : List Group) → first ≡ bare_table s n new.flags → second ≡ with_groups first groups → groups ≡ new.groups → n ≡ max c.minor new.minor →
    second ≡ headed s (merged_head new c)
head-is s c new first second n groups a b g m = b ∙ (λ i. with_groups (a i) (g i)) ∙ ap (λ k. with_groups (bare_table s k new.flags) new.groups) m

-- the listed ones, and then those that are left over
pub installed-built : (s : SuperPart) (owning : Owning) (head third fourth last : Content) (xs ys : List Planned) → third ≡ head → fourth ≡ built s owning third xs → last ≡ built s owning fourth ys → last ≡ built s owning head (xs ++ ys)
installed-built s owning head third fourth last xs ys h a b =
    b ∙ (ap (λ t. built s owning t ys) (a ∙ ap (λ t. built s owning t xs) h) ∙ sym (built-append s owning head xs ys))
