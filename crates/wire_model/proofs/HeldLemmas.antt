-- The tables of a file are such as a step may bring.
use Rattle.std.proofs.Common.{◌≡◌, ℕ, zero, suc, ◌<◌, Bool, true, false, List, [], ◌∷◌, length, map, refl, ap, ◌∙◌, subst, arith}
use Rattle.std.specs.Prelude.{◌&&◌, ◌||◌, nat_lt, bytes_eq}
use Rattle.std.specs.List.{list_all}
use Rattle.std.proofs.lemmas.Bool.Decides.{nat_tests}
use Rattle.std.proofs.lemmas.Slice.Eq.{bytes_eq-Decides}
use Rattle.fb_frame.specs.NameText.{is_name}
use Rattle.fb_frame.specs.declared.tables.Tables.{Tables}
use Rattle.super_meta.specs.declared.geometry.Geometry.{Geometry}
use Rattle.super_meta.specs.declared.table.Partition.{Partition}
use Rattle.super_meta.specs.declared.table.Group.{Group}
use Rattle.fb_frame.specs.Versions.{are_attributes}
use Rattle.super_meta.specs.Contents.{Content, are_named_apart, are_known}
use Rattle.super_meta.specs.Held.{group_name, listed, limited, tables_in}
use Rattle.super_meta.proofs.NameLemmas.{both, bothly}
use Rattle.super_meta.proofs.HeldLemmas.{IsRead, held-read, all-there}
use Rattle.dev_model.specs.Tables.{is_group}
use Rattle.fb_frame.specs.Distinct.{are_distinct}
use Rattle.dev_model.specs.Validity.{are_tables}
use Rattle.wire_model.specs.TableFile.{HeldTables}

-- a map of a map
names-kept : {X Y : Type 0} (f : X → Y) (name : Y → List ℕ) (own : X → List ℕ) → ((x : X) → name (f x) ≡ own x) → (xs : List X) → map name (map f xs) ≡ map own xs
names-kept f name own same [] = refl
names-kept f name own same (x ∷ xs) = ap (λ n. n ∷ map name (map f xs)) (same x) ∙ ap (λ t. own x ∷ t) (names-kept f name own same xs)

distinct-by : {X Y : Type 0} (f : X → Y) (name : Y → List ℕ) (own : X → List ℕ) → ((x : X) → name (f x) ≡ own x) → (xs : List X) → are_distinct (map own xs) ≡ true → are_distinct (map name (map f xs)) ≡ true
distinct-by f name own same xs h = ap are_distinct (names-kept f name own same xs) ∙ h

same-text : (x : List ℕ) → bytes_eq x x ≡ true
same-text x = (bytes_eq-Decides x x).1 refl

-- the group at a place is one of the groups
group-there : (groups : List Group) (place : ℕ) → place < length groups → is_group (map limited groups) (group_name groups place) ≡ true
group-there [] place h = absurd (omega arith)
group-there (g ∷ groups) zero h = rw (same-text g.name) refl
group-there (g ∷ groups) (suc place) h = either (bytes_eq g.name (group_name groups place)) _ (group-there groups place (omega arith))
  where
    either : (a b : Bool) → b ≡ true → (a || b) ≡ true
    either true b e = refl
    either false b e = e

-- each partition is an entry that a step may bring
entries-are : (groups : List Group) (minor : ℕ) (partitions : List Partition) →
    list_all (λ p. is_name p.name) partitions ≡ true → list_all (λ p. nat_lt p.group (length groups)) partitions ≡ true → list_all (λ p. are_attributes minor p.attributes) partitions ≡ true →
    list_all (λ p. is_name p.name && is_group (map limited groups) p.group && are_attributes minor p.attributes) (map (listed groups) partitions) ≡ true
entries-are groups minor [] n g a = refl
entries-are groups minor (p ∷ partitions) n g a =
    let n1 = both (is_name p.name) _ n in
    let g1 = both (nat_lt p.group (length groups)) _ g in
    let a1 = both (are_attributes minor p.attributes) _ a in
    let there : p.group < length groups = low p.group (length groups) g1.0 in
    bothly _ _ (bothly _ _ (bothly _ _ n1.0 (group-there groups p.group there)) a1.0) (entries-are groups minor partitions n1.1 g1.1 a1.1)
  where
    low : (i k : ℕ) → nat_lt i k ≡ true → i < k
    low i k e = grind (arith, nat_tests)

-- each group has a name
groups-are : (groups : List Group) → list_all (λ g. is_name g.name) groups ≡ true → list_all (λ g. is_name g.name) (map limited groups) ≡ true
groups-are [] h = refl
groups-are (g ∷ groups) h = let p = both (is_name g.name) _ h in bothly _ _ p.0 (groups-are groups p.1)

apart-are : (c : Content) → are_named_apart c ≡ true → (are_distinct (map (λ p. p.name) c.partitions) ≡ true) × (are_distinct (map (λ g. g.name) c.groups) ≡ true)
unfolding are_named_apart
apart-are c h = both (are_distinct (map (λ p. p.name) c.partitions)) (are_distinct (map (λ g. g.name) c.groups)) h

known-are : (c : Content) → are_known c ≡ true → list_all (λ p. are_attributes c.minor p.attributes) c.partitions ≡ true
unfolding are_known
known-are c h = h

read-tables : (g : Geometry) (c : Content) → IsRead c → are_tables (tables_in g c) ≡ true
read-tables g c r =
    let apart = apart-are c r.apart in
    let partitions = distinct-by (listed c.groups) (λ p. p.name) (λ p. p.name) (λ p. refl) c.partitions apart.0 in
    let groups = distinct-by limited (λ g. g.name) (λ g. g.name) (λ g. refl) c.groups apart.1 in
    let entries = entries-are c.groups c.minor c.partitions r.partitions-named (all-there c r.indexed) (known-are c r.known) in
    bothly _ _ (bothly _ _ (bothly _ _ (bothly _ _ partitions groups) entries) (groups-are c.groups r.groups-named)) r.version

pub held_tables : HeldTables
held_tables file tables e = let h = held-read file tables e in subst (λ (t : Tables). are_tables t ≡ true) h.same (read-tables h.geometry h.content h.read)
