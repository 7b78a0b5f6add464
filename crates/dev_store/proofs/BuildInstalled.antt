-- What is planned where the table of an image is installed is the plan of the device that takes its tables.
use Rattle.std.proofs.Common.{◌≡◌, ℕ, ◌<◌, ◌≤◌, Bool, true, false, not, cond, List, [], ◌∷◌, ◌++◌, length, map, filter, drop, max, refl, sym, ap, ◌∙◌, arith}
use Rattle.std.specs.Prelude.{◌&&◌, ◌||◌, nat_lt, bytes_eq, if◌then◌else◌, IsTrue}
use Rattle.std.specs.List.{list_all, list_any}
use Rattle.std.proofs.lemmas.List.{length-map}
use Rattle.std.proofs.lemmas.Bool.Decides.{nat_tests}
use Rattle.fb_frame.specs.declared.tables.TableGroup.{TableGroup}
use Rattle.fb_frame.specs.Distinct.{are_distinct}
use Rattle.dev_model.specs.declared.device.Dev.{Dev}
use Rattle.dev_model.specs.declared.device.Logical.{Logical}
use Rattle.dev_model.specs.Partitions.{has_slots}
use Rattle.dev_model.specs.Tables.{is_listed, is_kept, kept, kept_bytes, listed, left_over, merged, with_tables}
use Rattle.dev_model.specs.Validity.{IsValid}
use Rattle.dev_model.proofs.Valid.{both}
use Rattle.unit_alloc.specs.Owning.{Owning, units_of}
use Rattle.super_meta.specs.declared.geometry.Geometry.{Geometry}
use Rattle.super_meta.specs.declared.table.Partition.{Partition}
use Rattle.super_meta.specs.declared.table.Group.{Group}
use Rattle.super_meta.specs.Contents.{Content}
use Rattle.super_meta.specs.Held.{limited, tables_in}
use Rattle.super_meta.specs.Held.{listed as listed_in}
use Rattle.dev_store.specs.declared.layout.SuperPart.{SuperPart}
use Rattle.dev_store.specs.declared.table_install.Keeps.{Keeps}
use Rattle.dev_store.specs.Supers.{extents_of, bytes_in}
use Rattle.dev_store.specs.LayoutLines.{unit_count}
use Rattle.dev_store.specs.Runs.{group_place, table_for}
use Rattle.dev_store.specs.TableChanges.{AreEntriesOf, AreFitted}
use Rattle.dev_store.specs.Building.{headed, built, planned_for}
use Rattle.dev_store.specs.Installing.{keeps, kept_long, listed_as, is_left, left_as, planned_by, installed_plan, merged_head, HasSpace}
use Rattle.dev_store.proofs.ChangeHeld.{IsHeadOf}
use Rattle.dev_store.proofs.BuildLaws.{group-placed}
use Rattle.dev_store.proofs.BuildNext.{next-table, plan-few, plan-units}

-- what tells which partitions of a device are kept
abbrev pub keeps_of : Bool → Dev → Keeps
keeps_of wipe dev = record { wipe = wipe; slots = has_slots dev; active = dev.active }

long-by : (a b : Bool) (n m : ℕ) (bytes rest : List ℕ) → n ≡ length bytes → m ≡ length rest → (if a && b then n else m) ≡ length (if a then (if b then bytes else rest) else rest)
long-by true true n m bytes rest h k = h
long-by true false n m bytes rest h k = k
long-by false b n m bytes rest h k = k

-- the kept partition of a name
pub kept-is : (s : SuperPart) (wipe : Bool) (dev : Dev) (c : Content) (name : List ℕ) (ps : List Partition) (logical : List Logical) (lists : List (List ℕ)) → AreEntriesOf s c ps logical lists →
    kept_long (keeps_of wipe dev) c name ps ≡ length (kept_bytes name (filter (is_kept dev wipe) logical))
kept-is s wipe dev c name [] [] [] h = refl
kept-is s wipe dev c name [] [] (units ∷ lists) h = absurd h
kept-is s wipe dev c name [] (q ∷ logical) lists h = absurd h
kept-is s wipe dev c name (p ∷ ps) [] lists h = absurd h
kept-is s wipe dev c name (p ∷ ps) (q ∷ logical) [] h = absurd h
kept-is s wipe dev c name (p ∷ ps) (q ∷ logical) (units ∷ lists) h =
    let e = h.0 in
    let more = kept-is s wipe dev c name ps logical lists h.1 in
    (λ i. if keeps (keeps_of wipe dev) (e.name i) && bytes_eq (e.name i) name then bytes_in (extents_of c p) else kept_long (keeps_of wipe dev) c name ps)
    ∙ (long-by (keeps (keeps_of wipe dev) q.name) (bytes_eq q.name name) (bytes_in (extents_of c p)) (kept_long (keeps_of wipe dev) c name ps) q.bytes (kept_bytes name (filter (is_kept dev wipe) logical)) e.long more
    ∙ ap length (sym (passed (is_kept dev wipe q))))
  where
    passed : (b : Bool) → kept_bytes name (cond b (q ∷ filter (is_kept dev wipe) logical) (filter (is_kept dev wipe) logical))
        ≡ (if b then (if bytes_eq q.name name then q.bytes else kept_bytes name (filter (is_kept dev wipe) logical)) else kept_bytes name (filter (is_kept dev wipe) logical))
    passed true = refl
    passed false = refl

below : (a b : ℕ) → nat_lt a b ≡ true → a < b
below a b h = grind (arith, nat_tests)

-- the listed ones
listed-plan : (k : Keeps) (new c : Content) (old : List Logical) → are_distinct (map (λ g. g.name) new.groups) ≡ true → ((name : List ℕ) → kept_long k c name c.partitions ≡ length (kept_bytes name old)) →
    (ps : List Partition) (parts : List ℕ) → list_all (λ p. nat_lt p.group (length new.groups)) ps ≡ true →
    planned_by (listed_as k c) ps parts
    ≡ planned_for (map limited new.groups) (map (λ p. record { name = p.name; attributes = p.attributes; group = p.group; bytes = kept_bytes p.name old }) (map (listed_in new.groups) ps)) parts
listed-plan k new c old d long [] parts g = refl
listed-plan k new c old d long (p ∷ ps) [] g = refl
listed-plan k new c old d long (p ∷ ps) (part ∷ parts) g =
    let b = both (nat_lt p.group (length new.groups)) (list_all (λ p. nat_lt p.group (length new.groups)) ps) g in
    let group = group-placed new.groups p.group d (below p.group (length new.groups) b.0) in
    let bytes = long p.name in
    let more = listed-plan k new c old d long ps parts b.1 in
    λ i. record { name = p.name; attributes = p.attributes; group = sym group i; bytes = bytes i; part = part } ∷ more i

pub listed-same : (groups : List Group) (name : List ℕ) (ps : List Partition) → is_listed (map (listed_in groups) ps) name ≡ list_any (λ q. bytes_eq q.name name) ps
listed-same groups name [] = refl
listed-same groups name (p ∷ ps) = ap (λ b. bytes_eq p.name name || b) (listed-same groups name ps)

-- those that are left over
left-plan : (s : SuperPart) (wipe : Bool) (dev : Dev) (new c : Content) (ps : List Partition) (logical : List Logical) (lists : List (List ℕ)) (parts : List ℕ) → AreEntriesOf s c ps logical lists →
    planned_by (left_as new c) (filter (is_left (keeps_of wipe dev) new) ps) parts
    ≡ planned_for (map limited new.groups) (filter (λ q. not (is_listed (map (listed_in new.groups) new.partitions) q.name)) (filter (is_kept dev wipe) logical)) parts
left-plan s wipe dev new c [] [] [] parts h = refl
left-plan s wipe dev new c [] [] (units ∷ lists) parts h = absurd h
left-plan s wipe dev new c [] (q ∷ logical) lists parts h = absurd h
left-plan s wipe dev new c (p ∷ ps) [] lists parts h = absurd h
left-plan s wipe dev new c (p ∷ ps) (q ∷ logical) [] parts h = absurd h
left-plan s wipe dev new c (p ∷ ps) (q ∷ logical) (units ∷ lists) parts h =
    let e = h.0 in
    let test : is_left (keeps_of wipe dev) new p ≡ (is_kept dev wipe q && not (is_listed (map (listed_in new.groups) new.partitions) q.name)) =
    (λ i. keeps (keeps_of wipe dev) (e.name i) && not (list_any (λ x. bytes_eq x.name (e.name i)) new.partitions))
    ∙ ap (λ b. is_kept dev wipe q && not b) (sym (listed-same new.groups q.name new.partitions)) in
    ap (λ b. planned_by (left_as new c) (cond b (p ∷ rest) rest) parts) test
    ∙ (by (is_kept dev wipe q && is-new q) parts (λ xs. left-plan s wipe dev new c ps logical lists xs h.1)
    ∙ ap (λ l. planned_for (map limited new.groups) l parts) (sym (twice (is_kept dev wipe q))))
  where
    rest : List Partition
    rest = filter (is_left (keeps_of wipe dev) new) ps

    is-new : Logical → Bool
    is-new x = not (is_listed (map (listed_in new.groups) new.partitions) x.name)

    others : List Logical
    others = filter is-new (filter (is_kept dev wipe) logical)

    twice : (a : Bool) → filter is-new (cond a (q ∷ filter (is_kept dev wipe) logical) (filter (is_kept dev wipe) logical)) ≡ cond (a && is-new q) (q ∷ others) others
    twice true = refl
    twice false = refl

    by : (b : Bool) (xs : List ℕ) → ((ys : List ℕ) → planned_by (left_as new c) rest ys ≡ planned_for (map limited new.groups) others ys) →
        planned_by (left_as new c) (cond b (p ∷ rest) rest) xs ≡ planned_for (map limited new.groups) (cond b (q ∷ others) others) xs
    by true [] more = refl
    by true (part ∷ xs) more =
        let e = h.0 in
        let rest = more xs in
        λ i. record { name = e.name i; attributes = e.attributes i; group = group_place (map limited new.groups) (e.group i); bytes = e.long i; part = part } ∷ rest i
    by false xs more = more xs

for-split : (groups : List TableGroup) (ps qs : List Logical) (xs : List ℕ) → length ps ≤ length xs → planned_for groups (ps ++ qs) xs ≡ planned_for groups ps xs ++ planned_for groups qs (drop (length ps) xs)
for-split groups [] qs xs h = refl
for-split groups (p ∷ ps) qs [] h = absurd (omega arith)
for-split groups (p ∷ ps) qs (x ∷ xs) h =
    ap (λ l. record { name = p.name; attributes = p.attributes; group = group_place groups p.group; bytes = length p.bytes; part = x } ∷ l) (for-split groups ps qs xs (omega arith))

-- What is planned is the plan of the device's new entries, with these parts.
pub installed-planned : (s : SuperPart) (wipe : Bool) (dev : Dev) (geometry : Geometry) (new c : Content) (lists : List (List ℕ)) (parts : List ℕ) → IsTrue (are_distinct (map (λ g. g.name) new.groups)) →
    IsTrue (list_all (λ p. nat_lt p.group (length new.groups)) new.partitions) → AreEntriesOf s c c.partitions dev.logical lists → length new.partitions ≤ length parts →
    installed_plan (keeps_of wipe dev) new c parts ≡ planned_for (tables_in geometry new).groups (merged (tables_in geometry new) wipe dev) parts
installed-planned s wipe dev geometry new c lists parts d g h n =
    let tables = tables_in geometry new in
    let old = kept dev wipe in
    let first = listed-plan (keeps_of wipe dev) new c old d (λ name. kept-is s wipe dev c name c.partitions dev.logical lists h) new.partitions parts g in
    let many : length (listed tables old) ≡ length new.partitions =
    length-map tables.partitions (λ p. record { name = p.name; attributes = p.attributes; group = p.group; bytes = kept_bytes p.name old }) ∙ length-map new.partitions (listed_in new.groups) in
    let second = left-plan s wipe dev new c c.partitions dev.logical lists (drop (length new.partitions) parts) h in
    (λ i. first i ++ second i)
    ∙ (ap (λ k. planned_for tables.groups (listed tables old) parts ++ planned_for tables.groups (left_over tables old) (drop k parts)) (sym many)
    ∙ sym (for-split tables.groups (listed tables old) (left_over tables old) parts (omega arith)))

-- the table is begun as that of the device with these tables
pub installed-head : (geometry : Geometry) (new c : Content) (wipe : Bool) (dev : Dev) → c.minor ≡ dev.table_minor → IsHeadOf (merged_head new c) (with_tables (tables_in geometry new) wipe dev)
installed-head geometry new c wipe dev h = record { minor = ap (λ n. max n new.minor) h; flags = refl; groups = refl }

-- What is built is the table of the device with these tables.
pub installed-table : (s : SuperPart) (owning : Owning) (wipe : Bool) (dev : Dev) (geometry : Geometry) (new c : Content) (parts : List ℕ) → c.minor ≡ dev.table_minor →
    installed_plan (keeps_of wipe dev) new c parts ≡ planned_for (tables_in geometry new).groups (merged (tables_in geometry new) wipe dev) parts → length parts ≡ length (merged (tables_in geometry new) wipe dev) →
    built s owning (headed s (merged_head new c)) (installed_plan (keeps_of wipe dev) new c parts) ≡ table_for s (with_tables (tables_in geometry new) wipe dev) (map (units_of owning) parts)
installed-table s owning wipe dev geometry new c parts h plan n =
    next-table s owning (merged_head new c) (with_tables (tables_in geometry new) wipe dev) (installed_plan (keeps_of wipe dev) new c parts) parts (installed-head geometry new c wipe dev h) plan n

-- there is space for it
pub plan-space : (s : SuperPart) (owning : Owning) (c : Content) (dev : Dev) (parts : List ℕ) → IsValid dev → dev.unit ≡ s.unit → dev.units ≡ unit_count s → length parts ≡ length dev.logical →
    AreFitted s.unit dev.logical (map (units_of owning) parts) → HasSpace s owning (headed s c) (planned_for dev.groups dev.logical parts)
plan-space s owning c dev parts v u m n h =
    let few = plan-few dev parts v n in
    let units = plan-units s owning dev parts v u m h in
    record { few = omega arith; units = omega arith }
