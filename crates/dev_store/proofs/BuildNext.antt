-- The next table, in which the partition at a place is replaced: which table of a device it is.
use Rattle.std.proofs.Common.{◌≡◌, ℕ, zero, suc, ◌+◌, ◌-◌, ◌<◌, ◌≤◌, Bool, true, false, List, [], ◌∷◌, ◌++◌, length, get_or, take, drop, map, not, cond, min, Some, None, refl, sym, ap, subst, ◌∙◌, arith, length-append, drop_of_length-le}
use Rattle.std.specs.Prelude.{◌||◌, if◌then◌else◌, Option, option_to_list, nat_lt, nat_le, bytes_eq, unwrap_or, codes, replicate}
use Rattle.std.specs.List.{list_all, list_any, position, position_or_len}
use Rattle.std.proofs.lemmas.List.{take_all, length-take, length-drop, length-map, length-replicate}
use Rattle.std.proofs.lemmas.List.Sums.{sum_by-cons}
use Rattle.std.proofs.lemmas.Bool.Decides.{nat_tests}
use Rattle.std.proofs.lemmas.Slice.Eq.{bytes_eq-Decides}
use Rattle.fb_frame.specs.declared.tables.TableGroup.{TableGroup}
use Rattle.fb_frame.specs.Distinct.{are_distinct}
use Rattle.fb_frame.specs.NameText.{is_name}
use Rattle.unit_alloc.specs.Owning.{Owning, units_of}
use Rattle.dev_model.specs.declared.device.Dev.{Dev}
use Rattle.dev_model.specs.declared.device.Logical.{Logical}
use Rattle.dev_model.specs.Images.{round_up}
use Rattle.dev_model.specs.Partitions.{logical_changed, with_logical_bytes}
use Rattle.dev_model.specs.Sizes.{Size, sizes_of, units_for}
use Rattle.dev_model.specs.Sizes.{units_of as units_sized}
use Rattle.dev_model.specs.Steps.{deleted, created, cut_or_padded}
use Rattle.dev_model.proofs.ValidSizes.{length-cut}
use Rattle.dev_model.specs.Validity.{IsValid, is_entry, all_names}
use Rattle.dev_model.proofs.Names.{among, distinct-left, distinct-right}
use Rattle.dev_model.proofs.Valid.{both}
use Rattle.super_meta.specs.declared.table.Group.{Group}
use Rattle.super_meta.specs.declared.table.Partition.{Partition}
use Rattle.super_meta.specs.Contents.{Content}
use Rattle.super_meta.specs.Held.{limited}
use Rattle.dev_store.specs.declared.layout.SuperPart.{SuperPart}
use Rattle.dev_store.specs.declared.table_build.Planned.{Planned}
use Rattle.dev_store.specs.Runs.{group_place, as_group, table_for}
use Rattle.dev_store.specs.LayoutLines.{unit_count}
use Rattle.dev_store.specs.TableChanges.{AreFitted}
use Rattle.dev_store.specs.Building.{bare_table, with_groups, headed, built, units_planned, planned_for, planned_as, planned_all, planned_range, replaced, longer}
use Rattle.dev_store.proofs.ChangeNamed.{at-name, not-or}
use Rattle.dev_store.proofs.ChangeHeld.{IsHeadOf}
use Rattle.dev_store.proofs.ChangeDelete.{without, without-first, without-later, others-than, none-filtered}
use Rattle.dev_store.proofs.BuildLaws.{built-append, table-built, for-append, for-take, for-drop}

planned-many : (c : Content) (ps : List Partition) (parts : List ℕ) → length parts ≡ length ps → length (planned_all c ps parts) ≡ length parts
planned-many c [] [] h = refl
planned-many c [] (part ∷ parts) h = absurd (omega arith)
planned-many c (p ∷ ps) [] h = absurd (omega arith)
planned-many c (p ∷ ps) (part ∷ parts) h = ap suc (planned-many c ps parts (omega arith))

-- the partitions before a place, and those from one on
range-front : (c : Content) (parts : List ℕ) (place : ℕ) → planned_range c parts 0 place ≡ take place (planned_all c c.partitions parts)
range-front c parts place = let n : place - 0 ≡ place = omega arith in ap (λ k. take k (planned_all c c.partitions parts)) n

range-back : (c : Content) (parts : List ℕ) (place : ℕ) → length parts ≡ length c.partitions → planned_range c parts place (length parts) ≡ drop place (planned_all c c.partitions parts)
range-back c parts place h =
    let all = planned_all c c.partitions parts in
    let n = planned-many c c.partitions parts h in
    let d = length-drop place all in
    take_all (length parts - place) (drop place all) (omega arith)

-- how many there are then
pub replaced-many : (c : Content) (parts : List ℕ) (place : ℕ) (planned : Option Planned) → length parts ≡ length c.partitions → place ≤ length parts →
    length (replaced place planned (planned_all c c.partitions parts)) ≡ place + (length (option_to_list planned) + (length parts - (place + 1)))
replaced-many c parts place planned h k =
    let all = planned_all c c.partitions parts in
    let n = planned-many c c.partitions parts h in
    let a = length-append (take place all) (option_to_list planned ++ drop (place + 1) all) in
    let b = length-append (option_to_list planned) (drop (place + 1) all) in
    let t = length-take place all in
    let d = length-drop (place + 1) all in
    omega arith

-- three steps of building are one
pub replaced-built : (s : SuperPart) (owning : Owning) (c head first second last : Content) (parts : List ℕ) (place : ℕ) (planned : Option Planned) → length parts ≡ length c.partitions →
    first ≡ built s owning head (planned_range c parts 0 place) → second ≡ built s owning first (option_to_list planned) → last ≡ built s owning second (planned_range c parts (place + 1) (length parts)) →
    last ≡ built s owning head (replaced place planned (planned_all c c.partitions parts))
replaced-built s owning c head first second last parts place planned h a b e =
    let all = planned_all c c.partitions parts in
    let back = drop (place + 1) all in
    e
    ∙ (ap (built s owning second) (range-back c parts (place + 1) h)
    ∙ (ap (λ t. built s owning t back) (b ∙ ap (λ t. built s owning t (option_to_list planned)) (a ∙ ap (built s owning head) (range-front c parts place)))
    ∙ (sym (built-append s owning (built s owning head (take place all)) (option_to_list planned) back)
    ∙ sym (built-append s owning head (take place all) (option_to_list planned ++ back)))))

-- ---- the table of the changed device

groups-as : (groups : List Group) → map as_group (map limited groups) ≡ groups
groups-as [] = refl
groups-as (g ∷ groups) = ap (λ l. g ∷ l) (groups-as groups)

headed-is : (s : SuperPart) (c : Content) (dev : Dev) → IsHeadOf c dev → headed s c ≡ with_groups (bare_table s dev.table_minor dev.table_flags) (map as_group dev.groups)
headed-is s c dev h =
    let groups = sym (groups-as c.groups) ∙ ap (map as_group) h.groups in
    λ i. with_groups (bare_table s (h.minor i) (h.flags i)) (groups i)

-- What is built of the plan of a device with the version and the groups of a table is its table.
pub next-table : (s : SuperPart) (owning : Owning) (c : Content) (dev : Dev) (plan : List Planned) (parts : List ℕ) → IsHeadOf c dev → plan ≡ planned_for dev.groups dev.logical parts → length parts ≡ length dev.logical →
    built s owning (headed s c) plan ≡ table_for s dev (map (units_of owning) parts)
next-table s owning c dev plan parts h e n = (λ i. built s owning (headed-is s c dev h i) (e i)) ∙ table-built s owning dev parts n

-- no name of a logical partition stands twice
logical-distinct : (dev : Dev) → IsValid dev → are_distinct (map (λ p. p.name) dev.logical) ≡ true
logical-distinct dev v =
    let physical = map (λ p. p.name) dev.physical in
    let logical = map (λ p. p.name) dev.logical in
    let d = (both (list_all is_name (all_names dev)) (are_distinct (all_names dev)) v.names).1 in
    distinct-right physical logical (distinct-left (physical ++ logical) (option_to_list dev.super_name) d)

-- ---- one partition less

plan-without : (groups : List TableGroup) (ps : List Logical) (parts : List ℕ) (place : ℕ) → length parts ≡ length ps → without place (planned_for groups ps parts) ≡ planned_for groups (without place ps) (without place parts)
plan-without groups ps parts place h =
    let a = length-take place parts in
    let b = length-take place ps in
    (λ i. for-take groups ps parts place i ++ for-drop groups ps parts (place + 1) i)
    ∙ sym (for-append groups (take place ps) (drop (place + 1) ps) (take place parts) (drop (place + 1) parts) (a ∙ (ap (min place) h ∙ sym b)))

others-without : (name : List ℕ) (ps : List Logical) → are_distinct (map (λ p. p.name) ps) ≡ true → list_any (at-name name) ps ≡ true → others-than name ps ≡ without (position_or_len (at-name name) ps) ps
others-without name [] d there = absurd cc
others-without name (p ∷ ps) d there = by (bytes_eq p.name name) refl there (λ t. others-without name ps k.1 t)
  where
    k : (not (among p.name (map (λ q. q.name) ps)) ≡ true) × (are_distinct (map (λ q. q.name) ps) ≡ true)
    k = both (not (among p.name (map (λ q. q.name) ps))) (are_distinct (map (λ q. q.name) ps)) d

    by : (b : Bool) → bytes_eq p.name name ≡ b → (b || list_any (at-name name) ps) ≡ true → (list_any (at-name name) ps ≡ true → others-than name ps ≡ without (position_or_len (at-name name) ps) ps) →
        cond (not b) (p ∷ others-than name ps) (others-than name ps) ≡ without (cond (not b) (1 + position_or_len (at-name name) ps) 0) (p ∷ ps)
    by true e t more =
        let is = (bytes_eq-Decides p.name name).0 e in
        none-filtered name ps (subst (λ x. not (among x (map (λ q. q.name) ps)) ≡ true) is k.0) ∙ sym (without-first p ps)
    by false e t more = ap (λ l. p ∷ l) (more t) ∙ sym (without-later (position_or_len (at-name name) ps) p ps)

-- the plan without the partition of a name
pub deleted-plan : (dev : Dev) (name : List ℕ) (parts : List ℕ) → IsValid dev → length parts ≡ length dev.logical → list_any (at-name name) dev.logical ≡ true →
    replaced (position_or_len (at-name name) dev.logical) None (planned_for dev.groups dev.logical parts)
    ≡ planned_for dev.groups (deleted name dev).logical (without (position_or_len (at-name name) dev.logical) parts)
deleted-plan dev name parts v h there =
    let place = position_or_len (at-name name) dev.logical in
    plan-without dev.groups dev.logical parts place h
    ∙ ap (λ ps. planned_for dev.groups ps (without place parts)) (sym (others-without name dev.logical (logical-distinct dev v) there))

-- ---- one partition of another length

replaced-first : (q : Option Planned) (x : Planned) (xs : List Planned) → replaced 0 q (x ∷ xs) ≡ option_to_list q ++ xs
replaced-first q x xs = let e : 0 + 1 ≡ suc 0 = omega arith in ap (λ n. option_to_list q ++ drop n (x ∷ xs)) e

replaced-later : (i : ℕ) (q : Option Planned) (x : Planned) (xs : List Planned) → replaced (1 + i) q (x ∷ xs) ≡ x ∷ replaced i q xs
replaced-later i q x xs =
    let e : 1 + i ≡ suc i = omega arith in
    let n : suc i + 1 ≡ suc (i + 1) = omega arith in
    ap (λ k. take k (x ∷ xs) ++ (option_to_list q ++ drop (k + 1) (x ∷ xs))) e ∙ ap (λ k. x ∷ (take i xs ++ (option_to_list q ++ drop k (x ∷ xs)))) n

get-later : (i : ℕ) (d x : Planned) (xs : List Planned) → get_or (x ∷ xs) (1 + i) d ≡ get_or xs i d
get-later i d x xs = let e : 1 + i ≡ suc i = omega arith in ap (λ k. get_or (x ∷ xs) k d) e

position-inside : (name : List ℕ) (ps : List Logical) → list_any (at-name name) ps ≡ true → position_or_len (at-name name) ps < length ps
position-inside name [] there = absurd cc
position-inside name (p ∷ ps) there = by (bytes_eq p.name name) there (λ t. position-inside name ps t)
  where
    by : (b : Bool) → (b || list_any (at-name name) ps) ≡ true → (list_any (at-name name) ps ≡ true → position_or_len (at-name name) ps < length ps) →
        cond (not b) (1 + position_or_len (at-name name) ps) 0 < suc (length ps)
    by true t more = omega arith
    by false t more = let m = more t in omega arith

for-many : (groups : List TableGroup) (ps : List Logical) (parts : List ℕ) → length parts ≡ length ps → length (planned_for groups ps parts) ≡ length parts
for-many groups [] [] h = refl
for-many groups [] (part ∷ parts) h = absurd (omega arith)
for-many groups (p ∷ ps) [] h = absurd (omega arith)
for-many groups (p ∷ ps) (part ∷ parts) h = ap suc (for-many groups ps parts (omega arith))

le-of : (n k : ℕ) → nat_le n k ≡ true → n ≤ k
le-of n k h = grind (arith, nat_tests)

none-changed : (name : List ℕ) (change : List ℕ → List ℕ) (ps : List Logical) → not (among name (map (λ p. p.name) ps)) ≡ true → map (logical_changed name change) ps ≡ ps
none-changed name change [] h = refl
none-changed name change (p ∷ ps) h =
    let n = not-or (bytes_eq p.name name) (among name (map (λ q. q.name) ps)) h in
    let more = none-changed name change ps n.1 in
    λ i. record p { bytes = (if n.0 i then change else λ bytes. bytes) p.bytes } ∷ more i

plan-changed : (groups : List TableGroup) (name : List ℕ) (change : List ℕ → List ℕ) (n : ℕ) (d : Planned) → ((bytes : List ℕ) → length (change bytes) ≡ n) → (ps : List Logical) (parts : List ℕ) → length parts ≡ length ps →
    are_distinct (map (λ p. p.name) ps) ≡ true → list_any (at-name name) ps ≡ true →
    replaced (position_or_len (at-name name) ps) (Some (longer n (get_or (planned_for groups ps parts) (position_or_len (at-name name) ps) d))) (planned_for groups ps parts)
    ≡ planned_for groups (map (logical_changed name change) ps) parts
plan-changed groups name change n d long [] parts h dis there = absurd cc
plan-changed groups name change n d long (p ∷ ps) [] h dis there = absurd (omega arith)
plan-changed groups name change n d long (p ∷ ps) (part ∷ parts) h dis there =
    by (bytes_eq p.name name) refl there (λ t. plan-changed groups name change n d long ps parts (omega arith) k.1 t)
  where
    k : (not (among p.name (map (λ q. q.name) ps)) ≡ true) × (are_distinct (map (λ q. q.name) ps) ≡ true)
    k = both (not (among p.name (map (λ q. q.name) ps))) (are_distinct (map (λ q. q.name) ps)) dis

    own : List ℕ → Planned
    own bytes = record { name = p.name; attributes = p.attributes; group = group_place groups p.group; bytes = length bytes; part = part }

    by : (b : Bool) → bytes_eq p.name name ≡ b → (b || list_any (at-name name) ps) ≡ true →
        (list_any (at-name name) ps ≡ true →
        replaced (position_or_len (at-name name) ps) (Some (longer n (get_or (planned_for groups ps parts) (position_or_len (at-name name) ps) d))) (planned_for groups ps parts)
        ≡ planned_for groups (map (logical_changed name change) ps) parts) →
        replaced (cond (not b) (1 + position_or_len (at-name name) ps) 0) (Some (longer n (get_or (planned_for groups (p ∷ ps) (part ∷ parts)) (cond (not b) (1 + position_or_len (at-name name) ps) 0) d))) (planned_for groups (p ∷ ps) (part ∷ parts))
        ≡ planned_for groups (record p { bytes = (if b then change else λ bytes. bytes) p.bytes } ∷ map (logical_changed name change) ps) (part ∷ parts)
    by true e t more =
        let is = (bytes_eq-Decides p.name name).0 e in
        let same = none-changed name change ps (subst (λ x. not (among x (map (λ q. q.name) ps)) ≡ true) is k.0) in
        replaced-first (Some (longer n (own p.bytes))) (own p.bytes) (planned_for groups ps parts)
        ∙ (λ i. longer (sym (long p.bytes) i) (own p.bytes) ∷ planned_for groups (sym same i) parts)
    by false e t more =
        let place = position_or_len (at-name name) ps in
        ap (λ q. replaced (1 + place) (Some (longer n q)) (own p.bytes ∷ planned_for groups ps parts)) (get-later place d (own p.bytes) (planned_for groups ps parts))
        ∙ (replaced-later place (Some (longer n (get_or (planned_for groups ps parts) place d))) (own p.bytes) (planned_for groups ps parts)
        ∙ ap (λ l. own p.bytes ∷ l) (more t))

planned-at : (c : Content) (d : Planned) (e : Partition) (ps : List Partition) (parts : List ℕ) (i : ℕ) → i < length ps → i < length parts →
    get_or (planned_all c ps parts) i d ≡ planned_as c (get_or ps i e) (get_or parts i 0)
planned-at c d e [] parts i h k = absurd (omega arith)
planned-at c d e (p ∷ ps) [] i h k = absurd (omega arith)
planned-at c d e (p ∷ ps) (part ∷ parts) zero h k = refl
planned-at c d e (p ∷ ps) (part ∷ parts) (suc i) h k = planned-at c d e ps parts i (omega arith) (omega arith)

-- The plan in which the partition of a name has another length, by the entry that the table has of it.
pub resized-plan : (c : Content) (dev : Dev) (name : List ℕ) (size : ℕ) (parts : List ℕ) (p : Partition) (part : ℕ) → IsValid dev → length parts ≡ length dev.logical → length parts ≡ length c.partitions →
    planned_all c c.partitions parts ≡ planned_for dev.groups dev.logical parts → list_any (at-name name) dev.logical ≡ true →
    p ≡ get_or c.partitions (position_or_len (at-name name) dev.logical) p → part ≡ get_or parts (position_or_len (at-name name) dev.logical) 0 →
    replaced (position_or_len (at-name name) dev.logical) (Some (longer size (planned_as c p part))) (planned_all c c.partitions parts) ≡ planned_for dev.groups (with_logical_bytes name (cut_or_padded size) dev).logical parts
resized-plan c dev name size parts p part v h many all there at own =
    let place = position_or_len (at-name name) dev.logical in
    let q = planned_as c p part in
    let i = position-inside name dev.logical there in
    let here : q ≡ get_or (planned_for dev.groups dev.logical parts) place q =
    (λ i. planned_as c (at i) (own i)) ∙ (sym (planned-at c q p c.partitions parts place (omega arith) (omega arith)) ∙ ap (λ l. get_or l place q) all) in
    (λ i. replaced place (Some (longer size (here i))) (all i))
    ∙ plan-changed dev.groups name (cut_or_padded size) size q (length-cut size) dev.logical parts h (logical-distinct dev v) there

-- ---- one partition more

pub created-plan : (dev : Dev) (name : List ℕ) (size : ℕ) (parts : List ℕ) (part : ℕ) → length parts ≡ length dev.logical →
    replaced (length parts) (Some (record { name = name; attributes = 0; group = group_place dev.groups (codes "default"); bytes = round_up size; part = part })) (planned_for dev.groups dev.logical parts)
    ≡ planned_for dev.groups (created name size dev).logical (parts ++ part ∷ [])
created-plan dev name size parts part h =
    let all = planned_for dev.groups dev.logical parts in
    let n = for-many dev.groups dev.logical parts h in
    let q : Planned = record { name = name; attributes = 0; group = group_place dev.groups (codes "default"); bytes = round_up size; part = part } in
    let front : take (length parts) all ≡ all = take_all (length parts) all (omega arith) in
    let back : drop (length parts + 1) all ≡ [] = drop_of_length-le all (omega arith) in
    let long : round_up size ≡ length (replicate (round_up size) 0) = sym (length-replicate (round_up size) 0) in
    (λ i. front i ++ (longer (long i) q ∷ back i))
    ∙ sym (for-append dev.groups dev.logical (record { name = name; attributes = 0; group = codes "default"; bytes = replicate (round_up size) 0 } ∷ []) parts (part ∷ []) h)

-- ---- how many partitions and units a plan has

pub plan-few : (dev : Dev) (parts : List ℕ) → IsValid dev → length parts ≡ length dev.logical → length (planned_for dev.groups dev.logical parts) ≤ 128
plan-few dev parts v h =
    let n = for-many dev.groups dev.logical parts h in
    let f = (both (nat_le (length dev.logical) 128) (list_all (is_entry dev.table_minor dev.groups) dev.logical) v.logical).0 in
    let m = le-of (length dev.logical) 128 f in
    omega arith

units-planned : (unit : ℕ) (owning : Owning) (groups : List TableGroup) (ps : List Logical) (parts : List ℕ) → AreFitted unit ps (map (units_of owning) parts) → units_planned owning (planned_for groups ps parts) ≡ units_sized unit (sizes_of ps)
units-planned unit owning groups [] [] h = refl
units-planned unit owning groups [] (part ∷ parts) h = absurd h
units-planned unit owning groups (p ∷ ps) [] h = absurd h
units-planned unit owning groups (p ∷ ps) (part ∷ parts) h =
    let q : Planned = record { name = p.name; attributes = p.attributes; group = group_place groups p.group; bytes = length p.bytes; part = part } in
    let a = sum_by-cons (λ (x : Planned). length (units_of owning x.part)) q (planned_for groups ps parts) in
    let b = sum_by-cons (λ (z : Size). units_for unit z.bytes) (record { name = p.name; group = p.group; bytes = length p.bytes }) (sizes_of ps) in
    let more = units-planned unit owning groups ps parts h.1 in
    let one = h.0.many in
    omega arith

-- at most as many units as there are
pub plan-units : (s : SuperPart) (owning : Owning) (dev : Dev) (parts : List ℕ) → IsValid dev → dev.unit ≡ s.unit → dev.units ≡ unit_count s → AreFitted s.unit dev.logical (map (units_of owning) parts) →
    units_planned owning (planned_for dev.groups dev.logical parts) ≤ unit_count s
plan-units s owning dev parts v u n h =
    let p = units-planned s.unit owning dev.groups dev.logical parts h in
    let f = le-of (units_sized dev.unit (sizes_of dev.logical)) dev.units v.units_fit in
    let e = ap (λ x. units_sized x (sizes_of dev.logical)) u in
    omega arith

-- ---- the place of a group

-- the place of a name is the same where only the limits are left
pub place-limited : (name : List ℕ) (groups : List Group) → position_or_len (λ g. bytes_eq g.name name) (map limited groups) ≡ position_or_len (λ g. bytes_eq g.name name) groups
place-limited name [] = refl
place-limited name (g ∷ groups) = ap (λ n. cond (not (bytes_eq g.name name)) (1 + n) 0) (place-limited name groups)

pub placed-limited : (name : List ℕ) (groups : List Group) → unwrap_or (position (λ g. bytes_eq g.name name) groups) 0 ≡ group_place (map limited groups) name
placed-limited name groups =
    let l = length-map groups limited in
    let p = place-limited name groups in
    (λ i. unwrap_or (cond (nat_lt (sym p i) (sym l i)) (Some (sym p i)) None) 0)
