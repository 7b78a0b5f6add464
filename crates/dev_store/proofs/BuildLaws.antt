-- A table is built partition by partition.
use Rattle.std.proofs.Common.{◌≡◌, ℕ, zero, suc, ◌+◌, ◌-◌, ◌<◌, ◌≤◌, Bool, true, false, List, [], ◌∷◌, ◌++◌, length, get_or, take, drop, map, cond, not, Some, None, Ok, refl, sym, ap, ◌∙◌, arith, add-one, append-nil, append_assoc}
use Rattle.std.specs.Prelude.{◌&&◌, ◌||◌, ◌==◌, ◌%◌, ◌^◌, bytes_eq, nat_lt, nat_le, unwrap_or, IsTrue}
use Rattle.std.specs.List.{list_all, list_any, flat_map, position_or_len}
use Rattle.std.proofs.lemmas.List.Sums.{sum_by-cons, sum_by-append}
use Rattle.std.proofs.lemmas.Bool.{false≢true}
use Rattle.std.proofs.lemmas.Bool.Decides.{nat_tests}
use Rattle.std.proofs.lemmas.List.{length-map}
use Rattle.std.proofs.lemmas.Slice.Eq.{bytes_eq-Decides}
use Rattle.fb_frame.specs.declared.tables.TableGroup.{TableGroup}
use Rattle.fb_frame.specs.Distinct.{are_distinct}
use Rattle.dev_model.specs.declared.device.Dev.{Dev}
use Rattle.dev_model.specs.declared.device.Logical.{Logical}
use Rattle.fb_frame.specs.NameText.{is_name}
use Rattle.fb_frame.specs.Versions.{are_attributes}
use Rattle.dev_model.specs.Tables.{is_group}
use Rattle.dev_model.specs.Validity.{IsValid, is_entry, is_whole}
use Rattle.dev_model.proofs.Valid.{both, and-true}
use Rattle.unit_alloc.specs.Owning.{Owning, units_of}
use Rattle.super_meta.specs.declared.table.Partition.{Partition}
use Rattle.super_meta.specs.declared.table.Group.{Group}
use Rattle.super_meta.specs.Contents.{Content}
use Rattle.super_meta.specs.Held.{group_name, limited}
use Rattle.super_meta.specs.TableText.{table_of}
use Rattle.super_meta.proofs.HeldLemmas.{table-read, all-there}
use Rattle.dev_store.specs.declared.layout.SuperPart.{SuperPart}
use Rattle.dev_store.specs.declared.table_build.Planned.{Planned}
use Rattle.dev_store.specs.Runs.{runs_of, extents_for, group_place, entries_for, beside, as_group, table_for}
use Rattle.dev_store.specs.Building.{bare_table, with_groups, planned_entry, with_planned, built, units_planned, planned_for, planned_as, planned_all, planned_range}
use Rattle.dev_store.specs.Building.{is_short}
use Rattle.dev_store.specs.TableChanges.{AreEntriesOf}
use Rattle.dev_store.proofs.BuildUnits.{added-count}

below : (a b : ℕ) → nat_lt a b ≡ true → a < b
below a b h = grind (arith, nat_tests)

planned-drop : (c : Content) (d : Partition) (ps : List Partition) (parts : List ℕ) (i : ℕ) → i < length ps → i < length parts →
    drop i (planned_all c ps parts) ≡ planned_as c (get_or ps i d) (get_or parts i 0) ∷ drop (suc i) (planned_all c ps parts)
planned-drop c d [] parts i h k = absurd (omega arith)
planned-drop c d (p ∷ ps) [] i h k = absurd (omega arith)
planned-drop c d (p ∷ ps) (part ∷ parts) zero h k = refl
planned-drop c d (p ∷ ps) (part ∷ parts) (suc i) h k = planned-drop c d ps parts i (omega arith) (omega arith)

-- the next partition of a range, and those that follow
pub range-here : (c : Content) (parts : List ℕ) (place to : ℕ) (p : Partition) (q : Planned) → place < to → to ≤ length parts → length parts ≡ length c.partitions →
    p ≡ get_or c.partitions place p → q ≡ planned_as c p (get_or parts place 0) → planned_range c parts place to ≡ q ∷ planned_range c parts (place + 1) to
range-here c parts place to p q h k m e f =
    let n : to - place ≡ suc (to - (place + 1)) = omega arith in
    let at = planned-drop c p c.partitions parts place (omega arith) (omega arith) in
    (λ i. take (n i) (at i))
    ∙ (ap (λ x. planned_as c x (get_or parts place 0) ∷ take (to - (place + 1)) (drop (suc place) (planned_all c c.partitions parts))) (sym e)
    ∙ (λ i. sym f i ∷ take (to - (place + 1)) (drop (sym (add-one place) i) (planned_all c c.partitions parts))))

pub units-here : (owning : Owning) (p : Planned) (rest all : List Planned) → all ≡ p ∷ rest → units_planned owning all ≡ length (units_of owning p.part) + units_planned owning rest
units-here owning p rest all e = ap (units_planned owning) e ∙ sum_by-cons (λ (q : Planned). length (units_of owning q.part)) p rest

pub built-here : (s : SuperPart) (owning : Owning) (c next : Content) (p : Planned) (rest all : List Planned) (end : Content) → all ≡ p ∷ rest → next ≡ with_planned s owning c p →
    built s owning c all ≡ end → built s owning next rest ≡ end
built-here s owning c next p rest all end e n h = ap (λ t. built s owning t rest) n ∙ (ap (built s owning c) (sym e) ∙ h)

-- ---- the table of a device

abbrev pairs_of : Owning → List Logical → List ℕ → List (Logical × List ℕ)
pairs_of owning logical parts = beside logical (map (units_of owning) parts)

-- what building adds to a table
abbrev grown_by : SuperPart → List TableGroup → Content → List (Logical × List ℕ) → Content
grown_by s groups c pairs = record c {
  partitions = c.partitions ++ entries_for groups (length c.extents) pairs;
  extents = c.extents ++ flat_map (λ (p, units). extents_for s (length p.bytes) (runs_of units)) pairs;
}

grown : (s : SuperPart) (owning : Owning) (groups : List TableGroup) (c : Content) (logical : List Logical) (parts : List ℕ) → length parts ≡ length logical →
    built s owning c (planned_for groups logical parts) ≡ grown_by s groups c (pairs_of owning logical parts)
grown s owning groups c [] [] h = λ i. record c { partitions = sym (append-nil c.partitions) i; extents = sym (append-nil c.extents) i }
grown s owning groups c [] (part ∷ parts) h = absurd (omega arith)
grown s owning groups c (p ∷ logical) [] h = absurd (omega arith)
grown s owning groups c (p ∷ logical) (part ∷ parts) h =
    let q : Planned = record { name = p.name; attributes = p.attributes; group = group_place groups p.group; bytes = length p.bytes; part = part } in
    let units = units_of owning part in
    let own = extents_for s (length p.bytes) (runs_of units) in
    let pairs = pairs_of owning logical parts in
    let long : length (c.extents ++ own) ≡ length c.extents + length (runs_of units) = added-count s (length p.bytes) units c.extents (c.extents ++ own) refl in
    let entries = append_assoc c.partitions (planned_entry owning (length c.extents) q ∷ []) (entries_for groups (length (c.extents ++ own)) pairs)
    ∙ ap (λ n. c.partitions ++ planned_entry owning (length c.extents) q ∷ entries_for groups n pairs) long in
    let extents = append_assoc c.extents own (flat_map (λ (p, units). extents_for s (length p.bytes) (runs_of units)) pairs) in
    grown s owning groups (with_planned s owning c q) logical parts (omega arith)
    ∙ (λ i. record c { partitions = entries i; extents = extents i })

-- The table that is built of all that is planned for a device is the one that is written for it.
pub table-built : (s : SuperPart) (owning : Owning) (dev : Dev) (parts : List ℕ) → length parts ≡ length dev.logical →
    built s owning (with_groups (bare_table s dev.table_minor dev.table_flags) (map as_group dev.groups)) (planned_for dev.groups dev.logical parts) ≡ table_for s dev (map (units_of owning) parts)
unfolding table_for
table-built s owning dev parts h =
    grown s owning dev.groups (with_groups (bare_table s dev.table_minor dev.table_flags) (map as_group dev.groups)) dev.logical parts h

-- ---- what is planned in several steps

pub built-append : (s : SuperPart) (owning : Owning) (c : Content) (xs ys : List Planned) → built s owning c (xs ++ ys) ≡ built s owning (built s owning c xs) ys
built-append s owning c [] ys = refl
built-append s owning c (x ∷ xs) ys = built-append s owning (with_planned s owning c x) xs ys

pub units-append : (owning : Owning) (xs ys : List Planned) → units_planned owning (xs ++ ys) ≡ units_planned owning xs + units_planned owning ys
units-append owning xs ys = sum_by-append (λ (p : Planned). length (units_of owning p.part)) xs ys

pub for-append : (groups : List TableGroup) (ps qs : List Logical) (xs ys : List ℕ) → length xs ≡ length ps → planned_for groups (ps ++ qs) (xs ++ ys) ≡ planned_for groups ps xs ++ planned_for groups qs ys
for-append groups [] qs [] ys h = refl
for-append groups [] qs (x ∷ xs) ys h = absurd (omega arith)
for-append groups (p ∷ ps) qs [] ys h = absurd (omega arith)
for-append groups (p ∷ ps) qs (x ∷ xs) ys h = ap (λ l. record { name = p.name; attributes = p.attributes; group = group_place groups p.group; bytes = length p.bytes; part = x } ∷ l) (for-append groups ps qs xs ys (omega arith))

pub for-take : (groups : List TableGroup) (ps : List Logical) (xs : List ℕ) (n : ℕ) → take n (planned_for groups ps xs) ≡ planned_for groups (take n ps) (take n xs)
for-take groups ps xs zero = refl
for-take groups [] xs (suc n) = refl
for-take groups (p ∷ ps) [] (suc n) = refl
for-take groups (p ∷ ps) (x ∷ xs) (suc n) = ap (λ l. record { name = p.name; attributes = p.attributes; group = group_place groups p.group; bytes = length p.bytes; part = x } ∷ l) (for-take groups ps xs n)

pub for-drop : (groups : List TableGroup) (ps : List Logical) (xs : List ℕ) (n : ℕ) → drop n (planned_for groups ps xs) ≡ planned_for groups (drop n ps) (drop n xs)
for-drop groups ps xs zero = refl
for-drop groups [] xs (suc n) = nothing (drop (suc n) xs)
  where
    nothing : (l : List ℕ) → [] ≡ planned_for groups [] l
    nothing l = refl
for-drop groups (p ∷ ps) [] (suc n) = nothing (drop n ps)
  where
    nothing : (l : List Logical) → [] ≡ planned_for groups l []
    nothing [] = refl
    nothing (q ∷ l) = refl
for-drop groups (p ∷ ps) (x ∷ xs) (suc n) = for-drop groups ps xs n

-- ---- the table that there is

turned : (a b : List ℕ) → bytes_eq a b ≡ false → bytes_eq b a ≡ false
turned a b h = by (bytes_eq b a) refl
  where
    by : (t : Bool) → bytes_eq b a ≡ t → bytes_eq b a ≡ false
    by true e = absurd (false≢true (sym h ∙ (bytes_eq-Decides a b).1 (sym ((bytes_eq-Decides b a).0 e))))
    by false e = e

neither : (a b : Bool) → not (a || b) ≡ true → (a ≡ false) × (not b ≡ true)
neither true b h = absurd cc
neither false b h = (refl, h)

other-name : (name : List ℕ) (gs : List Group) (i : ℕ) → not (list_any (λ y. bytes_eq y name) (map (λ g. g.name) gs)) ≡ true → i < length gs → bytes_eq name (group_name gs i) ≡ false
other-name name [] i n l = absurd (omega arith)
other-name name (x ∷ gs) zero n l = turned x.name name (neither (bytes_eq x.name name) (list_any (λ y. bytes_eq y name) (map (λ g. g.name) gs)) n).0
other-name name (x ∷ gs) (suc i) n l = other-name name gs i (neither (bytes_eq x.name name) (list_any (λ y. bytes_eq y name) (map (λ g. g.name) gs)) n).1 (omega arith)

-- the group of a partition is at the first place of its name
placed-at : (groups : List Group) (place : ℕ) → are_distinct (map (λ g. g.name) groups) ≡ true → place < length groups →
    position_or_len (λ g. bytes_eq g.name (group_name groups place)) (map limited groups) ≡ place
placed-at [] place d h = absurd (omega arith)
placed-at (g ∷ groups) zero d h =
    let e : bytes_eq g.name g.name ≡ true = (bytes_eq-Decides g.name g.name).1 refl in
    ap (λ b. cond (not b) (1 + position_or_len (λ x. bytes_eq x.name g.name) (map limited groups)) 0) e
placed-at (g ∷ groups) (suc place) d h =
    let k = both (not (list_any (λ y. bytes_eq y g.name) (map (λ g. g.name) groups))) (are_distinct (map (λ g. g.name) groups)) d in
    let more = placed-at groups place k.1 (omega arith) in
    let e : bytes_eq g.name (group_name groups place) ≡ false = other-name g.name groups place k.0 (omega arith) in
    ap (λ b. cond (not b) (1 + position_or_len (λ x. bytes_eq x.name (group_name groups place)) (map limited groups)) 0) e
    ∙ (ap (λ n. 1 + n) more ∙ omega arith)

pub group-placed : (groups : List Group) (place : ℕ) → are_distinct (map (λ g. g.name) groups) ≡ true → place < length groups → group_place (map limited groups) (group_name groups place) ≡ place
group-placed groups place d h =
    let at = placed-at groups place d h in
    let l = length-map groups limited in
    let t : nat_lt (position_or_len (λ g. bytes_eq g.name (group_name groups place)) (map limited groups)) (length (map limited groups)) ≡ true = grind (arith, nat_tests) in
    ap (λ b. unwrap_or (cond b (Some (position_or_len (λ g. bytes_eq g.name (group_name groups place)) (map limited groups))) None) 0) t ∙ at

own-from : (s : SuperPart) (c : Content) → are_distinct (map (λ g. g.name) c.groups) ≡ true → (ps : List Partition) (logical : List Logical) (lists : List (List ℕ)) (parts : List ℕ) →
    list_all (λ p. nat_lt p.group (length c.groups)) ps ≡ true → AreEntriesOf s c ps logical lists → planned_all c ps parts ≡ planned_for (map limited c.groups) logical parts
own-from s c d [] [] [] parts g h = refl
own-from s c d [] [] (units ∷ lists) parts g h = absurd h
own-from s c d [] (q ∷ logical) lists parts g h = absurd h
own-from s c d (p ∷ ps) [] lists parts g h = absurd h
own-from s c d (p ∷ ps) (q ∷ logical) [] parts g h = absurd h
own-from s c d (p ∷ ps) (q ∷ logical) (units ∷ lists) [] g h = refl
own-from s c d (p ∷ ps) (q ∷ logical) (units ∷ lists) (part ∷ parts) g h =
    let k = both (nat_lt p.group (length c.groups)) (list_all (λ p. nat_lt p.group (length c.groups)) ps) g in
    let inside : p.group < length c.groups = below p.group (length c.groups) k.0 in
    let e = h.0 in
    let group = sym (group-placed c.groups p.group d inside) ∙ ap (group_place (map limited c.groups)) e.group in
    let more = own-from s c d ps logical lists parts k.1 h.1 in
    λ i. record { name = e.name i; attributes = e.attributes i; group = group i; bytes = e.long i; part = part } ∷ more i

names-kept : (groups : List Group) → map (λ g. g.name) (map limited groups) ≡ map (λ g. g.name) groups
names-kept [] = refl
names-kept (g ∷ groups) = ap (λ l. g.name ∷ l) (names-kept groups)

groups-distinct : (dev : Dev) → IsValid dev → are_distinct (map (λ g. g.name) dev.groups) ≡ true
groups-distinct dev v =
    (both (nat_le (length dev.groups) 64) (are_distinct (map (λ g. g.name) dev.groups))
    (both (nat_le (length dev.groups) 64 && are_distinct (map (λ g. g.name) dev.groups)) (list_all (λ g. is_name g.name) dev.groups) v.groups).0).1

-- The partitions of a device's table as they are, are what is planned for the device.
pub own-planned : (s : SuperPart) (c : Content) (dev : Dev) (lists : List (List ℕ)) (bytes parts : List ℕ) → IsValid dev → table_of bytes ≡ Ok c → map limited c.groups ≡ dev.groups →
    AreEntriesOf s c c.partitions dev.logical lists → planned_all c c.partitions parts ≡ planned_for dev.groups dev.logical parts
own-planned s c dev lists bytes parts v read e h =
    own-from s c (ap are_distinct (sym (names-kept c.groups) ∙ ap (map (λ g. g.name)) e) ∙ groups-distinct dev v) c.partitions dev.logical lists parts (all-there c (table-read bytes c read).indexed) h
    ∙ ap (λ gs. planned_for gs dev.logical parts) e

short-from : (s : SuperPart) (c : Content) (minor : ℕ) (groups : List TableGroup) (ps : List Partition) (logical : List Logical) (lists : List (List ℕ)) → list_all (is_entry minor groups) logical ≡ true →
    AreEntriesOf s c ps logical lists → list_all (is_short c) ps ≡ true
short-from s c minor groups [] [] [] v h = refl
short-from s c minor groups [] [] (units ∷ lists) v h = absurd h
short-from s c minor groups [] (q ∷ logical) lists v h = absurd h
short-from s c minor groups (p ∷ ps) [] lists v h = absurd h
short-from s c minor groups (p ∷ ps) (q ∷ logical) [] v h = absurd h
short-from s c minor groups (p ∷ ps) (q ∷ logical) (units ∷ lists) v h =
    let k = both (is_entry minor groups q) (list_all (is_entry minor groups) logical) v in
    let a = both (is_group groups q.group && is_whole (length q.bytes)) (are_attributes minor q.attributes) k.0 in
    let b = both (is_group groups q.group) (is_whole (length q.bytes)) a.0 in
    let w = (both (length q.bytes % 4096 == 0) (nat_le (length q.bytes) (2 ^ 44)) b.1).1 in
    let e = h.0.long in
    let one : is_short c p ≡ true = grind (arith, nat_tests) in
    and-true (is_short c p) _ one (short-from s c minor groups ps logical lists k.1 h.1)

-- their bytes can be counted
pub own-short : (s : SuperPart) (c : Content) (dev : Dev) (lists : List (List ℕ)) → IsValid dev → AreEntriesOf s c c.partitions dev.logical lists → IsTrue (list_all (is_short c) c.partitions)
own-short s c dev lists v h = short-from s c dev.table_minor dev.groups c.partitions dev.logical lists (both (nat_le (length dev.logical) 128) (list_all (is_entry dev.table_minor dev.groups) dev.logical) v.logical).1 h
