-- The table that is written for a device is good and sound, and a copy has room for it.
use Rattle.std.proofs.Common.{◌≡◌, ℕ, ◌+◌, ◌*◌, ◌≤◌, Bool, true, false, not, List, [], ◌∷◌, ◌++◌, length, map, refl, sym, ap, subst, ◌∙◌, ◌⊎◌, inl, inr, arith, length-append, cond, Some, None}
use Rattle.std.specs.Prelude.{◌&&◌, ◌||◌, ◌==◌, ◌^◌, nat_lt, nat_le, bytes_eq, if◌then◌else◌, option_to_list, unwrap_or, IsTrue}
use Rattle.std.specs.List.{list_all, list_any, flat_map, position_or_len}
use Rattle.std.proofs.lemmas.Bool.Decides.{nat_tests}
use Rattle.std.proofs.lemmas.List.{length-map}
use Rattle.std.proofs.lemmas.Slice.Eq.{bytes_eq-Decides}
use Rattle.fb_frame.specs.Distinct.{are_distinct}
use Rattle.fb_frame.specs.NameText.{is_name}
use Rattle.fb_frame.specs.Versions.{are_attributes, is_version}
use Rattle.fb_frame.specs.declared.tables.TableGroup.{TableGroup}
use Rattle.dev_model.specs.declared.device.Logical.{Logical}
use Rattle.dev_model.specs.declared.device.Dev.{Dev}
use Rattle.dev_model.specs.Sizes.{sizes_of, groups_fit}
use Rattle.dev_model.specs.Tables.{is_group}
use Rattle.dev_model.specs.Validity.{IsValid, is_entry, is_whole, all_names}
use Rattle.dev_model.proofs.Names.{Mem, Apart, mem-append, mem-right, distinct-left, distinct-right, distinct-apart}
use Rattle.dev_model.proofs.Valid.{both, and-true}
use Rattle.super_meta.specs.declared.table.Partition.{Partition}
use Rattle.super_meta.specs.Contents.{Content, is_sound, are_named_apart, are_indexed, are_known, are_laid, take_in_turn, tables_size}
use Rattle.super_meta.specs.Held.{limited}
use Rattle.super_meta.specs.HeaderText.{header_size}
use Rattle.super_meta.specs.TableText.{table_size}
use Rattle.dev_store.specs.declared.layout.PhysicalPart.{PhysicalPart}
use Rattle.dev_store.specs.declared.layout.SuperPart.{SuperPart}
use Rattle.dev_store.specs.LayoutLines.{unit_count}
use Rattle.dev_store.specs.Supers.{units_of, is_barred, size_in, are_different, are_good_units}
use Rattle.dev_store.specs.SuperBounds.{IsBounded}
use Rattle.dev_store.specs.Runs.{runs_of, entries_for, group_place, beside, as_group, table_for}
use Rattle.dev_store.specs.TableChanges.{IsEntryOf, AreEntriesOf}
use Rattle.dev_store.specs.Building.{AreGiven, IsOnSuper}
use Rattle.dev_store.proofs.MadeSuper.{own-is}
use Rattle.dev_store.proofs.ChangeTable.{sectored, entries-read, extents-many, place-found}
use Rattle.dev_store.proofs.ChangeAfter.{entries-units}
use Rattle.dev_store.proofs.BuildUnits.{extents_with}
use Rattle.dev_store.proofs.BuildGood.{placed-written, extents-good, laid-written, extents-few}

-- ---- what entries have of their partitions

-- what is the same of each entry and its partition is the same of all
entries-same : {Y : Type 0} (s : SuperPart) (c : Content) (f : Partition → Y) (g : Logical → Y) → ((e : Partition) (p : Logical) (units : List ℕ) → IsEntryOf s c e p units → f e ≡ g p) →
    (es : List Partition) (logical : List Logical) (lists : List (List ℕ)) → AreEntriesOf s c es logical lists → map f es ≡ map g logical
entries-same s c f g same [] [] [] h = refl
entries-same s c f g same [] [] (units ∷ lists) h = absurd h
entries-same s c f g same [] (p ∷ logical) lists h = absurd h
entries-same s c f g same (e ∷ es) [] lists h = absurd h
entries-same s c f g same (e ∷ es) (p ∷ logical) [] h = absurd h
entries-same s c f g same (e ∷ es) (p ∷ logical) (units ∷ lists) h =
    let one = same e p units h.0 in
    let more = entries-same s c f g same es logical lists h.1 in
    λ i. one i ∷ more i

-- the lengths of partitions, with their groups, are those that the table has
pub entries-sizes : (s : SuperPart) (c : Content) (es : List Partition) (logical : List Logical) (lists : List (List ℕ)) → AreEntriesOf s c es logical lists → map (size_in c) es ≡ sizes_of logical
entries-sizes s c es logical lists h =
    entries-same s c (size_in c) (λ p. record { name = p.name; group = p.group; bytes = length p.bytes }) (λ e p units h. λ i. record { name = h.name i; group = h.group i; bytes = h.long i }) es logical lists h

known-from : (s : SuperPart) (c : Content) (minor : ℕ) (groups : List TableGroup) (es : List Partition) (logical : List Logical) (lists : List (List ℕ)) → AreEntriesOf s c es logical lists →
    list_all (is_entry minor groups) logical ≡ true → list_all (λ p. are_attributes minor p.attributes) es ≡ true
known-from s c minor groups [] [] [] h v = refl
known-from s c minor groups [] [] (units ∷ lists) h v = absurd h
known-from s c minor groups [] (p ∷ logical) lists h v = absurd h
known-from s c minor groups (e ∷ es) [] lists h v = absurd h
known-from s c minor groups (e ∷ es) (p ∷ logical) [] h v = absurd h
known-from s c minor groups (e ∷ es) (p ∷ logical) (units ∷ lists) h v =
    let k = both (is_entry minor groups p) (list_all (is_entry minor groups) logical) v in
    let a = both (is_group groups p.group && is_whole (length p.bytes)) (are_attributes minor p.attributes) k.0 in
    and-true (are_attributes minor e.attributes) _ (ap (are_attributes minor) h.0.attributes ∙ a.1) (known-from s c minor groups es logical lists h.1 k.1)

groups-known : (minor : ℕ) (groups : List TableGroup) (logical : List Logical) → list_all (is_entry minor groups) logical ≡ true → list_all (λ p. is_group groups p.group) logical ≡ true
groups-known minor groups [] v = refl
groups-known minor groups (p ∷ logical) v =
    let k = both (is_entry minor groups p) (list_all (is_entry minor groups) logical) v in
    let a = both (is_group groups p.group && is_whole (length p.bytes)) (are_attributes minor p.attributes) k.0 in
    and-true (is_group groups p.group) _ (both (is_group groups p.group) (is_whole (length p.bytes)) a.0).0 (groups-known minor groups logical k.1)

logical-valid : (dev : Dev) → IsValid dev → (nat_le (length dev.logical) 128 ≡ true) × (list_all (is_entry dev.table_minor dev.groups) dev.logical ≡ true)
logical-valid dev v = both (nat_le (length dev.logical) 128) (list_all (is_entry dev.table_minor dev.groups) dev.logical) v.logical

entries : (s : SuperPart) (dev : Dev) (lists : List (List ℕ)) → IsBounded s → IsValid dev → AreGiven s dev.logical lists → AreEntriesOf s (table_for s dev lists) (table_for s dev lists).partitions dev.logical lists
entries s dev lists b v g = entries-read s dev lists (sectored s b) g.fitted (groups-known dev.table_minor dev.groups dev.logical (logical-valid dev v).1)

-- ---- names

flat-mapped : {X : Type 0} (f : X → List ℕ) (xs : List X) → flat_map f xs ≡ flat_map (λ units. units) (map f xs)
flat-mapped f [] = refl
flat-mapped f (x ∷ xs) = ap (λ l. f x ++ l) (flat-mapped f xs)

part-named : (x : List ℕ) (parts : List PhysicalPart) (rest : List (List ℕ)) → list_any (λ q. bytes_eq q.name x) parts ≡ true → Mem x (map (λ q. q.name) parts ++ rest)
part-named x [] rest h = absurd cc
part-named x (q ∷ parts) rest h = by (bytes_eq q.name x) refl h (λ k. part-named x parts rest k)
  where
    by : (b : Bool) → bytes_eq q.name x ≡ b → (b || list_any (λ q. bytes_eq q.name x) parts) ≡ true → (list_any (λ q. bytes_eq q.name x) parts ≡ true → Mem x (map (λ q. q.name) parts ++ rest)) →
        Mem x (q.name ∷ (map (λ q. q.name) parts ++ rest))
    by true e k more = inl ((bytes_eq-Decides q.name x).0 e)
    by false e k more = inr (more k)

-- a name that none of these has is free
name-free : (parts : List PhysicalPart) (s : SuperPart) (p : Partition) → (Mem p.name (map (λ q. q.name) parts ++ s.name ∷ []) → ⊥) → is_barred parts s p ≡ false
name-free parts s p apart = by (list_any (λ q. bytes_eq q.name p.name) parts) (bytes_eq s.name p.name) refl refl
  where
    by : (a b : Bool) → list_any (λ q. bytes_eq q.name p.name) parts ≡ a → bytes_eq s.name p.name ≡ b → (list_any (λ q. bytes_eq q.name p.name) parts || bytes_eq s.name p.name) ≡ false
    by true b e f = absurd (apart (part-named p.name parts (s.name ∷ []) e))
    by false true e f = absurd (apart (mem-right p.name (map (λ q. q.name) parts) (s.name ∷ []) (inl ((bytes_eq-Decides s.name p.name).0 f))))
    by false false e f = λ i. e i || f i

names-free : (parts : List PhysicalPart) (s : SuperPart) (ps : List Partition) → Apart (map (λ q. q.name) parts ++ s.name ∷ []) (map (λ p. p.name) ps) → list_any (is_barred parts s) ps ≡ false
names-free parts s [] apart = refl
names-free parts s (p ∷ ps) apart =
    let one = name-free parts s p (λ m. apart p.name m (inl refl)) in
    let more = names-free parts s ps (λ x m n. apart x m (inr n)) in
    λ i. one i || more i

-- logical names stand apart from the physical ones and from super's
names-apart : (xs ys : List (List ℕ)) (n : List ℕ) → are_distinct ((xs ++ ys) ++ n ∷ []) ≡ true → Apart (xs ++ n ∷ []) ys
names-apart xs ys n d x m k = by (mem-append x xs (n ∷ []) m)
  where
    by : Mem x xs ⊎ Mem x (n ∷ []) → ⊥
    by (inl l) = distinct-apart xs ys (distinct-left (xs ++ ys) (n ∷ []) d) x l k
    by (inr r) = distinct-apart (xs ++ ys) (n ∷ []) d x (mem-right x xs ys k) r

-- the names of a device on a super
record HasNames (parts : List PhysicalPart) (s : SuperPart) (dev : Dev) : Type 0 where
  pub distinct : are_distinct (map (λ p. p.name) dev.logical) ≡ true
  pub apart : Apart (map (λ q. q.name) parts ++ s.name ∷ []) (map (λ p. p.name) dev.logical)

names-of : (parts : List PhysicalPart) (s : SuperPart) (dev : Dev) → IsOnSuper parts s dev → HasNames parts s dev
names-of parts s dev o =
    let v = o.valid in
    let d = (both (list_all is_name (all_names dev)) (are_distinct (all_names dev)) v.names).1 in
    let e : are_distinct ((map (λ q. q.name) parts ++ map (λ p. p.name) dev.logical) ++ s.name ∷ []) ≡ true =
    (λ i. are_distinct ((sym o.physical i ++ map (λ p. p.name) dev.logical) ++ option_to_list (sym o.named i))) ∙ d in
    record {
      distinct = distinct-right (map (λ q. q.name) parts) (map (λ p. p.name) dev.logical) (distinct-left (map (λ q. q.name) parts ++ map (λ p. p.name) dev.logical) (s.name ∷ []) e);
      apart = names-apart (map (λ q. q.name) parts) (map (λ p. p.name) dev.logical) s.name e;
    }

-- ---- the table is good

groups-again : (groups : List TableGroup) → map limited (map as_group groups) ≡ groups
groups-again [] = refl
groups-again (g ∷ groups) = ap (λ l. g ∷ l) (groups-again groups)

pub good-written : (parts : List PhysicalPart) (s : SuperPart) (dev : Dev) (lists : List (List ℕ)) → IsBounded s → IsOnSuper parts s dev → AreGiven s dev.logical lists → IsTrue (are_good_units parts s (table_for s dev lists))
unfolding are_good_units table_for
good-written parts s dev lists b o g =
    let c = table_for s dev lists in
    let v = o.valid in
    let own = entries s dev lists b v g in
    let names : map (λ p. p.name) c.partitions ≡ map (λ p. p.name) dev.logical = entries-same s c (λ p. p.name) (λ p. p.name) (λ e p units h. h.name) c.partitions dev.logical lists own in
    let sizes : map (size_in c) c.partitions ≡ sizes_of dev.logical = entries-sizes s c c.partitions dev.logical lists own in
    let units = flat-mapped (units_of s c) c.partitions ∙ ap (flat_map (λ units. units)) (entries-units s c c.partitions dev.logical lists own) in
    let many : length c.partitions ≡ length dev.logical = sym (length-map c.partitions (λ p. p.name)) ∙ (ap length names ∙ length-map dev.logical (λ p. p.name)) in
    let groups : length c.groups ≡ length dev.groups = length-map dev.groups as_group in
    let few = both (nat_le (length dev.groups) 64) _ (both (nat_le (length dev.groups) 64 && are_distinct (map (λ g. g.name) dev.groups)) (list_all (λ g. is_name g.name) dev.groups) v.groups).0 in
    let free = names-free parts s c.partitions (subst (Apart (map (λ q. q.name) parts ++ s.name ∷ [])) (sym names) (names-of parts s dev o).apart) in
    and-true _ (groups_fit (map limited c.groups) (map (size_in c) c.partitions))
    (and-true _ (not (list_any (is_barred parts s) c.partitions))
    (and-true _ (nat_le (length c.groups) 64)
    (and-true _ (nat_le (length c.partitions) 128)
    (and-true _ (are_different (flat_map (units_of s c) c.partitions))
    (and-true _ _ (and-true _ _ (own-is s) (extents-good s dev lists b g)) (placed-written s dev lists b g))
    (ap are_different units ∙ g.different))
    (ap (λ n. nat_le n 128) many ∙ (logical-valid dev v).0))
    (ap (λ n. nat_le n 64) groups ∙ few.0))
    (ap not free))
    ((λ i. groups_fit (groups-again dev.groups i) (sizes i)) ∙ v.groups_fit)

-- ---- the table is sound

-- the entries take the extents in turn
in-turn : (s : SuperPart) (groups : List TableGroup) (all : List (Logical × List ℕ)) (at extents : ℕ) → extents ≡ at + length (flat_map (extents_with s) all) → take_in_turn extents at (entries_for groups at all) ≡ true
in-turn s groups [] at extents h = grind (arith, nat_tests)
in-turn s groups (x ∷ all) at extents h =
    let a = length-append (extents_with s x) (flat_map (extents_with s) all) in
    let m = extents-many s (length x.0.bytes) (runs_of x.1) in
    let here : (at == at) ≡ true = let e : at ≡ at = refl in grind (arith, nat_tests) in
    and-true (at == at) _ here (in-turn s groups all (at + length (runs_of x.1)) extents (omega arith))

-- the group at the place of a name is there
place-inside : (groups : List TableGroup) (name : List ℕ) → is_group groups name ≡ true → nat_lt (group_place groups name) (length (map as_group groups)) ≡ true
place-inside groups name h =
    let q = position_or_len (λ (g : TableGroup). bytes_eq g.name name) groups in
    let i = (place-found groups name h).inside in
    let l = length-map groups as_group in
    let t : nat_lt q (length groups) ≡ true = grind (arith, nat_tests) in
    let e : group_place groups name ≡ q = ap (λ b. unwrap_or (cond b (Some q) None) 0) t in
    ap (λ n. nat_lt n (length (map as_group groups))) e ∙ grind (arith, nat_tests)

grouped : (groups : List TableGroup) (at : ℕ) (logical : List Logical) (lists : List (List ℕ)) → list_all (λ p. is_group groups p.group) logical ≡ true →
    list_all (λ (e : Partition). nat_lt e.group (length (map as_group groups))) (entries_for groups at (beside logical lists)) ≡ true
grouped groups at [] lists h = refl
grouped groups at (p ∷ logical) [] h =
    let k = both (is_group groups p.group) (list_all (λ p. is_group groups p.group) logical) h in
    and-true (nat_lt (group_place groups p.group) (length (map as_group groups))) _ (place-inside groups p.group k.0) (grouped groups (at + length (runs_of [])) logical [] k.1)
grouped groups at (p ∷ logical) (units ∷ lists) h =
    let k = both (is_group groups p.group) (list_all (λ p. is_group groups p.group) logical) h in
    and-true (nat_lt (group_place groups p.group) (length (map as_group groups))) _ (place-inside groups p.group k.0) (grouped groups (at + length (runs_of units)) logical lists k.1)

indexed-written : (s : SuperPart) (dev : Dev) (lists : List (List ℕ)) → IsValid dev → are_indexed (table_for s dev lists) ≡ true
unfolding table_for are_indexed
indexed-written s dev lists v =
    and-true _ _ (in-turn s dev.groups (beside dev.logical lists) 0 _ (omega arith))
    (grouped dev.groups 0 dev.logical lists (groups-known dev.table_minor dev.groups dev.logical (logical-valid dev v).1))

as-named : (groups : List TableGroup) → map (λ g. g.name) (map as_group groups) ≡ map (λ g. g.name) groups
as-named [] = refl
as-named (g ∷ groups) = ap (λ l. g.name ∷ l) (as-named groups)

named-written : (parts : List PhysicalPart) (s : SuperPart) (dev : Dev) (lists : List (List ℕ)) → IsBounded s → IsOnSuper parts s dev → AreGiven s dev.logical lists → are_named_apart (table_for s dev lists) ≡ true
unfolding table_for are_named_apart
named-written parts s dev lists b o g =
    let c = table_for s dev lists in
    let v = o.valid in
    let names : map (λ p. p.name) c.partitions ≡ map (λ p. p.name) dev.logical = entries-same s c (λ p. p.name) (λ p. p.name) (λ e p units h. h.name) c.partitions dev.logical lists (entries s dev lists b v g) in
    let groups = both (nat_le (length dev.groups) 64) (are_distinct (map (λ g. g.name) dev.groups))
    (both (nat_le (length dev.groups) 64 && are_distinct (map (λ g. g.name) dev.groups)) (list_all (λ g. is_name g.name) dev.groups) v.groups).0 in
    and-true _ _ (ap are_distinct names ∙ (names-of parts s dev o).distinct) (ap are_distinct (as-named dev.groups) ∙ groups.1)

known-written : (s : SuperPart) (dev : Dev) (lists : List (List ℕ)) → IsBounded s → IsValid dev → AreGiven s dev.logical lists → are_known (table_for s dev lists) ≡ true
unfolding table_for are_known
known-written s dev lists b v g =
    known-from s (table_for s dev lists) dev.table_minor dev.groups (table_for s dev lists).partitions dev.logical lists (entries s dev lists b v g) (logical-valid dev v).1

le-of : (n k : ℕ) → nat_le n k ≡ true → n ≤ k
le-of n k h = grind (arith, nat_tests)

groups-many : (s : SuperPart) (dev : Dev) (lists : List (List ℕ)) → length (table_for s dev lists).groups ≡ length dev.groups
unfolding table_for
groups-many s dev lists = length-map dev.groups as_group

version-written : (s : SuperPart) (dev : Dev) (lists : List (List ℕ)) → IsValid dev → is_version (table_for s dev lists).minor (table_for s dev lists).flags ≡ true
unfolding table_for
version-written s dev lists v = v.version

-- what the table takes of a copy's room
size-written : (s : SuperPart) (dev : Dev) (lists : List (List ℕ)) → IsBounded s → IsValid dev → AreGiven s dev.logical lists → tables_size (table_for s dev lists) ≤ 9792 + 24 * unit_count s
size-written s dev lists b v g =
    let c = table_for s dev lists in
    let own = entries s dev lists b v g in
    let names : map (λ p. p.name) c.partitions ≡ map (λ p. p.name) dev.logical = entries-same s c (λ p. p.name) (λ p. p.name) (λ e p units h. h.name) c.partitions dev.logical lists own in
    let many : length c.partitions ≡ length dev.logical = sym (length-map c.partitions (λ p. p.name)) ∙ (ap length names ∙ length-map dev.logical (λ p. p.name)) in
    let groups : length c.groups ≡ length dev.groups = groups-many s dev lists in
    let few = (both (nat_le (length dev.groups) 64) _ (both (nat_le (length dev.groups) 64 && are_distinct (map (λ g. g.name) dev.groups)) (list_all (λ g. is_name g.name) dev.groups) v.groups).0).0 in
    let short = (logical-valid dev v).0 in
    let x = le-of (length dev.logical) 128 short in
    let y = le-of (length dev.groups) 64 few in
    let e = extents-few s dev lists g in
    omega arith

header-fits : (minor : ℕ) → header_size minor ≤ 256
header-fits minor = by (minor == 2)
  where
    by : (b : Bool) → (if b then 256 else 128) ≤ 256
    by true = omega arith
    by false = omega arith

pub fits-written : (s : SuperPart) (dev : Dev) (lists : List (List ℕ)) → IsBounded s → IsValid dev → AreGiven s dev.logical lists → table_size (table_for s dev lists) ≤ s.max_size
fits-written s dev lists b v g =
    let z = size-written s dev lists b v g in
    let h = header-fits (table_for s dev lists).minor in
    let r = b.tables in
    omega arith

pub sound-written : (parts : List PhysicalPart) (s : SuperPart) (dev : Dev) (lists : List (List ℕ)) → IsBounded s → IsOnSuper parts s dev → AreGiven s dev.logical lists → IsTrue (is_sound (table_for s dev lists))
sound-written parts s dev lists b o g =
    let c = table_for s dev lists in
    let v = o.valid in
    let z = size-written s dev lists b v g in
    let r = b.tables in
    let m = b.room in
    let small : nat_lt (tables_size c) (2 ^ 32) ≡ true = grind (arith, nat_tests) in
    and-true _ (nat_lt (tables_size c) (2 ^ 32))
    (and-true _ (is_version c.minor c.flags)
    (and-true _ (are_known c)
    (and-true _ (are_laid c)
    (and-true _ (are_indexed c) (named-written parts s dev lists b o g) (indexed-written s dev lists v))
    (laid-written s dev lists b g))
    (known-written s dev lists b v g))
    (version-written s dev lists v)) small
