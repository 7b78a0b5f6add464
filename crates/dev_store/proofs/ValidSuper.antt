-- A file with super stands for devices that there can be.
use Rattle.std.proofs.Common.{◌≡◌, ◌∙◌, refl, ap, sym, subst, ℕ, zero, suc, ◌+◌, ◌*◌, ◌<◌, ◌≤◌, Bool, true, false, not, ◌&&◌, ◌||◌, List, [], ◌∷◌, ◌++◌, map, length, drop, sum_by, Some, Ok, inl, inr, ◌==◌, arith, length-append}
use Rattle.std.specs.Prelude.{◌⊎◌, nat_le, nat_lt, bytes_eq, ◌-◌, ◌%◌, ◌^◌}
use Rattle.std.specs.List.{list_all, list_any, flat_map}
use Rattle.std.specs.Int.{div_ceil}
use Rattle.std.proofs.Math.Nat.{div-mul-le_self, mul-le-mul_right}
use Rattle.std.proofs.lemmas.Bool.Decides.{nat_tests}
use Rattle.std.proofs.lemmas.List.{length-take-le, length-drop, length-map}
use Rattle.std.proofs.lemmas.List.FromFn.{length-range_with_len}
use Rattle.std.proofs.lemmas.List.Folds.{list_all-append}
use Rattle.std.proofs.lemmas.List.Sums.{sum_by-cons}
use Rattle.std.proofs.lemmas.Slice.Eq.{bytes_eq-Decides}
use Rattle.fb_frame.specs.Distinct.{are_distinct}
use Rattle.fb_frame.specs.NameText.{is_name}
use Rattle.fb_frame.specs.Versions.{are_attributes}
use Rattle.dev_model.specs.Sizes.{Size, sizes_of, groups_fit}
use Rattle.dev_model.specs.Tables.{is_group}
use Rattle.dev_model.specs.Validity.{IsValid, is_entry}
use Rattle.dev_model.proofs.Names.{Mem, Apart, among, mem-any, mem-append, mem-left, mem-right, distinct-join, distinct-left, distinct-right, distinct-apart}
use Rattle.dev_model.proofs.Valid.{both, and-true, or-left, or-right}
use Rattle.super_meta.specs.declared.table.Partition.{Partition}
use Rattle.super_meta.specs.declared.table.Extent.{Extent}
use Rattle.super_meta.specs.declared.table.Group.{Group}
use Rattle.super_meta.specs.Contents.{Content, are_named_apart, are_known}
use Rattle.super_meta.specs.Held.{group_name, limited}
use Rattle.super_meta.specs.TableText.{table_of}
use Rattle.super_meta.proofs.HeldLemmas.{table-read, all-there}
use Rattle.dev_store.specs.declared.layout.PhysicalPart.{PhysicalPart}
use Rattle.dev_store.specs.declared.layout.SuperPart.{SuperPart}
use Rattle.dev_store.specs.declared.state.State.{State}
use Rattle.dev_store.specs.declared.entries.Entry.TheVariants.{SuperLine}
use Rattle.dev_store.specs.LayoutLines.{first_unit, unit_count, is_sized, is_size, has_room}
use Rattle.dev_store.specs.Layouts.{LayoutValue, parts_end, image_size}
use Rattle.dev_store.specs.States.{is_state}
use Rattle.dev_store.specs.Supers.{extents_of, bytes_in, unit_at, units_in, units_of, is_at_unit, lies_in_units, are_different, size_in, is_barred, is_placed, are_good_units, unit_bytes, units_bytes, logical_at}
use Rattle.dev_store.specs.Stand.{super_bytes, super_value, physical_at, device_with}
use Rattle.dev_store.specs.Laid.{IsLaid}
use Rattle.dev_store.proofs.ValidLemmas.{slots-fit, names-same, count-same, range-long, sizes-fit, all-mapped}
use Rattle.dev_store.proofs.ValidUnits.{few, unit-fits, ceil-le, ceil-holds, range-below, all-take, all-drop, all-flat}

le-is : (a b : ℕ) → nat_le a b ≡ true → a ≤ b
le-is a b h = grind (arith, nat_tests)

is-le : (a b : ℕ) → a ≤ b → nat_le a b ≡ true
is-le a b h = grind (arith, nat_tests)

lt-is : (a b : ℕ) → nat_lt a b ≡ true → a < b
lt-is a b h = grind (arith, nat_tests)

-- the conditions of a table's units, by parts
pub record AreUnits (parts : List PhysicalPart) (s : SuperPart) (c : Content) : Type 0 where
  pub placed : list_all (λ e. is_at_unit s e && lies_in_units s e) c.extents ≡ true
  pub whole : list_all (is_placed s c) c.partitions ≡ true
  pub different : are_different (flat_map (units_of s c) c.partitions) ≡ true
  pub partitions : nat_le (length c.partitions) 128 ≡ true
  pub groups : nat_le (length c.groups) 64 ≡ true
  pub free : not (list_any (is_barred parts s) c.partitions) ≡ true
  pub fits : groups_fit (map limited c.groups) (map (size_in c) c.partitions) ≡ true

pub good-units : (parts : List PhysicalPart) (s : SuperPart) (c : Content) → are_good_units parts s c ≡ true → AreUnits parts s c
unfolding are_good_units
good-units parts s c h =
    let a = both _ (groups_fit (map limited c.groups) (map (size_in c) c.partitions)) h in
    let b = both _ (not (list_any (is_barred parts s) c.partitions)) a.0 in
    let d = both _ (nat_le (length c.groups) 64) b.0 in
    let e = both _ (nat_le (length c.partitions) 128) d.0 in
    let f = both _ (are_different (flat_map (units_of s c) c.partitions)) e.0 in
    let g = both _ (list_all (is_placed s c) c.partitions) f.0 in
    let k = both _ (list_all (λ e. is_at_unit s e && lies_in_units s e) c.extents) g.0 in
    record { placed = k.1; whole = g.1; different = f.1; partitions = e.1; groups = d.1; free = b.1; fits = a.1 }

-- the numbers of a super, by parts
pub record IsGoodSuper (s : SuperPart) : Type 0 where
  pub size : is_size s.size ≡ true
  pub blocks : (s.unit % 4096 == 0) ≡ true
  pub unit : (nat_le 4096 s.unit && nat_le s.unit (2 ^ 30)) ≡ true
  pub sectors : (s.max_size % 512 == 0) ≡ true
  pub room : nat_le s.max_size 126976 ≡ true
  pub slots : (nat_le 1 s.slots && nat_le s.slots 4) ≡ true
  pub some : nat_lt 0 (unit_count s) ≡ true
  pub fits : nat_le (10048 + 24 * unit_count s) s.max_size ≡ true
  pub named : is_name s.name ≡ true

pub good-super : (s : SuperPart) → (is_name s.name && is_sized (SuperLine s) && has_room (SuperLine s)) ≡ true → IsGoodSuper s
good-super s h =
    let a = both (is_name s.name && is_sized (SuperLine s)) (has_room (SuperLine s)) h in
    let b = both (is_name s.name) (is_sized (SuperLine s)) a.0 in
    let r = both (nat_lt 0 (unit_count s)) (nat_le (10048 + 24 * unit_count s) s.max_size) a.1 in
    let c = both _ (nat_le 1 s.slots && nat_le s.slots 4) b.1 in
    let d = both _ (nat_le s.max_size 126976) c.0 in
    let e = both _ (s.max_size % 512 == 0) d.0 in
    let f = both _ (nat_le 4096 s.unit && nat_le s.unit (2 ^ 30)) e.0 in
    let g = both (is_size s.size) (s.unit % 4096 == 0) f.0 in
    record { size = g.0; blocks = g.1; unit = f.1; sectors = e.1; room = d.1; slots = c.1; some = r.0; fits = r.1; named = b.0 }

pub unit-is : (s : SuperPart) → IsGoodSuper s → 0 < s.unit
unit-is s g = let l = le-is 4096 s.unit (both (nat_le 4096 s.unit) _ g.unit).0 in omega arith

-- the units of an extent, and of a partition, are units that there are
extent-below : (s : SuperPart) (e : Extent) → (is_at_unit s e && lies_in_units s e) ≡ true → list_all (λ u. nat_lt u (unit_count s)) (units_in s e) ≡ true
extent-below s e h =
    range-below (unit_at s e) (div_ceil (512 * e.sectors) s.unit) (unit_count s)
    (le-is (unit_at s e + div_ceil (512 * e.sectors) s.unit) (unit_count s) (both (is_at_unit s e) (lies_in_units s e) h).1)

extents-below : (s : SuperPart) (es : List Extent) → list_all (λ e. is_at_unit s e && lies_in_units s e) es ≡ true → list_all (λ u. nat_lt u (unit_count s)) (flat_map (units_in s) es) ≡ true
extents-below s [] h = refl
extents-below s (e ∷ es) h =
    let p = both (is_at_unit s e && lies_in_units s e) _ h in
    list_all-append (λ u. nat_lt u (unit_count s)) (units_in s e) (flat_map (units_in s) es) ∙ and-true _ _ (extent-below s e p.0) (extents-below s es p.1)

pub part-below : (s : SuperPart) (c : Content) (p : Partition) → list_all (λ e. is_at_unit s e && lies_in_units s e) c.extents ≡ true → list_all (λ u. nat_lt u (unit_count s)) (units_of s c p) ≡ true
unfolding units_of
part-below s c p h =
    extents-below s (extents_of c p) (all-take (λ e. is_at_unit s e && lies_in_units s e) p.count (drop p.first c.extents) (all-drop (λ e. is_at_unit s e && lies_in_units s e) p.first c.extents h))

-- so there are at most as many of all partitions as there are units
pub units-few : (parts : List PhysicalPart) (s : SuperPart) (c : Content) → AreUnits parts s c → length (flat_map (units_of s c) c.partitions) ≤ unit_count s
units-few parts s c g =
    few (unit_count s) (flat_map (units_of s c) c.partitions) g.different (all-flat (λ u. nat_lt u (unit_count s)) (units_of s c) c.partitions (λ p. part-below s c p g.placed))

-- the units of extents hold their bytes
extents-hold : (s : SuperPart) → 0 < s.unit → (es : List Extent) → bytes_in es ≤ length (flat_map (units_in s) es) * s.unit
extents-hold s h [] = omega arith
extents-hold s h (e ∷ es) =
    let n : length (units_in s e) ≡ div_ceil (512 * e.sectors) s.unit = length-range_with_len (unit_at s e) (div_ceil (512 * e.sectors) s.unit) in
    let l : length (units_in s e ++ flat_map (units_in s) es) ≡ div_ceil (512 * e.sectors) s.unit + length (flat_map (units_in s) es) = length-append (units_in s e) (flat_map (units_in s) es) ∙ ap (λ k. k + length (flat_map (units_in s) es)) n in
    let m = ap (λ k. k * s.unit) l in
    let own = ceil-holds (512 * e.sectors) s.unit h in
    let more = extents-hold s h es in
    let b = sum_by-cons (λ (x : Extent). 512 * x.sectors) e es in
    omega arith

pub part-holds : (s : SuperPart) (c : Content) (p : Partition) → 0 < s.unit → bytes_in (extents_of c p) ≤ length (units_of s c p) * s.unit
unfolding units_of
part-holds s c p h = extents-hold s h (extents_of c p)

-- units of super are as long as a unit
unit-long : (s : SuperPart) (super : List ℕ) (u : ℕ) → length super ≡ s.size → 0 < s.unit → u < unit_count s → length (unit_bytes s super u) ≡ s.unit
unit-long s super u l h k =
    let f = unit-fits s.size (first_unit s) s.unit u h k in
    let d = length-drop (first_unit s + u * s.unit) super in
    length-take-le s.unit (drop (first_unit s + u * s.unit) super) (omega arith)

joined-long : (s : SuperPart) (super : List ℕ) → length super ≡ s.size → 0 < s.unit → (us : List ℕ) → list_all (λ u. nat_lt u (unit_count s)) us ≡ true → length (flat_map (unit_bytes s super) us) ≡ length us * s.unit
joined-long s super l h [] k = omega arith
joined-long s super l h (u ∷ us) k =
    let p = both (nat_lt u (unit_count s)) _ k in
    let own = unit-long s super u l h (lt-is u (unit_count s) p.0) in
    let more = joined-long s super l h us p.1 in
    let a = length-append (unit_bytes s super u) (flat_map (unit_bytes s super) us) in
    a ∙ (ap (λ n. n + length (flat_map (unit_bytes s super) us)) own ∙ (ap (λ n. s.unit + n) more ∙ omega arith))

pub units-long : (s : SuperPart) (super : List ℕ) → length super ≡ s.size → 0 < s.unit → (us : List ℕ) → list_all (λ u. nat_lt u (unit_count s)) us ≡ true → length (units_bytes s super us) ≡ length us * s.unit
unfolding units_bytes
units-long s super l h us k = joined-long s super l h us k

-- a logical partition is as long as its extents say
pub logical-long : (s : SuperPart) (c : Content) (super : List ℕ) (p : Partition) → length super ≡ s.size → 0 < s.unit →
    list_all (λ e. is_at_unit s e && lies_in_units s e) c.extents ≡ true → length (logical_at s c super p).bytes ≡ bytes_in (extents_of c p)
logical-long s c super p l h placed =
    let n = units-long s super l h (units_of s c p) (part-below s c p placed) in
    let k = part-holds s c p h in
    length-take-le (bytes_in (extents_of c p)) (units_bytes s super (units_of s c p)) (omega arith)

-- so lengths are those of the table
sizes-told : (s : SuperPart) (c : Content) (super : List ℕ) → length super ≡ s.size → 0 < s.unit → list_all (λ e. is_at_unit s e && lies_in_units s e) c.extents ≡ true → (ps : List Partition) →
    sizes_of (map (logical_at s c super) ps) ≡ map (size_in c) ps
sizes-told s c super l h placed [] = refl
sizes-told s c super l h placed (p ∷ ps) =
    let one = logical-long s c super p l h placed in
    let more = sizes-told s c super l h placed ps in
    λ i. record { name = p.name; group = group_name c.groups p.group; bytes = one i } ∷ more i

-- the units that there are hold all partitions
units-enough : (s : SuperPart) (c : Content) → 0 < s.unit → (ps : List Partition) → sum_by (λ (z : Size). div_ceil z.bytes s.unit) (map (size_in c) ps) ≤ length (flat_map (units_of s c) ps)
units-enough s c h [] = omega arith
units-enough s c h (p ∷ ps) =
    let b = sum_by-cons (λ (z : Size). div_ceil z.bytes s.unit) (size_in c p) (map (size_in c) ps) in
    let one = ceil-le (bytes_in (extents_of c p)) (length (units_of s c p)) s.unit h (part-holds s c p h) in
    let more = units-enough s c h ps in
    let a = length-append (units_of s c p) (flat_map (units_of s c) ps) in
    omega arith

-- the group of a partition is there
group-there : (groups : List Group) (place : ℕ) → nat_lt place (length groups) ≡ true → is_group (map limited groups) (group_name groups place) ≡ true
group-there [] place h = let l = lt-is place 0 h in absurd (omega arith)
group-there (g ∷ groups) zero h = or-left (bytes_eq g.name g.name) _ ((bytes_eq-Decides g.name g.name).1 refl)
group-there (g ∷ groups) (suc place) h =
    let l = lt-is (suc place) (suc (length groups)) h in
    or-right (bytes_eq g.name (group_name groups place)) (is_group (map limited groups) (group_name groups place)) (group-there groups place (let k : place < length groups = omega arith in grind (arith, nat_tests)))

-- a partition is whole blocks, and at most as long as super
part-small : (s : SuperPart) (c : Content) (p : Partition) → IsGoodSuper s → length (units_of s c p) ≤ unit_count s → nat_le (bytes_in (extents_of c p)) (2 ^ 44) ≡ true
part-small s c p g n =
    let h = unit-is s g in
    let k = part-holds s c p h in
    let m = mul-le-mul_right s.unit n in
    let d = div-mul-le_self (s.size - first_unit s) s.unit in
    let z = both (s.size % 4096 == 0 && nat_le s.size (2 ^ 44)) (nat_lt 0 s.size) g.size in
    let w = le-is s.size (2 ^ 44) (both (s.size % 4096 == 0) (nat_le s.size (2 ^ 44)) z.0).1 in
    is-le (bytes_in (extents_of c p)) (2 ^ 44) (omega arith)

entries-good : (s : SuperPart) (c : Content) (super : List ℕ) → length super ≡ s.size → IsGoodSuper s → list_all (λ e. is_at_unit s e && lies_in_units s e) c.extents ≡ true → (ps : List Partition) →
    list_all (is_placed s c) ps ≡ true → list_all (λ p. nat_lt p.group (length c.groups)) ps ≡ true → list_all (λ p. are_attributes c.minor p.attributes) ps ≡ true →
    length (flat_map (units_of s c) ps) ≤ unit_count s → list_all (is_entry c.minor (map limited c.groups)) (map (logical_at s c super) ps) ≡ true
entries-good s c super l g placed [] w t k n = refl
entries-good s c super l g placed (p ∷ ps) w t k n =
    let a = length-append (units_of s c p) (flat_map (units_of s c) ps) in
    let ws = both (is_placed s c p) _ w in
    let ts = both (nat_lt p.group (length c.groups)) _ t in
    let ks = both (are_attributes c.minor p.attributes) _ k in
    let whole : (bytes_in (extents_of c p) % 4096 == 0 && nat_le (bytes_in (extents_of c p)) (2 ^ 44)) ≡ true =
    and-true _ _ (both _ (bytes_in (extents_of c p) % 4096 == 0) ws.0).1 (part-small s c p g (omega arith)) in
    let long = logical-long s c super p l (unit-is s g) placed in
    and-true (is_entry c.minor (map limited c.groups) (logical_at s c super p)) _
    (and-true _ _ (and-true _ _ (group-there c.groups p.group ts.0) (ap (λ n. n % 4096 == 0 && nat_le n (2 ^ 44)) long ∙ whole)) ks.0)
    (entries-good s c super l g placed ps ws.1 ts.1 ks.1 (omega arith))

known-all : (c : Content) → are_known c ≡ true → list_all (λ p. are_attributes c.minor p.attributes) c.partitions ≡ true
unfolding are_known
known-all c h = h

apart-both : (c : Content) → are_named_apart c ≡ true → (are_distinct (map (λ p. p.name) c.partitions) ≡ true) × (are_distinct (map (λ g. g.name) c.groups) ≡ true)
unfolding are_named_apart
apart-both c h = both (are_distinct (map (λ p. p.name) c.partitions)) (are_distinct (map (λ g. g.name) c.groups)) h

-- names are those of the table
logical-names : (s : SuperPart) (c : Content) (super : List ℕ) (ps : List Partition) → map (λ p. p.name) (map (logical_at s c super) ps) ≡ map (λ p. p.name) ps
logical-names s c super [] = refl
logical-names s c super (p ∷ ps) = ap (λ rest. p.name ∷ rest) (logical-names s c super ps)

group-names : (gs : List Group) → map (λ g. g.name) (map limited gs) ≡ map (λ g. g.name) gs
group-names [] = refl
group-names (g ∷ gs) = ap (λ rest. g.name ∷ rest) (group-names gs)

groups-named : (gs : List Group) → list_all (λ g. is_name g.name) gs ≡ true → list_all (λ g. is_name g.name) (map limited gs) ≡ true
groups-named [] h = refl
groups-named (g ∷ gs) h = let p = both (is_name g.name) _ h in and-true (is_name g.name) _ p.0 (groups-named gs p.1)

all-named : (ps : List Partition) → list_all (λ p. is_name p.name) ps ≡ true → list_all is_name (map (λ p. p.name) ps) ≡ true
all-named [] h = refl
all-named (p ∷ ps) h = let b = both (is_name p.name) _ h in and-true (is_name p.name) _ b.0 (all-named ps b.1)

any-named : (x : List ℕ) (parts : List PhysicalPart) → among x (map (λ q. q.name) parts) ≡ list_any (λ q. bytes_eq q.name x) parts
any-named x [] = refl
any-named x (p ∷ parts) = ap (λ b. bytes_eq p.name x || b) (any-named x parts)

-- a name of the table is no other's
barred : (parts : List PhysicalPart) (s : SuperPart) (p : Partition) → Mem p.name (map (λ q. q.name) parts ++ s.name ∷ []) → is_barred parts s p ≡ true
barred parts s p m = by (mem-append p.name (map (λ q. q.name) parts) (s.name ∷ []) m) where
  by : Mem p.name (map (λ q. q.name) parts) ⊎ Mem p.name (s.name ∷ []) → is_barred parts s p ≡ true
  by (inl n) = or-left (list_any (λ q. bytes_eq q.name p.name) parts) (bytes_eq s.name p.name) (sym (any-named p.name parts) ∙ mem-any p.name (map (λ q. q.name) parts) n)
  by (inr (inl e)) = or-right (list_any (λ q. bytes_eq q.name p.name) parts) (bytes_eq s.name p.name) ((bytes_eq-Decides s.name p.name).1 e)
  by (inr (inr e)) = absurd e

not-or : (a b : Bool) → not (a || b) ≡ true → (a ≡ false) × (not b ≡ true)
not-or true b h = absurd cc
not-or false b h = (refl, h)

yes-no : (b : Bool) → b ≡ true → b ≡ false → ⊥
yes-no b h k = cc

table-apart : (parts : List PhysicalPart) (s : SuperPart) (ps : List Partition) → not (list_any (is_barred parts s) ps) ≡ true → Apart (map (λ q. q.name) parts ++ s.name ∷ []) (map (λ p. p.name) ps)
table-apart parts s [] h x m n = n
table-apart parts s (p ∷ ps) h x m (inl e) =
    yes-no (is_barred parts s p) (barred parts s p (subst (λ y. Mem y (map (λ q. q.name) parts ++ s.name ∷ [])) (sym e) m)) (not-or (is_barred parts s p) (list_any (is_barred parts s) ps) h).0
table-apart parts s (p ∷ ps) h x m (inr n) = table-apart parts s ps (not-or (is_barred parts s p) (list_any (is_barred parts s) ps) h).1 x m n

-- the names of physical partitions, of logical ones and of super are different
names-apart : (xs ys : List (List ℕ)) (n : List ℕ) → are_distinct (xs ++ n ∷ []) ≡ true → are_distinct ys ≡ true → Apart (xs ++ n ∷ []) ys → are_distinct ((xs ++ ys) ++ n ∷ []) ≡ true
names-apart xs ys n d e apart =
    distinct-join (xs ++ ys) (n ∷ [])
    (distinct-join xs ys (distinct-left xs (n ∷ []) d) e (λ x a b. apart x (mem-left x xs (n ∷ []) a) b))
    (distinct-right xs (n ∷ []) d)
    (λ x a b. by x b (mem-append x xs ys a)) where
      by : (x : List ℕ) → Mem x (n ∷ []) → Mem x xs ⊎ Mem x ys → ⊥
      by x b (inl a) = distinct-apart xs (n ∷ []) d x a b
      by x b (inr a) = apart x (mem-right x xs (n ∷ []) b) a

names-all : (xs ys : List (List ℕ)) (n : List ℕ) → list_all is_name xs ≡ true → list_all is_name ys ≡ true → is_name n ≡ true → list_all is_name ((xs ++ ys) ++ n ∷ []) ≡ true
names-all xs ys n a b c =
    list_all-append is_name (xs ++ ys) (n ∷ [])
    ∙ and-true _ _ (list_all-append is_name xs ys ∙ and-true _ _ a b) (and-true (is_name n) true c refl)

abbrev pub with-super : SuperPart → LayoutValue → LayoutValue
with-super s layout = record layout { super_part = Some s }

-- A layout, a state and a table make a device that there can be, over bytes of the image's length.
pub super-valid : (layout : LayoutValue) (s : SuperPart) (state : State) (c : Content) (file bytes : List ℕ) → IsLaid (with-super s layout) → length file ≡ image_size (with-super s layout) →
    table_of bytes ≡ Ok c → are_good_units layout.physical s c ≡ true → is_state layout.slots state ≡ true →
    IsValid (device_with (with-super s layout) state (physical_at 12288 layout.physical file) (super_value s c (super_bytes layout s file)))
super-valid layout s state c file bytes l long read units fits =
    let parts = physical_at 12288 layout.physical file in
    let super = super_bytes layout s file in
    let t = table-read bytes c read in
    let u = good-units layout.physical s c units in
    let g = good-super s l.super in
    let apart = apart-both c t.apart in
    let whole : length super ≡ s.size = range-long (parts_end layout.physical) s.size file (omega arith) in
    let size = both (nat_le (length layout.physical) 64) _ l.physical in
    let own : map (λ p. p.name) parts ≡ map (λ p. p.name) layout.physical = names-same 12288 layout.physical file in
    let told : map (λ p. p.name) (map (logical_at s c super) c.partitions) ≡ map (λ p. p.name) c.partitions = logical-names s c super c.partitions in
    let names : (map (λ p. p.name) parts ++ map (λ p. p.name) (map (logical_at s c super) c.partitions)) ++ s.name ∷ [] ≡ (map (λ p. p.name) layout.physical ++ map (λ p. p.name) c.partitions) ++ s.name ∷ [] =
    ap (λ ns. (ns ++ map (λ p. p.name) (map (logical_at s c super) c.partitions)) ++ s.name ∷ []) own ∙ ap (λ ns. (map (λ p. p.name) layout.physical ++ ns) ++ s.name ∷ []) told in
    let sizes = sizes-told s c super whole (unit-is s g) u.placed c.partitions in
    let few-units = units-few layout.physical s c u in
    let enough = units-enough s c (unit-is s g) c.partitions in
    record {
      names = ap (λ ns. list_all is_name ns && are_distinct ns) names
          ∙ and-true _ _ (names-all (map (λ p. p.name) layout.physical) (map (λ p. p.name) c.partitions) s.name (all-mapped layout.physical l.physical_names) (all-named c.partitions t.partitions-named) g.named)
          (names-apart (map (λ p. p.name) layout.physical) (map (λ p. p.name) c.partitions) s.name l.names apart.0 (table-apart layout.physical s c.partitions u.free));
      labels = l.labels;
      variables = l.variables;
      variable_names = l.variable_names;
      slots = slots-fit layout.slots state.locked state.active state.flags state.userspace fits;
      download = l.download;
      physical = and-true _ _ (ap (λ n. nat_le n 64) (count-same 12288 layout.physical file) ∙ size.0) (sizes-fit 12288 layout.physical file (omega arith) size.1);
      groups = and-true _ _ (and-true _ _ (ap (λ n. nat_le n 64) (length-map c.groups limited) ∙ u.groups) (ap are_distinct (group-names c.groups) ∙ apart.1)) (groups-named c.groups t.groups-named);
      logical = and-true _ _ (ap (λ n. nat_le n 128) (length-map c.partitions (logical_at s c super)) ∙ u.partitions)
          (entries-good s c super whole g u.placed c.partitions u.whole (all-there c t.indexed) (known-all c t.known) few-units);
      version = t.version;
      units_fit = ap (λ zs. nat_le (sum_by (λ (z : Size). div_ceil z.bytes s.unit) zs) (unit_count s)) sizes ∙ is-le _ _ (omega arith);
      groups_fit = ap (groups_fit (map limited c.groups)) sizes ∙ u.fits;
      super = and-true _ _ (and-true _ _ (and-true _ _ g.size (and-true _ _ g.blocks g.unit))
          (and-true _ _ (and-true _ _ (grind (arith, nat_tests)) g.some) g.fits)) (and-true _ _ (and-true _ _ g.sectors g.room) g.slots);
    }
