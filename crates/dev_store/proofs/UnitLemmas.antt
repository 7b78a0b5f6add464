-- The numbers of super, and steps along extents and partitions.
use Rattle.std.proofs.Common.{◌≡◌, ℕ, zero, suc, ◌+◌, ◌*◌, ◌/◌, ◌-◌, ◌%◌, ◌^◌, ◌<◌, ◌≤◌, Bool, true, false, cond, List, [], ◌∷◌, length, get_or, take, drop, map, filter, refl, sym, ap, subst, ◌∙◌, arith, add-one, Some}
use Rattle.std.specs.Prelude.{◌&&◌, ◌||◌, ◌==◌, nat_le, nat_lt, sum_by, bytes_eq, IsTrue, min, if◌then◌else◌}
use Rattle.std.specs.List.{list_all}
use Rattle.std.proofs.Math.Seq.{drop-cons}
use Rattle.std.proofs.Math.Nat.{div-mul-le_self, div-le_self}
use Rattle.std.proofs.lemmas.Bool.Decides.{nat_tests}
use Rattle.std.proofs.lemmas.List.Sums.{sum_by-cons}
use Rattle.std.specs.Int.{next_multiple_of}
use Rattle.dev_model.specs.Sizes.{Size, share_of, group_bytes, groups_fit}
use Rattle.super_meta.specs.declared.table.Partition.{Partition}
use Rattle.super_meta.specs.declared.table.Extent.{Extent}
use Rattle.super_meta.specs.declared.table.Group.{Group}
use Rattle.super_meta.specs.Held.{limited}
use Rattle.super_meta.specs.Contents.{Content}
use Rattle.super_meta.proofs.NameLemmas.{both}
use Rattle.dev_store.specs.declared.layout.SuperPart.{SuperPart}
use Rattle.dev_store.specs.Laid.{is_good_super}
use Rattle.dev_store.specs.LayoutLines.{is_sized, has_room, first_unit, unit_count}
use Rattle.dev_store.specs.declared.entries.Entry.TheVariants.{SuperLine}
use Rattle.dev_store.specs.Supers.{are_whole, size_in}
use Rattle.dev_store.specs.SuperBounds.{IsBounded}

pub le-of : (a b : ℕ) → nat_le a b ≡ true → a ≤ b
le-of a b h = grind (arith, nat_tests)

lt-of : (a b : ℕ) → nat_lt a b ≡ true → a < b
lt-of a b h = grind (arith, nat_tests)

eq-of : (a b : ℕ) → (a == b) ≡ true → a ≡ b
eq-of a b h = grind (arith, nat_tests)

good-sized : (s : SuperPart) → IsTrue (is_good_super (Some s)) → IsTrue (is_sized (SuperLine s))
good-sized s h = (both _ _ (both _ _ h).0).1

-- whole units after the first lie within the size
units-inside : (size first unit : ℕ) → 0 < (size - first) / unit → first + (size - first) / unit * unit ≤ size
units-inside size first unit some =
    let units = div-mul-le_self (size - first) unit in
    let less = div-le_self (size - first) unit in
    omega arith

-- a number is at most the next multiple of another
at-least : (n unit : ℕ) → n ≤ next_multiple_of n unit
at-least n unit = omega arith

-- a super keeps its bounds
pub bounded : (s : SuperPart) → IsTrue (is_good_super (Some s)) → IsBounded s
bounded s h =
    let room = both _ _ (both _ (has_room (SuperLine s)) h).1 in
    let a = both _ _ (good-sized s h) in
    let b = both _ _ a.0 in
    let c = both _ _ b.0 in
    let d = both _ _ c.0 in
    let e = both _ _ d.0 in
    let size = both _ _ (both _ _ e.0).0 in
    let unit = both _ _ d.1 in
    let slots = both _ _ a.1 in
    let some : 0 < unit_count s = lt-of 0 (unit_count s) room.0 in
    record {
      good = h;
      size = le-of s.size (2 ^ 44) size.1;
      unit = le-of 4096 s.unit unit.0;
      unit_end = le-of s.unit (2 ^ 30) unit.1;
      room = le-of s.max_size 126976 b.1;
      whole = eq-of (s.max_size % 512) 0 c.1;
      slots = le-of 1 s.slots slots.0;
      slots_end = le-of s.slots 4 slots.1;
      copies = at-least (12288 + 2 * s.slots * s.max_size) s.unit;
      some = some;
      tables = le-of (10048 + 24 * unit_count s) s.max_size room.1;
      inside = units-inside s.size (first_unit s) s.unit some;
    }

pub sized : (s : SuperPart) → IsBounded s → IsTrue (is_sized (SuperLine s))
sized s h = good-sized s h.good

-- the front of a list that is left
pub left-step : {X : Type 0} (xs : List X) (i : ℕ) (x : X) → i < length xs → x ≡ get_or xs i x → drop i xs ≡ x ∷ drop (i + 1) xs
left-step xs i x h e = drop-cons xs i x h ∙ (ap (λ y. y ∷ drop (suc i) xs) (sym e) ∙ ap (λ n. x ∷ drop n xs) (sym (add-one i)))

pub left-at : {X : Type 0} (xs : List X) (i : ℕ) (d : X) → i < length xs → drop i xs ≡ get_or xs i d ∷ drop (i + 1) xs
left-at xs i d h = drop-cons xs i d h ∙ ap (λ n. get_or xs i d ∷ drop n xs) (sym (add-one i))

whole-from : (s : SuperPart) (x : Extent) (xs : List Extent) → list_all (λ e. (512 * e.sectors) % s.unit == 0) (take (length xs) (x ∷ xs)) ≡ are_whole s (x ∷ xs)
whole-from s x [] = refl
whole-from s x (y ∷ ys) = ap (λ b. ((512 * x.sectors) % s.unit == 0) && b) (whole-from s y ys)

-- all but the last
pub whole_but_last : (s : SuperPart) (xs : List Extent) → list_all (λ e. (512 * e.sectors) % s.unit == 0) (take (length xs - 1) xs) ≡ are_whole s xs
whole_but_last s [] = refl
whole_but_last s (x ∷ xs) =
    let e : suc (length xs) - 1 ≡ length xs = omega arith in
    ap (λ n. list_all (λ e. (512 * e.sectors) % s.unit == 0) (take n (x ∷ xs))) e ∙ whole-from s x xs

-- limits of groups
pub groups_limited : (groups : List Group) (sizes : List Size) →
    list_all (λ g. g.limit == 0 || nat_le (group_bytes g.name sizes) g.limit) groups ≡ groups_fit (map limited groups) sizes
groups_limited [] sizes = refl
groups_limited (g ∷ groups) sizes = ap (λ b. (g.limit == 0 || nat_le (group_bytes g.name sizes) g.limit) && b) (groups_limited groups sizes)

-- the bytes of a group with one more partition
pub group-cons : (group : List ℕ) (x : Size) (sizes : List Size) → group_bytes group (x ∷ sizes) ≡ share_of group x + group_bytes group sizes
group-cons group x sizes = by (bytes_eq x.group group) where
  by : (b : Bool) → sum_by (λ s. s.bytes) (cond b (x ∷ filter (λ s. bytes_eq s.group group) sizes) (filter (λ s. bytes_eq s.group group) sizes)) ≡ (if b then x.bytes else 0) + group_bytes group sizes
  by true = sum_by-cons (λ s. s.bytes) x (filter (λ s. bytes_eq s.group group) sizes)
  by false = omega arith

pub group-step : (c : Content) (group : List ℕ) (xs ys : List Partition) (i : ℕ) (x : Partition) → xs ≡ ys → i < length xs → x ≡ get_or xs i x →
    group_bytes group (map (size_in c) (drop i ys)) ≡ share_of group (size_in c x) + group_bytes group (map (size_in c) (drop (i + 1) ys))
group-step c group xs ys i x s h e = subst (λ l. group_bytes group (map (size_in c) (drop i l)) ≡ share_of group (size_in c x) + group_bytes group (map (size_in c) (drop (i + 1) l))) s
    (ap (λ l. group_bytes group (map (size_in c) l)) (left-step xs i x h e) ∙ group-cons group (size_in c x) (map (size_in c) (drop (i + 1) xs)))
