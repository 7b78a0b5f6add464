-- Entries that were written are read again.
use Rattle.std.proofs.Common.{◌≡◌, ℕ, ◌+◌, ◌*◌, ◌^◌, ◌<◌, Bool, true, List, [], ◌∷◌, ◌++◌, length, take, drop, map, refl, sym, ap, ◌∙◌, arith, lit<, append_assoc, length-append}
use Rattle.std.specs.Prelude.{◌&&◌, ◌==◌, nat_lt}
use Rattle.std.specs.List.{list_all, flat_map}
use Rattle.std.specs.Int.{w32, w64, to_le_bytes}
use Rattle.std.proofs.lemmas.Bool.Decides.{nat_tests}
use Rattle.std.proofs.lemmas.List.{drop-drop, take_at, drop_at}
use Rattle.super_meta.specs.declared.table.Partition.{Partition}
use Rattle.super_meta.specs.declared.table.Extent.{Extent}
use Rattle.super_meta.specs.declared.table.Group.{Group}
use Rattle.super_meta.specs.declared.table.BlockDevice.{BlockDevice}
use Rattle.fb_frame.specs.Fields.{u32_at, u64_at}
use Rattle.super_meta.specs.Entries.{rows, name_in, is_name_field, name_field, is_named, is_unset, partition_of, partition_bytes, extent_of, extent_bytes, group_of, group_bytes, device_of, device_bytes}
use Rattle.super_meta.specs.TableBytes.{partition_fits, extent_fits, group_fits, device_fits}
use Rattle.fb_frame.proofs.FieldLemmas.{again32, again64}
use Rattle.super_meta.proofs.NameLemmas.{both, bothly, name-again, field-again, length-name_field}

pub fits-lt : (n k : ℕ) → nat_lt n k ≡ true → n < k
fits-lt n k h = grind (arith, nat_tests)

pub unset-if : (place : ℕ) (row : List ℕ) → u32_at place row ≡ 0 → is_unset place row ≡ true
unset-if place row h = let e : (u32_at place row == 0) ≡ true = grind (arith, nat_tests) in e

five : (n a b c d : List ℕ) → (((n ++ a) ++ b) ++ c) ++ d ≡ n ++ (a ++ (b ++ (c ++ d)))
five n a b c d = simp append_assoc refl

-- a number some bytes after a place
pub later32 : (k j p n : ℕ) (row at rest : List ℕ) → n < 2 ^ 32 → p + k ≡ j → drop p row ≡ at → drop k at ≡ to_le_bytes w32 n ++ rest → u32_at j row ≡ n
later32 k j p n row at rest h e f g = again32 j n row rest h (sym (drop-drop k p row ∙ ap (λ m. drop m row) e) ∙ (ap (drop k) f ∙ g))

later64 : (k j p n : ℕ) (row at rest : List ℕ) → n < 2 ^ 64 → p + k ≡ j → drop p row ≡ at → drop k at ≡ to_le_bytes w64 n ++ rest → u64_at j row ≡ n
later64 k j p n row at rest h e f g = again64 j n row rest h (sym (drop-drop k p row ∙ ap (λ m. drop m row) e) ∙ (ap (drop k) f ∙ g))

-- what is known of an entry that was written
pub record IsAgain {X : Type 0} (size : ℕ) (value : List ℕ → X) (spell : X → List ℕ) (test : List ℕ → Bool) (x : X) : Type 0 where
  pub len : length (spell x) ≡ size
  pub same : value (spell x) ≡ x
  pub passes : test (spell x) ≡ true

pub partition-again : (p : Partition) → partition_fits p ≡ true → IsAgain 52 partition_of partition_bytes is_named p
unfolding partition_of partition_bytes
partition-again p h =
    let q = both _ _ h in
    let r = both _ _ q.0 in
    let s = both _ _ r.0 in
    let t = both _ _ s.0 in
    let name = name_field p.name in
    let rest = to_le_bytes w32 p.attributes ++ (to_le_bytes w32 p.first ++ (to_le_bytes w32 p.count ++ to_le_bytes w32 p.group)) in
    let row = partition_bytes p in
    let l = length-name_field p.name t.0 in
    let e : row ≡ name ++ rest = five name (to_le_bytes w32 p.attributes) (to_le_bytes w32 p.first) (to_le_bytes w32 p.count) (to_le_bytes w32 p.group) in
    let front : take 36 row ≡ name = ap (take 36) e ∙ take_at name rest 36 l in
    let at : drop 36 row ≡ rest = ap (drop 36) e ∙ drop_at name rest 36 l in
    let n : name_in (take 36 row) ≡ p.name = ap name_in front ∙ name-again p.name t.0 in
    let a = later32 0 36 36 p.attributes row rest _ (fits-lt _ _ t.1) refl at refl in
    let b = later32 4 40 36 p.first row rest _ (fits-lt _ _ s.1) refl at refl in
    let c = later32 8 44 36 p.count row rest _ (fits-lt _ _ r.1) refl at refl in
    let d = later32 12 48 36 p.group row rest [] (fits-lt _ _ q.1) refl at refl in
    record {
      len = ap length e ∙ omega (arith, length-append name rest, l);
      same = λ i. record { name = n i; attributes = a i; first = b i; count = c i; group = d i };
      passes = ap is_name_field front ∙ field-again p.name t.0;
    }

abbrev pub is_plain : List ℕ → Bool
is_plain row = is_unset 8 row && is_unset 20 row

pub extent-again : (x : Extent) → extent_fits x ≡ true → IsAgain 24 extent_of extent_bytes is_plain x
unfolding extent_of extent_bytes
extent-again x h =
    let q = both _ _ h in
    let row = extent_bytes x in
    let a = again64 0 x.sectors row _ (fits-lt _ _ q.0) refl in
    let k = again32 8 0 row _ (lit< tt) refl in
    let b = again64 12 x.target row _ (fits-lt _ _ q.1) refl in
    let s = again32 20 0 row [] (lit< tt) refl in
    record {
      len = refl;
      same = λ i. record { sectors = a i; target = b i };
      passes = bothly _ _ (unset-if 8 row k) (unset-if 20 row s);
    }

abbrev pub is_group : List ℕ → Bool
is_group row = is_named row && is_unset 36 row

pub group-again : (g : Group) → group_fits g ≡ true → IsAgain 48 group_of group_bytes is_group g
unfolding group_of group_bytes
group-again g h =
    let q = both _ _ h in
    let name = name_field g.name in
    let rest = to_le_bytes w32 0 ++ to_le_bytes w64 g.limit in
    let row = group_bytes g in
    let l = length-name_field g.name q.0 in
    let e : row ≡ name ++ rest = append_assoc name (to_le_bytes w32 0) (to_le_bytes w64 g.limit) in
    let front : take 36 row ≡ name = ap (take 36) e ∙ take_at name rest 36 l in
    let at : drop 36 row ≡ rest = ap (drop 36) e ∙ drop_at name rest 36 l in
    let n : name_in (take 36 row) ≡ g.name = ap name_in front ∙ name-again g.name q.0 in
    let f = later32 0 36 36 0 row rest _ (lit< tt) refl at refl in
    let m = later64 4 40 36 g.limit row rest [] (fits-lt _ _ q.1) refl at refl in
    record {
      len = ap length e ∙ omega (arith, length-append name rest, l);
      same = λ i. record { name = n i; limit = m i };
      passes = bothly _ _ (ap is_name_field front ∙ field-again g.name q.0) (unset-if 36 row f);
    }

abbrev pub is_device : List ℕ → Bool
is_device row = is_name_field (take 36 (drop 24 row)) && is_unset 60 row

pub device-again : (d : BlockDevice) → device_fits d ≡ true → IsAgain 64 device_of device_bytes is_device d
unfolding device_of device_bytes
device-again d h =
    let q = both _ _ h in
    let r = both _ _ q.0 in
    let s = both _ _ r.0 in
    let t = both _ _ s.0 in
    let name = name_field d.name in
    let row = device_bytes d in
    let l = length-name_field d.name t.0 in
    let rest = name ++ to_le_bytes w32 0 in
    let front : take 36 (drop 24 row) ≡ name = take_at name (to_le_bytes w32 0) 36 l in
    let n : name_in (take 36 (drop 24 row)) ≡ d.name = ap name_in front ∙ name-again d.name t.0 in
    let a = again64 0 d.first_sector row _ (fits-lt _ _ t.1) refl in
    let b = again32 8 d.alignment row _ (fits-lt _ _ s.1) refl in
    let c = again32 12 d.offset row _ (fits-lt _ _ r.1) refl in
    let e = again64 16 d.size row _ (fits-lt _ _ q.1) refl in
    let f = later32 36 60 24 0 row rest [] (lit< tt) refl refl (drop_at name (to_le_bytes w32 0) 36 l) in
    record {
      len = length-device (to_le_bytes w64 d.first_sector ++ to_le_bytes w32 d.alignment ++ to_le_bytes w32 d.offset ++ to_le_bytes w64 d.size) name (to_le_bytes w32 0) refl l refl;
      same = λ i. record { first_sector = a i; alignment = b i; offset = c i; size = e i; name = n i };
      passes = bothly _ _ (ap is_name_field front ∙ field-again d.name t.0) (unset-if 60 row f);
    }
  where
    length-device : (x y z : List ℕ) → length x ≡ 24 → length y ≡ 36 → length z ≡ 4 → length ((x ++ y) ++ z) ≡ 64
    length-device x y z a b c = omega (arith, length-append (x ++ y) z, length-append x y)

-- ---- entries one after another

pub rows-again : {X : Type 0} (size : ℕ) (value : List ℕ → X) (spell : X → List ℕ) (test : List ℕ → Bool) (check : X → Bool) → ((x : X) → check x ≡ true → IsAgain size value spell test x) →
    (xs : List X) (rest : List ℕ) → list_all check xs ≡ true → rows size (length xs) (flat_map spell xs ++ rest) ≡ map spell xs
unfolding rows
rows-again size value spell test check each [] rest h = refl
rows-again size value spell test check each (x ∷ xs) rest h =
    let p = both (check x) (list_all check xs) h in
    let l = (each x p.0).len in
    let e = append_assoc (spell x) (flat_map spell xs) rest in
    let first : take size ((spell x ++ flat_map spell xs) ++ rest) ≡ spell x = ap (take size) e ∙ take_at (spell x) (flat_map spell xs ++ rest) size l in
    let others : drop size ((spell x ++ flat_map spell xs) ++ rest) ≡ flat_map spell xs ++ rest = ap (drop size) e ∙ drop_at (spell x) (flat_map spell xs ++ rest) size l in
    ap (λ t. t ∷ rows size (length xs) (drop size ((spell x ++ flat_map spell xs) ++ rest))) first
    ∙ ap (λ t. spell x ∷ t) (ap (rows size (length xs)) others ∙ rows-again size value spell test check each xs rest p.1)

pub values-again : {X : Type 0} (size : ℕ) (value : List ℕ → X) (spell : X → List ℕ) (test : List ℕ → Bool) (check : X → Bool) → ((x : X) → check x ≡ true → IsAgain size value spell test x) →
    (xs : List X) → list_all check xs ≡ true → map value (map spell xs) ≡ xs
values-again size value spell test check each [] h = refl
values-again size value spell test check each (x ∷ xs) h =
    let p = both (check x) (list_all check xs) h in
    ap (λ t. t ∷ map value (map spell xs)) (each x p.0).same ∙ ap (λ t. x ∷ t) (values-again size value spell test check each xs p.1)

pub tests-again : {X : Type 0} (size : ℕ) (value : List ℕ → X) (spell : X → List ℕ) (test : List ℕ → Bool) (check : X → Bool) → ((x : X) → check x ≡ true → IsAgain size value spell test x) →
    (xs : List X) → list_all check xs ≡ true → list_all test (map spell xs) ≡ true
tests-again size value spell test check each [] h = refl
tests-again size value spell test check each (x ∷ xs) h =
    let p = both (check x) (list_all check xs) h in
    bothly (test (spell x)) (list_all test (map spell xs)) (each x p.0).passes (tests-again size value spell test check each xs p.1)

pub length-again : {X : Type 0} (size : ℕ) (value : List ℕ → X) (spell : X → List ℕ) (test : List ℕ → Bool) (check : X → Bool) → ((x : X) → check x ≡ true → IsAgain size value spell test x) →
    (xs : List X) → list_all check xs ≡ true → length (flat_map spell xs) ≡ length xs * size
length-again size value spell test check each [] h = omega arith
length-again size value spell test check each (x ∷ xs) h =
    let p = both (check x) (list_all check xs) h in
    omega (arith, length-append (spell x) (flat_map spell xs), (each x p.0).len, length-again size value spell test check each xs p.1)

pub first-all : (xs : List (List ℕ)) (f g : List ℕ → Bool) → list_all (λ x. f x && g x) xs ≡ true → (list_all f xs ≡ true) × (list_all g xs ≡ true)
first-all [] f g h = (refl, refl)
first-all (x ∷ xs) f g h =
    let p = both (f x && g x) (list_all (λ y. f y && g y) xs) h in
    let q = both (f x) (g x) p.0 in
    let r = first-all xs f g p.1 in
    (bothly (f x) (list_all f xs) q.0 r.0, bothly (g x) (list_all g xs) q.1 r.1)
