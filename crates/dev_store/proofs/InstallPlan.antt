-- The parts that are chosen for the entries of an installed table can be parts of the map.
use Rattle.std.proofs.Common.{◌≡◌, ◌∙◌, refl, ap, ℕ, ◌+◌, ◌≤◌, Bool, true, false, List, [], ◌∷◌, map, filter, length, arith, Option, Some, None, length-append}
use Rattle.std.specs.Prelude.{not, ◌&&◌, nat_lt, slice_get, bytes_eq, position, option_and_then, unwrap_or, if◌then◌else◌}
use Rattle.std.specs.List.{list_all}
use Rattle.std.proofs.lemmas.List.{length-map}
use Rattle.std.proofs.lemmas.List.Folds.{list_all-append}
use Rattle.std.proofs.lemmas.Bool.Decides.{nat_tests}
use Rattle.super_meta.specs.declared.table.Partition.{Partition}
use Rattle.super_meta.specs.Contents.{Content}
use Rattle.dev_store.specs.declared.table_install.Keeps.{Keeps}
use Rattle.dev_store.specs.Installing.{keeps, is_left}
use Rattle.dev_model.specs.Options.{first_passed}
use Rattle.dev_store.specs.declared.errors.StoreError.TheVariants.{GroupFull, TooManyPartitions, NoGroup, BadTable}
use Rattle.dev_store.specs.InstallTests.{merged_count, lacks_group, limits_hold, install_tests}
use Rattle.dev_store.specs.InstallParts.{named_part, kept_part, chosen_parts}
use Rattle.dev_store.proofs.InstallParts.{by-all}

-- there are as many as entries
pub chosen-many : (k : Keeps) (new c : Content) (parts : List ℕ) → length (chosen_parts k new c parts) ≡ merged_count k new c
chosen-many k new c parts =
    let f = λ (p : Partition). kept_part k c parts p.name in
    length-append (map f new.partitions) (map f (filter (is_left k new) c.partitions))
    ∙ (λ i. length-map new.partitions f i + length-map (filter (is_left k new) c.partitions) f i)

small-of : (n : ℕ) → nat_lt n 128 ≡ true → nat_lt n 129 ≡ true
small-of n h = grind (arith, nat_tests)

part-small : (k : Keeps) (c : Content) (parts name : List ℕ) → list_all (λ part. nat_lt part 128) parts ≡ true → nat_lt (kept_part k c parts name) 129 ≡ true
part-small k c parts name h = by (keeps k name)
  where
    there : (i : ℕ) (o : Option ℕ) → slice_get parts i ≡ o → nat_lt (unwrap_or o 128) 129 ≡ true
    there i None e = refl
    there i (Some x) e = small-of x (by-all (λ part. nat_lt part 128) parts i x h e)

    at : (o : Option ℕ) → nat_lt (unwrap_or (option_and_then (slice_get parts) o) 128) 129 ≡ true
    at None = refl
    at (Some i) = there i (slice_get parts i) refl

    by : (b : Bool) → nat_lt (if b then named_part c parts name else 128) 129 ≡ true
    by true = at (position (λ p. bytes_eq p.name name) c.partitions)
    by false = refl

all-mapped : (f : Partition → ℕ) → ((p : Partition) → nat_lt (f p) 129 ≡ true) → (ps : List Partition) → list_all (λ part. nat_lt part 129) (map f ps) ≡ true
all-mapped f h [] = refl
all-mapped f h (p ∷ ps) = (λ i. h p i && list_all (λ part. nat_lt part 129) (map f ps)) ∙ all-mapped f h ps

-- each is a part, or stands for none
pub chosen-small : (k : Keeps) (new c : Content) (parts : List ℕ) → list_all (λ part. nat_lt part 128) parts ≡ true → list_all (λ part. nat_lt part 129) (chosen_parts k new c parts) ≡ true
chosen-small k new c parts h =
    let f = λ (p : Partition). kept_part k c parts p.name in
    let one = λ (p : Partition). part-small k c parts p.name h in
    list_all-append (λ part. nat_lt part 129) (map f new.partitions) (map f (filter (is_left k new) c.partitions))
    ∙ ((λ i. all-mapped f one new.partitions i && list_all (λ part. nat_lt part 129) (map f (filter (is_left k new) c.partitions))) ∙ all-mapped f one (filter (is_left k new) c.partitions))

-- the parts lie in the map
pub parts-there : (n : ℕ) (parts : List ℕ) → n ≡ 128 → list_all (λ part. nat_lt part 128) parts ≡ true → list_all (λ part. nat_lt part n) parts ≡ true
parts-there n parts e h = ap (λ m. list_all (λ part. nat_lt part m) parts) e ∙ h

-- where nothing is wrong there are at most as many entries as a device has
pub tests-few : (k : Keeps) (other : Bool) (new c : Content) → install_tests k other new c ≡ None → merged_count k new c ≤ 128
tests-few k other new c h = few (merged_count k new c) (by other (nat_lt 128 (merged_count k new c)) (lacks_group k new c) (not (limits_hold k new c)) h)
  where
    by : (a b d e : Bool) → first_passed ((a, BadTable) ∷ (b, TooManyPartitions) ∷ (d, NoGroup) ∷ (e, GroupFull) ∷ []) ≡ None → b ≡ false
    by true b d e h = absurd cc
    by false true d e h = absurd cc
    by false false d e h = refl

    few : (n : ℕ) → nat_lt 128 n ≡ false → n ≤ 128
    few n e = grind (arith, nat_tests)
