-- The units of a map: a good table hands out no unit twice, and what a map hands out can be written.
use Rattle.std.proofs.Common.{◌≡◌, ◌∙◌, refl, ap, sym, subst, ℕ, ◌+◌, ◌<◌, ◌≤◌, Bool, true, false, not, List, [], ◌∷◌, ◌++◌, map, length, get_or, arith}
use Rattle.std.specs.Prelude.{◌||◌, nat_eq, nat_lt, slice_index}
use Rattle.std.specs.List.{list_any, flat_map}
use Rattle.std.proofs.lemmas.Bool.Decides.{nat_tests}
use Rattle.std.proofs.lemmas.List.{length-map, get_or_default}
use Rattle.unit_alloc.specs.Owning.{Owning, OneOwner, times, times_in}
use Rattle.unit_alloc.specs.Owning.{units_of as owned_by}
use Rattle.unit_alloc.proofs.TimesLemmas.{times_in-nil, times_in-cons, times_in-append, times-nil, times-cons}
use Rattle.dev_model.specs.declared.device.Logical.{Logical}
use Rattle.dev_model.proofs.Valid.{and-true}
use Rattle.super_meta.specs.Contents.{Content}
use Rattle.dev_store.specs.declared.layout.PhysicalPart.{PhysicalPart}
use Rattle.dev_store.specs.declared.layout.SuperPart.{SuperPart}
use Rattle.dev_store.specs.LayoutLines.{unit_count}
use Rattle.dev_store.specs.Supers.{units_of, are_different, are_good_units}
use Rattle.dev_store.specs.SuperBounds.{IsMapOf}
use Rattle.dev_store.specs.TableChanges.{AreFitted}
use Rattle.dev_store.specs.Building.{AreGiven}
use Rattle.dev_store.proofs.ValidUnits.{times-once, times-within, all-flat}
use Rattle.dev_store.proofs.ValidSuper.{good-units, part-below}
use Rattle.dev_store.proofs.ChangeMaps.{times-parts}
use Rattle.dev_store.proofs.ChangeBytes.{all-below}

-- how often a unit stands in lists, one after another
times-joined : (u : ℕ) (ls : List (List ℕ)) → times_in u (flat_map (λ l. l) ls) ≡ times u ls
times-joined u [] = times_in-nil u ∙ sym (times-nil u)
times-joined u (l ∷ ls) =
    times_in-append u l (flat_map (λ l. l) ls) ∙ (ap (λ n. times_in u l + n) (times-joined u ls) ∙ sym (times-cons u l ls))

joined-units : {X : Type 0} (f : X → List ℕ) (xs : List X) → flat_map (λ l. l) (map f xs) ≡ flat_map f xs
joined-units f [] = refl
joined-units f (x ∷ xs) = ap (λ l. f x ++ l) (joined-units f xs)

-- a number that doesn't stand in a list
none-equal : (x : ℕ) (xs : List ℕ) → times_in x xs ≡ 0 → list_any (nat_eq x) xs ≡ false
none-equal x [] h = refl
none-equal x (y ∷ xs) h = by (nat_eq x y) refl (none-equal x xs (let c = times_in-cons x y xs in omega arith))
  where
    by : (b : Bool) → nat_eq x y ≡ b → list_any (nat_eq x) xs ≡ false → list_any (nat_eq x) (y ∷ xs) ≡ false
    by true e more = let c = times_in-cons x y xs in absurd (grind (arith, nat_tests))
    by false e more = ap (λ b. b || list_any (nat_eq x) xs) e ∙ more

-- numbers that stand once at most are different
once-different : (xs : List ℕ) → ((u : ℕ) → times_in u xs ≤ 1) → are_different xs ≡ true
once-different [] h = refl
once-different (x ∷ xs) h =
    let c = times_in-cons x x xs in
    let n = h x in
    let z : times_in x xs ≡ 0 = grind (arith, nat_tests) in
    and-true (not (list_any (nat_eq x) xs)) (are_different xs) (ap not (none-equal x xs z))
    (once-different xs (λ u. let d = times_in-cons u x xs in let m = h u in omega arith))

-- the units of a table are those of its map
map-times : (s : SuperPart) (c : Content) (o : Owning) (parts : List ℕ) (u : ℕ) → IsMapOf s c o parts → times u o.parts ≡ times_in u (flat_map (units_of s c) c.partitions)
map-times s c o parts u h =
    times-parts u o parts h.apart h.empty
    ∙ (ap (times u) h.lists ∙ (sym (times-joined u (map (units_of s c) c.partitions)) ∙ ap (times_in u) (joined-units (units_of s c) c.partitions)))

-- the map of a good table
pub one-owner : (physical : List PhysicalPart) (s : SuperPart) (c : Content) (o : Owning) (parts : List ℕ) → IsMapOf s c o parts → are_good_units physical s c ≡ true → OneOwner o
one-owner physical s c o parts h good =
    let g = good-units physical s c good in
    record {
      once = λ u. subst (λ n. n ≤ 1) (sym (map-times s c o parts u h)) (times-once u (flat_map (units_of s c) c.partitions) g.different);
      within = λ u k. map-times s c o parts u h
          ∙ times-within (unit_count s) u (flat_map (units_of s c) c.partitions) (all-flat (λ x. nat_lt x (unit_count s)) (units_of s c) c.partitions (λ p. part-below s c p g.placed))
          (subst (λ n. n ≤ u) h.units k);
    }

-- what a map hands out
pub given-of : (s : SuperPart) (c : Content) (o : Owning) (parts : List ℕ) (logical : List Logical) → IsMapOf s c o parts → OneOwner o → AreFitted s.unit logical (map (owned_by o) parts) →
    AreGiven s logical (map (owned_by o) parts)
given-of s c o parts logical h one fitted =
    let same : (u : ℕ) → times_in u (flat_map (λ l. l) (map (owned_by o) parts)) ≡ times u o.parts =
    λ u. times-joined u (map (owned_by o) parts) ∙ sym (times-parts u o parts h.apart h.empty) in
    record {
      fitted = fitted;
      different = once-different _ (λ u. subst (λ n. n ≤ 1) (sym (same u)) (one.once u));
      there = all-below (unit_count s) _ (λ u k. same u ∙ one.within u (subst (λ n. n ≤ u) (sym h.units) k));
    }

-- each partition has a part
pub map-many : (s : SuperPart) (c : Content) (o : Owning) (parts : List ℕ) → IsMapOf s c o parts → length parts ≡ length c.partitions
map-many s c o parts h = sym (length-map parts (owned_by o)) ∙ (ap length h.lists ∙ length-map c.partitions (units_of s c))

-- what is read of the parts at a partition's place
pub own-part : (s : SuperPart) (c : Content) (o : Owning) (parts : List ℕ) (i part : ℕ) → IsMapOf s c o parts → i < length c.partitions → part ≡ get_or parts i part → part ≡ slice_index parts i
own-part s c o parts i part h there e = e ∙ get_or_default parts i part 0 (omega (arith, map-many s c o parts h, there))
