-- What a partition is that was found by its name.
use Rattle.std.proofs.Common.{◌≡◌, ◌∙◌, refl, ap, sym, subst, ℕ, zero, suc, ◌<◌, Bool, true, false, cond, List, [], ◌∷◌, map, find, length, Option, Some, None, option_map, get_or, if◌then◌else◌, arith}
use Rattle.std.specs.Prelude.{bytes_eq, nat_lt}
use Rattle.std.specs.Option.{option_or}
use Rattle.std.specs.List.{list_all, AllByRecursion}
use Rattle.std.proofs.lemmas.Bool.Decides.{nat_tests}
use Rattle.dev_model.specs.declared.device.Dev.{Dev}
use Rattle.dev_model.specs.Partitions.{bytes_of, is_partition, is_logical}
use Rattle.dev_model.proofs.Valid.{both}
use Rattle.super_meta.specs.declared.table.Partition.{Partition}
use Rattle.super_meta.specs.declared.table.Group.{Group}
use Rattle.super_meta.specs.Held.{group_name}
use Rattle.dev_store.specs.declared.layout.PhysicalPart.{PhysicalPart}
use Rattle.dev_store.specs.declared.variables_row.Facts.{Facts}
use Rattle.dev_store.specs.Supers.{bytes_in}
use Rattle.dev_store.specs.StoreCalls.{kind_of}
use Rattle.dev_store.specs.ToldRows.{told_device, told_physical, told_logical, part_extents}
use Rattle.dev_store.proofs.ToldLemmas.{zeros-long}
use Rattle.dev_store.proofs.ZeroedTold.{or-length}

-- the kind, by whether there is a partition and whether there is a logical one
pub kind-told : (d : Dev) (n m : List ℕ) (part logical : Bool) → m ≡ n → part ≡ is_partition d m → logical ≡ is_logical d m → (if part then Some logical else None) ≡ kind_of d n
kind-told d n m part logical e p l =
    ap (λ b. if b then Some logical else None) p ∙ (ap (λ b. if is_partition d m then Some b else None) l ∙ ap (kind_of d) e)

-- the first of a name among what is told
pub find-told : {X Y : Type 0} (n : List ℕ) (name : X → List ℕ) (own : Y → List ℕ) (told : X → Y) → ((x : X) → own (told x) ≡ name x) → (xs : List X) →
    find (λ y. bytes_eq (own y) n) (map told xs) ≡ option_map told (find (λ x. bytes_eq (name x) n) xs)
find-told n name own told same [] = refl
find-told n name own told same (x ∷ xs) =
    ap (λ m. cond (bytes_eq m n) (Some (told x)) (find (λ y. bytes_eq (own y) n) (map told xs))) (same x)
    ∙ by (bytes_eq (name x) n) (find-told n name own told same xs)
  where
    by : (b : Bool) → find (λ y. bytes_eq (own y) n) (map told xs) ≡ option_map told (find (λ x. bytes_eq (name x) n) xs) →
        cond b (Some (told x)) (find (λ y. bytes_eq (own y) n) (map told xs)) ≡ option_map told (cond b (Some x) (find (λ x. bytes_eq (name x) n) xs))
    by true h = refl
    by false h = h

-- what holds of all holds of the first
pub find-all : {X : Type 0} (P : X → Type 0) (test : X → Bool) (xs : List X) (x : X) → AllByRecursion P xs → Some x ≡ find test xs → P x
find-all P test [] x a h = absurd cc
find-all P test (y ∷ xs) x a h = by (test y) (find-all P test xs x a.1) h
  where
    by : (b : Bool) → (Some x ≡ find test xs → P x) → Some x ≡ cond b (Some y) (find test xs) → P x
    by true more k = let e : x ≡ y = cc in subst P (sym e) a.0
    by false more k = more k

pub find-passes : {X : Type 0} (q test : X → Bool) (xs : List X) (x : X) → list_all q xs ≡ true → Some x ≡ find test xs → q x ≡ true
find-passes q test [] x a h = absurd cc
find-passes q test (y ∷ xs) x a h =
    let p = both (q y) (list_all q xs) a in
    by p.0 (test y) (find-passes q test xs x p.1) h
  where
    by : q y ≡ true → (b : Bool) → (Some x ≡ find test xs → q x ≡ true) → Some x ≡ cond b (Some y) (find test xs) → q x ≡ true
    by own true more k = let e : x ≡ y = cc in ap q e ∙ own
    by own false more k = more k

-- the length of the first
physical-length : (o : Option PhysicalPart) → option_map length (option_map (λ p. p.bytes) (option_map told_physical o)) ≡ option_map (λ p. p.size) o
physical-length None = refl
physical-length (Some p) = ap Some (zeros-long p.size)

logical-length : (f : Facts) (o : Option Partition) → option_map length (option_map (λ p. p.bytes) (option_map (told_logical f.extents.now) o)) ≡ option_map (λ p. bytes_in (part_extents f.extents.now p)) o
logical-length f None = refl
logical-length f (Some p) = ap Some (zeros-long (bytes_in (part_extents f.extents.now p)))

pub length-told : (f : Facts) (n : List ℕ) →
    option_map length (bytes_of (told_device f) n)
    ≡ option_or (option_map (λ p. p.size) (find (λ p. bytes_eq p.name n) f.physical.now)) (option_map (λ p. bytes_in (part_extents f.extents.now p)) (find (λ p. bytes_eq p.name n) f.logical.now))
length-told f n =
    let a = find-told n (λ p. p.name) (λ p. p.name) told_physical (λ p. refl) f.physical.now in
    let b = find-told n (λ p. p.name) (λ p. p.name) (told_logical f.extents.now) (λ p. refl) f.logical.now in
    or-length _ _
    ∙ (ap (λ o. option_or (option_map length (option_map (λ p. p.bytes) o)) (option_map length (option_map (λ p. p.bytes) (find (λ p. bytes_eq p.name n) (map (told_logical f.extents.now) f.logical.now))))) a
    ∙ (ap (λ o. option_or (option_map length (option_map (λ p. p.bytes) (option_map told_physical (find (λ p. bytes_eq p.name n) f.physical.now)))) (option_map length (option_map (λ p. p.bytes) o))) b
    ∙ (ap (λ o. option_or o (option_map length (option_map (λ p. p.bytes) (option_map (told_logical f.extents.now) (find (λ p. bytes_eq p.name n) f.logical.now))))) (physical-length (find (λ p. bytes_eq p.name n) f.physical.now))
    ∙ ap (option_or (option_map (λ p. p.size) (find (λ p. bytes_eq p.name n) f.physical.now))) (logical-length f (find (λ p. bytes_eq p.name n) f.logical.now)))))

-- the group at a place
pub group-at : (gs : List Group) (place : ℕ) (d : Group) → place < length gs → (get_or gs place d).name ≡ group_name gs place
group-at [] place d h = absurd (omega arith)
group-at (g ∷ gs) zero d h = refl
group-at (g ∷ gs) (suc place) d h = group-at gs place d (omega arith)

pub below : (a b : ℕ) → nat_lt a b ≡ true → a < b
below a b h = grind (arith, nat_tests)
