-- Why changes of the table are refused, test by test; and that a part is left for a new partition.
use Rattle.std.proofs.Common.{◌≡◌, ◌≢◌, refl, ap, ℕ, zero, suc, ◌+◌, ◌<◌, ◌≤◌, Bool, true, false, List, [], ◌∷◌, ◌++◌, length, take, drop, arith, Option, Some, None, codes}
use Rattle.std.proofs.lemmas.List.{length-append, length-take-le, length-drop}
use Rattle.std.proofs.lemmas.Option.{slice_get_within}
use Rattle.std.specs.Option.{option_or}
use Rattle.std.specs.Prelude.{not, ◌||◌, ◌==◌, nat_le, slice_get, if◌then◌else◌}
use Rattle.std.specs.List.{list_any}
use Rattle.std.proofs.lemmas.Bool.Decides.{nat_tests}
use Rattle.dev_model.specs.declared.device.Dev.{Dev}
use Rattle.dev_model.specs.Images.{round_up}
use Rattle.dev_model.specs.Options.{first_passed}
use Rattle.dev_model.specs.Partitions.{is_logical, is_partition, is_super}
use Rattle.dev_model.specs.Sizes.{Size, sizes_of, resized, units_fit, groups_fit}
use Rattle.dev_model.specs.Refusals.{created_size}
use Rattle.dev_model.specs.Tables.{is_group}
use Rattle.dev_store.specs.declared.errors.StoreError.{StoreError}
use Rattle.dev_store.specs.declared.errors.StoreError.TheVariants.{NoPartition, NoSpace, GroupFull, NameTaken, TooManyPartitions, NoGroup}
use Rattle.dev_store.specs.Changes.{room_flaw, resize_flaw, create_flaw}
use Rattle.dev_store.proofs.ChangeDelete.{without, any-without}

-- the tests of room in turn
pub room-tests : (dev : Dev) (sizes : List Size) → room_flaw dev sizes ≡ (if units_fit dev.unit dev.units sizes then (if groups_fit dev.groups sizes then None else Some GroupFull) else Some NoSpace)
room-tests dev sizes = by (units_fit dev.unit dev.units sizes) (groups_fit dev.groups sizes)
  where
    by : (units groups : Bool) → first_passed ((not units, NoSpace) ∷ (not groups, GroupFull) ∷ []) ≡ (if units then (if groups then None else Some GroupFull) else Some NoSpace)
    by true true = refl
    by true false = refl
    by false groups = refl

-- the tests of a resize in turn
pub resize-tests : (dev : Dev) (name : List ℕ) (size : ℕ) → resize_flaw dev name size
    ≡ (if is_logical dev name then room_flaw dev (resized name (round_up size) (sizes_of dev.logical)) else Some NoPartition)
resize-tests dev name size = by (is_logical dev name) (room_flaw dev (resized name (round_up size) (sizes_of dev.logical)))
  where
    by : (there : Bool) (room : Option StoreError) → option_or (first_passed ((not there, NoPartition) ∷ [])) room ≡ (if there then room else Some NoPartition)
    by true room = refl
    by false room = refl

-- the tests of a create in turn
pub create-tests : (dev : Dev) (name : List ℕ) (size : ℕ) → create_flaw dev name size
    ≡ (if is_partition dev name || is_super dev name then Some NameTaken
    else (if nat_le 128 (length dev.logical) then Some TooManyPartitions
    else (if is_group dev.groups (codes "default") then room_flaw dev (sizes_of dev.logical ++ created_size name size ∷ []) else Some NoGroup)))
create-tests dev name size =
    by (is_partition dev name || is_super dev name) (nat_le 128 (length dev.logical)) (is_group dev.groups (codes "default")) (room_flaw dev (sizes_of dev.logical ++ created_size name size ∷ []))
  where
    by : (taken many group : Bool) (room : Option StoreError) → option_or (first_passed ((taken, NameTaken) ∷ (many, TooManyPartitions) ∷ (not group, NoGroup) ∷ [])) room
        ≡ (if taken then Some NameTaken else (if many then Some TooManyPartitions else (if group then room else Some NoGroup)))
    by true many group room = refl
    by false true group room = refl
    by false false true room = refl
    by false false false room = refl

-- a number that is among others has a place
pub at-any : (xs : List ℕ) (k : ℕ) → list_any (λ p. p == k) xs ≡ true → (i : ℕ) × (slice_get xs i ≡ Some k)
at-any [] k h = absurd cc
at-any (x ∷ xs) k h = by (x == k) refl h (at-any xs k)
  where
    same : (x == k) ≡ true → x ≡ k
    same e = grind (arith, nat_tests)

    by : (b : Bool) → (x == k) ≡ b → (b || list_any (λ p. p == k) xs) ≡ true → (list_any (λ p. p == k) xs ≡ true → (i : ℕ) × (slice_get xs i ≡ Some k)) → (i : ℕ) × (slice_get (x ∷ xs) i ≡ Some k)
    by true e t more = (zero, ap Some (same e))
    by false e t more = let r = more t in (suc r.0, r.1)

long-without : (xs : List ℕ) (i k : ℕ) → slice_get xs i ≡ Some k → length xs ≡ suc (length (without i xs))
long-without xs i k h =
    let w = slice_get_within xs i k h in
    let a = length-append (take i xs) (drop (i + 1) xs) in
    let b = length-take-le i xs (omega arith) in
    let c = length-drop (i + 1) xs in
    omega arith

-- another number is left where one is taken away
other-left : (xs : List ℕ) (i part k : ℕ) → slice_get xs i ≡ Some part → k ≢ part → list_any (λ p. p == k) xs ≡ true → list_any (λ p. p == k) (without i xs) ≡ true
other-left xs i part k at ne there = by (list_any (λ p. p == k) (without i xs)) refl
  where
    never : (b : Bool) → b ≡ true → b ≡ false → ⊥
    never b h k = cc

    by : (b : Bool) → list_any (λ p. p == k) (without i xs) ≡ b → b ≡ true
    by true e = refl
    by false e = absurd (never (list_any (λ p. p == k) xs) there (any-without i xs part k at ne e))

-- Of numbers that are all there, there are no more than places: so a part is left where fewer than all have one.
pub places-enough : (a n : ℕ) (xs : List ℕ) → ((k : ℕ) → a ≤ k → k < a + n → list_any (λ p. p == k) xs ≡ true) → n ≤ length xs
places-enough a zero xs h = omega arith
places-enough a (suc n) xs h =
    let r = at-any xs a (h a (omega arith) (omega arith)) in
    let more = places-enough (a + 1) n (without r.0 xs) (λ k low high. other-left xs r.0 a k r.1 (λ q. omega arith) (h k (omega arith) (omega arith))) in
    let l = long-without xs r.0 a r.1 in
    omega arith
