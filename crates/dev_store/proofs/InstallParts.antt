-- The parts of a map of units where a table is installed: a part for each entry, and what the map has after it.
use Rattle.std.proofs.Common.{◌≡◌, ◌≢◌, ◌∙◌, refl, ap, sym, subst, ℕ, zero, suc, ◌+◌, ◌<◌, ◌≤◌, Bool, true, false, cond, not, List, [], ◌∷◌, map, length, drop, get_or, set, arith, Option, Some, None, inl, inr}
use Rattle.std.specs.Prelude.{◌⊎◌, ◌&&◌, ◌||◌, ◌==◌, nat_lt, slice_get, bytes_eq, option_map, if◌then◌else◌, IsFalse}
use Rattle.std.specs.List.{list_all, list_any, position_or_len}
use Rattle.std.proofs.lemmas.List.{length-set, get_or-set_same, get_or-set_other, get_or_past}
use Rattle.std.proofs.lemmas.Option.{slice_get-map, slice_get_within, slice_get-get_or}
use Rattle.std.proofs.lemmas.Bool.Decides.{nat_tests}
use Rattle.std.proofs.lemmas.Slice.Eq.{bytes_eq-Decides}
use Rattle.fb_frame.specs.Distinct.{are_distinct}
use Rattle.dev_model.proofs.Valid.{both}
use Rattle.unit_alloc.specs.Owning.{Owning, units_of, with_units}
use Rattle.super_meta.specs.declared.table.Partition.{Partition}
use Rattle.dev_store.specs.declared.table_install.Keeps.{Keeps}
use Rattle.dev_store.specs.Installing.{keeps}
use Rattle.dev_store.specs.InstallParts.{released, AreAllTaken, AreApart, HaveAll, IsFilled}
use Rattle.dev_store.proofs.UnitLemmas.{left-at}
use Rattle.dev_store.proofs.ChangeFlaws.{places-enough, at-any}
use Rattle.dev_store.proofs.ChangeMaps.{once-rest, once-other}
use Rattle.dev_store.proofs.ChangeUnits.{AreOnce}

-- ---- numbers in lists

same-if : (a b : ℕ) → a ≡ b → (a == b) ≡ true
same-if a b h = grind (arith, nat_tests)

pub other-if : (a b : ℕ) → a ≢ b → (a == b) ≡ false
other-if a b h = by (a == b) refl
  where
    is : (a == b) ≡ true → a ≡ b
    is e = grind (arith, nat_tests)

    by : (x : Bool) → (a == b) ≡ x → x ≡ false
    by true e = absurd (h (is e))
    by false e = refl

-- a number that stands somewhere is among them
pub any-at : (xs : List ℕ) (i k : ℕ) → slice_get xs i ≡ Some k → list_any (λ p. p == k) xs ≡ true
any-at [] i k h = absurd cc
any-at (x ∷ xs) zero k h = let e : x ≡ k = cc in ap (λ b. b || list_any (λ p. p == k) xs) (same-if x k e)
any-at (x ∷ xs) (suc i) k h = right (x == k) (list_any (λ p. p == k) xs) (any-at xs i k h)
  where
    right : (a b : Bool) → b ≡ true → (a || b) ≡ true
    right true b e = refl
    right false b e = e

pub none-at : (xs : List ℕ) (i k : ℕ) → list_any (λ p. p == k) xs ≡ false → slice_get xs i ≡ Some k → ⊥
none-at xs i k h e = never (list_any (λ p. p == k) xs) (any-at xs i k e) h
  where
    never : (b : Bool) → b ≡ true → b ≡ false → ⊥
    never b h k = cc

all-by : (test : ℕ → Bool) (xs : List ℕ) → ((i k : ℕ) → slice_get xs i ≡ Some k → test k ≡ true) → list_all test xs ≡ true
all-by test [] h = refl
all-by test (x ∷ xs) h = (λ j. h 0 x refl j && list_all test xs) ∙ all-by test xs (λ i k e. h (suc i) k e)

pub by-all : (test : ℕ → Bool) (xs : List ℕ) (i k : ℕ) → list_all test xs ≡ true → slice_get xs i ≡ Some k → test k ≡ true
by-all test [] i k h e = absurd cc
by-all test (x ∷ xs) zero k h e = let q : x ≡ k = cc in subst (λ y. test y ≡ true) q (both (test x) (list_all test xs) h).0
by-all test (x ∷ xs) (suc i) k h e = by-all test xs i k (both (test x) (list_all test xs) h).1 e

-- what stands in a list in which a place was set
set-same : (xs : List ℕ) (i y k : ℕ) → slice_get (set xs i y) i ≡ Some k → k ≡ y
set-same [] i y k h = absurd cc
set-same (x ∷ xs) zero y k h = let e : y ≡ k = cc in sym e
set-same (x ∷ xs) (suc i) y k h = set-same xs i y k h

set-other : (xs : List ℕ) (i j y : ℕ) → j ≢ i → slice_get (set xs i y) j ≡ slice_get xs j
set-other [] i j y ne = refl
set-other (x ∷ xs) zero zero y ne = absurd (ne refl)
set-other (x ∷ xs) zero (suc j) y ne = refl
set-other (x ∷ xs) (suc i) zero y ne = refl
set-other (x ∷ xs) (suc i) (suc j) y ne = set-other xs i j y (λ e. ne (ap suc e))

map-set : {Y : Type 0} (f : ℕ → Y) (xs : List ℕ) (i x y : ℕ) → slice_get xs i ≡ Some x → f y ≡ f x → map f (set xs i y) ≡ map f xs
map-set f [] i x y h e = refl
map-set f (z ∷ xs) zero x y h e = let q : z ≡ x = cc in ap (λ t. t ∷ map f xs) (e ∙ ap f (sym q))
map-set f (z ∷ xs) (suc i) x y h e = ap (λ l. f z ∷ l) (map-set f xs i x y h e)

same-or : (a b : ℕ) → (a ≡ b) ⊎ (a ≢ b)
same-or zero zero = inl refl
same-or zero (suc b) = inr (λ e. omega arith)
same-or (suc a) zero = inr (λ e. omega arith)
same-or (suc a) (suc b) = by (same-or a b)
  where
    by : (a ≡ b) ⊎ (a ≢ b) → (suc a ≡ suc b) ⊎ (suc a ≢ suc b)
    by (inl e) = inl (ap suc e)
    by (inr n) = inr (λ e. n (omega arith))

-- ---- filling

-- Up to a place each number is a part, and the list stands for the one before.
pub record IsFilling (i : ℕ) (old now : List ℕ) : Type 0 where
  pub many : length now ≡ length old
  pub front : (j part : ℕ) → j < i → slice_get now j ≡ Some part → part < 128
  pub small : (j part : ℕ) → slice_get now j ≡ Some part → part ≤ 128
  pub apart : AreApart old → AreApart now
  pub units : (o : Owning) → length o.parts ≡ 128 → HaveAll o old → map (units_of o) now ≡ map (units_of o) old
  pub all : (o : Owning) → length o.parts ≡ 128 → HaveAll o old → HaveAll o now

lt-of : (k : ℕ) → nat_lt k 129 ≡ true → k ≤ 128
lt-of k h = grind (arith, nat_tests)

lt-is : (k : ℕ) → k < 128 → nat_lt k 128 ≡ true
lt-is k h = grind (arith, nat_tests)

pub filling-start : (xs : List ℕ) → list_all (λ part. nat_lt part 129) xs ≡ true → IsFilling 0 xs xs
filling-start xs h = record {
  many = refl;
  front = λ j part l e. absurd (omega arith);
  small = λ j part e. lt-of part (by-all (λ part. nat_lt part 129) xs j part h e);
  apart = λ a. a;
  units = λ o m a. refl;
  all = λ o m a. a;
}

pub filling-end : (i : ℕ) (old now : List ℕ) → length now ≤ i → IsFilling i old now → IsFilled old now
filling-end i old now h f = record {
  many = f.many;
  there = all-by (λ part. nat_lt part 128) now (λ j k e. lt-is k (f.front j k (let w = slice_get_within now j k e in omega arith) e));
  apart = f.apart;
  units = f.units;
  all = f.all;
}

-- a part stands at the place
pub filling-there : (i part : ℕ) (old now : List ℕ) → slice_get now i ≡ Some part → (part == 128) ≡ false → IsFilling i old now → IsFilling (i + 1) old now
filling-there i part old now at ne f = record {
  many = f.many;
  front = λ j k l e. by (same-or j i) j k l e;
  small = f.small;
  apart = f.apart;
  units = f.units;
  all = f.all;
}
  where
    one : (k : ℕ) → Some part ≡ Some k → part ≡ k
    one k e = cc

    by : {j : ℕ} → (j ≡ i) ⊎ (j ≢ i) → (j k : ℕ) → j < i + 1 → slice_get now j ≡ Some k → k < 128
    by d j k l e = here (same-or j i)
      where
        here : (j ≡ i) ⊎ (j ≢ i) → k < 128
        here (inl q) = let p = one k (sym at ∙ (ap (slice_get now) (sym q) ∙ e)) in let s = f.small j k e in grind (arith, nat_tests)
        here (inr n) = f.front j k (let m : j ≢ i = n in omega arith) e

-- no part stands there, and one that is free takes its place
pub filling-next : (i part : ℕ) (old now : List ℕ) → slice_get now i ≡ Some 128 → part < 128 → list_any (λ p. p == part) now ≡ false → IsFilling i old now → IsFilling (i + 1) old (set now i part)
filling-next i part old now at inside free f = record {
  many = length-set now i part ∙ f.many;
  front = λ j k l e. front j k l e (same-or j i);
  small = λ j k e. small j k e (same-or j i);
  apart = λ a j l k below e g. apart (f.apart a) j l k below e g (same-or j i) (same-or l i);
  units = λ o m a. map-set (units_of o) now i 128 part at (f.all o m a part free ∙ sym (get_or_past o.parts 128 [] (omega (arith, m)))) ∙ f.units o m a;
  all = λ o m a k none. all o m (f.all o m a) k none;
}
  where
    back : (j k : ℕ) → j ≢ i → slice_get (set now i part) j ≡ Some k → slice_get now j ≡ Some k
    back j k n e = sym (set-other now i j part n) ∙ e

    own : (j k : ℕ) → j ≡ i → slice_get (set now i part) j ≡ Some k → k ≡ part
    own j k q e = set-same now i part k (ap (slice_get (set now i part)) (sym q) ∙ e)

    front : (j k : ℕ) → j < i + 1 → slice_get (set now i part) j ≡ Some k → (j ≡ i) ⊎ (j ≢ i) → k < 128
    front j k l e (inl q) = let o = own j k q e in omega arith
    front j k l e (inr n) = f.front j k (let m : j ≢ i = n in omega arith) (back j k n e)

    small : (j k : ℕ) → slice_get (set now i part) j ≡ Some k → (j ≡ i) ⊎ (j ≢ i) → k ≤ 128
    small j k e (inl q) = let o = own j k q e in omega arith
    small j k e (inr n) = f.small j k (back j k n e)

    apart : AreApart now → (j l k : ℕ) → k < 128 → slice_get (set now i part) j ≡ Some k → slice_get (set now i part) l ≡ Some k → (j ≡ i) ⊎ (j ≢ i) → (l ≡ i) ⊎ (l ≢ i) → j ≡ l
    apart a j l k below e g (inl q) (inl r) = q ∙ sym r
    apart a j l k below e g (inl q) (inr n) = absurd (none-at now l part free (back l k n g ∙ ap Some (own j k q e)))
    apart a j l k below e g (inr n) (inl r) = absurd (none-at now j part free (back j k n e ∙ ap Some (own l k r g)))
    apart a j l k below e g (inr n) (inr m) = a j l k below (back j k n e) (back l k m g)

    all : (o : Owning) → length o.parts ≡ 128 → HaveAll o now → (k : ℕ) → IsFalse (list_any (λ p. p == k) (set now i part)) → units_of o k ≡ []
    all o m a k none = by (list_any (λ p. p == k) now) refl
      where
        here : (p : (j : ℕ) × (slice_get now j ≡ Some k)) → (p.0 ≡ i) ⊎ (p.0 ≢ i) → units_of o k ≡ []
        here p (inl q) = ap (λ k. get_or o.parts k []) (one (sym p.1 ∙ (ap (slice_get now) q ∙ at))) ∙ get_or_past o.parts 128 [] (omega (arith, m))
          where
            one : Some k ≡ Some 128 → k ≡ 128
            one e = cc
        here p (inr n) = absurd (none-at (set now i part) p.0 k none (set-other now i p.0 part n ∙ p.1))

        by : (b : Bool) → list_any (λ p. p == k) now ≡ b → units_of o k ≡ []
        by true e = let p = at-any now k e in here p (same-or p.0 i)
        by false e = a k e

-- where no part stands at a place, one is free
pub not-all : (i : ℕ) (now : List ℕ) → length now ≤ 128 → slice_get now i ≡ Some 128 → AreAllTaken now → ⊥
not-all i now few at all =
    let n = places-enough 0 129 now (λ k low high. by k (same-or k 128) high) in
    omega (arith, n, few)
  where
    by : (k : ℕ) → (k ≡ 128) ⊎ (k ≢ 128) → k < 0 + 129 → list_any (λ p. p == k) now ≡ true
    by k (inl e) high = subst (λ k. list_any (λ p. p == k) now ≡ true) (sym e) (any-at now i 128 at)
    by k (inr n) high = all k (let m : k ≢ 128 = n in omega arith)

pub place-is : (xs : List ℕ) (i d x : ℕ) → i < length xs → x ≡ get_or xs i d → slice_get xs i ≡ Some x
place-is xs i d x h e = slice_get-get_or xs i d h ∙ ap Some (sym e)

-- ---- what is released

pub released-step : (k : Keeps) (ps : List Partition) (parts : List ℕ) (o : Owning) (i : ℕ) (p : Partition) → i < length ps → i < length parts →
    released k (drop i ps) (drop i parts) o ≡ released k (drop (i + 1) ps) (drop (i + 1) parts) (if keeps k (get_or ps i p).name then o else with_units o (get_or parts i 0) [])
released-step k ps parts o i p h g = λ j. released k (left-at ps i p h j) (left-at parts i 0 g j) o

pub release-step : (k : Keeps) (ps : List Partition) (parts : List ℕ) (o next all : Owning) (i : ℕ) (p : Partition) (b : Bool) (name : List ℕ) → i < length ps → i < length parts → p ≡ get_or ps i p →
    b ≡ keeps k name → name ≡ p.name → next ≡ (if b then o else with_units o (get_or parts i 0) []) → released k (drop i ps) (drop i parts) o ≡ all → released k (drop (i + 1) ps) (drop (i + 1) parts) next ≡ all
release-step k ps parts o next all i p b name h g e is n m so =
    let same : b ≡ keeps k (get_or ps i p).name = is ∙ (ap (keeps k) n ∙ ap (λ (q : Partition). keeps k q.name) e) in
    ap (released k (drop (i + 1) ps) (drop (i + 1) parts)) (m ∙ ap (λ x. if x then o else with_units o (get_or parts i 0) []) same)
    ∙ (sym (released-step k ps parts o i p h g) ∙ so)

pub released-units : (k : Keeps) (ps : List Partition) (parts : List ℕ) (o : Owning) → (released k ps parts o).units ≡ o.units
released-units k [] parts o = refl
released-units k (p ∷ ps) [] o = refl
released-units k (p ∷ ps) (part ∷ parts) o = released-units k ps parts (if keeps k p.name then o else with_units o part []) ∙ by (keeps k p.name)
  where
    by : (b : Bool) → (if b then o else with_units o part []).units ≡ o.units
    by true = refl
    by false = refl

step-many : (b : Bool) (o : Owning) (part : ℕ) → length (if b then o else with_units o part []).parts ≡ length o.parts
step-many true o part = refl
step-many false o part = length-set o.parts part []

pub released-many : (k : Keeps) (ps : List Partition) (parts : List ℕ) (o : Owning) → length (released k ps parts o).parts ≡ length o.parts
released-many k [] parts o = refl
released-many k (p ∷ ps) [] o = refl
released-many k (p ∷ ps) (part ∷ parts) o = released-many k ps parts (if keeps k p.name then o else with_units o part []) ∙ step-many (keeps k p.name) o part

-- a part of none of them has the units that it had
step-off : (b : Bool) (o : Owning) (part other : ℕ) → other ≢ part → units_of (if b then o else with_units o part []) other ≡ units_of o other
step-off true o part other n = refl
step-off false o part other n = get_or-set_other o.parts part other [] [] n

pub released-off : (k : Keeps) (ps : List Partition) (parts : List ℕ) (o : Owning) (other : ℕ) → list_any (λ p. p == other) parts ≡ false → units_of (released k ps parts o) other ≡ units_of o other
released-off k [] parts o other h = refl
released-off k (p ∷ ps) [] o other h = refl
released-off k (p ∷ ps) (part ∷ parts) o other h =
    let b = apart (part == other) (list_any (λ p. p == other) parts) h in
    released-off k ps parts (if keeps k p.name then o else with_units o part []) other b.1 ∙ step-off (keeps k p.name) o part other (λ e. never (part == other) (same-if part other (sym e)) b.0)
  where
    apart : (a b : Bool) → (a || b) ≡ false → (a ≡ false) × (b ≡ false)
    apart true b e = absurd cc
    apart false b e = (refl, e)

    never : (b : Bool) → b ≡ true → b ≡ false → ⊥
    never b h k = cc

-- the part of a partition has its units where that is kept, and else none
pub released-at : (k : Keeps) (ps : List Partition) (parts : List ℕ) (o : Owning) (i part : ℕ) (p : Partition) → AreOnce parts → slice_get parts i ≡ Some part → slice_get ps i ≡ Some p → part < length o.parts →
    units_of (released k ps parts o) part ≡ (if keeps k p.name then units_of o part else [])
released-at k [] parts o i part p once at here inside = absurd cc
released-at k (q ∷ ps) [] o i part p once at here inside = absurd cc
released-at k (q ∷ ps) (x ∷ parts) o zero part p once at here inside =
    let e : x ≡ part = cc in
    let f : q ≡ p = cc in
    subst (λ y. units_of (released k ps parts (if keeps k q.name then o else with_units o x [])) y ≡ (if keeps k p.name then units_of o y else [])) e
    (released-off k ps parts (if keeps k q.name then o else with_units o x []) x (alone (list_any (λ p. p == x) parts) refl)
    ∙ (by (keeps k q.name) ∙ ap (λ (r : Partition). if keeps k r.name then units_of o x else []) f))
  where
    alone : (b : Bool) → list_any (λ p. p == x) parts ≡ b → b ≡ false
    alone true e = let a = at-any parts x e in absurd (once-other x parts once a.0 x a.1 refl)
    alone false e = refl

    below : x < length o.parts
    below = let e : x ≡ part = cc in omega arith

    by : (b : Bool) → units_of (if b then o else with_units o x []) x ≡ (if b then units_of o x else [])
    by true = refl
    by false = get_or-set_same o.parts x [] [] below
released-at k (q ∷ ps) (x ∷ parts) o (suc i) part p once at here inside =
    let n = once-other x parts once i part at in
    released-at k ps parts (if keeps k q.name then o else with_units o x []) i part p (once-rest x parts once) at here (let m = step-many (keeps k q.name) o x in omega arith)
    ∙ ap (λ l. if keeps k p.name then l else []) (step-off (keeps k q.name) o x part n)

-- ---- names

alone : (ns : List (List ℕ)) (i : ℕ) (x : List ℕ) → not (list_any (λ y. bytes_eq y x) ns) ≡ true → slice_get ns i ≡ Some x → ⊥
alone [] i x d e = cc
alone (y ∷ ns) zero x d e = let q : y ≡ x = cc in never (bytes_eq y x) (list_any (λ y. bytes_eq y x) ns) ((bytes_eq-Decides y x).1 q) d
  where
    never : (a b : Bool) → a ≡ true → not (a || b) ≡ true → ⊥
    never true b h k = cc
    never false b h k = cc
alone (y ∷ ns) (suc i) x d e = alone ns i x (rest (bytes_eq y x) (list_any (λ y. bytes_eq y x) ns) d) e
  where
    rest : (a b : Bool) → not (a || b) ≡ true → not b ≡ true
    rest true b h = absurd cc
    rest false b h = h

-- a name stands at one place
pub named-once : (ns : List (List ℕ)) (i j : ℕ) (n : List ℕ) → are_distinct ns ≡ true → slice_get ns i ≡ Some n → slice_get ns j ≡ Some n → i ≡ j
named-once [] i j n d e f = absurd cc
named-once (x ∷ ns) zero zero n d e f = refl
named-once (x ∷ ns) zero (suc j) n d e f = let q : x ≡ n = cc in absurd (alone ns j x (both _ _ d).0 (f ∙ ap Some (sym q)))
named-once (x ∷ ns) (suc i) zero n d e f = let q : x ≡ n = cc in absurd (alone ns i x (both _ _ d).0 (e ∙ ap Some (sym q)))
named-once (x ∷ ns) (suc i) (suc j) n d e f = ap suc (named-once ns i j n (both _ _ d).1 e f)

-- numbers of distinct names, where below 128 different names have different ones
pub parts-apart : (g : List ℕ → ℕ) → ((n m : List ℕ) → g n < 128 → g n ≡ g m → n ≡ m) → (ns : List (List ℕ)) → are_distinct ns ≡ true → AreApart (map g ns)
parts-apart g inj ns d i j part below e f = by (slice_get ns i) (slice_get ns j) refl refl (sym (slice_get-map g ns i) ∙ e) (sym (slice_get-map g ns j) ∙ f)
  where
    is : (x : ℕ) → Some x ≡ Some part → x ≡ part
    is x e = cc

    by : (a b : Option (List ℕ)) → slice_get ns i ≡ a → slice_get ns j ≡ b → option_map g a ≡ Some part → option_map g b ≡ Some part → i ≡ j
    by None b x y k l = absurd cc
    by (Some n) None x y k l = absurd cc
    by (Some n) (Some m) x y k l =
        let same : n ≡ m = inj n m (let q = is (g n) k in omega arith) (is (g n) k ∙ sym (is (g m) l)) in
        named-once ns i j m d (x ∙ ap Some same) y

-- the first partition of a name
pub first-named : (test : Partition → Bool) (ps : List Partition) → position_or_len test ps < length ps → (p : Partition) × ((slice_get ps (position_or_len test ps) ≡ Some p) × (test p ≡ true))
first-named test [] h = absurd (omega arith)
first-named test (p ∷ ps) h = by (test p) refl h (first-named test ps)
  where
    by : (b : Bool) → test p ≡ b → cond (not b) (1 + position_or_len test ps) 0 < suc (length ps) → (position_or_len test ps < length ps → (q : Partition) × ((slice_get ps (position_or_len test ps) ≡ Some q) × (test q ≡ true))) →
        (q : Partition) × ((slice_get (p ∷ ps) (cond (not b) (1 + position_or_len test ps) 0) ≡ Some q) × (test q ≡ true))
    by true e k more = (p, (refl, e))
    by false e k more =
        let r = more (omega arith) in
        let n : 1 + position_or_len test ps ≡ suc (position_or_len test ps) = omega arith in
        (r.0, (ap (slice_get (p ∷ ps)) n ∙ r.1.0, r.1.1))
