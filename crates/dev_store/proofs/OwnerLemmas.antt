-- Units that are handed out one after another.
use Rattle.std.proofs.Common.{◌≡◌, ℕ, zero, suc, append-nil, drop_of_length-le, ◌+◌, ◌*◌, ◌-◌, ◌<◌, ◌≤◌, Bool, true, false, cond, eqb, not, List, [], ◌∷◌, ◌++◌, length, get_or, set, length-set, take, drop, map, replicate, refl, sym, ap, ◌∙◌, arith, subst, inl, inr, append_assoc}
use Rattle.std.specs.Prelude.{◌&&◌, ◌||◌, nat_lt, nat_eq, ◌==◌, slice_get}
use Rattle.std.specs.List.{list_all, list_any, flat_map, range_with_len}
use Rattle.std.proofs.lemmas.Bool.Decides.{nat_tests}
use Rattle.std.proofs.lemmas.List.{set-get_or}
use Rattle.unit_alloc.specs.Owning.{Owning, units_of, is_owned, times, times_in, handed, unowned}
use Rattle.unit_alloc.proofs.TimesLemmas.{times_in-nil, times_in-cons, times-replicate}
use Rattle.unit_alloc.proofs.HandedLemmas.{times-handed_one, handed-handed}
use Rattle.std.specs.Int.{div_ceil}
use Rattle.super_meta.specs.declared.table.Partition.{Partition}
use Rattle.super_meta.specs.declared.table.Extent.{Extent}
use Rattle.super_meta.specs.Contents.{Content}
use Rattle.super_meta.proofs.NameLemmas.{both, bothly}
use Rattle.dev_store.specs.declared.layout.SuperPart.{SuperPart}
use Rattle.dev_store.specs.LayoutLines.{unit_count}
use Rattle.dev_store.specs.Supers.{are_different, unit_at, units_in, is_at_unit, lies_in_units}
use Rattle.dev_store.specs.Supers.{units_of as units_of_table}
use Rattle.dev_store.specs.SuperBounds.{are_free, claimed}
use Rattle.dev_store.proofs.UnitLemmas.{left-step, left-at}

-- a unit is owned once one was handed out
pub owned-after : (o : Owning) (part u v : ℕ) → part < length o.parts → not (is_owned (handed o part (u ∷ [])) v) ≡ (not (nat_eq u v) && not (is_owned o v))
owned-after o part u v h = let e = times-handed_one v o part u h in grind (arith, nat_tests)

five : (a b c d : Bool) → c ≡ false → ((a && b) && (not c && d)) ≡ (b && (a && d))
five a b true d h = absurd cc
five true true false d h = refl
five true false false d h = refl
five false true false d h = refl
five false false false d h = refl

three : (a b c d : Bool) → ((not a && b) && (not c && d)) ≡ ((not (a || c)) && (b && d))
three true true true true = refl
three true b c d = refl
three false true true true = refl
three false true true false = refl
three false true false true = refl
three false true false false = refl
three false false true d = refl
three false false false d = refl

-- all of these are free after a unit was handed out, where they were so before and it isn't among them
all-after : (o : Owning) (part u : ℕ) (rest : List ℕ) → part < length o.parts →
    list_all (λ v. not (is_owned (handed o part (u ∷ [])) v)) rest ≡ (not (list_any (nat_eq u) rest) && list_all (λ v. not (is_owned o v)) rest)
all-after o part u [] h = refl
all-after o part u (v ∷ rest) h =
    let one = owned-after o part u v h in
    let more = all-after o part u rest h in
    (λ i. one i && more i)
    ∙ three (nat_eq u v) (not (is_owned o v)) (list_any (nat_eq u) rest) (list_all (λ w. not (is_owned o w)) rest)

-- a free unit is handed out
pub free-step : (o : Owning) (part u : ℕ) (rest : List ℕ) → part < length o.parts → is_owned o u ≡ false → are_free o (u ∷ rest) ≡ are_free (handed o part (u ∷ [])) rest
unfolding are_free
free-step o part u rest h free =
    five (not (list_any (nat_eq u) rest)) (are_different rest) (is_owned o u) (list_all (λ v. not (is_owned o v)) rest) free
    ∙ ap (λ b. are_different rest && b) (sym (all-after o part u rest h))

-- an owned one isn't
pub owned-step : (o : Owning) (u : ℕ) (rest : List ℕ) → is_owned o u ≡ true → are_free o (u ∷ rest) ≡ false
unfolding are_free
owned-step o u rest owned = by (not (list_any (nat_eq u) rest) && are_different rest) (list_all (λ v. not (is_owned o v)) rest) (is_owned o u) owned where
  by : (a b c : Bool) → c ≡ true → (a && (not c && b)) ≡ false
  by true b true h = refl
  by true b false h = absurd cc
  by false b c h = refl

-- handing out no unit changes nothing
handed-none : (o : Owning) (part : ℕ) → part < length o.parts → handed o part [] ≡ o
handed-none o part h =
    ap (λ (parts : List (List ℕ)). let n : Owning = record o { parts = parts } in n)
    (ap (set o.parts part) (append-nil (units_of o part)) ∙ set-get_or o.parts part [])

-- units that are handed out in two steps
handed-more : (o : Owning) (part : ℕ) (first second : List ℕ) → part < length o.parts → handed o part (first ++ second) ≡ handed (handed o part first) part second
handed-more o part first second h = sym (handed-handed o part first second h)

handed-many : (o : Owning) (part : ℕ) (list : List ℕ) → length (handed o part list).parts ≡ length o.parts
handed-many o part list = length-set o.parts part (units_of o part ++ list)

free-nil : (o : Owning) (part : ℕ) (ys : List ℕ) → part < length o.parts → are_free o ys ≡ (are_free o [] && are_free (handed o part []) ys)
unfolding are_free
free-nil o part ys h = ap (λ p. are_free p ys) (sym (handed-none o part h))

free-more : (o : Owning) (part u : ℕ) (xs ys : List ℕ) → part < length o.parts → (b : Bool) → is_owned o u ≡ b →
    are_free (handed o part (u ∷ [])) (xs ++ ys) ≡ (are_free (handed o part (u ∷ [])) xs && are_free (handed (handed o part (u ∷ [])) part xs) ys) →
    are_free o (u ∷ (xs ++ ys)) ≡ (are_free o (u ∷ xs) && are_free (handed o part (u ∷ xs)) ys)
free-more o part u xs ys h true e more = owned-step o u (xs ++ ys) e ∙ sym (ap (λ b. b && are_free (handed o part (u ∷ xs)) ys) (owned-step o u xs e))
free-more o part u xs ys h false e more =
    free-step o part u (xs ++ ys) h e
    ∙ (more
    ∙ (ap (λ b. b && are_free (handed (handed o part (u ∷ [])) part xs) ys) (sym (free-step o part u xs h e))
    ∙ ap (λ p. are_free o (u ∷ xs) && are_free p ys) (sym (handed-more o part (u ∷ []) xs h))))

-- units in two steps are free where the first are, and then the second
pub free-append : (o : Owning) (part : ℕ) (xs ys : List ℕ) → part < length o.parts → are_free o (xs ++ ys) ≡ (are_free o xs && are_free (handed o part xs) ys)
free-append o part [] ys h = free-nil o part ys h
free-append o part (u ∷ xs) ys h =
    free-more o part u xs ys h (is_owned o u) refl (free-append (handed o part (u ∷ [])) part xs ys (omega (arith, handed-many o part (u ∷ []))))

-- the first of a range
range-here : (u e : ℕ) → u < e → range_with_len u (e - u) ≡ u ∷ range_with_len (u + 1) (e - (u + 1))
range-here u e h = let n : e - u ≡ suc (e - (u + 1)) = omega arith in ap (range_with_len u) n

not-false : (b : Bool) → not b ≡ false → b ≡ true
not-false true h = refl
not-false false h = absurd cc

not-true : (b : Bool) → not b ≡ true → b ≡ false
not-true true h = absurd cc
not-true false h = refl

pub range-whole : (first count : ℕ) → range_with_len first (first + count - first) ≡ range_with_len first count
range-whole first count = let n : first + count - first ≡ count = omega arith in ap (range_with_len first) n

-- the units before were free, and this one isn't
pub claim-owned : (o : Owning) (u e : ℕ) (b all : Bool) → u < e → b ≡ not (is_owned o u) → b ≡ false → are_free o (range_with_len u (e - u)) ≡ all → false ≡ all
claim-owned o u e b all h d owned f = sym (owned-step o u (range_with_len (u + 1) (e - (u + 1))) (not-false (is_owned o u) (sym d ∙ owned))) ∙ (ap (are_free o) (sym (range-here u e h)) ∙ f)

-- it is
pub claim-free : (o q : Owning) (part u e : ℕ) (b all : Bool) → part < length o.parts → u < e → b ≡ not (is_owned o u) → b ≡ true → q ≡ handed o part (u ∷ []) →
    are_free o (range_with_len u (e - u)) ≡ all → are_free q (range_with_len (u + 1) (e - (u + 1))) ≡ all
claim-free o q part u e b all p h d free n f =
    ap (λ r. are_free r (range_with_len (u + 1) (e - (u + 1)))) n
    ∙ (sym (free-step o part u (range_with_len (u + 1) (e - (u + 1))) p (not-true (is_owned o u) (sym d ∙ free))) ∙ (ap (are_free o) (sym (range-here u e h)) ∙ f))

pub claim-rest : (o q end : Owning) (part u e : ℕ) → part < length o.parts → u < e → q ≡ handed o part (u ∷ []) → handed o part (range_with_len u (e - u)) ≡ end →
    handed q part (range_with_len (u + 1) (e - (u + 1))) ≡ end
claim-rest o q end part u e p h n f =
    ap (λ r. handed r part (range_with_len (u + 1) (e - (u + 1)))) n
    ∙ (sym (handed-more o part (u ∷ []) (range_with_len (u + 1) (e - (u + 1))) p) ∙ (ap (handed o part) (sym (range-here u e h)) ∙ f))

pub claim-many : (o q : Owning) (part : ℕ) (list : List ℕ) → q ≡ handed o part list → length q.parts ≡ length o.parts
claim-many o q part list n = ap (λ r. length r.parts) n ∙ handed-many o part list

-- no unit is left
pub claim-all : (o : Owning) (e u : ℕ) (all : Bool) → e ≤ u → are_free o (range_with_len u (e - u)) ≡ all → true ≡ all
unfolding are_free
claim-all o e u all h f = let n : e - u ≡ 0 = omega arith in ap (λ k. are_free o (range_with_len u k)) (sym n) ∙ f

pub claim-end : (o end : Owning) (part e u : ℕ) → part < length o.parts → e ≤ u → handed o part (range_with_len u (e - u)) ≡ end → o ≡ end
claim-end o end part e u p h f =
    let n : e - u ≡ 0 = omega arith in sym (handed-none o part p) ∙ (ap (λ k. handed o part (range_with_len u k)) (sym n) ∙ f)

-- the next units were owned
pub next-taken : (o : Owning) (part : ℕ) (xs ys : List ℕ) (b all : Bool) → part < length o.parts → b ≡ are_free o xs → b ≡ false → are_free o (xs ++ ys) ≡ all → false ≡ all
next-taken o part xs ys b all p d taken f =
    ap (λ r. r && are_free (handed o part xs) ys) (sym taken ∙ d) ∙ (sym (free-append o part xs ys p) ∙ f)

-- they were free
pub next-free : (o q : Owning) (part : ℕ) (xs ys : List ℕ) (b all : Bool) → part < length o.parts → b ≡ are_free o xs → b ≡ true → q ≡ handed o part xs → are_free o (xs ++ ys) ≡ all →
    are_free q ys ≡ all
next-free o q part xs ys b all p d free n f =
    ap (λ r. are_free r ys) n ∙ (ap (λ r. r && are_free (handed o part xs) ys) (sym free ∙ d) ∙ (sym (free-append o part xs ys p) ∙ f))

pub next-rest : (o q end : Owning) (part : ℕ) (xs ys : List ℕ) → part < length o.parts → q ≡ handed o part xs → handed o part (xs ++ ys) ≡ end → handed q part ys ≡ end
next-rest o q end part xs ys p n f = ap (λ r. handed r part ys) n ∙ (sym (handed-more o part xs ys p) ∙ f)

-- the units of the extents that are left
pub extents-here : (s : SuperPart) (xs : List Extent) (i : ℕ) (d : Extent) (first count : ℕ) → i < length xs → first ≡ unit_at s (get_or xs i d) → count ≡ div_ceil (512 * (get_or xs i d).sectors) s.unit →
    flat_map (units_in s) (drop i xs) ≡ range_with_len first count ++ flat_map (units_in s) (drop (i + 1) xs)
extents-here s xs i d first count h f n =
    ap (flat_map (units_in s)) (left-at xs i d h) ∙ (λ k. range_with_len (sym f k) (sym n k) ++ flat_map (units_in s) (drop (i + 1) xs))

list_all-drop : {X : Type 0} (p : X → Bool) (n : ℕ) (xs : List X) → list_all p xs ≡ true → list_all p (drop n xs) ≡ true
list_all-drop p zero xs h = h
list_all-drop p (suc n) [] h = refl
list_all-drop p (suc n) (x ∷ xs) h = list_all-drop p n xs (both (p x) (list_all p xs) h).1

list_all-take : {X : Type 0} (p : X → Bool) (n : ℕ) (xs : List X) → list_all p xs ≡ true → list_all p (take n xs) ≡ true
list_all-take p zero xs h = refl
list_all-take p (suc n) [] h = refl
list_all-take p (suc n) (x ∷ xs) h = bothly (p x) (list_all p (take n xs)) (both (p x) (list_all p xs) h).0 (list_all-take p n xs (both (p x) (list_all p xs) h).1)

-- each extent of a partition lies as each of the table does
pub lie-part : (s : SuperPart) (xs all : List Extent) (count first : ℕ) → xs ≡ take count (drop first all) → list_all (λ e. is_at_unit s e && lies_in_units s e) all ≡ true →
    list_all (λ e. is_at_unit s e && lies_in_units s e) xs ≡ true
lie-part s xs all count first e h =
    ap (list_all (λ e. is_at_unit s e && lies_in_units s e)) e
    ∙ list_all-take (λ e. is_at_unit s e && lies_in_units s e) count (drop first all) (list_all-drop (λ e. is_at_unit s e && lies_in_units s e) first all h)

units-are : (s : SuperPart) (c : Content) (p : Partition) (xs : List Extent) → xs ≡ take p.count (drop p.first c.extents) → units_of_table s c p ≡ flat_map (units_in s) xs
unfolding units_of_table
units-are s c p xs e = ap (flat_map (units_in s)) (sym e)

-- the units of the partitions that are left
pub partitions-here : (s : SuperPart) (c : Content) (i : ℕ) (p : Partition) (xs : List Extent) → i < length c.partitions → p ≡ get_or c.partitions i p → xs ≡ take p.count (drop p.first c.extents) →
    flat_map (units_of_table s c) (drop i c.partitions) ≡ flat_map (units_in s) xs ++ flat_map (units_of_table s c) (drop (i + 1) c.partitions)
partitions-here s c i p xs h e x =
    ap (flat_map (units_of_table s c)) (left-step c.partitions i p h e) ∙ ap (λ l. l ++ flat_map (units_of_table s c) (drop (i + 1) c.partitions)) (units-are s c p xs x)

pub claimed-here : (s : SuperPart) (c : Content) (o q end : Owning) (i : ℕ) (p : Partition) (xs : List Extent) → i < length c.partitions → p ≡ get_or c.partitions i p → xs ≡ take p.count (drop p.first c.extents) →
    q ≡ handed o i (flat_map (units_in s) xs) → claimed s c o i (drop i c.partitions) ≡ end → claimed s c q (i + 1) (drop (i + 1) c.partitions) ≡ end
claimed-here s c o q end i p xs h e x n f =
    ap (λ r. claimed s c r (i + 1) (drop (i + 1) c.partitions)) (n ∙ ap (handed o i) (sym (units-are s c p xs x)))
    ∙ (sym (ap (claimed s c o i) (left-step c.partitions i p h e)) ∙ f)

-- no extent or partition is left
pub none-free : {X : Type 0} (o : Owning) (xs : List X) (f : X → List ℕ) (i : ℕ) (all : Bool) → length xs ≤ i → are_free o (flat_map f (drop i xs)) ≡ all → true ≡ all
unfolding are_free
none-free o xs f i all h k = ap (λ l. are_free o (flat_map f l)) (sym (drop_of_length-le xs h)) ∙ k

pub none-handed : {X : Type 0} (o end : Owning) (part : ℕ) (xs : List X) (f : X → List ℕ) (i : ℕ) → part < length o.parts → length xs ≤ i → handed o part (flat_map f (drop i xs)) ≡ end → o ≡ end
none-handed o end part xs f i p h k = sym (handed-none o part p) ∙ (ap (λ l. handed o part (flat_map f l)) (sym (drop_of_length-le xs h)) ∙ k)

pub none-claimed : (s : SuperPart) (c : Content) (o end : Owning) (i : ℕ) → length c.partitions ≤ i → claimed s c o i (drop i c.partitions) ≡ end → o ≡ end
none-claimed s c o end i h k = ap (claimed s c o i) (sym (drop_of_length-le c.partitions h)) ∙ k

-- what was read of a list is there in another one that is the same
pub same-item : {X : Type 0} (xs ys : List X) (i : ℕ) (x : X) → xs ≡ ys → x ≡ get_or xs i x → x ≡ get_or ys i x
same-item xs ys i x s e = subst (λ l. x ≡ get_or l i x) s e
