-- What a change of one part of the map leaves of the units of each partition.
use Rattle.std.proofs.Common.{◌≡◌, ◌≢◌, ◌∙◌, refl, ap, sym, ℕ, suc, ◌+◌, ◌<◌, ◌≤◌, Bool, true, false, cond, List, map, [], ◌∷◌, length, get_or, arith, Some, None, inl, inr}
use Rattle.std.specs.Prelude.{◌⊎◌, not, nat_le, slice_get, bytes_eq}
use Rattle.std.specs.List.{position_or_len}
use Rattle.std.proofs.lemmas.List.{get_or-set_same, get_or-set_other, get_or_past}
use Rattle.std.proofs.lemmas.Option.{slice_get_cases, slice_get_within}
use Rattle.std.proofs.lemmas.Bool.Decides.{leb_tells}
use Rattle.std.proofs.lemmas.Slice.Eq.{bytes_eq-Decides}
use Rattle.dev_model.specs.declared.device.Logical.{Logical}
use Rattle.unit_alloc.specs.Owning.{Owning, times, times_in, with_units, units_of}
use Rattle.unit_alloc.proofs.TimesLemmas.{times_in-nil, times_in-le-times}
use Rattle.dev_store.specs.Held.{units_by}
use Rattle.dev_store.proofs.ChangeNamed.{by_name, at-name, by-place}

-- each part stands once
abbrev pub AreOnce : List ℕ → Type 0
AreOnce parts = (i j part : ℕ) → slice_get parts i ≡ Some part → slice_get parts j ≡ Some part → i ≡ j

-- the first of that name has it
place-named : (name : List ℕ) (logical : List Logical) (d : Logical) → position_or_len (at-name name) logical < length logical → (get_or logical (position_or_len (at-name name) logical) d).name ≡ name
place-named name [] d h = absurd (omega arith)
place-named name (p ∷ logical) d h = by (bytes_eq p.name name) refl (place-named name logical d) h
  where
    by : (b : Bool) → bytes_eq p.name name ≡ b → (position_or_len (at-name name) logical < length logical → (get_or logical (position_or_len (at-name name) logical) d).name ≡ name) →
        cond (not b) (1 + position_or_len (at-name name) logical) 0 < suc (length logical) →
        (get_or (p ∷ logical) (cond (not b) (1 + position_or_len (at-name name) logical) 0) d).name ≡ name
    by true e more k = (bytes_eq-Decides p.name name).0 e
    by false e more k =
        let n : 1 + position_or_len (at-name name) logical ≡ suc (position_or_len (at-name name) logical) = omega arith in
        ap (λ i. (get_or (p ∷ logical) i d).name) n ∙ more (omega arith)

-- partitions of different names have different parts
pub parts-differ : (parts : List ℕ) (logical : List Logical) (name other : List ℕ) (k part : ℕ) → length parts ≡ length logical → AreOnce parts → other ≢ name →
    slice_get parts (position_or_len (at-name name) logical) ≡ Some part → slice_get parts (position_or_len (at-name other) logical) ≡ Some k → k ≢ part
parts-differ parts logical name other k part many once ne h g e =
    let d : Logical = record { name = []; attributes = 0; group = []; bytes = [] } in
    let same : position_or_len (at-name other) logical ≡ position_or_len (at-name name) logical = once _ _ part (g ∙ ap Some e) h in
    let w = slice_get_within parts (position_or_len (at-name name) logical) part h in
    let v = slice_get_within parts (position_or_len (at-name other) logical) k g in
    ne (sym (place-named other logical d (omega arith)) ∙ (ap (λ i. (get_or logical i d).name) same ∙ place-named name logical d (omega arith)))

-- the units of a part after another list for one
with-own : (o : Owning) (part : ℕ) (list : List ℕ) → part < length o.parts → units_of (with_units o part list) part ≡ list
with-own o part list h = get_or-set_same o.parts part list [] h

with-other : (o : Owning) (part k : ℕ) (list : List ℕ) → k ≢ part → units_of (with_units o part list) k ≡ units_of o k
with-other o part k list ne = get_or-set_other o.parts part k list [] ne

-- the partition of a name has the new list, and each other one its own
pub named-own : (o : Owning) (parts : List ℕ) (logical : List Logical) (name list : List ℕ) (part : ℕ) → length parts ≡ length logical → part < length o.parts →
    slice_get parts (position_or_len (at-name name) logical) ≡ Some part → by_name (with_units o part list) parts logical name ≡ list
named-own o parts logical name list part many h g =
    by-place (with_units o part list) parts logical name many ∙ (ap (units_by (Some (with_units o part list))) g ∙ with-own o part list h)

pub named-other : (o : Owning) (parts : List ℕ) (logical : List Logical) (name other list : List ℕ) (part : ℕ) → length parts ≡ length logical → AreOnce parts → other ≢ name →
    slice_get parts (position_or_len (at-name name) logical) ≡ Some part → by_name (with_units o part list) parts logical other ≡ by_name o parts logical other
named-other o parts logical name other list part many once ne g =
    by-place (with_units o part list) parts logical other many ∙ (by (slice_get_cases parts (position_or_len (at-name other) logical)).1 ∙ sym (by-place o parts logical other many))
  where
    by : ((k : ℕ) × (position_or_len (at-name other) logical < length parts) × (slice_get parts (position_or_len (at-name other) logical) ≡ Some k)
        × (get_or parts (position_or_len (at-name other) logical) k ≡ k)) ⊎ ((length parts ≤ position_or_len (at-name other) logical) × (slice_get parts (position_or_len (at-name other) logical) ≡ None)) →
        units_by (Some (with_units o part list)) (slice_get parts (position_or_len (at-name other) logical)) ≡ units_by (Some o) (slice_get parts (position_or_len (at-name other) logical))
    by (inl (k, l, e, q)) =
        ap (units_by (Some (with_units o part list))) e
        ∙ (with-other o part k list (parts-differ parts logical name other k part many once ne g e) ∙ sym (ap (units_by (Some o)) e))
    by (inr (l, e)) = ap (units_by (Some (with_units o part list))) e ∙ sym (ap (units_by (Some o)) e)

-- a part has a unit at most as often as all have it
times-part : (u : ℕ) (o : Owning) (p : ℕ) → times_in u (units_of o p) ≤ times u o.parts
times-part u o p = by (leb_tells (length o.parts) p)
  where
    by : ((nat_le (length o.parts) p ≡ true) × (length o.parts ≤ p)) ⊎ ((nat_le (length o.parts) p ≡ false) × (p < length o.parts)) → times_in u (units_of o p) ≤ times u o.parts
    by (inl (e, h)) = let z = ap (times_in u) (get_or_past o.parts p [] h) in let n = times_in-nil u in omega arith
    by (inr (e, h)) = times_in-le-times u o.parts p h

-- a partition has a unit at most as often as all have it
pub times-of : (u : ℕ) (o : Owning) (parts : List ℕ) (logical : List Logical) (name : List ℕ) → length parts ≡ length logical → times_in u (by_name o parts logical name) ≤ times u o.parts
times-of u o parts logical name many = by (slice_get_cases parts (position_or_len (at-name name) logical)).1
  where
    by : ((k : ℕ) × (position_or_len (at-name name) logical < length parts) × (slice_get parts (position_or_len (at-name name) logical) ≡ Some k)
        × (get_or parts (position_or_len (at-name name) logical) k ≡ k)) ⊎ ((length parts ≤ position_or_len (at-name name) logical) × (slice_get parts (position_or_len (at-name name) logical) ≡ None)) →
        times_in u (by_name o parts logical name) ≤ times u o.parts
    by (inl (k, l, e, a)) = let x = ap (times_in u) (by-place o parts logical name many ∙ ap (units_by (Some o)) e) in let t = times-part u o k in omega arith
    by (inr (l, e)) = let x = ap (times_in u) (by-place o parts logical name many ∙ ap (units_by (Some o)) e) in let z = times_in-nil u in omega arith

-- places are found by names alone
pub place-names : (name : List ℕ) (ps qs : List Logical) → map (λ p. p.name) ps ≡ map (λ p. p.name) qs → position_or_len (at-name name) ps ≡ position_or_len (at-name name) qs
place-names name [] [] h = refl
place-names name [] (q ∷ qs) h = absurd cc
place-names name (p ∷ ps) [] h = absurd cc
place-names name (p ∷ ps) (q ∷ qs) h =
    let head : p.name ≡ q.name = cc in
    let rest = place-names name ps qs cc in
    λ i. cond (not (bytes_eq (head i) name)) (1 + rest i) 0

pub by-alike : (o : Owning) (parts : List ℕ) (ps qs : List Logical) (name : List ℕ) → length parts ≡ length ps → length parts ≡ length qs → map (λ p. p.name) ps ≡ map (λ p. p.name) qs →
    by_name o parts ps name ≡ by_name o parts qs name
by-alike o parts ps qs name m n h =
    by-place o parts ps name m ∙ (ap (λ k. units_by (Some o) (slice_get parts k)) (place-names name ps qs h) ∙ sym (by-place o parts qs name n))
