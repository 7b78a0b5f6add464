-- What a change of one part's list leaves: how often a unit stands in the lists, and how many units there are.
use Rattle.std.proofs.Common.{◌≡◌, ℕ, ◌+◌, ◌*◌, ◌<◌, ◌≤◌, true, false, cond, eqb, List, [], ◌∷◌, ◌++◌, length, get_or, set, take, drop, replicate, sum_by, refl, sym, ap, ◌∙◌, inl, inr, arith, append_assoc}
use Rattle.std.proofs.lemmas.List.{get_or-set_same, get_or-set_other, set-set}
use Rattle.std.proofs.lemmas.List.Sums.{sum_by-set, get_or-le-sum_by}
use Rattle.std.proofs.lemmas.List.Folds.{sum_by-replicate}
use Rattle.std.proofs.lemmas.Bool.{cases_eq}
use Rattle.std.proofs.lemmas.Bool.Decides.{nat_tests}
use Rattle.unit_alloc.specs.Owning.{Owning, times_in, times, OneOwner, free_units, units_of, handed, kept, with_units, unowned}
use Rattle.unit_alloc.proofs.TimesLemmas.{times_in-nil, times_in-cons, times_in-append, times_in-take-drop, times-set, times-replicate}
use Rattle.unit_alloc.proofs.FreeLemmas.{total, free_units-lowest}

pub times-handed : (u : ℕ) (m : Owning) (p : ℕ) (l : List ℕ) → p < length m.parts → times u (handed m p l).parts ≡ times u m.parts + times_in u l
times-handed u m p l h =
    let s = times-set u m.parts p (units_of m p ++ l) h in
    let e = times_in-append u (units_of m p) l in
    omega arith

-- one unit is handed out
pub times-handed_one : (u : ℕ) (m : Owning) (p x : ℕ) → p < length m.parts → times u (handed m p (x ∷ [])).parts ≡ times u m.parts + cond (eqb x u) 1 0
times-handed_one u m p x h =
    let e = times-handed u m p (x ∷ []) h in
    let c = times_in-cons u x [] in
    let n = times_in-nil u in
    omega arith

pub times-kept : (u : ℕ) (m : Owning) (p k : ℕ) → p < length m.parts → times u (kept m p k).parts + times_in u (drop k (units_of m p)) ≡ times u m.parts
times-kept u m p k h =
    let s = times-set u m.parts p (take k (units_of m p)) h in
    let e = times_in-take-drop u k (units_of m p) in
    omega arith

pub OneOwner-handed : (m : Owning) (p x : ℕ) → p < length m.parts → OneOwner m → x < m.units → times x m.parts ≡ 0 → OneOwner (handed m p (x ∷ []))
OneOwner-handed m p x h one high free = record {
  once = λ u. let e = times-handed_one u m p x h in let o = one.once u in grind (arith, nat_tests);
  within = λ u le. let e = times-handed_one u m p x h in let o = one.within u le in grind (arith, nat_tests);
}

pub OneOwner-kept : (m : Owning) (p k : ℕ) → p < length m.parts → OneOwner m → OneOwner (kept m p k)
OneOwner-kept m p k h one = record {
  once = λ u. let e = times-kept u m p k h in let o = one.once u in omega arith;
  within = λ u le. let e = times-kept u m p k h in let o = one.within u le in omega arith;
}

-- units that are handed out in two steps
pub handed-handed : (m : Owning) (p : ℕ) (xs ys : List ℕ) → p < length m.parts → handed (handed m p xs) p ys ≡ handed m p (xs ++ ys)
handed-handed m p xs ys h =
    ap (λ (parts : List (List ℕ)). let n : Owning = record m { parts = parts } in n) (
    set-set m.parts p (units_of m p ++ xs) (get_or (set m.parts p (units_of m p ++ xs)) p [] ++ ys)
    ∙ ap (λ l. set m.parts p (l ++ ys)) (get_or-set_same m.parts p (units_of m p ++ xs) [] h)
    ∙ ap (λ l. set m.parts p l) (append_assoc (units_of m p) xs ys)
    )

pub total-set : (parts : List (List ℕ)) (p : ℕ) (l : List ℕ) → p < length parts → total (set parts p l) + length (get_or parts p []) ≡ total parts + length l
unfolding total
total-set parts p l h = sum_by-set (length {A = ℕ}) parts p l [] h

-- the lowest free unit is handed out
pub free_units-handed : (m : Owning) (p u : ℕ) → p < length m.parts → u < m.units → times u m.parts ≡ 0 → ((k : ℕ) → k < u → 0 < times k m.parts) →
    free_units m ≡ u ∷ free_units (handed m p (u ∷ []))
free_units-handed m p u h high free below =
    let here = times-handed_one u m p u h in
    free_units-lowest m (handed m p (u ∷ [])) u refl high free (grind (arith, nat_tests)) below
    (λ k ne. let e = times-handed_one k m p u h in grind (arith, nat_tests))

pub total-replicate : (n : ℕ) → total (replicate n []) ≡ 0
unfolding total
total-replicate n =
    let e : sum_by (length {A = ℕ}) (replicate n []) ≡ n * 0 = sum_by-replicate (length {A = ℕ}) n [] in
    grind arith

-- the units of one part after another's list changed, or its own
pub units_of-with_units : (p q : ℕ) (m : Owning) (l : List ℕ) → q < length m.parts → units_of (with_units m p l) q ≡ cond (eqb p q) l (units_of m q)
units_of-with_units p q m l h = elim (cases_eq p q) [
  | inl e ↦ let t : eqb p q ≡ true = grind (arith, nat_tests) in
      ap (λ r. get_or (set m.parts r l) q []) e ∙ get_or-set_same m.parts q l [] h ∙ ap (λ b. cond b l (units_of m q)) (sym t)
  | inr ne ↦ let t : eqb p q ≡ false = grind (arith, nat_tests) in
      get_or-set_other m.parts p q l [] (λ e. ne (sym e)) ∙ ap (λ b. cond b l (units_of m q)) (sym t)
]

-- no part has more units than all
pub length-le-total : (parts : List (List ℕ)) (p : ℕ) → p < length parts → length (get_or parts p []) ≤ total parts
unfolding total
length-le-total parts p h = get_or-le-sum_by (length {A = ℕ}) parts p [] h

-- no part has a unit
pub OneOwner-unowned : (units parts : ℕ) → OneOwner (unowned units parts)
OneOwner-unowned units parts = record {
  once = λ u. let e = times-replicate u parts in omega arith;
  within = λ u le. times-replicate u parts;
}
