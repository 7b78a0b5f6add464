-- What the chains come to, and what a change of one of them leaves.
use Rattle.std.proofs.Common.{◌≡◌, ℕ, zero, suc, ◌+◌, ◌-◌, ◌^◌, ◌<◌, ◌≤◌, ◌≢◌, Bool, true, false, cond, ltb, not, List, Option, Some, None, is_none, [], ◌∷◌, ◌++◌, length, get_or, set, take, map, replicate, count_by, refl, sym, ap, subst, ◌∙◌, ◌&&◌, inl, inr, arith, add-one, length-set}
use Rattle.std.proofs.lemmas.List.{get_or-set_same, get_or-set_other, get_or_read, get_or-map, length-map, length-replicate, get_or-replicate, get_or_past, ext_get_or, take_all}
use Rattle.std.proofs.lemmas.List.Sums.{sum_by_more}
use Rattle.std.proofs.lemmas.Bool.{cases_eq, cases_lt}
use Rattle.std.proofs.lemmas.Bool.Decides.{nat_tests}
use Rattle.unit_alloc.specs.declared.owners.Chain.{Chain}
use Rattle.unit_alloc.specs.Owning.{Owning, OneOwner, IsLowestFree, times, times_in, units_of, handed, unowned, free_units}
use Rattle.unit_alloc.specs.Marks.{free_count, is_free}
use Rattle.unit_alloc.specs.Chains.{stepped, linked, chain_units, chained, IsOwner, IsEnded, no_chain, AreChained}
use Rattle.unit_alloc.proofs.TimesLemmas.{times_in-nil, times_in-cons, times_in-append, times-set, times_in-le-times, times-replicate}
use Rattle.unit_alloc.proofs.MarksLemmas.{is_none-is_free, is_free-within}
use Rattle.unit_alloc.proofs.FreeLemmas.{free_below, free_below-zero, free_below_more, length-free_units_below}
use Rattle.unit_alloc.proofs.HandedLemmas.{times-handed_one, OneOwner-unowned}
use Rattle.unit_alloc.proofs.LinkedLemmas.{length-linked, get_or-linked, linked-zero, stepped_more, times_in-get_or}

-- the units of a part are those of its chain
pub units_of-chained : (owners : List (Option ℕ)) (next : List ℕ) (chains : List Chain) (p : ℕ) → p < length chains →
    units_of (chained owners next chains) p ≡ chain_units next (get_or chains p no_chain)
units_of-chained owners next chains p h = get_or-map (chain_units next) chains p no_chain [] h

pub parts-chained : (owners : List (Option ℕ)) (next : List ℕ) (chains : List Chain) → length (chained owners next chains).parts ≡ length chains
parts-chained owners next chains = length-map chains (chain_units next)

-- a unit of a chain is there
pub stepped-within : (owners : List (Option ℕ)) (next : List ℕ) (chains : List Chain) (p k : ℕ) → AreChained owners next chains → p < length chains → k < (get_or chains p no_chain).count →
    stepped next (get_or chains p no_chain).first k < length next
stepped-within owners next chains p k a hp hk =
    let ch = get_or chains p no_chain in
    let u : ℕ = stepped next ch.first k in
    let m = chained owners next chains in
    let at : get_or (units_of m p) k 0 ≡ u = ap (λ (l : List ℕ). get_or l k 0) (units_of-chained owners next chains p hp) ∙ get_or-linked next ch.first k ch.count hk in
    let some : 0 < times_in u (units_of m p) =
    subst (λ (x : ℕ). 0 < times_in x (units_of m p)) at (times_in-get_or (units_of m p) k (omega (arith, ap (length {A = ℕ}) (units_of-chained owners next chains p hp), length-linked next ch.first ch.count))) in
    let le = times_in-le-times u m.parts p (omega (arith, parts-chained owners next chains)) in
    elim (cases_lt u (length next)) [
      | inl lt ↦ lt
      | inr ge ↦ let z = a.one.within u (omega (arith, a.long)) in absurd (omega arith)
    ]

-- a unit that one part has isn't another's
pub apart : (m : Owning) (p q u : ℕ) → OneOwner m → p < length m.parts → q < length m.parts → p ≢ q → 0 < times_in u (units_of m p) → times_in u (units_of m q) ≡ 0
apart m p q u one hp hq ne some =
    let s = times-set u m.parts p [] hp in
    let z = times_in-nil u in
    let o = one.once u in
    let le = times_in-le-times u (set m.parts p []) q (omega (arith, length-set m.parts p [])) in
    let same : times_in u (get_or (set m.parts p []) q []) ≡ times_in u (units_of m q) = ap (times_in u) (get_or-set_other m.parts p q [] [] (λ e. ne (sym e))) in
    omega arith

-- the lists of the parts where one chain is another and the others' units stay
pub parts-set : (next next' : List ℕ) (chains : List Chain) (p : ℕ) (ch : Chain) (list : List ℕ) → p < length chains → chain_units next' ch ≡ list →
    ((q : ℕ) → q < length chains → q ≢ p → chain_units next' (get_or chains q no_chain) ≡ chain_units next (get_or chains q no_chain)) →
    map (chain_units next') (set chains p ch) ≡ set (map (chain_units next) chains) p list
parts-set next next' chains p ch list hp e same =
    let n = length-set chains p ch in
    let l = length-map (set chains p ch) (chain_units next') in
    let r = length-set (map (chain_units next) chains) p list in
    let s = length-map chains (chain_units next) in
    ext_get_or [] (map (chain_units next') (set chains p ch)) (set (map (chain_units next) chains) p list) (omega arith)
    (λ q hq. get_or-map (chain_units next') (set chains p ch) q no_chain [] (omega arith) ∙ elim (cases_eq q p) [
      | inl here ↦
          ap (λ k. chain_units next' (get_or (set chains p ch) k no_chain)) here
          ∙ ap (chain_units next') (get_or-set_same chains p ch no_chain hp)
          ∙ e
          ∙ sym (get_or-set_same (map (chain_units next) chains) p list [] (omega arith))
          ∙ ap (λ k. get_or (set (map (chain_units next) chains) p list) k []) (sym here)
      | inr ne ↦
          ap (chain_units next') (get_or-set_other chains p q ch no_chain ne)
          ∙ same q (omega arith) ne
          ∙ sym (get_or-map (chain_units next) chains q no_chain [] (omega arith))
          ∙ sym (get_or-set_other (map (chain_units next) chains) p q list [] ne)
    ])

-- a part's list is one of all, also where there is no such part
times_in-le : (u : ℕ) (parts : List (List ℕ)) (p : ℕ) → times_in u (get_or parts p []) ≤ times u parts
times_in-le u parts p = elim (cases_lt p (length parts)) [
  | inl lt ↦ times_in-le-times u parts p lt
  | inr ge ↦ let e : times_in u (get_or parts p []) ≡ 0 = ap (times_in u) (get_or_past parts p [] ge) ∙ times_in-nil u in omega arith
]

-- a unit has no owner where no part has it
is_none-IsOwner : (parts : List (List ℕ)) (u : ℕ) (o : Option ℕ) → IsOwner parts u o → is_none o ≡ not (ltb 0 (times u parts))
is_none-IsOwner parts u None h = let t : ltb 0 (times u parts) ≡ false = grind (arith, nat_tests) in sym (ap not t)
is_none-IsOwner parts u (Some p) h = let le = times_in-le u parts p in let t : ltb 0 (times u parts) ≡ true = grind (arith, nat_tests) in sym (ap not t)

module _ (owners : List (Option ℕ)) (next : List ℕ) (chains : List Chain) (a : AreChained owners next chains) where
  pub is_free-chained : (u : ℕ) → u < length owners → is_free owners u ≡ not (ltb 0 (times u (chained owners next chains).parts))
  is_free-chained u h = is_none-is_free owners u h ∙ is_none-IsOwner (chained owners next chains).parts u (get_or owners u None) (a.owned u h)

  free_below-chained : (i : ℕ) → i ≤ length owners → count_by is_none (take i owners) ≡ free_below (chained owners next chains) i
  free_below-chained zero h = sym (free_below-zero (chained owners next chains))
  free_below-chained (suc i) h =
      let m = chained owners next chains in
      let more = sum_by_more (λ (x : Option ℕ). cond {A = ℕ} (is_none x) 1 0) owners i None (omega arith) in
      let below = free_below_more m i in
      let one : cond {A = ℕ} (is_none (get_or owners i None)) 1 0 ≡ cond {A = ℕ} (not (ltb 0 (times i m.parts))) 1 0 =
      ap (λ (b : Bool). cond {A = ℕ} b 1 0) (is_none-IsOwner m.parts i (get_or owners i None) (a.owned i (omega arith))) in
      let ih = free_below-chained i (omega arith) in
      let l : count_by is_none (take (suc i) owners) ≡ count_by is_none (take (i + 1) owners) = ap (λ k. count_by is_none (take k owners)) (sym (add-one i)) in
      let r : free_below m (i + 1) ≡ free_below m (suc i) = ap (free_below m) (add-one i) in
      omega arith

  -- as many units are free as have no owner
  pub free_count-chained : free_count owners ≡ length (free_units (chained owners next chains))
  unfolding free_count
  free_count-chained =
      ap (count_by is_none) (sym (take_all (length owners) owners (omega arith)))
      ∙ free_below-chained (length owners) (omega arith)
      ∙ sym (length-free_units_below (chained owners next chains))

-- another unit goes to a part
pub IsOwner-handed : (m : Owning) (p u v : ℕ) (o : Option ℕ) → p < length m.parts → u ≢ v → IsOwner m.parts v o → IsOwner (handed m p (u ∷ [])).parts v o
IsOwner-handed m p u v None hp ne h = let e = times-handed_one v m p u hp in grind (arith, nat_tests)
IsOwner-handed m p u v (Some q) hp ne h = elim (cases_eq q p) [
  | inl e ↦
      let same : get_or (set m.parts p (units_of m p ++ u ∷ [])) q [] ≡ units_of m p ++ u ∷ [] =
      ap (λ k. get_or (set m.parts p (units_of m p ++ u ∷ [])) k []) e ∙ get_or-set_same m.parts p (units_of m p ++ u ∷ []) [] hp in
      let t : times_in v (get_or (set m.parts p (units_of m p ++ u ∷ [])) q []) ≡ times_in v (units_of m p) + times_in v (u ∷ []) = ap (times_in v) same ∙ times_in-append v (units_of m p) (u ∷ []) in
      let s : times_in v (get_or m.parts q []) ≡ times_in v (units_of m p) = ap (λ k. times_in v (get_or m.parts k [])) e in
      omega arith
  | inr n ↦
      let t : times_in v (get_or (set m.parts p (units_of m p ++ u ∷ [])) q []) ≡ times_in v (get_or m.parts q []) = ap (times_in v) (get_or-set_other m.parts p q (units_of m p ++ u ∷ []) [] n) in
      omega arith
]

-- the unit itself is the part's
pub IsOwner-handed_same : (m : Owning) (p u : ℕ) → p < length m.parts → IsOwner (handed m p (u ∷ [])).parts u (Some p)
IsOwner-handed_same m p u hp =
    let t : times_in u (get_or (set m.parts p (units_of m p ++ u ∷ [])) p []) ≡ times_in u (units_of m p) + times_in u (u ∷ []) =
    ap (times_in u) (get_or-set_same m.parts p (units_of m p ++ u ∷ []) [] hp) ∙ times_in-append u (units_of m p) (u ∷ []) in
    let c = times_in-cons u u [] in
    grind (arith, nat_tests)

-- a unit that a part has isn't free
pub owned-chained : (owners : List (Option ℕ)) (next : List ℕ) (chains : List Chain) → AreChained owners next chains → (u : ℕ) →
    0 < times u (chained owners next chains).parts → is_free owners u ≡ false
owned-chained owners next chains a u some = elim (cases_lt u (length owners)) [
  | inl lt ↦ let t : ltb 0 (times u (chained owners next chains).parts) ≡ true = grind (arith, nat_tests) in is_free-chained owners next chains a u lt ∙ ap not t
  | inr ge ↦ let t : ltb u (length owners) ≡ false = grind (arith, nat_tests) in ap (λ b. b && is_none (get_or owners u None)) t
]

-- a unit that no part has is free
pub free-chained : (owners : List (Option ℕ)) (next : List ℕ) (chains : List Chain) → AreChained owners next chains → (u : ℕ) → u < length owners →
    times u (chained owners next chains).parts ≡ 0 → is_free owners u ≡ true
free-chained owners next chains a u lt none =
    let t : ltb 0 (times u (chained owners next chains).parts) ≡ false = grind (arith, nat_tests) in is_free-chained owners next chains a u lt ∙ ap not t

-- what the test tells of a number of times
unowned-chained : (t : ℕ) → not (ltb 0 t) ≡ true → t ≡ 0
unowned-chained t h = grind (arith, nat_tests)

some-chained : (t : ℕ) → not (ltb 0 t) ≡ false → 0 < t
some-chained t h = grind (arith, nat_tests)

-- the lowest unit that has no owner
pub lowest-chained : (owners : List (Option ℕ)) (next : List ℕ) (chains : List Chain) → AreChained owners next chains → (u : ℕ) →
    is_free owners u ≡ true → ((k : ℕ) → k < u → is_free owners k ≡ false) → IsLowestFree (chained owners next chains) u
lowest-chained owners next chains a u free below =
    let w = is_free-within owners u free in
    record {
      there = w.0;
      free = unowned-chained (times u (chained owners next chains).parts) (sym (is_free-chained owners next chains a u w.0) ∙ free);
      lowest = λ k lt. some-chained (times k (chained owners next chains).parts) (sym (is_free-chained owners next chains a k (omega (arith, w.0))) ∙ below k lt);
    }

-- the chains seen as owners
pub part-view : (owners : List (Option ℕ)) (next : List ℕ) (chains : List Chain) (m : Owning) (p : ℕ) → chained owners next chains ≡ m → p < length m.parts → p < length chains
part-view owners next chains m p e h =
    let l : length (chained owners next chains).parts ≡ length m.parts = ap (λ (n : Owning). length n.parts) e in
    omega (arith, parts-chained owners next chains)

pub unit-view : (owners : List (Option ℕ)) (next : List ℕ) (chains : List Chain) (m : Owning) → chained owners next chains ≡ m → length owners ≡ m.units
unit-view owners next chains m e = ap (λ (n : Owning). n.units) e

-- what is read of a part's chain
pub chain-read : (chains : List Chain) (p : ℕ) (ch : Chain) → p < length chains → ch ≡ get_or chains p ch → ch ≡ get_or chains p no_chain
chain-read chains p ch h e = get_or_read chains p ch h e no_chain

pub units_of-view : (owners : List (Option ℕ)) (next : List ℕ) (chains : List Chain) (m : Owning) (p : ℕ) (ch : Chain) → chained owners next chains ≡ m → p < length m.parts → ch ≡ get_or chains p ch →
    units_of m p ≡ linked next ch.first ch.count
units_of-view owners next chains m p ch e h r =
    let hp = part-view owners next chains m p e h in
    ap (λ (n : Owning). units_of n p) (sym e) ∙ units_of-chained owners next chains p hp ∙ ap (chain_units next) (sym (chain-read chains p ch hp r))

-- how many units a chain has
pub length-view : (owners : List (Option ℕ)) (next : List ℕ) (chains : List Chain) (m : Owning) (p : ℕ) (ch : Chain) → chained owners next chains ≡ m → p < length m.parts → ch ≡ get_or chains p ch →
    length (units_of m p) ≡ ch.count
length-view owners next chains m p ch e h r = ap (length {A = ℕ}) (units_of-view owners next chains m p ch e h r) ∙ length-linked next ch.first ch.count

-- each step on a chain leads to a unit that is there
pub steps-view : (owners : List (Option ℕ)) (next : List ℕ) (chains : List Chain) (m : Owning) (p : ℕ) (ch : Chain) → chained owners next chains ≡ m → p < length m.parts → ch ≡ get_or chains p ch →
    AreChained owners next chains → (k : ℕ) → k < ch.count → stepped next ch.first k < length next
steps-view owners next chains m p ch e h r a k lt =
    let hp = part-view owners next chains m p e h in
    let read = chain-read chains p ch hp r in
    let n : ch.count ≡ (get_or chains p no_chain).count = ap (λ (x : Chain). x.count) read in
    let f : stepped next ch.first k ≡ stepped next (get_or chains p no_chain).first k = ap (λ (x : Chain). stepped next x.first k) read in
    let w = stepped-within owners next chains p k a hp (omega arith) in
    omega arith

-- the unit at a place of a part's list
pub unit_at-view : (owners : List (Option ℕ)) (next : List ℕ) (chains : List Chain) (m : Owning) (p place : ℕ) (ch : Chain) → chained owners next chains ≡ m → p < length m.parts → ch ≡ get_or chains p ch →
    place < ch.count → stepped next ch.first place ≡ get_or (units_of m p) place 0
unit_at-view owners next chains m p place ch e h r lt =
    sym (get_or-linked next ch.first place ch.count lt) ∙ ap (λ (l : List ℕ). get_or l place 0) (sym (units_of-view owners next chains m p ch e h r))

-- the unit that follows another of a part's list
pub next-view : (owners : List (Option ℕ)) (next : List ℕ) (chains : List Chain) (m : Owning) (p place last : ℕ) → chained owners next chains ≡ m → AreChained owners next chains →
    p < length m.parts → place < length (units_of m p) → 0 < place → last ≡ get_or (units_of m p) (place - 1) 0 →
    (last < length next) × (get_or next last 0 ≡ get_or (units_of m p) place 0)
next-view owners next chains m p place last e a h inside later is =
    let hp = part-view owners next chains m p e h in
    let ch : Chain = get_or chains p no_chain in
    let list : units_of m p ≡ linked next ch.first ch.count = ap (λ (n : Owning). units_of n p) (sym e) ∙ units_of-chained owners next chains p hp in
    let n = ap (length {A = ℕ}) list ∙ length-linked next ch.first ch.count in
    let before : last ≡ stepped next ch.first (place - 1) = is ∙ ap (λ (l : List ℕ). get_or l (place - 1) 0) list ∙ get_or-linked next ch.first (place - 1) ch.count (omega (arith, n)) in
    let here : get_or (units_of m p) place 0 ≡ stepped next ch.first place = ap (λ (l : List ℕ). get_or l place 0) list ∙ get_or-linked next ch.first place ch.count (omega (arith, n)) in
    let step : stepped next ch.first place ≡ get_or next (stepped next ch.first (place - 1)) 0 = ap (λ (k : ℕ). stepped next ch.first k) (omega arith) ∙ stepped_more next ch.first (place - 1) in (
      subst (λ (u : ℕ). u < length next) (sym before) (stepped-within owners next chains p (place - 1) a hp (omega (arith, n))),
      ap (λ (u : ℕ). get_or next u 0) before ∙ sym step ∙ sym here,
    )

-- the same value of the same parts
pub AreChained-same : (owners owners' : List (Option ℕ)) (next next' : List ℕ) (chains chains' : List Chain) → owners ≡ owners' → next ≡ next' → chains ≡ chains' →
    AreChained owners' next' chains' → AreChained owners next chains
AreChained-same owners owners' next next' chains chains' o n c a =
    subst (λ (x : List (Option ℕ)). AreChained x next chains) (sym o) (subst (λ (x : List ℕ). AreChained owners' x chains) (sym n) (subst (λ (x : List Chain). AreChained owners' next' x) (sym c) a))

pub chained-same : (owners owners' : List (Option ℕ)) (next next' : List ℕ) (chains chains' : List Chain) → owners ≡ owners' → next ≡ next' → chains ≡ chains' →
    chained owners next chains ≡ chained owners' next' chains'
chained-same owners owners' next next' chains chains' o n c = λ i. chained (o i) (n i) (c i)

map-replicate : (f : Chain → List ℕ) (n : ℕ) (ch : Chain) (l : List ℕ) → f ch ≡ l → map f (replicate n ch) ≡ replicate n l
map-replicate f zero ch l e = refl
map-replicate f (suc n) ch l e = λ i. e i ∷ map-replicate f n ch l e i

-- no unit stands in chains of none
parts-none : (next : List ℕ) (parts : ℕ) → map (chain_units next) (replicate parts no_chain) ≡ replicate parts []
parts-none next parts = map-replicate (chain_units next) parts no_chain [] (linked-zero next 0)

pub chained-none : (next : List ℕ) (units parts : ℕ) → chained (replicate units None) next (replicate parts no_chain) ≡ unowned units parts
chained-none next units parts = λ i. record { units = length-replicate {A = Option ℕ} units None i; parts = parts-none next parts i }

pub AreChained-none : (next : List ℕ) (units parts : ℕ) → length next ≡ units → units < 2 ^ 32 → AreChained (replicate units None) next (replicate parts no_chain)
AreChained-none next units parts n small =
    let l = length-replicate {A = Option ℕ} units None in
    record {
      one = subst OneOwner (sym (chained-none next units parts)) (OneOwner-unowned units parts);
      owned = λ u lt. subst (IsOwner (map (chain_units next) (replicate parts no_chain)) u) (sym (get_or-replicate units u None None (omega arith)))
          (ap (times u) (parts-none next parts) ∙ times-replicate u parts);
      ended = λ p lt. subst (IsEnded next) (sym (get_or-replicate parts p no_chain no_chain (omega (arith, length-replicate {A = Chain} parts no_chain)))) (λ h. absurd (omega arith));
      long = n ∙ sym l;
      small = omega arith;
    }
