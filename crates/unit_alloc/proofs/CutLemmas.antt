-- A part's chain cut behind its first units, and the others given back.
use Rattle.std.proofs.Common.{◌≡◌, ℕ, ◌-◌, ◌<◌, ◌≤◌, ◌≢◌, Bool, true, false, cond, eqb, List, Option, Some, None, IsSome, [], ◌∷◌, length, get_or, set, take, drop, map, refl, sym, ap, subst, ◌∙◌, inl, inr, arith, length-set}
use Rattle.std.proofs.lemmas.List.{get_or-set_same, get_or-set_other, get_or_past}
use Rattle.std.proofs.lemmas.Bool.{cases_eq, cases_lt}
use Rattle.std.proofs.lemmas.Bool.Decides.{nat_tests}
use Rattle.unit_alloc.specs.declared.owners.Chain.{Chain}
use Rattle.unit_alloc.specs.Owning.{Owning, OneOwner, times, times_in, units_of, kept}
use Rattle.unit_alloc.specs.Chains.{stepped, linked, chain_units, chained, IsOwner, IsEnded, no_chain, AreChained, shorter, freed, AreOwned}
use Rattle.unit_alloc.proofs.TimesLemmas.{times_in-cons, times_in-nil, times_in-take-drop, times_in-le-times}
use Rattle.unit_alloc.proofs.HandedLemmas.{OneOwner-kept, times-kept}
use Rattle.unit_alloc.proofs.LinkedLemmas.{take-linked, drop-linked}
use Rattle.unit_alloc.proofs.ChainedLemmas.{units_of-chained, parts-chained, parts-set, part-view, chain-read}

pub length-freed : (owners : List (Option ℕ)) (l : List ℕ) → length (freed owners l) ≡ length owners
length-freed owners [] = refl
length-freed owners (x ∷ l) = length-freed (set owners x None) l ∙ length-set owners x None

get_or-set_none : (owners : List (Option ℕ)) (x v : ℕ) → get_or (set owners x None) v None ≡ cond (eqb v x) None (get_or owners v None)
get_or-set_none owners x v = elim (cases_eq v x) [
  | inl e ↦
      let t : eqb v x ≡ true = grind (arith, nat_tests) in
      ap (λ k. get_or (set owners x None) k None) e
      ∙ elim (cases_lt x (length owners)) [
        | inl lt ↦ get_or-set_same owners x None None lt
        | inr ge ↦ get_or_past (set owners x None) x None (omega (arith, length-set owners x None))
      ]
      ∙ ap (λ b. cond b None (get_or owners v None)) (sym t)
  | inr ne ↦
      let t : eqb v x ≡ false = grind (arith, nat_tests) in
      get_or-set_other owners x v None None ne ∙ ap (λ b. cond b None (get_or owners v None)) (sym t)
]

-- a unit that was given back has no owner, and another has the same
get_or-freed : (owners : List (Option ℕ)) (l : List ℕ) (v : ℕ) → get_or (freed owners l) v None ≡ cond (eqb (times_in v l) 0) (get_or owners v None) None
get_or-freed owners [] v =
    let z = times_in-nil v in
    let t : eqb (times_in v []) 0 ≡ true = grind (arith, nat_tests) in
    ap (λ b. cond b (get_or owners v None) None) (sym t)
get_or-freed owners (x ∷ l) v =
    let c = times_in-cons v x l in
    get_or-freed (set owners x None) l v
    ∙ ap (λ o. cond (eqb (times_in v l) 0) o None) (get_or-set_none owners x v)
    ∙ elim (cases_eq v x) [
      | inl e ↦
          let t : eqb v x ≡ true = grind (arith, nat_tests) in
          let r : eqb (times_in v (x ∷ l)) 0 ≡ false = grind (arith, nat_tests) in
          ap (λ b. cond (eqb (times_in v l) 0) (cond b None (get_or owners v None)) None) t
          ∙ elim (eqb (times_in v l) 0) as (λ b. cond {A = Option ℕ} b None None ≡ None) [ true ↦ refl | false ↦ refl ]
          ∙ ap (λ b. cond b (get_or owners v None) None) (sym r)
      | inr ne ↦
          let t : eqb v x ≡ false = grind (arith, nat_tests) in
          let r : eqb (times_in v (x ∷ l)) 0 ≡ eqb (times_in v l) 0 = grind (arith, nat_tests) in
          ap (λ b. cond (eqb (times_in v l) 0) (cond b None (get_or owners v None)) None) t
          ∙ ap (λ b. cond b (get_or owners v None) None) (sym r)
    ]

-- units that have owners, none twice, have them in turn
AreOwned-distinct : (owners : List (Option ℕ)) (l : List ℕ) → ((v : ℕ) → times_in v l ≤ 1) → ((v : ℕ) → 0 < times_in v l → (v < length owners) × IsSome (get_or owners v None)) → AreOwned owners l
AreOwned-distinct owners [] once some = tt
AreOwned-distinct owners (x ∷ l) once some =
    let cx = times_in-cons x x l in
    let ox = once x in
    let here : 0 < times_in x (x ∷ l) = grind (arith, nat_tests) in
    let gone : times_in x l ≡ 0 = grind (arith, nat_tests) in
    let s = some x here in (
      s.0,
      s.1,
      AreOwned-distinct (set owners x None) l
          (λ v. let c = times_in-cons v x l in let o = once v in omega arith)
          (λ v h.
          let c = times_in-cons v x l in
          let r = some v (omega arith) in
          let ne : v ≢ x = λ e. let q : times_in v l ≡ times_in x l = ap (λ k. times_in k l) e in omega arith in
          (omega (arith, r.0, length-set owners x None), subst IsSome (sym (get_or-set_other owners x v None None ne)) r.1)),
    )

-- a unit that a part has is no free one
IsSome-IsOwner : (parts : List (List ℕ)) (u : ℕ) (o : Option ℕ) → IsOwner parts u o → 0 < times u parts → IsSome o
IsSome-IsOwner parts u None h some = absurd (omega arith)
IsSome-IsOwner parts u (Some p) h some = refl

-- a unit that the part doesn't lose
IsOwner-kept : (m : Owning) (p k v : ℕ) (o : Option ℕ) → p < length m.parts → times_in v (drop k (units_of m p)) ≡ 0 → IsOwner m.parts v o → IsOwner (kept m p k).parts v o
IsOwner-kept m p k v None hp z h = let e = times-kept v m p k hp in omega arith
IsOwner-kept m p k v (Some q) hp z h = elim (cases_eq q p) [
  | inl e ↦
      let l : times_in v (get_or (set m.parts p (take k (units_of m p))) q []) ≡ times_in v (take k (units_of m p)) =
      ap (λ j. times_in v (get_or (set m.parts p (take k (units_of m p))) j [])) e ∙ ap (times_in v) (get_or-set_same m.parts p (take k (units_of m p)) [] hp) in
      let s : times_in v (get_or m.parts q []) ≡ times_in v (units_of m p) = ap (λ j. times_in v (get_or m.parts j [])) e in
      let t = times_in-take-drop v k (units_of m p) in
      omega arith
  | inr ne ↦
      let l : times_in v (get_or (set m.parts p (take k (units_of m p))) q []) ≡ times_in v (get_or m.parts q []) = ap (times_in v) (get_or-set_other m.parts p q (take k (units_of m p)) [] ne) in
      omega arith
]

module _ (owners : List (Option ℕ)) (next : List ℕ) (chains : List Chain) (p keep last : ℕ) (a : AreChained owners next chains) (hp : p < length chains)
    (hk : keep < (get_or chains p no_chain).count) (hlast : 0 < keep → last ≡ stepped next (get_or chains p no_chain).first (keep - 1)) where
  abbrev m : Owning
  m = chained owners next chains

  abbrev chain : Chain
  chain = get_or chains p no_chain

  -- the units that the part loses
  abbrev lost : List ℕ
  lost = linked next (stepped next chain.first keep) (chain.count - keep)

  part_in : p < length m.parts
  part_in = omega (arith, hp, parts-chained owners next chains)

  lost_is : lost ≡ drop keep (units_of m p)
  lost_is = sym (drop-linked next chain.first keep chain.count (omega arith)) ∙ ap (drop keep) (sym (units_of-chained owners next chains p hp))

  times_in-lost : (v : ℕ) → times_in v lost ≤ times v m.parts
  times_in-lost v =
      let e : times_in v lost ≡ times_in v (drop keep (units_of m p)) = ap (times_in v) lost_is in
      let t = times_in-take-drop v keep (units_of m p) in
      let le = times_in-le-times v m.parts p part_in in
      omega arith

  -- the units that the part loses have an owner, none twice
  lost_owned : AreOwned owners lost
  lost_owned = AreOwned-distinct owners lost
      (λ v. let le = times_in-lost v in let o = a.one.once v in omega arith)
      (λ v h.
      let le = times_in-lost v in
      elim (cases_lt v (length owners)) [
        | inl lt ↦ (lt, IsSome-IsOwner m.parts v (get_or owners v None) (a.owned v lt) (omega arith))
        | inr ge ↦ let z = a.one.within v ge in absurd (omega arith)
      ])

  parts_are : map (chain_units next) (set chains p (shorter chain last keep)) ≡ (kept m p keep).parts
  parts_are =
      parts-set next next chains p (shorter chain last keep) (take keep (units_of m p)) hp
      (sym (take-linked next chain.first keep chain.count (omega arith)) ∙ ap (take keep) (sym (units_of-chained owners next chains p hp)))
      (λ q hq ne. refl)

  owning_is : chained (freed owners lost) next (set chains p (shorter chain last keep)) ≡ kept m p keep
  owning_is = λ i. record { units = length-freed owners lost i; parts = parts_are i }

  chained_cut : AreChained (freed owners lost) next (set chains p (shorter chain last keep))
  chained_cut = record {
    one = subst OneOwner (sym owning_is) (OneOwner-kept m p keep part_in a.one);
    owned = λ v hv. subst (λ (parts : List (List ℕ)). IsOwner parts v (get_or (freed owners lost) v None)) (sym parts_are)
        (subst (IsOwner (kept m p keep).parts v) (sym (get_or-freed owners lost v)) (elim (cases_eq (times_in v lost) 0) [
          | inl z ↦
              let t : eqb (times_in v lost) 0 ≡ true = grind (arith, nat_tests) in
              let none : times_in v (drop keep (units_of m p)) ≡ 0 = ap (times_in v) (sym lost_is) ∙ z in
              subst (λ (b : Bool). IsOwner (kept m p keep).parts v (cond b (get_or owners v None) None)) (sym t)
              (IsOwner-kept m p keep v (get_or owners v None) part_in none (a.owned v (omega (arith, length-freed owners lost))))
          | inr nz ↦
              let t : eqb (times_in v lost) 0 ≡ false = grind (arith, nat_tests) in
              let e = times-kept v m p keep part_in in
              let o = a.one.once v in
              let s : times_in v lost ≡ times_in v (drop keep (units_of m p)) = ap (times_in v) lost_is in
              let z : times v (kept m p keep).parts ≡ 0 = omega arith in
              subst (λ (b : Bool). IsOwner (kept m p keep).parts v (cond b (get_or owners v None) None)) (sym t) z
        ]));
    ended = λ q hq. elim (cases_eq q p) [
      | inl e ↦
          subst (λ (x : ℕ). IsEnded next (get_or (set chains p (shorter chain last keep)) x no_chain)) (sym e)
          (subst (IsEnded next) (sym (get_or-set_same chains p (shorter chain last keep) no_chain hp)) hlast)
      | inr ne ↦
          subst (IsEnded next) (sym (get_or-set_other chains p q (shorter chain last keep) no_chain ne)) (a.ended q (omega (arith, length-set chains p (shorter chain last keep))))
    ];
    long = a.long ∙ sym (length-freed owners lost);
    small = omega (arith, a.small, length-freed owners lost);
  }

-- what holds before and after a chain is cut, where from is the first unit that is lost
pub record Cuts (owners : List (Option ℕ)) (next : List ℕ) (chains : List Chain) (m : Owning) (p keep last from : ℕ) (ch : Chain) : Type 0 where
  pub owned : AreOwned owners (linked next from (ch.count - keep))
  pub still : AreChained (freed owners (linked next from (ch.count - keep))) next (set chains p (shorter ch last keep))
  pub owning : chained (freed owners (linked next from (ch.count - keep))) next (set chains p (shorter ch last keep)) ≡ kept m p keep

pub cuts : (owners : List (Option ℕ)) (next : List ℕ) (chains : List Chain) (m : Owning) (p keep last from : ℕ) (ch : Chain) → AreChained owners next chains → chained owners next chains ≡ m →
    p < length m.parts → ch ≡ get_or chains p ch → keep < ch.count → (0 < keep → last ≡ stepped next ch.first (keep - 1)) → from ≡ stepped next ch.first keep →
    Cuts owners next chains m p keep last from ch
cuts owners next chains m p keep last from ch a e hp read =
    let hp' = part-view owners next chains m p e hp in
    subst (λ (x : Chain). keep < x.count → (0 < keep → last ≡ stepped next x.first (keep - 1)) → from ≡ stepped next x.first keep → Cuts owners next chains m p keep last from x) (sym (chain-read chains p ch hp' read))
    (λ hk hlast hfrom. subst (λ (x : ℕ). Cuts owners next chains m p keep last x (get_or chains p no_chain)) (sym hfrom) (record {
      owned = lost_owned owners next chains p keep last a hp' hk hlast;
      still = chained_cut owners next chains p keep last a hp' hk hlast;
      owning = owning_is owners next chains p keep last a hp' hk hlast ∙ ap (λ (n : Owning). kept n p keep) e;
    }))
