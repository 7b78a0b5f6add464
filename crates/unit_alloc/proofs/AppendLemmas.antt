-- One more unit behind a part's chain.
use Rattle.std.proofs.Common.{◌≡◌, ℕ, suc, ◌+◌, ◌-◌, ◌^◌, ◌<◌, ◌≤◌, ◌≢◌, Bool, true, false, cond, eqb, List, Option, Some, None, [], ◌∷◌, ◌++◌, length, get_or, set, map, refl, sym, ap, subst, ◌∙◌, inl, inr, arith, length-set}
use Rattle.std.proofs.lemmas.List.{get_or-set_same, get_or-set_other, get_or_push, length-append}
use Rattle.std.proofs.lemmas.Bool.{cases_eq}
use Rattle.std.proofs.lemmas.Bool.Decides.{nat_tests}
use Rattle.unit_alloc.specs.declared.owners.Chain.{Chain}
use Rattle.unit_alloc.specs.Owning.{Owning, OneOwner, times, times_in, units_of, handed}
use Rattle.unit_alloc.specs.Marks.{is_free}
use Rattle.unit_alloc.specs.Chains.{stepped, linked, chain_units, chained, IsOwner, IsEnded, no_chain, AreChained, linked_next, longer}
use Rattle.unit_alloc.proofs.TimesLemmas.{times_in-le-times}
use Rattle.unit_alloc.proofs.FreeLemmas.{length-free_units}
use Rattle.unit_alloc.proofs.HandedLemmas.{OneOwner-handed, total-set, length-le-total}
use Rattle.unit_alloc.proofs.LinkedLemmas.{length-linked, get_or-linked, linked-zero, linked-suc, times_in-get_or, linked-set_other, linked-set_last, stepped-same}
use Rattle.unit_alloc.proofs.ChainedLemmas.{units_of-chained, parts-chained, stepped-within, apart, parts-set, IsOwner-handed, IsOwner-handed_same, part-view, unit-view, chain-read, free-chained}

module _ (owners : List (Option ℕ)) (next : List ℕ) (chains : List Chain) (p u : ℕ) (a : AreChained owners next chains) (hp : p < length chains) (hu : u < length owners)
    (free : times u (chained owners next chains).parts ≡ 0) where
  abbrev m : Owning
  m = chained owners next chains

  abbrev chain : Chain
  chain = get_or chains p no_chain

  abbrev next' : List ℕ
  next' = linked_next next chain u

  abbrev chain' : Chain
  chain' = longer chain u

  part_in : p < length m.parts
  part_in = omega (arith, hp, parts-chained owners next chains)

  -- the last unit of a chain that has one
  last_is : 0 < chain.count → chain.last ≡ stepped next chain.first (chain.count - 1)
  last_is h = a.ended p hp h

  last_within : 0 < chain.count → chain.last < length next
  last_within h = let e = last_is h in let w = stepped-within owners next chains p (chain.count - 1) a hp (omega arith) in omega arith

  last_in : 0 < chain.count → 0 < times_in chain.last (units_of m p)
  last_in h =
      let e = units_of-chained owners next chains p hp in
      let n = length-linked next chain.first chain.count in
      let l = ap (length {A = ℕ}) e in
      let at : get_or (units_of m p) (chain.count - 1) 0 ≡ chain.last =
      ap (λ (list : List ℕ). get_or list (chain.count - 1) 0) e ∙ get_or-linked next chain.first (chain.count - 1) chain.count (omega arith) ∙ sym (last_is h) in
      subst (λ (x : ℕ). 0 < times_in x (units_of m p)) at (times_in-get_or (units_of m p) (chain.count - 1) (omega arith))

  -- the other chains' units stay
  others : (q : ℕ) → q < length chains → q ≢ p → chain_units next' (get_or chains q no_chain) ≡ chain_units next (get_or chains q no_chain)
  others q hq ne = elim (cases_eq chain.count 0) [
    | inl z ↦
        let t : eqb chain.count 0 ≡ true = grind (arith, nat_tests) in
        ap (λ (b : Bool). chain_units (cond b next (set next chain.last u)) (get_or chains q no_chain)) t
    | inr nz ↦
        let t : eqb chain.count 0 ≡ false = grind (arith, nat_tests) in
        let other = get_or chains q no_chain in
        let none : times_in chain.last (chain_units next other) ≡ 0 =
        ap (times_in chain.last) (sym (units_of-chained owners next chains q hq))
        ∙ apart m p q chain.last a.one part_in (omega (arith, parts-chained owners next chains)) (λ e. ne (sym e)) (last_in (omega arith)) in
        ap (λ (b : Bool). chain_units (cond b next (set next chain.last u)) other) t
        ∙ linked-set_other next chain.last u other.first other.count none
  ]

  -- the chain's units have one more behind them
  more : chain_units next' chain' ≡ chain_units next chain ++ u ∷ []
  more = elim (cases_eq chain.count 0) [
    | inl z ↦
        let t : eqb chain.count 0 ≡ true = grind (arith, nat_tests) in
        ap (λ (b : Bool). linked (cond b next (set next chain.last u)) (cond b u chain.first) (chain.count + 1)) t
        ∙ ap (linked next u) (omega arith)
        ∙ linked-suc next u 0
        ∙ ap (λ (l : List ℕ). u ∷ l) (linked-zero next (get_or next u 0))
        ∙ ap (λ (l : List ℕ). l ++ u ∷ []) (sym (ap (linked next chain.first) z ∙ linked-zero next chain.first))
    | inr nz ↦
        let t : eqb chain.count 0 ≡ false = grind (arith, nat_tests) in
        let k : ℕ = chain.count - 1 in
        let n : chain.count ≡ suc k = omega arith in
        let last = last_is (omega arith) in
        let once : times_in (stepped next chain.first k) (linked next chain.first (suc k)) ≤ 1 =
        let o = a.one.once chain.last in
        let le = times_in-le-times chain.last m.parts p part_in in
        let s : times_in chain.last (units_of m p) ≡ times_in (stepped next chain.first k) (linked next chain.first (suc k)) =
        ap (λ (x : ℕ). times_in x (units_of m p)) last ∙ ap (times_in (stepped next chain.first k)) (units_of-chained owners next chains p hp ∙ ap (linked next chain.first) n) in
        omega arith in
        ap (λ (b : Bool). linked (cond b next (set next chain.last u)) (cond b u chain.first) (chain.count + 1)) t
        ∙ ap (λ (x : ℕ). linked (set next x u) chain.first (chain.count + 1)) last
        ∙ ap (linked (set next (stepped next chain.first k) u) chain.first) (omega arith)
        ∙ linked-set_last next u chain.first k (stepped-within owners next chains p k a hp (omega arith)) once
        ∙ ap (λ (x : ℕ). linked next chain.first x ++ u ∷ []) (sym n)
  ]

  -- the lists of the parts
  parts_are : map (chain_units next') (set chains p chain') ≡ (handed m p (u ∷ [])).parts
  parts_are =
      parts-set next next' chains p chain' (units_of m p ++ u ∷ []) hp
      (more ∙ ap (λ (l : List ℕ). l ++ u ∷ []) (sym (units_of-chained owners next chains p hp))) others

  owning_is : chained (set owners u (Some p)) next' (set chains p chain') ≡ handed m p (u ∷ [])
  owning_is = λ i. record { units = length-set owners u (Some p) i; parts = parts_are i }

  chained_more : AreChained (set owners u (Some p)) next' (set chains p chain')
  chained_more = record {
    one = subst OneOwner (sym owning_is) (OneOwner-handed m p u part_in a.one hu free);
    owned = λ v hv. subst (λ (parts : List (List ℕ)). IsOwner parts v (get_or (set owners u (Some p)) v None)) (sym parts_are) (elim (cases_eq v u) [
      | inl e ↦
          subst (λ (x : ℕ). IsOwner (handed m p (u ∷ [])).parts x (get_or (set owners u (Some p)) x None)) (sym e)
          (subst (IsOwner (handed m p (u ∷ [])).parts u) (sym (get_or-set_same owners u (Some p) None hu)) (IsOwner-handed_same m p u part_in))
      | inr ne ↦
          subst (IsOwner (handed m p (u ∷ [])).parts v) (sym (get_or-set_other owners u v (Some p) None ne))
          (IsOwner-handed m p u v (get_or owners v None) part_in (λ e. ne (sym e)) (a.owned v (omega (arith, length-set owners u (Some p)))))
    ]);
    ended = λ q hq. elim (cases_eq q p) [
      | inl e ↦
          subst (λ (x : ℕ). IsEnded next' (get_or (set chains p chain') x no_chain)) (sym e)
          (subst (IsEnded next') (sym (get_or-set_same chains p chain' no_chain hp)) (λ h.
          sym (ap (stepped next' chain'.first) (omega arith)
          ∙ sym (get_or-linked next' chain'.first chain.count (chain.count + 1) (omega arith))
          ∙ ap (λ (l : List ℕ). get_or l chain.count 0) more
          ∙ get_or_push (chain_units next chain) u 0 chain.count (length-linked next chain.first chain.count))))
      | inr ne ↦
          let other = get_or chains q no_chain in
          let hq' : q < length chains = omega (arith, length-set chains p chain') in
          subst (IsEnded next') (sym (get_or-set_other chains p q chain' no_chain ne)) (λ h.
          a.ended q hq' h ∙ sym (stepped-same next next' other.first (other.count - 1) other.count (omega arith) (others q hq' ne)))
    ];
    long = elim (eqb chain.count 0) as (λ (b : Bool). length (cond b next (set next chain.last u)) ≡ length next) [ true ↦ refl | false ↦ length-set next chain.last u ] ∙ a.long ∙ sym (length-set owners u (Some p));
    small = omega (arith, a.small, length-set owners u (Some p));
  }

  -- there is room for one more in the count
  count_fits : chain.count + 1 < 2 ^ 32
  count_fits =
      let f = length-free_units (handed m p (u ∷ [])) (OneOwner-handed m p u part_in a.one hu free) in
      let t = total-set m.parts p (units_of m p ++ u ∷ []) part_in in
      let l = length-append (units_of m p) (u ∷ []) in
      let n : length (units_of m p) ≡ chain.count = ap (length {A = ℕ}) (units_of-chained owners next chains p hp) ∙ length-linked next chain.first chain.count in
      let le = length-le-total (set m.parts p (units_of m p ++ u ∷ [])) p (omega (arith, part_in, length-set m.parts p (units_of m p ++ u ∷ []))) in
      let s : length (get_or (set m.parts p (units_of m p ++ u ∷ [])) p []) ≡ length (units_of m p ++ u ∷ []) =
      ap (length {A = ℕ}) (get_or-set_same m.parts p (units_of m p ++ u ∷ []) [] part_in) in
      omega (arith, a.small, part_in)

-- what holds before and after a unit is put behind a chain
pub record Appends (owners : List (Option ℕ)) (next : List ℕ) (chains : List Chain) (m : Owning) (p u : ℕ) (ch : Chain) : Type 0 where
  pub free : is_free owners u ≡ true
  pub last : 0 < ch.count → ch.last < length next
  pub fits : ch.count + 1 < 2 ^ 32
  pub still : AreChained (set owners u (Some p)) (linked_next next ch u) (set chains p (longer ch u))
  pub owning : chained (set owners u (Some p)) (linked_next next ch u) (set chains p (longer ch u)) ≡ handed m p (u ∷ [])

pub appends : (owners : List (Option ℕ)) (next : List ℕ) (chains : List Chain) (m : Owning) (p u : ℕ) (ch : Chain) → AreChained owners next chains → chained owners next chains ≡ m →
    p < length m.parts → u < m.units → times u m.parts ≡ 0 → ch ≡ get_or chains p ch → Appends owners next chains m p u ch
appends owners next chains m p u ch a e hp hu none read =
    let hp' = part-view owners next chains m p e hp in
    let hu' : u < length owners = omega (arith, unit-view owners next chains m e) in
    let none' : times u (chained owners next chains).parts ≡ 0 = ap (λ (n : Owning). times u n.parts) e ∙ none in
    subst (λ (x : Chain). Appends owners next chains m p u x) (sym (chain-read chains p ch hp' read)) (record {
      free = free-chained owners next chains a u hu' none';
      last = last_within owners next chains p u a hp' hu' none';
      fits = count_fits owners next chains p u a hp' hu' none';
      still = chained_more owners next chains p u a hp' hu' none';
      owning = owning_is owners next chains p u a hp' hu' none' ∙ ap (λ (n : Owning). handed n p (u ∷ [])) e;
    })
