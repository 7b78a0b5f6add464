-- Units that follow each other are one range of super, and a write in it is a write in all units joined.
use Rattle.std.proofs.Common.{◌≡◌, ◌∙◌, refl, ap, sym, subst, ℕ, zero, suc, ◌+◌, ◌*◌, ◌-◌, ◌<◌, ◌≤◌, true, List, [], ◌∷◌, ◌++◌, length, take, drop, get_or, inl, inr, arith, length-drop}
use Rattle.std.specs.Prelude.{◌⊎◌, nat_lt}
use Rattle.std.specs.List.{list_all, flat_map, range_with_len}
use Rattle.std.proofs.Math.Nat.{mul-le-mul_right}
use Rattle.std.proofs.Math.Seq.{take-add}
use Rattle.std.proofs.lemmas.Bool.Decides.{nat_tests}
use Rattle.std.proofs.lemmas.List.{drop-drop, take-append-drop, length-take-le}
use Rattle.std.proofs.lemmas.List.FromFn.{length-range_with_len, get_or-range_with_len}
use Rattle.std.proofs.lemmas.Grind.{flat_map-append}
use Rattle.unit_alloc.specs.Owning.{times_in}
use Rattle.unit_alloc.proofs.TimesLemmas.{times_in-cons, times_in-append}
use Rattle.unit_alloc.proofs.LinkedLemmas.{times_in-get_or}
use Rattle.dev_model.proofs.Valid.{both}
use Rattle.dev_disk.specs.Files.{written, DifferWithin}
use Rattle.dev_disk.proofs.Writes.{differ-written, kept-outside}
use Rattle.dev_store.specs.declared.layout.SuperPart.{SuperPart}
use Rattle.dev_store.specs.LayoutLines.{first_unit, unit_count}
use Rattle.dev_store.specs.Supers.{unit_bytes, units_bytes}
use Rattle.dev_store.proofs.UnitLemmas.{left-at}
use Rattle.dev_store.proofs.ValidUnits.{unit-fits, all-take, all-drop}
use Rattle.dev_store.proofs.ValidSuper.{units-long}
use Rattle.dev_store.proofs.PartLists.{range-written, middle-written}

-- units of a list that follow each other: from a place on, as many as are said, the first of which is this one
pub record IsRun (units : List ℕ) (place count first : ℕ) : Type 0 where
  pub some : 0 < count
  pub there : place + count ≤ length units
  pub each : (i : ℕ) → i < count → get_or units (place + i) 0 ≡ first + i

-- what follows the units before them
run-rest : (units : List ℕ) (place count first : ℕ) → place + count ≤ length units → ((i : ℕ) → i < count → get_or units (place + i) 0 ≡ first + i) →
    drop place units ≡ range_with_len first count ++ drop (place + count) units
run-rest units place zero first h e = ap (λ n. drop n units) {x = place} {y = place + zero} (omega arith)
run-rest units place (suc count) first h e =
    let head : get_or units place 0 ≡ first = ap (λ n. get_or units n 0) {x = place} {y = place + 0} (omega arith) ∙ (e 0 (omega arith) ∙ omega arith) in
    let more = run-rest units (place + 1) count (first + 1) (omega arith)
    (λ i l. ap (λ n. get_or units n 0) {x = place + 1 + i} {y = place + suc i} (omega arith) ∙ (e (suc i) (omega arith) ∙ omega arith)) in
    left-at units place 0 (omega arith)
    ∙ (ap (λ n. n ∷ drop (place + 1) units) head
    ∙ (ap (λ l. first ∷ l) more ∙ ap (λ n. first ∷ (range_with_len (first + 1) count ++ drop n units)) {x = place + 1 + count} {y = place + suc count} (omega arith)))

-- the units before them, they, and the units after them
pub run-split : (units : List ℕ) (place count first : ℕ) → IsRun units place count first → units ≡ take place units ++ (range_with_len first count ++ drop (place + count) units)
run-split units place count first r = sym (take-append-drop place units) ∙ ap (λ l. take place units ++ l) (run-rest units place count first r.there r.each)

-- a unit that isn't among them
pub outside : (first count u : ℕ) → times_in u (range_with_len first count) ≡ 0 → (u < first) ⊎ (first + count ≤ u)
outside first count u h = by (either u first) where
  either : (a b : ℕ) → (a < b) ⊎ (b ≤ a)
  either a b = grind arith

  by : (u < first) ⊎ (first ≤ u) → (u < first) ⊎ (first + count ≤ u)
  by (inl l) = inl l
  by (inr l) = inr (not-below (either u (first + count))) where
    not-below : (u < first + count) ⊎ (first + count ≤ u) → first + count ≤ u
    not-below (inr k) = k
    not-below (inl k) =
        let i = u - first in
        let long = length-range_with_len first count in
        let there = times_in-get_or (range_with_len first count) i (omega arith) in
        let is : get_or (range_with_len first count) i 0 ≡ u = get_or-range_with_len first count i 0 (omega arith) ∙ omega arith in
        let some : 0 < times_in u (range_with_len first count) = subst (λ n. 0 < times_in n (range_with_len first count)) is there in
        absurd (omega (arith, some, h))

-- units that follow each other are one range
pub range-bytes : (s : SuperPart) (super : List ℕ) (first count : ℕ) → flat_map (unit_bytes s super) (range_with_len first count) ≡ take (count * s.unit) (drop (first_unit s + first * s.unit) super)
range-bytes s super first zero = ap (λ n. take n (drop (first_unit s + first * s.unit) super)) {x = 0} {y = zero * s.unit} (omega arith)
range-bytes s super first (suc count) =
    let at = first_unit s + first * s.unit in
    let far : first_unit s + (first + 1) * s.unit ≡ at + s.unit = omega arith in
    let rest = range-bytes s super (first + 1) count
    ∙ (ap (λ n. take (count * s.unit) (drop n super)) far ∙ ap (take (count * s.unit)) (sym (drop-drop s.unit at super))) in
    ap (λ l. unit_bytes s super first ++ l) rest
    ∙ (sym (take-add s.unit (count * s.unit) (drop at super)) ∙ ap (λ n. take n (drop at super)) {x = s.unit + count * s.unit} {y = suc count * s.unit} (omega arith))

-- units of which none changed
pub units-kept : (s : SuperPart) (old new : List ℕ) (units : List ℕ) → ((u : ℕ) → 0 < times_in u units → unit_bytes s new u ≡ unit_bytes s old u) → flat_map (unit_bytes s new) units ≡ flat_map (unit_bytes s old) units
units-kept s old new [] h = refl
units-kept s old new (x ∷ units) h =
    let here = h x (let c = times_in-cons x x units in grind (arith, nat_tests)) in
    let more = units-kept s old new units (λ u k. h u (let c = times_in-cons u x units in omega arith)) in
    λ i. here i ++ more i

-- each unit but these has its bytes
abbrev pub IsKeptBut : SuperPart → ℕ → ℕ → List ℕ → List ℕ → Type 0
IsKeptBut s first count old new = (u : ℕ) → times_in u (range_with_len first count) ≡ 0 → unit_bytes s new u ≡ unit_bytes s old u

-- a change inside them changes no other
pub run-differs : (s : SuperPart) (first count off n : ℕ) (old new : List ℕ) → off + n ≤ count * s.unit → DifferWithin (first_unit s + (first * s.unit + off)) n old new → IsKeptBut s first count old new
run-differs s first count off n old new h d u t = by (outside first count u t) where
  by : (u < first) ⊎ (first + count ≤ u) → unit_bytes s new u ≡ unit_bytes s old u
  by (inl l) =
      let m = mul-le-mul_right s.unit l in
      kept-outside old new (first_unit s + (first * s.unit + off)) n (first_unit s + u * s.unit) s.unit d (inl (omega arith))
  by (inr l) =
      let m = mul-le-mul_right s.unit l in
      kept-outside old new (first_unit s + (first * s.unit + off)) n (first_unit s + u * s.unit) s.unit d (inr (omega arith))

lt-of : (a b : ℕ) → nat_lt a b ≡ true → a < b
lt-of a b h = grind (arith, nat_tests)

-- they lie in super
pub run-inside : (s : SuperPart) (units : List ℕ) (place count first : ℕ) → IsRun units place count first → 0 < s.unit → list_all (λ u. nat_lt u (unit_count s)) units ≡ true →
    first_unit s + first * s.unit + count * s.unit ≤ s.size
run-inside s units place zero first r h a = absurd (omega (arith, r.some))
run-inside s units place (suc count) first r h a =
    let t = r.there in
    let last = place + count in
    let rest : list_all (λ u. nat_lt u (unit_count s)) (get_or units last 0 ∷ drop (last + 1) units) ≡ true =
    ap (list_all (λ u. nat_lt u (unit_count s))) (sym (left-at units last 0 (omega arith))) ∙ all-drop (λ u. nat_lt u (unit_count s)) last units a in
    let own : get_or units last 0 ≡ first + count = r.each count (omega arith) in
    let below : first + count < unit_count s = subst (λ n. n < unit_count s) own (lt-of (get_or units last 0) (unit_count s) (both (nat_lt (get_or units last 0) (unit_count s)) _ rest).0) in
    let fits = unit-fits s.size (first_unit s) s.unit (first + count) h below in
    omega arith

-- a write inside them is a write in all units joined
pub run-written : (s : SuperPart) (units : List ℕ) (place count first off : ℕ) (bytes old : List ℕ) → IsRun units place count first → 0 < s.unit → length old ≡ s.size →
    list_all (λ u. nat_lt u (unit_count s)) units ≡ true → ((u : ℕ) → times_in u units ≤ 1) → off + length bytes ≤ count * s.unit →
    units_bytes s (written old (first_unit s + (first * s.unit + off)) bytes) units ≡ written (units_bytes s old units) (place * s.unit + off) bytes
unfolding units_bytes
run-written s units place count first off bytes old r h long all once fits =
    let t = r.there in
    let new = written old (first_unit s + (first * s.unit + off)) bytes in
    let inside = run-inside s units place count first r h all in
    let own = range_with_len first count in
    let before = take place units in
    let after = drop (place + count) units in
    let split = run-split units place count first r in
    let kept : IsKeptBut s first count old new =
    run-differs s first count off (length bytes) old new fits (differ-written old (first_unit s + (first * s.unit + off)) bytes (omega arith)) in
    let sum : (u : ℕ) → times_in u before + (times_in u own + times_in u after) ≤ 1 =
    λ u. let a = once u in let e = ap (times_in u) split in let p = times_in-append u before (own ++ after) in let q = times_in-append u own after in omega arith in
    let fore = units-kept s old new before (λ u k. kept u (let a = sum u in omega arith)) in
    let rear = units-kept s old new after (λ u k. kept u (let a = sum u in omega arith)) in
    let at : first_unit s + (first * s.unit + off) ≡ first_unit s + first * s.unit + off = omega arith in
    let mid : flat_map (unit_bytes s new) own ≡ written (flat_map (unit_bytes s old) own) off bytes =
    range-bytes s new first count
    ∙ (ap (λ n. take (count * s.unit) (drop (first_unit s + first * s.unit) (written old n bytes))) at
    ∙ (range-written old (first_unit s + first * s.unit) (count * s.unit) off bytes fits (omega arith)
    ∙ ap (λ l. written l off bytes) (sym (range-bytes s old first count)))) in
    let cut : (file : List ℕ) → flat_map (unit_bytes s file) units ≡ flat_map (unit_bytes s file) before ++ (flat_map (unit_bytes s file) own ++ flat_map (unit_bytes s file) after) =
    λ file. ap (flat_map (unit_bytes s file)) split
    ∙ (flat_map-append (unit_bytes s file) before (own ++ after) ∙ ap (λ l. flat_map (unit_bytes s file) before ++ l) (flat_map-append (unit_bytes s file) own after)) in
    let few : length before ≡ place = length-take-le place units (omega arith) in
    let front : length (flat_map (unit_bytes s old) before) ≡ place * s.unit =
    units-long s old long h before (all-take (λ u. nat_lt u (unit_count s)) place units all) ∙ ap (λ n. n * s.unit) few in
    let drops = length-drop (first_unit s + first * s.unit) old in
    let room : length (flat_map (unit_bytes s old) own) ≡ count * s.unit =
    ap length (range-bytes s old first count) ∙ length-take-le (count * s.unit) (drop (first_unit s + first * s.unit) old) (omega arith) in
    cut new
    ∙ ((λ i. fore i ++ (mid i ++ rear i))
    ∙ (sym (middle-written (flat_map (unit_bytes s old) before) (flat_map (unit_bytes s old) own) (flat_map (unit_bytes s old) after) bytes off (omega arith))
    ∙ (ap (λ n. written (flat_map (unit_bytes s old) before ++ (flat_map (unit_bytes s old) own ++ flat_map (unit_bytes s old) after)) (n + off) bytes) front
    ∙ ap (λ l. written l (place * s.unit + off) bytes) (sym (cut old)))))
