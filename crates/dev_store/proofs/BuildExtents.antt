-- The extents of runs of units: they lie at whole units, in the super, and apart from each other.
use Rattle.std.proofs.Common.{◌≡◌, ℕ, zero, suc, ◌+◌, ◌-◌, ◌*◌, ◌/◌, ◌%◌, ◌<◌, ◌≤◌, Bool, true, false, not, List, [], ◌∷◌, ◌++◌, refl, ap, ◌∙◌, ◌⊎◌, inl, inr, arith, min, max}
use Rattle.std.specs.Prelude.{◌&&◌, ◌||◌, ◌==◌, nat_lt, nat_le, if◌then◌else◌}
use Rattle.std.specs.List.{list_all, list_any, flat_map, range_with_len}
use Rattle.std.specs.Int.{div_ceil}
use Rattle.std.proofs.Math.Nat.{mul-le-mul_right, mul-mod_left, lt_of_mul-lt-mul_right, mul-div_cancel}
use Rattle.std.proofs.lemmas.Bool.{cases_lt}
use Rattle.std.proofs.lemmas.Bool.Decides.{nat_tests}
use Rattle.std.proofs.lemmas.List.Sums.{sum_by-cons}
use Rattle.unit_alloc.specs.Owning.{times_in}
use Rattle.unit_alloc.proofs.TimesLemmas.{times_in-cons, times_in-append}
use Rattle.dev_model.proofs.Valid.{both, and-true}
use Rattle.super_meta.specs.declared.table.Extent.{Extent}
use Rattle.super_meta.specs.Contents.{shares, are_apart, lies_in}
use Rattle.dev_store.specs.declared.layout.SuperPart.{SuperPart}
use Rattle.dev_store.specs.LayoutLines.{first_unit, unit_count}
use Rattle.dev_store.specs.Supers.{own_device, unit_at, is_at_unit, lies_in_units, are_whole}
use Rattle.dev_store.specs.SuperBounds.{IsBounded}
use Rattle.dev_store.specs.Runs.{Run, run_on, runs_of, extents_for}
use Rattle.dev_store.specs.Building.{run_of}
use Rattle.dev_store.proofs.ValidUnits.{ceil-le}
use Rattle.dev_store.proofs.ChangeTable.{IsSectored, run_units, run_total, times-whole, run-cut, extent_for, sectors-of}

-- ---- runs whose units are there

-- the run has units, and all of them are below a number
abbrev pub is_run_below : ℕ → Run → Bool
is_run_below n r = nat_lt 0 r.count && nat_le (r.unit + r.count) n

below-on : (n u : ℕ) (runs : List Run) → nat_lt u n ≡ true → list_all (is_run_below n) runs ≡ true → list_all (is_run_below n) (run_on u runs) ≡ true
below-on n u [] h k = and-true (is_run_below n (run_of (u, 1))) true (grind (arith, nat_tests)) refl
below-on n u (r ∷ runs) h k = by (r.unit == u + 1) refl
  where
    p : (is_run_below n r ≡ true) × (list_all (is_run_below n) runs ≡ true)
    p = both (is_run_below n r) (list_all (is_run_below n) runs) k

    by : (b : Bool) → (r.unit == u + 1) ≡ b → list_all (is_run_below n) (if b then run_of (u, r.count + 1) ∷ runs else run_of (u, 1) ∷ r ∷ runs) ≡ true
    by true e =
        let own = p.0 in
        let one : is_run_below n (run_of (u, r.count + 1)) ≡ true = grind (arith, nat_tests) in
        and-true (is_run_below n (run_of (u, r.count + 1))) _ one p.1
    by false e =
        let one : is_run_below n (run_of (u, 1)) ≡ true = grind (arith, nat_tests) in
        and-true (is_run_below n (run_of (u, 1))) _ one k

-- the runs of units that are there
pub runs-below : (n : ℕ) (units : List ℕ) → list_all (λ u. nat_lt u n) units ≡ true → list_all (is_run_below n) (runs_of units) ≡ true
unfolding runs_of
runs-below n [] h = refl
runs-below n (u ∷ units) h =
    let p = both (nat_lt u n) (list_all (λ u. nat_lt u n) units) h in
    below-on n u (runs_of units) p.0 (runs-below n units p.1)

-- ---- the extent of a run

-- The extent begins at the run's first unit, and takes sectors of its units alone.
pub record IsIn (s : SuperPart) (e : Extent) (r : Run) : Type 0 where
  pub at : 512 * e.target ≡ first_unit s + r.unit * s.unit
  pub within : 512 * e.sectors ≤ r.count * s.unit
  pub some : 0 < e.sectors

-- extent by extent
abbrev pub AreIn : SuperPart → List Extent → List Run → Type 0
AreIn s [] [] = Unit {0}
AreIn s (e ∷ es) (r ∷ rs) = IsIn s e r × AreIn s es rs
AreIn s es rs = ⊥

pub in-append : (s : SuperPart) (es fs : List Extent) (rs qs : List Run) → AreIn s es rs → AreIn s fs qs → AreIn s (es ++ fs) (rs ++ qs)
in-append s [] fs [] qs h k = k
in-append s [] fs (r ∷ rs) qs h k = absurd h
in-append s (e ∷ es) fs [] qs h k = absurd h
in-append s (e ∷ es) fs (r ∷ rs) qs h k = (h.0, in-append s es fs rs qs h.1 k)

count-here : (r : Run) (runs : List Run) (bytes unit : ℕ) → div_ceil bytes unit ≡ run_total (r ∷ runs) → div_ceil bytes unit ≡ r.count + run_total runs
count-here r runs bytes unit h = h ∙ sum_by-cons (λ (x : Run). x.count) r runs

some-bytes : (bytes unit n more : ℕ) → 0 < unit → 0 < n → bytes % 512 ≡ 0 → (n * unit) % 512 ≡ 0 → div_ceil bytes unit ≡ n + more → 0 < min bytes (n * unit) / 512
some-bytes bytes unit n more p c w t h =
    let m : 1 * unit ≤ n * unit = mul-le-mul_right unit c in
    let z : bytes ≤ 0 * unit → div_ceil bytes unit ≤ 0 = ceil-le bytes 0 unit p in
    omega arith

extent-in : (s : SuperPart) (bytes n : ℕ) (r : Run) (more : ℕ) → IsSectored s → bytes % 512 ≡ 0 → is_run_below n r ≡ true → div_ceil bytes s.unit ≡ r.count + more → IsIn s (extent_for s bytes r) r
extent-in s bytes n r more g w c h =
    let t = times-whole r.count s.unit g.unit in
    let u = times-whole r.unit s.unit g.unit in
    let f = g.first in
    let b = sectors-of s bytes r g w in
    let some : 0 < r.count = grind (arith, nat_tests) in
    record {
      at = omega arith;
      within = omega arith;
      some = some-bytes bytes s.unit r.count more g.some some w t h;
    }

-- the extents that hold bytes in runs with just as many units
pub extents-in : (s : SuperPart) (n bytes : ℕ) (runs : List Run) → IsSectored s → bytes % 512 ≡ 0 → list_all (is_run_below n) runs ≡ true → div_ceil bytes s.unit ≡ run_total runs → AreIn s (extents_for s bytes runs) runs
extents-in s n bytes [] g w b h = tt
extents-in s n bytes (r ∷ runs) g w b h =
    let p = both (is_run_below n r) (list_all (is_run_below n) runs) b in
    let c = count-here r runs bytes s.unit h in
    let cut = run-cut bytes s.unit r.count (run_total runs) g.some c in
    let t = times-whole r.count s.unit g.unit in
    (extent-in s bytes n r (run_total runs) g w p.0 c, extents-in s n (bytes - r.count * s.unit) runs g (omega arith) p.1 cut.rest)

-- ---- where they lie

extent-placed : (s : SuperPart) (e : Extent) (r : Run) → IsSectored s → is_run_below (unit_count s) r ≡ true → IsIn s e r → (is_at_unit s e && lies_in_units s e) ≡ true
extent-placed s e r g b h =
    let at = h.at in
    let d : 512 * e.target - first_unit s ≡ r.unit * s.unit = omega arith in
    let m : (512 * e.target - first_unit s) % s.unit ≡ 0 = ap (λ x. x % s.unit) d ∙ mul-mod_left r.unit s.unit in
    let u : unit_at s e ≡ r.unit = ap (λ x. x / s.unit) d ∙ mul-div_cancel r.unit g.some in
    let c = ceil-le (512 * e.sectors) r.count s.unit g.some h.within in
    and-true (is_at_unit s e) (lies_in_units s e) (grind (arith, nat_tests)) (grind (arith, nat_tests))

pub extents-placed : (s : SuperPart) (es : List Extent) (rs : List Run) → IsSectored s → list_all (is_run_below (unit_count s)) rs ≡ true → AreIn s es rs → list_all (λ e. is_at_unit s e && lies_in_units s e) es ≡ true
extents-placed s [] [] g b h = refl
extents-placed s [] (r ∷ rs) g b h = absurd h
extents-placed s (e ∷ es) [] g b h = absurd h
extents-placed s (e ∷ es) (r ∷ rs) g b h =
    let p = both (is_run_below (unit_count s) r) (list_all (is_run_below (unit_count s)) rs) b in
    and-true (is_at_unit s e && lies_in_units s e) _ (extent-placed s e r g p.0 h.0) (extents-placed s es rs g p.1 h.1)

extent-lies : (s : SuperPart) (e : Extent) (r : Run) → IsSectored s → IsBounded s → is_run_below (unit_count s) r ≡ true → IsIn s e r → lies_in (own_device s) e ≡ true
extent-lies s e r g k b h =
    let at = h.at in
    let w = h.within in
    let i = k.inside in
    let some = h.some in
    let fit : r.unit + r.count ≤ unit_count s = grind (arith, nat_tests) in
    let m = mul-le-mul_right s.unit fit in
    let first : first_unit s / 512 ≤ e.target = omega arith in
    let end : 512 * (e.target + e.sectors) ≤ s.size = omega arith in
    grind (arith, nat_tests)

pub extents-lie : (s : SuperPart) (es : List Extent) (rs : List Run) → IsSectored s → IsBounded s → list_all (is_run_below (unit_count s)) rs ≡ true → AreIn s es rs → list_all (lies_in (own_device s)) es ≡ true
extents-lie s [] [] g k b h = refl
extents-lie s [] (r ∷ rs) g k b h = absurd h
extents-lie s (e ∷ es) [] g k b h = absurd h
extents-lie s (e ∷ es) (r ∷ rs) g k b h =
    let p = both (is_run_below (unit_count s) r) (list_all (is_run_below (unit_count s)) rs) b in
    and-true (lies_in (own_device s) e) _ (extent-lies s e r g k p.0 h.0) (extents-lie s es rs g k p.1 h.1)

-- ---- apart from each other

-- a number in a range
times-range : (x u n : ℕ) → u ≤ x → x < u + n → 1 ≤ times_in x (range_with_len u n)
times-range x u zero h k = absurd (omega arith)
times-range x u (suc n) h k = by (cases_lt u x) (λ l. times-range x (u + 1) n (omega arith) (omega arith))
  where
    c : times_in x (range_with_len u (suc n)) ≡ (if u == x then 1 else 0) + times_in x (range_with_len (u + 1) n)
    c = times_in-cons x u (range_with_len (u + 1) n)

    by : (u < x) ⊎ (x ≤ u) → (u < x → 1 ≤ times_in x (range_with_len (u + 1) n)) → 1 ≤ times_in x (range_with_len u (suc n))
    by (inl l) more = let m = more l in omega (arith, c, m)
    by (inr l) more = grind (arith, nat_tests, c)

-- a unit that both runs have
record HaveBoth (r q : Run) : Type 0 where
  pub unit : ℕ
  pub first : 1 ≤ times_in unit (run_units r)
  pub second : 1 ≤ times_in unit (run_units q)

count-some : (s : SuperPart) (e : Extent) (r : Run) → IsIn s e r → 0 < r.count
count-some s e r h = by r.count refl
  where
    by : (n : ℕ) → r.count ≡ n → 0 < r.count
    by zero z =
        let w = h.within in
        let some = h.some in
        let n : r.count * s.unit ≡ 0 * s.unit = ap (λ x. x * s.unit) z in
        absurd (omega arith)
    by (suc n) z = omega arith

overlap : (a b m n : ℕ) → nat_lt (max a b) (min (a + m) (b + n)) ≡ true → (b < a + m) × (a < b + n)
overlap a b m n h = (grind (arith, nat_tests), grind (arith, nat_tests))

before-end : (s : SuperPart) (e f : Extent) (r q : Run) → IsIn s e r → IsIn s f q → f.target < e.target + e.sectors → q.unit < r.unit + r.count
before-end s e f r q h k l =
    let a = h.at in
    let w = h.within in
    let b = k.at in
    let d : (r.unit + r.count) * s.unit ≡ r.unit * s.unit + r.count * s.unit = omega arith in
    lt_of_mul-lt-mul_right s.unit (omega arith)

both-have : (s : SuperPart) (e f : Extent) (r q : Run) → IsIn s e r → IsIn s f q → shares e f ≡ true → HaveBoth r q
both-have s e f r q h k t =
    let o = overlap e.target f.target e.sectors f.sectors t in
    let x = before-end s e f r q h k o.0 in
    let y = before-end s f e q r k h o.1 in
    let m = count-some s e r h in
    let n = count-some s f q k in
    record {
      unit = max r.unit q.unit;
      first = times-range (max r.unit q.unit) r.unit r.count (omega arith) (omega arith);
      second = times-range (max r.unit q.unit) q.unit q.count (omega arith) (omega arith);
    }

-- an extent shares nothing with others, where no unit of its run is one of theirs
none-shared : (s : SuperPart) (e : Extent) (r : Run) (es : List Extent) (rs : List Run) → IsIn s e r → AreIn s es rs → ((x : ℕ) → times_in x (run_units r) + times_in x (flat_map run_units rs) ≤ 1) → list_any (shares e) es ≡ false
none-shared s e r [] [] h k once = refl
none-shared s e r [] (q ∷ rs) h k once = absurd k
none-shared s e r (f ∷ es) [] h k once = absurd k
none-shared s e r (f ∷ es) (q ∷ rs) h k once =
    by (shares e f) refl (none-shared s e r es rs h k.1 (λ x. let o = once x in let a = times_in-append x (run_units q) (flat_map run_units rs) in omega arith))
  where
    by : (b : Bool) → shares e f ≡ b → list_any (shares e) es ≡ false → (shares e f || list_any (shares e) es) ≡ false
    by true t m =
        let o = both-have s e f r q h k.0 t in
        let i = once o.unit in
        let a = times_in-append o.unit (run_units q) (flat_map run_units rs) in
        let x = o.first in
        let y = o.second in
        absurd (omega arith)
    by false t m = ap (λ b. b || list_any (shares e) es) t ∙ m

-- extents of runs in which no unit stands twice
pub extents-apart : (s : SuperPart) (es : List Extent) (rs : List Run) → AreIn s es rs → ((x : ℕ) → times_in x (flat_map run_units rs) ≤ 1) → are_apart es ≡ true
extents-apart s [] [] h once = refl
extents-apart s [] (r ∷ rs) h once = absurd h
extents-apart s (e ∷ es) [] h once = absurd h
extents-apart s (e ∷ es) (r ∷ rs) h once =
    let one = none-shared s e r es rs h.0 h.1 (λ x. let o = once x in let a = times_in-append x (run_units r) (flat_map run_units rs) in omega arith) in
    and-true (not (list_any (shares e) es)) (are_apart es) (ap not one)
    (extents-apart s es rs h.1 (λ x. let o = once x in let a = times_in-append x (run_units r) (flat_map run_units rs) in omega arith))

-- ---- whole units

all-of : (bytes unit n more : ℕ) → 0 < unit → 0 < more → div_ceil bytes unit ≡ n + more → min bytes (n * unit) ≡ n * unit
all-of bytes unit n more p some h = by (cases_lt (n * unit) bytes)
  where
    by : (n * unit < bytes) ⊎ (bytes ≤ n * unit) → min bytes (n * unit) ≡ n * unit
    by (inl l) = omega arith
    by (inr l) = let c = ceil-le bytes n unit p l in absurd (omega (arith, c, h, some))

-- each extent but the last one has all the bytes of its run
pub extents-whole : (s : SuperPart) (n bytes : ℕ) (runs : List Run) → IsSectored s → bytes % 512 ≡ 0 → list_all (is_run_below n) runs ≡ true → div_ceil bytes s.unit ≡ run_total runs → are_whole s (extents_for s bytes runs) ≡ true
extents-whole s n bytes [] g w b h = refl
extents-whole s n bytes (r ∷ []) g w b h = refl
extents-whole s n bytes (r ∷ q ∷ runs) g w b h =
    let p = both (is_run_below n r) (list_all (is_run_below n) (q ∷ runs)) b in
    let c = count-here r (q ∷ runs) bytes s.unit h in
    let cut = run-cut bytes s.unit r.count (run_total (q ∷ runs)) g.some c in
    let t = times-whole r.count s.unit g.unit in
    and-true _ (are_whole s (extents_for s (bytes - r.count * s.unit) (q ∷ runs)))
    (full (both (is_run_below n q) (list_all (is_run_below n) runs) p.1).0 c)
    (extents-whole s n (bytes - r.count * s.unit) (q ∷ runs) g (omega arith) p.1 cut.rest)
  where
    full : is_run_below n q ≡ true → div_ceil bytes s.unit ≡ r.count + run_total (q ∷ runs) → ((512 * (extent_for s bytes r).sectors) % s.unit == 0) ≡ true
    full k c =
        let some : 0 < q.count = grind (arith, nat_tests) in
        let more = sum_by-cons (λ (x : Run). x.count) q runs in
        let m = all-of bytes s.unit r.count (run_total (q ∷ runs)) g.some (omega arith) c in
        let e = ap (λ x. x % s.unit) (sectors-of s bytes r g w ∙ m) ∙ mul-mod_left r.count s.unit in
        grind (arith, nat_tests)
