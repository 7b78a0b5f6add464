-- What the entries of the table that is written read as: each partition's units, length and group.
use Rattle.std.proofs.Common.{◌≡◌, ◌∙◌, refl, ap, sym, ℕ, zero, suc, ◌+◌, ◌*◌, ◌-◌, ◌/◌, ◌%◌, ◌<◌, ◌≤◌, Bool, true, false, cond, List, [], ◌∷◌, ◌++◌, map, length, take, drop, arith, append_assoc, length-append}
use Rattle.std.specs.Prelude.{◌||◌, not, ◌==◌, nat_lt, min, sum_by, unwrap_or, slice_index_or, bytes_eq, if◌then◌else◌, Some, None}
use Rattle.std.specs.Int.{div_ceil, next_multiple_of}
use Rattle.std.specs.List.{list_all, flat_map, range_with_len, position_or_len}
use Rattle.std.proofs.Math.Seq.{take-append_seam, drop-append_seam}
use Rattle.std.proofs.Math.Nat.{mul-mod_left, lt_of_mul-lt-mul_right, mod-eq-sub-div-mul, div-mul-le_self, mod_self, mod-eq_of_lt, mod-lt, mul-div_cancel}
use Rattle.std.proofs.lemmas.Grind.{div_ceil_times}
use Rattle.std.proofs.lemmas.List.Sums.{sum_by-cons}
use Rattle.std.proofs.lemmas.Bool.Decides.{nat_tests}
use Rattle.std.proofs.lemmas.Slice.Eq.{bytes_eq-Decides}
use Rattle.fb_frame.specs.declared.tables.TableGroup.{TableGroup}
use Rattle.dev_model.specs.declared.device.Dev.{Dev}
use Rattle.dev_model.specs.declared.device.Logical.{Logical}
use Rattle.dev_model.specs.Tables.{is_group}
use Rattle.dev_model.proofs.Valid.{both}
use Rattle.super_meta.specs.declared.table.Partition.{Partition}
use Rattle.super_meta.specs.declared.table.Extent.{Extent}
use Rattle.super_meta.specs.Contents.{Content}
use Rattle.super_meta.specs.Held.{group_name}
use Rattle.dev_store.specs.declared.layout.SuperPart.{SuperPart}
use Rattle.dev_store.specs.LayoutLines.{first_unit}
use Rattle.dev_store.specs.Supers.{extents_of, bytes_in, unit_at, units_in, units_of}
use Rattle.dev_store.specs.Runs.{Run, run_on, runs_of, extents_for, group_place, entries_for, beside, as_group, table_for}
use Rattle.dev_store.specs.SuperBounds.{IsBounded}
use Rattle.dev_store.proofs.ValidSuper.{good-super}
use Rattle.dev_store.specs.TableChanges.{IsEntryOf, AreEntriesOf, IsFitted, AreFitted}

-- the units of runs
abbrev pub run_units : Run → List ℕ
run_units run = range_with_len run.unit run.count

-- how many units runs have
abbrev pub run_total : List Run → ℕ
run_total runs = sum_by (λ run. run.count) runs

-- runs hold the units of which they were made
units-on : (unit : ℕ) (runs : List Run) → flat_map run_units (run_on unit runs) ≡ unit ∷ flat_map run_units runs
units-on unit [] = refl
units-on unit (run ∷ runs) = by (run.unit == unit + 1) refl
  where
    by : (b : Bool) → (run.unit == unit + 1) ≡ b →
        flat_map run_units (if b then record { unit = unit; count = run.count + 1 } ∷ runs else record { unit = unit; count = 1 } ∷ run ∷ runs) ≡ unit ∷ flat_map run_units (run ∷ runs)
    by true e =
        let w : run.unit ≡ unit + 1 = grind (arith, nat_tests) in
        let n : run.count + 1 ≡ suc run.count = omega arith in
        ap (λ k. range_with_len unit k ++ flat_map run_units runs) n
        ∙ ap (λ u. unit ∷ (range_with_len u run.count ++ flat_map run_units runs)) (sym w)
    by false e = refl

total-on : (unit : ℕ) (runs : List Run) → run_total (run_on unit runs) ≡ suc (run_total runs)
total-on unit [] = refl
total-on unit (run ∷ runs) = by (run.unit == unit + 1)
  where
    by : (b : Bool) → run_total (if b then record { unit = unit; count = run.count + 1 } ∷ runs else record { unit = unit; count = 1 } ∷ run ∷ runs) ≡ suc (run_total (run ∷ runs))
    by true =
        let a = sum_by-cons (λ (r : Run). r.count) (record { unit = unit; count = run.count + 1 }) runs in
        let b = sum_by-cons (λ (r : Run). r.count) run runs in
        omega arith
    by false =
        let a = sum_by-cons (λ (r : Run). r.count) (record { unit = unit; count = 1 }) (run ∷ runs) in
        omega arith

pub runs-units : (units : List ℕ) → flat_map run_units (runs_of units) ≡ units
unfolding runs_of
runs-units [] = refl
runs-units (unit ∷ units) = units-on unit (runs_of units) ∙ ap (λ l. unit ∷ l) (runs-units units)

pub runs-total : (units : List ℕ) → run_total (runs_of units) ≡ length units
unfolding runs_of
runs-total [] = refl
runs-total (unit ∷ units) = total-on unit (runs_of units) ∙ ap suc (runs-total units)

-- numbers of whole sectors
pub times-whole : (k unit : ℕ) → unit % 512 ≡ 0 → (k * unit) % 512 ≡ 0
times-whole k unit h =
    let e : unit ≡ 512 * (unit / 512) = omega arith in
    let m = mul-mod_left 512 (k * (unit / 512)) in
    let d : k * unit ≡ 512 * (k * (unit / 512)) = ap (λ u. k * u) e ∙ grind arith in
    ap (λ n. n % 512) d ∙ omega arith

-- the next multiple of a number of whole sectors is whole sectors
up-whole : (n unit : ℕ) → unit % 512 ≡ 0 → 0 < unit → next_multiple_of n unit % 512 ≡ 0
up-whole n unit h pos = by (n % unit) refl
  where
    by : (r : ℕ) → n % unit ≡ r → next_multiple_of n unit % 512 ≡ 0
    by zero e =
        let d = mod-eq-sub-div-mul n unit in
        let l = div-mul-le_self n unit in
        let z : unit - 0 ≡ unit = omega arith in
        let s : n + 0 ≡ n / unit * unit = omega arith in
        ap (λ x. (n + (unit - x) % unit) % 512) e
        ∙ (ap (λ x. (n + x % unit) % 512) z ∙ (ap (λ x. (n + x) % 512) (mod_self unit) ∙ (ap (λ x. x % 512) s ∙ times-whole (n / unit) unit h)))
    by (suc r) e =
        let d = mod-eq-sub-div-mul n unit in
        let l = div-mul-le_self n unit in
        let m = mod-lt n pos in
        let lt : unit - suc r < unit = omega arith in
        let s : n + (unit - suc r) ≡ n / unit * unit + unit = omega arith in
        let w = times-whole (n / unit) unit h in
        ap (λ x. (n + (unit - x) % unit) % 512) e
        ∙ (ap (λ x. (n + x) % 512) (mod-eq_of_lt lt) ∙ (ap (λ x. x % 512) s ∙ omega arith))

pub first-whole : (s : SuperPart) → s.unit % 512 ≡ 0 → 0 < s.unit → first_unit s % 512 ≡ 0
first-whole s h pos = up-whole (12288 + 2 * s.slots * s.max_size) s.unit h pos

-- the number of units that hold a length is the one whose bytes are just enough
pub ceil-is : (bytes n unit : ℕ) → 0 < unit → bytes ≤ n * unit → n * unit < bytes + unit → div_ceil bytes unit ≡ n
ceil-is bytes n unit pos low high =
    let d = div_ceil_times bytes unit pos in
    let a : div_ceil bytes unit * unit < suc n * unit = omega arith in
    let b : n * unit < suc (div_ceil bytes unit) * unit = omega arith in
    let x = lt_of_mul-lt-mul_right unit a in
    let y = lt_of_mul-lt-mul_right unit b in
    omega arith

-- a run holds as many bytes as its units, or all that are left
pub record IsRunCut (bytes unit count more : ℕ) : Type 0 where
  pub here : div_ceil (min bytes (count * unit)) unit ≡ count
  pub rest : div_ceil (bytes - count * unit) unit ≡ more

pub run-cut : (bytes unit count more : ℕ) → 0 < unit → div_ceil bytes unit ≡ count + more → IsRunCut bytes unit count more
run-cut bytes unit count more pos h =
    let d = div_ceil_times bytes unit pos in
    let e = ap (λ n. n * unit) h in
    let f : (count + more) * unit ≡ count * unit + more * unit = grind arith in
    record {
      here = ceil-is (min bytes (count * unit)) count unit pos (omega arith) (omega arith);
      rest = ceil-is (bytes - count * unit) more unit pos (omega arith) (omega arith);
    }

-- the numbers of a super by which places are whole sectors
pub record IsSectored (s : SuperPart) : Type 0 where
  pub unit : s.unit % 512 ≡ 0
  pub some : 0 < s.unit
  pub first : first_unit s % 512 ≡ 0

pub sectored : (s : SuperPart) → IsBounded s → IsSectored s
sectored s b =
    let g = good-super s b.good in
    let w : s.unit % 4096 ≡ 0 = let e = g.blocks in grind (arith, nat_tests) in
    let u = b.unit in
    let unit : s.unit % 512 ≡ 0 = omega arith in
    let some : 0 < s.unit = omega arith in
    record { unit = unit; some = some; first = first-whole s unit some }

-- the extent of a run that holds so many bytes
abbrev pub extent_for : SuperPart → ℕ → Run → Extent
extent_for s bytes run = record { sectors = min bytes (run.count * s.unit) / 512; target = (first_unit s + run.unit * s.unit) / 512 }

pub sectors-of : (s : SuperPart) (bytes : ℕ) (run : Run) → IsSectored s → bytes % 512 ≡ 0 → 512 * (extent_for s bytes run).sectors ≡ min bytes (run.count * s.unit)
sectors-of s bytes run h k = let w = times-whole run.count s.unit h.unit in omega (arith, w, k)

pub unit-of : (s : SuperPart) (bytes : ℕ) (run : Run) → IsSectored s → unit_at s (extent_for s bytes run) ≡ run.unit
unit-of s bytes run h =
    let w = times-whole run.unit s.unit h.unit in
    let f = h.first in
    let e : 512 * ((first_unit s + run.unit * s.unit) / 512) - first_unit s ≡ run.unit * s.unit = whole-after (first_unit s) (run.unit * s.unit) f w in
    ap (λ n. n / s.unit) e ∙ mul-div_cancel run.unit h.some
  where
    whole-after : (a b : ℕ) → a % 512 ≡ 0 → b % 512 ≡ 0 → 512 * ((a + b) / 512) - a ≡ b
    whole-after a b h k = omega arith

extent-units : (s : SuperPart) (bytes : ℕ) (run : Run) → IsSectored s → bytes % 512 ≡ 0 → div_ceil (min bytes (run.count * s.unit)) s.unit ≡ run.count →
    units_in s (extent_for s bytes run) ≡ run_units run
extent-units s bytes run h k e =
    let u = unit-of s bytes run h in
    let n = ap (λ z. div_ceil z s.unit) (sectors-of s bytes run h k) ∙ e in
    λ i. range_with_len (u i) (n i)

-- the extents of runs have these units, hold these bytes, and are one for each run
pub extents-units : (s : SuperPart) (bytes : ℕ) (runs : List Run) → IsSectored s → bytes % 512 ≡ 0 → div_ceil bytes s.unit ≡ run_total runs →
    flat_map (units_in s) (extents_for s bytes runs) ≡ flat_map run_units runs
extents-units s bytes [] h k e = refl
extents-units s bytes (run ∷ runs) h k e =
    let w = times-whole run.count s.unit h.unit in
    let cut = run-cut bytes s.unit run.count (run_total runs) h.some (e ∙ sum_by-cons (λ (r : Run). r.count) run runs) in
    let one = extent-units s bytes run h k cut.here in
    let more = extents-units s (bytes - run.count * s.unit) runs h (omega (arith, w, k)) cut.rest in
    λ i. one i ++ more i

pub extents-bytes : (s : SuperPart) (bytes : ℕ) (runs : List Run) → IsSectored s → bytes % 512 ≡ 0 → div_ceil bytes s.unit ≡ run_total runs → bytes_in (extents_for s bytes runs) ≡ bytes
extents-bytes s bytes [] h k e = let d = div_ceil_times bytes s.unit h.some in let z = ap (λ n. n * s.unit) e in omega arith
extents-bytes s bytes (run ∷ runs) h k e =
    let w = times-whole run.count s.unit h.unit in
    let cut = run-cut bytes s.unit run.count (run_total runs) h.some (e ∙ sum_by-cons (λ (r : Run). r.count) run runs) in
    let more = extents-bytes s (bytes - run.count * s.unit) runs h (omega (arith, w, k)) cut.rest in
    let a = sum_by-cons (λ (x : Extent). 512 * x.sectors) (extent_for s bytes run) (extents_for s (bytes - run.count * s.unit) runs) in
    let b = sectors-of s bytes run h k in
    omega (arith, a, b, more)

pub extents-many : (s : SuperPart) (bytes : ℕ) (runs : List Run) → length (extents_for s bytes runs) ≡ length runs
extents-many s bytes [] = refl
extents-many s bytes (run ∷ runs) = ap suc (extents-many s (bytes - run.count * s.unit) runs)

-- the group at the place of a name has the name
pub record IsPlace (groups : List TableGroup) (name : List ℕ) (place : ℕ) : Type 0 where
  pub inside : place < length groups
  pub named : slice_index_or (map (λ g. g.name) (map as_group groups)) place [] ≡ name

pub place-found : (groups : List TableGroup) (name : List ℕ) → is_group groups name ≡ true → IsPlace groups name (position_or_len (λ g. bytes_eq g.name name) groups)
place-found [] name h = absurd cc
place-found (g ∷ groups) name h = by (bytes_eq g.name name) refl h (place-found groups name)
  where
    by : (b : Bool) → bytes_eq g.name name ≡ b → (b || is_group groups name) ≡ true → (is_group groups name ≡ true → IsPlace groups name (position_or_len (λ g. bytes_eq g.name name) groups)) →
        IsPlace (g ∷ groups) name (cond (not b) (1 + position_or_len (λ g. bytes_eq g.name name) groups) 0)
    by true e k more = record { inside = omega arith; named = (bytes_eq-Decides g.name name).0 e }
    by false e k more =
        let p = more k in
        let i = p.inside in
        let n : 1 + position_or_len (λ (g : TableGroup). bytes_eq g.name name) groups ≡ suc (position_or_len (λ (g : TableGroup). bytes_eq g.name name) groups) = omega arith in
        record { inside = omega arith; named = ap (λ k. slice_index_or (map (λ g. g.name) (map as_group (g ∷ groups))) k []) n ∙ p.named }

pub group-named : (groups : List TableGroup) (name : List ℕ) → is_group groups name ≡ true → group_name (map as_group groups) (group_place groups name) ≡ name
group-named groups name h =
    let q = position_or_len (λ (g : TableGroup). bytes_eq g.name name) groups in
    let p = place-found groups name h in
    let i = p.inside in
    let e : nat_lt q (length groups) ≡ true = grind (arith, nat_tests) in
    ap (λ b. slice_index_or (map (λ g. g.name) (map as_group groups)) (unwrap_or (cond b (Some q) None) 0) []) e ∙ p.named

-- the extents of these partitions, one after another
abbrev pub extents_all : SuperPart → List Logical → List (List ℕ) → List Extent
extents_all s logical lists = flat_map (λ (p, units). extents_for s (length p.bytes) (runs_of units)) (beside logical lists)

-- an entry whose extents are these
entry-is : (s : SuperPart) (c : Content) (e : Partition) (p : Logical) (units : List ℕ) → IsSectored s → IsFitted s.unit p units → e.name ≡ p.name → e.attributes ≡ p.attributes →
    group_name c.groups e.group ≡ p.group → extents_of c e ≡ extents_for s (length p.bytes) (runs_of units) → IsEntryOf s c e p units
unfolding units_of
entry-is s c e p units h fit name attributes group x =
    let w = fit.whole in
    let n : div_ceil (length p.bytes) s.unit ≡ run_total (runs_of units) = sym fit.many ∙ sym (runs-total units) in
    let k : length p.bytes % 512 ≡ 0 = omega arith in
    record {
      name = name;
      attributes = attributes;
      group = group;
      long = ap bytes_in x ∙ extents-bytes s (length p.bytes) (runs_of units) h k n;
      units = ap (flat_map (units_in s)) x ∙ (extents-units s (length p.bytes) (runs_of units) h k n ∙ runs-units units);
    }

-- entries whose extents follow these
entries-from : (s : SuperPart) (c : Content) (groups : List TableGroup) (before : List Extent) (at : ℕ) (logical : List Logical) (lists : List (List ℕ)) → IsSectored s → AreFitted s.unit logical lists →
    list_all (λ p. is_group groups p.group) logical ≡ true → c.groups ≡ map as_group groups → at ≡ length before → c.extents ≡ before ++ extents_all s logical lists →
    AreEntriesOf s c (entries_for groups at (beside logical lists)) logical lists
entries-from s c groups before at [] [] h fit known g a x = tt
entries-from s c groups before at [] (units ∷ lists) h fit known g a x = absurd fit
entries-from s c groups before at (p ∷ logical) [] h fit known g a x = absurd fit
entries-from s c groups before at (p ∷ logical) (units ∷ lists) h fit known g a x =
    let own = extents_for s (length p.bytes) (runs_of units) in
    let rest = extents_all s logical lists in
    let count = length (runs_of units) in
    let many : length own ≡ count = extents-many s (length p.bytes) (runs_of units) in
    let k = both (is_group groups p.group) _ known in
    let here : take count (drop at c.extents) ≡ own =
    (λ i. take (sym many i) (drop (a i) (x i))) ∙ (ap (take (length own)) (drop-append_seam before (own ++ rest)) ∙ take-append_seam own rest) in
    let next : at + count ≡ length (before ++ own) = (λ i. a i + sym many i) ∙ sym (length-append before own) in (
      entry-is s c (record { name = p.name; attributes = p.attributes; first = at; count = count; group = group_place groups p.group }) p units h fit.0 refl refl
          (ap (λ gs. group_name gs (group_place groups p.group)) g ∙ group-named groups p.group k.0) here,
      entries-from s c groups (before ++ own) (at + count) logical lists h fit.1 k.1 g next (x ∙ sym (append_assoc before own rest)),
    )

pub entries-read : (s : SuperPart) (dev : Dev) (lists : List (List ℕ)) → IsSectored s → AreFitted s.unit dev.logical lists → list_all (λ p. is_group dev.groups p.group) dev.logical ≡ true →
    AreEntriesOf s (table_for s dev lists) (table_for s dev lists).partitions dev.logical lists
unfolding table_for
entries-read s dev lists h fit known = entries-from s (table_for s dev lists) dev.groups [] 0 dev.logical lists h fit known refl refl refl
