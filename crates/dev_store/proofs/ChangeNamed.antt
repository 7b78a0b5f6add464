-- The units of partitions by their names, and what a good table says of them.
use Rattle.std.proofs.Common.{◌≡◌, ◌∙◌, refl, ap, sym, ℕ, suc, ◌+◌, ◌*◌, ◌<◌, Bool, true, false, cond, List, [], ◌∷◌, map, length, take, arith, Some, length-append}
use Rattle.std.specs.Prelude.{not, ◌&&◌, ◌||◌, ◌%◌, ◌/◌, min, ◌==◌, position, unwrap_or, slice_get, bytes_eq, if◌then◌else◌}
use Rattle.std.specs.Int.{div_ceil}
use Rattle.std.specs.List.{list_all, flat_map, position_or_len, AllByRecursion}
use Rattle.std.proofs.Math.Nat.{mod-eq-sub-div-mul, div-mul-le_self}
use Rattle.std.proofs.lemmas.Grind.{div_ceil_times}
use Rattle.std.proofs.lemmas.Bool.Decides.{nat_tests}
use Rattle.std.proofs.lemmas.List.FromFn.{length-range_with_len}
use Rattle.std.proofs.lemmas.List.Sums.{sum_by-cons}
use Rattle.std.proofs.lemmas.Slice.Eq.{bytes_eq-Decides}
use Rattle.fb_frame.specs.Distinct.{are_distinct}
use Rattle.dev_model.specs.declared.device.Logical.{Logical}
use Rattle.dev_model.proofs.Names.{among}
use Rattle.dev_model.proofs.Valid.{both}
use Rattle.unit_alloc.specs.Owning.{Owning}
use Rattle.unit_alloc.specs.Owning as owning
use Rattle.super_meta.specs.declared.table.Partition.{Partition}
use Rattle.super_meta.specs.declared.table.Extent.{Extent}
use Rattle.super_meta.specs.Contents.{Content}
use Rattle.dev_store.specs.declared.layout.SuperPart.{SuperPart}
use Rattle.dev_store.specs.Supers.{extents_of, bytes_in, unit_at, units_in, units_of, is_at_unit, lies_in_units, are_whole, is_placed, units_bytes, logical_at}
use Rattle.dev_store.specs.Held.{units_by}
use Rattle.dev_store.proofs.OpenOwns.{place-same}
use Rattle.dev_store.proofs.ValidSuper.{logical-long}
use Rattle.dev_store.proofs.ChangeTable.{ceil-is}
use Rattle.dev_store.specs.TableChanges.{IsFitted, AreFitted, LiesIn, LieIn}

-- the units of the partition of a name, where each has a part of the map
abbrev pub by_name : Owning → List ℕ → List Logical → List ℕ → List ℕ
by_name o parts logical name = units_by (Some o) (slice_get parts (unwrap_or (position (λ p. bytes_eq p.name name) logical) (length parts)))

abbrev pub at-name : List ℕ → Logical → Bool
at-name name p = bytes_eq p.name name

pub by-place : (o : Owning) (parts : List ℕ) (logical : List Logical) (name : List ℕ) → length parts ≡ length logical →
    by_name o parts logical name ≡ units_by (Some o) (slice_get parts (position_or_len (at-name name) logical))
by-place o parts logical name many = ap (units_by (Some o)) (place-same parts (length logical) (position_or_len (at-name name) logical) many)

-- the first of that name has its own, and any other name has those of the rest
pub by-cons : (o : Owning) (part : ℕ) (parts : List ℕ) (p : Logical) (logical : List Logical) (name : List ℕ) → length parts ≡ length logical →
    by_name o (part ∷ parts) (p ∷ logical) name ≡ (if bytes_eq p.name name then owning.units_of o part else by_name o parts logical name)
by-cons o part parts p logical name many =
    by-place o (part ∷ parts) (p ∷ logical) name (ap suc many) ∙ by (bytes_eq p.name name)
  where
    by : (b : Bool) → units_by (Some o) (slice_get (part ∷ parts) (cond (not b) (1 + position_or_len (at-name name) logical) 0)) ≡ (if b then owning.units_of o part else by_name o parts logical name)
    by true = refl
    by false =
        let n : 1 + position_or_len (at-name name) logical ≡ suc (position_or_len (at-name name) logical) = omega arith in
        ap (λ k. units_by (Some o) (slice_get (part ∷ parts) k)) n ∙ sym (by-place o parts logical name many)

-- texts that differ, either way round
pub eq-false : (a b : List ℕ) → bytes_eq a b ≡ false → bytes_eq b a ≡ false
eq-false a b h = by (bytes_eq b a) refl
  where
    never : (x : Bool) → x ≡ true → x ≡ false → ⊥
    never x e k = cc

    by : (x : Bool) → bytes_eq b a ≡ x → x ≡ false
    by false e = refl
    by true e = absurd (never (bytes_eq a b) ((bytes_eq-Decides a b).1 (sym ((bytes_eq-Decides b a).0 e))) h)

pub not-or : (a b : Bool) → not (a || b) ≡ true → (a ≡ false) × (not b ≡ true)
not-or true b h = absurd cc
not-or false b h = (refl, h)

-- names that aren't the first one's have the units that the rest gives
by-rest : (o : Owning) (part : ℕ) (parts : List ℕ) (p : Logical) (logical some : List Logical) → length parts ≡ length logical → not (among p.name (map (λ q. q.name) some)) ≡ true →
    map (λ q. by_name o (part ∷ parts) (p ∷ logical) q.name) some ≡ map (λ q. by_name o parts logical q.name) some
by-rest o part parts p logical [] many h = refl
by-rest o part parts p logical (q ∷ some) many h =
    let n = not-or (bytes_eq q.name p.name) (among p.name (map (λ q. q.name) some)) h in
    let one = by-cons o part parts p logical q.name many ∙ ap (λ b. if b then owning.units_of o part else by_name o parts logical q.name) (eq-false q.name p.name n.0) in
    let more = by-rest o part parts p logical some many n.1 in
    λ i. one i ∷ more i

-- in their order they are those of the parts
pub by-names : (o : Owning) (parts : List ℕ) (logical : List Logical) → length parts ≡ length logical → are_distinct (map (λ p. p.name) logical) ≡ true →
    map (λ p. by_name o parts logical p.name) logical ≡ map (owning.units_of o) parts
by-names o [] [] many h = refl
by-names o [] (p ∷ logical) many h = absurd cc
by-names o (part ∷ parts) [] many h = absurd cc
by-names o (part ∷ parts) (p ∷ logical) many h =
    let m : length parts ≡ length logical = suc-of (length parts) (length logical) many in
    let d = both (not (among p.name (map (λ q. q.name) logical))) _ h in
    let one = by-cons o part parts p logical p.name m ∙ ap (λ b. if b then owning.units_of o part else by_name o parts logical p.name) ((bytes_eq-Decides p.name p.name).1 refl) in
    let more = by-rest o part parts p logical logical m d.0 ∙ by-names o parts logical m d.1 in
    λ i. one i ∷ more i
  where
    suc-of : (a b : ℕ) → suc a ≡ suc b → a ≡ b
    suc-of a b e = omega arith

-- each of these partitions by its name, and list by list
pub lie-each : (s : SuperPart) (super : List ℕ) (f : List ℕ → List ℕ) (ps : List Logical) → LieIn s super ps (map (λ p. f p.name) ps) → AllByRecursion (λ p. LiesIn s super p (f p.name)) ps
lie-each s super f [] h = tt
lie-each s super f (p ∷ ps) h = (h.0, lie-each s super f ps h.1)

pub each-lie : (s : SuperPart) (super : List ℕ) (f : List ℕ → List ℕ) (ps : List Logical) → AllByRecursion (λ p. LiesIn s super p (f p.name)) ps → LieIn s super ps (map (λ p. f p.name) ps)
each-lie s super f [] h = tt
each-lie s super f (p ∷ ps) h = (h.0, each-lie s super f ps h.1)

pub fit-each : (unit : ℕ) (f : List ℕ → List ℕ) (ps : List Logical) → AreFitted unit ps (map (λ p. f p.name) ps) → AllByRecursion (λ p. IsFitted unit p (f p.name)) ps
fit-each unit f [] h = tt
fit-each unit f (p ∷ ps) h = (h.0, fit-each unit f ps h.1)

pub each-fit : (unit : ℕ) (f : List ℕ → List ℕ) (ps : List Logical) → AllByRecursion (λ p. IsFitted unit p (f p.name)) ps → AreFitted unit ps (map (λ p. f p.name) ps)
each-fit unit f [] h = tt
each-fit unit f (p ∷ ps) h = (h.0, each-fit unit f ps h.1)

-- extents of which all but the last are whole have as many units as their bytes need
pub eq-is : (a b : ℕ) → (a == b) ≡ true → a ≡ b
eq-is a b h = grind (arith, nat_tests)

whole-times : (n unit : ℕ) → 0 < unit → (n % unit == 0) ≡ true → div_ceil n unit * unit ≡ n
whole-times n unit pos h =
    let z = eq-is (n % unit) 0 h in
    let d = mod-eq-sub-div-mul n unit in
    let l = div-mul-le_self n unit in
    let e : div_ceil n unit ≡ n / unit = ap (λ r. n / unit + min 1 r) z ∙ omega arith in
    ap (λ k. k * unit) e ∙ omega arith

pub extents-fit : (s : SuperPart) (es : List Extent) → 0 < s.unit → are_whole s es ≡ true → length (flat_map (units_in s) es) ≡ div_ceil (bytes_in es) s.unit
extents-fit s [] pos h = sym (ceil-is 0 0 s.unit pos (omega arith) (omega arith))
extents-fit s (e ∷ []) pos h =
    let n = length-range_with_len (unit_at s e) (div_ceil (512 * e.sectors) s.unit) in
    let a = length-append (units_in s e) [] in
    let b : bytes_in (e ∷ []) ≡ 512 * e.sectors = omega (arith, sum_by-cons (λ (x : Extent). 512 * x.sectors) e []) in
    omega (arith, a) ∙ (n ∙ ap (λ k. div_ceil k s.unit) (sym b))
extents-fit s (e ∷ f ∷ es) pos h =
    let w = both ((512 * e.sectors) % s.unit == 0) (are_whole s (f ∷ es)) h in
    let more = extents-fit s (f ∷ es) pos w.1 in
    let k = div_ceil (512 * e.sectors) s.unit in
    let m = length (flat_map (units_in s) (f ∷ es)) in
    let n : length (units_in s e) ≡ k = length-range_with_len (unit_at s e) k in
    let a = length-append (units_in s e) (flat_map (units_in s) (f ∷ es)) in
    let b = sum_by-cons (λ (x : Extent). 512 * x.sectors) e (f ∷ es) in
    let own = whole-times (512 * e.sectors) s.unit pos w.0 in
    let d = div_ceil_times (bytes_in (f ∷ es)) s.unit pos in
    let q = ap (λ x. x * s.unit) more in
    let g : (k + m) * s.unit ≡ k * s.unit + m * s.unit = grind arith in
    a ∙ (ap (λ x. x + m) n ∙ sym (ceil-is (bytes_in (e ∷ f ∷ es)) (k + m) s.unit pos (omega arith) (omega arith)))

-- partitions of a good table are fitted
pub entry-fit : (s : SuperPart) (c : Content) (super : List ℕ) (e : Partition) → length super ≡ s.size → 0 < s.unit → list_all (λ e. is_at_unit s e && lies_in_units s e) c.extents ≡ true →
    is_placed s c e ≡ true → IsFitted s.unit (logical_at s c super e) (units_of s c e)
unfolding units_of
entry-fit s c super e long pos placed h =
    let w = both (are_whole s (extents_of c e)) (bytes_in (extents_of c e) % 4096 == 0) h in
    let n = logical-long s c super e long pos placed in
    record {
      many = extents-fit s (extents_of c e) pos w.0 ∙ ap (λ k. div_ceil k s.unit) (sym n);
      whole = ap (λ k. k % 4096) n ∙ eq-is (bytes_in (extents_of c e) % 4096) 0 w.1;
    }

pub entries-fit : (s : SuperPart) (c : Content) (super : List ℕ) (es : List Partition) → length super ≡ s.size → 0 < s.unit → list_all (λ e. is_at_unit s e && lies_in_units s e) c.extents ≡ true →
    list_all (is_placed s c) es ≡ true → AreFitted s.unit (map (logical_at s c super) es) (map (units_of s c) es)
entries-fit s c super [] long pos placed h = tt
entries-fit s c super (e ∷ es) long pos placed h =
    let w = both (is_placed s c e) (list_all (is_placed s c) es) h in
    (entry-fit s c super e long pos placed w.0, entries-fit s c super es long pos placed w.1)

-- and they lie in their units
pub entries-lie : (s : SuperPart) (c : Content) (super : List ℕ) (es : List Partition) → length super ≡ s.size → 0 < s.unit → list_all (λ e. is_at_unit s e && lies_in_units s e) c.extents ≡ true →
    LieIn s super (map (logical_at s c super) es) (map (units_of s c) es)
entries-lie s c super [] long pos placed = tt
entries-lie s c super (e ∷ es) long pos placed =
    (ap (λ n. take n (units_bytes s super (units_of s c e))) (sym (logical-long s c super e long pos placed)), entries-lie s c super es long pos placed)
