-- What zeros behind a partition's bytes leave of each partition.
use Rattle.std.proofs.Common.{◌≡◌, ◌≢◌, ◌∙◌, refl, ap, sym, ℕ, ◌+◌, ◌*◌, ◌-◌, ◌<◌, ◌≤◌, Bool, true, false, List, [], ◌∷◌, ◌++◌, length, take, drop, replicate, arith, inl, inr, append-nil, append_assoc}
use Rattle.std.specs.Prelude.{◌⊎◌, nat_le, nat_lt, min}
use Rattle.std.specs.List.{list_all, AllByRecursion}
use Rattle.std.proofs.Math.Nat.{min-eq_left, min-eq_right}
use Rattle.std.proofs.Math.Seq.{take-add}
use Rattle.std.proofs.lemmas.Grind.{div_ceil_times}
use Rattle.std.proofs.lemmas.List.{take-append-le, take-append-drop, take-take, take_all, length-take, length-replicate}
use Rattle.std.proofs.lemmas.Bool.Decides.{nat_tests, leb_tells}
use Rattle.fb_frame.specs.Bytes.{zeros}
use Rattle.dev_model.specs.declared.device.Logical.{Logical}
use Rattle.dev_model.specs.Sizes.{units_for}
use Rattle.dev_model.specs.Steps.{cut_or_padded}
use Rattle.dev_model.proofs.ValidSizes.{length-cut}
use Rattle.dev_model.proofs.Valid.{and-true}
use Rattle.unit_alloc.specs.Owning.{times_in}
use Rattle.unit_alloc.proofs.TimesLemmas.{times_in-cons}
use Rattle.dev_store.specs.declared.layout.SuperPart.{SuperPart}
use Rattle.dev_store.specs.LayoutLines.{unit_count}
use Rattle.dev_store.specs.Layouts.{LayoutValue, parts_end}
use Rattle.dev_store.specs.Supers.{unit_bytes, units_bytes}
use Rattle.dev_store.specs.Stand.{super_bytes, physical_at}
use Rattle.dev_store.proofs.OpenLemmas.{take-of}
use Rattle.dev_store.proofs.ValidLemmas.{range-long}
use Rattle.dev_store.proofs.ValidSuper.{units-long}
use Rattle.dev_store.proofs.ValidUnits.{all-take}
use Rattle.dev_store.specs.TableChanges.{IsFitted, LiesIn}

-- units that don't stand from a number on are below it
pub all-below : (n : ℕ) (us : List ℕ) → ((u : ℕ) → n ≤ u → times_in u us ≡ 0) → list_all (λ u. nat_lt u n) us ≡ true
all-below n [] h = refl
all-below n (x ∷ us) h =
    and-true (nat_lt x n) _ (here (nat_lt x n) refl)
    (all-below n us (λ u k. let c = times_in-cons u x us in let z = h u k in omega arith))
  where
    here : (b : Bool) → nat_lt x n ≡ b → nat_lt x n ≡ true
    here true e = e
    here false e = let c = times_in-cons x x us in let z = h x (grind (arith, nat_tests)) in absurd (grind (arith, nat_tests))

-- units one after another
pub units-append : (s : SuperPart) (super xs ys : List ℕ) → units_bytes s super (xs ++ ys) ≡ units_bytes s super xs ++ units_bytes s super ys
unfolding units_bytes
units-append s super [] ys = refl
units-append s super (x ∷ xs) ys = ap (λ l. unit_bytes s super x ++ l) (units-append s super xs ys) ∙ sym (append_assoc (unit_bytes s super x) (units_bytes s super xs) (units_bytes s super ys))

-- a front of units holds the first of their bytes
pub front-bytes : (s : SuperPart) (super us : List ℕ) (count n : ℕ) → length super ≡ s.size → 0 < s.unit → list_all (λ u. nat_lt u (unit_count s)) us ≡ true →
    n ≤ count * s.unit → n ≤ length us * s.unit → take n (units_bytes s super (take count us)) ≡ take n (units_bytes s super us)
front-bytes s super us count n long pos below h k =
    let l = units-long s super long pos (take count us) (all-take (λ u. nat_lt u (unit_count s)) count us below) in
    let t = ap (λ x. x * s.unit) (length-take count us) in
    let m : n ≤ length (units_bytes s super (take count us)) = least (leb_tells count (length us)) l t in
    sym (take-append-le n (units_bytes s super (take count us)) (units_bytes s super (drop count us)) m)
    ∙ ap (take n) (sym (units-append s super (take count us) (drop count us)) ∙ ap (units_bytes s super) (take-append-drop count us))
  where
    least : ((nat_le count (length us) ≡ true) × (count ≤ length us)) ⊎ ((nat_le count (length us) ≡ false) × (length us < count)) →
        length (units_bytes s super (take count us)) ≡ length (take count us) * s.unit → length (take count us) * s.unit ≡ min count (length us) * s.unit → n ≤ length (units_bytes s super (take count us))
    least (inl (e, g)) l t = let z = ap (λ x. x * s.unit) (min-eq_left g) in omega arith
    least (inr (e, g)) l t = let z = ap (λ x. x * s.unit) (min-eq_right (weaker g)) in omega arith
      where
        weaker : length us < count → length us ≤ count
        weaker g = omega arith

-- units and others after them hold the same first bytes
pub after-bytes : (s : SuperPart) (super xs ys : List ℕ) (n : ℕ) → length super ≡ s.size → 0 < s.unit → list_all (λ u. nat_lt u (unit_count s)) xs ≡ true → n ≤ length xs * s.unit →
    take n (units_bytes s super (xs ++ ys)) ≡ take n (units_bytes s super xs)
after-bytes s super xs ys n long pos below h =
    let l = units-long s super long pos xs below in
    ap (take n) (units-append s super xs ys) ∙ take-append-le n (units_bytes s super xs) (units_bytes s super ys) (omega arith)

-- the bytes of super are as many as its layout says
pub super-long : (layout : LayoutValue) (s : SuperPart) (file : List ℕ) → parts_end layout.physical + s.size ≤ length file → length (super_bytes layout s file) ≡ s.size
super-long layout s file h = range-long (parts_end layout.physical) s.size file h

-- the first bytes up to a length, and then others
cut-in-two : (size len : ℕ) (xs : List ℕ) → take size xs ≡ take (min size len) xs ++ take (size - len) (drop len xs)
cut-in-two size len xs = by (leb_tells size len)
  where
    by : ((nat_le size len ≡ true) × (size ≤ len)) ⊎ ((nat_le size len ≡ false) × (len < size)) → take size xs ≡ take (min size len) xs ++ take (size - len) (drop len xs)
    by (inl (e, h)) =
        let m : min size len ≡ size = min-eq_left h in
        let z : size - len ≡ 0 = omega arith in
        sym ((λ i. take (m i) xs ++ take (z i) (drop len xs)) ∙ append-nil (take size xs))
    by (inr (e, h)) =
        let m : min size len ≡ len = omega arith in
        let z : size ≡ len + (size - len) = omega arith in
        ap (λ n. take n xs) z ∙ (take-add len (size - len) xs ∙ ap (λ n. take n xs ++ take (size - len) (drop len xs)) (sym m))

-- bytes that are cut or padded, in these two parts
cut-parts : (size : ℕ) (bytes : List ℕ) → take (min size (length bytes)) bytes ≡ take size bytes
cut-parts size bytes = by (leb_tells size (length bytes))
  where
    by : ((nat_le size (length bytes) ≡ true) × (size ≤ length bytes)) ⊎ ((nat_le size (length bytes) ≡ false) × (length bytes < size)) → take (min size (length bytes)) bytes ≡ take size bytes
    by (inl (e, h)) = ap (λ n. take n bytes) (min-eq_left h)
    by (inr (e, h)) =
        let m : min size (length bytes) ≡ length bytes = omega arith in
        ap (λ n. take n bytes) m ∙ (take_all (length bytes) bytes (omega arith) ∙ sym (take_all size bytes (omega arith)))

-- bytes that are cut, or padded with zeros, lie in the units that are kept and those after them
pub padded-lies : (layout : LayoutValue) (s : SuperPart) (p : Logical) (units more : List ℕ) (count size : ℕ) (old new : List ℕ) → length (super_bytes layout s old) ≡ s.size → 0 < s.unit →
    list_all (λ u. nat_lt u (unit_count s)) units ≡ true → IsFitted s.unit p units → LiesIn s (super_bytes layout s old) p units → count ≡ units_for s.unit size →
    take (length p.bytes) (units_bytes s (super_bytes layout s new) (take count units ++ more)) ≡ take (length p.bytes) (units_bytes s (super_bytes layout s old) (take count units ++ more)) →
    take (size - length p.bytes) (drop (length p.bytes) (units_bytes s (super_bytes layout s new) (take count units ++ more))) ≡ zeros (size - length p.bytes) →
    LiesIn s (super_bytes layout s new) (record p { bytes = cut_or_padded size p.bytes }) (take count units ++ more)
unfolding zeros
padded-lies layout s p units more count size old new long pos below fit lies c kept padded =
    let super = super_bytes layout s old in
    let len = length p.bytes in
    let m = min size len in
    let list = take count units ++ more in
    let x = units_bytes s (super_bytes layout s new) list in
    let d = div_ceil_times size s.unit pos in
    let g = ap (λ n. n * s.unit) c in
    let f = div_ceil_times len s.unit pos in
    let q = ap (λ n. n * s.unit) fit.many in
    let a : m ≤ count * s.unit = omega arith in
    let b : m ≤ length units * s.unit = omega arith in
    let t : m ≤ length (take count units) * s.unit = least count (length units) (length (take count units)) m s.unit (length-take count units) a b in
    let front : take m (units_bytes s super list) ≡ take m (units_bytes s super units) =
    after-bytes s super (take count units) more m long pos (all-take (λ u. nat_lt u (unit_count s)) count units below) t ∙ front-bytes s super units count m long pos below a b in
    let same : take m x ≡ take m (units_bytes s super list) = take-of m len x (units_bytes s super list) (omega arith) kept in
    let own : take m (units_bytes s super units) ≡ take m p.bytes = sym (take-take m len (units_bytes s super units) (omega arith)) ∙ ap (take m) (sym lies) in
    let whole : take size x ≡ cut_or_padded size p.bytes =
    cut-in-two size len x ∙ (λ i. (same ∙ (front ∙ (own ∙ cut-parts size p.bytes))) i ++ padded i) in
    sym (ap (λ n. take n x) (length-cut size p.bytes) ∙ whole)
  where
    least : (a b c m unit : ℕ) → c ≡ min a b → m ≤ a * unit → m ≤ b * unit → m ≤ c * unit
    least a b c m unit e h k = by (leb_tells a b)
      where
        by : ((nat_le a b ≡ true) × (a ≤ b)) ⊎ ((nat_le a b ≡ false) × (b < a)) → m ≤ c * unit
        by (inl (t, g)) = let z = ap (λ x. x * unit) (e ∙ min-eq_left g) in omega arith
        by (inr (t, g)) = let w : min a b ≡ b = omega arith in let z = ap (λ x. x * unit) (e ∙ w) in omega arith

-- the same bytes still lie in the units where others come after them
pub kept-lies : (layout : LayoutValue) (s : SuperPart) (p : Logical) (units more : List ℕ) (old new : List ℕ) → length (super_bytes layout s old) ≡ s.size →
    length (super_bytes layout s new) ≡ s.size → 0 < s.unit → list_all (λ u. nat_lt u (unit_count s)) units ≡ true → IsFitted s.unit p units → LiesIn s (super_bytes layout s old) p units →
    take (length p.bytes) (units_bytes s (super_bytes layout s new) (units ++ more)) ≡ take (length p.bytes) (units_bytes s (super_bytes layout s old) (units ++ more)) → LiesIn s (super_bytes layout s new) p units
kept-lies layout s p units more old new long long-new pos below fit lies kept =
    let len = length p.bytes in
    let f = div_ceil_times len s.unit pos in
    let q = ap (λ n. n * s.unit) fit.many in
    let b : len ≤ length units * s.unit = omega arith in
    lies ∙ (sym (after-bytes s (super_bytes layout s old) units more len long pos below b)
    ∙ (sym kept ∙ after-bytes s (super_bytes layout s new) units more len long-new pos below b))

-- zeros alone lie in units that are padded from their beginning on
pub zeros-lie : (layout : LayoutValue) (s : SuperPart) (p : Logical) (units : List ℕ) (size : ℕ) (old new : List ℕ) → p.bytes ≡ replicate size 0 →
    take (size - 0) (drop 0 (units_bytes s (super_bytes layout s new) units)) ≡ zeros (size - 0) → LiesIn s (super_bytes layout s new) p units
unfolding zeros
zeros-lie layout s p units size old new e padded =
    let x = units_bytes s (super_bytes layout s new) units in
    let n : length p.bytes ≡ size = ap length e ∙ length-replicate size 0 in
    let z : size - 0 ≡ size = omega arith in
    e ∙ (sym (ap (λ k. replicate k 0) z) ∙ (sym padded ∙ ap (λ k. take k x) (z ∙ sym n)))

-- Of a store's partitions nothing changed but bytes in these units from a place of them on: those are the units that
-- the partition of the name is to have. The function gives each other one's units.
pub record IsTouched (layout : LayoutValue) (s : SuperPart) (f : List ℕ → List ℕ) (ps : List Logical) (name units : List ℕ) (from : ℕ) (old new : List ℕ) : Type 0 where
  pub same_length : length new ≡ length old
  pub physical : physical_at 12288 layout.physical new ≡ physical_at 12288 layout.physical old
  pub others : AllByRecursion (λ p. p.name ≢ name → LiesIn s (super_bytes layout s new) p (f p.name)) ps
  pub kept : take from (units_bytes s (super_bytes layout s new) units) ≡ take from (units_bytes s (super_bytes layout s old) units)

-- And up to another place these bytes are zeros.
pub record IsFilled (layout : LayoutValue) (s : SuperPart) (f : List ℕ → List ℕ) (ps : List Logical) (name units : List ℕ) (from size : ℕ) (old new : List ℕ) : Type 0 where
  pub touched : IsTouched layout s f ps name units from old new
  pub padded : take (size - from) (drop from (units_bytes s (super_bytes layout s new) units)) ≡ zeros (size - from)

pub all-others : (s : SuperPart) (super : List ℕ) (f : List ℕ → List ℕ) (name : List ℕ) (ps : List Logical) → AllByRecursion (λ p. LiesIn s super p (f p.name)) ps → AllByRecursion (λ p. p.name ≢ name → LiesIn s super p (f p.name)) ps
all-others s super f name [] h = tt
all-others s super f name (p ∷ ps) h = (λ ne. h.0, all-others s super f name ps h.1)

-- nothing is written where a partition doesn't grow
pub filled-none : (layout : LayoutValue) (s : SuperPart) (f : List ℕ → List ℕ) (ps : List Logical) (name units : List ℕ) (from size : ℕ) (file : List ℕ) → size ≤ from →
    AllByRecursion (λ p. LiesIn s (super_bytes layout s file) p (f p.name)) ps → IsFilled layout s f ps name units from size file file
unfolding zeros
filled-none layout s f ps name units from size file h lies =
    let z : size - from ≡ 0 = omega arith in
    record {
      touched = record { same_length = refl; physical = refl; others = all-others s (super_bytes layout s file) f name ps lies; kept = refl };
      padded = ap (λ n. take n (drop from (units_bytes s (super_bytes layout s file) units))) z ∙ sym (ap (λ n. replicate n 0) z);
    }
