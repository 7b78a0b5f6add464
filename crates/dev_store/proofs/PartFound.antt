-- Finding a partition: a physical one by its place, a logical one by its units.
use Rattle.std.proofs.Common.{◌≡◌, ◌∙◌, refl, ap, sym, subst, ℕ, ◌+◌, ◌*◌, ◌≤◌, ◌<◌, Bool, true, false, List, [], ◌∷◌, ◌++◌, length, map, drop, get_or, cond}
use Rattle.std.proofs.Common.{Option, Some, None, length-append, arith, if◌then◌else◌, ◌-◌, ◌/◌, min, add-mul, mul_comm, mul-le-mul_right, mul-div_cancel}
use Rattle.std.specs.Prelude.{bytes_eq, option_map, position, find, slice_get, slice_index, nat_lt, ◌%◌, IsTrue}
use Rattle.std.specs.List.{position_or_len, flat_map}
use Rattle.std.proofs.Math.Nat.{mul-mod_left}
use Rattle.std.proofs.lemmas.Bool.Decides.{nat_tests}
use Rattle.std.proofs.lemmas.List.{length-map}
use Rattle.std.proofs.lemmas.List.Folds.{find_at}
use Rattle.std.proofs.lemmas.Option.{slice_get-map, slice_get-get_or, slice_get_past}
use Rattle.unit_alloc.specs.Owning.{Owning}
use Rattle.unit_alloc.specs.Owning.{units_of as units_owned}
use Rattle.super_meta.specs.declared.table.Partition.{Partition}
use Rattle.super_meta.specs.Contents.{Content, content}
use Rattle.dev_store.specs.declared.layout.PhysicalPart.{PhysicalPart}
use Rattle.dev_store.specs.declared.layout.SuperPart.{SuperPart}
use Rattle.dev_store.specs.declared.part_place.Span.{Span}
use Rattle.dev_store.specs.declared.part_place.Units.{Units}
use Rattle.dev_store.specs.declared.part_place.Piece.{Piece}
use Rattle.dev_store.specs.declared.super_read.SuperRead.{SuperRead}
use Rattle.dev_store.specs.LayoutLines.{unit_count}
use Rattle.dev_store.specs.Layouts.{LayoutValue, image_size}
use Rattle.dev_store.specs.Laid.{IsLaid, is_good_super}
use Rattle.dev_store.specs.Reading.{IsWithinSound, IsSuperSound}
use Rattle.dev_store.specs.Supers.{extents_of, bytes_in, units_of}
use Rattle.dev_store.specs.SuperBounds.{IsBounded}
use Rattle.dev_store.specs.PartWrites.{physical_place}
use Rattle.dev_store.specs.PartPlaces.{pair_of, logical_size, HaveRoom, IsInRun}
use Rattle.dev_store.proofs.PartPhysical.{place-within}
use Rattle.dev_store.proofs.UnitLemmas.{left-step, bounded}
use Rattle.dev_store.proofs.ValidSuper.{part-holds, units-few, good-units, good-super}

-- the physical partition of a name, by what stands at a place of the list
place-step : (start i : ℕ) (parts : List PhysicalPart) (p : PhysicalPart) (name : List ℕ) → i < length parts → p ≡ get_or parts i p →
    physical_place start (drop i parts) name ≡ (if bytes_eq p.name name then Some (start, p.size) else physical_place (start + p.size) (drop (i + 1) parts) name)
place-step start i parts p name h e = ap (λ l. physical_place start l name) (left-step parts i p h e)

pub place-here : (start i : ℕ) (parts : List PhysicalPart) (p : PhysicalPart) (name : List ℕ) → i < length parts → p ≡ get_or parts i p → bytes_eq p.name name ≡ true →
    physical_place start (drop i parts) name ≡ Some (start, p.size)
place-here start i parts p name h e b = place-step start i parts p name h e ∙ ap (λ t. if t then Some (start, p.size) else physical_place (start + p.size) (drop (i + 1) parts) name) b

pub place-later : (start i : ℕ) (parts : List PhysicalPart) (p : PhysicalPart) (name : List ℕ) → i < length parts → p ≡ get_or parts i p → bytes_eq p.name name ≡ false →
    physical_place start (drop i parts) name ≡ physical_place (start + p.size) (drop (i + 1) parts) name
place-later start i parts p name h e b = place-step start i parts p name h e ∙ ap (λ t. if t then Some (start, p.size) else physical_place (start + p.size) (drop (i + 1) parts) name) b

-- the first of a name, by its place
pub found-at : {X : Type 0} (p : X → Bool) (xs : List X) (i : ℕ) → Some i ≡ position p xs → (i < length xs) × (find p xs ≡ slice_get xs i)
found-at p xs i e = by (nat_lt q (length xs)) refl e where
  q : ℕ
  q = position_or_len p xs

  by : (b : Bool) → nat_lt q (length xs) ≡ b → Some i ≡ cond b (Some q) None → (i < length xs) × (find p xs ≡ slice_get xs i)
  by true l k = let same : i ≡ q = cc in (let m : q < length xs = grind (arith, nat_tests) in omega arith, find_at p xs ∙ ap (slice_get xs) (sym same))
  by false l k = absurd cc

pub found-none : {X : Type 0} (p : X → Bool) (xs : List X) → None ≡ position p xs → find p xs ≡ None
found-none p xs e = by (nat_lt q (length xs)) refl e where
  q : ℕ
  q = position_or_len p xs

  by : (b : Bool) → nat_lt q (length xs) ≡ b → None ≡ cond b (Some q) None → find p xs ≡ None
  by true l k = absurd cc
  by false l k = let m : length xs ≤ q = grind (arith, nat_tests) in find_at p xs ∙ slice_get_past xs q m

some-same : {X : Type 0} (x y : X) → Some x ≡ Some y → x ≡ y
some-same x y e = cc

-- the entry of a name, and its units by the map
pub found-units : (s : SuperPart) (c : Content) (name : List ℕ) (o : Owning) (parts : List ℕ) (ps : List Partition) (i part : ℕ) (p : Partition) (text : List ℕ) → ps ≡ c.partitions → text ≡ name →
    Some i ≡ position (λ q. bytes_eq q.name text) ps → p ≡ get_or c.partitions i p → part ≡ get_or parts i part → map (units_owned o) parts ≡ map (units_of s c) c.partitions →
    (find (λ q. bytes_eq q.name name) c.partitions ≡ Some p) × (units_owned o part ≡ units_of s c p)
found-units s c name o parts ps i part p text same named e a b lists =
    let f = found-at (λ (q : Partition). bytes_eq q.name name) c.partitions i (subst (λ l. Some i ≡ position (λ (q : Partition). bytes_eq q.name name) l) same (subst (λ n. Some i ≡ position (λ (q : Partition). bytes_eq q.name n) ps) named e)) in
    let entry : slice_get c.partitions i ≡ Some p = slice_get-get_or c.partitions i p f.0 ∙ ap Some (sym a) in
    let long : length parts ≡ length c.partitions = sym (length-map parts (units_owned o)) ∙ (ap length lists ∙ length-map c.partitions (units_of s c)) in
    let own : slice_get parts i ≡ Some part = slice_get-get_or parts i part (let g = f.0 in omega arith) ∙ ap Some (sym b) in (
      f.1 ∙ entry,
      some-same (units_owned o part) (units_of s c p)
          (sym (slice_get-map (units_owned o) parts i ∙ ap (option_map (units_owned o)) own)
          ∙ (ap (λ l. slice_get l i) lists ∙ (slice_get-map (units_of s c) c.partitions i ∙ ap (option_map (units_of s c)) entry))),
    )

-- what a name has is a part of what all have
pub found-few : {X : Type 0} (p : X → Bool) (f : X → List ℕ) (xs : List X) (x : X) → find p xs ≡ Some x → length (f x) ≤ length (flat_map f xs)
found-few p f [] x e = absurd cc
found-few p f (y ∷ ys) x e = by (p y) (λ k. found-few p f ys x k) e where
  by : (b : Bool) → (find p ys ≡ Some x → length (f x) ≤ length (flat_map f ys)) → (if b then Some y else find p ys) ≡ Some x → length (f x) ≤ length (f y ++ flat_map f ys)
  by true more k = let n = ap (λ z. length (f z)) (some-same y x k) in omega (arith, n, length-append (f y) (flat_map f ys))
  by false more k = let m = more k in omega (arith, m, length-append (f y) (flat_map f ys))

-- what is found gives its size
pub size-found : (c : Content) (name : List ℕ) (p : Partition) (size : ℕ) → find (λ q. bytes_eq q.name name) c.partitions ≡ Some p → size ≡ bytes_in (extents_of c p) → Some size ≡ logical_size (Some c) name
size-found c name p size e k = ap Some k ∙ sym (ap (option_map (λ q. bytes_in (extents_of c q))) e)

pub size-none : (c : Content) (name text : List ℕ) (ps : List Partition) → ps ≡ c.partitions → text ≡ name → None ≡ position (λ q. bytes_eq q.name text) ps → (let o : Option ℕ = None in o ≡ logical_size (Some c) name)
size-none c name text ps same named e = sym (ap (option_map (λ q. bytes_in (extents_of c q))) (found-none (λ (q : Partition). bytes_eq q.name name) c.partitions (subst (λ l. None ≡ position (λ (q : Partition). bytes_eq q.name name) l) same (subst (λ n. None ≡ position (λ (q : Partition). bytes_eq q.name n) ps) named e))))

-- a unit is whole blocks
pub unit-blocks : (s : SuperPart) → IsBounded s → s.unit % 4096 ≡ 0
unit-blocks s b = let e = (good-super s b.good).blocks in grind (arith, nat_tests)

-- the units of a name have room for its bytes
pub units-room : (s : SuperPart) (c : Content) (name : List ℕ) (u : Units) (p : Partition) → IsBounded s → length (flat_map (units_of s c) c.partitions) ≤ unit_count s →
    find (λ q. bytes_eq q.name name) c.partitions ≡ Some p → units_owned u.owners.now u.part ≡ units_of s c p → u.unit ≡ s.unit → u.size ≡ bytes_in (extents_of c p) → HaveRoom u.size u
units-room s c name u p b few e units unit size =
    let n = found-few (λ (q : Partition). bytes_eq q.name name) (units_of s c) c.partitions p e in
    let l = ap length units in
    let h : 0 < s.unit = let x = b.unit in omega arith in
    let k = part-holds s c p h in
    record {
      some = omega arith;
      blocks = ap (λ n. n % 4096) unit ∙ unit-blocks s b;
      few = let t = b.tables in let r = b.room in omega arith;
      small = let m : length (units_of s c p) * s.unit ≤ unit_count s * s.unit = mul-le-mul_right s.unit (let z : length (units_of s c p) ≤ unit_count s = omega arith in z) in let i = b.inside in let x = b.size in omega arith;
      long = subst (λ z. u.size ≤ length (units_owned u.owners.now u.part) * z) (sym unit) (subst (λ us. u.size ≤ length us * s.unit) (sym units) (subst (λ z. z ≤ length (units_of s c p) * s.unit) (sym size) k));
    }

-- the super of a layout keeps its bounds
pub part-bounded : (layout : LayoutValue) (s : SuperPart) → IsLaid layout → Some s ≡ layout.super_part → IsBounded s
part-bounded layout s l e = bounded s (subst (λ p. IsTrue (is_good_super p)) (sym e) l.super)

within-sound : (layout : LayoutValue) (part : Option SuperPart) (within : Option SuperRead) (s : SuperPart) (w : SuperRead) → Some s ≡ part → within ≡ Some w → IsWithinSound layout part within → IsSuperSound layout.physical s w
within-sound layout part within s w e k h = subst (λ o. IsWithinSound layout (Some s) o) k (subst (λ p. IsWithinSound layout p within) (sym e) h)

pub units-within : (layout : LayoutValue) (part : Option SuperPart) (within : Option SuperRead) (s : SuperPart) (w : SuperRead) → Some s ≡ part → within ≡ Some w → IsWithinSound layout part within →
    length (flat_map (units_of s (content w.table)) (content w.table).partitions) ≤ unit_count s
units-within layout part within s w e k h =
    let sound = within-sound layout part within s w e k h in
    units-few layout.physical s (content w.table) (good-units layout.physical s (content w.table) sound.good)

pub within-run : (at unit count : ℕ) → 0 < unit → 0 < count → at % unit < count * unit
within-run at unit count h k = let m = mul-le-mul_right unit (let l : 1 ≤ count = omega arith in l) in omega arith

-- a piece of a run
pub piece-in-run : (u : Units) (at first count : ℕ) (piece : Piece) → 0 < u.unit → 0 < count → at / u.unit + count ≤ length (units_owned u.owners.now u.part) →
    ((k : ℕ) → k < count → slice_index (units_owned u.owners.now u.part) (at / u.unit + k) ≡ first + k) → 0 < piece.count → piece.count ≤ count * u.unit - at % u.unit →
    piece.place ≡ u.start + (first * u.unit + at % u.unit) → IsInRun u at piece
piece-in-run u at first count piece h units long each some most place = record {
  from = at / u.unit;
  first = first;
  count = count;
  within = at % u.unit;
  some = units;
  long = long;
  each = each;
  begins = let e = mul_comm u.unit (at / u.unit) in omega arith;
  fits = omega arith;
  place = place;
}

-- a piece that ends before the rest does ends with its run
pub piece-ends : (unit at first count rest size : ℕ) (units : List ℕ) → 0 < unit → 0 < count → at % unit ≤ count * unit → ((k : ℕ) → k < count → slice_index units (at / unit + k) ≡ first + k) →
    size ≡ min rest (count * unit - at % unit) → size < rest → (0 < (at + size) / unit) × (first + (count - 1) ≡ slice_index units ((at + size) / unit - 1))
piece-ends unit at first count rest size units h some within each least less =
    let e = mul_comm unit (at / unit) in
    let d = add-mul (at / unit) count unit in
    let whole : at + size ≡ (at / unit + count) * unit = omega arith in
    let n : (at + size) / unit ≡ at / unit + count = ap (λ k. k / unit) whole ∙ mul-div_cancel (at / unit + count) h in
    let k : (at + size) / unit - 1 ≡ at / unit + (count - 1) = omega arith in
    (omega arith, sym (ap (slice_index units) k ∙ each (count - 1) (omega arith)))

pub piece-whole : (unit at count rest size : ℕ) → 0 < unit → at % unit ≤ count * unit → size ≡ min rest (count * unit - at % unit) → size < rest → (at + size) % unit ≡ 0
piece-whole unit at count rest size h within least less =
    let e = mul_comm unit (at / unit) in
    let d = add-mul (at / unit) count unit in
    let whole : at + size ≡ (at / unit + count) * unit = omega arith in
    ap (λ k. k % unit) whole ∙ mul-mod_left (at / unit + count) unit

-- a piece ends before all units do
pub piece-inside : (start unit first count units within size : ℕ) → first + count ≤ units → within + size ≤ count * unit → start + (first * unit + within) + size ≤ start + units * unit
piece-inside start unit first count units within size h k =
    let d = add-mul first count unit in
    let m = mul-le-mul_right unit h in
    omega arith

-- a physical partition lies in the image
pub span-inside : (layout : LayoutValue) (parts : List PhysicalPart) (name : List ℕ) (o : Option Span) (span : Span) → parts ≡ layout.physical → o ≡ Some span → option_map pair_of o ≡ physical_place 12288 parts name →
    span.start + span.size ≤ image_size layout
span-inside layout parts name o span same e h =
    let found : physical_place 12288 layout.physical name ≡ Some (span.start, span.size) = sym (ap (λ ps. physical_place 12288 ps name) same) ∙ (sym h ∙ ap (option_map pair_of) e) in
    let w = place-within 12288 layout.physical name span.start span.size found in
    omega (arith, w.1)
