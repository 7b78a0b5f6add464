-- What a write in a partition, good or failed, makes of the device of an image and of the image.
use Rattle.std.proofs.Common.{◌≡◌, ◌∙◌, refl, ap, sym, subst, ℕ, ◌+◌, ◌*◌, ◌<◌, ◌≤◌, true, List, [], ◌++◌, find, length, take, drop, Option, Some, None, option_map, unwrap_or, arith}
use Rattle.std.specs.Prelude.{IfSome, bytes_eq, slice_index}
use Rattle.std.specs.List.{flat_map}
use Rattle.fb_frame.specs.Told.{Both}
use Rattle.fb_frame.specs.Bytes.{zeros}
use Rattle.dev_model.specs.declared.device.Dev.{Dev}
use Rattle.dev_model.specs.Validity.{IsValid}
use Rattle.dev_disk.specs.Files.{written, DifferWithin, Wrote, IsRead, copy}
use Rattle.dev_disk.proofs.Writes.{differ-written, read-written}
use Rattle.unit_alloc.specs.Owning.{times_in}
use Rattle.super_meta.specs.declared.table.Partition.{Partition}
use Rattle.super_meta.specs.Contents.{Content}
use Rattle.dev_store.specs.declared.layout.SuperPart.{SuperPart}
use Rattle.dev_store.specs.declared.state.State.{State}
use Rattle.dev_store.specs.Changes.{put_at}
use Rattle.dev_store.specs.LayoutLines.{first_unit}
use Rattle.dev_store.specs.Laid.{is_good_super}
use Rattle.dev_store.specs.Layouts.{LayoutValue, parts_end, super_size, image_size}
use Rattle.dev_store.specs.Supers.{extents_of, bytes_in, units_of, logical_at}
use Rattle.dev_store.specs.Stand.{super_bytes}
use Rattle.dev_store.specs.SuperBounds.{IsBounded}
use Rattle.dev_store.specs.Held.{zeroed, seen, file_or_zeros, device_held, IsKept, IsTabled}
use Rattle.dev_store.specs.StoreCalls.{part_bytes, IsPartly, IsRangeRead}
use Rattle.dev_store.specs.PartWrites.{physical_place, IsFrontKept, IsBodyChanged, IsPartWritten, IsLeftIn}
use Rattle.dev_store.proofs.MadeText.{length-zeros}
use Rattle.dev_store.proofs.OpenLemmas.{take-of}
use Rattle.dev_store.proofs.OpenSuper.{both-then}
use Rattle.dev_store.proofs.OpenWhole.{file-long, kept-valid}
use Rattle.dev_store.proofs.OpenZeros.{held-zeroed}
use Rattle.dev_store.proofs.OwnedOnce.{found-times}
use Rattle.dev_store.proofs.SuperRepairLemmas.{widen, differ-self}
use Rattle.dev_store.proofs.UnitLemmas.{bounded}
use Rattle.dev_store.proofs.ValidLemmas.{range-long}
use Rattle.dev_store.proofs.ValidSuper.{AreUnits, good-units, part-below, logical-long}
use Rattle.dev_store.proofs.ValidUnits.{times-once}
use Rattle.dev_store.proofs.PartLists.{change-written, range-written}
use Rattle.dev_store.proofs.PartDevices.{names-apart, put_twice, put_none, put_zeroed, put-of-zeroed, put_is_partly, partly-self, part-put}
use Rattle.dev_store.proofs.PartPhysical.{device-at, place-within, physical-changed, physical-is, physical-body}
use Rattle.dev_store.proofs.PartRuns.{IsRun, run-inside, run-differs}
use Rattle.dev_store.proofs.PartLogical.{logical-changed, logical-is, partition-written, run-apart}

-- the device is that of the file, or of zeros
held-at : (layout : LayoutValue) (state : State) (table : Option Content) (image : Option (List ℕ)) → device_held layout state table image ≡ device-at layout state table (file_or_zeros layout image)
unfolding device_held
held-at layout state table image = refl

-- what is kept of an image is so of each file of its length
kept-over : (layout : LayoutValue) (state : State) (table : Option Content) (image : Option (List ℕ)) (file : List ℕ) → IsKept layout state table image → length file ≡ image_size layout → IsKept layout state table (Some file)
kept-over layout state table image file k h = record { laid = k.laid; stated = k.stated; tabled = k.tabled; long = h }

valid-at : (layout : LayoutValue) (state : State) (table : Option Content) (file : List ℕ) → IsKept layout state table (Some file) → IsValid (device-at layout state table file)
valid-at layout state table file k = subst IsValid (held-at layout state table (Some file)) (kept-valid layout state table (Some file) k)

-- A range of each file is a range of the partition of a name: a write there is a write in the partition.
record IsRangeOf (layout : LayoutValue) (state : State) (table : Option Content) (name : List ℕ) (at count place : ℕ) : Type 0 where
  inside : (file : List ℕ) → IsKept layout state table (Some file) → at + count ≤ length (part_bytes name (device-at layout state table file))
  in_file : (file : List ℕ) → IsKept layout state table (Some file) → place + count ≤ length file
  puts : (file bytes : List ℕ) → IsKept layout state table (Some file) → length bytes ≡ count →
      device-at layout state table (written file place bytes) ≡ put_at name at bytes (device-at layout state table file)
  body : (file bytes : List ℕ) → IsKept layout state table (Some file) → length bytes ≡ count → IsBodyChanged layout file (written file place bytes)

-- a range of a physical partition is one
physical-range : (layout : LayoutValue) (state : State) (table : Option Content) (name : List ℕ) (b n at count place : ℕ) → physical_place 12288 layout.physical name ≡ Some (b, n) →
    place ≡ b + at → at + count ≤ n → IsRangeOf layout state table name at count place
physical-range layout state table name b n at count place h e fits =
    let room = place-within 12288 layout.physical name b n h in
    let low = room.0 in
    let high = room.1 in
    let end : (file : List ℕ) → IsKept layout state table (Some file) → b + n ≤ length file = λ file k. let l = k.long in omega arith in
    let differs : (file bytes : List ℕ) → IsKept layout state table (Some file) → length bytes ≡ count → DifferWithin b n file (written file place bytes) =
    λ file bytes k c. let l = end file k in widen place (length bytes) b n file (written file place bytes) (differ-written file place bytes (omega arith)) (omega arith) (omega arith) in
    record {
      inside = λ file k. let l = range-long b n file (end file k) in let p = ap length (physical-is layout state table name b n file h) in omega arith;
      in_file = λ file k. let l = end file k in omega arith;
      puts = λ file bytes k c.
          physical-changed layout state table name (λ old. written old at bytes) b n file (written file place bytes) (valid-at layout state table file k) h (differs file bytes k c)
          (sym (ap (λ m. take n (drop b (written file m bytes))) e ∙ range-written file b n at bytes (omega arith) (end file k)));
      body = λ file bytes k c. physical-body layout name b n file (written file place bytes) h (differs file bytes k c);
    }

-- what a table in super gives, by its facts
record IsUsable (layout : LayoutValue) (s : SuperPart) (c : Content) : Type 0 where
  good : AreUnits layout.physical s c
  bound : IsBounded s
  whole : image_size layout ≡ parts_end layout.physical + s.size

usable : (layout : LayoutValue) (state : State) (s : SuperPart) (c : Content) (image : Option (List ℕ)) → IsKept layout state (Some c) image → layout.super_part ≡ Some s → IsUsable layout s c
usable layout state s c image k e = record {
  good = good-units layout.physical s c (subst (λ q. IsTabled layout q (Some c)) e k.tabled).0;
  bound = bounded s (subst (λ q. is_good_super q ≡ true) e k.laid.super);
  whole = ap (λ q. parts_end layout.physical + super_size q) e;
}

fronts : (layout : LayoutValue) (part : Option SuperPart) (s : SuperPart) (old new : List ℕ) → part ≡ Some s → take (first_unit s) (super_bytes layout s new) ≡ take (first_unit s) (super_bytes layout s old) → IsFrontKept layout part old new
fronts layout part s old new e h = subst (λ q. IsFrontKept layout q old new) (sym e) h

-- a range of units of a logical partition that follow each other is one
logical-range : (layout : LayoutValue) (state : State) (s : SuperPart) (c : Content) (name : List ℕ) (q : Partition) (k n first off at count place : ℕ) → IsUsable layout s c → layout.super_part ≡ Some s →
    find (λ p. bytes_eq p.name name) c.partitions ≡ Some q → IsRun (units_of s c q) k n first → at ≡ k * s.unit + off → off + count ≤ n * s.unit → at + count ≤ bytes_in (extents_of c q) →
    place ≡ parts_end layout.physical + (first_unit s + (first * s.unit + off)) → IsRangeOf layout state (Some c) name at count place
logical-range layout state s c name q k n first off at count place u e h r is fits ends p =
    let start = parts_end layout.physical in
    let x = first_unit s + (first * s.unit + off) in
    let l = u.bound.unit in
    let w = u.whole in
    let some : 0 < s.unit = omega arith in
    let placed = u.good.placed in
    let all = part-below s c q placed in
    let room = run-inside s (units_of s c q) k n first r some all in
    let few : (v : ℕ) → times_in v (units_of s c q) ≤ 1 =
    λ v. let a = subst (λ o. times_in v (unwrap_or (option_map (units_of s c) o) []) ≤ times_in v (flat_map (units_of s c) c.partitions)) h (found-times (units_of s c) name v c.partitions) in
    let b = times-once v (flat_map (units_of s c) c.partitions) u.good.different in
    omega arith in
    let super : (file bytes : List ℕ) → IsKept layout state (Some c) (Some file) → length bytes ≡ count → super_bytes layout s (written file place bytes) ≡ written (super_bytes layout s file) x bytes =
    λ file bytes m z. let y = m.long in
    ap (λ j. super_bytes layout s (written file j bytes)) p ∙ range-written file start s.size x bytes (omega arith) (omega arith) in
    let long : (file : List ℕ) → IsKept layout state (Some c) (Some file) → length (super_bytes layout s file) ≡ s.size = λ file m. let y = m.long in range-long start s.size file (omega arith) in
    let change : (file bytes : List ℕ) → IsKept layout state (Some c) (Some file) → length bytes ≡ count → DifferWithin x (length bytes) (super_bytes layout s file) (super_bytes layout s (written file place bytes)) =
    λ file bytes m z. let y = long file m in subst (DifferWithin x (length bytes) (super_bytes layout s file)) (sym (super file bytes m z)) (differ-written (super_bytes layout s file) x bytes (omega arith)) in
    let before : (file bytes : List ℕ) → IsKept layout state (Some c) (Some file) → length bytes ≡ count → take start (written file place bytes) ≡ take start file =
    λ file bytes m z. let y = m.long in take-of start place (written file place bytes) file (omega arith) (differ-written file place bytes (omega arith)).front in
    record {
      inside = λ file m.
          let a = ap length (logical-is layout state s c name q file (valid-at layout state (Some c) file m) e h) in
          let b = logical-long s c (super_bytes layout s file) q (long file m) some placed in
          omega arith;
      in_file = λ file m. let y = m.long in omega arith;
      puts = λ file bytes m z.
          let own = partition-written s c q k n first off bytes (super_bytes layout s file) r some (long file m) all few (omega arith) (omega arith) in
          logical-changed layout state s c name (λ old. written old at bytes) q file (written file place bytes) (valid-at layout state (Some c) file m) e u.good h (before file bytes m z)
          (λ v t. run-differs s first n off (length bytes) (super_bytes layout s file) (super_bytes layout s (written file place bytes)) (omega arith) (change file bytes m z) v (run-apart (units_of s c q) k n first v r t))
          (ap (λ j. written (logical_at s c (super_bytes layout s file) q).bytes j bytes) is ∙ (sym own ∙ ap (λ b. (logical_at s c b q).bytes) (sym (super file bytes m z))));
      body = λ file bytes m z. let y = m.long in record {
        same_length = (differ-written file place bytes (omega arith)).same_length;
        front = take-of 12288 start (written file place bytes) file (omega arith) (before file bytes m z);
        super = fronts layout layout.super_part s file (written file place bytes) e
            (take-of (first_unit s) x (super_bytes layout s (written file place bytes)) (super_bytes layout s file) (omega arith) (change file bytes m z).front);
      };
    }

-- a good write in such a range
range-put : (layout : LayoutValue) (state : State) (table : Option Content) (name : List ℕ) (at place : ℕ) (bytes : List ℕ) (old new : Option (List ℕ)) → IsKept layout state table old →
    IsRangeOf layout state table name at (length bytes) place → Wrote old new place bytes → IsPartWritten layout (device_held layout state table) (put_at name at bytes) old new
unfolding seen
range-put layout state table name at place bytes None None k r w =
    let file = zeros (image_size layout) in
    let m = kept-over layout state table None file k (length-zeros (image_size layout)) in
    let is = held-at layout state table None in
    let same = put_zeroed name at bytes (device-at layout state table file) (valid-at layout state table file m) (r.inside file m) in
    record {
      device = held-zeroed layout state table ∙ (ap zeroed is ∙ (sym same ∙ ap (λ d. zeroed (put_at name at bytes d)) (sym is)));
      body = tt;
    }
range-put layout state table name at place bytes None (Some new) k r w = absurd w
range-put layout state table name at place bytes (Some old) None k r w = absurd w
range-put layout state table name at place bytes (Some old) (Some new) k r w = record {
  device = held-at layout state table (Some new)
      ∙ (ap (device-at layout state table) w ∙ (r.puts old bytes k refl ∙ ap (put_at name at bytes) (sym (held-at layout state table (Some old)))));
  body = subst (IsBodyChanged layout old) (sym w) (r.body old bytes k refl);
}

-- a failed write in such a range
range-left : (layout : LayoutValue) (state : State) (table : Option Content) (name : List ℕ) (at count place : ℕ) (old new : Option (List ℕ)) → IsKept layout state table old →
    IsRangeOf layout state table name at count place → Both (DifferWithin place count) old new → IsLeftIn layout (device_held layout state table) (put_at name at) count old new
range-left layout state table name at count place None None k r d =
    let l = length-zeros count in
    (zeros count, l, range-put layout state table name at place (zeros count) None None k (subst (λ n. IsRangeOf layout state table name at n place) (sym l) r) tt)
range-left layout state table name at count place None (Some new) k r d = absurd d
range-left layout state table name at count place (Some old) None k r d = absurd d
range-left layout state table name at count place (Some old) (Some new) k r d =
    let w = change-written old new place count d (r.in_file old k) in (
      copy new place count,
      w.0,
      range-put layout state table name at place (copy new place count) (Some old) (Some new) k (subst (λ n. IsRangeOf layout state table name at n place) (sym w.0) r) w.1,
    )

-- what is read of such a range
range-read : (layout : LayoutValue) (state : State) (table : Option Content) (name : List ℕ) (at place : ℕ) (bytes : List ℕ) (image : Option (List ℕ)) → IsKept layout state table image →
    IsRangeOf layout state table name at (length bytes) place → IsRead image place bytes → IsRangeRead image (part_bytes name (device_held layout state table image)) at bytes
range-read layout state table name at place bytes None k r h = tt
range-read layout state table name at place bytes (Some file) k r h =
    let dev = device-at layout state table file in
    let inside = r.inside file k in
    let self = (change-written file file place (length bytes) (differ-self place (length bytes) file) (r.in_file file k)).1 in
    let same : written file place bytes ≡ file = ap (written file place) h ∙ sym self in
    let own : part_bytes name dev ≡ written (part_bytes name dev) at bytes =
    ap (part_bytes name) (ap (device-at layout state table) (sym same) ∙ r.puts file bytes k refl) ∙ part-put name at bytes dev inside in
    sym (ap (λ d. take (length bytes) (drop at (part_bytes name d))) (held-at layout state table (Some file))
    ∙ (ap (λ l. take (length bytes) (drop at l)) own ∙ read-written (part_bytes name dev) at bytes inside))

-- A write in a physical partition.
pub physical_put : (layout : LayoutValue) (state : State) (table : Option Content) (name : List ℕ) (b n at place : ℕ) (bytes : List ℕ) (old new : Option (List ℕ)) → IsKept layout state table old →
    physical_place 12288 layout.physical name ≡ Some (b, n) → place ≡ b + at → at + length bytes ≤ n → Wrote old new place bytes →
    IsPartWritten layout (device_held layout state table) (put_at name at bytes) old new
physical_put layout state table name b n at place bytes old new k h e fits w =
    range-put layout state table name at place bytes old new k (physical-range layout state table name b n at (length bytes) place h e fits) w

pub physical_left : (layout : LayoutValue) (state : State) (table : Option Content) (name : List ℕ) (b n at count place : ℕ) (old new : Option (List ℕ)) → IsKept layout state table old →
    physical_place 12288 layout.physical name ≡ Some (b, n) → place ≡ b + at → at + count ≤ n → Both (DifferWithin place count) old new →
    IsLeftIn layout (device_held layout state table) (put_at name at) count old new
physical_left layout state table name b n at count place old new k h e fits d =
    range-left layout state table name at count place old new k (physical-range layout state table name b n at count place h e fits) d

pub physical_read : (layout : LayoutValue) (state : State) (table : Option Content) (name : List ℕ) (b n at place : ℕ) (bytes : List ℕ) (image : Option (List ℕ)) → IsKept layout state table image →
    physical_place 12288 layout.physical name ≡ Some (b, n) → place ≡ b + at → at + length bytes ≤ n → IsRead image place bytes →
    IsRangeRead image (part_bytes name (device_held layout state table image)) at bytes
physical_read layout state table name b n at place bytes image k h e fits r =
    range-read layout state table name at place bytes image k (physical-range layout state table name b n at (length bytes) place h e fits) r

-- and how long it is
pub physical_long : (layout : LayoutValue) (state : State) (table : Option Content) (name : List ℕ) (b n : ℕ) (image : Option (List ℕ)) → IsKept layout state table image →
    physical_place 12288 layout.physical name ≡ Some (b, n) → length (part_bytes name (device_held layout state table image)) ≡ n
physical_long layout state table name b n image k h =
    let file = file_or_zeros layout image in
    let room = place-within 12288 layout.physical name b n h in
    let l = file-long layout image k.long in
    ap (λ d. length (part_bytes name d)) (held-at layout state table image)
    ∙ (ap length (physical-is layout state table name b n file h) ∙ range-long b n file (omega (arith, room.1)))

-- Units of a partition that follow each other, by the contract of `run_at`.
run-of : (units : List ℕ) (k n first : ℕ) → 0 < n → k + n ≤ length units → ((i : ℕ) → i < n → slice_index units (k + i) ≡ first + i) → IsRun units k n first
run-of units k n first some there each = record { some = some; there = there; each = each }

-- A write in a logical partition, inside units that follow each other.
pub logical_put : (layout : LayoutValue) (state : State) (s : SuperPart) (c : Content) (name : List ℕ) (q : Partition) (k n first off at place : ℕ) (bytes : List ℕ) (old new : Option (List ℕ)) →
    IsKept layout state (Some c) old → layout.super_part ≡ Some s → find (λ p. bytes_eq p.name name) c.partitions ≡ Some q → 0 < n → k + n ≤ length (units_of s c q) →
    ((i : ℕ) → i < n → slice_index (units_of s c q) (k + i) ≡ first + i) → at ≡ k * s.unit + off → off + length bytes ≤ n * s.unit → at + length bytes ≤ bytes_in (extents_of c q) →
    place ≡ parts_end layout.physical + (first_unit s + (first * s.unit + off)) → Wrote old new place bytes → IsPartWritten layout (device_held layout state (Some c)) (put_at name at bytes) old new
logical_put layout state s c name q k n first off at place bytes old new kept e h some there each is fits ends p w =
    range-put layout state (Some c) name at place bytes old new kept
    (logical-range layout state s c name q k n first off at (length bytes) place (usable layout state s c old kept e) e h (run-of (units_of s c q) k n first some there each) is fits ends p) w

pub logical_left : (layout : LayoutValue) (state : State) (s : SuperPart) (c : Content) (name : List ℕ) (q : Partition) (k n first off at count place : ℕ) (old new : Option (List ℕ)) →
    IsKept layout state (Some c) old → layout.super_part ≡ Some s → find (λ p. bytes_eq p.name name) c.partitions ≡ Some q → 0 < n → k + n ≤ length (units_of s c q) →
    ((i : ℕ) → i < n → slice_index (units_of s c q) (k + i) ≡ first + i) → at ≡ k * s.unit + off → off + count ≤ n * s.unit → at + count ≤ bytes_in (extents_of c q) →
    place ≡ parts_end layout.physical + (first_unit s + (first * s.unit + off)) → Both (DifferWithin place count) old new →
    IsLeftIn layout (device_held layout state (Some c)) (put_at name at) count old new
logical_left layout state s c name q k n first off at count place old new kept e h some there each is fits ends p d =
    range-left layout state (Some c) name at count place old new kept
    (logical-range layout state s c name q k n first off at count place (usable layout state s c old kept e) e h (run-of (units_of s c q) k n first some there each) is fits ends p) d

pub logical_read : (layout : LayoutValue) (state : State) (s : SuperPart) (c : Content) (name : List ℕ) (q : Partition) (k n first off at place : ℕ) (bytes : List ℕ) (image : Option (List ℕ)) →
    IsKept layout state (Some c) image → layout.super_part ≡ Some s → find (λ p. bytes_eq p.name name) c.partitions ≡ Some q → 0 < n → k + n ≤ length (units_of s c q) →
    ((i : ℕ) → i < n → slice_index (units_of s c q) (k + i) ≡ first + i) → at ≡ k * s.unit + off → off + length bytes ≤ n * s.unit → at + length bytes ≤ bytes_in (extents_of c q) →
    place ≡ parts_end layout.physical + (first_unit s + (first * s.unit + off)) → IsRead image place bytes → IsRangeRead image (part_bytes name (device_held layout state (Some c) image)) at bytes
logical_read layout state s c name q k n first off at place bytes image kept e h some there each is fits ends p r =
    range-read layout state (Some c) name at place bytes image kept
    (logical-range layout state s c name q k n first off at (length bytes) place (usable layout state s c image kept e) e h (run-of (units_of s c q) k n first some there each) is fits ends p) r

pub logical_long : (layout : LayoutValue) (state : State) (s : SuperPart) (c : Content) (name : List ℕ) (q : Partition) (image : Option (List ℕ)) → IsKept layout state (Some c) image → layout.super_part ≡ Some s →
    find (λ p. bytes_eq p.name name) c.partitions ≡ Some q → length (part_bytes name (device_held layout state (Some c) image)) ≡ bytes_in (extents_of c q)
logical_long layout state s c name q image k e h =
    let file = file_or_zeros layout image in
    let l = file-long layout image k.long in
    let m = kept-over layout state (Some c) image file k l in
    let u = usable layout state s c image k e in
    let w = u.whole in
    let unit = u.bound.unit in
    ap (λ d. length (part_bytes name d)) (held-at layout state (Some c) image)
    ∙ (ap length (logical-is layout state s c name q file (valid-at layout state (Some c) file m) e h)
    ∙ logical-long s c (super_bytes layout s file) q (range-long (parts_end layout.physical) s.size file (omega arith)) (omega arith) u.good.placed)

-- Two changes of images, one after another.
fronts-then : (layout : LayoutValue) (part : Option SuperPart) (a b c : List ℕ) → IsFrontKept layout part a b → IsFrontKept layout part b c → IsFrontKept layout part a c
fronts-then layout None a b c f g = tt
fronts-then layout (Some s) a b c f g = g ∙ f

pub body-then : (layout : LayoutValue) (a b c : List ℕ) → IsBodyChanged layout a b → IsBodyChanged layout b c → IsBodyChanged layout a c
body-then layout a b c f g = record {
  same_length = g.same_length ∙ f.same_length;
  front = g.front ∙ f.front;
  super = fronts-then layout layout.super_part a b c f.super g.super;
}

device-then : (dev : Option (List ℕ) → Dev) (name : List ℕ) (at : ℕ) (xs ys : List ℕ) (layout : LayoutValue) (a b c : Option (List ℕ)) → Both (IsBodyChanged layout) a b → Both (IsBodyChanged layout) b c →
    dev b ≡ seen b (put_at name at xs (dev a)) → dev c ≡ seen c (put_at name (at + length xs) ys (dev b)) → dev c ≡ seen c (put_at name at (xs ++ ys) (dev a))
unfolding seen
device-then dev name at xs ys layout None None None f g d e =
    e ∙ (ap (λ t. zeroed (put_at name (at + length xs) ys t)) d
    ∙ (put-of-zeroed name (at + length xs) ys (put_at name at xs (dev None)) ∙ ap zeroed (put_twice name at xs ys (dev None))))
device-then dev name at xs ys layout None None (Some c) f g d e = absurd g
device-then dev name at xs ys layout None (Some b) c f g d e = absurd f
device-then dev name at xs ys layout (Some a) None c f g d e = absurd f
device-then dev name at xs ys layout (Some a) (Some b) None f g d e = absurd g
device-then dev name at xs ys layout (Some a) (Some b) (Some c) f g d e = e ∙ (ap (put_at name (at + length xs) ys) d ∙ put_twice name at xs ys (dev (Some a)))

-- Two writes, one behind the other, are one.
pub puts_then : (layout : LayoutValue) (dev : Option (List ℕ) → Dev) (name : List ℕ) (at : ℕ) (xs ys : List ℕ) (a b c : Option (List ℕ)) → IsPartWritten layout dev (put_at name at xs) a b →
    IsPartWritten layout dev (put_at name (at + length xs) ys) b c → IsPartWritten layout dev (put_at name at (xs ++ ys)) a c
puts_then layout dev name at xs ys a b c f g = record {
  device = device-then dev name at xs ys layout a b c f.body g.body f.device g.device;
  body = both-then (IsBodyChanged layout) (IsBodyChanged layout) (IsBodyChanged layout) a b c (body-then layout) f.body g.body;
}

fronts-self : (layout : LayoutValue) (part : Option SuperPart) (file : List ℕ) → IsFrontKept layout part file file
fronts-self layout None file = tt
fronts-self layout (Some s) file = refl

-- Nothing was written.
pub puts_none : (layout : LayoutValue) (state : State) (table : Option Content) (name : List ℕ) (at : ℕ) (image : Option (List ℕ)) →
    IsPartWritten layout (device_held layout state table) (put_at name at []) image image
unfolding seen
puts_none layout state table name at None = record {
  device = held-zeroed layout state table ∙ ap zeroed (sym (put_none name at (device_held layout state table None)));
  body = tt;
}
puts_none layout state table name at (Some file) = record {
  device = sym (put_none name at (device_held layout state table (Some file)));
  body = record { same_length = refl; front = refl; super = fronts-self layout layout.super_part file };
}

-- A write changes a range of the partition at most.
partly-by : (layout : LayoutValue) (dev : Option (List ℕ) → Dev) (name : List ℕ) (at : ℕ) (bytes : List ℕ) (old new : Option (List ℕ)) → IsValid (dev old) → at + length bytes ≤ length (part_bytes name (dev old)) →
    Both (IsBodyChanged layout) old new → dev new ≡ seen new (put_at name at bytes (dev old)) → IsPartly name at (length bytes) (dev old) (dev new)
unfolding seen
partly-by layout dev name at bytes None None v h b d = partly-self name at (length bytes) (dev None) (names-apart (dev None) v)
partly-by layout dev name at bytes None (Some new) v h b d = absurd b
partly-by layout dev name at bytes (Some old) None v h b d = absurd b
partly-by layout dev name at bytes (Some old) (Some new) v h b d = subst (IsPartly name at (length bytes) (dev (Some old))) (sym d) (put_is_partly name at bytes (dev (Some old)) v h)

pub put_partly : (layout : LayoutValue) (state : State) (table : Option Content) (name : List ℕ) (at : ℕ) (bytes : List ℕ) (old new : Option (List ℕ)) → IsKept layout state table old →
    at + length bytes ≤ length (part_bytes name (device_held layout state table old)) → IsPartWritten layout (device_held layout state table) (put_at name at bytes) old new →
    IsPartly name at (length bytes) (device_held layout state table old) (device_held layout state table new)
put_partly layout state table name at bytes old new k h w =
    partly-by layout (device_held layout state table) name at bytes old new (kept-valid layout state table old k) h w.body w.device

-- A changed image keeps its length, so all that is kept of it stays.
long-kept : (layout : LayoutValue) (old new : Option (List ℕ)) → IfSome old (λ file. length file ≡ image_size layout) → Both (IsBodyChanged layout) old new → IfSome new (λ file. length file ≡ image_size layout)
long-kept layout None None h b = tt
long-kept layout None (Some new) h b = absurd b
long-kept layout (Some old) None h b = absurd b
long-kept layout (Some old) (Some new) h b = b.same_length ∙ h

pub body_kept : (layout : LayoutValue) (state : State) (table : Option Content) (old new : Option (List ℕ)) → IsKept layout state table old → Both (IsBodyChanged layout) old new → IsKept layout state table new
body_kept layout state table old new k b = record { laid = k.laid; stated = k.stated; tabled = k.tabled; long = long-kept layout old new k.long b }

pub put_kept : (layout : LayoutValue) (state : State) (table : Option Content) (dev : Option (List ℕ) → Dev) (change : Dev → Dev) (old new : Option (List ℕ)) → IsKept layout state table old →
    IsPartWritten layout dev change old new → IsKept layout state table new
put_kept layout state table dev change old new k w = body_kept layout state table old new k w.body
