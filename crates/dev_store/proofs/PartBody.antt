-- What a change of partitions' bytes leaves as it was.
use Rattle.std.proofs.Common.{◌≡◌, ◌∙◌, refl, ap, sym, subst, ℕ, ◌+◌, ◌*◌, ◌<◌, ◌≤◌, Bool, true, false, List, take, length, Option, Some, None, Result, Ok, arith, ◌==◌, if◌then◌else◌}
use Rattle.std.specs.Prelude.{IsTrue, nat_le}
use Rattle.std.specs.Option.{option_or}
use Rattle.std.specs.Result.{result_ok}
use Rattle.std.proofs.Math.Nat.{mul-le-mul_right}
use Rattle.std.proofs.lemmas.Bool.Decides.{nat_tests}
use Rattle.super_meta.specs.Contents.{Content}
use Rattle.super_meta.specs.TableText.{table_of}
use Rattle.super_meta.specs.Flaws.{◌then_on◌}
use Rattle.dev_model.specs.declared.bad_image.BadImage.{BadImage}
use Rattle.dev_model.specs.declared.bad_image.BadImage.TheVariants.{NoGeometry, NoTable, BadUnits}
use Rattle.dev_store.specs.declared.layout.PhysicalPart.{PhysicalPart}
use Rattle.dev_store.specs.declared.layout.SuperPart.{SuperPart}
use Rattle.dev_store.specs.declared.state.State.{State}
use Rattle.dev_store.specs.LayoutLines.{first_unit}
use Rattle.dev_store.specs.Laid.{is_good_super}
use Rattle.dev_store.specs.Layouts.{LayoutValue, layout_in, layout_of, text_in, image_size}
use Rattle.dev_store.specs.States.{record_of, record_in, state_copy}
use Rattle.dev_store.specs.Supers.{geometry_copy, holds_geometry, copy_place, copy_reads, table_read, are_good_units}
use Rattle.dev_store.specs.Stand.{SuperIsAlike, Settled, owned, owned_of, owned_by, owned_in, stand, check, or_bad, table_in, super_found, super_bytes, super_value}
use Rattle.dev_store.specs.SuperBounds.{IsBounded}
use Rattle.dev_store.specs.Held.{IsKept, IsTabled, device_held, super_by}
use Rattle.dev_store.specs.PartWrites.{IsFrontKept, IsBodyChanged, IsTableOf, IsImageOf}
use Rattle.dev_store.proofs.UnitLemmas.{bounded}
use Rattle.dev_store.proofs.ValidLemmas.{laid-in}
use Rattle.dev_store.proofs.OpenLemmas.{take-of, copy-front, stands-whole}
use Rattle.dev_store.proofs.RepairLemmas.{goes-on, found, passes}

-- a copy of the table lies before the units
copy-before : (s : SuperPart) (k : ℕ) → IsBounded s → k < 2 * s.slots → copy_place s k + s.max_size ≤ first_unit s
copy-before s k b h =
    let m = mul-le-mul_right s.max_size h in
    let c = b.copies in
    omega arith

pub copy-kept : (s : SuperPart) (k : ℕ) (old new : List ℕ) → IsBounded s → k < 2 * s.slots → take (first_unit s) new ≡ take (first_unit s) old → copy_reads s k new ≡ copy_reads s k old
unfolding copy_reads
copy-kept s k old new b h e = ap (λ bytes. result_ok (table_of bytes)) (copy-front (first_unit s) (copy_place s k) s.max_size new old (copy-before s k b h) e)

pub geometry-kept : (s : SuperPart) (second : Bool) (old new : List ℕ) → IsBounded s → take (first_unit s) new ≡ take (first_unit s) old → geometry_copy second new ≡ geometry_copy second old
geometry-kept s false old new b e = let c = b.copies in copy-front (first_unit s) 4096 4096 new old (omega arith) e
geometry-kept s true old new b e = let c = b.copies in copy-front (first_unit s) 8192 4096 new old (omega arith) e

pub table-kept : (s : SuperPart) (old new : List ℕ) → IsBounded s → take (first_unit s) new ≡ take (first_unit s) old → table_read s new ≡ table_read s old
table-kept s old new b e =
    let n = b.slots in
    ap (λ o. option_or o (copy_reads s s.slots new)) (copy-kept s 0 old new b (omega arith) e)
    ∙ ap (λ o. option_or (copy_reads s 0 old) o) (copy-kept s s.slots old new b (omega arith) e)

-- the layout and the records
pub layout-kept : (old new : List ℕ) → take 12288 new ≡ take 12288 old → layout_in new ≡ layout_in old
unfolding layout_in
layout-kept old new e = ap (λ block. result_ok (layout_of (text_in block))) (take-of 4096 12288 new old (omega arith) e)

pub state-kept : (old new : List ℕ) (second : Bool) → take 12288 new ≡ take 12288 old → state_copy second new ≡ state_copy second old
state-kept old new false e = copy-front 12288 4096 4096 new old (omega arith) e
state-kept old new true e = copy-front 12288 8192 4096 new old (omega arith) e

pub record-kept : (slots : ℕ) (old new : List ℕ) → take 12288 new ≡ take 12288 old → record_in slots new ≡ record_in slots old
record-kept slots old new e =
    ap (λ block. option_or (record_of slots block) (record_of slots (state_copy true new))) (state-kept old new false e)
    ∙ ap (λ block. option_or (record_of slots (state_copy false old)) (record_of slots block)) (state-kept old new true e)

-- what lies twice in super is alike still
alike-kept : (layout : LayoutValue) (part : Option SuperPart) (old new : List ℕ) → IsTrue (is_good_super part) → IsFrontKept layout part old new → SuperIsAlike layout part old → SuperIsAlike layout part new
alike-kept layout None old new g f h = tt
alike-kept layout (Some s) old new g f h =
    let b = bounded s g in
    record {
      first = ap (holds_geometry s) (geometry-kept s false _ _ b f) ∙ h.first;
      second = ap (holds_geometry s) (geometry-kept s true _ _ b f) ∙ h.second;
      table = h.table;
      copies = λ k l. copy-kept s k _ _ b l f ∙ h.copies k l;
    }

pub same-laid : (a b : LayoutValue) (o : Option LayoutValue) → o ≡ Some a → o ≡ Some b → a ≡ b
same-laid a b None h k = absurd cc
same-laid a b (Some c) h k = cc

-- nothing is left to repair
pub settled-kept : (layout : LayoutValue) (old new : List ℕ) → layout_in old ≡ Some layout → IsBodyChanged layout old new → Settled old → Settled new
settled-kept layout old new laid b s =
    let same = same-laid layout s.layout (layout_in old) laid s.laid in
    record {
      layout = s.layout;
      laid = layout-kept old new b.front ∙ s.laid;
      state = s.state;
      first = ap (record_of s.layout.slots) (state-kept old new false b.front) ∙ s.first;
      second = ap (record_of s.layout.slots) (state-kept old new true b.front) ∙ s.second;
      super = alike-kept s.layout s.layout.super_part old new (laid-in old s.layout s.laid).super (subst (λ l. IsFrontKept l l.super_part old new) same b.super) s.super;
    }

-- each partition has the units that it had
owns-kept : (layout : LayoutValue) (part : Option SuperPart) (old new name : List ℕ) → IsTrue (is_good_super part) → IsFrontKept layout part old new → owned_by layout part new name ≡ owned_by layout part old name
owns-kept layout None old new name g f = refl
owns-kept layout (Some s) old new name g f = ap (λ o. owned_in s o name) (table-kept s _ _ (bounded s g) f)

pub owned-kept : (layout : LayoutValue) (old new name : List ℕ) → layout_in old ≡ Some layout → IsBodyChanged layout old new → owned new name ≡ owned old name
unfolding owned
owned-kept layout old new name laid b =
    ap (λ l. owned_of l new name) (layout-kept old new b.front ∙ laid)
    ∙ (owns-kept layout layout.super_part old new name (laid-in old layout laid).super b.super ∙ sym (ap (λ l. owned_of l old name) laid))

-- the image has the layout, the state and the table that it had
tabled-kept : (layout : LayoutValue) (part : Option SuperPart) (table : Option Content) (old new : List ℕ) → IsTrue (is_good_super part) → IsFrontKept layout part old new →
    IsTableOf layout part table old → IsTableOf layout part table new
tabled-kept layout None None old new g f h = tt
tabled-kept layout None (Some c) old new g f h = absurd h
tabled-kept layout (Some s) None old new g f h = absurd h
tabled-kept layout (Some s) (Some c) old new g f h =
    let b = bounded s g in
    record {
      geometry = ap (λ block. if holds_geometry s block then true else holds_geometry s (geometry_copy true (super_bytes layout s new))) (geometry-kept s false _ _ b f)
          ∙ (ap (λ block. if holds_geometry s (geometry_copy false (super_bytes layout s old)) then true else holds_geometry s block) (geometry-kept s true _ _ b f) ∙ h.geometry);
      read = table-kept s _ _ b f ∙ h.read;
    }

pub image-of-kept : (layout : LayoutValue) (state : State) (table : Option Content) (old new : List ℕ) → IsBodyChanged layout old new → IsImageOf layout state table old → IsImageOf layout state table new
image-of-kept layout state table old new b h = record {
  laid = layout-kept old new b.front ∙ h.laid;
  version = h.version;
  recorded = record-kept layout.slots old new b.front ∙ h.recorded;
  tabled = tabled-kept layout layout.super_part table old new (laid-in old layout h.laid).super b.super h.tabled;
}

-- an image stands for the device of its layout, its state and its table
abbrev on-units : Content → Unit {0} → Result Content BadImage
on-units c u = Ok c

abbrev on-table : List PhysicalPart → SuperPart → Content → Result Content BadImage
on-table parts s c = check BadUnits (are_good_units parts s c) then_on on-units c

abbrev on-geometry : List PhysicalPart → SuperPart → List ℕ → Unit {0} → Result Content BadImage
on-geometry parts s super u = or_bad NoTable (table_read s super) then_on on-table parts s

super-found-of : (layout : LayoutValue) (part : Option SuperPart) (table : Option Content) (file : List ℕ) → IsTabled layout part table → IsTableOf layout part table file →
    super_found layout part file ≡ Ok (super_by layout part table file)
unfolding super_found table_in
super-found-of layout None None file t h = refl
super-found-of layout None (Some c) file t h = absurd t
super-found-of layout (Some s) None file t h = absurd t
super-found-of layout (Some s) (Some c) file t h =
    let super = super_bytes layout s file in
    let read : table_in layout.physical s super ≡ Ok c =
    goes-on (check NoGeometry (if holds_geometry s (geometry_copy false super) then true else holds_geometry s (geometry_copy true super))) (on-geometry layout.physical s super) tt (passes NoGeometry _ h.geometry)
    ∙ (goes-on (or_bad NoTable (table_read s super)) (on-table layout.physical s) c (found NoTable _ c h.read)
    ∙ goes-on (check BadUnits (are_good_units layout.physical s c)) (on-units c) tt (passes BadUnits _ t.0)) in
    goes-on (table_in layout.physical s super) (λ d. Ok (super_value s d super)) c read

eq-is : (a b : ℕ) → a ≡ b → (a == b) ≡ true
eq-is a b h = grind (arith, nat_tests)

pub image-stands : (layout : LayoutValue) (state : State) (table : Option Content) (file : List ℕ) → IsKept layout state table (Some file) → IsImageOf layout state table file →
    stand file ≡ Ok (device_held layout state table (Some file))
unfolding device_held
image-stands layout state table file k h =
    stands-whole file layout (h.version, state) (super_by layout layout.super_part table file)
    (record {
      enough = le-is 12288 (length file) (let l = k.long in omega arith);
      laid = h.laid;
      long = eq-is (length file) (image_size layout) k.long;
    })
    h.recorded
    (super-found-of layout layout.super_part table file k.tabled h.tabled)
  where
    le-is : (a b : ℕ) → a ≤ b → nat_le a b ≡ true
    le-is a b h = grind (arith, nat_tests)
