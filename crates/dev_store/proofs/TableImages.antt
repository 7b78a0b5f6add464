-- Copies of a table that were written: what the image stands for then, or where the disk failed.
use Rattle.std.proofs.Common.{arith, ◌≡◌, ◌∙◌, refl, ap, sym, subst, inl, inr, ℕ, ◌+◌, ◌*◌, ◌-◌, ◌<◌, ◌≤◌, Bool, true, false, List, length, take, drop, Option, Some, None, if◌then◌else◌}
use Rattle.std.specs.Prelude.{◌⊎◌, IfSome}
use Rattle.std.specs.Option.{option_or}
use Rattle.std.specs.Result.{result_ok}
use Rattle.fb_frame.specs.Told.{Both}
use Rattle.super_meta.specs.Contents.{Content}
use Rattle.super_meta.specs.TableText.{table_of}
use Rattle.dev_disk.specs.Files.{Tears, DifferWithin, copy}
use Rattle.dev_disk.specs.Honest.{ReadsAs}
use Rattle.dev_disk.specs.Twins.{IsLeft}
use Rattle.dev_disk.proofs.Writes.{kept-outside}
use Rattle.dev_disk.proofs.HonestLemmas.{left-reads}
use Rattle.dev_store.specs.declared.layout.SuperPart.{SuperPart}
use Rattle.dev_store.specs.declared.state.State.{State}
use Rattle.dev_store.specs.Faults.{IsHonest}
use Rattle.dev_store.specs.LayoutLines.{first_unit}
use Rattle.dev_store.specs.Layouts.{LayoutValue, layout_in, parts_end, image_size}
use Rattle.dev_store.specs.States.{record_of, state_copy}
use Rattle.dev_store.specs.Supers.{geometry_copy, holds_geometry, copy_reads, table_read}
use Rattle.dev_store.specs.Stand.{Stands, Settled, IsAlike, SuperIsAlike, super_bytes, super_value, physical_at, device_with}
use Rattle.dev_store.specs.SuperBounds.{IsBounded, geometry_place}
use Rattle.dev_store.specs.SuperRepairs.{SaysTable, AreTablesMended}
use Rattle.dev_store.specs.Held.{IsKept, device_held, super_by}
use Rattle.dev_store.specs.PartWrites.{IsImageOf, IsTableOf, HasTableIn}
use Rattle.dev_store.specs.StoreCalls.{StandsAround, HasTable, first_table, first_copy}
use Rattle.dev_store.specs.TableWrites.{copy_in, AreCopiesWritten, AreCopiesLeft, IsTableAround}
use Rattle.dev_store.proofs.RecordLemmas.{one_table_reads}
use Rattle.dev_store.proofs.RepairLemmas.{logicals-same}
use Rattle.dev_store.proofs.PlaceLemmas.{reads-at, geometry-at, block-before}
use Rattle.dev_store.proofs.OpenLemmas.{physical-front, take-of}
use Rattle.dev_store.proofs.PartBody.{same-laid, layout-kept, state-kept, record-kept}
use Rattle.dev_store.proofs.SuperRepairLemmas.{widen, rest-same}
use Rattle.dev_store.proofs.StoredLemmas.{IsHeld, stands-for}

-- what the copies read as
pub copies-mended : (s : SuperPart) (at : ℕ) (c : Content) (bytes old new : List ℕ) → IsBounded s → SaysTable c bytes → AreCopiesWritten s at bytes old new → AreTablesMended s at c old new
copies-mended s at c bytes old new b says w = record {
  differs = w.differs;
  copies = λ k less. reads-at s new at k b less ∙ (ap (λ block. result_ok (table_of block)) (w.each k less) ∙ says);
}

first-reads : (torn : Tears) (s : SuperPart) (at : ℕ) (c : Content) (bytes old new : List ℕ) → IsBounded s → SaysTable c bytes → IsHonest torn → IsLeft torn (copy_in s at 0 old) bytes (copy_in s at 0 new) →
    ReadsAs (copy_reads s 0 (copy old at s.size)) (Some c) (copy_reads s 0 (copy new at s.size))
first-reads torn s at c bytes old new b says honest h =
    let less : 0 < 2 * s.slots = let n = b.slots in omega arith in
    let read = λ (block : List ℕ). result_ok (table_of block) in
    let reads : ReadsAs (read (copy_in s at 0 old)) (read bytes) (read (copy_in s at 0 new)) = left-reads read torn (copy_in s at 0 old) bytes (copy_in s at 0 new) honest.tables h in
    subst (λ o. ReadsAs o (Some c) (copy_reads s 0 (copy new at s.size))) (sym (reads-at s old at 0 b less))
    (subst (λ o. ReadsAs (read (copy_in s at 0 old)) o (copy_reads s 0 (copy new at s.size))) says
    (subst (λ o. ReadsAs (read (copy_in s at 0 old)) (read bytes) o) (sym (reads-at s new at 0 b less)) reads))

pub copies-around : (torn : Tears) (s : SuperPart) (at : ℕ) (c : Content) (bytes old new : List ℕ) → IsBounded s → SaysTable c bytes → AreCopiesLeft torn s at bytes old new → IsTableAround torn s at c old new
copies-around torn s at c bytes old new b says l = record {
  differs = l.differs;
  reads = λ honest was first backup. by l.left honest was first backup;
}
  where
    by : (IsLeft torn (copy_in s at 0 old) bytes (copy_in s at 0 new) × (copy_in s at s.slots new ≡ copy_in s at s.slots old)) ⊎ (copy_in s at 0 new ≡ bytes) → IsHonest torn → (was : Content) →
        copy_reads s 0 (copy old at s.size) ≡ Some was → copy_reads s s.slots (copy old at s.size) ≡ Some was →
        (table_read s (copy new at s.size) ≡ Some was) ⊎ (table_read s (copy new at s.size) ≡ Some c)
    by (inl (h, same)) honest was first backup =
        let less : s.slots < 2 * s.slots = let n = b.slots in omega arith in
        let second : copy_reads s s.slots (copy new at s.size) ≡ Some was =
        reads-at s new at s.slots b less ∙ (ap (λ block. result_ok (table_of block)) same ∙ (sym (reads-at s old at s.slots b less) ∙ backup)) in
        one_table_reads s (copy new at s.size) was c second
        (subst (λ o. ReadsAs o (Some c) (copy_reads s 0 (copy new at s.size))) first (first-reads torn s at c bytes old new b says honest h))
    by (inr e) honest was first backup =
        let less : 0 < 2 * s.slots = let n = b.slots in omega arith in
        inr (ap (λ o. option_or o (copy_reads s s.slots (copy new at s.size))) (reads-at s new at 0 b less ∙ (ap (λ block. result_ok (table_of block)) e ∙ says)))

-- the copies lie in super, before its units and behind its geometry
pub record AreInSuper (layout : LayoutValue) (s : SuperPart) (at : ℕ) : Type 0 where
  pub part : layout.super_part ≡ Some s
  pub place : at ≡ parts_end layout.physical
  pub bounds : IsBounded s

abbrev pub IsChanged : SuperPart → ℕ → List ℕ → List ℕ → Type 0
IsChanged s at old new = DifferWithin (at + 12288) (2 * s.slots * s.max_size) old new

front-same : (layout : LayoutValue) (s : SuperPart) (at : ℕ) (old new : List ℕ) → AreInSuper layout s at → IsChanged s at old new → take (parts_end layout.physical) new ≡ take (parts_end layout.physical) old
front-same layout s at old new i d = subst (λ n. take n new ≡ take n old) i.place (take-of at (at + 12288) new old (omega arith) d.front)

head-same : (layout : LayoutValue) (s : SuperPart) (at : ℕ) (old new : List ℕ) → AreInSuper layout s at → IsChanged s at old new → take 12288 new ≡ take 12288 old
head-same layout s at old new i d = take-of 12288 (parts_end layout.physical) new old (omega arith) (front-same layout s at old new i d)

blocks-same : (layout : LayoutValue) (s : SuperPart) (at : ℕ) (second : Bool) (old new : List ℕ) → AreInSuper layout s at → IsChanged s at old new →
    geometry_copy second (super_bytes layout s new) ≡ geometry_copy second (super_bytes layout s old)
blocks-same layout s at second old new i d =
    let before = block-before second in
    subst (λ n. geometry_copy second (copy new n s.size) ≡ geometry_copy second (copy old n s.size)) i.place
    (geometry-at s new at second i.bounds
    ∙ (kept-outside old new (at + 12288) (2 * s.slots * s.max_size) (at + geometry_place second) 4096 d (inl (omega (arith, before))) ∙ sym (geometry-at s old at second i.bounds)))

units-same : (layout : LayoutValue) (s : SuperPart) (at : ℕ) (old new : List ℕ) → AreInSuper layout s at → IsChanged s at old new →
    drop (first_unit s) (super_bytes layout s new) ≡ drop (first_unit s) (super_bytes layout s old)
units-same layout s at old new i d =
    let b = i.bounds in
    let low : 4096 ≤ first_unit s = let c = b.copies in omega (arith, c) in
    let high : first_unit s ≤ s.size = let c = b.inside in omega (arith, c) in
    let wide : DifferWithin (at + 4096) (first_unit s - 4096) old new = widen (at + 12288) (2 * s.slots * s.max_size) (at + 4096) (first_unit s - 4096) old new d (omega arith) (let c = b.copies in omega (arith, c)) in
    subst (λ n. drop (first_unit s) (copy new n s.size) ≡ drop (first_unit s) (copy old n s.size)) i.place (rest-same at s.size (first_unit s) old new low high wide)

-- the device of a table is the same over both
value-same : (layout : LayoutValue) (part : Option SuperPart) (s : SuperPart) (at : ℕ) (c : Option Content) (old new : List ℕ) → part ≡ Some s → AreInSuper layout s at → IsChanged s at old new →
    super_by layout part c new ≡ super_by layout part c old
value-same layout part s at None old new e i d = subst (λ p. super_by layout p None new ≡ super_by layout p None old) (sym e) refl
value-same layout part s at (Some c) old new e i d =
    subst (λ p. super_by layout p (Some c) new ≡ super_by layout p (Some c) old) (sym e)
    (ap (λ logical. record (super_value s c (super_bytes layout s new)) { logical = logical })
    (logicals-same s c (super_bytes layout s old) (super_bytes layout s new) c.partitions (units-same layout s at old new i d)))

pub tables-device : (layout : LayoutValue) (state : State) (s : SuperPart) (at : ℕ) (c : Option Content) (o p : Option (List ℕ)) → AreInSuper layout s at → Both (IsChanged s at) o p →
    device_held layout state c p ≡ device_held layout state c o
unfolding device_held
tables-device layout state s at c None None i d = refl
tables-device layout state s at c None (Some new) i d = absurd d
tables-device layout state s at c (Some old) None i d = absurd d
tables-device layout state s at c (Some old) (Some new) i d =
    ap (λ parts. device_with layout state parts (super_by layout layout.super_part c new)) (physical-front 12288 layout.physical new old (front-same layout s at old new i d))
    ∙ ap (λ super. device_with layout state (physical_at 12288 layout.physical old) super) (value-same layout layout.super_part s at c old new i.part i d)

pub tables-kept : (layout : LayoutValue) (state : State) (s : SuperPart) (at : ℕ) (c : Option Content) (o p : Option (List ℕ)) → IsKept layout state c o → Both (IsChanged s at) o p → IsKept layout state c p
tables-kept layout state s at c o p k d = record { laid = k.laid; stated = k.stated; tabled = k.tabled; long = long-still o p k.long d }
  where
    long-still : (o p : Option (List ℕ)) → IfSome o (λ file. length file ≡ image_size layout) → Both (IsChanged s at) o p → IfSome p (λ file. length file ≡ image_size layout)
    long-still None None h d = tt
    long-still None (Some new) h d = absurd d
    long-still (Some old) None h d = absurd d
    long-still (Some old) (Some new) h d = d.same_length ∙ h

-- the image has the table that is read
had-table : (layout : LayoutValue) (part : Option SuperPart) (s : SuperPart) (was : Content) (file : List ℕ) → part ≡ Some s → IsTableOf layout part (Some was) file → HasTableIn s (super_bytes layout s file) was
had-table layout part s was file e h = subst (λ p. IsTableOf layout p (Some was) file) e h

has-table : (layout : LayoutValue) (part : Option SuperPart) (s : SuperPart) (at : ℕ) (was c : Content) (old new : List ℕ) → part ≡ Some s → AreInSuper layout s at → IsChanged s at old new →
    IsTableOf layout part (Some was) old → table_read s (super_bytes layout s new) ≡ Some c → IsTableOf layout part (Some c) new
has-table layout part s at was c old new e i d h read =
    let had = had-table layout part s was old e h in
    subst (λ p. IsTableOf layout p (Some c) new) (sym e) (record {
      geometry = ap (λ block. if holds_geometry s block then true else holds_geometry s (geometry_copy true (super_bytes layout s new))) (blocks-same layout s at false old new i d)
          ∙ (ap (λ block. if holds_geometry s (geometry_copy false (super_bytes layout s old)) then true else holds_geometry s block) (blocks-same layout s at true old new i d) ∙ had.geometry);
      read = read;
    })

image-tabled : (layout : LayoutValue) (state : State) (s : SuperPart) (at : ℕ) (was c : Content) (old new : List ℕ) → AreInSuper layout s at → IsChanged s at old new → IsImageOf layout state (Some was) old →
    table_read s (super_bytes layout s new) ≡ Some c → IsImageOf layout state (Some c) new
image-tabled layout state s at was c old new i d h read = record {
  laid = layout-kept old new (head-same layout s at old new i d) ∙ h.laid;
  version = h.version;
  recorded = record-kept layout.slots old new (head-same layout s at old new i d) ∙ h.recorded;
  tabled = has-table layout layout.super_part s at was c old new i.part i d h.tabled read;
}

-- all copies hold it
alike-in : (layout : LayoutValue) (part : Option SuperPart) (s : SuperPart) (file : List ℕ) → part ≡ Some s → SuperIsAlike layout part file → IsAlike s (super_bytes layout s file)
alike-in layout part s file e h = subst (λ p. SuperIsAlike layout p file) e h

settled-tabled : (layout : LayoutValue) (s : SuperPart) (at : ℕ) (c : Content) (old new : List ℕ) → AreInSuper layout s at → layout_in old ≡ Some layout → Settled old → AreTablesMended s at c old new → Settled new
settled-tabled layout s at c old new i laid h m =
    let d = m.differs in
    let same = same-laid layout h.layout (layout_in old) laid h.laid in
    let head = head-same layout s at old new i d in
    let was = alike-in layout layout.super_part s old i.part (subst (λ l. SuperIsAlike l l.super_part old) (sym same) h.super) in
    record {
      layout = layout;
      laid = layout-kept old new head ∙ laid;
      state = h.state;
      first = ap (record_of layout.slots) (state-kept old new false head) ∙ subst (λ l. record_of l.slots (state_copy false old) ≡ Some (2, h.state)) (sym same) h.first;
      second = ap (record_of layout.slots) (state-kept old new true head) ∙ subst (λ l. record_of l.slots (state_copy true old) ≡ Some (2, h.state)) (sym same) h.second;
      super = subst (λ p. SuperIsAlike layout p new) (sym i.part) (record {
        first = ap (holds_geometry s) (blocks-same layout s at false old new i d) ∙ was.first;
        second = ap (holds_geometry s) (blocks-same layout s at true old new i d) ∙ was.second;
        table = c;
        copies = λ k less. subst (λ n. copy_reads s k (copy new n s.size) ≡ Some c) i.place (m.copies k less);
      });
    }

mended-read : (layout : LayoutValue) (s : SuperPart) (at : ℕ) (c : Content) (old new : List ℕ) → AreInSuper layout s at → AreTablesMended s at c old new → table_read s (super_bytes layout s new) ≡ Some c
mended-read layout s at c old new i m =
    let less : 0 < 2 * s.slots = let n = i.bounds.slots in omega arith in
    subst (λ n. table_read s (copy new n s.size) ≡ Some c) i.place (ap (λ o. option_or o (copy_reads s s.slots (copy new at s.size))) (m.copies 0 less))

pub tables-held : (layout : LayoutValue) (state : State) (s : SuperPart) (at : ℕ) (was c : Content) (o p : Option (List ℕ)) → AreInSuper layout s at → IfSome o (IsHeld layout state (Some was)) →
    Both (AreTablesMended s at c) o p → IfSome p (IsHeld layout state (Some c))
tables-held layout state s at was c None None i h m = tt
tables-held layout state s at was c None (Some new) i h m = absurd m
tables-held layout state s at was c (Some old) None i h m = absurd m
tables-held layout state s at was c (Some old) (Some new) i h m = record {
  image = image-tabled layout state s at was c old new i m.differs h.image (mended-read layout s at c old new i m);
  settled = settled-tabled layout s at c old new i h.image.laid h.settled m;
}

-- the disk failed
settled-copies : (layout : LayoutValue) (state : State) (s : SuperPart) (at : ℕ) (was : Content) (old : List ℕ) → AreInSuper layout s at → IsHeld layout state (Some was) old →
    (k : ℕ) → k < 2 * s.slots → copy_reads s k (copy old at s.size) ≡ Some was
settled-copies layout state s at was old i h k less =
    let n = i.bounds.slots in
    let same = same-laid layout h.settled.layout (layout_in old) h.image.laid h.settled.laid in
    let a = alike-in layout layout.super_part s old i.part (subst (λ l. SuperIsAlike l l.super_part old) (sym same) h.settled.super) in
    let super = super_bytes layout s old in
    let read : table_read s super ≡ Some a.table = ap (λ o. option_or o (copy_reads s s.slots super)) (a.copies 0 (omega arith)) in
    let table : a.table ≡ was = some-is a.table was (table_read s super) read (had-table layout layout.super_part s was old i.part h.image.tabled).read in
    subst (λ x. copy_reads s k (copy old x s.size) ≡ Some was) (sym i.place) (a.copies k less ∙ ap Some table)
  where
    some-is : (x y : Content) (o : Option Content) → o ≡ Some x → o ≡ Some y → x ≡ y
    some-is x y None h k = absurd cc
    some-is x y (Some z) h k = cc

pub tables-around : (torn : Tears) (layout : LayoutValue) (state : State) (s : SuperPart) (at : ℕ) (was c : Content) (o p : Option (List ℕ)) → AreInSuper layout s at → IsKept layout state (Some was) o →
    IsKept layout state (Some c) o → IfSome o (IsHeld layout state (Some was)) → IsHonest torn → Both (IsTableAround torn s at c) o p →
    StandsAround p (device_held layout state (Some was) o) (device_held layout state (Some c) o)
tables-around torn layout state s at was c None None i k n h honest a = tt
tables-around torn layout state s at was c None (Some new) i k n h honest a = absurd a
tables-around torn layout state s at was c (Some old) None i k n h honest a = absurd a
tables-around torn layout state s at was c (Some old) (Some new) i k n h honest a =
    let copies = settled-copies layout state s at was old i h in
    let slots = i.bounds.slots in
    by (a.reads honest was (copies 0 (omega arith)) (copies s.slots (omega arith)))
  where
    here : (d : Content) → IsKept layout state (Some d) (Some old) → table_read s (copy new at s.size) ≡ Some d → Stands new (device_held layout state (Some d) (Some old))
    here d kept read =
        subst (λ dev. Stands new dev) (tables-device layout state s at (Some d) (Some old) (Some new) i a.differs)
        (stands-for layout state (Some d) new (tables-kept layout state s at (Some d) (Some old) (Some new) kept a.differs)
        (image-tabled layout state s at was d old new i a.differs h.image (subst (λ x. table_read s (copy new x s.size) ≡ Some d) i.place read)))

    by : (table_read s (copy new at s.size) ≡ Some was) ⊎ (table_read s (copy new at s.size) ≡ Some c) →
        Stands new (device_held layout state (Some was) (Some old)) ⊎ Stands new (device_held layout state (Some c) (Some old))
    by (inl read) = inl (here was k read)
    by (inr read) = inr (here c n read)

-- the first copy reads as the table
pub tables-first : (layout : LayoutValue) (state : State) (s : SuperPart) (at : ℕ) (was c : Content) (o p : Option (List ℕ)) → AreInSuper layout s at → IfSome o (IsHeld layout state (Some was)) →
    Both (AreTablesMended s at c) o p → HasTable p (Some c)
unfolding HasTable
tables-first layout state s at was c None None i h m = tt
tables-first layout state s at was c None (Some new) i h m = absurd m
tables-first layout state s at was c (Some old) None i h m = absurd m
tables-first layout state s at was c (Some old) (Some new) i h m =
    let less : 0 < 2 * s.slots = let n = i.bounds.slots in omega arith in
    ap (λ l. first_table l new) (layout-kept old new (head-same layout s at old new i m.differs) ∙ h.image.laid)
    ∙ subst (λ part. first_copy layout part new ≡ Some c) (sym i.part) (subst (λ n. copy_reads s 0 (copy new n s.size) ≡ Some c) i.place (m.copies 0 less))
