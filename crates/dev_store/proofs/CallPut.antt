-- A store whose next table was written, or in which the disk failed at it.
use Rattle.std.proofs.Common.{◌≡◌, ◌∙◌, refl, ap, sym, subst, ℕ, ◌+◌, ◌<◌, ◌≤◌, ◌^◌, Bool, true, false, List, map, Option, Some, None, arith, option_map}
use Rattle.std.specs.Prelude.{IfSome}
use Rattle.std.specs.Result.{result_ok}
use Rattle.fb_frame.specs.Told.{Both}
use Rattle.unit_alloc.specs.Owning.{units_of}
use Rattle.dev_disk.specs.Files.{IsInside}
use Rattle.dev_disk.specs.Disks.{DiskTold, open_bytes, OpenKept}
use Rattle.dev_model.specs.declared.device.Dev.{Dev}
use Rattle.super_meta.specs.declared.table.Table.{Table}
use Rattle.super_meta.specs.Contents.{content}
use Rattle.super_meta.proofs.GivenLemmas.{gives}
use Rattle.dev_store.specs.declared.layout.SuperPart.{SuperPart}
use Rattle.dev_store.specs.declared.state.State.{State}
use Rattle.dev_store.specs.declared.super_read.SuperRead.{SuperRead}
use Rattle.dev_store.specs.Layouts.{LayoutValue, image_size, parts_end, super_size}
use Rattle.dev_store.specs.Faults.{IsHonest}
use Rattle.dev_store.specs.SuperBounds.{IsBounded}
use Rattle.dev_store.specs.SuperReads.{IsSpelled, HasRooms}
use Rattle.dev_store.specs.SuperRepairs.{SaysTable, AreTablesMended}
use Rattle.dev_store.specs.TableWrites.{IsTableAround}
use Rattle.dev_store.specs.Runs.{table_for}
use Rattle.dev_store.specs.Stand.{number_in, geometry_in}
use Rattle.dev_store.specs.Held.{device_held, seen, Holds, IsKept, IsWhole, file_or_zeros}
use Rattle.dev_store.specs.Reading.{IsStored, IsSuperSound, IsWithinSound, held_by}
use Rattle.dev_store.specs.StoreCalls.{StandsAround, HasTable, IsTableWritten, own_super}
use Rattle.dev_store.specs.TableCalls.{IsNextOf}
use Rattle.dev_store.proofs.StoredLemmas.{IsHeld, held-in, stored-now, whole-now, stored-broken}
use Rattle.dev_store.proofs.SuperRepairLemmas.{both-map}
use Rattle.dev_store.proofs.TableImages.{AreInSuper, IsChanged, tables-device, tables-kept, tables-held, tables-around, tables-first}
use Rattle.dev_store.proofs.ChangeStore.{store-bounded}
use Rattle.dev_store.proofs.CallStores.{store-super, kept-next, put-sound}

-- What is so of a store before its next table is written.
pub record IsReady {K : Type 0} (told : K → DiskTold) (disk : K) (layout : LayoutValue) (s : SuperPart) (state : State) (w : SuperRead) (buffer : List ℕ) (dev : Dev) (x : SuperRead) : Type 0 where
  pub part : layout.super_part ≡ Some s
  pub stored : IsStored told (held_by told disk layout state (Some w) false) layout state (Some w) buffer
  pub next : IsNextOf layout s dev x
  pub device : device_held layout state (Some (content x.next)) (open_bytes (told disk)) ≡ dev
  pub table : x.table ≡ w.table

-- The next table was written, and stands in the table's place.
pub record IsPut {K : Type 0} (told : K → DiskTold) (old new : K) (s : SuperPart) (at : ℕ) (x y : SuperRead) : Type 0 where
  pub written : Both (AreTablesMended s at (content x.next)) (open_bytes (told old)) (open_bytes (told new))
  pub put : y.table ≡ x.next
  pub spelled : IsSpelled s y
  pub rooms : HasRooms s y
  pub owners : y.owners ≡ x.owners
  pub parts : y.parts ≡ x.parts
  pub kept : OpenKept (told old) (told new)

-- The disk failed.
pub record IsUnput {K : Type 0} (told : K → DiskTold) (old new : K) (s : SuperPart) (at : ℕ) (x y : SuperRead) : Type 0 where
  pub around : Both (IsTableAround (told new).torn s at (content x.next)) (open_bytes (told old)) (open_bytes (told new))
  pub says : SaysTable (content x.next) y.copy.items
  pub stays : y.table ≡ x.table
  pub kept : OpenKept (told old) (told new)

-- super of a store that isn't broken
pub super-in : {K : Type 0} (told : K → DiskTold) (disk : K) (layout : LayoutValue) (s : SuperPart) (state : State) (w : SuperRead) (buffer : List ℕ) → layout.super_part ≡ Some s →
    IsStored told (held_by told disk layout state (Some w) false) layout state (Some w) buffer → IsSuperSound layout.physical s w
super-in told disk layout s state w buffer part h = subst (λ q. IsWithinSound layout q (Some w)) part (h.super refl)

pub bounds-in : {K : Type 0} (told : K → DiskTold) (disk : K) (layout : LayoutValue) (s : SuperPart) (state : State) (w : SuperRead) (buffer : List ℕ) → layout.super_part ≡ Some s →
    IsStored told (held_by told disk layout state (Some w) false) layout state (Some w) buffer → IsBounded s
bounds-in told disk layout s state w buffer part h =
    let o = open_bytes (told disk) in
    store-bounded layout s state (content w.table) w.owners w.parts.items (file_or_zeros layout o) (store-super layout s state w o part h.kept (super-in told disk layout s state w buffer part h))

-- super lies in the open file
pub inside-in : {K : Type 0} (told : K → DiskTold) (disk : K) (layout : LayoutValue) (s : SuperPart) (state : State) (w : SuperRead) (buffer : List ℕ) (at : ℕ) → layout.super_part ≡ Some s →
    IsStored told (held_by told disk layout state (Some w) false) layout state (Some w) buffer → at ≡ parts_end layout.physical → IsInside (told disk).open_length at s.size
inside-in told disk layout s state w buffer at part h e =
    let n = ap super_size part in
    subst (λ size. IsInside size at s.size) (sym h.opened) (omega (arith, n, e))

-- a device that a store has, as far as its image is told
seen-of : (o : Option (List ℕ)) (d dev : Dev) → Holds o d → d ≡ dev → d ≡ seen o dev
unfolding Holds seen
seen-of None d dev h e = h ∙ ap (seen None) e
seen-of (Some file) d dev h e = e

module _ {K : Type 0} (told : K → DiskTold) (old new : K) (layout : LayoutValue) (s : SuperPart) (at : ℕ) (state : State) (w : SuperRead) (buffer : List ℕ) (dev : Dev) (x y : SuperRead)
    (r : IsReady told old layout s state w buffer dev x) (place : at ≡ parts_end layout.physical) where
  b : IsBounded s
  b = bounds-in told old layout s state w buffer r.part r.stored

  in-super : AreInSuper layout s at
  in-super = record { part = r.part; place = place; bounds = b }

  held : IfSome (open_bytes (told old)) (IsHeld layout state (Some (content w.table)))
  held = held-in told old layout state (Some w) buffer r.stored

  size-now : OpenKept (told old) (told new) → (told new).open_length ≡ Some (image_size layout)
  size-now k = k.length ∙ r.stored.opened

  put-says : IsPut told old new s at x y → SaysTable (content x.next) y.copy.items
  put-says p = subst (λ t. SaysTable (content t) y.copy.items) p.put (ap result_ok (gives y.copy.items (content y.table) p.spelled.copy))

  put-changed : IsPut told old new s at x y → Both (IsChanged s at) (open_bytes (told old)) (open_bytes (told new))
  put-changed p = both-map (open_bytes (told old)) (open_bytes (told new)) p.written (λ a c m. m.differs)

  put-kept : IsPut told old new s at x y → IsKept layout state (Some (content y.table)) (open_bytes (told new))
  put-kept p = subst (λ t. IsKept layout state (Some (content t)) (open_bytes (told new))) (sym p.put)
      (tables-kept layout state s at (Some (content x.next)) (open_bytes (told old)) (open_bytes (told new))
      (kept-next layout s state dev (open_bytes (told old)) (Some (content w.table)) x y.copy.items r.part b r.stored.kept r.next (put-says p)) (put-changed p))

  put-within : IsPut told old new s at x y → IsWithinSound layout layout.super_part (Some y)
  put-within p = subst (λ q. IsWithinSound layout q (Some y)) (sym r.part) (put-sound layout s dev x y b r.next p.put p.owners p.parts p.spelled p.rooms)

  put-held : IsPut told old new s at x y → IfSome (open_bytes (told new)) (IsHeld layout state (Some (content y.table)))
  put-held p = subst (λ t. IfSome (open_bytes (told new)) (IsHeld layout state (Some (content t)))) (sym p.put)
      (tables-held layout state s at (content w.table) (content x.next) (open_bytes (told old)) (open_bytes (told new)) in-super held p.written)

  -- a store whose next table was written
  pub put-stored : IsPut told old new s at x y → IsStored told (held_by told new layout state (Some y) false) layout state (Some y) buffer
  put-stored p = stored-now told new layout state (Some y) buffer (put-kept p) (put-within p) (put-held p) (size-now p.kept) r.stored.room

  pub put-whole : IsPut told old new s at x y → IsWhole told (held_by told new layout state (Some y) false)
  put-whole p = whole-now told new layout state (Some y) (put-kept p) (put-within p) (put-held p)

  pub put-device : IsPut told old new s at x y → device_held layout state (Some (content y.table)) (open_bytes (told new)) ≡ dev
  put-device p =
      ap (λ (t : Table). device_held layout state (Some (content t)) (open_bytes (told new))) p.put
      ∙ (tables-device layout state s at (Some (content x.next)) (open_bytes (told old)) (open_bytes (told new)) in-super (put-changed p) ∙ r.device)

  -- its device is the one, as far as the disk tells
  pub put-seen : IsPut told old new s at x y → device_held layout state (Some (content y.table)) (open_bytes (told new)) ≡ seen (open_bytes (told new)) dev
  put-seen p = seen-of (open_bytes (told new)) (device_held layout state (Some (content y.table)) (open_bytes (told new))) dev (put-whole p).sound.stands (put-device p)

  own-super : layout.super_part ≡ Some s → own_super (device_held layout state (Some (content y.table)) (open_bytes (told new))) ≡ Some s
  unfolding device_held
  own-super e = ap (λ (q : Option SuperPart). option_map (λ n. of q n) (option_map (λ s. s.name) q)) e
    where
      of : Option SuperPart → List ℕ → SuperPart
      of q n = record {
        name = n;
        size = number_in (λ s. s.size) q;
        unit = number_in (λ s. s.unit) q;
        max_size = (geometry_in q).max_size;
        slots = (geometry_in q).slots;
      }

  -- and the table is the one that is written for it
  pub put-written : IsPut told old new s at x y → IsTableWritten told (held_by told new layout state (Some y) false)
  put-written p =
      let d = device_held layout state (Some (content y.table)) (open_bytes (told new)) in
      let lists : map (units_of y.owners) y.parts.items ≡ map (units_of x.owners) x.parts.items = λ i. map (units_of (p.owners i)) (p.parts i).items in
      let table : option_map (λ s. table_for s d (map (units_of y.owners) y.parts.items)) (own_super d) ≡ Some (content x.next) =
      ap (option_map (λ s. table_for s d (map (units_of y.owners) y.parts.items))) (own-super r.part)
      ∙ ap Some ((λ i. table_for s (put-device p i) (lists i)) ∙ sym r.next.table) in
      subst (HasTable (open_bytes (told new))) (sym table)
      (tables-first layout state s at (content w.table) (content x.next) (open_bytes (told old)) (open_bytes (told new)) in-super held p.written)

  fail-changed : IsUnput told old new s at x y → Both (IsChanged s at) (open_bytes (told old)) (open_bytes (told new))
  fail-changed u = both-map (open_bytes (told old)) (open_bytes (told new)) u.around (λ a c m. m.differs)

  -- a store in which the disk failed
  pub fail-stored : IsUnput told old new s at x y → IsStored told (held_by told new layout state (Some y) true) layout state (Some y) buffer
  fail-stored u = stored-broken told new layout state (Some y) buffer
      (subst (λ t. IsKept layout state (Some (content t)) (open_bytes (told new))) (sym (u.stays ∙ r.table))
      (tables-kept layout state s at (Some (content w.table)) (open_bytes (told old)) (open_bytes (told new)) r.stored.kept (fail-changed u)))
      (size-now u.kept) r.stored.room

  pub fail-around : IsUnput told old new s at x y → IsHonest (told new).torn →
      StandsAround (open_bytes (told new)) (device_held layout state (Some (content w.table)) (open_bytes (told old))) dev
  fail-around u honest = subst (StandsAround (open_bytes (told new)) (device_held layout state (Some (content w.table)) (open_bytes (told old)))) r.device
      (tables-around (told new).torn layout state s at (content w.table) (content x.next) (open_bytes (told old)) (open_bytes (told new)) in-super r.stored.kept
      (kept-next layout s state dev (open_bytes (told old)) (Some (content w.table)) x y.copy.items r.part b r.stored.kept r.next u.says) held honest u.around)

-- what was opened of super, in a store that isn't broken
pub opened-in : {K : Type 0} (told : K → DiskTold) (disk : K) (layout : LayoutValue) (state : State) (within : Option SuperRead) (w : SuperRead) (buffer : List ℕ) (broken : Bool) → within ≡ Some w → broken ≡ false →
    IsStored told (held_by told disk layout state within broken) layout state within buffer → IsStored told (held_by told disk layout state (Some w) false) layout state (Some w) buffer
opened-in told disk layout state within w buffer broken e f h =
    subst (λ b. IsStored told (held_by told disk layout state (Some w) b) layout state (Some w) buffer) f
    (subst (λ v. IsStored told (held_by told disk layout state v broken) layout state v buffer) e h)

-- the end of super can be counted in 64 bits
pub end-in : (layout : LayoutValue) (s : SuperPart) (at : ℕ) → IsBounded s → at ≤ 2 ^ 50 + 12288 → at + s.size < 2 ^ 64
end-in layout s at b h = let n = b.size in omega (arith, n, h)
