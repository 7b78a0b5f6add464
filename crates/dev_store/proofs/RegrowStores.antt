-- A store whose next table has new bytes: what is so before zeros are put in them, and what the call makes of it.
use Rattle.std.proofs.Common.{◌≡◌, ◌∙◌, refl, ap, sym, subst, ℕ, ◌-◌, ◌<◌, ◌≤◌, Bool, true, false, List, length, Option, Some, None, inl, inr}
use Rattle.std.specs.Prelude.{◌⊎◌, nat_le}
use Rattle.std.specs.Result.{result_ok}
use Rattle.std.proofs.lemmas.Bool.Decides.{leb_tells}
use Rattle.fb_frame.specs.Bytes.{zeros}
use Rattle.fb_frame.specs.Told.{Both}
use Rattle.unit_alloc.specs.Owning.{Owning}
use Rattle.dev_disk.specs.Disks.{DiskTold, open_bytes}
use Rattle.dev_model.specs.declared.device.Dev.{Dev}
use Rattle.dev_model.specs.Validity.{IsValid}
use Rattle.super_meta.specs.Contents.{Content, content}
use Rattle.super_meta.proofs.GivenLemmas.{gives}
use Rattle.dev_store.specs.declared.layout.SuperPart.{SuperPart}
use Rattle.dev_store.specs.declared.state.State.{State}
use Rattle.dev_store.specs.declared.super_read.SuperRead.{SuperRead}
use Rattle.dev_store.specs.declared.part_place.Units.{Units}
use Rattle.dev_store.specs.declared.part_place.Part.TheVariants.{InUnits}
use Rattle.dev_store.specs.declared.part_zero.NewBytes.{NewBytes}
use Rattle.dev_store.specs.Layouts.{LayoutValue, parts_end}
use Rattle.dev_store.specs.Faults.{IsHonest}
use Rattle.dev_store.specs.SuperBounds.{IsBounded}
use Rattle.dev_store.specs.SuperRepairs.{SaysTable, AreTablesMended}
use Rattle.dev_store.specs.TableWrites.{IsTableAround}
use Rattle.dev_store.specs.Held.{device_held, seen, Holds, IsKept, IsWhole}
use Rattle.dev_store.specs.PartPlaces.{IsPartOf, Puts, PutsSome}
use Rattle.dev_store.specs.Reading.{IsStored, held_by}
use Rattle.dev_store.specs.StoreCalls.{StandsAround, IsTableWritten}
use Rattle.dev_store.specs.TableCalls.{IsNextOf}
use Rattle.dev_store.specs.Growing.{AreUnitsAt, AreZeroed, AreLeftZeroed, IsGrown, IsTableLeft, IsLeftGrown}
use Rattle.dev_store.proofs.OpenWhole.{kept-valid}
use Rattle.dev_store.proofs.StoredLemmas.{stored-broken}
use Rattle.dev_store.proofs.PartCalls.{put-body, left-body, body-stored}
use Rattle.dev_store.proofs.CallStores.{kept-next}
use Rattle.dev_store.proofs.CallPut.{IsReady, IsPut, IsUnput, bounds-in, put-stored, put-whole, put-seen, put-written, fail-stored, fail-around}
use Rattle.dev_store.proofs.RegrowSeen.{seen-again, next-seen}

-- What zeros in the new bytes of a name make of an image: of the device of the next table, and of that of the table
-- before, also where only some bytes were written.
pub record IsFillOf (layout : LayoutValue) (s : SuperPart) (state : State) (was next : Content) (owning : Owning) (name : List ℕ) (n : NewBytes) (dev : Dev) (old : Option (List ℕ)) : Type 0 where
  pub there : IsKept layout state (Some next) old → (u : Units) → AreUnitsAt (parts_end layout.physical) s owning n.part n.to u → IsPartOf layout (Some next) name (InUnits u)
  pub none : IsKept layout state (Some next) old → n.to ≤ n.from → device_held layout state (Some next) old ≡ seen old dev
  pub filled : IsKept layout state (Some next) old → n.from < n.to → (u : Units) → AreUnitsAt (parts_end layout.physical) s owning n.part n.to u → (new : Option (List ℕ)) →
      Puts (InUnits u) n.from (zeros (n.to - n.from)) old new → device_held layout state (Some next) new ≡ seen new dev
  pub stays : IsKept layout state (Some next) old → n.from < n.to → (u : Units) → AreUnitsAt (parts_end layout.physical) s owning n.part n.to u → (new : Option (List ℕ)) →
      Puts (InUnits u) n.from (zeros (n.to - n.from)) old new → device_held layout state (Some was) new ≡ device_held layout state (Some was) old
  pub left : IsKept layout state (Some next) old → n.from < n.to → (u : Units) → AreUnitsAt (parts_end layout.physical) s owning n.part n.to u → (new : Option (List ℕ)) →
      PutsSome (InUnits u) n.from (n.to - n.from) old new → device_held layout state (Some was) new ≡ device_held layout state (Some was) old

-- What is so of a store before zeros are put in the new bytes of its next table's partition of a name.
pub record IsGrowing {K : Type 0} (told : K → DiskTold) (disk : K) (layout : LayoutValue) (s : SuperPart) (state : State) (w : SuperRead) (buffer name : List ℕ) (dev : Dev) (x : SuperRead) (n : NewBytes) : Type 0 where
  pub part : layout.super_part ≡ Some s
  pub stored : IsStored told (held_by told disk layout state (Some w) false) layout state (Some w) buffer
  pub next : IsNextOf layout s dev x
  pub table : x.table ≡ w.table
  pub fill : IsFillOf layout s state (content w.table) (content x.next) x.owners name n dev (open_bytes (told disk))

-- a store with another buffer of the same length
other-buffer : {K : Type 0} (told : K → DiskTold) (disk : K) (layout : LayoutValue) (state : State) (within : Option SuperRead) (broken : Bool) (before after : List ℕ) → length after ≡ length before →
    IsStored told (held_by told disk layout state within broken) layout state within before → IsStored told (held_by told disk layout state within broken) layout state within after
other-buffer told disk layout state within broken before after e h = record {
  valid = h.valid;
  opened = h.opened;
  kept = h.kept;
  whole = h.whole;
  super = h.super;
  read = h.read;
  room = e ∙ h.room;
}

-- an image that stands for a device as it was
around-held : (o : Option (List ℕ)) (d was dev : Dev) → Holds o d → d ≡ was → StandsAround o was dev
unfolding Holds
around-held None d was dev h e = tt
around-held (Some file) d was dev h e = inl (subst (λ (d : Dev). Holds (Some file) d) e h)

-- what is told after a call is told before it
around-seen : (R : List ℕ → List ℕ → Type 0) (a b : Option (List ℕ)) (was dev : Dev) → Both R a b → StandsAround b was (seen a dev) → StandsAround b was dev
unfolding seen
around-seen R None None was dev h s = tt
around-seen R None (Some b) was dev h s = absurd h
around-seen R (Some a) None was dev h s = absurd h
around-seen R (Some a) (Some b) was dev h s = s

module _ {K : Type 0} (told : K → DiskTold) (old new : K) (layout : LayoutValue) (s : SuperPart) (begin : ℕ) (state : State) (w : SuperRead) (before after name : List ℕ) (dev : Dev) (x y : SuperRead) (n : NewBytes)
    (g : IsGrowing told old layout s state w before name dev x n) (place : begin ≡ parts_end layout.physical) (room : length after ≡ length before) where
  b : IsBounded s
  b = bounds-in told old layout s state w before g.part g.stored

  at : (u : Units) → AreUnitsAt begin s x.owners n.part n.to u → AreUnitsAt (parts_end layout.physical) s x.owners n.part n.to u
  at u h = subst (λ k. AreUnitsAt k s x.owners n.part n.to u) place h

  module _ (bytes : List ℕ) (says : SaysTable (content x.next) bytes) where
    kept : IsKept layout state (Some (content x.next)) (open_bytes (told old))
    kept = kept-next layout s state dev (open_bytes (told old)) (Some (content w.table)) x bytes g.part b g.stored.kept g.next says

    -- ---- after zeros were put

    filled-stored : (mid : K) → AreZeroed told begin s x.owners n old mid → IsStored told (held_by told mid layout state (Some w) false) layout state (Some w) before
    filled-stored mid z = by (leb_tells n.to n.from)
      where
        by : ((nat_le n.to n.from ≡ true) × (n.to ≤ n.from)) ⊎ ((nat_le n.to n.from ≡ false) × (n.from < n.to)) → IsStored told (held_by told mid layout state (Some w) false) layout state (Some w) before
        by (inl (e, none)) = subst (λ k. IsStored told (held_by told k layout state (Some w) false) layout state (Some w) before) (sym (z.none none)) g.stored
        by (inr (e, some)) =
            body-stored told old mid layout state (Some w) before before false false refl g.stored
            (put-body layout state (Some (content x.next)) name (InUnits z.units) n.from (zeros (n.to - n.from)) (open_bytes (told old)) (open_bytes (told mid)) (g.fill.there kept z.units (at z.units z.place)) kept (z.put some)) z.kept refl

    filled-stays : (mid : K) → AreZeroed told begin s x.owners n old mid →
        device_held layout state (Some (content w.table)) (open_bytes (told mid)) ≡ device_held layout state (Some (content w.table)) (open_bytes (told old))
    filled-stays mid z = by (leb_tells n.to n.from)
      where
        by : ((nat_le n.to n.from ≡ true) × (n.to ≤ n.from)) ⊎ ((nat_le n.to n.from ≡ false) × (n.from < n.to)) →
            device_held layout state (Some (content w.table)) (open_bytes (told mid)) ≡ device_held layout state (Some (content w.table)) (open_bytes (told old))
        by (inl (e, none)) = ap (λ k. device_held layout state (Some (content w.table)) (open_bytes (told k))) (z.none none)
        by (inr (e, some)) = g.fill.stays kept some z.units (at z.units z.place) (open_bytes (told mid)) (z.put some)

    filled-device : (mid : K) → AreZeroed told begin s x.owners n old mid → device_held layout state (Some (content x.next)) (open_bytes (told mid)) ≡ seen (open_bytes (told mid)) dev
    filled-device mid z = by (leb_tells n.to n.from)
      where
        by : ((nat_le n.to n.from ≡ true) × (n.to ≤ n.from)) ⊎ ((nat_le n.to n.from ≡ false) × (n.from < n.to)) →
            device_held layout state (Some (content x.next)) (open_bytes (told mid)) ≡ seen (open_bytes (told mid)) dev
        by (inl (e, none)) = subst (λ k. device_held layout state (Some (content x.next)) (open_bytes (told k)) ≡ seen (open_bytes (told k)) dev) (sym (z.none none)) (g.fill.none kept none)
        by (inr (e, some)) = g.fill.filled kept some z.units (at z.units z.place) (open_bytes (told mid)) (z.put some)

    filled-ready : (mid : K) → AreZeroed told begin s x.owners n old mid → IsReady told mid layout s state w before (seen (open_bytes (told mid)) dev) x
    filled-ready mid z =
        let stored = filled-stored mid z in
        let o = open_bytes (told mid) in
        let device = filled-device mid z in
        let now = kept-next layout s state dev o (Some (content w.table)) x bytes g.part b stored.kept g.next says in
        record {
          part = g.part;
          stored = stored;
          next = next-seen layout s o dev x g.next (subst IsValid device (kept-valid layout state (Some (content x.next)) o now));
          device = device;
          table = g.table;
        }

  -- ---- the next table was written

  module _ (p : IsGrown told begin s n x y old new) where
    put : IsPut told p.filled new s begin x y
    put = record { written = p.written; put = p.put; spelled = p.spelled; rooms = p.rooms; owners = p.owners; parts = p.parts; kept = p.kept }

    grown-says : SaysTable (content x.next) y.copy.items
    grown-says = subst (λ t. SaysTable (content t) y.copy.items) p.put (ap result_ok (gives y.copy.items (content y.table) p.spelled.copy))

    grown-ready : IsReady told p.filled layout s state w before (seen (open_bytes (told p.filled)) dev) x
    grown-ready = filled-ready y.copy.items grown-says p.filled p.zeroed

    pub grown-stored : IsStored told (held_by told new layout state (Some y) false) layout state (Some y) after
    grown-stored = other-buffer told new layout state (Some y) false before after room
        (put-stored told p.filled new layout s begin state w before (seen (open_bytes (told p.filled)) dev) x y grown-ready place put)

    pub grown-whole : IsWhole told (held_by told new layout state (Some y) false)
    grown-whole = put-whole told p.filled new layout s begin state w before (seen (open_bytes (told p.filled)) dev) x y grown-ready place put

    pub grown-seen : device_held layout state (Some (content y.table)) (open_bytes (told new)) ≡ seen (open_bytes (told new)) dev
    grown-seen =
        put-seen told p.filled new layout s begin state w before (seen (open_bytes (told p.filled)) dev) x y grown-ready place put
        ∙ seen-again (AreTablesMended s begin (content x.next)) (open_bytes (told p.filled)) (open_bytes (told new)) dev p.written

    pub grown-written : IsTableWritten told (held_by told new layout state (Some y) false)
    grown-written = put-written told p.filled new layout s begin state w before (seen (open_bytes (told p.filled)) dev) x y grown-ready place put

  -- ---- the disk failed

  module _ (f : IsLeftGrown told begin s n x y old new) where
    left-whole : AreLeftZeroed told begin s x.owners n old new → IsStored told (held_by told new layout state (Some w) false) layout state (Some w) before
    left-whole z =
        body-stored told old new layout state (Some w) before before false false refl g.stored
        (left-body layout state (Some (content x.next)) name (InUnits z.units) n.from (n.to - n.from) (open_bytes (told old)) (open_bytes (told new)) (g.fill.there (kept y.copy.items f.says) z.units (at z.units z.place)) (kept y.copy.items f.says) z.left) z.kept refl

    unput : (t : IsTableLeft told begin s n x old new) → IsUnput told t.filled new s begin x y
    unput t = record { around = t.around; says = f.says; stays = f.stays; kept = t.kept }

    pub left-stored : IsStored told (held_by told new layout state (Some y) true) layout state (Some y) after
    left-stored = by f.left
      where
        by : AreLeftZeroed told begin s x.owners n old new ⊎ IsTableLeft told begin s n x old new → IsStored told (held_by told new layout state (Some y) true) layout state (Some y) after
        by (inl z) =
            let h = left-whole z in
            stored-broken told new layout state (Some y) after
            (subst (λ t. IsKept layout state (Some (content t)) (open_bytes (told new))) (sym (f.stays ∙ g.table)) h.kept) h.opened (room ∙ h.room)
        by (inr t) = other-buffer told new layout state (Some y) true before after room
            (fail-stored told t.filled new layout s begin state w before (seen (open_bytes (told t.filled)) dev) x y (filled-ready y.copy.items f.says t.filled t.zeroed) place (unput t))

    pub left-around : IsHonest (told new).torn → StandsAround (open_bytes (told new)) (device_held layout state (Some (content w.table)) (open_bytes (told old))) dev
    left-around honest = by f.left
      where
        was : Dev
        was = device_held layout state (Some (content w.table)) (open_bytes (told old))

        by : AreLeftZeroed told begin s x.owners n old new ⊎ IsTableLeft told begin s n x old new → StandsAround (open_bytes (told new)) was dev
        by (inl z) =
            around-held (open_bytes (told new)) (device_held layout state (Some (content w.table)) (open_bytes (told new))) was dev ((left-whole z).whole refl).sound.stands
            (g.fill.left (kept y.copy.items f.says) z.some z.units (at z.units z.place) (open_bytes (told new)) z.left)
        by (inr t) =
            around-seen (IsTableAround (told new).torn s begin (content x.next)) (open_bytes (told t.filled)) (open_bytes (told new)) was dev t.around
            (subst (λ (d : Dev). StandsAround (open_bytes (told new)) d (seen (open_bytes (told t.filled)) dev)) (filled-stays y.copy.items f.says t.filled t.zeroed)
            (fail-around told t.filled new layout s begin state w before (seen (open_bytes (told t.filled)) dev) x y (filled-ready y.copy.items f.says t.filled t.zeroed) place (unput t) honest))
