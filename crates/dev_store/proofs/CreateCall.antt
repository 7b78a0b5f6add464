-- A new partition: what is planned of it, and what the call says of the store.
use Rattle.std.proofs.Common.{◌≡◌, ◌∙◌, refl, ap, sym, subst, ℕ, ◌+◌, ◌-◌, ◌*◌, ◌<◌, ◌≤◌, Bool, true, false, List, [], ◌∷◌, ◌++◌, map, length, take, arith, Option, Some, None, codes}
use Rattle.std.specs.Prelude.{not, ◌||◌, ◌%◌, nat_le, bytes_eq, if◌then◌else◌, IsTrue, IfSome}
use Rattle.std.specs.List.{list_all, list_any}
use Rattle.std.proofs.lemmas.Bool.Decides.{nat_tests}
use Rattle.std.proofs.lemmas.List.{length-take-le}
use Rattle.fb_frame.specs.Bytes.{zeros}
use Rattle.fb_frame.specs.NameText.{IsName}
use Rattle.dev_disk.specs.Disks.{DiskTold, open_bytes}
use Rattle.dev_model.specs.declared.device.Dev.{Dev}
use Rattle.dev_model.specs.declared.device.Logical.{Logical}
use Rattle.dev_model.specs.Images.{round_up}
use Rattle.dev_model.specs.Partitions.{is_partition, is_super, is_physical, is_logical}
use Rattle.dev_model.specs.Sizes.{units_for, groups_fit}
use Rattle.dev_model.specs.Refusals.{created_size}
use Rattle.dev_model.specs.Steps.{created}
use Rattle.dev_model.specs.Tables.{is_group}
use Rattle.dev_model.proofs.Names.{among}
use Rattle.dev_model.proofs.Valid.{or-false}
use Rattle.dev_model.proofs.ValidSizes.{whole-round}
use Rattle.dev_model.proofs.ValidTable.{map-append}
use Rattle.unit_alloc.specs.Owning.{Owning, OneOwner, free_units, handed, units_of}
use Rattle.super_meta.specs.Contents.{Content, content}
use Rattle.super_meta.specs.Held.{limited}
use Rattle.dev_store.specs.declared.create_plan.NewPart.{NewPart}
use Rattle.dev_store.specs.declared.part_zero.NewBytes.{NewBytes}
use Rattle.dev_store.specs.declared.part_place.Units.{Units}
use Rattle.dev_store.specs.declared.part_place.Part.TheVariants.{InUnits}
use Rattle.dev_store.specs.declared.errors.StoreError.TheVariants.{NameTaken}
use Rattle.dev_store.specs.declared.layout.SuperPart.{SuperPart}
use Rattle.dev_store.specs.declared.state.State.{State}
use Rattle.dev_store.specs.declared.super_read.SuperRead.{SuperRead}
use Rattle.dev_store.specs.Building.{planned_for, replaced, is_short, IsOnSuper}
use Rattle.dev_store.specs.Changes.{create_flaw, put_at}
use Rattle.dev_store.specs.Creating.{new_flaw, super_flaw, IsNewPart, handed_new, planned_new, plans_new}
use Rattle.dev_store.specs.Growing.{AreUnitsAt, AreHeld}
use Rattle.dev_store.specs.Held.{device_held, file_or_zeros, seen}
use Rattle.dev_store.specs.Layouts.{LayoutValue, parts_end}
use Rattle.dev_store.specs.PartPlaces.{Puts, PutsSome}
use Rattle.dev_store.specs.PartWrites.{IsPartWritten}
use Rattle.dev_store.specs.Reading.{IsStored, IsSuperSound, IsWithinSound, held_by, table_within}
use Rattle.dev_store.specs.Runs.{group_place, table_for}
use Rattle.dev_store.specs.StoreCalls.{IsAdded}
use Rattle.dev_store.specs.Supers.{size_in}
use Rattle.dev_store.specs.TableCalls.{HavePlace, IsPlanned, IsNextOf}
use Rattle.dev_store.specs.TableChanges.{AreFitted, IsStoreSuper}
use Rattle.dev_store.proofs.BuildNext.{created-plan}
use Rattle.dev_store.proofs.CallDelete.{few-groups, all-short, own-plans}
use Rattle.dev_store.proofs.CallPut.{super-in, opened-in}
use Rattle.dev_store.proofs.CallStores.{store-super, on-super, head-of, held-file, fitted-place, fitted-next}
use Rattle.dev_store.proofs.CallUnits.{map-many}
use Rattle.dev_store.proofs.ChangeClauses.{held-added, seen-names}
use Rattle.dev_store.proofs.ChangeCreate.{new_logical, create-table, create-map, now-own}
use Rattle.dev_store.proofs.ChangeHeld.{IsHeadOf}
use Rattle.dev_store.proofs.ChangeImages.{create-put}
use Rattle.dev_store.proofs.ChangeNamed.{at-name, eq-is}
use Rattle.dev_store.proofs.ChangeStore.{device_in, store-many, store-device}
use Rattle.dev_store.proofs.ChangeWrites.{create-there, create-fill, create-filled-stays, create-left-stays}
use Rattle.dev_store.proofs.CreateFlaws.{HasPlace, has-place, create-decides, created-valid}
use Rattle.dev_store.proofs.PartWritten.{puts_none}
use Rattle.dev_store.proofs.RegrowPlan.{own-free}
use Rattle.dev_store.proofs.RegrowStores.{IsFillOf, IsGrowing}
use Rattle.dev_store.proofs.ToldLemmas.{zeros-long}
use Rattle.dev_store.proofs.ValidUnits.{ceil-holds}

-- a name that no partition has isn't among theirs
not-among : (name : List ℕ) (ps : List Logical) → list_any (at-name name) ps ≡ false → not (among name (map (λ p. p.name) ps)) ≡ true
not-among name [] h = refl
not-among name (p ∷ ps) h =
    let o = or-false (bytes_eq p.name name) (list_any (at-name name) ps) h in
    ap (λ b. not (b || among name (map (λ p. p.name) ps))) o.0 ∙ not-among name ps o.1

-- What is so of a store's device that has place for a new partition.
pub record HasPlaceFor (dev : Dev) (name : List ℕ) : Type 0 where
  pub valid : IsName name
  pub fresh : not (among name (map (λ p. p.name) dev.logical)) ≡ true
  pub physical : is_physical dev name ≡ false
  pub grouped : is_group dev.groups (codes "default") ≡ true

module _ (layout : LayoutValue) (s : SuperPart) (state : State) (w : SuperRead) (file name : List ℕ) (size : ℕ) (new : NewPart) (h : IsStoreSuper layout s state (content w.table) w.owners w.parts.items file)
    (sound : IsSuperSound layout.physical s w) (n : IsNewPart s w size new) (p : HasPlaceFor (device_in layout state (content w.table) file) name)
    (free : create_flaw (device_in layout state (content w.table) file) name size ≡ None) where
  abbrev pub dev : Dev
  dev = device_in layout state (content w.table) file

  abbrev pub rest : List ℕ
  rest = w.parts.items ++ new.part ∷ []

  create-fitted : AreFitted s.unit (created name size dev).logical (map (units_of (handed_new w new)) rest)
  create-fitted = (create-table layout s state (content w.table) w.owners (handed_new w new) w.parts.items file name new.part new.units size h n.free n.inside refl p.fresh n.units n.room p.grouped).fitted

  pub create-super : IsOnSuper layout.physical s (created name size dev)
  create-super =
      let o = on-super layout s state (content w.table) w.owners w.parts.items file h in
      record { valid = created-valid dev name size p.valid o.valid free; named = o.named; physical = o.physical; unit = o.unit; units = o.units }

  pub create-head : IsHeadOf (content w.table) (created name size dev)
  create-head = let k = head-of layout s state (content w.table) file h.part in record { minor = k.minor; flags = k.flags; groups = k.groups }

  pub create-plan : plans_new w name new ≡ planned_for (created name size dev).groups (created name size dev).logical rest
  create-plan =
      let c = content w.table in
      let many = store-many layout s state c w.owners w.parts.items file h in
      let entry : planned_new c name new ≡ record { name = name; attributes = 0; group = group_place dev.groups (codes "default"); bytes = round_up size; part = new.part } =
      λ i. record { name = name; attributes = 0; group = group_place (create-head.groups i) (codes "default"); bytes = n.bytes i; part = new.part } in
      (λ i. replaced (length w.parts.items) (Some (entry i)) (own-plans layout s state w file h sound i))
      ∙ created-plan dev name size w.parts.items new.part many

  pub create-place : HavePlace s (handed_new w new) (plans_new w name new)
  create-place = fitted-place layout s (handed_new w new) rest (created name size dev) (plans_new w name new) create-fitted create-super create-plan

  pub create-next : (x : SuperRead) → IsPlanned s (handed_new w new) (plans_new w name new) w x → x.parts.items ≡ rest → IsNextOf layout s (created name size dev) x
  create-next x planned parts =
      fitted-next layout s (handed_new w new) rest (created name size dev) (plans_new w name new) w x
      (create-map layout s state (content w.table) w.owners (handed_new w new) w.parts.items file name new.part new.units size h n.free n.inside refl p.fresh n.units n.room p.grouped)
      create-fitted create-super create-head create-plan planned parts

  -- the units of the new part
  own-units : units_of (handed_new w new) new.part ≡ take new.units (free_units w.owners)
  own-units = now-own layout s state (content w.table) w.owners (handed_new w new) w.parts.items file name new.part new.units size h n.free n.inside refl p.fresh

  pub create-held : (b : NewBytes) → b.part ≡ new.part → b.from ≡ 0 → b.to ≡ new.bytes → AreHeld s (handed_new w new) b
  create-held b part from to =
      let d = store-device layout s state (content w.table) w.owners w.parts.items file h in
      let four = d.bounded.unit in
      let many : length (units_of (handed_new w new) b.part) ≡ new.units =
      ap (λ k. length (units_of (handed_new w new) k)) part ∙ (ap length own-units ∙ length-take-le new.units (free_units w.owners) n.room) in
      let all = h.mapped.units in
      let holds = ceil-holds (round_up size) s.unit (omega (arith, four)) in
      let few = own-free w.owners new.part h.one (let m = h.mapped.many in let i = n.inside in omega (arith, m, i)) in
      record {
        all = all;
        few = let t = d.bounded.tables in let r = d.bounded.room in let m = n.room in omega (arith, many, few, all, m, t, r);
        long = subst (λ k. b.to ≤ k * s.unit) (sym (many ∙ n.units)) (omega (arith, to, n.bytes, holds));
        first = ap (λ k. k % 4096) from;
        last = ap (λ k. k % 4096) (to ∙ n.bytes) ∙ eq-is (round_up size % 4096) 0 (whole-round size);
      }

-- a table that has room has place for one more partition
pub new-place : (s : SuperPart) (w : SuperRead) (name : List ℕ) (size : ℕ) → new_flaw s w name size ≡ None → HasPlace (nat_le 128 (length (content w.table).partitions)) (is_group (map limited (content w.table).groups) (codes "default"))
new-place s w name size h =
    let c = content w.table in
    has-place (nat_le 128 (length c.partitions)) (is_group (map limited c.groups) (codes "default")) (nat_le (units_for s.unit (round_up size)) (length (free_units w.owners)))
    (groups_fit (map limited c.groups) (map (size_in c) c.partitions ++ created_size name size ∷ [])) h

-- no zeros
zeros-none : (k : ℕ) → k ≡ 0 → [] ≡ zeros k
unfolding zeros
zeros-none k e = sym (ap zeros e)

-- ---- in a store

-- A new partition is taken in a store that isn't broken.
pub record IsTakenIn {K : Type 0} (told : K → DiskTold) (disk : K) (layout : LayoutValue) (s : SuperPart) (state : State) (w : SuperRead) (buffer name : List ℕ) (size : ℕ) (new : NewPart) : Type 0 where
  pub part : layout.super_part ≡ Some s
  pub store : IsStored told (held_by told disk layout state (Some w) false) layout state (Some w) buffer
  pub valid : IsName name
  pub none : new_flaw s w name size ≡ None
  pub free : (is_partition (device_held layout state (Some (content w.table)) (open_bytes (told disk))) name || is_super (device_held layout state (Some (content w.table)) (open_bytes (told disk))) name) ≡ false
  pub room : IsNewPart s w size new

module _ {K : Type 0} (told : K → DiskTold) (old : K) (layout : LayoutValue) (s : SuperPart) (state : State) (w : SuperRead) (buffer name : List ℕ) (size : ℕ) (new : NewPart)
    (t : IsTakenIn told old layout s state w buffer name size new) where
  abbrev image : Option (List ℕ)
  image = open_bytes (told old)

  abbrev was : Dev
  was = device_held layout state (Some (content w.table)) image

  abbrev file : List ℕ
  file = file_or_zeros layout image

  sound : IsSuperSound layout.physical s w
  sound = super-in told old layout s state w buffer t.part t.store

  store : IsStoreSuper layout s state (content w.table) w.owners w.parts.items file
  store = store-super layout s state w image t.part t.store.kept sound

  same : was ≡ device_in layout state (content w.table) file
  same = held-file layout state (Some (content w.table)) image

  there : HasPlace (nat_le 128 (length (content w.table).partitions)) (is_group (map limited (content w.table).groups) (codes "default"))
  there = new-place s w name size t.none

  place-was : HasPlaceFor was name
  place-was =
      let taken = or-false (is_partition was name) (is_super was name) t.free in
      let kinds = or-false (is_physical was name) (is_logical was name) taken.0 in
      let groups : map limited (content w.table).groups ≡ was.groups = (head-of layout s state (content w.table) file t.part).groups ∙ ap (λ (d : Dev). d.groups) (sym same) in
      record { valid = t.valid; fresh = not-among name was.logical kinds.1; physical = kinds.0; grouped = ap (λ l. is_group l (codes "default")) (sym groups) ∙ there.grouped }

  place-file : HasPlaceFor (device_in layout state (content w.table) file) name
  place-file = subst (λ (d : Dev). HasPlaceFor d name) same place-was

  -- there is no refusal
  pub taken-flaw : create_flaw was name size ≡ None
  taken-flaw =
      create-decides layout state (Some w) image name size t.store.kept (subst (λ q. IsWithinSound layout q (Some w)) (sym t.part) sound)
      ∙ (ap (λ b. if b then Some NameTaken else super_flaw layout.super_part (Some w) name size) t.free
      ∙ (ap (λ q. super_flaw q (Some w) name size) t.part ∙ t.none))

  file-flaw : create_flaw (device_in layout state (content w.table) file) name size ≡ None
  file-flaw = subst (λ (d : Dev). create_flaw d name size ≡ None) same taken-flaw

  pub taken-groups : length (content w.table).groups ≤ 64
  taken-groups = few-groups layout s w sound

  pub taken-short : IsTrue (list_all (is_short (content w.table)) (content w.table).partitions)
  taken-short = all-short layout s state w file store

  pub taken-few : length w.parts.items < 128
  taken-few =
      let few = there.few in
      let many = map-many s (content w.table) w.owners w.parts.items store.mapped in
      below (length (content w.table).partitions) (length w.parts.items) few many
    where
      below : (a b : ℕ) → nat_le 128 a ≡ false → b ≡ a → b < 128
      below a b few many = grind (arith, nat_tests)

  pub taken-place : HavePlace s (handed_new w new) (plans_new w name new)
  taken-place = create-place layout s state w file name size new store sound t.room place-file file-flaw

  -- what stands before zeros are put
  module _ (x : SuperRead) (b : NewBytes) (p : IsPlanned s (handed_new w new) (plans_new w name new) w x) (parts : x.parts.items ≡ w.parts.items ++ new.part ∷ [])
      (part : b.part ≡ new.part) (from : b.from ≡ 0) (to : b.to ≡ new.bytes) where
    abbrev now : Owning
    now = handed_new w new

    one : OneOwner now
    one = subst OneOwner p.owners p.one

    abbrev next : Content
    next = table_for s (created name size was) (map (units_of now) (w.parts.items ++ new.part ∷ []))

    placed : (u : Units) → AreUnitsAt (parts_end layout.physical) s now b.part b.to u → AreUnitsAt (parts_end layout.physical) s now new.part (round_up size) u
    placed u a = subst (λ k. AreUnitsAt (parts_end layout.physical) s now new.part k u) (to ∙ t.room.bytes) (subst (λ k. AreUnitsAt (parts_end layout.physical) s now k b.to u) part a)

    fill : IsFillOf layout s state (content w.table) next now name b (created name size was) image
    fill = record {
      there = λ kept u a.
          create-there layout s state (content w.table) w.owners now w.parts.items name new.part new.units size image image u store t.room.free t.room.inside refl one t.room.units t.room.room
          place-was.fresh place-was.physical place-was.grouped kept (placed u a);
      none = λ kept le.
          create-put layout s state (content w.table) w.owners now w.parts.items name new.part new.units size t.room.free t.room.inside refl one t.room.units t.room.room image image store
          place-was.fresh place-was.physical place-was.grouped
          (subst (λ l. IsPartWritten layout (device_held layout state (Some next)) (put_at name 0 l) image image) (zeros-none (round_up size) (omega (arith, le, from, to, t.room.bytes)))
          (puts_none layout state (Some next) name 0 image));
      filled = λ kept some u a other puts.
          create-fill layout s state (content w.table) w.owners now w.parts.items name new.part new.units size image other u store t.room.free t.room.inside refl one t.room.units t.room.room
          place-was.fresh place-was.physical place-was.grouped kept (placed u a) (zeros (b.to - b.from)) (ap zeros long)
          (subst (λ k. Puts (InUnits u) k (zeros (b.to - b.from)) image other) from puts);
      stays = λ kept some u a other puts.
          create-filled-stays layout s state (content w.table) w.owners now w.parts.items name new.part new.units size image other u store t.room.free t.room.inside refl one t.room.units t.room.room
          place-was.fresh place-was.physical place-was.grouped kept (placed u a) (zeros (b.to - b.from)) (let z = zeros-long (b.to - b.from) in omega (arith, z, long))
          (subst (λ k. Puts (InUnits u) k (zeros (b.to - b.from)) image other) from puts);
      left = λ kept some u a other puts.
          create-left-stays layout s state (content w.table) w.owners now w.parts.items name new.part new.units size image other u store t.room.free t.room.inside refl one t.room.units t.room.room
          place-was.fresh place-was.physical place-was.grouped kept (placed u a) (b.to - b.from) (omega (arith, long))
          (subst (λ k. PutsSome (InUnits u) k (b.to - b.from) image other) from puts);
    }
      where
        long : b.to - b.from ≡ round_up size
        long = omega (arith, from, to, t.room.bytes)

    pub taken-next : IsNextOf layout s (created name size was) x
    taken-next =
        subst (λ (d : Dev). IsNextOf layout s (created name size d) x) (sym same)
        (create-next layout s state w file name size new store sound t.room place-file file-flaw x p parts)

    pub taken-held : AreHeld s x.owners b
    taken-held = subst (λ q. AreHeld s q b) (sym p.owners) (create-held layout s state w file name size new store sound t.room place-file file-flaw b part from to)

    pub taken-growing : IsGrowing told old layout s state w buffer name (created name size was) x b
    taken-growing =
        let table : content x.next ≡ next = taken-next.table ∙ (λ j. table_for s (created name size was) (map (units_of (p.owners j)) (parts j))) in
        record {
          part = t.part;
          stored = t.store;
          next = taken-next;
          table = p.table;
          fill = subst (λ c. IsFillOf layout s state (content w.table) c x.owners name b (created name size was) image) (sym table)
              (subst (λ q. IsFillOf layout s state (content w.table) next q name b (created name size was) image) (sym p.owners) fill);
        }

    -- the units of each partition after it
    pub taken-handed : (disk : K) (y : SuperRead) → y.owners ≡ x.owners → y.parts ≡ x.parts →
        device_held layout state (Some (content y.table)) (open_bytes (told disk)) ≡ seen (open_bytes (told disk)) (created name size was) →
        IsAdded name (round_up size) (held_by told old layout state (Some w) false) (held_by told disk layout state (Some y) false)
    taken-handed disk y owners ps device =
        let unit : was.unit ≡ s.unit = ap (λ (d : Dev). d.unit) same ∙ (on-super layout s state (content w.table) w.owners w.parts.items file store).unit in
        let inside : new.part < length w.owners.parts = (let m = store.mapped.many in let i = t.room.inside in omega (arith, m, i)) in
        held-added (held_by told old layout state (Some w) false) (held_by told disk layout state (Some y) false) w.owners now name new.part (round_up size)
        (record { before = refl; after = ap Some (owners ∙ p.owners); mapped = (t.store.whole refl).mapped })
        t.room.free inside (ap (λ k. handed w.owners new.part (take k (free_units w.owners))) (t.room.units ∙ ap (λ u. units_for u (round_up size)) (sym unit)))
        place-was.fresh ((λ j. (ps j).items) ∙ parts)
        (ap (λ (d : Dev). map (λ p. p.name) d.logical) device
        ∙ (seen-names (open_bytes (told disk)) (created name size was) ∙ map-append (λ p. p.name) was.logical (new_logical name size ∷ [])))

-- what was found in a store that isn't broken
pub taken-in : {K : Type 0} (told : K → DiskTold) (disk : K) (layout : LayoutValue) (state : State) (within : Option SuperRead) (w : SuperRead) (buffer : List ℕ) (broken : Bool) (s : SuperPart) (name : List ℕ) (size : ℕ) (new : NewPart) →
    IsName name → within ≡ Some w → broken ≡ false → IsStored told (held_by told disk layout state within broken) layout state within buffer →
    (is_partition (device_held layout state (table_within within) (open_bytes (told disk))) name || is_super (device_held layout state (table_within within) (open_bytes (told disk))) name) ≡ false →
    layout.super_part ≡ Some s → super_flaw layout.super_part within name size ≡ None → IfSome within (λ r. IsNewPart s r size new) → IsTakenIn told disk layout s state w buffer name size new
taken-in told disk layout state within w buffer broken s name size new valid there usable i free part none found = record {
  part = part;
  store = opened-in told disk layout state within w buffer broken there usable i;
  valid = valid;
  none = subst (λ q. super_flaw q (Some w) name size ≡ None) part (subst (λ v. super_flaw layout.super_part v name size ≡ None) there none);
  free = subst (λ v. (is_partition (device_held layout state (table_within v) (open_bytes (told disk))) name || is_super (device_held layout state (table_within v) (open_bytes (told disk))) name) ≡ false) there free;
  room = subst (λ v. IfSome v (λ r. IsNewPart s r size new)) there found;
}
