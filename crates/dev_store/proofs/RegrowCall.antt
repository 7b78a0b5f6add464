-- A partition that gets another length: why it is refused, what is planned of it, and what the call says of the store.
use Rattle.std.proofs.Common.{◌≡◌, ◌∙◌, refl, ap, sym, subst, ℕ, ◌+◌, ◌-◌, ◌*◌, ◌<◌, ◌≤◌, Bool, true, false, List, map, length, Option, Some, None, Result, Ok, Err, arith, option_map}
use Rattle.std.specs.Prelude.{◌%◌, slice_get, slice_index, get_or, position, bytes_eq, if◌then◌else◌}
use Rattle.std.specs.Result.{result_err}
use Rattle.std.specs.List.{list_any, position_or_len}
use Rattle.fb_frame.specs.Bytes.{zeros}
use Rattle.dev_disk.specs.Disks.{DiskTold, open_bytes}
use Rattle.dev_model.specs.declared.device.Dev.{Dev}
use Rattle.dev_model.specs.declared.step.Step.TheVariants.{Resize}
use Rattle.dev_model.specs.Images.{round_up}
use Rattle.dev_model.specs.Partitions.{is_logical}
use Rattle.dev_model.specs.Sizes.{sizes_of, resized, units_for, units_fit, groups_fit}
use Rattle.dev_model.specs.Steps.{apply}
use Rattle.dev_model.proofs.ValidSizes.{resize-valid, whole-round}
use Rattle.unit_alloc.specs.Owning.{Owning, OneOwner, free_units, units_of}
use Rattle.super_meta.specs.Contents.{Content, content}
use Rattle.super_meta.specs.Held.{limited}
use Rattle.dev_store.specs.declared.layout.SuperPart.{SuperPart}
use Rattle.dev_store.specs.declared.state.State.{State}
use Rattle.dev_store.specs.declared.super_read.SuperRead.{SuperRead}
use Rattle.dev_store.specs.declared.part_place.Units.{Units}
use Rattle.dev_store.specs.declared.part_zero.NewBytes.{NewBytes}
use Rattle.dev_store.specs.declared.errors.StoreError.{StoreError}
use Rattle.dev_store.specs.declared.errors.StoreError.TheVariants.{NoPartition, NoSpace, GroupFull}
use Rattle.dev_store.specs.Layouts.{LayoutValue, parts_end}
use Rattle.dev_store.specs.Supers.{size_in}
use Rattle.dev_store.specs.Changes.{room_flaw, resize_flaw}
use Rattle.dev_store.specs.Held.{Held, device_held, seen, file_or_zeros}
use Rattle.dev_store.specs.Reading.{IsStored, IsSuperSound, held_by, table_within}
use Rattle.dev_store.specs.StoreCalls.{Decided, IsRegrown}
use Rattle.dev_store.specs.Runs.{table_for}
use Rattle.dev_store.specs.Building.{planned_as, planned_all, longer, planned_for, IsOnSuper, replaced}
use Rattle.dev_store.specs.TableChanges.{IsStoreSuper, AreFitted, regrown}
use Rattle.dev_store.specs.TableCalls.{plans, HavePlace, IsPlanned, IsNextOf, IsFound}
use Rattle.dev_store.specs.Growing.{AreUnitsAt, AreHeld, AreResized, regrown_at, resized_at, resize_bar}
use Rattle.dev_store.proofs.ValidSuper.{good-units}
use Rattle.dev_store.proofs.ValidUnits.{ceil-holds}
use Rattle.dev_store.proofs.UnitLemmas.{le-of}
use Rattle.dev_store.proofs.ToldLemmas.{zeros-long}
use Rattle.dev_store.proofs.ChangeHeld.{IsHeadOf}
use Rattle.dev_store.proofs.ChangeNamed.{by_name, at-name, eq-is}
use Rattle.dev_store.proofs.ChangeStore.{device_in, store-valid, store-many, store-device}
use Rattle.dev_store.proofs.ChangeAfter.{store-entries}
use Rattle.dev_store.proofs.ChangeResize.{IsLong, part-own, part-inside, resized-many, resize-table, resize-map, resized-names}
use Rattle.dev_store.proofs.ChangeRoom.{resize-fits, resize-room}
use Rattle.dev_store.proofs.ChangeFlaws.{room-tests, resize-tests}
use Rattle.dev_store.proofs.ChangeImages.{resize-none}
use Rattle.dev_store.proofs.ChangeClauses.{held-regrown, seen-names}
use Rattle.dev_store.proofs.ChangeWrites.{resize-there, resize-fill, resize-filled-stays, resize-left-stays}
use Rattle.dev_store.proofs.BuildNext.{resized-plan}
use Rattle.dev_store.proofs.BuildSound.{entries-sizes}
use Rattle.dev_store.proofs.CallStores.{store-super, on-super, head-of, held-file, fitted-place, fitted-next}
use Rattle.dev_store.proofs.CallFound.{IsFoundAt, found-at, found-part, found-place}
use Rattle.dev_store.proofs.CallPut.{super-in, opened-in}
use Rattle.dev_store.proofs.CallDelete.{own-plans}
use Rattle.dev_store.proofs.CallUnits.{map-many}
use Rattle.dev_store.proofs.RegrowPlan.{entry-at, read-at, long-at, fit-of, fewer-units, own-free}
use Rattle.dev_store.proofs.RegrowStores.{IsFillOf, IsGrowing}

-- ---- over a file

module _ (layout : LayoutValue) (s : SuperPart) (state : State) (w : SuperRead) (file name : List ℕ) (size place : ℕ)
    (h : IsStoreSuper layout s state (content w.table) w.owners w.parts.items file) (sound : IsSuperSound layout.physical s w)
    (at : IsFoundAt w (device_in layout state (content w.table) file) name place) where
  abbrev c : Content
  c = content w.table

  abbrev dev : Dev
  dev = device_in layout state c file

  abbrev own : ℕ
  own = slice_index w.parts.items place

  abbrev bytes : ℕ
  bytes = round_up size

  abbrev count : ℕ
  count = units_for s.unit bytes

  -- the part of the name
  named : slice_get w.parts.items (position_or_len (at-name name) dev.logical) ≡ Some own
  named = ap (slice_get w.parts.items) at.place ∙ at.part

  inside : own < length w.owners.parts
  inside = part-inside s c w.owners w.parts.items (position_or_len (at-name name) dev.logical) own h.mapped named

  -- the refusals, as the call tests them
  pub bar-is : resize_flaw dev name size ≡ resize_bar s w place name bytes
  bar-is =
      let sizes = resized name bytes (sizes_of dev.logical) in
      let fits = resize-fits layout s state c w.owners w.parts.items file name own bytes h at.there named in
      let own-sizes = entries-sizes s c c.partitions dev.logical _ (store-entries layout s state c w.owners w.parts.items file h) in
      let groups = (head-of layout s state c file h.part).groups in
      let full : groups_fit dev.groups sizes ≡ groups_fit (map limited c.groups) (resized name bytes (map (size_in c) c.partitions)) =
      λ i. groups_fit (sym groups i) (resized name bytes (sym own-sizes i)) in
      resize-tests dev name size
      ∙ (ap (λ b. if b then room_flaw dev sizes else Some NoPartition) at.there
      ∙ (room-tests dev sizes ∙ (λ i. if fits i then (if full i then None else Some GroupFull) else Some NoSpace)))

  -- where there is no refusal
  module _ (free : resize_flaw dev name size ≡ None) where
    tests : (units_fit dev.unit dev.units (resized name bytes (sizes_of dev.logical)) ≡ true) × (groups_fit dev.groups (resized name bytes (sizes_of dev.logical)) ≡ true)
    tests =
        let sizes = resized name bytes (sizes_of dev.logical) in
        by (units_fit dev.unit dev.units sizes) (groups_fit dev.groups sizes)
        (sym (resize-tests dev name size ∙ (ap (λ b. if b then room_flaw dev sizes else Some NoPartition) at.there ∙ room-tests dev sizes)) ∙ free)
      where
        by : (units groups : Bool) → (if units then (if groups then None else Some GroupFull) else Some NoSpace) ≡ None → (units ≡ true) × (groups ≡ true)
        by true true e = (refl, refl)
        by true false e = absurd cc
        by false groups e = absurd cc

    room : count ≤ length (units_of w.owners own) + length (free_units w.owners)
    room = resize-room layout s state c w.owners w.parts.items file name own bytes h at.there named tests.0

    pub resize-super : IsOnSuper layout.physical s (apply (Resize name size) dev)
    resize-super =
        let o = on-super layout s state c w.owners w.parts.items file h in
        record { valid = resize-valid name size dev at.there tests.0 tests.1 o.valid; named = o.named; physical = o.physical; unit = o.unit; units = o.units }

    pub resize-head : IsHeadOf c (apply (Resize name size) dev)
    resize-head = let k = head-of layout s state c file h.part in record { minor = k.minor; flags = k.flags; groups = k.groups }

    pub resize-plan : plans w place (resized_at w place bytes) ≡ planned_for (apply (Resize name size) dev).groups (apply (Resize name size) dev).logical w.parts.items
    resize-plan =
        let e = entry-at c.partitions place at.inside in
        let p = e.0 in
        let some : resized_at w place bytes ≡ Some (longer bytes (planned_as c p own)) = ap (option_map (λ p. longer bytes (planned_as c p own))) e.1 in
        let many = store-many layout s state c w.owners w.parts.items file h in
        let entry : p ≡ get_or c.partitions (position_or_len (at-name name) dev.logical) p = read-at c.partitions (position_or_len (at-name name) dev.logical) p p (ap (slice_get c.partitions) at.place ∙ e.1) in
        ap (plans w place) some
        ∙ subst (λ i. replaced i (Some (longer bytes (planned_as c p own))) (planned_all c c.partitions w.parts.items) ≡ planned_for dev.groups (apply (Resize name size) dev).logical w.parts.items) at.place
        (resized-plan c dev name bytes w.parts.items p own (store-valid layout s state c w.owners w.parts.items file h) many (map-many s c w.owners w.parts.items h.mapped)
        (own-plans layout s state w file h sound) at.there entry (read-at w.parts.items (position_or_len (at-name name) dev.logical) own 0 named))

  -- the map of units has one owner of each
  module _ (free : resize_flaw dev name size ≡ None) (one : OneOwner (regrown_at w place count)) where
    pub resize-fitted : AreFitted s.unit (apply (Resize name size) dev).logical (map (units_of (regrown_at w place count)) w.parts.items)
    resize-fitted = (resize-table layout s state c w.owners (regrown_at w place count) w.parts.items file name own size h named refl one (room free)).fitted

    pub resize-place : HavePlace s (regrown_at w place count) (plans w place (resized_at w place bytes))
    resize-place = fitted-place layout s (regrown_at w place count) w.parts.items (apply (Resize name size) dev) _ resize-fitted (resize-super free) (resize-plan free)

    pub resize-next : (x : SuperRead) → IsPlanned s (regrown_at w place count) (plans w place (resized_at w place bytes)) w x → x.parts.items ≡ w.parts.items → IsNextOf layout s (apply (Resize name size) dev) x
    resize-next x p same =
        fitted-next layout s (regrown_at w place count) w.parts.items (apply (Resize name size) dev) _ w x
        (resize-map layout s state c w.owners (regrown_at w place count) w.parts.items file name own size h named refl one (room free)) resize-fitted (resize-super free) (resize-head free) (resize-plan free) p same

    -- how many units it has
    now-many : length (units_of (regrown_at w place count) own) ≡ count
    now-many =
        ap length (sym (part-own (regrown_at w place count) w.parts.items dev.logical name own (store-many layout s state c w.owners w.parts.items file h) named))
        ∙ resized-many layout s state c w.owners (regrown_at w place count) w.parts.items file name own size h named refl one (room free)

  -- how long the partition is
  module _ (n : NewBytes) (r : AreResized w place bytes n) where
    len-is : IsLong name n.from dev.logical
    len-is =
        let d = store-device layout s state c w.owners w.parts.items file h in
        subst (λ k. IsLong name k dev.logical) (sym r.from)
        (long-at s c name r.entry c.partitions dev.logical _ place (store-entries layout s state c w.owners w.parts.items file h) d.units.names at.there at.place r.there)

    own-fit : (length (units_of w.owners own) ≡ units_for s.unit n.from) × (n.from % 4096 ≡ 0)
    own-fit =
        let d = store-device layout s state c w.owners w.parts.items file h in
        let f = fit-of s.unit (by_name w.owners w.parts.items dev.logical) name n.from dev.logical at.there d.units.fits len-is in
        (ap length (sym (part-own w.owners w.parts.items dev.logical name own (store-many layout s state c w.owners w.parts.items file h) named)) ∙ f.0, f.1)

    pub resize-held : resize_flaw dev name size ≡ None → OneOwner (regrown_at w place count) → AreHeld s (regrown_at w place count) n
    resize-held free one =
        let d = store-device layout s state c w.owners w.parts.items file h in
        let four = d.bounded.unit in
        let many : length (units_of (regrown_at w place count) n.part) ≡ count = ap (λ k. length (units_of (regrown_at w place count) k)) r.part ∙ now-many free one in
        let most = own-free w.owners own h.one inside in
        let all = h.mapped.units in
        let rm = room free in
        let holds = ceil-holds bytes s.unit (omega (arith, four)) in
        record {
          all = all;
          few = let t = d.bounded.tables in let r = d.bounded.room in omega (arith, many, most, all, rm, t, r);
          long = subst (λ k. n.to ≤ k * s.unit) (sym many) (omega (arith, r.to, holds));
          first = own-fit.1;
          last = ap (λ k. k % 4096) r.to ∙ eq-is (bytes % 4096) 0 (whole-round size);
        }

-- ---- in a store

module _ {K : Type 0} (told : K → DiskTold) (old : K) (layout : LayoutValue) (s : SuperPart) (state : State) (w : SuperRead) (buffer name : List ℕ) (size place : ℕ) (part : layout.super_part ≡ Some s)
    (i : IsStored told (held_by told old layout state (Some w) false) layout state (Some w) buffer)
    (here : position (λ p. bytes_eq p.name name) (content w.table).partitions ≡ Some place) where
  abbrev image : Option (List ℕ)
  image = open_bytes (told old)

  abbrev was : Dev
  was = device_held layout state (Some (content w.table)) image

  abbrev zeros_or : List ℕ
  zeros_or = file_or_zeros layout image

  sound : IsSuperSound layout.physical s w
  sound = super-in told old layout s state w buffer part i

  store : IsStoreSuper layout s state (content w.table) w.owners w.parts.items zeros_or
  store = store-super layout s state w image part i.kept sound

  at : IsFoundAt w (device_in layout state (content w.table) zeros_or) name place
  at = found-at layout s state w zeros_or name place store here

  same : was ≡ device_in layout state (content w.table) zeros_or
  same = held-file layout state (Some (content w.table)) image

  pub resize-few : length (content w.table).partitions ≤ 128
  resize-few = le-of (length (content w.table).partitions) 128 (good-units layout.physical s (content w.table) sound.good).partitions

  pub call-bar : resize_flaw was name size ≡ resize_bar s w place name (round_up size)
  call-bar = ap (λ (d : Dev). resize_flaw d name size) same ∙ bar-is layout s state w zeros_or name size place store sound at

  free-of : resize_bar s w place name (round_up size) ≡ None → resize_flaw (device_in layout state (content w.table) zeros_or) name size ≡ None
  free-of e = bar-is layout s state w zeros_or name size place store sound at ∙ e

  pub call-place : resize_bar s w place name (round_up size) ≡ None → OneOwner (regrown_at w place (units_for s.unit (round_up size))) →
      HavePlace s (regrown_at w place (units_for s.unit (round_up size))) (plans w place (resized_at w place (round_up size)))
  call-place e one = resize-place layout s state w zeros_or name size place store sound at (free-of e) one

  -- what stands before zeros are put
  module _ (free : resize_bar s w place name (round_up size) ≡ None) (x : SuperRead) (n : NewBytes) (p : IsPlanned s (regrown_at w place (units_for s.unit (round_up size))) (plans w place (resized_at w place (round_up size))) w x)
      (parts : x.parts.items ≡ w.parts.items) (r : AreResized w place (round_up size) n) where
    abbrev now : Owning
    now = regrown_at w place (units_for s.unit (round_up size))

    abbrev mine : ℕ
    mine = slice_index w.parts.items place

    one : OneOwner now
    one = subst OneOwner p.owners p.one

    wat : slice_get w.parts.items (position_or_len (at-name name) was.logical) ≡ Some mine
    wat = subst (λ (d : Dev). slice_get w.parts.items (position_or_len (at-name name) d.logical) ≡ Some mine) (sym same) (named layout s state w zeros_or name size place store sound at)

    wthere : list_any (at-name name) was.logical ≡ true
    wthere = subst (λ (d : Dev). list_any (at-name name) d.logical ≡ true) (sym same) at.there

    wlong : IsLong name n.from was.logical
    wlong = subst (λ (d : Dev). IsLong name n.from d.logical) (sym same) (len-is layout s state w zeros_or name size place store sound at n r)

    wroom : units_for s.unit (round_up size) ≤ length (units_of w.owners mine) + length (free_units w.owners)
    wroom = room layout s state w zeros_or name size place store sound at (free-of free)

    abbrev next : Content
    next = table_for s (apply (Resize name size) was) (map (units_of now) w.parts.items)

    grows : n.from < n.to → length (units_of w.owners mine) ≤ units_for s.unit (round_up size)
    grows some =
        let d = store-device layout s state (content w.table) w.owners w.parts.items zeros_or store in
        let four = d.bounded.unit in
        let f = (own-fit layout s state w zeros_or name size place store sound at n r).0 in
        let m = fewer-units s.unit n.from (round_up size) (omega (arith, four)) (omega (arith, some, r.to)) in
        omega (arith, f, m)

    placed : (u : Units) → AreUnitsAt (parts_end layout.physical) s now n.part n.to u → AreUnitsAt (parts_end layout.physical) s now mine (round_up size) u
    placed u a = subst (λ k. AreUnitsAt (parts_end layout.physical) s now mine k u) r.to (subst (λ k. AreUnitsAt (parts_end layout.physical) s now k n.to u) r.part a)

    fill : IsFillOf layout s state (content w.table) next now name n (apply (Resize name size) was) image
    fill = record {
      there = λ kept u a.
          resize-there layout s state (content w.table) w.owners now w.parts.items name mine size image image u store wat wthere refl one wroom kept (placed u a) n.from wlong;
      none = λ kept le. resize-none layout s state (content w.table) w.owners now w.parts.items name mine size refl one wroom image store wat n.from wlong (omega (arith, le, r.to));
      filled = λ kept some u a new puts.
          resize-fill layout s state (content w.table) w.owners now w.parts.items name mine size image new u store wat wthere refl one wroom kept (placed u a) n.from wlong
          (zeros (n.to - n.from)) (ap (λ k. zeros (k - n.from)) r.to) (omega (arith, some, r.to)) puts;
      stays = λ kept some u a new puts.
          resize-filled-stays layout s state (content w.table) w.owners now w.parts.items name mine size image new u store wat wthere refl one wroom kept (placed u a) n.from wlong
          (zeros (n.to - n.from)) (let z = zeros-long (n.to - n.from) in omega (arith, z, some, r.to)) (grows some) puts;
      left = λ kept some u a new puts.
          resize-left-stays layout s state (content w.table) w.owners now w.parts.items name mine size image new u store wat wthere refl one wroom kept (placed u a) n.from wlong
          (n.to - n.from) (omega (arith, some, r.to)) (grows some) puts;
    }

    pub call-next : IsNextOf layout s (apply (Resize name size) was) x
    call-next =
        subst (λ (d : Dev). IsNextOf layout s (apply (Resize name size) d) x) (sym same)
        (resize-next layout s state w zeros_or name size place store sound at (free-of free) one x p parts)

    pub call-held : AreHeld s x.owners n
    call-held = subst (λ q. AreHeld s q n) (sym p.owners) (resize-held layout s state w zeros_or name size place store sound at n r (free-of free) one)

    pub call-growing : IsGrowing told old layout s state w buffer name (apply (Resize name size) was) x n
    call-growing =
        let table : content x.next ≡ next = call-next.table ∙ (λ j. table_for s (apply (Resize name size) was) (map (units_of (p.owners j)) (parts j))) in
        record {
          part = part;
          stored = i;
          next = call-next;
          table = p.table;
          fill = subst (λ t. IsFillOf layout s state (content w.table) t x.owners name n (apply (Resize name size) was) image) (sym table)
              (subst (λ q. IsFillOf layout s state (content w.table) next q name n (apply (Resize name size) was) image) (sym p.owners) fill);
        }

    -- the units of each partition after it
    pub call-handed : (new : K) (y : SuperRead) → y.owners ≡ x.owners → y.parts ≡ x.parts →
        device_held layout state (Some (content y.table)) (open_bytes (told new)) ≡ seen (open_bytes (told new)) (apply (Resize name size) was) →
        IsRegrown name (round_up size) (held_by told old layout state (Some w) false) (held_by told new layout state (Some y) false)
    call-handed new y owners ps device =
        let unit : was.unit ≡ s.unit = ap (λ (d : Dev). d.unit) same ∙ (on-super layout s state (content w.table) w.owners w.parts.items zeros_or store).unit in
        held-regrown (held_by told old layout state (Some w) false) (held_by told new layout state (Some y) false) w.owners now name mine (round_up size)
        (record { before = refl; after = ap Some (owners ∙ p.owners); mapped = (i.whole refl).mapped })
        wat (inside layout s state w zeros_or name size place store sound at) (ap (λ u. regrown w.owners mine (units_for u (round_up size))) (sym unit))
        ((λ j. (ps j).items) ∙ parts)
        (ap (λ (d : Dev). map (λ p. p.name) d.logical) device
        ∙ (seen-names (open_bytes (told new)) (apply (Resize name size) was) ∙ resized-names name (round_up size) was.logical))

-- ---- where it stands

-- The partition was found, in a store that isn't broken.
pub record IsHere {K : Type 0} (told : K → DiskTold) (disk : K) (layout : LayoutValue) (s : SuperPart) (state : State) (w : SuperRead) (buffer name : List ℕ) (place : ℕ) : Type 0 where
  pub part : layout.super_part ≡ Some s
  pub here : position (λ p. bytes_eq p.name name) (content w.table).partitions ≡ Some place
  pub store : IsStored told (held_by told disk layout state (Some w) false) layout state (Some w) buffer

pub found-here : {K : Type 0} (told : K → DiskTold) (disk : K) (layout : LayoutValue) (state : State) (within : Option SuperRead) (w : SuperRead) (buffer : List ℕ) (broken : Bool) (s : SuperPart) (name text : List ℕ) (place : ℕ)
    (found : Option (SuperPart × ℕ)) → text ≡ name → IsFound layout.super_part (table_within within) text found → found ≡ Some (s, place) → within ≡ Some w → broken ≡ false →
    IsStored told (held_by told disk layout state within broken) layout state within buffer → IsHere told disk layout s state w buffer name place
found-here told disk layout state within w buffer broken s name text place found e f is there usable i =
    let own = subst (λ n. IsFound layout.super_part (table_within within) n found) e f in
    record {
      part = found-part layout.super_part (table_within within) name found s place own is;
      here = found-place layout.super_part (content w.table) name found s place (subst (λ v. IsFound layout.super_part (table_within v) name found) there own) is;
      store = opened-in told disk layout state within w buffer broken there usable i;
    }

-- what was answered by the refusals
pub no-bar : (result : Result NewBytes StoreError) (n : NewBytes) (bar : Option StoreError) → result ≡ Ok n → result_err result ≡ bar → bar ≡ None
no-bar result n bar is e = sym e ∙ ap result_err is

pub some-bar : (result : Result NewBytes StoreError) (refusal : StoreError) (bar : Option StoreError) → result ≡ Err refusal → result_err result ≡ bar → bar ≡ Some refusal
some-bar result refusal bar is e = sym e ∙ ap result_err is

pub flaw-decided : {K : Type 0} (T : Type 0) (told : K → DiskTold) (flaw : Option StoreError) (refusal : StoreError) (old new : Held K) → flaw ≡ Some refusal → Decided {T = T} told flaw old new (Err refusal)
flaw-decided T told flaw refusal old new e = subst (λ o. Decided {T = T} told o old new (Err refusal)) (sym e) refl

-- where there is no partition of the name
pub absent-flaw : (d : Dev) (name : List ℕ) (size : ℕ) → is_logical d name ≡ false → resize_flaw d name size ≡ Some NoPartition
absent-flaw d name size h = resize-tests d name size ∙ ap (λ b. if b then room_flaw d (resized name (round_up size) (sizes_of d.logical)) else Some NoPartition) h
