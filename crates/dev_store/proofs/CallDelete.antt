-- A partition that is taken away: what is planned of it, and what the call says of the store.
use Rattle.std.proofs.Common.{◌≡◌, ◌∙◌, refl, ap, sym, subst, ℕ, ◌+◌, ◌<◌, ◌≤◌, true, false, List, [], ◌∷◌, ◌++◌, map, length, take, drop, Option, Some, None, Ok, Err}
use Rattle.std.specs.Prelude.{not, slice_get, slice_index, position, bytes_eq, IsTrue}
use Rattle.std.specs.List.{list_all, position_or_len}
use Rattle.fb_frame.specs.Distinct.{are_distinct}
use Rattle.fb_frame.specs.Causes.{Rose}
use Rattle.dev_disk.specs.Disks.{DiskTold, open_bytes}
use Rattle.dev_model.specs.declared.device.Dev.{Dev}
use Rattle.dev_model.specs.Options.{first_passed}
use Rattle.dev_model.specs.Partitions.{is_logical}
use Rattle.dev_model.specs.Steps.{deleted}
use Rattle.dev_model.proofs.ValidChanges.{deleted_valid}
use Rattle.super_meta.specs.Contents.{content}
use Rattle.super_meta.proofs.GivenLemmas.{gives}
use Rattle.dev_store.specs.declared.layout.SuperPart.{SuperPart}
use Rattle.dev_store.specs.declared.state.State.{State}
use Rattle.dev_store.specs.declared.super_read.SuperRead.{SuperRead}
use Rattle.dev_store.specs.declared.errors.StoreError.{StoreError}
use Rattle.dev_store.specs.declared.errors.StoreError.TheVariants.{NoPartition, Disk}
use Rattle.dev_store.specs.Layouts.{LayoutValue, parts_end}
use Rattle.dev_store.specs.Changes.{delete_flaw}
use Rattle.dev_store.specs.Held.{Held, device_held, file_or_zeros}
use Rattle.dev_store.specs.Reading.{IsStored, IsSuperSound, held_by}
use Rattle.dev_store.specs.StoreCalls.{Decided, IsReleased}
use Rattle.dev_store.specs.Building.{planned_for, planned_all, replaced, is_short, IsOnSuper}
use Rattle.dev_store.specs.TableChanges.{IsStoreSuper}
use Rattle.dev_store.specs.TableCalls.{plans, released_at, HavePlace, IsPlanned}
use Rattle.dev_store.proofs.ValidSuper.{good-units}
use Rattle.dev_store.proofs.UnitLemmas.{le-of}
use Rattle.dev_store.proofs.ChangeHeld.{IsHeadOf}
use Rattle.dev_store.proofs.ChangeNamed.{at-name}
use Rattle.dev_store.proofs.ChangeStore.{device_in, store-valid, store-many, store-device}
use Rattle.dev_store.proofs.ChangeAfter.{store-entries}
use Rattle.dev_store.proofs.ChangeResize.{IsWrittenFor}
use Rattle.dev_store.proofs.ChangeDelete.{delete-after, without}
use Rattle.dev_store.proofs.ChangeClauses.{held-released}
use Rattle.dev_store.proofs.BuildLaws.{own-planned, own-short}
use Rattle.dev_store.proofs.BuildNext.{deleted-plan}
use Rattle.dev_store.proofs.CallStores.{store-super, on-super, head-of, held-file, have-place, planned-next, next-device}
use Rattle.dev_store.proofs.CallFound.{IsFoundAt, found-at}
use Rattle.dev_store.proofs.CallPut.{IsReady, IsPut, super-in, put-device}

-- what is known of the partitions of a store's table
pub few-groups : (layout : LayoutValue) (s : SuperPart) (w : SuperRead) → IsSuperSound layout.physical s w → length (content w.table).groups ≤ 64
few-groups layout s w h = le-of (length (content w.table).groups) 64 (good-units layout.physical s (content w.table) h.good).groups

pub all-short : (layout : LayoutValue) (s : SuperPart) (state : State) (w : SuperRead) (file : List ℕ) → IsStoreSuper layout s state (content w.table) w.owners w.parts.items file →
    IsTrue (list_all (is_short (content w.table)) (content w.table).partitions)
all-short layout s state w file h =
    own-short s (content w.table) (device_in layout state (content w.table) file) _ (store-valid layout s state (content w.table) w.owners w.parts.items file h)
    (store-entries layout s state (content w.table) w.owners w.parts.items file h)

-- the partitions of a store's table as they are
pub own-plans : (layout : LayoutValue) (s : SuperPart) (state : State) (w : SuperRead) (file : List ℕ) → IsStoreSuper layout s state (content w.table) w.owners w.parts.items file → IsSuperSound layout.physical s w →
    planned_all (content w.table) (content w.table).partitions w.parts.items
    ≡ planned_for (device_in layout state (content w.table) file).groups (device_in layout state (content w.table) file).logical w.parts.items
own-plans layout s state w file h sound =
    own-planned s (content w.table) (device_in layout state (content w.table) file) _ w.copy.items w.parts.items (store-valid layout s state (content w.table) w.owners w.parts.items file h)
    (gives w.copy.items (content w.table) sound.spelled.copy) (head-of layout s state (content w.table) file h.part).groups
    (store-entries layout s state (content w.table) w.owners w.parts.items file h)

module _ (layout : LayoutValue) (s : SuperPart) (state : State) (w : SuperRead) (file name : List ℕ) (place : ℕ)
    (h : IsStoreSuper layout s state (content w.table) w.owners w.parts.items file) (sound : IsSuperSound layout.physical s w)
    (at : IsFoundAt w (device_in layout state (content w.table) file) name place) where
  abbrev pub dev : Dev
  dev = device_in layout state (content w.table) file

  pub delete-written : IsWrittenFor layout s state (released_at w place) (take place w.parts.items ++ drop (place + 1) w.parts.items) file (deleted name dev)
  delete-written =
      subst (λ i. IsWrittenFor layout s state (released_at w place) (without i w.parts.items) file (deleted name dev)) at.place
      (delete-after layout s state (content w.table) w.owners (released_at w place) w.parts.items file name (slice_index w.parts.items place) h at.there
      (ap (slice_get w.parts.items) at.place ∙ at.part) refl)

  pub delete-super : IsOnSuper layout.physical s (deleted name dev)
  delete-super =
      let o = on-super layout s state (content w.table) w.owners w.parts.items file h in
      record { valid = deleted_valid name dev o.valid; named = o.named; physical = o.physical; unit = o.unit; units = o.units }

  pub delete-head : IsHeadOf (content w.table) (deleted name dev)
  delete-head = let k = head-of layout s state (content w.table) file h.part in record { minor = k.minor; flags = k.flags; groups = k.groups }

  pub delete-plan : plans w place None ≡ planned_for (deleted name dev).groups (deleted name dev).logical (take place w.parts.items ++ drop (place + 1) w.parts.items)
  delete-plan =
      let valid = store-valid layout s state (content w.table) w.owners w.parts.items file h in
      ap (replaced place None) (own-plans layout s state w file h sound)
      ∙ subst (λ i. replaced i None (planned_for dev.groups dev.logical w.parts.items) ≡ planned_for dev.groups (deleted name dev).logical (without i w.parts.items)) at.place
      (deleted-plan dev name w.parts.items valid (store-many layout s state (content w.table) w.owners w.parts.items file h) at.there)

  pub delete-fits : HavePlace s (released_at w place) (plans w place None)
  delete-fits = have-place layout s state (released_at w place) (take place w.parts.items ++ drop (place + 1) w.parts.items) file (deleted name dev) (plans w place None) delete-written delete-super delete-plan

-- the refusal is decided
pub absent-decided : {K : Type 0} (T : Type 0) (told : K → DiskTold) (d : Dev) (name : List ℕ) (old new : Held K) → is_logical d name ≡ false → Decided {T = T} told (delete_flaw d name) old new (Err NoPartition)
absent-decided T told d name old new h =
    let e : delete_flaw d name ≡ Some NoPartition = ap (λ b. first_passed ((not b, NoPartition) ∷ [])) h in
    subst (λ o. Decided {T = T} told o old new (Err NoPartition)) (sym e) refl

pub there-flaw : (d : Dev) (name : List ℕ) → is_logical d name ≡ true → delete_flaw d name ≡ None
there-flaw d name h = ap (λ b. first_passed ((not b, NoPartition) ∷ [])) h

pub no-flaw-ok : {K T : Type 0} (told : K → DiskTold) (flaw : Option StoreError) (old new : Held K) (x : T) → flaw ≡ None → Decided told flaw old new (Ok x)
no-flaw-ok told flaw old new x e = subst (λ o. Decided told o old new (Ok x)) (sym e) tt

pub no-flaw-err : {K : Type 0} (T : Type 0) (told : K → DiskTold) (flaw : Option StoreError) (old new : Held K) → flaw ≡ None → Rose (told old.disk).faults (told new.disk).faults → Decided {T = T} told flaw old new (Err Disk)
no-flaw-err T told flaw old new e rose = subst (λ o. Decided {T = T} told o old new (Err Disk)) (sym e) (refl, rose)

module _ {K : Type 0} (told : K → DiskTold) (old : K) (layout : LayoutValue) (s : SuperPart) (state : State) (w : SuperRead) (buffer name : List ℕ) (place : ℕ) (part : layout.super_part ≡ Some s)
    (i : IsStored told (held_by told old layout state (Some w) false) layout state (Some w) buffer)
    (here : position (λ p. bytes_eq p.name name) (content w.table).partitions ≡ Some place) where
  abbrev pub o : Option (List ℕ)
  o = open_bytes (told old)

  abbrev pub was : Dev
  was = device_held layout state (Some (content w.table)) o

  sound : IsSuperSound layout.physical s w
  sound = super-in told old layout s state w buffer part i

  store : IsStoreSuper layout s state (content w.table) w.owners w.parts.items (file_or_zeros layout o)
  store = store-super layout s state w o part i.kept sound

  at : IsFoundAt w (device_in layout state (content w.table) (file_or_zeros layout o)) name place
  at = found-at layout s state w (file_or_zeros layout o) name place store here

  same : was ≡ device_in layout state (content w.table) (file_or_zeros layout o)
  same = held-file layout state (Some (content w.table)) o

  pub delete-there : is_logical was name ≡ true
  delete-there = ap (λ d. is_logical d name) same ∙ at.there

  pub delete-inside : place < length (content w.table).partitions
  delete-inside = at.inside

  pub delete-groups : length (content w.table).groups ≤ 64
  delete-groups = few-groups layout s w sound

  pub delete-short : IsTrue (list_all (is_short (content w.table)) (content w.table).partitions)
  delete-short = all-short layout s state w (file_or_zeros layout o) store

  pub delete-place : HavePlace s (released_at w place) (plans w place None)
  delete-place = delete-fits layout s state w (file_or_zeros layout o) name place store sound at

  -- what stands before the table is written
  pub delete-ready : (x : SuperRead) → IsPlanned s (released_at w place) (plans w place None) w x → x.parts.items ≡ take place w.parts.items ++ drop (place + 1) w.parts.items →
      IsReady told old layout s state w buffer (deleted name was) x
  delete-ready x p parts =
      let file = file_or_zeros layout o in
      let d = device_in layout state (content w.table) file in
      let rest = take place w.parts.items ++ drop (place + 1) w.parts.items in
      let written = delete-written layout s state w file name place store sound at in
      let head = delete-head layout s state w file name place store sound at in
      let plan = delete-plan layout s state w file name place store sound at in
      subst (λ (d : Dev). IsReady told old layout s state w buffer d x) (ap (deleted name) (sym same)) (record {
        part = part;
        stored = i;
        next = planned-next layout s state (released_at w place) rest file (deleted name d) (plans w place None) w x written (delete-super layout s state w file name place store sound at) head plan p parts;
        device = next-device layout s state (released_at w place) rest o (deleted name d) (plans w place None) w x written head plan p;
        table = p.table;
      })

  -- the units of the partitions after it
  pub delete-released : (new : K) (at-super : ℕ) (x y : SuperRead) → IsPlanned s (released_at w place) (plans w place None) w x → x.parts.items ≡ take place w.parts.items ++ drop (place + 1) w.parts.items →
      at-super ≡ parts_end layout.physical → IsPut told old new s at-super x y →
      IsReleased name (held_by told old layout state (Some w) false) (held_by told new layout state (Some y) false)
  delete-released new at-super x y p parts e put =
      let r = delete-ready x p parts in
      let file = file_or_zeros layout o in
      let names = (store-device layout s state (content w.table) w.owners w.parts.items file store).units.names in
      let place-is : position_or_len (at-name name) was.logical ≡ place = ap (λ (d : Dev). position_or_len (at-name name) d.logical) same ∙ at.place in
      held-released (held_by told old layout state (Some w) false) (held_by told new layout state (Some y) false) w.owners (released_at w place) name (slice_index w.parts.items place)
      (record { before = refl; after = ap Some (put.owners ∙ p.owners); mapped = (i.whole refl).mapped })
      (subst (λ (d : Dev). are_distinct (map (λ p. p.name) d.logical) ≡ true) (sym same) names) delete-there
      (ap (slice_get w.parts.items) place-is ∙ at.part) refl
      ((λ j. (put.parts j).items) ∙ (parts ∙ ap (λ k. without k w.parts.items) (sym place-is)))
      (ap (λ (d : Dev). map (λ p. p.name) d.logical) (put-device told old new layout s at-super state w buffer (deleted name was) x y r e put))
