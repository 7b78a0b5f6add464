-- What a store comes to where the table of a file is installed, or refused.
use Rattle.std.proofs.Common.{◌≡◌, ◌∙◌, refl, ap, sym, subst, ℕ, zero, suc, ◌<◌, ◌≤◌, Bool, true, false, List, [], ◌∷◌, map, length, Option, Some, None, Result, Err, inl, inr, arith}
use Rattle.std.specs.Prelude.{not, ◌&&◌, ◌||◌, ◌==◌, ◌%◌, nat_lt, bytes_eq, is_some, option_map, option_to_list, IsTrue}
use Rattle.std.specs.List.{list_all, list_any}
use Rattle.std.proofs.lemmas.Bool.Decides.{nat_tests}
use Rattle.std.proofs.lemmas.Slice.Eq.{bytes_eq-Decides}
use Rattle.fb_frame.specs.NameText.{is_name}
use Rattle.fb_frame.specs.Distinct.{are_distinct}
use Rattle.fb_frame.specs.Versions.{are_attributes}
use Rattle.fb_frame.specs.declared.tables.Tables.{Tables}
use Rattle.dev_disk.specs.Disks.{DiskTold, open_bytes}
use Rattle.dev_model.specs.declared.device.Dev.{Dev}
use Rattle.dev_model.specs.Options.{first_passed}
use Rattle.dev_model.specs.Partitions.{is_physical, is_super}
use Rattle.dev_model.specs.Sizes.{sizes_of, groups_fit}
use Rattle.dev_model.specs.Tables.{is_group, kept, left_over, merged, is_bad_table, with_tables}
use Rattle.dev_model.specs.Validity.{IsValid, are_tables}
use Rattle.unit_alloc.specs.Owning.{OneOwner, units_of}
use Rattle.super_meta.specs.declared.geometry.Geometry.{Geometry}
use Rattle.super_meta.specs.declared.table.Partition.{Partition}
use Rattle.super_meta.specs.declared.table.Group.{Group}
use Rattle.super_meta.specs.Contents.{Content, content, are_named_apart, are_known}
use Rattle.super_meta.specs.Held.{group_name, listed, limited, tables_in, tables_of_image}
use Rattle.super_meta.proofs.NameLemmas.{both, bothly}
use Rattle.super_meta.proofs.HeldLemmas.{IsRead, image-read, table-read, all-there}
use Rattle.super_meta.proofs.GivenLemmas.{gives}
use Rattle.dev_store.specs.declared.layout.PhysicalPart.{PhysicalPart}
use Rattle.dev_store.specs.declared.layout.SuperPart.{SuperPart}
use Rattle.dev_store.specs.declared.state.State.{State}
use Rattle.dev_store.specs.declared.super_read.SuperRead.{SuperRead}
use Rattle.dev_store.specs.declared.table_install.Keeps.{Keeps}
use Rattle.dev_store.specs.declared.errors.StoreError.{StoreError}
use Rattle.dev_store.specs.declared.errors.StoreError.TheVariants.{BadTable, TooManyPartitions, NoGroup, GroupFull, Disk}
use Rattle.dev_store.specs.Layouts.{LayoutValue, parts_end}
use Rattle.dev_store.specs.Changes.{tables_flaw, install_flaw, installed}
use Rattle.dev_store.specs.Runs.{table_for}
use Rattle.dev_store.specs.Held.{Held, device_held, file_or_zeros}
use Rattle.dev_store.specs.Reading.{IsStored, IsSuperSound, held_by}
use Rattle.dev_store.specs.StoreCalls.{Decided, KeepsUsedUnits}
use Rattle.dev_store.specs.Building.{headed, built, is_short}
use Rattle.dev_store.specs.Installing.{merged_head, installed_plan, HasSpace}
use Rattle.dev_store.specs.SuperBounds.{IsMapOf}
use Rattle.dev_store.specs.TableChanges.{AreFitted, IsStoreSuper}
use Rattle.dev_store.specs.InstallTests.{is_other_super, install_tests}
use Rattle.dev_store.specs.InstallParts.{with_room, AreChosen, IsInstallPlanned, HasSpaceFor, IsTaken, IsRefused}
use Rattle.dev_store.proofs.ValidSuper.{good-units}
use Rattle.dev_store.proofs.UnitLemmas.{le-of}
use Rattle.dev_store.proofs.ChangeNamed.{by_name}
use Rattle.dev_store.proofs.ChangeStore.{device_in, store-valid, store-device, logical-names}
use Rattle.dev_store.proofs.ChangeAfter.{store-entries}
use Rattle.dev_store.proofs.ChangeResize.{IsWrittenFor}
use Rattle.dev_store.proofs.ChangeInstall.{kept_units}
use Rattle.dev_store.proofs.ChangeClauses.{held-used}
use Rattle.dev_store.proofs.BuildInstalled.{keeps_of}
use Rattle.dev_store.proofs.CallStores.{store-super, head-of, held-file, on-super}
use Rattle.dev_store.proofs.CallPut.{IsReady, IsPut, super-in, put-device}
use Rattle.dev_store.proofs.CallDelete.{all-short}
use Rattle.dev_store.proofs.InstallTests.{same-flaw}
use Rattle.dev_store.proofs.InstallAfter.{super-of, tables-valid, chosen-same, rest-many, install-written, install-on, install-space, install-table, install-given}

-- ---- a table that was read

-- a map of a map
names-kept : {X Y : Type 0} (f : X → Y) (name : Y → List ℕ) (own : X → List ℕ) → ((x : X) → name (f x) ≡ own x) → (xs : List X) → map name (map f xs) ≡ map own xs
names-kept f name own same [] = refl
names-kept f name own same (x ∷ xs) = ap (λ n. n ∷ map name (map f xs)) (same x) ∙ ap (λ t. own x ∷ t) (names-kept f name own same xs)

-- the group at a place is one of the groups
group-there : (groups : List Group) (place : ℕ) → place < length groups → is_group (map limited groups) (group_name groups place) ≡ true
group-there [] place h = absurd (omega arith)
group-there (g ∷ groups) zero h = ap (λ b. b || is_group (map limited groups) g.name) ((bytes_eq-Decides g.name g.name).1 refl)
group-there (g ∷ groups) (suc place) h = either (bytes_eq g.name (group_name groups place)) _ (group-there groups place (omega arith))
  where
    either : (a b : Bool) → b ≡ true → (a || b) ≡ true
    either true b e = refl
    either false b e = e

-- each partition is an entry that a step may bring
entries-are : (groups : List Group) (minor : ℕ) (partitions : List Partition) →
    list_all (λ p. is_name p.name) partitions ≡ true → list_all (λ p. nat_lt p.group (length groups)) partitions ≡ true → list_all (λ p. are_attributes minor p.attributes) partitions ≡ true →
    list_all (λ p. is_name p.name && is_group (map limited groups) p.group && are_attributes minor p.attributes) (map (listed groups) partitions) ≡ true
entries-are groups minor [] n g a = refl
entries-are groups minor (p ∷ partitions) n g a =
    let n1 = both (is_name p.name) _ n in
    let g1 = both (nat_lt p.group (length groups)) _ g in
    let a1 = both (are_attributes minor p.attributes) _ a in
    let there : p.group < length groups = low p.group (length groups) g1.0 in
    bothly _ _ (bothly _ _ (bothly _ _ n1.0 (group-there groups p.group there)) a1.0) (entries-are groups minor partitions n1.1 g1.1 a1.1)
  where
    low : (i k : ℕ) → nat_lt i k ≡ true → i < k
    low i k e = grind (arith, nat_tests)

groups-are : (groups : List Group) → list_all (λ g. is_name g.name) groups ≡ true → list_all (λ g. is_name g.name) (map limited groups) ≡ true
groups-are [] h = refl
groups-are (g ∷ groups) h = let p = both (is_name g.name) _ h in bothly _ _ p.0 (groups-are groups p.1)

pub apart-are : (c : Content) → are_named_apart c ≡ true → (are_distinct (map (λ p. p.name) c.partitions) ≡ true) × (are_distinct (map (λ g. g.name) c.groups) ≡ true)
unfolding are_named_apart
apart-are c h = both (are_distinct (map (λ p. p.name) c.partitions)) (are_distinct (map (λ g. g.name) c.groups)) h

known-are : (c : Content) → are_known c ≡ true → list_all (λ p. are_attributes c.minor p.attributes) c.partitions ≡ true
unfolding are_known
known-are c h = h

-- a table that was read makes tables that a step may bring
read-tables : (g : Geometry) (c : Content) → IsRead c → are_tables (tables_in g c) ≡ true
read-tables g c r =
    let apart = apart-are c r.apart in
    let partitions = ap are_distinct (names-kept (listed c.groups) (λ p. p.name) (λ p. p.name) (λ p. refl) c.partitions) ∙ apart.0 in
    let groups = ap are_distinct (names-kept limited (λ g. g.name) (λ g. g.name) (λ g. refl) c.groups) ∙ apart.1 in
    let entries = entries-are c.groups c.minor c.partitions r.partitions-named (all-there c r.indexed) (known-are c r.known) in
    bothly _ _ (bothly _ _ (bothly _ _ (bothly _ _ partitions groups) entries) (groups-are c.groups r.groups-named)) r.version

-- ---- a store without super

pub bad-without : (o : Option Tables) (wipe : Bool) (dev : Dev) → dev.super_name ≡ None → install_flaw o wipe dev ≡ Some BadTable
bad-without None wipe dev e = refl
bad-without (Some tables) wipe dev e =
    let d = tables.device in
    let front = not (tables.geometry.max_size == dev.geometry.max_size && tables.geometry.slots == dev.geometry.slots) || nat_lt 64 (length tables.groups)
    || list_any (λ p. is_physical dev p.name || is_super dev p.name) tables.partitions in
    let bad : is_bad_table tables dev ≡ true =
    ap (λ o. front || not (list_any (λ n. bytes_eq n d.name) (option_to_list o)) || not (d.size == dev.super_size) || d.alignment == 0 || not (dev.unit % d.alignment == 0) || not (d.offset == 0)) e
    ∙ or-true front (not (d.size == dev.super_size)) (d.alignment == 0) (not (dev.unit % d.alignment == 0)) (not (d.offset == 0)) in
    ap (λ b. first_passed
    ((b, BadTable)
    ∷ (nat_lt 128 (length (merged tables wipe dev)), TooManyPartitions)
    ∷ (list_any (λ p. not (is_group tables.groups p.group)) (left_over tables (kept dev wipe)), NoGroup)
    ∷ (not (groups_fit tables.groups (sizes_of (merged tables wipe dev))), GroupFull)
    ∷ [])) bad
  where
    or-true : (a e f g h : Bool) → (a || true || e || f || g || h) ≡ true
    or-true true e f g h = refl
    or-true false e f g h = refl

pub without-super : (layout : LayoutValue) (state : State) (table : Option Content) (image : Option (List ℕ)) → layout.super_part ≡ None → (device_held layout state table image).super_name ≡ None
unfolding device_held
without-super layout state table image e = ap (λ q. option_map (λ s. s.name) q) e

module _ {K : Type 0} (told : K → DiskTold) (old : K) (layout : LayoutValue) (s : SuperPart) (state : State) (w : SuperRead) (buffer file : List ℕ) (wipe : Bool) (part : layout.super_part ≡ Some s)
    (i : IsStored told (held_by told old layout state (Some w) false) layout state (Some w) buffer) (physical : List PhysicalPart) (alike : physical ≡ layout.physical) (k : Keeps)
    (are : k ≡ record { wipe = wipe; slots = layout.slots == 2; active = state.active }) where
  abbrev pub o : Option (List ℕ)
  o = open_bytes (told old)

  abbrev pub was : Dev
  was = device_held layout state (Some (content w.table)) o

  abbrev pub bytes : List ℕ
  bytes = file_or_zeros layout o

  sound : IsSuperSound layout.physical s w
  sound = super-in told old layout s state w buffer part i

  store : IsStoreSuper layout s state (content w.table) w.owners w.parts.items bytes
  store = store-super layout s state w o part i.kept sound

  same : was ≡ device_in layout state (content w.table) bytes
  same = held-file layout state (Some (content w.table)) o

  keeps-same : k ≡ keeps_of wipe (device_in layout state (content w.table) bytes)
  unfolding device_held
  keeps-same = are

  -- what reading the file asks for
  pub install-one : OneOwner w.owners
  install-one = store.one

  pub install-few : length (content w.table).partitions ≤ 128
  install-few = le-of (length (content w.table).partitions) 128 (good-units layout.physical s (content w.table) sound.good).partitions

  pub install-grouped : IsTrue (list_all (λ p. nat_lt p.group (length (content w.table).groups)) (content w.table).partitions)
  install-grouped = all-there (content w.table) (table-read w.copy.items (content w.table) (gives w.copy.items (content w.table) sound.spelled.copy)).indexed

  pub install-short : IsTrue (list_all (is_short (content w.table)) (content w.table).partitions)
  install-short = all-short layout s state w bytes store

  -- ---- refusals

  tests-same : (g : Geometry) (room : Content) → tables_flaw (tables_in g room) wipe was ≡ install_tests k (is_other_super physical s g room) room (content w.table)
  tests-same g room =
      ap (tables_flaw (tables_in g room) wipe) same
      ∙ (same-flaw layout.physical s wipe (device_in layout state (content w.table) bytes) g room (content w.table) _ (super-of layout s state w bytes wipe g room store)
      (store-entries layout s state (content w.table) w.owners w.parts.items bytes store)
      ∙ (λ j. install_tests (sym keeps-same j) (is_other_super (sym alike j) s g room) room (content w.table)))

  pub install-refused : (e : StoreError) → IsRefused physical s k (content w.table) file e → install_flaw (tables_of_image file) wipe was ≡ Some e
  install-refused e (inl (none, is)) = ap (λ t. install_flaw t wipe was) none ∙ ap Some (sym is)
  install-refused e (inr (g, (room, (tables, tests)))) = ap (λ t. install_flaw t wipe was) tables ∙ (tests-same g room ∙ tests)

  module _ (room : Content) (t : IsTaken physical s k (content w.table) file room) where
    abbrev pub tables : Tables
    tables = tables_in t.geometry room

    fine : tables_flaw tables wipe (device_in layout state (content w.table) bytes) ≡ None
    fine = sym (ap (tables_flaw tables wipe) same) ∙ (tests-same t.geometry room ∙ t.fine)

    pub install-fine : install_flaw (tables_of_image file) wipe was ≡ None
    install-fine = ap (λ t. install_flaw t wipe was) t.tables ∙ (tests-same t.geometry room ∙ t.fine)

    pub install-is : installed (tables_of_image file) wipe was ≡ with_tables tables wipe was
    install-is = ap (λ t. installed t wipe was) t.tables

    read : IsRead room
    read = image-read file t.geometry room t.image

    valid : IsValid (with_tables tables wipe (device_in layout state (content w.table) bytes))
    valid =
        tables-valid tables wipe (device_in layout state (content w.table) bytes) (read-tables t.geometry room read)
        (ap is_some (on-super layout s state (content w.table) w.owners w.parts.items bytes store).named) fine
        (store-valid layout s state (content w.table) w.owners w.parts.items bytes store)

    -- ---- what is planned

    pub install-has-space : HasSpaceFor s k (with_room w room)
    install-has-space q parts ch =
        subst (λ k. HasSpace s q (headed s (merged_head room (content w.table))) (installed_plan k room (content w.table) parts)) (sym keeps-same)
        (install-space layout s state (with_room w room) bytes wipe t.geometry room store q parts (subst (λ k. AreChosen k room (with_room w room) q parts) keeps-same ch) valid
        (all-there room read.indexed) (apart-are room read.apart).1)

    module _ (x : SuperRead) (p : IsInstallPlanned s k (with_room w room) x) where
      chosen : AreChosen (keeps_of wipe (device_in layout state (content w.table) bytes)) room (with_room w room) x.owners x.parts.items
      chosen = subst (λ k. AreChosen k room (with_room w room) x.owners x.parts.items) keeps-same p.chosen

      written : IsWrittenFor layout s state x.owners x.parts.items bytes (with_tables tables wipe (device_in layout state (content w.table) bytes))
      written = install-written layout s state (with_room w room) bytes wipe t.geometry room store x.owners x.parts.items chosen valid

      table : content x.next ≡ table_for s (with_tables tables wipe (device_in layout state (content w.table) bytes)) (map (units_of x.owners) x.parts.items)
      table =
          p.next
          ∙ (ap (λ k. built s x.owners (headed s (merged_head room (content w.table))) (installed_plan k room (content w.table) x.parts.items)) keeps-same
          ∙ install-table layout s state (with_room w room) bytes wipe t.geometry room store x.owners x.parts.items chosen valid
          (head-of layout s state (content w.table) bytes part).minor (all-there room read.indexed) (apart-are room read.apart).1)

      -- what stands before the table is written
      pub install-ready : IsReady told old layout s state w buffer (installed (tables_of_image file) wipe was) x
      install-ready =
          let d = device_in layout state (content w.table) bytes in
          subst (λ dev. IsReady told old layout s state w buffer dev x) (sym (install-is ∙ ap (with_tables tables wipe) same)) (record {
            part = part;
            stored = i;
            next = record {
              table = table;
              given = install-given layout s state (with_room w room) bytes wipe t.geometry room store x.owners x.parts.items chosen valid;
              super = install-on layout s state (with_room w room) bytes wipe t.geometry room store x.owners x.parts.items chosen valid;
              mapped = subst (λ c. IsMapOf s c x.owners x.parts.items) (sym table) written.mapped;
            };
            device = held-file layout state (Some (content x.next)) o ∙ (ap (λ c. device_held layout state (Some c) (Some bytes)) table ∙ written.device);
            table = p.table;
          })

      -- the units of the partitions after it
      pub install-used : (new : K) (at : ℕ) (y : SuperRead) → at ≡ parts_end layout.physical → IsPut told old new s at x y →
          KeepsUsedUnits (held_by told old layout state (Some w) false) (held_by told new layout state (Some y) false)
      install-used new at y e put =
          let d = device_in layout state (content w.table) bytes in
          let next = with_tables tables wipe d in
          let four = (store-device layout s state (content w.table) w.owners w.parts.items bytes store).bounded.unit in
          let is : device_held layout state (Some (content y.table)) (open_bytes (told new)) ≡ next =
          put-device told old new layout s at state w buffer (installed (tables_of_image file) wipe was) x y install-ready e put ∙ (install-is ∙ ap (with_tables tables wipe) same) in
          let many : length y.parts.items ≡ length next.logical =
          ap (λ l. length l.items) put.parts ∙ rest-many layout s state (with_room w room) bytes wipe t.geometry room store x.owners x.parts.items chosen valid in
          held-used (held_by told old layout state (Some w) false) (held_by told new layout state (Some y) false) w.owners x.owners s.unit (kept d wipe) (merged tables wipe d)
          (record { before = refl; after = ap Some put.owners; mapped = (i.whole refl).mapped }) (omega (arith, four))
          (subst (λ (q : Dev). are_distinct (map (λ p. p.name) q.logical) ≡ true) (sym is) (logical-names next valid))
          (many ∙ ap (λ (q : Dev). length q.logical) (sym is))
          (subst (λ (q : Dev). AreFitted s.unit q.logical (map (units_of x.owners) y.parts.items)) (sym is)
          (subst (λ l. AreFitted s.unit next.logical (map (units_of x.owners) l.items)) (sym put.parts) written.fitted))
          (ap (λ (q : Dev). map (λ p. p.name) q.logical) is)
          (ap (λ l. map (units_of x.owners) l.items) put.parts
          ∙ (chosen-same layout s state (with_room w room) bytes wipe t.geometry room store x.owners x.parts.items chosen valid
          ∙ ap (λ (q : Dev). map (λ p. kept_units (by_name w.owners w.parts.items q.logical) (kept d wipe) p.name) (merged tables wipe d)) (sym same)))

-- ---- the store as a call sees it

pub flaw-decided : {K : Type 0} (T : Type 0) (told : K → DiskTold) (flaw : Option StoreError) (old new : Held K) (e : StoreError) → flaw ≡ Some e → Decided {T = T} told flaw old new (Err e)
flaw-decided T told flaw old new e h = subst (λ o. Decided {T = T} told o old new (Err e)) (sym h) refl

-- no refusal is a fault of the disk
pub install-never : (o : Option Tables) (wipe : Bool) (dev : Dev) → install_flaw o wipe dev ≡ Some Disk → ⊥
install-never None wipe dev e = cc
install-never (Some tables) wipe dev e =
    by (is_bad_table tables dev) (nat_lt 128 (length (merged tables wipe dev))) (list_any (λ p. not (is_group tables.groups p.group)) (left_over tables (kept dev wipe)))
    (not (groups_fit tables.groups (sizes_of (merged tables wipe dev)))) e
  where
    by : (a b c d : Bool) → first_passed ((a, BadTable) ∷ (b, TooManyPartitions) ∷ (c, NoGroup) ∷ (d, GroupFull) ∷ []) ≡ Some Disk → ⊥
    by true b c d e = cc
    by false true c d e = cc
    by false false true d e = cc
    by false false false true e = cc
    by false false false false e = cc

pub refusal-is : (e f : StoreError) → (◌≡◌ {A = Result (Unit {0}) StoreError} (Err e) (Err f)) → e ≡ f
refusal-is e f h = cc
