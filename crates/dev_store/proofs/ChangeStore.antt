-- What a store's super says of each logical partition: its units, its bytes, its group.
use Rattle.std.proofs.Common.{◌≡◌, ◌∙◌, refl, ap, sym, subst, ℕ, ◌+◌, ◌<◌, ◌≤◌, true, List, [], ◌∷◌, map, length, arith, Option, Some}
use Rattle.std.specs.Prelude.{◌++◌, IsTrue, option_to_list}
use Rattle.std.specs.Result.{result_ok}
use Rattle.std.specs.List.{list_all, AllByRecursion}
use Rattle.std.proofs.lemmas.List.{length-map}
use Rattle.fb_frame.specs.Distinct.{are_distinct}
use Rattle.fb_frame.specs.declared.tables.TableGroup.{TableGroup}
use Rattle.dev_model.specs.declared.device.Dev.{Dev}
use Rattle.dev_model.specs.declared.device.Logical.{Logical}
use Rattle.dev_model.specs.Tables.{is_group}
use Rattle.fb_frame.specs.NameText.{is_name}
use Rattle.dev_model.specs.Validity.{IsValid, is_entry, all_names}
use Rattle.dev_model.proofs.Names.{distinct-left, distinct-right}
use Rattle.dev_model.proofs.Valid.{both, and-true}
use Rattle.unit_alloc.specs.Owning.{Owning, OneOwner, times, times_in}
use Rattle.unit_alloc.specs.Owning as owning
use Rattle.super_meta.specs.Contents.{Content}
use Rattle.super_meta.specs.TableText.{table_of}
use Rattle.dev_store.specs.declared.layout.SuperPart.{SuperPart}
use Rattle.dev_store.specs.declared.state.State.{State}
use Rattle.dev_store.specs.Laid.{is_good_super}
use Rattle.dev_store.specs.Layouts.{LayoutValue, image_size, parts_end, super_size}
use Rattle.dev_store.specs.Supers.{are_good_units, units_of, logical_at}
use Rattle.dev_store.specs.SuperBounds.{IsBounded}
use Rattle.dev_store.specs.Stand.{super_bytes, super_value, physical_at, device_with}
use Rattle.dev_store.specs.Held.{device_held, super_by, IsTabled}
use Rattle.dev_store.proofs.UnitLemmas.{bounded}
use Rattle.dev_store.proofs.ValidStands.{super_makes_valid}
use Rattle.dev_store.proofs.ValidSuper.{AreUnits, good-units}
use Rattle.dev_store.proofs.ChangeHeld.{IsDeviceOf}
use Rattle.dev_store.proofs.ChangeNamed.{by_name, by-names, lie-each, fit-each, entries-fit, entries-lie}
use Rattle.dev_store.proofs.ChangeBytes.{super-long}
use Rattle.dev_store.specs.TableChanges.{IsFitted, AreFitted, LiesIn, LieIn, IsStoreSuper}

-- the device of a store with super
abbrev pub device_in : LayoutValue → State → Content → List ℕ → Dev
device_in layout state c file = device_held layout state (Some c) (Some file)

-- What is so of each partition of a device, by the units of its name.
pub record HasUnits (layout : LayoutValue) (s : SuperPart) (file : List ℕ) (f : List ℕ → List ℕ) (dev : Dev) : Type 0 where
  pub names : are_distinct (map (λ p. p.name) dev.logical) ≡ true
  pub lies : AllByRecursion (λ p. LiesIn s (super_bytes layout s file) p (f p.name)) dev.logical
  pub fits : AllByRecursion (λ p. IsFitted s.unit p (f p.name)) dev.logical
  pub groups : list_all (λ p. is_group dev.groups p.group) dev.logical ≡ true

-- and what is so of the whole
pub record IsStoreDevice (layout : LayoutValue) (s : SuperPart) (state : State) (file : List ℕ) (f : List ℕ → List ℕ) (dev : Dev) : Type 0 where
  pub valid : IsValid dev
  pub same : IsDeviceOf layout state file dev
  pub bounded : IsBounded s
  pub long : length (super_bytes layout s file) ≡ s.size
  pub units : HasUnits layout s file f dev

-- the table of a super is one of it
tabled-in : (layout : LayoutValue) (part : Option SuperPart) (s : SuperPart) (c : Content) → part ≡ Some s → IsTabled layout part (Some c) →
    IsTrue (are_good_units layout.physical s c) × ((bytes : List ℕ) × (result_ok (table_of bytes) ≡ Some c))
tabled-in layout part s c e t = subst (λ q. IsTabled layout q (Some c)) e t

pub logical-names : (dev : Dev) → IsValid dev → are_distinct (map (λ p. p.name) dev.logical) ≡ true
logical-names dev v =
    distinct-right (map (λ p. p.name) dev.physical) (map (λ p. p.name) dev.logical)
    (distinct-left (map (λ p. p.name) dev.physical ++ map (λ p. p.name) dev.logical) (option_to_list dev.super_name) (both (list_all is_name (all_names dev)) (are_distinct (all_names dev)) v.names).1)

pub groups-known : (minor : ℕ) (groups : List TableGroup) (ps : List Logical) → list_all (is_entry minor groups) ps ≡ true → list_all (λ p. is_group groups p.group) ps ≡ true
groups-known minor groups [] h = refl
groups-known minor groups (p ∷ ps) h =
    let b = both (is_entry minor groups p) (list_all (is_entry minor groups) ps) h in
    and-true (is_group groups p.group) _ (both _ _ (both _ _ b.0).0).0 (groups-known minor groups ps b.1)

-- what holds of all partitions list by list holds of each by its name
lists-named : (s : SuperPart) (o : Owning) (parts : List ℕ) (ps : List Logical) (lists : List (List ℕ)) → length parts ≡ length ps → are_distinct (map (λ p. p.name) ps) ≡ true →
    map (owning.units_of o) parts ≡ lists → lists ≡ map (λ p. by_name o parts ps p.name) ps
lists-named s o parts ps lists many d e = sym (by-names o parts ps many d ∙ e)

pub held-is : (layout : LayoutValue) (s : SuperPart) (state : State) (c : Content) (file : List ℕ) → layout.super_part ≡ Some s →
    device_in layout state c file ≡ device_with layout state (physical_at 12288 layout.physical file) (super_value s c (super_bytes layout s file))
unfolding device_held
held-is layout s state c file part = ap (λ q. device_with layout state (physical_at 12288 layout.physical file) (super_by layout q (Some c) file)) part

pub held-value : (layout : LayoutValue) (s : SuperPart) (state : State) (c : Content) (file : List ℕ) → IsDeviceOf layout state file (device_in layout state c file)
unfolding device_held
held-value layout s state c file = refl

pub held-logical : (layout : LayoutValue) (s : SuperPart) (state : State) (c : Content) (file : List ℕ) → layout.super_part ≡ Some s →
    (device_in layout state c file).logical ≡ map (logical_at s c (super_bytes layout s file)) c.partitions
held-logical layout s state c file part = ap (λ (d : Dev). d.logical) (held-is layout s state c file part)

pub file-long : (layout : LayoutValue) (s : SuperPart) (file : List ℕ) → layout.super_part ≡ Some s → length file ≡ image_size layout → parts_end layout.physical + s.size ≤ length file
file-long layout s file part long = let z = ap super_size part in omega arith

pub store-valid : (layout : LayoutValue) (s : SuperPart) (state : State) (c : Content) (o : Owning) (parts file : List ℕ) → IsStoreSuper layout s state c o parts file → IsValid (device_in layout state c file)
store-valid layout s state c o parts file h =
    let t = tabled-in layout layout.super_part s c h.part h.kept.tabled in
    subst IsValid (sym (held-is layout s state c file h.part))
    (super_makes_valid layout s state c file t.1.0 h.kept.laid h.part h.kept.long t.1.1 t.0 h.kept.stated)

pub store-units : (layout : LayoutValue) (s : SuperPart) (state : State) (c : Content) (o : Owning) (parts file : List ℕ) → IsStoreSuper layout s state c o parts file → AreUnits layout.physical s c
store-units layout s state c o parts file h = good-units layout.physical s c (tabled-in layout layout.super_part s c h.part h.kept.tabled).0

pub store-bounded : (layout : LayoutValue) (s : SuperPart) (state : State) (c : Content) (o : Owning) (parts file : List ℕ) → IsStoreSuper layout s state c o parts file → IsBounded s
store-bounded layout s state c o parts file h = bounded s (subst (λ q. IsTrue (is_good_super q)) h.part h.kept.laid.super)

-- each partition has a part
pub store-many : (layout : LayoutValue) (s : SuperPart) (state : State) (c : Content) (o : Owning) (parts file : List ℕ) → IsStoreSuper layout s state c o parts file →
    length parts ≡ length (device_in layout state c file).logical
store-many layout s state c o parts file h =
    let logical = held-logical layout s state c file h.part in
    sym (length-map parts (owning.units_of o))
    ∙ (ap length h.mapped.lists ∙ (length-map c.partitions (units_of s c) ∙ (sym (length-map c.partitions (logical_at s c (super_bytes layout s file))) ∙ sym (ap length logical))))

-- the table's units are those of the map by the partitions' names
pub store-lists : (layout : LayoutValue) (s : SuperPart) (state : State) (c : Content) (o : Owning) (parts file : List ℕ) → IsStoreSuper layout s state c o parts file →
    map (units_of s c) c.partitions ≡ map (λ p. by_name o parts (device_in layout state c file).logical p.name) (device_in layout state c file).logical
store-lists layout s state c o parts file h =
    let dev = device_in layout state c file in
    lists-named s o parts dev.logical (map (units_of s c) c.partitions) (store-many layout s state c o parts file h) (logical-names dev (store-valid layout s state c o parts file h)) h.mapped.lists

-- a store's device has all of this
pub store-device : (layout : LayoutValue) (s : SuperPart) (state : State) (c : Content) (o : Owning) (parts file : List ℕ) → IsStoreSuper layout s state c o parts file →
    IsStoreDevice layout s state file (by_name o parts (device_in layout state c file).logical) (device_in layout state c file)
store-device layout s state c o parts file h =
    let dev = device_in layout state c file in
    let super = super_bytes layout s file in
    let b = store-bounded layout s state c o parts file h in
    let u = store-units layout s state c o parts file h in
    let long = super-long layout s file (file-long layout s file h.part h.kept.long) in
    let four = b.unit in
    let pos : 0 < s.unit = omega arith in
    let valid = store-valid layout s state c o parts file h in
    let logical = held-logical layout s state c file h.part in
    let f = by_name o parts dev.logical in
    let lists = store-lists layout s state c o parts file h in
    record {
      valid = valid;
      same = held-value layout s state c file;
      bounded = b;
      long = long;
      units = record {
        names = logical-names dev valid;
        lies = lie-each s super f dev.logical (subst (λ ps. LieIn s super ps (map (λ p. f p.name) dev.logical)) (sym logical)
            (subst (λ ls. LieIn s super (map (logical_at s c super) c.partitions) ls) lists (entries-lie s c super c.partitions long pos u.placed)));
        fits = fit-each s.unit f dev.logical (subst (λ ps. AreFitted s.unit ps (map (λ p. f p.name) dev.logical)) (sym logical)
            (subst (λ ls. AreFitted s.unit (map (logical_at s c super) c.partitions) ls) lists (entries-fit s c super c.partitions long pos u.placed u.whole)));
        groups = groups-known dev.table_minor dev.groups dev.logical (both _ _ valid.logical).1;
      };
    }
