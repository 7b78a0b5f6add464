-- Why a store refuses a new partition, by what it keeps of its image; and the device that has it.
use Rattle.std.proofs.Common.{◌≡◌, ◌∙◌, refl, ap, sym, subst, ℕ, ◌<◌, Bool, true, false, arith, List, [], ◌∷◌, ◌++◌, map, length, Option, Some, None, Result, Ok, Err, codes, option_map}
use Rattle.std.specs.Prelude.{not, ◌||◌, nat_le, is_some, bytes_eq, if◌then◌else◌}
use Rattle.std.specs.List.{list_any}
use Rattle.std.proofs.lemmas.Bool.Decides.{nat_tests}
use Rattle.std.proofs.lemmas.List.{length-map}
use Rattle.fb_frame.specs.NameText.{IsName}
use Rattle.dev_model.specs.declared.device.Dev.{Dev}
use Rattle.dev_model.specs.declared.device.Mode.{Mode}
use Rattle.dev_model.specs.declared.device.Mode.TheVariants.{Userspace}
use Rattle.dev_model.specs.Images.{round_up}
use Rattle.dev_model.specs.Options.{first_passed}
use Rattle.dev_model.specs.Partitions.{is_partition, is_super}
use Rattle.dev_model.specs.Refusals.{created_size}
use Rattle.dev_model.specs.Sizes.{sizes_of, units_for, groups_fit}
use Rattle.dev_model.specs.Steps.{created}
use Rattle.dev_model.specs.Tables.{is_group}
use Rattle.dev_model.specs.Validity.{IsValid, super_is_good, is_without_super}
use Rattle.dev_model.proofs.Valid.{either-same}
use Rattle.dev_model.proofs.ValidChanges.{created_valid}
use Rattle.unit_alloc.specs.Owning.{free_units}
use Rattle.super_meta.specs.declared.table.Group.{Group}
use Rattle.super_meta.specs.Contents.{content}
use Rattle.super_meta.specs.Held.{limited}
use Rattle.dev_store.specs.declared.layout.SuperPart.{SuperPart}
use Rattle.dev_store.specs.declared.state.State.{State}
use Rattle.dev_store.specs.declared.super_read.SuperRead.{SuperRead}
use Rattle.dev_store.specs.declared.errors.StoreError.{StoreError}
use Rattle.dev_store.specs.declared.errors.StoreError.TheVariants.{NoSpace, GroupFull, NameTaken, TooManyPartitions, NoGroup, Disk}
use Rattle.dev_store.specs.Layouts.{LayoutValue}
use Rattle.dev_store.specs.Changes.{room_flaw, create_flaw, error_text}
use Rattle.dev_store.specs.Creating.{new_flaw, super_flaw}
use Rattle.dev_store.specs.Held.{device_held, super_by, file_or_zeros, IsKept}
use Rattle.dev_store.specs.Reading.{IsWithinSound, table_within}
use Rattle.dev_store.specs.Stand.{super_bytes}
use Rattle.dev_store.specs.Supers.{size_in, logical_at}
use Rattle.dev_store.specs.TableChanges.{IsStoreSuper}
use Rattle.dev_store.proofs.BuildSound.{entries-sizes}
use Rattle.dev_store.proofs.ChangeAfter.{store-entries}
use Rattle.dev_store.proofs.ChangeFlaws.{room-tests, create-tests}
use Rattle.dev_store.proofs.ChangeRoom.{create-fits}
use Rattle.dev_store.proofs.ChangeStore.{device_in, held-logical}
use Rattle.dev_store.proofs.CallStores.{store-super, held-file, head-of}
use Rattle.dev_store.proofs.RefusalLemmas.{create_refuses}

-- the tests of a table in turn
new-tests : (many group units groups : Bool) → first_passed ((many, TooManyPartitions) ∷ (not group, NoGroup) ∷ (not units, NoSpace) ∷ (not groups, GroupFull) ∷ [])
    ≡ (if many then Some TooManyPartitions else (if group then (if units then (if groups then None else Some GroupFull) else Some NoSpace) else Some NoGroup))
new-tests true group units groups = refl
new-tests false false units groups = refl
new-tests false true false groups = refl
new-tests false true true false = refl
new-tests false true true true = refl

-- What is so of a table that has room.
pub record HasPlace (many group : Bool) : Type 0 where
  pub few : many ≡ false
  pub grouped : group ≡ true

pub has-place : (many group units groups : Bool) → first_passed ((many, TooManyPartitions) ∷ (not group, NoGroup) ∷ (not units, NoSpace) ∷ (not groups, GroupFull) ∷ []) ≡ None → HasPlace many group
has-place true group units groups h = absurd cc
has-place false true units groups h = record { few = refl; grouped = refl }
has-place false false units groups h = absurd cc

-- why a device has no room for a new partition, after its name
abbrev pub later_flaw : Dev → List ℕ → ℕ → Option StoreError
later_flaw dev name size =
    if nat_le 128 (length dev.logical) then Some TooManyPartitions
    else (if is_group dev.groups (codes "default") then room_flaw dev (sizes_of dev.logical ++ created_size name size ∷ []) else Some NoGroup)

-- a table tells it of its device
table-flaw : (layout : LayoutValue) (s : SuperPart) (state : State) (w : SuperRead) (file name : List ℕ) (size : ℕ) → IsStoreSuper layout s state (content w.table) w.owners w.parts.items file →
    later_flaw (device_in layout state (content w.table) file) name size ≡ new_flaw s w name size
table-flaw layout s state w file name size h =
    let c = content w.table in
    let dev = device_in layout state c file in
    let logical = held-logical layout s state c file h.part in
    let long : length dev.logical ≡ length c.partitions = ap length logical ∙ length-map c.partitions (logical_at s c (super_bytes layout s file)) in
    let groups : dev.groups ≡ map limited c.groups = sym (head-of layout s state c file h.part).groups in
    let sizes : sizes_of dev.logical ≡ map (size_in c) c.partitions = sym (entries-sizes s c c.partitions dev.logical _ (store-entries layout s state c w.owners w.parts.items file h)) in
    let fits = create-fits layout s state c w.owners w.parts.items file name size h in
    ap (λ r. if nat_le 128 (length dev.logical) then Some TooManyPartitions else (if is_group dev.groups (codes "default") then r else Some NoGroup))
    (room-tests dev (sizes_of dev.logical ++ created_size name size ∷ []))
    ∙ ((λ i. if nat_le 128 (long i) then Some TooManyPartitions
    else (if is_group (groups i) (codes "default")
    then (if fits i then (if groups_fit (groups i) (sizes i ++ created_size name size ∷ []) then None else Some GroupFull) else Some NoSpace)
    else Some NoGroup))
    ∙ sym (new-tests (nat_le 128 (length c.partitions)) (is_group (map limited c.groups) (codes "default")) (nat_le (units_for s.unit (round_up size)) (length (free_units w.owners)))
    (groups_fit (map limited c.groups) (map (size_in c) c.partitions ++ created_size name size ∷ []))))

-- without super there is no group
without-flaw : (layout : LayoutValue) (state : State) (image : Option (List ℕ)) (name : List ℕ) (size : ℕ) → layout.super_part ≡ None → later_flaw (device_held layout state None image) name size ≡ Some NoGroup
unfolding device_held
without-flaw layout state image name size e =
    let dev = device_held layout state None image in
    let room = room_flaw dev (sizes_of dev.logical ++ created_size name size ∷ []) in
    λ i. if nat_le 128 (length (super_by layout (e i) None (file_or_zeros layout image)).logical) then Some TooManyPartitions
    else (if is_group (super_by layout (e i) None (file_or_zeros layout image)).groups (codes "default") then room else Some NoGroup)

kept-flaw : (layout : LayoutValue) (part : Option SuperPart) (state : State) (within : Option SuperRead) (image : Option (List ℕ)) (name : List ℕ) (size : ℕ) → layout.super_part ≡ part →
    IsKept layout state (table_within within) image → IsWithinSound layout part within → later_flaw (device_held layout state (table_within within) image) name size ≡ super_flaw part within name size
kept-flaw layout None state None image name size e k w = without-flaw layout state image name size e
kept-flaw layout None state (Some r) image name size e k w = absurd w
kept-flaw layout (Some s) state None image name size e k w = absurd w
kept-flaw layout (Some s) state (Some r) image name size e k w =
    ap (λ d. later_flaw d name size) (held-file layout state (Some (content r.table)) image)
    ∙ table-flaw layout s state r (file_or_zeros layout image) name size (store-super layout s state r image e k w)

-- the refusal of a store's device
pub create-decides : (layout : LayoutValue) (state : State) (within : Option SuperRead) (image : Option (List ℕ)) (name : List ℕ) (size : ℕ) → IsKept layout state (table_within within) image →
    IsWithinSound layout layout.super_part within → create_flaw (device_held layout state (table_within within) image) name size
    ≡ (if is_partition (device_held layout state (table_within within) image) name || is_super (device_held layout state (table_within within) image) name then Some NameTaken
    else super_flaw layout.super_part within name size)
create-decides layout state within image name size k w =
    let d = device_held layout state (table_within within) image in
    create-tests d name size ∙ ap (λ r. if is_partition d name || is_super d name then Some NameTaken else r) (kept-flaw layout layout.super_part state within image name size refl k w)

-- and where its name isn't taken
pub refused-flaw : (layout : LayoutValue) (state : State) (within : Option SuperRead) (image : Option (List ℕ)) (name : List ℕ) (size : ℕ) (e : StoreError) → IsKept layout state (table_within within) image →
    IsWithinSound layout layout.super_part within →
    (is_partition (device_held layout state (table_within within) image) name || is_super (device_held layout state (table_within within) image) name) ≡ false →
    super_flaw layout.super_part within name size ≡ Some e → create_flaw (device_held layout state (table_within within) image) name size ≡ Some e
refused-flaw layout state within image name size e k w free h =
    create-decides layout state within image name size k w ∙ (ap (λ b. if b then Some NameTaken else super_flaw layout.super_part within name size) free ∙ h)

-- ---- the device with the new partition

-- whether a device is locked, and its mode, count for nothing
other-valid : (mode : Mode) (locked : Bool) (dev : Dev) → IsValid dev → IsValid (record dev { mode = mode; locked = locked })
other-valid mode locked dev v = record {
  names = v.names;
  labels = v.labels;
  variables = v.variables;
  variable_names = v.variable_names;
  slots = v.slots;
  download = v.download;
  physical = v.physical;
  groups = v.groups;
  logical = v.logical;
  version = v.version;
  units_fit = v.units_fit;
  groups_fit = v.groups_fit;
  super = either-same (is_some dev.super_name) super_is_good is_without_super (record dev { mode = mode; locked = locked }) dev refl refl ∙ v.super;
}

pub created-valid : (dev : Dev) (name : List ℕ) (size : ℕ) → IsName name → IsValid dev → create_flaw dev name size ≡ None → IsValid (created name size dev)
created-valid dev name size n v h =
    let unlocked : Dev = record dev { mode = Userspace; locked = false } in
    let refuses = create_refuses unlocked name size refl refl ∙ ap (option_map error_text) h in
    other-valid dev.mode dev.locked (created name size unlocked) (created_valid name size unlocked n (other-valid Userspace false dev v) refuses)

-- ---- the tests of a table in code

pub few-of : (a b : ℕ) → a ≡ b → a < 128 → nat_le 128 b ≡ false
few-of a b e h = grind (arith, nat_tests)

pub full-flaw : (many group units groups : Bool) → many ≡ false → group ≡ true → units ≡ true → groups ≡ false →
    first_passed ((many, TooManyPartitions) ∷ (not group, NoGroup) ∷ (not units, NoSpace) ∷ (not groups, GroupFull) ∷ []) ≡ Some GroupFull
full-flaw many group units groups e f g h = rw (e, f, g, h) refl

pub group-flaw : (many group units groups : Bool) → many ≡ false → group ≡ false →
    first_passed ((many, TooManyPartitions) ∷ (not group, NoGroup) ∷ (not units, NoSpace) ∷ (not groups, GroupFull) ∷ []) ≡ Some NoGroup
group-flaw many group units groups e f = rw (e, f) refl

pub space-flaw : (many group units groups : Bool) → many ≡ false → group ≡ true → units ≡ false →
    first_passed ((many, TooManyPartitions) ∷ (not group, NoGroup) ∷ (not units, NoSpace) ∷ (not groups, GroupFull) ∷ []) ≡ Some NoSpace
space-flaw many group units groups e f g = rw (e, f, g) refl

pub no-flaw : (many group units groups : Bool) → many ≡ false → group ≡ true → units ≡ true → groups ≡ true →
    first_passed ((many, TooManyPartitions) ∷ (not group, NoGroup) ∷ (not units, NoSpace) ∷ (not groups, GroupFull) ∷ []) ≡ None
no-flaw many group units groups e f g h = rw (e, f, g, h) refl

-- What is so of units that are free.
pub record AreFree (fits : Bool) (bytes : ℕ) (long : ℕ) : Type 0 where
  pub fits_is : fits ≡ true
  pub bytes_is : bytes ≡ long

some-is : (p q : ℕ × ℕ) → Some p ≡ Some q → q ≡ p
some-is p q h = sym (ap (value p) h)
  where
    value : ℕ × ℕ → Option (ℕ × ℕ) → ℕ × ℕ
    value z None = z
    value z (Some x) = x

none-some : (p : ℕ × ℕ) → (◌≡◌ {A = Option (ℕ × ℕ)} None (Some p)) → ⊥
none-some p h = cc

pub are-free : (fits : Bool) (bytes units long count : ℕ) (o : Option (ℕ × ℕ)) → o ≡ (if fits then Some (long, count) else None) → o ≡ Some (bytes, units) → AreFree fits bytes long
are-free true bytes units long count o e f = record { fits_is = refl; bytes_is = ap (λ (x : ℕ × ℕ). x.0) (some-is (long, count) (bytes, units) (sym e ∙ f)) }
are-free false bytes units long count o e f = absurd (none-some (bytes, units) (sym e ∙ f))

pub not-free : (fits : Bool) (long count : ℕ) (o : Option (ℕ × ℕ)) → o ≡ (if fits then Some (long, count) else None) → o ≡ None → fits ≡ false
not-free true long count o e f = absurd (none-some (long, count) (sym f ∙ e))
not-free false long count o e f = refl

-- the error of a result
pub err-is : {T : Type 0} (x y : StoreError) → (◌≡◌ {A = Result T StoreError} (Err x) (Err y)) → x ≡ y
err-is {T} x y h = ap (error x) h
  where
    error : StoreError → Result T StoreError → StoreError
    error z (Ok t) = z
    error z (Err e) = e

-- a group of the name is one of those with limits
pub any-limited : (name : List ℕ) (groups : List Group) → list_any (λ g. bytes_eq g.name name) groups ≡ is_group (map limited groups) name
any-limited name [] = refl
any-limited name (g ∷ groups) = ap (λ b. bytes_eq g.name name || b) (any-limited name groups)

-- ---- super, where there is one

pub within-flaw : (part : Option SuperPart) (within : Option SuperRead) (s : SuperPart) (r : SuperRead) (name : List ℕ) (size : ℕ) (o : Option StoreError) → Some s ≡ part → within ≡ Some r →
    new_flaw s r name size ≡ o → super_flaw part within name size ≡ o
within-flaw part within s r name size o e f h = subst (λ q. super_flaw q within name size ≡ o) e (subst (λ v. super_flaw (Some s) v name size ≡ o) (sym f) h)

-- a table's refusal is none of the disk's
never-disk : (many group units groups : Bool) → (if many then Some TooManyPartitions else (if group then (if units then (if groups then None else Some GroupFull) else Some NoSpace) else Some NoGroup)) ≡ Some Disk → ⊥
never-disk true group units groups h = cc
never-disk false true true true h = cc
never-disk false true true false h = cc
never-disk false true false groups h = cc
never-disk false false units groups h = cc

pub not-disk : (part : Option SuperPart) (within : Option SuperRead) (name : List ℕ) (size : ℕ) → super_flaw part within name size ≡ Some Disk → ⊥
not-disk None None name size h = cc
not-disk None (Some r) name size h = cc
not-disk (Some s) None name size h = cc
not-disk (Some s) (Some r) name size h =
    let c = content r.table in
    let many = nat_le 128 (length c.partitions) in
    let group = is_group (map limited c.groups) (codes "default") in
    let units = nat_le (units_for s.unit (round_up size)) (length (free_units r.owners)) in
    let groups = groups_fit (map limited c.groups) (map (size_in c) c.partitions ++ created_size name size ∷ []) in
    never-disk many group units groups (sym (new-tests many group units groups) ∙ h)

-- whether there is a partition of the name
pub kind-some : (there logical : Bool) (o : Option Bool) → o ≡ (if there then Some logical else None) → is_some o ≡ there
kind-some true logical o e = ap is_some e
kind-some false logical o e = ap is_some e
