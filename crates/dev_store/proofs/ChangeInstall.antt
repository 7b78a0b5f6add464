-- A table that is installed: kept partitions keep their units and bytes, and all others are empty.
use Rattle.std.proofs.Common.{◌≡◌, ◌∙◌, refl, ap, sym, subst, ℕ, ◌<◌, Bool, true, false, cond, List, [], ◌∷◌, ◌++◌, map, filter, length, take, arith}
use Rattle.std.specs.Prelude.{not, ◌||◌, ◌%◌, ◌==◌, nat_lt, bytes_eq, if◌then◌else◌, IsFalse}
use Rattle.std.specs.List.{list_all, list_any, AllByRecursion}
use Rattle.std.proofs.lemmas.Slice.Eq.{bytes_eq-Decides}
use Rattle.fb_frame.specs.declared.tables.Tables.{Tables}
use Rattle.fb_frame.specs.declared.tables.TablePartition.{TablePartition}
use Rattle.dev_model.specs.declared.device.Dev.{Dev}
use Rattle.dev_model.specs.declared.device.Logical.{Logical}
use Rattle.dev_model.specs.Sizes.{units_for}
use Rattle.dev_model.specs.Tables.{kept, is_kept, kept_bytes, listed, left_over, is_listed, merged, with_tables}
use Rattle.dev_model.specs.Validity.{IsValid}
use Rattle.dev_model.proofs.Valid.{both, or-left, or-right}
use Rattle.unit_alloc.specs.Owning.{Owning, units_of}
use Rattle.super_meta.specs.Contents.{Content}
use Rattle.dev_store.specs.declared.layout.SuperPart.{SuperPart}
use Rattle.dev_store.specs.declared.state.State.{State}
use Rattle.dev_store.specs.Layouts.{LayoutValue}
use Rattle.dev_store.specs.Supers.{units_bytes}
use Rattle.dev_store.specs.Stand.{super_bytes}
use Rattle.dev_store.proofs.ChangeHeld.{IsDeviceOf}
use Rattle.dev_store.proofs.ChangeNamed.{by_name, at-name}
use Rattle.dev_store.proofs.ChangeUnits.{AreOnce}
use Rattle.dev_store.proofs.ChangeTable.{ceil-is}
use Rattle.dev_store.proofs.ChangeStore.{HasUnits, device_in, store-device, logical-names, groups-known}
use Rattle.dev_store.proofs.ChangeAfter.{table-of-lists, device-after}
use Rattle.dev_store.proofs.ChangeResize.{IsWrittenFor}
use Rattle.dev_store.specs.TableChanges.{IsFitted, LiesIn, IsStoreSuper}

-- the units of a name that is among these partitions, and else none
abbrev pub kept_units : (List ℕ → List ℕ) → List Logical → List ℕ → List ℕ
kept_units f old name = if list_any (at-name name) old then f name else []

-- what is so of a partition of the device in its units
pub record IsHeldIn (s : SuperPart) (super : List ℕ) (p : Logical) (units : List ℕ) : Type 0 where
  pub lies : LiesIn s super p units
  pub fits : IsFitted s.unit p units

-- an empty partition
empty-held : (s : SuperPart) (super : List ℕ) (p : Logical) → 0 < s.unit → p.bytes ≡ [] → IsHeldIn s super p []
empty-held s super p pos e = record {
  lies = e ∙ ap (λ n. take n (units_bytes s super [])) (sym (ap length e));
  fits = record {
    many = sym (ap (λ l. units_for s.unit (length l)) e ∙ ceil-is 0 0 s.unit pos (omega arith) (omega arith));
    whole = ap (λ l. length l % 4096) e;
  };
}

-- the same units and bytes under another entry
same-held : (s : SuperPart) (super : List ℕ) (p q : Logical) (units : List ℕ) → q.bytes ≡ p.bytes → IsHeldIn s super p units → IsHeldIn s super q units
same-held s super p q units e h = record {
  lies = e ∙ (h.lies ∙ ap (λ (l : List ℕ). take (length l) (units_bytes s super units)) (sym e));
  fits = record { many = h.fits.many ∙ ap (λ (l : List ℕ). units_for s.unit (length l)) (sym e); whole = ap (λ (l : List ℕ). length l % 4096) e ∙ h.fits.whole };
}

-- a listed partition has the bytes of the kept one of its name, or none
listed-held : (s : SuperPart) (super : List ℕ) (f : List ℕ → List ℕ) (old : List Logical) (q : Logical) → 0 < s.unit → AllByRecursion (λ p. IsHeldIn s super p (f p.name)) old → q.bytes ≡ kept_bytes q.name old →
    IsHeldIn s super q (kept_units f old q.name)
listed-held s super f [] q pos h e = empty-held s super q pos e
listed-held s super f (p ∷ old) q pos h e = by (bytes_eq p.name q.name) refl e (λ k. listed-held s super f old q pos h.1 k)
  where
    by : (b : Bool) → bytes_eq p.name q.name ≡ b → q.bytes ≡ (if b then p.bytes else kept_bytes q.name old) → (q.bytes ≡ kept_bytes q.name old → IsHeldIn s super q (kept_units f old q.name)) →
        IsHeldIn s super q (if b || list_any (at-name q.name) old then f q.name else [])
    by true x k more = subst (λ n. IsHeldIn s super q (f n)) ((bytes_eq-Decides p.name q.name).0 x) (same-held s super p q (f p.name) k h.0)
    by false x k more = more k

listed-all : (s : SuperPart) (super : List ℕ) (f : List ℕ → List ℕ) (old : List Logical) (ps : List TablePartition) → 0 < s.unit → AllByRecursion (λ p. IsHeldIn s super p (f p.name)) old →
    AllByRecursion (λ p. IsHeldIn s super p (kept_units f old p.name)) (map (λ p. record { name = p.name; attributes = p.attributes; group = p.group; bytes = kept_bytes p.name old }) ps)
listed-all s super f old [] pos h = tt
listed-all s super f old (p ∷ ps) pos h =
    (listed-held s super f old (record { name = p.name; attributes = p.attributes; group = p.group; bytes = kept_bytes p.name old }) pos h refl, listed-all s super f old ps pos h)

-- partitions that are kept keep their units
old-held : (s : SuperPart) (super : List ℕ) (f : List ℕ → List ℕ) (all some : List Logical) → ((p : Logical) → list_any (at-name p.name) some ≡ true → list_any (at-name p.name) all ≡ true) →
    AllByRecursion (λ p. IsHeldIn s super p (f p.name)) some → AllByRecursion (λ p. IsHeldIn s super p (kept_units f all p.name)) some
old-held s super f all [] sub h = tt
old-held s super f all (p ∷ some) sub h =
    let own : list_any (at-name p.name) (p ∷ some) ≡ true = or-left (bytes_eq p.name p.name) _ ((bytes_eq-Decides p.name p.name).1 refl) in (
      subst (IsHeldIn s super p) (sym (ap (λ b. if b then f p.name else []) (sub p own))) h.0,
      old-held s super f all some (λ q k. sub q (or-right (bytes_eq p.name q.name) _ k)) h.1,
    )

-- what is so of all is so of those that pass a test, and of two lists in turn
all-passed : (P : Logical → Type 0) (test : Logical → Bool) (ps : List Logical) → AllByRecursion P ps → AllByRecursion P (filter test ps)
all-passed P test [] h = tt
all-passed P test (p ∷ ps) h = by (test p) (all-passed P test ps h.1) where
  by : (b : Bool) → AllByRecursion P (filter test ps) → AllByRecursion P (cond b (p ∷ filter test ps) (filter test ps))
  by true more = (h.0, more)
  by false more = more

all-joined : (P : Logical → Type 0) (ps qs : List Logical) → AllByRecursion P ps → AllByRecursion P qs → AllByRecursion P (ps ++ qs)
all-joined P [] qs h k = k
all-joined P (p ∷ ps) qs h k = (h.0, all-joined P ps qs h.1 k)

both-held : (s : SuperPart) (super : List ℕ) (f : List ℕ → List ℕ) (ps : List Logical) → AllByRecursion (λ p. LiesIn s super p (f p.name)) ps → AllByRecursion (λ p. IsFitted s.unit p (f p.name)) ps →
    AllByRecursion (λ p. IsHeldIn s super p (f p.name)) ps
both-held s super f [] h k = tt
both-held s super f (p ∷ ps) h k = (record { lies = h.0; fits = k.0 }, both-held s super f ps h.1 k.1)

held-lies : (s : SuperPart) (super : List ℕ) (f : List ℕ → List ℕ) (ps : List Logical) → AllByRecursion (λ p. IsHeldIn s super p (f p.name)) ps → AllByRecursion (λ p. LiesIn s super p (f p.name)) ps
held-lies s super f [] h = tt
held-lies s super f (p ∷ ps) h = (h.0.lies, held-lies s super f ps h.1)

held-fits : (s : SuperPart) (super : List ℕ) (f : List ℕ → List ℕ) (ps : List Logical) → AllByRecursion (λ p. IsHeldIn s super p (f p.name)) ps → AllByRecursion (λ p. IsFitted s.unit p (f p.name)) ps
held-fits s super f [] h = tt
held-fits s super f (p ∷ ps) h = (h.0.fits, held-fits s super f ps h.1)

any-passed : (test : Logical → Bool) (name : List ℕ) (ps : List Logical) → list_any (at-name name) (filter test ps) ≡ true → list_any (at-name name) ps ≡ true
any-passed test name [] h = h
any-passed test name (p ∷ ps) h = by (test p) h (any-passed test name ps)
  where
    by : (b : Bool) → list_any (at-name name) (cond b (p ∷ filter test ps) (filter test ps)) ≡ true → (list_any (at-name name) (filter test ps) ≡ true → list_any (at-name name) ps ≡ true) →
        (bytes_eq p.name name || list_any (at-name name) ps) ≡ true
    by true k more = either-or (bytes_eq p.name name) (list_any (at-name name) (filter test ps)) (list_any (at-name name) ps) k more
      where
        either-or : (a b c : Bool) → (a || b) ≡ true → (b ≡ true → c ≡ true) → (a || c) ≡ true
        either-or true b c h k = refl
        either-or false b c h k = k h
    by false k more = or-right (bytes_eq p.name name) _ (more k)

-- the partitions of an installed table, in their units
merged-held : (s : SuperPart) (super : List ℕ) (f : List ℕ → List ℕ) (tables : Tables) (wipe : Bool) (dev : Dev) → 0 < s.unit → AllByRecursion (λ p. IsHeldIn s super p (f p.name)) dev.logical →
    AllByRecursion (λ p. IsHeldIn s super p (kept_units f (kept dev wipe) p.name)) (merged tables wipe dev)
merged-held s super f tables wipe dev pos h =
    let old = kept dev wipe in
    let old-all = all-passed (λ p. IsHeldIn s super p (f p.name)) (is_kept dev wipe) dev.logical h in
    all-joined (λ p. IsHeldIn s super p (kept_units f old p.name)) (listed tables old) (left_over tables old)
    (listed-all s super f old tables.partitions pos old-all)
    (old-held s super f old (left_over tables old) (λ p k. any-passed (λ p. not (is_listed tables.partitions p.name)) p.name old k)
    (all-passed (λ p. IsHeldIn s super p (f p.name)) (λ p. not (is_listed tables.partitions p.name)) old old-all))

-- A new map of units with kept partitions' units as they were: the device of the installed table.
pub install-after : (layout : LayoutValue) (s : SuperPart) (state : State) (c : Content) (o now : Owning) (parts rest file : List ℕ) (tables : Tables) (wipe : Bool) → IsStoreSuper layout s state c o parts file →
    IsValid (with_tables tables wipe (device_in layout state c file)) → now.units ≡ o.units → length now.parts ≡ 128 → list_all (λ part. nat_lt part 128) rest ≡ true → AreOnce rest →
    ((k : ℕ) → IsFalse (list_any (λ p. p == k) rest) → units_of now k ≡ []) →
    map (units_of now) rest ≡ map (λ p. kept_units (by_name o parts (device_in layout state c file).logical) (kept (device_in layout state c file) wipe) p.name) (merged tables wipe (device_in layout state c file)) →
    IsWrittenFor layout s state now rest file (with_tables tables wipe (device_in layout state c file))
install-after layout s state c o now parts rest file tables wipe h valid units many there once empty is =
    let dev = device_in layout state c file in
    let d = store-device layout s state c o parts file h in
    let super = super_bytes layout s file in
    let four = d.bounded.unit in
    let pos : 0 < s.unit = omega arith in
    let f = by_name o parts dev.logical in
    let g = kept_units f (kept dev wipe) in
    let next = with_tables tables wipe dev in
    let held = merged-held s super f tables wipe dev pos (both-held s super f dev.logical d.units.lies d.units.fits) in
    let has : HasUnits layout s file g next = record {
      names = logical-names next valid;
      lies = held-lies s super g next.logical held;
      fits = held-fits s super g next.logical held;
      groups = groups-known next.table_minor next.groups next.logical (both _ _ valid.logical).1;
    } in
    let of : IsDeviceOf layout state file next = ap (λ (x : Dev). let y : Dev = record x {
      groups = next.groups;
      logical = next.logical;
      table_minor = next.table_minor;
      table_flags = next.table_flags;
    } in y) d.same in
    let table = table-of-lists s g next (map (units_of now) rest) d.bounded has.fits has.groups (sym is) in
    record {
      device = device-after layout s state file g next (map (units_of now) rest) h.part d.bounded of has (sym is);
      mapped = record {
        units = units ∙ h.mapped.units;
        many = many;
        there = there;
        lists = table.units;
        apart = once;
        empty = empty;
      };
      fitted = table.fitted;
    }
