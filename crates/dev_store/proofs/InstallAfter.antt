-- The device of a store after a table was installed: each entry has the units of the kept partition of its name.
use Rattle.std.proofs.Common.{◌≡◌, ◌∙◌, refl, ap, sym, subst, ℕ, zero, suc, ◌<◌, ◌≤◌, Bool, true, false, cond, not, List, [], ◌∷◌, ◌++◌, map, filter, length, get_or, arith, Option, Some, None}
use Rattle.std.specs.Prelude.{◌&&◌, ◌||◌, ◌==◌, nat_lt, slice_get, slice_index, bytes_eq, position, option_and_then, option_map, unwrap_or, codes, is_none, is_some, if◌then◌else◌}
use Rattle.std.specs.List.{list_all, list_any, position_or_len}
use Rattle.std.proofs.lemmas.List.{length-map, length-append, get_or_past}
use Rattle.std.proofs.lemmas.Option.{slice_get_within, slice_get-get_or, slice_get-map}
use Rattle.std.proofs.lemmas.Bool.Decides.{nat_tests}
use Rattle.std.proofs.lemmas.Slice.Eq.{bytes_eq-Decides}
use Rattle.fb_frame.specs.Distinct.{are_distinct}
use Rattle.fb_frame.specs.declared.tables.Tables.{Tables}
use Rattle.dev_model.specs.declared.device.Dev.{Dev}
use Rattle.dev_model.specs.declared.device.Logical.{Logical}
use Rattle.dev_model.specs.Tables.{is_kept, kept, kept_bytes, listed, left_over, merged, with_tables}
use Rattle.dev_model.specs.Validity.{IsValid}
use Rattle.dev_model.specs.Options.{first_passed}
use Rattle.dev_model.specs.Sizes.{sizes_of, groups_fit}
use Rattle.dev_model.specs.Tables.{is_bad_table, is_group}
use Rattle.dev_model.specs.Validity.{are_tables}
use Rattle.dev_model.proofs.ValidTable.{any-map, map-append, table-valid}
use Rattle.unit_alloc.specs.Owning.{Owning, units_of}
use Rattle.super_meta.specs.declared.geometry.Geometry.{Geometry}
use Rattle.super_meta.specs.declared.table.Partition.{Partition}
use Rattle.super_meta.specs.declared.table.Group.{Group}
use Rattle.super_meta.specs.Contents.{Content, content}
use Rattle.super_meta.specs.Held.{tables_in}
use Rattle.super_meta.specs.Held.{listed as listed_in}
use Rattle.dev_store.specs.declared.layout.SuperPart.{SuperPart}
use Rattle.dev_store.specs.declared.state.State.{State}
use Rattle.dev_store.specs.declared.super_read.SuperRead.{SuperRead}
use Rattle.dev_store.specs.declared.table_install.Keeps.{Keeps}
use Rattle.dev_store.specs.Layouts.{LayoutValue}
use Rattle.dev_store.specs.Supers.{units_of as units_in_table}
use Rattle.dev_store.specs.Stand.{super_bytes, number_in, geometry_in}
use Rattle.dev_store.specs.Held.{device_held, units_by}
use Rattle.dev_store.specs.declared.errors.StoreError.TheVariants.{GroupFull, TooManyPartitions, NoGroup, BadTable}
use Rattle.dev_store.specs.Changes.{tables_flaw}
use Rattle.dev_store.specs.Runs.{table_for}
use Rattle.dev_store.specs.Building.{headed, built, planned_for, AreGiven, IsOnSuper}
use Rattle.dev_store.specs.Installing.{keeps, is_left, merged_head, installed_plan, HasSpace}
use Rattle.dev_store.specs.InstallParts.{named_part, kept_part, chosen_parts, released, AreApart, HaveAll, AreChosen}
use Rattle.dev_store.specs.TableChanges.{AreEntriesOf, IsStoreSuper}
use Rattle.dev_store.proofs.OpenOwns.{place-alike}
use Rattle.dev_store.proofs.ChangeNamed.{by_name, at-name, by-place}
use Rattle.dev_store.proofs.ChangeStore.{device_in, held-logical, store-many, store-device, logical-names}
use Rattle.dev_store.proofs.ChangeAfter.{store-entries}
use Rattle.dev_store.proofs.ChangeResize.{IsWrittenFor}
use Rattle.dev_store.proofs.ChangeInstall.{kept_units, install-after}
use Rattle.dev_store.proofs.CallStores.{on-super}
use Rattle.dev_store.proofs.CallFound.{found-at, found-none, not-found}
use Rattle.dev_store.proofs.CallUnits.{map-many, given-of}
use Rattle.dev_store.proofs.BuildInstalled.{keeps_of, installed-planned, installed-table, plan-space}
use Rattle.dev_store.proofs.InstallTests.{IsSuperOf, left-entries}
use Rattle.dev_store.proofs.InstallParts.{by-all, released-units, released-many, released-off, released-at, named-once, parts-apart, first-named}
use Rattle.dev_store.proofs.ChangeFlaws.{at-any}

-- ---- lists

map-twice : {X Y : Type 0} (name : X → List ℕ) (g : List ℕ → Y) (xs : List X) → map g (map name xs) ≡ map (λ x. g (name x)) xs
map-twice name g [] = refl
map-twice name g (x ∷ xs) = ap (λ l. g (name x) ∷ l) (map-twice name g xs)

map-alike : {X Y : Type 0} (f g : X → Y) → ((x : X) → f x ≡ g x) → (xs : List X) → map f xs ≡ map g xs
map-alike f g same [] = refl
map-alike f g same (x ∷ xs) =
    let one = same x in
    let more = map-alike f g same xs in
    λ i. one i ∷ more i

-- the number of one of them is among their numbers
any-mapped : (f : Partition → ℕ) (test : Partition → Bool) (k : ℕ) (ps : List Partition) → ((p : Partition) → test p ≡ true → f p ≡ k) → list_any test ps ≡ true → list_any (λ x. x == k) (map f ps) ≡ true
any-mapped f test k [] same h = h
any-mapped f test k (p ∷ ps) same h = by (test p) refl h (any-mapped f test k ps same)
  where
    self : (a : ℕ) → a ≡ k → (a == k) ≡ true
    self a e = grind (arith, nat_tests)

    right : (a b : Bool) → b ≡ true → (a || b) ≡ true
    right true b e = refl
    right false b e = e

    by : (b : Bool) → test p ≡ b → (b || list_any test ps) ≡ true → (list_any test ps ≡ true → list_any (λ x. x == k) (map f ps) ≡ true) → (f p == k || list_any (λ x. x == k) (map f ps)) ≡ true
    by true e t more = ap (λ b. b || list_any (λ x. x == k) (map f ps)) (self (f p) (same p e))
    by false e t more = right (f p == k) (list_any (λ x. x == k) (map f ps)) (more t)

-- one that passes a test is among those that pass it
any-passing : (t test : Partition → Bool) (ps : List Partition) (i : ℕ) (p : Partition) → slice_get ps i ≡ Some p → t p ≡ true → test p ≡ true → list_any test (filter t ps) ≡ true
any-passing t test [] i p at a b = absurd cc
any-passing t test (q ∷ ps) zero p at a b =
    let e : q ≡ p = cc in
    ap (λ x. list_any test (cond x (q ∷ filter t ps) (filter t ps))) (ap t e ∙ a) ∙ ap (λ x. x || list_any test (filter t ps)) (ap test e ∙ b)
any-passing t test (q ∷ ps) (suc i) p at a b = by (t q) (any-passing t test ps i p at a b)
  where
    right : (a b : Bool) → b ≡ true → (a || b) ≡ true
    right true b e = refl
    right false b e = e

    by : (x : Bool) → list_any test (filter t ps) ≡ true → list_any test (cond x (q ∷ filter t ps) (filter t ps)) ≡ true
    by true more = right (test q) (list_any test (filter t ps)) more
    by false more = more

either-false : (a b : Bool) → (a || b) ≡ false → (a ≡ false) × (b ≡ false)
either-false true b e = absurd cc
either-false false b e = (refl, e)

any-joined : (test : ℕ → Bool) (xs ys : List ℕ) → list_any test (xs ++ ys) ≡ (list_any test xs || list_any test ys)
any-joined test [] ys = refl
any-joined test (x ∷ xs) ys = by (test x) (any-joined test xs ys)
  where
    by : (b : Bool) → list_any test (xs ++ ys) ≡ (list_any test xs || list_any test ys) → (b || list_any test (xs ++ ys)) ≡ ((b || list_any test xs) || list_any test ys)
    by true more = refl
    by false more = more

-- ---- names

among-at : (ns : List (List ℕ)) (i : ℕ) (n : List ℕ) → slice_get ns i ≡ Some n → list_any (λ y. bytes_eq y n) ns ≡ true
among-at [] i n e = absurd cc
among-at (x ∷ ns) zero n e = let q : x ≡ n = cc in ap (λ b. b || list_any (λ y. bytes_eq y n) ns) ((bytes_eq-Decides x n).1 q)
among-at (x ∷ ns) (suc i) n e = right (bytes_eq x n) (list_any (λ y. bytes_eq y n) ns) (among-at ns i n e)
  where
    right : (a b : Bool) → b ≡ true → (a || b) ≡ true
    right true b e = refl
    right false b e = e

-- a kept partition of the name
any-kept : (wipe : Bool) (dev : Dev) (name : List ℕ) (ps : List Logical) → list_any (at-name name) (filter (is_kept dev wipe) ps) ≡ (keeps (keeps_of wipe dev) name && list_any (at-name name) ps)
any-kept wipe dev name [] = none (keeps (keeps_of wipe dev) name)
  where
    none : (b : Bool) → false ≡ (b && false)
    none true = refl
    none false = refl
any-kept wipe dev name (q ∷ ps) = by (is_kept dev wipe q) (bytes_eq q.name name) refl refl (any-kept wipe dev name ps)
  where
    k : Keeps
    k = keeps_of wipe dev

    by : (a b : Bool) → is_kept dev wipe q ≡ a → bytes_eq q.name name ≡ b → list_any (at-name name) (filter (is_kept dev wipe) ps) ≡ (keeps k name && list_any (at-name name) ps) →
        list_any (at-name name) (cond a (q ∷ filter (is_kept dev wipe) ps) (filter (is_kept dev wipe) ps)) ≡ (keeps k name && (b || list_any (at-name name) ps))
    by true true e f more =
        let is : keeps k name ≡ true = ap (keeps k) (sym ((bytes_eq-Decides q.name name).0 f)) ∙ e in
        ap (λ b. b || list_any (at-name name) (filter (is_kept dev wipe) ps)) f ∙ sym (ap (λ b. b && true) is)
    by false true e f more =
        let is : keeps k name ≡ false = ap (keeps k) (sym ((bytes_eq-Decides q.name name).0 f)) ∙ e in
        more ∙ (ap (λ b. b && list_any (at-name name) ps) is ∙ sym (ap (λ b. b && true) is))
    by true false e f more = ap (λ b. b || list_any (at-name name) (filter (is_kept dev wipe) ps)) f ∙ more
    by false false e f more = more

entries-names : (s : SuperPart) (c : Content) (ps : List Partition) (logical : List Logical) (lists : List (List ℕ)) → AreEntriesOf s c ps logical lists → map (λ p. p.name) logical ≡ map (λ p. p.name) ps
entries-names s c [] [] [] h = refl
entries-names s c [] [] (units ∷ lists) h = absurd h
entries-names s c [] (q ∷ logical) lists h = absurd h
entries-names s c (p ∷ ps) [] lists h = absurd h
entries-names s c (p ∷ ps) (q ∷ logical) [] h = absurd h
entries-names s c (p ∷ ps) (q ∷ logical) (units ∷ lists) h =
    let one = h.0.name in
    let more = entries-names s c ps logical lists h.1 in
    λ i. sym one i ∷ more i

listed-names : (groups : List Group) (old : List Logical) (ps : List Partition) →
    map (λ (p : Logical). p.name) (map (λ p. record { name = p.name; attributes = p.attributes; group = p.group; bytes = kept_bytes p.name old }) (map (listed_in groups) ps)) ≡ map (λ p. p.name) ps
listed-names groups old [] = refl
listed-names groups old (p ∷ ps) = ap (λ l. p.name ∷ l) (listed-names groups old ps)

module _ (layout : LayoutValue) (s : SuperPart) (state : State) (w : SuperRead) (file : List ℕ) (wipe : Bool) (g : Geometry) (new : Content)
    (h : IsStoreSuper layout s state (content w.table) w.owners w.parts.items file) where
  abbrev pub c : Content
  c = content w.table

  abbrev pub dev : Dev
  dev = device_in layout state c file

  abbrev pub k : Keeps
  k = keeps_of wipe dev

  abbrev pub tables : Tables
  tables = tables_in g new

  parts : List ℕ
  parts = w.parts.items

  abbrev now : Owning
  now = released k c.partitions w.parts.items w.owners

  abbrev part_for : List ℕ → ℕ
  part_for name = kept_part k c w.parts.items name

  abbrev units_kept : List ℕ → List ℕ
  units_kept name = kept_units (by_name w.owners w.parts.items dev.logical) (kept dev wipe) name

  entries : AreEntriesOf s c c.partitions dev.logical (map (units_in_table s c) c.partitions)
  entries = store-entries layout s state c w.owners w.parts.items file h

  pub super-of : IsSuperOf layout.physical s dev
  unfolding device_held
  super-of =
      let o = on-super layout s state c w.owners w.parts.items file h in
      record {
        named = o.named;
        physical = o.physical;
        room = ap (λ q. (geometry_in q).max_size) h.part;
        slots = ap (λ q. (geometry_in q).slots) h.part;
        size = ap (number_in (λ s. s.size)) h.part;
        unit = o.unit;
      }

  past : units_of now 128 ≡ []
  past = get_or_past now.parts 128 [] (let m = released-many k c.partitions w.parts.items w.owners in let n = h.mapped.many in omega arith)

  -- What is known of the partition of a name.
  record IsNamedAt (name : List ℕ) (i : ℕ) : Type 0 where
    part : ℕ
    own : Partition
    at : slice_get w.parts.items i ≡ Some part
    here : slice_get c.partitions i ≡ Some own
    named : own.name ≡ name
    place : position_or_len (at-name name) dev.logical ≡ i
    there : list_any (at-name name) dev.logical ≡ true

  named-at : (name : List ℕ) (i : ℕ) → position (λ p. bytes_eq p.name name) c.partitions ≡ Some i → IsNamedAt name i
  named-at name i q =
      let at = found-at layout s state w file name i h q in
      let alike : position_or_len (λ (p : Partition). bytes_eq p.name name) c.partitions ≡ i =
      sym (ap (position_or_len (at-name name)) (held-logical layout s state c file h.part) ∙ place-alike s c (super_bytes layout s file) name c.partitions) ∙ at.place in
      let inside = at.inside in
      let r = first-named (λ p. bytes_eq p.name name) c.partitions (omega arith) in
      record {
        part = slice_index w.parts.items i;
        own = r.0;
        at = at.part;
        here = ap (slice_get c.partitions) (sym alike) ∙ r.1.0;
        named = (bytes_eq-Decides r.0.name name).0 r.1.1;
        place = at.place;
        there = at.there;
      }

  unnamed : (name : List ℕ) → position (λ p. bytes_eq p.name name) c.partitions ≡ None → list_any (at-name name) dev.logical ≡ false
  unnamed name q = found-none layout state (Some c) (Some file) name h.kept (not-found layout.super_part (Some w) name s w h.part refl q)

  below : (i part : ℕ) → slice_get w.parts.items i ≡ Some part → part < length w.owners.parts
  below i part at = let m = h.mapped.many in let l = low part (by-all (λ part. nat_lt part 128) w.parts.items i part h.mapped.there at) in omega arith
    where
      low : (n : ℕ) → nat_lt n 128 ≡ true → n < 128
      low n e = grind (arith, nat_tests)

  -- the part of a kept partition has its units, and no part is any other one's
  part-units : (name : List ℕ) → units_of now (part_for name) ≡ units_kept name
  part-units name = by (keeps k name) refl
    where
      f : List ℕ → List ℕ
      f = by_name w.owners w.parts.items dev.logical

      right : units_kept name ≡ (if keeps k name && list_any (at-name name) dev.logical then f name else [])
      right = ap (λ b. if b then f name else []) (any-kept wipe dev name dev.logical)

      found : keeps k name ≡ true → (o : Option ℕ) → position (λ p. bytes_eq p.name name) c.partitions ≡ o →
          units_of now (unwrap_or (option_and_then (slice_get w.parts.items) o) 128) ≡ (if list_any (at-name name) dev.logical then f name else [])
      found e None q = past ∙ sym (ap (λ b. if b then f name else []) (unnamed name q))
      found e (Some i) q =
          let a = named-at name i q in
          let is : keeps k a.own.name ≡ true = ap (keeps k) a.named ∙ e in
          ap (λ o. units_of now (unwrap_or o 128)) a.at
          ∙ (released-at k c.partitions w.parts.items w.owners i a.part a.own h.mapped.apart a.at a.here (below i a.part a.at)
          ∙ (ap (λ b. if b then units_of w.owners a.part else []) is
          ∙ sym (ap (λ b. if b then f name else []) a.there
          ∙ (by-place w.owners w.parts.items dev.logical name (store-many layout s state c w.owners w.parts.items file h)
          ∙ ap (units_by (Some w.owners)) (ap (slice_get w.parts.items) a.place ∙ a.at)))))

      by : (b : Bool) → keeps k name ≡ b → units_of now (part_for name) ≡ units_kept name
      by true e =
          ap (λ b. units_of now (if b then named_part c w.parts.items name else 128)) e
          ∙ (found e (position (λ p. bytes_eq p.name name) c.partitions) refl ∙ sym (right ∙ ap (λ b. if b && list_any (at-name name) dev.logical then f name else []) e))
      by false e =
          ap (λ b. units_of now (if b then named_part c w.parts.items name else 128)) e
          ∙ (past ∙ sym (right ∙ ap (λ b. if b && list_any (at-name name) dev.logical then f name else []) e))

  -- a name that has a part is that of its partition
  own-name : (name : List ℕ) → part_for name < 128 → (i : ℕ) × ((p : Partition) × ((slice_get w.parts.items i ≡ Some (part_for name)) × ((slice_get c.partitions i ≡ Some p) × (p.name ≡ name))))
  own-name name l = by (keeps k name) refl
    where
      found : (o : Option ℕ) → position (λ p. bytes_eq p.name name) c.partitions ≡ o → part_for name ≡ unwrap_or (option_and_then (slice_get w.parts.items) o) 128 →
          (i : ℕ) × ((p : Partition) × ((slice_get w.parts.items i ≡ Some (part_for name)) × ((slice_get c.partitions i ≡ Some p) × (p.name ≡ name))))
      found None q t = absurd (omega arith)
      found (Some i) q t = let a = named-at name i q in (i, (a.own, (a.at ∙ ap Some (sym (t ∙ ap (λ o. unwrap_or o 128) a.at)), (a.here, a.named))))

      by : (b : Bool) → keeps k name ≡ b → (i : ℕ) × ((p : Partition) × ((slice_get w.parts.items i ≡ Some (part_for name)) × ((slice_get c.partitions i ≡ Some p) × (p.name ≡ name))))
      by true e = found (position (λ p. bytes_eq p.name name) c.partitions) refl (ap (λ b. if b then named_part c w.parts.items name else 128) e)
      by false e = let t : part_for name ≡ 128 = ap (λ b. if b then named_part c w.parts.items name else 128) e in absurd (omega arith)

  one-name : (n m : List ℕ) → part_for n < 128 → part_for n ≡ part_for m → n ≡ m
  one-name n m l e =
      let a = own-name n l in
      let b = own-name m (omega arith) in
      let place = h.mapped.apart a.0 b.0 (part_for n) a.1.1.0 (b.1.1.0 ∙ ap Some (sym e)) in
      sym a.1.1.1.1 ∙ (ap (λ (p : Partition). p.name) (same a.1.0 b.1.0 (sym a.1.1.1.0 ∙ (ap (slice_get c.partitions) place ∙ b.1.1.1.0))) ∙ b.1.1.1.1)
    where
      same : (p q : Partition) → Some p ≡ Some q → p ≡ q
      same p q e = cc

  -- ---- the names of all entries

  abbrev names : List (List ℕ)
  names = map (λ p. p.name) new.partitions ++ map (λ p. p.name) (filter (is_left k new) c.partitions)

  merged-names : map (λ p. p.name) (merged tables wipe dev) ≡ names
  merged-names =
      let left = left-entries s wipe dev new c c.partitions dev.logical (map (units_in_table s c) c.partitions) entries in
      map-append (λ (p : Logical). p.name) (listed tables (kept dev wipe)) (left_over tables (kept dev wipe))
      ∙ (λ i. listed-names new.groups (kept dev wipe) new.partitions i ++ entries-names s c (filter (is_left k new) c.partitions) (left_over tables (kept dev wipe)) left.0 left.1 i)

  chosen-names : chosen_parts k new c w.parts.items ≡ map part_for names
  chosen-names = sym (
      map-append part_for (map (λ p. p.name) new.partitions) (map (λ p. p.name) (filter (is_left k new) c.partitions))
      ∙ (λ i. map-twice (λ (p : Partition). p.name) part_for new.partitions i ++ map-twice (λ (p : Partition). p.name) part_for (filter (is_left k new) c.partitions) i))

  chosen-apart : IsValid (with_tables tables wipe dev) → AreApart (chosen_parts k new c w.parts.items)
  chosen-apart valid = subst AreApart (sym chosen-names) (parts-apart part_for one-name names (ap are_distinct (sym merged-names) ∙ logical-names (with_tables tables wipe dev) valid))

  chosen-lists : map (units_of now) (chosen_parts k new c w.parts.items) ≡ map (λ p. units_kept p.name) (merged tables wipe dev)
  chosen-lists =
      ap (map (units_of now)) chosen-names
      ∙ (units-of names
      ∙ (ap (map units_kept) (sym merged-names) ∙ map-twice (λ (p : Logical). p.name) units_kept (merged tables wipe dev)))
    where
      units-of : (ns : List (List ℕ)) → map (units_of now) (map part_for ns) ≡ map units_kept ns
      units-of [] = refl
      units-of (n ∷ ns) =
          let one = part-units n in
          let more = units-of ns in
          λ i. one i ∷ more i

  -- the part of a kept partition is among those of the entries
  chosen-kept : (i part : ℕ) (p : Partition) → slice_get w.parts.items i ≡ Some part → slice_get c.partitions i ≡ Some p → keeps k p.name ≡ true → list_any (λ x. x == part) (chosen_parts k new c w.parts.items) ≡ true
  chosen-kept i part p at here keep =
      any-joined (λ x. x == part) (map (λ p. part_for p.name) new.partitions) (map (λ p. part_for p.name) (filter (is_left k new) c.partitions))
      ∙ by (list_any (λ q. bytes_eq q.name p.name) new.partitions) refl
    where
      distinct : are_distinct (map (λ p. p.name) c.partitions) ≡ true
      distinct = ap are_distinct (sym (entries-names s c c.partitions dev.logical (map (units_in_table s c) c.partitions) entries)) ∙ (store-device layout s state c w.owners w.parts.items file h).units.names

      named : (n : List ℕ) (j : ℕ) (q : Partition) → slice_get c.partitions j ≡ Some q → q.name ≡ n → slice_get (map (λ p. p.name) c.partitions) j ≡ Some n
      named n j q e f = slice_get-map (λ (p : Partition). p.name) c.partitions j ∙ (ap (option_map (λ (p : Partition). p.name)) e ∙ ap Some f)

      own : part_for p.name ≡ part
      own = ap (λ b. if b then named_part c w.parts.items p.name else 128) keep ∙ found (position (λ q. bytes_eq q.name p.name) c.partitions) refl
        where
          found : (o : Option ℕ) → position (λ q. bytes_eq q.name p.name) c.partitions ≡ o → unwrap_or (option_and_then (slice_get w.parts.items) o) 128 ≡ part
          found None q = absurd (never (list_any (at-name p.name) dev.logical) there (unnamed p.name q))
            where
              never : (b : Bool) → b ≡ true → b ≡ false → ⊥
              never b h k = cc

              there : list_any (at-name p.name) dev.logical ≡ true
              there =
                  any-map (λ (q : Logical). q.name) p.name dev.logical
                  ∙ (ap (list_any (λ n. bytes_eq n p.name)) (entries-names s c c.partitions dev.logical (map (units_in_table s c) c.partitions) entries)
                  ∙ among-at (map (λ q. q.name) c.partitions) i p.name (named p.name i p here refl))
          found (Some j) q =
              let a = named-at p.name j q in
              let same : j ≡ i = named-once (map (λ p. p.name) c.partitions) j i p.name distinct (named p.name j a.own a.here a.named) (named p.name i p here refl) in
              ap (λ o. unwrap_or o 128) (ap (slice_get w.parts.items) same ∙ at)

      right : (a b : Bool) → b ≡ true → (a || b) ≡ true
      right true b e = refl
      right false b e = e

      left : (a b : Bool) → a ≡ true → (a || b) ≡ true
      left true b e = refl
      left false b e = absurd cc

      of : (q : Partition) → bytes_eq q.name p.name ≡ true → part_for q.name ≡ part
      of q e = ap part_for ((bytes_eq-Decides q.name p.name).0 e) ∙ own

      by : (b : Bool) → list_any (λ q. bytes_eq q.name p.name) new.partitions ≡ b →
          (list_any (λ x. x == part) (map (λ p. part_for p.name) new.partitions) || list_any (λ x. x == part) (map (λ p. part_for p.name) (filter (is_left k new) c.partitions))) ≡ true
      by true e = left _ _ (any-mapped (λ p. part_for p.name) (λ q. bytes_eq q.name p.name) part new.partitions of e)
      by false e =
          right _ _ (any-mapped (λ p. part_for p.name) (λ q. bytes_eq q.name p.name) part (filter (is_left k new) c.partitions) of
          (any-passing (is_left k new) (λ q. bytes_eq q.name p.name) c.partitions i p here ((λ i. keep i && not (e i))) ((bytes_eq-Decides p.name p.name).1 refl)))

  -- what the map has besides has no units
  chosen-all : HaveAll now (chosen_parts k new c w.parts.items)
  chosen-all part none = by (list_any (λ x. x == part) w.parts.items) refl
    where
      here : (i : ℕ) × (slice_get w.parts.items i ≡ Some part) → units_of now part ≡ []
      here (i, at) = choose (keeps k own.name) refl
        where
          own : Partition
          own = get_or c.partitions i (record { name = []; attributes = 0; first = 0; count = 0; group = 0 })

          there : slice_get c.partitions i ≡ Some own
          there = slice_get-get_or c.partitions i _ (let l = slice_get_within w.parts.items i part at in let m = map-many s c w.owners w.parts.items h.mapped in omega arith)

          never : (b : Bool) → b ≡ true → b ≡ false → ⊥
          never b h k = cc

          choose : (b : Bool) → keeps k own.name ≡ b → units_of now part ≡ []
          choose true e = absurd (never (list_any (λ x. x == part) (chosen_parts k new c w.parts.items)) (chosen-kept i part own at there e) none)
          choose false e =
              released-at k c.partitions w.parts.items w.owners i part own h.mapped.apart at there (below i part at)
              ∙ ap (λ b. if b then units_of w.owners part else []) e

      by : (b : Bool) → list_any (λ x. x == part) w.parts.items ≡ b → units_of now part ≡ []
      by true e = here (at-any w.parts.items part e)
      by false e = released-off k c.partitions w.parts.items w.owners part e ∙ h.mapped.empty part e

  now-many : length now.parts ≡ 128
  now-many = released-many k c.partitions w.parts.items w.owners ∙ h.mapped.many

  -- ---- with the parts that are chosen

  module _ (o : Owning) (rest : List ℕ) (ch : AreChosen k new w o rest) (valid : IsValid (with_tables tables wipe dev)) where
    abbrev pub next : Dev
    next = with_tables tables wipe dev

    pub chosen-same : map (units_of o) rest ≡ map (λ p. kept_units (by_name w.owners w.parts.items dev.logical) (kept dev wipe) p.name) (merged tables wipe dev)
    chosen-same = ap (λ q. map (units_of q) rest) ch.owners ∙ (ch.filled.units now now-many chosen-all ∙ chosen-lists)

    pub rest-many : length rest ≡ length (merged tables wipe dev)
    rest-many =
        ch.filled.many ∙ (ap length chosen-names ∙ (length-map names part_for
        ∙ (ap length (sym merged-names) ∙ length-map (merged tables wipe dev) (λ p. p.name))))

    pub install-written : IsWrittenFor layout s state o rest file next
    install-written =
        subst (λ q. IsWrittenFor layout s state q rest file next) (sym ch.owners)
        (install-after layout s state c w.owners now w.parts.items rest file tables wipe h valid (released-units k c.partitions w.parts.items w.owners) now-many ch.filled.there
        (λ i j part e f. ch.filled.apart (chosen-apart valid) i j part (low part (by-all (λ part. nat_lt part 128) rest i part ch.filled.there e)) e f)
        (ch.filled.all now now-many chosen-all) (ch.filled.units now now-many chosen-all ∙ chosen-lists))
      where
        low : (n : ℕ) → nat_lt n 128 ≡ true → n < 128
        low n e = grind (arith, nat_tests)

    pub install-on : IsOnSuper layout.physical s next
    install-on =
        let o = on-super layout s state c w.owners w.parts.items file h in
        record { valid = valid; named = o.named; physical = o.physical; unit = o.unit; units = o.units }

    listed-few : length new.partitions ≤ length rest
    listed-few =
        let a = ch.filled.many in
        let b = length-append (map (λ p. part_for p.name) new.partitions) (map (λ p. part_for p.name) (filter (is_left k new) c.partitions)) in
        let m = length-map new.partitions (λ p. part_for p.name) in
        omega arith

    pub install-plan : list_all (λ p. nat_lt p.group (length new.groups)) new.partitions ≡ true → are_distinct (map (λ g. g.name) new.groups) ≡ true →
        installed_plan k new c rest ≡ planned_for next.groups next.logical rest
    install-plan groups apart = installed-planned s wipe dev g new c (map (units_in_table s c) c.partitions) rest apart groups entries listed-few

    -- there is space for it
    pub install-space : list_all (λ p. nat_lt p.group (length new.groups)) new.partitions ≡ true → are_distinct (map (λ g. g.name) new.groups) ≡ true →
        HasSpace s o (headed s (merged_head new c)) (installed_plan k new c rest)
    install-space groups apart =
        subst (HasSpace s o (headed s (merged_head new c))) (sym (install-plan groups apart))
        (plan-space s o (merged_head new c) next rest valid install-on.unit install-on.units rest-many install-written.fitted)

    -- and the next table is that of the device
    pub install-table : c.minor ≡ dev.table_minor → list_all (λ p. nat_lt p.group (length new.groups)) new.partitions ≡ true → are_distinct (map (λ g. g.name) new.groups) ≡ true →
        built s o (headed s (merged_head new c)) (installed_plan k new c rest) ≡ table_for s next (map (units_of o) rest)
    install-table minor groups apart = installed-table s o wipe dev g new c rest minor (install-plan groups apart) rest-many

    pub install-given : AreGiven s next.logical (map (units_of o) rest)
    install-given = given-of s (table_for s next (map (units_of o) rest)) o rest next.logical install-written.mapped ch.one install-written.fitted

-- ---- the device is one that there can be

none-of : {X Y : Type 0} (a b c d : Bool) (x y z w : X) (p q r s : Y) → first_passed ((a, x) ∷ (b, y) ∷ (c, z) ∷ (d, w) ∷ []) ≡ None →
    is_none (first_passed ((a, p) ∷ (b, q) ∷ (c, r) ∷ (d, s) ∷ [])) ≡ true
none-of true b c d x y z w p q r s h = absurd cc
none-of false true c d x y z w p q r s h = absurd cc
none-of false false true d x y z w p q r s h = absurd cc
none-of false false false true x y z w p q r s h = absurd cc
none-of false false false false x y z w p q r s h = refl

pub tables-valid : (tables : Tables) (wipe : Bool) (dev : Dev) → are_tables tables ≡ true → is_some dev.super_name ≡ true → tables_flaw tables wipe dev ≡ None → IsValid dev → IsValid (with_tables tables wipe dev)
tables-valid tables wipe dev t s e v =
    table-valid tables wipe dev t s
    (none-of (is_bad_table tables dev) (nat_lt 128 (length (merged tables wipe dev))) (list_any (λ p. not (is_group tables.groups p.group)) (left_over tables (kept dev wipe)))
    (not (groups_fit tables.groups (sizes_of (merged tables wipe dev)))) BadTable TooManyPartitions NoGroup GroupFull (codes "bad table") (codes "too many partitions") (codes "no such group") (codes "group full") e) v
