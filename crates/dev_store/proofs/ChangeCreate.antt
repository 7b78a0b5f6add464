-- A new partition of zeros: the device, the map of units and the units of each name.
use Rattle.std.proofs.Common.{◌≡◌, ◌≢◌, ◌∙◌, refl, ap, sym, subst, ℕ, zero, suc, ◌<◌, ◌≤◌, Bool, true, false, List, [], ◌∷◌, ◌++◌, map, length, get_or, take, replicate, arith, Some, None, length-set, length-append, inl, inr, codes}
use Rattle.std.specs.Prelude.{◌⊎◌, not, ◌||◌, ◌%◌, ◌==◌, nat_lt, slice_get, bytes_eq, if◌then◌else◌}
use Rattle.std.specs.List.{list_all, list_any, position_or_len, AllByRecursion}
use Rattle.std.proofs.lemmas.Bool.Decides.{nat_tests}
use Rattle.std.proofs.lemmas.List.{get_or-set_same, get_or-set_other, length-take-le, length-replicate}
use Rattle.std.proofs.lemmas.List.Folds.{list_all-append}
use Rattle.std.proofs.lemmas.Option.{slice_get_cases}
use Rattle.std.proofs.lemmas.Slice.Eq.{bytes_eq-Decides}
use Rattle.fb_frame.specs.Distinct.{are_distinct}
use Rattle.dev_model.specs.declared.device.Logical.{Logical}
use Rattle.dev_model.specs.Images.{round_up}
use Rattle.dev_model.specs.Steps.{created}
use Rattle.dev_model.specs.Sizes.{units_for}
use Rattle.dev_model.specs.Tables.{is_group}
use Rattle.dev_model.proofs.Names.{among, Mem, mem-any, distinct-join}
use Rattle.dev_model.proofs.Valid.{and-true, or-false, not-back}
use Rattle.dev_model.proofs.ValidTable.{map-append}
use Rattle.dev_model.proofs.ValidSizes.{whole-round}
use Rattle.unit_alloc.specs.Owning.{Owning, free_units, with_units, handed, units_of}
use Rattle.super_meta.specs.Contents.{Content}
use Rattle.dev_store.specs.declared.layout.SuperPart.{SuperPart}
use Rattle.dev_store.specs.declared.state.State.{State}
use Rattle.dev_store.specs.Layouts.{LayoutValue}
use Rattle.dev_store.specs.Runs.{table_for}
use Rattle.dev_store.specs.SuperBounds.{IsMapOf}
use Rattle.dev_store.specs.Held.{units_by}
use Rattle.dev_store.specs.Stand.{super_bytes}
use Rattle.dev_store.proofs.ChangeNamed.{by_name, at-name, by-cons, by-place, by-names, fit-each, not-or, eq-is}
use Rattle.dev_store.proofs.ChangeUnits.{AreOnce}
use Rattle.dev_store.proofs.ChangeMaps.{once-rest, once-other}
use Rattle.dev_store.proofs.ChangeBytes.{IsTouched, IsFilled, zeros-lie}
use Rattle.dev_store.proofs.ChangeStore.{HasUnits, device_in, store-device, store-many}
use Rattle.dev_store.proofs.ChangeAfter.{IsTableOf, table-of-lists, device-after, device-before}
use Rattle.dev_store.proofs.ChangeOne.{any-at}
use Rattle.dev_store.proofs.ChangeResize.{of-logical}
use Rattle.dev_store.proofs.ChangeDelete.{once-cons}
use Rattle.dev_store.specs.TableChanges.{IsFitted, AreFitted, LiesIn, IsStoreSuper}

never : (b : Bool) → b ≡ true → b ≡ false → ⊥
never b h k = cc

differ : (a b : List ℕ) → a ≢ b → bytes_eq a b ≡ false
differ a b ne = by (bytes_eq a b) refl where
  by : (x : Bool) → bytes_eq a b ≡ x → x ≡ false
  by true e = absurd (ne ((bytes_eq-Decides a b).0 e))
  by false e = refl

suc-of : (a b : ℕ) → suc a ≡ suc b → a ≡ b
suc-of a b e = omega arith

-- one more part, and one more partition
pub many-more : (parts : List ℕ) (ps : List Logical) (part : ℕ) (q : Logical) → length parts ≡ length ps → length (parts ++ part ∷ []) ≡ length (ps ++ q ∷ [])
many-more parts ps part q h =
    let a = length-append parts (part ∷ []) in
    let b = length-append ps (q ∷ []) in
    omega (arith, a, b, h)

-- the new partition has the new part, where no other has its name
pub added-own : (o : Owning) (parts : List ℕ) (ps : List Logical) (part : ℕ) (q : Logical) → length parts ≡ length ps → not (among q.name (map (λ p. p.name) ps)) ≡ true →
    by_name o (parts ++ part ∷ []) (ps ++ q ∷ []) q.name ≡ units_of o part
added-own o [] [] part q many h = by-cons o part [] q [] q.name refl ∙ ap (λ b. if b then units_of o part else by_name o [] [] q.name) ((bytes_eq-Decides q.name q.name).1 refl)
added-own o [] (p ∷ ps) part q many h = absurd cc
added-own o (k ∷ parts) [] part q many h = absurd cc
added-own o (k ∷ parts) (p ∷ ps) part q many h =
    let m = suc-of (length parts) (length ps) many in
    let n = not-or (bytes_eq p.name q.name) (among q.name (map (λ p. p.name) ps)) h in
    by-cons o k (parts ++ part ∷ []) p (ps ++ q ∷ []) q.name (many-more parts ps part q m)
    ∙ (ap (λ b. if b then units_of o k else by_name o (parts ++ part ∷ []) (ps ++ q ∷ []) q.name) n.0 ∙ added-own o parts ps part q m n.1)

-- all others have theirs
pub added-other : (o : Owning) (parts : List ℕ) (ps : List Logical) (part : ℕ) (q : Logical) (other : List ℕ) → length parts ≡ length ps → other ≢ q.name →
    by_name o (parts ++ part ∷ []) (ps ++ q ∷ []) other ≡ by_name o parts ps other
added-other o [] [] part q other many ne =
    by-cons o part [] q [] other refl ∙ ap (λ b. if b then units_of o part else by_name o [] [] other) (differ q.name other (λ e. ne (sym e)))
added-other o [] (p ∷ ps) part q other many ne = absurd cc
added-other o (k ∷ parts) [] part q other many ne = absurd cc
added-other o (k ∷ parts) (p ∷ ps) part q other many ne =
    let m = suc-of (length parts) (length ps) many in
    by-cons o k (parts ++ part ∷ []) p (ps ++ q ∷ []) other (many-more parts ps part q m)
    ∙ (ap (λ l. if bytes_eq p.name other then units_of o k else l) (added-other o parts ps part q other m ne) ∙ sym (by-cons o k parts p ps other m))

-- another list for a part that no partition has
pub named-apart : (o : Owning) (parts : List ℕ) (ps : List Logical) (part : ℕ) (list name : List ℕ) → length parts ≡ length ps → list_any (λ p. p == part) parts ≡ false →
    by_name (with_units o part list) parts ps name ≡ by_name o parts ps name
named-apart o parts ps part list name many free =
    by-place (with_units o part list) parts ps name many ∙ (by (slice_get_cases parts (position_or_len (at-name name) ps)).1 ∙ sym (by-place o parts ps name many))
  where
    by : ((k : ℕ) × (position_or_len (at-name name) ps < length parts) × (slice_get parts (position_or_len (at-name name) ps) ≡ Some k)
        × (get_or parts (position_or_len (at-name name) ps) k ≡ k)) ⊎ ((length parts ≤ position_or_len (at-name name) ps) × (slice_get parts (position_or_len (at-name name) ps) ≡ None)) →
        units_by (Some (with_units o part list)) (slice_get parts (position_or_len (at-name name) ps)) ≡ units_by (Some o) (slice_get parts (position_or_len (at-name name) ps))
    by (inl (k, l, e, q)) =
        let ne : k ≢ part = λ r. never (list_any (λ p. p == part) parts) (any-at parts (position_or_len (at-name name) ps) part (e ∙ ap Some r)) free in
        ap (units_by (Some (with_units o part list))) e ∙ (get_or-set_other o.parts part k list [] ne ∙ sym (ap (units_by (Some o)) e))
    by (inr (l, e)) = ap (units_by (Some (with_units o part list))) e ∙ sym (ap (units_by (Some o)) e)

-- a part that isn't among them is none of them
not-at : (parts : List ℕ) (part : ℕ) → list_any (λ p. p == part) parts ≡ false → (j k : ℕ) → slice_get parts j ≡ Some k → k ≢ part
not-at parts part free j k e r = never (list_any (λ p. p == part) parts) (any-at parts j part (e ∙ ap Some r)) free

once-one : (part : ℕ) → AreOnce (part ∷ [])
once-one part zero zero k e f = refl
once-one part zero (suc j) k e f = absurd cc
once-one part (suc i) j k e f = absurd cc

pushed-other : (p : ℕ) (parts : List ℕ) (part : ℕ) → p ≢ part → ((j k : ℕ) → slice_get parts j ≡ Some k → k ≢ p) → (j k : ℕ) → slice_get (parts ++ part ∷ []) j ≡ Some k → k ≢ p
pushed-other p [] part ne h zero k e r = let w : part ≡ k = cc in ne (sym r ∙ sym w)
pushed-other p [] part ne h (suc j) k e r = absurd cc
pushed-other p (x ∷ parts) part ne h zero k e r = h zero k e r
pushed-other p (x ∷ parts) part ne h (suc j) k e r = pushed-other p parts part ne (λ i m f. h (suc i) m f) j k e r

pub once-push : (parts : List ℕ) (part : ℕ) → AreOnce parts → ((j k : ℕ) → slice_get parts j ≡ Some k → k ≢ part) → AreOnce (parts ++ part ∷ [])
once-push [] part once h = once-one part
once-push (p ∷ parts) part once h =
    once-cons p (parts ++ part ∷ []) (pushed-other p parts part (h 0 p refl) (once-other p parts once)) (once-push parts part (once-rest p parts once) (λ j k e. h (suc j) k e))

-- what is so of all partitions, where none has the name
each-fresh : (P Q : Logical → Type 0) (name : List ℕ) (ps : List Logical) → not (among name (map (λ p. p.name) ps)) ≡ true → ((p : Logical) → p.name ≢ name → P p → Q p) → AllByRecursion P ps → AllByRecursion Q ps
each-fresh P Q name [] n step h = tt
each-fresh P Q name (p ∷ ps) n step h =
    let z = not-or (bytes_eq p.name name) (among name (map (λ q. q.name) ps)) n in
    (step p (λ e. never (bytes_eq p.name name) ((bytes_eq-Decides p.name name).1 e) z.0) h.0, each-fresh P Q name ps z.1 step h.1)

all-push : (P : Logical → Type 0) (ps : List Logical) (q : Logical) → AllByRecursion P ps → P q → AllByRecursion P (ps ++ q ∷ [])
all-push P [] q h k = (k, tt)
all-push P (p ∷ ps) q h k = (h.0, all-push P ps q h.1 k)

-- the partition that is made
abbrev pub new_logical : List ℕ → ℕ → Logical
new_logical name size = record { name = name; attributes = 0; group = codes "default"; bytes = replicate (round_up size) 0 }

names-pushed : (ps : List Logical) (q : Logical) → are_distinct (map (λ p. p.name) ps) ≡ true → not (among q.name (map (λ p. p.name) ps)) ≡ true → are_distinct (map (λ p. p.name) (ps ++ q ∷ [])) ≡ true
names-pushed ps q d n =
    ap are_distinct (map-append (λ p. p.name) ps (q ∷ []))
    ∙ distinct-join (map (λ p. p.name) ps) (q.name ∷ []) d refl (λ x m k. by x m k)
  where
    by : (x : List ℕ) → Mem x (map (λ p. p.name) ps) → (q.name ≡ x) ⊎ ⊥ → ⊥
    by x m (inl e) = never (among q.name (map (λ p. p.name) ps)) (mem-any q.name (map (λ p. p.name) ps) (subst (λ y. Mem y (map (λ p. p.name) ps)) (sym e) m)) (not-back (among q.name (map (λ p. p.name) ps)) n)
    by x m (inr e) = e

any-push : (parts : List ℕ) (part k : ℕ) → list_any (λ p. p == k) (parts ++ part ∷ []) ≡ false → (list_any (λ p. p == k) parts ≡ false) × ((part == k) ≡ false)
any-push [] part k h = (refl, (or-false (part == k) false h).0)
any-push (p ∷ parts) part k h =
    let a = or-false (p == k) (list_any (λ p. p == k) (parts ++ part ∷ [])) h in
    let b = any-push parts part k a.1 in
    (ap (λ x. x || list_any (λ p. p == k) parts) a.0 ∙ b.0, b.1)

module _ (layout : LayoutValue) (s : SuperPart) (state : State) (c : Content) (o now : Owning) (parts old name : List ℕ) (part count size : ℕ) (h : IsStoreSuper layout s state c o parts old)
    (free : list_any (λ p. p == part) parts ≡ false) (inside : part < 128) (e : now ≡ handed o part (take count (free_units o)))
    (fresh : not (among name (map (λ p. p.name) (device_in layout state c old).logical)) ≡ true) where
  -- the map has the new list for the part
  now-is : now ≡ with_units o part (take count (free_units o))
  now-is = e ∙ ap (λ l. with_units o part (l ++ take count (free_units o))) (h.mapped.empty part free)

  pub now-own : units_of now part ≡ take count (free_units o)
  now-own = ap (λ q. units_of q part) now-is ∙ get_or-set_same o.parts part (take count (free_units o)) [] (let m = h.mapped.many in omega arith)

  now-other : (other : List ℕ) → by_name now parts (device_in layout state c old).logical other ≡ by_name o parts (device_in layout state c old).logical other
  now-other other =
      ap (λ q. by_name q parts (device_in layout state c old).logical other) now-is
      ∙ named-apart o parts (device_in layout state c old).logical part (take count (free_units o)) other (store-many layout s state c o parts old h) free

  -- the device before, while bytes of the new units change
  pub create-before : (new : List ℕ) → IsTouched layout s (by_name o parts (device_in layout state c old).logical) (device_in layout state c old).logical name (units_of now part) 0 old new →
      device_in layout state c new ≡ device_in layout state c old
  create-before new tail =
      let dev = device_in layout state c old in
      let f = by_name o parts dev.logical in
      device-before layout s state c o parts old new h tail.physical
      (each-fresh (λ p. p.name ≢ name → LiesIn s (super_bytes layout s new) p (f p.name)) (λ p. LiesIn s (super_bytes layout s new) p (f p.name)) name dev.logical fresh (λ p ne x. x ne) tail.others)

  pub create-units : by_name now (parts ++ part ∷ []) ((device_in layout state c old).logical ++ new_logical name size ∷ []) name ≡ units_of now part
  create-units = added-own now parts (device_in layout state c old).logical part (new_logical name size) (store-many layout s state c o parts old h) fresh

  pub create-others : (other : List ℕ) → other ≢ name → by_name now (parts ++ part ∷ []) ((device_in layout state c old).logical ++ new_logical name size ∷ []) other ≡ by_name o parts (device_in layout state c old).logical other
  create-others other ne = added-other now parts (device_in layout state c old).logical part (new_logical name size) other (store-many layout s state c o parts old h) ne ∙ now-other other

  pub create-lists : map (λ p. by_name now (parts ++ part ∷ []) ((device_in layout state c old).logical ++ new_logical name size ∷ []) p.name) ((device_in layout state c old).logical ++ new_logical name size ∷ [])
      ≡ map (units_of now) (parts ++ part ∷ [])
  create-lists =
      let dev = device_in layout state c old in
      let d = store-device layout s state c o parts old h in
      by-names now (parts ++ part ∷ []) (dev.logical ++ new_logical name size ∷ []) (many-more parts dev.logical part (new_logical name size) (store-many layout s state c o parts old h))
      (names-pushed dev.logical (new_logical name size) d.units.names fresh)

  create-groups : is_group (device_in layout state c old).groups (codes "default") ≡ true →
      list_all (λ p. is_group (device_in layout state c old).groups p.group) ((device_in layout state c old).logical ++ new_logical name size ∷ []) ≡ true
  create-groups group =
      let dev = device_in layout state c old in
      let d = store-device layout s state c o parts old h in
      list_all-append (λ p. is_group dev.groups p.group) dev.logical (new_logical name size ∷ []) ∙ and-true _ _ d.units.groups (and-true _ _ group refl)

  -- the table that is written, whatever the bytes are
  pub create-table : count ≡ units_for s.unit (round_up size) → count ≤ length (free_units o) → is_group (device_in layout state c old).groups (codes "default") ≡ true →
      IsTableOf s (created name size (device_in layout state c old)) (map (units_of now) (parts ++ part ∷ []))
  create-table needs room group =
      let dev = device_in layout state c old in
      let d = store-device layout s state c o parts old h in
      let q = new_logical name size in
      let f = by_name o parts dev.logical in
      let g = by_name now (parts ++ part ∷ []) (dev.logical ++ q ∷ []) in
      let size-is : length q.bytes ≡ round_up size = length-replicate (round_up size) 0 in
      table-of-lists s g (created name size dev) (map (units_of now) (parts ++ part ∷ [])) d.bounded
      (all-push (λ p. IsFitted s.unit p (g p.name)) dev.logical q
      (each-fresh (λ p. IsFitted s.unit p (f p.name)) (λ p. IsFitted s.unit p (g p.name)) name dev.logical fresh (λ p ne x. subst (IsFitted s.unit p) (sym (create-others p.name ne)) x) d.units.fits)
      (record {
        many = ap length (create-units ∙ now-own) ∙ (length-take-le count (free_units o) room ∙ (needs ∙ ap (units_for s.unit) (sym size-is)));
        whole = ap (λ n. n % 4096) size-is ∙ eq-is (round_up size % 4096) 0 (whole-round size);
      }))
      (create-groups group) create-lists

  pub create-map : count ≡ units_for s.unit (round_up size) → count ≤ length (free_units o) → is_group (device_in layout state c old).groups (codes "default") ≡ true →
      IsMapOf s (table_for s (created name size (device_in layout state c old)) (map (units_of now) (parts ++ part ∷ []))) now (parts ++ part ∷ [])
  create-map needs room group = record {
    units = ap (λ (q : Owning). q.units) now-is ∙ h.mapped.units;
    many = ap (λ (q : Owning). length q.parts) now-is ∙ (length-set o.parts part (take count (free_units o)) ∙ h.mapped.many);
    there = list_all-append (λ part. nat_lt part 128) parts (part ∷ []) ∙ and-true _ _ h.mapped.there (and-true _ _ (grind (arith, nat_tests)) refl);
    lists = (create-table needs room group).units;
    apart = once-push parts part h.mapped.apart (not-at parts part free);
    empty = λ k x.
        let a = any-push parts part k x in
        let ne : k ≢ part = λ r. absurd (let b = a.1 in grind (arith, nat_tests)) in
        ap (λ q. units_of q k) now-is ∙ (get_or-set_other o.parts part k (take count (free_units o)) [] ne ∙ h.mapped.empty k a.0);
  }

  -- the device of the table that is written, over a file with zeros in the new units
  pub create-after : (new : List ℕ) → count ≡ units_for s.unit (round_up size) → count ≤ length (free_units o) → is_group (device_in layout state c old).groups (codes "default") ≡ true →
      IsFilled layout s (by_name o parts (device_in layout state c old).logical) (device_in layout state c old).logical name (units_of now part) 0 (round_up size) old new →
      device_in layout state (table_for s (created name size (device_in layout state c old)) (map (units_of now) (parts ++ part ∷ []))) new ≡ created name size (device_in layout state c old)
  create-after new needs room group padded =
      let dev = device_in layout state c old in
      let d = store-device layout s state c o parts old h in
      let q = new_logical name size in
      let next = created name size dev in
      let f = by_name o parts dev.logical in
      let g = by_name now (parts ++ part ∷ []) next.logical in
      let table = create-table needs room group in
      let units : HasUnits layout s new g next = record {
        names = names-pushed dev.logical q d.units.names fresh;
        lies = all-push (λ p. LiesIn s (super_bytes layout s new) p (g p.name)) dev.logical q
            (each-fresh (λ p. p.name ≢ name → LiesIn s (super_bytes layout s new) p (f p.name)) (λ p. LiesIn s (super_bytes layout s new) p (g p.name)) name dev.logical fresh
            (λ p ne x. subst (LiesIn s (super_bytes layout s new) p) (sym (create-others p.name ne)) (x ne)) padded.touched.others)
            (subst (LiesIn s (super_bytes layout s new) q) (sym create-units) (zeros-lie layout s q (units_of now part) (round_up size) old new refl padded.padded));
        fits = fit-each s.unit g next.logical (subst (AreFitted s.unit next.logical) (sym create-lists) table.fitted);
        groups = create-groups group;
      } in
      device-after layout s state new g next (map (units_of now) (parts ++ part ∷ [])) h.part d.bounded (of-logical layout state old new dev next.logical d.same padded.touched.physical) units create-lists
