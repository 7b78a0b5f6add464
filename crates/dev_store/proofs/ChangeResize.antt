-- A partition of another length: the device, the map of units and the units of each name.
use Rattle.std.proofs.Common.{◌≡◌, ◌≢◌, ◌∙◌, refl, ap, sym, subst, ℕ, zero, suc, ◌+◌, ◌-◌, ◌<◌, ◌≤◌, Bool, true, false, List, [], ◌∷◌, ◌++◌, map, length, take, drop, arith, Some, length-append, length-set}
use Rattle.std.specs.Prelude.{not, find, ◌%◌, nat_lt, slice_get, bytes_eq, if◌then◌else◌}
use Rattle.std.specs.List.{list_all, position_or_len, AllByRecursion}
use Rattle.std.proofs.lemmas.List.{take_all, length-take}
use Rattle.std.proofs.lemmas.Bool.Decides.{nat_tests}
use Rattle.std.proofs.lemmas.Slice.Eq.{bytes_eq-Decides}
use Rattle.fb_frame.specs.Bytes.{zeros}
use Rattle.dev_model.specs.declared.device.Dev.{Dev}
use Rattle.dev_model.specs.declared.device.Logical.{Logical}
use Rattle.dev_model.specs.Partitions.{logical_changed}
use Rattle.dev_model.specs.Sizes.{units_for}
use Rattle.dev_model.specs.Images.{round_up}
use Rattle.dev_model.specs.declared.step.Step.TheVariants.{Resize}
use Rattle.dev_model.specs.Steps.{cut_or_padded, apply}
use Rattle.fb_frame.specs.Distinct.{are_distinct}
use Rattle.dev_model.proofs.Names.{among}
use Rattle.dev_model.specs.Tables.{is_group}
use Rattle.dev_model.proofs.Valid.{map-same, all-same, both}
use Rattle.dev_model.proofs.ValidSizes.{length-cut, whole-round}
use Rattle.unit_alloc.specs.Owning.{Owning, OneOwner, free_units, units_of}
use Rattle.super_meta.specs.Contents.{Content}
use Rattle.dev_store.specs.declared.layout.SuperPart.{SuperPart}
use Rattle.dev_store.specs.declared.state.State.{State}
use Rattle.dev_store.specs.LayoutLines.{unit_count}
use Rattle.dev_store.specs.Layouts.{LayoutValue}
use Rattle.dev_store.specs.Runs.{table_for}
use Rattle.dev_store.specs.Supers.{units_bytes}
use Rattle.dev_store.specs.SuperBounds.{IsMapOf}
use Rattle.dev_store.specs.Held.{units_by}
use Rattle.dev_store.specs.Stand.{super_bytes, physical_at, device_with}
use Rattle.dev_store.proofs.ChangeHeld.{IsDeviceOf, value_in}
use Rattle.dev_store.proofs.ChangeNamed.{by_name, at-name, by-place, by-names, fit-each, not-or, eq-is}
use Rattle.dev_store.proofs.ChangeBytes.{IsTouched, IsFilled, super-long, padded-lies, kept-lies}
use Rattle.dev_store.proofs.ChangeStore.{HasUnits, device_in, file-long, store-device, store-many}
use Rattle.dev_store.proofs.ChangeAfter.{IsTableOf, table-of-lists, device-after, device-before}
use Rattle.dev_store.proofs.ChangeOne.{IsOneChanged, one-changed, below-of, empty-one}
use Rattle.dev_store.specs.TableChanges.{IsFitted, AreFitted, LiesIn, IsStoreSuper, regrown}

-- the partition of the name is this long
abbrev pub IsLong : List ℕ → ℕ → List Logical → Type 0
IsLong name len ps = AllByRecursion (λ p. p.name ≡ name → length p.bytes ≡ len) ps

module _ (layout : LayoutValue) (s : SuperPart) (old new : List ℕ) (f g : List ℕ → List ℕ) (name more : List ℕ) (len count size : ℕ) (long : length (super_bytes layout s old) ≡ s.size) (pos : 0 < s.unit)
    (below : list_all (λ u. nat_lt u (unit_count s)) (f name) ≡ true) (many : count ≡ units_for s.unit size) (own : g name ≡ take count (f name) ++ more)
    (others : (other : List ℕ) → other ≢ name → g other ≡ f other)
    (kept : take len (units_bytes s (super_bytes layout s new) (g name)) ≡ take len (units_bytes s (super_bytes layout s old) (g name)))
    (padded : take (size - len) (drop len (units_bytes s (super_bytes layout s new) (g name))) ≡ zeros (size - len)) where
  -- the one of the name lies in its new units
  own-after : (p : Logical) → p.name ≡ name → length p.bytes ≡ len → IsFitted s.unit p (f p.name) → LiesIn s (super_bytes layout s old) p (f p.name) →
      LiesIn s (super_bytes layout s new) (record p { bytes = cut_or_padded size p.bytes }) (g p.name)
  own-after p e n fit lies =
      let is : g p.name ≡ take count (f name) ++ more = ap g e ∙ own in
      subst (LiesIn s (super_bytes layout s new) (record p { bytes = cut_or_padded size p.bytes })) (sym is)
      (padded-lies layout s p (f name) more count size old new long pos below (subst (λ x. IsFitted s.unit p (f x)) e fit) (subst (λ x. LiesIn s (super_bytes layout s old) p (f x)) e lies) many
      (subst (λ l. take (length p.bytes) (units_bytes s (super_bytes layout s new) l) ≡ take (length p.bytes) (units_bytes s (super_bytes layout s old) l)) own
      (subst (λ k. take k (units_bytes s (super_bytes layout s new) (g name)) ≡ take k (units_bytes s (super_bytes layout s old) (g name))) (sym n) kept))
      (subst (λ l. take (size - length p.bytes) (drop (length p.bytes) (units_bytes s (super_bytes layout s new) l)) ≡ zeros (size - length p.bytes)) own
      (subst (λ k. take (size - k) (drop k (units_bytes s (super_bytes layout s new) (g name))) ≡ zeros (size - k)) (sym n) padded)))

  part-after : (p : Logical) → (p.name ≡ name → length p.bytes ≡ len) → IsFitted s.unit p (f p.name) → LiesIn s (super_bytes layout s old) p (f p.name) →
      (p.name ≢ name → LiesIn s (super_bytes layout s new) p (f p.name)) → (b : Bool) → bytes_eq p.name name ≡ b →
      LiesIn s (super_bytes layout s new) (record p { bytes = (if b then cut_or_padded size else λ bytes. bytes) p.bytes }) (g p.name)
  part-after p n fit lies other true e = let is = (bytes_eq-Decides p.name name).0 e in own-after p is (n is) fit lies
  part-after p n fit lies other false e =
      let ne : p.name ≢ name = λ q. never (bytes_eq p.name name) ((bytes_eq-Decides p.name name).1 q) e in
      subst (LiesIn s (super_bytes layout s new) p) (sym (others p.name ne)) (other ne)
    where
      never : (b : Bool) → b ≡ true → b ≡ false → ⊥
      never b h k = cc

  pub parts-after : (ps : List Logical) → IsLong name len ps → AllByRecursion (λ p. IsFitted s.unit p (f p.name)) ps → AllByRecursion (λ p. LiesIn s (super_bytes layout s old) p (f p.name)) ps →
      AllByRecursion (λ p. p.name ≢ name → LiesIn s (super_bytes layout s new) p (f p.name)) ps →
      AllByRecursion (λ p. LiesIn s (super_bytes layout s new) p (g p.name)) (map (logical_changed name (cut_or_padded size)) ps)
  parts-after [] n fits lies other = tt
  parts-after (p ∷ ps) n fits lies other = (part-after p n.0 fits.0 lies.0 other.0 (bytes_eq p.name name) refl, parts-after ps n.1 fits.1 lies.1 other.1)

module _ (unit : ℕ) (f g : List ℕ → List ℕ) (name : List ℕ) (count size : ℕ) (many : count ≡ units_for unit size) (whole : size % 4096 ≡ 0) (enough : length (g name) ≡ count)
    (others : (other : List ℕ) → other ≢ name → g other ≡ f other) where
  -- each partition has as many units as it needs
  fit-after : (p : Logical) → IsFitted unit p (f p.name) → (b : Bool) → bytes_eq p.name name ≡ b → IsFitted unit (record p { bytes = (if b then cut_or_padded size else λ bytes. bytes) p.bytes }) (g p.name)
  fit-after p fit true e =
      let is = (bytes_eq-Decides p.name name).0 e in
      record {
        many = ap (λ x. length (g x)) is ∙ (enough ∙ (many ∙ ap (units_for unit) (sym (length-cut size p.bytes))));
        whole = ap (λ n. n % 4096) (length-cut size p.bytes) ∙ whole;
      }
  fit-after p fit false e = subst (IsFitted unit p) (sym (others p.name (λ q. never (bytes_eq p.name name) ((bytes_eq-Decides p.name name).1 q) e))) fit
    where
      never : (b : Bool) → b ≡ true → b ≡ false → ⊥
      never b h k = cc

  pub fits-after : (ps : List Logical) → AllByRecursion (λ p. IsFitted unit p (f p.name)) ps → AllByRecursion (λ p. IsFitted unit p (g p.name)) (map (logical_changed name (cut_or_padded size)) ps)
  fits-after [] fits = tt
  fits-after (p ∷ ps) fits = (fit-after p fits.0 (bytes_eq p.name name) refl, fits-after ps fits.1)

module _ (layout : LayoutValue) (s : SuperPart) (old new : List ℕ) (f : List ℕ → List ℕ) (name list : List ℕ) (long : length (super_bytes layout s old) ≡ s.size)
    (long-new : length (super_bytes layout s new) ≡ s.size) (pos : 0 < s.unit) (below : list_all (λ u. nat_lt u (unit_count s)) (f name) ≡ true) (len : ℕ) (more : List ℕ) (own : list ≡ f name ++ more)
    (kept : take len (units_bytes s (super_bytes layout s new) list) ≡ take len (units_bytes s (super_bytes layout s old) list)) where
  -- each partition still lies in its units, where only bytes after those of the name changed
  part-before : (p : Logical) → (p.name ≡ name → length p.bytes ≡ len) → IsFitted s.unit p (f p.name) → LiesIn s (super_bytes layout s old) p (f p.name) →
      (p.name ≢ name → LiesIn s (super_bytes layout s new) p (f p.name)) → (b : Bool) → bytes_eq p.name name ≡ b → LiesIn s (super_bytes layout s new) p (f p.name)
  part-before p n fit lies other true e =
      let is = (bytes_eq-Decides p.name name).0 e in
      subst (λ x. LiesIn s (super_bytes layout s new) p (f x)) (sym is)
      (kept-lies layout s p (f name) more old new long long-new pos below (subst (λ x. IsFitted s.unit p (f x)) is fit) (subst (λ x. LiesIn s (super_bytes layout s old) p (f x)) is lies)
      (subst (λ l. take (length p.bytes) (units_bytes s (super_bytes layout s new) l) ≡ take (length p.bytes) (units_bytes s (super_bytes layout s old) l)) own
      (subst (λ k. take k (units_bytes s (super_bytes layout s new) list) ≡ take k (units_bytes s (super_bytes layout s old) list)) (sym (n is)) kept)))
  part-before p n fit lies other false e = other (λ q. never (bytes_eq p.name name) ((bytes_eq-Decides p.name name).1 q) e)
    where
      never : (b : Bool) → b ≡ true → b ≡ false → ⊥
      never b h k = cc

  pub parts-before : (ps : List Logical) → IsLong name len ps → AllByRecursion (λ p. IsFitted s.unit p (f p.name)) ps → AllByRecursion (λ p. LiesIn s (super_bytes layout s old) p (f p.name)) ps →
      AllByRecursion (λ p. p.name ≢ name → LiesIn s (super_bytes layout s new) p (f p.name)) ps → AllByRecursion (λ p. LiesIn s (super_bytes layout s new) p (f p.name)) ps
  parts-before [] n fits lies other = tt
  parts-before (p ∷ ps) n fits lies other = (part-before p n.0 fits.0 lies.0 other.0 (bytes_eq p.name name) refl, parts-before ps n.1 fits.1 lies.1 other.1)

-- the bytes of the partition of a name are as many as those of the first that is found
none-long : (name : List ℕ) (len : ℕ) (ps : List Logical) → not (among name (map (λ p. p.name) ps)) ≡ true → IsLong name len ps
none-long name len [] h = tt
none-long name len (p ∷ ps) h =
    let n = not-or (bytes_eq p.name name) (among name (map (λ q. q.name) ps)) h in
    (λ e. absurd (never (bytes_eq p.name name) ((bytes_eq-Decides p.name name).1 e) n.0), none-long name len ps n.1)
  where
    never : (b : Bool) → b ≡ true → b ≡ false → ⊥
    never b h k = cc

pub found-long : (name : List ℕ) (ps : List Logical) (p : Logical) → are_distinct (map (λ p. p.name) ps) ≡ true → find (at-name name) ps ≡ Some p → IsLong name (length p.bytes) ps
found-long name [] p d h = tt
found-long name (q ∷ ps) p d h = by (bytes_eq q.name name) refl h (found-long name ps p (both (not (among q.name (map (λ q. q.name) ps))) _ d).1)
  where
    never : (b : Bool) → b ≡ true → b ≡ false → ⊥
    never b h k = cc

    by : (b : Bool) → bytes_eq q.name name ≡ b → (if b then Some q else find (at-name name) ps) ≡ Some p → (find (at-name name) ps ≡ Some p → IsLong name (length p.bytes) ps) → IsLong name (length p.bytes) (q ∷ ps)
    by true e k more =
        let is : q ≡ p = cc in
        let same = (bytes_eq-Decides q.name name).0 e in
        (λ x. ap (λ (y : Logical). length y.bytes) is, none-long name (length p.bytes) ps (subst (λ x. not (among x (map (λ q. q.name) ps)) ≡ true) same (both (not (among q.name (map (λ q. q.name) ps))) _ d).0))
    by false e k more = (λ x. absurd (never (bytes_eq q.name name) ((bytes_eq-Decides q.name name).1 x) e), more k)

-- What a store comes to where the table is written for a device, over a file: the table gives the device and the
-- map of units.
pub record IsWrittenFor (layout : LayoutValue) (s : SuperPart) (state : State) (now : Owning) (parts new : List ℕ) (dev : Dev) : Type 0 where
  pub device : device_in layout state (table_for s dev (map (units_of now) parts)) new ≡ dev
  pub mapped : IsMapOf s (table_for s dev (map (units_of now) parts)) now parts
  pub fitted : AreFitted s.unit dev.logical (map (units_of now) parts)

-- how many units a part has that grew as far as there were free ones
grown-many : (own free : List ℕ) (count : ℕ) → count ≤ length own + length free → length (take count own ++ take (count - length own) free) ≡ count
grown-many own free count h =
    let a = length-append (take count own) (take (count - length own) free) in
    let b = length-take count own in
    let c = length-take (count - length own) free in
    omega arith

-- the device with other logical partitions
pub of-logical : (layout : LayoutValue) (state : State) (old new : List ℕ) (dev : Dev) (ls : List Logical) → IsDeviceOf layout state old dev → physical_at 12288 layout.physical new ≡ physical_at 12288 layout.physical old →
    IsDeviceOf layout state new (record dev { logical = ls })
of-logical layout state old new dev ls h same =
    ap (λ (d : Dev). let e : Dev = record d { logical = ls } in e) h ∙ ap (λ ps. device_with layout state ps (record (value_in dev) { logical = ls })) (sym same)

inside-of : (parts : List ℕ) (i part : ℕ) → list_all (λ part. nat_lt part 128) parts ≡ true → slice_get parts i ≡ Some part → part < 128
inside-of [] i part h at = absurd cc
inside-of (p ∷ parts) zero part h at = let e : p ≡ part = cc in let b = (both (nat_lt p 128) _ h).0 in grind (arith, nat_tests)
inside-of (p ∷ parts) (suc i) part h at = inside-of parts i part (both (nat_lt p 128) _ h).1 at

-- the part of a partition is one of the map's
pub part-inside : (s : SuperPart) (c : Content) (o : Owning) (parts : List ℕ) (i part : ℕ) → IsMapOf s c o parts → slice_get parts i ≡ Some part → part < length o.parts
part-inside s c o parts i part h at = let l = inside-of parts i part h.there at in omega (arith, l, h.many)

-- the units of a name are those of its part
pub part-own : (o : Owning) (parts : List ℕ) (ps : List Logical) (name : List ℕ) (part : ℕ) → length parts ≡ length ps → slice_get parts (position_or_len (at-name name) ps) ≡ Some part → by_name o parts ps name ≡ units_of o part
part-own o parts ps name part many at = by-place o parts ps name many ∙ ap (units_by (Some o)) at

-- the units of a part that has as many
abbrev regrown-list : Owning → ℕ → ℕ → List ℕ
regrown-list o part count = take count (units_of o part) ++ take (count - length (units_of o part)) (free_units o)

-- the names of partitions of which one has another length
pub resized-names : (name : List ℕ) (size : ℕ) (ps : List Logical) → map (λ p. p.name) (map (logical_changed name (cut_or_padded size)) ps) ≡ map (λ p. p.name) ps
resized-names name size ps = map-same (logical_changed name (cut_or_padded size)) (λ p. p.name) (λ p. refl) ps

module _ (layout : LayoutValue) (s : SuperPart) (state : State) (c : Content) (o now : Owning) (parts old name : List ℕ) (part size : ℕ) (h : IsStoreSuper layout s state c o parts old)
    (at : slice_get parts (position_or_len (at-name name) (device_in layout state c old).logical) ≡ Some part) (e : now ≡ regrown o part (units_for s.unit (round_up size))) (one : OneOwner now)
    (room : units_for s.unit (round_up size) ≤ length (units_of o part) + length (free_units o)) where
  pub resized-one : IsOneChanged o now parts (device_in layout state c old).logical name (regrown-list o part (units_for s.unit (round_up size)))
  resized-one =
      one-changed o now parts (device_in layout state c old).logical name (regrown-list o part (units_for s.unit (round_up size))) part (store-many layout s state c o parts old h) h.mapped.apart at
      (part-inside s c o parts (position_or_len (at-name name) (device_in layout state c old).logical) part h.mapped at) e

  pub resized-many : length (by_name now parts (device_in layout state c old).logical name) ≡ units_for s.unit (round_up size)
  resized-many = ap length resized-one.own ∙ grown-many (units_of o part) (free_units o) (units_for s.unit (round_up size)) room

  -- the map of units and the table that is written, whatever the bytes are
  pub resize-table : IsTableOf s (apply (Resize name size) (device_in layout state c old)) (map (units_of now) parts)
  resize-table =
      let dev = device_in layout state c old in
      let d = store-device layout s state c o parts old h in
      let count = units_for s.unit (round_up size) in
      let g = by_name now parts dev.logical in
      let ch = resized-one in
      table-of-lists s g (apply (Resize name size) dev) (map (units_of now) parts) d.bounded
      (fits-after s.unit (by_name o parts dev.logical) g name count (round_up size) refl (eq-is (round_up size % 4096) 0 (whole-round size))
      resized-many ch.others dev.logical d.units.fits)
      (all-same (logical_changed name (cut_or_padded (round_up size))) (λ p. is_group dev.groups p.group) (λ p. refl) dev.logical ∙ d.units.groups)
      (map-same (logical_changed name (cut_or_padded (round_up size))) (λ p. g p.name) (λ p. refl) dev.logical ∙ by-names now parts dev.logical (store-many layout s state c o parts old h) d.units.names)

  pub resize-map : IsMapOf s (table_for s (apply (Resize name size) (device_in layout state c old)) (map (units_of now) parts)) now parts
  resize-map = record {
    units = ap (λ (q : Owning). q.units) e ∙ h.mapped.units;
    many = ap (λ (q : Owning). length q.parts) e ∙ (length-set o.parts part (regrown-list o part (units_for s.unit (round_up size))) ∙ h.mapped.many);
    there = h.mapped.there;
    lists = resize-table.units;
    apart = h.mapped.apart;
    empty = empty-one o now parts (position_or_len (at-name name) (device_in layout state c old).logical) part (regrown-list o part (units_for s.unit (round_up size))) at e h.mapped.empty;
  }

  -- the device of the table that is written, over a file in which zeros follow the partition's bytes
  pub resize-after : (new : List ℕ) (len : ℕ) → IsLong name len (device_in layout state c old).logical →
      IsFilled layout s (by_name o parts (device_in layout state c old).logical) (device_in layout state c old).logical name (units_of now part) len (round_up size) old new →
      device_in layout state (table_for s (apply (Resize name size) (device_in layout state c old)) (map (units_of now) parts)) new ≡ apply (Resize name size) (device_in layout state c old)
  resize-after new len n padded =
      let dev = device_in layout state c old in
      let d = store-device layout s state c o parts old h in
      let count = units_for s.unit (round_up size) in
      let own = units_of o part in
      let more = take (count - length own) (free_units o) in
      let many = store-many layout s state c o parts old h in
      let f = by_name o parts dev.logical in
      let g = by_name now parts dev.logical in
      let is : f name ≡ own = part-own o parts dev.logical name part many at in
      let ch = resized-one in
      let four = d.bounded.unit in
      let pos : 0 < s.unit = omega arith in
      let g-is : g name ≡ take count (f name) ++ more = ch.own ∙ ap (λ l. take count l ++ more) (sym is) in
      let g-own : units_of now part ≡ g name = sym (part-own now parts dev.logical name part many at) in
      let next = apply (Resize name size) dev in
      let below = below-of o parts dev.logical name (unit_count s) many h.one h.mapped.units in
      let table = resize-table in
      let lists : map (λ p. g p.name) next.logical ≡ map (units_of now) parts =
      map-same (logical_changed name (cut_or_padded (round_up size))) (λ p. g p.name) (λ p. refl) dev.logical ∙ by-names now parts dev.logical many d.units.names in
      let units : HasUnits layout s new g next = record {
        names = ap are_distinct (resized-names name (round_up size) dev.logical) ∙ d.units.names;
        lies = parts-after layout s old new f g name more len count (round_up size) d.long pos below refl g-is ch.others
            (subst (λ l. take len (units_bytes s (super_bytes layout s new) l) ≡ take len (units_bytes s (super_bytes layout s old) l)) g-own padded.touched.kept)
            (subst (λ l. take (round_up size - len) (drop len (units_bytes s (super_bytes layout s new) l)) ≡ zeros (round_up size - len)) g-own padded.padded)
            dev.logical n d.units.fits d.units.lies padded.touched.others;
        fits = fit-each s.unit g next.logical (subst (AreFitted s.unit next.logical) (sym lists) table.fitted);
        groups = all-same (logical_changed name (cut_or_padded (round_up size))) (λ p. is_group dev.groups p.group) (λ p. refl) dev.logical ∙ d.units.groups;
      } in
      device-after layout s state new g next (map (units_of now) parts) h.part d.bounded (of-logical layout state old new dev next.logical d.same padded.touched.physical) units lists

-- the device before, while bytes after those of the partition change in the units that it is to have
pub resize-before : (layout : LayoutValue) (s : SuperPart) (state : State) (c : Content) (o now : Owning) (parts old new name : List ℕ) (part len count : ℕ) → IsStoreSuper layout s state c o parts old →
    slice_get parts (position_or_len (at-name name) (device_in layout state c old).logical) ≡ Some part → now ≡ regrown o part count → OneOwner now → length (units_of o part) ≤ count →
    IsLong name len (device_in layout state c old).logical →
    IsTouched layout s (by_name o parts (device_in layout state c old).logical) (device_in layout state c old).logical name (units_of now part) len old new → device_in layout state c new ≡ device_in layout state c old
resize-before layout s state c o now parts old new name part len count h at e one grows n tail =
    let dev = device_in layout state c old in
    let d = store-device layout s state c o parts old h in
    let own = units_of o part in
    let more = take (count - length own) (free_units o) in
    let list = take count own ++ more in
    let many = store-many layout s state c o parts old h in
    let inside = part-inside s c o parts (position_or_len (at-name name) dev.logical) part h.mapped at in
    let f = by_name o parts dev.logical in
    let is : f name ≡ own = part-own o parts dev.logical name part many at in
    let ch = one-changed o now parts dev.logical name list part many h.mapped.apart at inside e in
    let four = d.bounded.unit in
    let pos : 0 < s.unit = omega arith in
    let now-is : units_of now part ≡ list = sym (part-own now parts dev.logical name part many at) ∙ ch.own in
    let keeps : list ≡ f name ++ more = ap (λ l. l ++ more) (take_all count own grows ∙ sym is) in
    let long-new : length (super_bytes layout s new) ≡ s.size = super-long layout s new (omega (arith, file-long layout s old h.part h.kept.long, tail.same_length)) in
    device-before layout s state c o parts old new h tail.physical
    (parts-before layout s old new f name list d.long long-new pos (below-of o parts dev.logical name (unit_count s) many h.one h.mapped.units) len more keeps
    (subst (λ l. take len (units_bytes s (super_bytes layout s new) l) ≡ take len (units_bytes s (super_bytes layout s old) l)) now-is tail.kept) dev.logical n d.units.fits d.units.lies tail.others)
