-- What writing in the partition of the next table leaves of the partitions of the table before.
use Rattle.std.proofs.Common.{◌≡◌, ◌≢◌, ◌∙◌, refl, ap, sym, subst, ℕ, ◌+◌, ◌-◌, ◌≤◌, Bool, true, false, List, [], ◌∷◌, ◌++◌, map, length, take, drop, arith, Some, append-nil, drop_of_length-le, ◌<◌, ◌*◌, codes}
use Rattle.dev_store.proofs.ToldLemmas.{zeros-long}
use Rattle.dev_store.proofs.ChangeCreate.{new_logical, create-lists, create-table, create-map, create-units, create-others, now-own, many-more}
use Rattle.dev_model.specs.Tables.{is_group}
use Rattle.dev_store.proofs.ChangeBytes.{IsTouched, IsFilled}
use Rattle.fb_frame.specs.Bytes.{zeros}
use Rattle.dev_model.specs.declared.device.Physical.{Physical}
use Rattle.std.proofs.Math.Seq.{take-append_seam, drop-append_seam}
use Rattle.std.proofs.lemmas.List.{length-take-le, take-take, drop-take, length-replicate}
use Rattle.std.specs.Prelude.{◌||◌, bytes_eq, if◌then◌else◌, slice_get, nat_lt, not, ◌==◌}
use Rattle.std.specs.List.{list_all, list_any, position_or_len, AllByRecursion}
use Rattle.std.proofs.lemmas.Grind.{div_ceil_times}
use Rattle.std.proofs.lemmas.Slice.Eq.{bytes_eq-Decides}
use Rattle.dev_disk.specs.Files.{written}
use Rattle.dev_model.specs.declared.device.Dev.{Dev}
use Rattle.dev_model.specs.declared.device.Logical.{Logical}
use Rattle.dev_model.specs.Partitions.{physical_changed, logical_changed, is_physical}
use Rattle.dev_model.specs.Images.{round_up}
use Rattle.dev_model.specs.Sizes.{units_for}
use Rattle.dev_model.specs.declared.step.Step.TheVariants.{Resize}
use Rattle.dev_model.specs.Steps.{cut_or_padded, apply, created}
use Rattle.dev_model.specs.Validity.{IsValid}
use Rattle.dev_model.proofs.Names.{among, any-mem, distinct-apart}
use Rattle.dev_model.proofs.Valid.{map-same}
use Rattle.dev_model.proofs.ValidTable.{any-map}
use Rattle.unit_alloc.specs.Owning.{Owning, OneOwner, free_units, handed}
use Rattle.unit_alloc.specs.Owning.{units_of as units_owned}
use Rattle.dev_model.proofs.ValidSizes.{length-cut}
use Rattle.super_meta.specs.declared.table.Partition.{Partition}
use Rattle.super_meta.specs.Contents.{Content}
use Rattle.dev_store.specs.declared.layout.SuperPart.{SuperPart}
use Rattle.dev_store.specs.declared.state.State.{State}
use Rattle.dev_store.specs.Changes.{put_at}
use Rattle.dev_store.specs.LayoutLines.{unit_count}
use Rattle.dev_store.specs.Layouts.{LayoutValue}
use Rattle.dev_store.specs.Runs.{table_for}
use Rattle.dev_store.specs.Supers.{units_bytes, logical_at}
use Rattle.dev_store.specs.Stand.{super_bytes, physical_at}
use Rattle.dev_store.specs.Held.{device_held, units_by}
use Rattle.dev_store.proofs.PartDevices.{unnamed, physical-keeps, names-apart, not-among}
use Rattle.dev_store.proofs.ValidSuper.{units-long}
use Rattle.dev_store.proofs.ChangeNamed.{by_name, at-name, by-place, by-names}
use Rattle.dev_store.proofs.ChangeOne.{below-of}
use Rattle.dev_store.proofs.ChangeResize.{resize-table, resize-map, resized-one, resized-many}
use Rattle.dev_store.proofs.ChangeStore.{device_in, held-logical, store-device, store-many}
use Rattle.dev_store.specs.TableChanges.{AreEntriesOf, LiesIn, IsStoreSuper, regrown}

-- a partition with the bytes that lie in its units
abbrev pub lying : SuperPart → List ℕ → (List ℕ → List ℕ) → Logical → Logical
lying s super g p = record p { bytes = take (length p.bytes) (units_bytes s super (g p.name)) }

-- what a table gives of these partitions, whatever lies in their units
pub entries-lying : (s : SuperPart) (c : Content) (super : List ℕ) (g : List ℕ → List ℕ) (es : List Partition) (ps : List Logical) → AreEntriesOf s c es ps (map (λ p. g p.name) ps) →
    map (logical_at s c super) es ≡ map (lying s super g) ps
entries-lying s c super g [] [] h = refl
entries-lying s c super g (e ∷ es) (p ∷ ps) h =
    let x = h.0 in
    let one : logical_at s c super e ≡ lying s super g p =
    λ i. record { name = x.name i; attributes = x.attributes i; group = x.group i; bytes = take (x.long i) (units_bytes s super (x.units i)) } in
    let more = entries-lying s c super g es ps h.1 in
    λ i. one i ∷ more i
entries-lying s c super g [] (p ∷ ps) h = absurd h
entries-lying s c super g (e ∷ es) [] h = absurd h

-- the bytes in the units of each partition before and after a write in the one of the name
abbrev pub IsPut : SuperPart → List ℕ → List ℕ → (List ℕ → List ℕ) → List ℕ → (List ℕ → List ℕ) → Logical → Type 0
IsPut s old new g name change p =
    (p.name ≡ name → take (length p.bytes) (units_bytes s new (g p.name)) ≡ change (take (length p.bytes) (units_bytes s old (g p.name))))
    × (p.name ≢ name → take (length p.bytes) (units_bytes s new (g p.name)) ≡ take (length p.bytes) (units_bytes s old (g p.name)))

put-one : (s : SuperPart) (old new : List ℕ) (g : List ℕ → List ℕ) (name : List ℕ) (change : List ℕ → List ℕ) (p : Logical) → lying s new g p ≡ logical_changed name change (lying s old g p) → IsPut s old new g name change p
put-one s old new g name change p h =
    let b = ap (λ (q : Logical). q.bytes) h in (
      (λ e. b ∙ ap (λ t. (if t then change else λ x. x) (take (length p.bytes) (units_bytes s old (g p.name)))) ((bytes_eq-Decides p.name name).1 e)),
      (λ ne. b ∙ ap (λ t. (if t then change else λ x. x) (take (length p.bytes) (units_bytes s old (g p.name)))) (differ p.name name ne)),
    )
  where
    differ : (a b : List ℕ) → a ≢ b → bytes_eq a b ≡ false
    differ a b ne = by (bytes_eq a b) refl where
      by : (x : Bool) → bytes_eq a b ≡ x → x ≡ false
      by true e = absurd (ne ((bytes_eq-Decides a b).0 e))
      by false e = refl

first-same : (x y : Logical) (xs ys : List Logical) → (x ∷ xs) ≡ (y ∷ ys) → (x ≡ y) × (xs ≡ ys)
first-same x y xs ys h = (cc, cc)

put-each : (s : SuperPart) (old new : List ℕ) (g : List ℕ → List ℕ) (name : List ℕ) (change : List ℕ → List ℕ) (ps : List Logical) → map (lying s new g) ps ≡ map (logical_changed name change) (map (lying s old g) ps) →
    AllByRecursion (IsPut s old new g name change) ps
put-each s old new g name change [] h = tt
put-each s old new g name change (p ∷ ps) h =
    let both = first-same (lying s new g p) (logical_changed name change (lying s old g p)) (map (lying s new g) ps) (map (logical_changed name change) (map (lying s old g) ps)) h in
    (put-one s old new g name change p both.0, put-each s old new g name change ps both.1)

-- A write in the partition of the name by the next table: what it leaves in the units of each of its partitions.
pub puts-lie : (layout : LayoutValue) (s : SuperPart) (state : State) (c : Content) (old new name : List ℕ) (g : List ℕ → List ℕ) (at : ℕ) (bytes : List ℕ) (ps : List Logical) → layout.super_part ≡ Some s →
    AreEntriesOf s c c.partitions ps (map (λ p. g p.name) ps) → device_in layout state c new ≡ put_at name at bytes (device_in layout state c old) →
    AllByRecursion (IsPut s (super_bytes layout s old) (super_bytes layout s new) g name (λ b. written b at bytes)) ps
puts-lie layout s state c old new name g at bytes ps part entries put =
    let before = held-logical layout s state c old part ∙ entries-lying s c (super_bytes layout s old) g c.partitions ps entries in
    let after = held-logical layout s state c new part ∙ entries-lying s c (super_bytes layout s new) g c.partitions ps entries in
    put-each s (super_bytes layout s old) (super_bytes layout s new) g name (λ b. written b at bytes) ps
    (sym after ∙ (ap (λ (d : Dev). d.logical) put ∙ ap (map (logical_changed name (λ b. written b at bytes))) before))

-- the physical partitions of a store's device are those of its file
physical-in : (layout : LayoutValue) (state : State) (c : Content) (file : List ℕ) → (device_in layout state c file).physical ≡ physical_at 12288 layout.physical file
unfolding device_held
physical-in layout state c file = refl

pub puts-physical : (layout : LayoutValue) (state : State) (c : Content) (old new name : List ℕ) (at : ℕ) (bytes : List ℕ) → among name (map (λ p. p.name) (physical_at 12288 layout.physical old)) ≡ false →
    device_in layout state c new ≡ put_at name at bytes (device_in layout state c old) → physical_at 12288 layout.physical new ≡ physical_at 12288 layout.physical old
puts-physical layout state c old new name at bytes apart put =
    let change = λ (b : List ℕ). written b at bytes in
    sym (physical-in layout state c new)
    ∙ (ap (λ (d : Dev). d.physical) put
    ∙ (ap (map (physical_changed name change)) (physical-in layout state c old)
    ∙ unnamed (λ p. p.name) (physical_changed name change) name (physical-keeps name change) (physical_at 12288 layout.physical old) apart))

-- bytes that were written over others: those before them are as they were, and where nothing follows they are the last
own-kept : (size at : ℕ) (bytes old new : List ℕ) → at + length bytes ≤ size → size ≤ length old → take size new ≡ written (take size old) at bytes → take at new ≡ take at old
unfolding written
own-kept size at bytes old new h k e =
    let n : at ≤ size = omega arith in
    let l : length (take at (take size old)) ≡ at = length-take-le at (take size old) (omega (arith, length-take-le size old k)) in
    let rest = bytes ++ drop (at + length bytes) (take size old) in
    sym (take-take at size new n)
    ∙ (ap (take at) e
    ∙ (ap (λ m. take m (take at (take size old) ++ rest)) (sym l)
    ∙ (take-append_seam (take at (take size old)) rest ∙ take-take at size old n)))

own-padded : (size at : ℕ) (bytes old new : List ℕ) → at + length bytes ≡ size → size ≤ length old → take size new ≡ written (take size old) at bytes → take (size - at) (drop at new) ≡ bytes
unfolding written
own-padded size at bytes old new h k e =
    let n : at + (size - at) ≡ size = omega arith in
    let l : length (take at (take size old)) ≡ at = length-take-le at (take size old) (omega (arith, length-take-le size old k)) in
    let rest = bytes ++ drop (at + length bytes) (take size old) in
    let none : drop (at + length bytes) (take size old) ≡ [] = drop_of_length-le (take size old) (omega (arith, length-take-le size old k, h)) in
    sym (drop-take at (size - at) new)
    ∙ (ap (λ m. drop at (take m new)) n
    ∙ (ap (drop at) e
    ∙ (ap (λ m. drop m (take at (take size old) ++ rest)) (sym l)
    ∙ (drop-append_seam (take at (take size old)) rest ∙ (ap (λ r. bytes ++ r) none ∙ append-nil bytes)))))

-- what is so where the name stands is so where there is one of it
own-of : (X : Type 0) (name : List ℕ) (ps : List Logical) → AllByRecursion (λ p. p.name ≡ name → X) ps → list_any (at-name name) ps ≡ true → X
own-of X name [] h there = absurd cc
own-of X name (p ∷ ps) h there = by (bytes_eq p.name name) refl there (own-of X name ps h.1) where
  by : (b : Bool) → bytes_eq p.name name ≡ b → (b || list_any (at-name name) ps) ≡ true → (list_any (at-name name) ps ≡ true → X) → X
  by true e k more = h.0 ((bytes_eq-Decides p.name name).0 e)
  by false e k more = more k

-- of partitions that have another length now, back to those before
changed-back : (P : Logical → Type 0) (name : List ℕ) (change : List ℕ → List ℕ) (ps : List Logical) → AllByRecursion P (map (logical_changed name change) ps) →
    AllByRecursion (λ p. (p.name ≡ name → P (record p { bytes = change p.bytes })) × (p.name ≢ name → P p)) ps
changed-back P name change [] h = tt
changed-back P name change (p ∷ ps) h = (by (bytes_eq p.name name) refl h.0, changed-back P name change ps h.1)
  where
    never : (b : Bool) → b ≡ true → b ≡ false → ⊥
    never b h k = cc

    by : (b : Bool) → bytes_eq p.name name ≡ b → P (record p { bytes = (if b then change else λ bytes. bytes) p.bytes }) → (p.name ≡ name → P (record p { bytes = change p.bytes })) × (p.name ≢ name → P p)
    by true e x = ((λ q. x), (λ ne. absurd (ne ((bytes_eq-Decides p.name name).0 e))))
    by false e x = ((λ q. absurd (never (bytes_eq p.name name) ((bytes_eq-Decides p.name name).1 q) e)), (λ ne. x))

-- the partitions of other names lie where they did
module _ (s : SuperPart) (old new : List ℕ) (f g : List ℕ → List ℕ) (name : List ℕ) (change : List ℕ → List ℕ) (others : (other : List ℕ) → other ≢ name → g other ≡ f other) where
  lies-other : (p : Logical) → LiesIn s old p (f p.name) → (p.name ≢ name → IsPut s old new g name change p) → p.name ≢ name → LiesIn s new p (f p.name)
  lies-other p lies put ne =
      lies
      ∙ (ap (λ l. take (length p.bytes) (units_bytes s old l)) (sym (others p.name ne))
      ∙ (sym ((put ne).1 ne) ∙ ap (λ l. take (length p.bytes) (units_bytes s new l)) (others p.name ne)))

  lies-resized : (cut : List ℕ → List ℕ) (ps : List Logical) → AllByRecursion (λ p. LiesIn s old p (f p.name)) ps →
      AllByRecursion (λ p. (p.name ≡ name → IsPut s old new g name change (record p { bytes = cut p.bytes })) × (p.name ≢ name → IsPut s old new g name change p)) ps →
      AllByRecursion (λ p. p.name ≢ name → LiesIn s new p (f p.name)) ps
  lies-resized cut [] h k = tt
  lies-resized cut (p ∷ ps) h k = (lies-other p h.0 k.0.1, lies-resized cut ps h.1 k.1)

  lies-created : (ps : List Logical) (q : Logical) → AllByRecursion (λ p. LiesIn s old p (f p.name)) ps → AllByRecursion (IsPut s old new g name change) (ps ++ q ∷ []) →
      AllByRecursion (λ p. p.name ≢ name → LiesIn s new p (f p.name)) ps
  lies-created [] q h k = tt
  lies-created (p ∷ ps) q h k = (lies-other p h.0 (λ ne. k.0), lies-created ps q h.1 k.1)

-- the bytes in the units of the name, of a length
own-put : (s : SuperPart) (old new : List ℕ) (g : List ℕ → List ℕ) (name : List ℕ) (change : List ℕ → List ℕ) (size : ℕ) (p : Logical) → length p.bytes ≡ size → IsPut s old new g name change p → p.name ≡ name →
    take size (units_bytes s new (g name)) ≡ change (take size (units_bytes s old (g name)))
own-put s old new g name change size p n h e =
    subst (λ k. take k (units_bytes s new (g name)) ≡ change (take k (units_bytes s old (g name)))) n
    (subst (λ x. take (length p.bytes) (units_bytes s new (g x)) ≡ change (take (length p.bytes) (units_bytes s old (g x)))) e (h.0 e))

own-resized : (s : SuperPart) (old new : List ℕ) (g : List ℕ → List ℕ) (name : List ℕ) (change : List ℕ → List ℕ) (size : ℕ) (ps : List Logical) →
    AllByRecursion (λ p. (p.name ≡ name → IsPut s old new g name change (record p { bytes = cut_or_padded size p.bytes })) × (p.name ≢ name → IsPut s old new g name change p)) ps →
    AllByRecursion (λ p. p.name ≡ name → take size (units_bytes s new (g name)) ≡ change (take size (units_bytes s old (g name)))) ps
own-resized s old new g name change size [] h = tt
own-resized s old new g name change size (p ∷ ps) h =
    ((λ e. own-put s old new g name change size (record p { bytes = cut_or_padded size p.bytes }) (length-cut size p.bytes) (h.0.0 e) e), own-resized s old new g name change size ps h.1)

-- the units of the next table hold as many bytes as its partition has
holds-all : (s : SuperPart) (super units : List ℕ) (count size : ℕ) → length super ≡ s.size → 0 < s.unit → list_all (λ u. nat_lt u (unit_count s)) units ≡ true → length units ≡ count → count ≡ units_for s.unit size →
    size ≤ length (units_bytes s super units)
holds-all s super units count size long pos below n c =
    let l = units-long s super long pos units below in
    let d = div_ceil_times size s.unit pos in
    let m = ap (λ k. k * s.unit) (n ∙ c) in
    omega arith

-- a logical partition's name is no physical one's
physical-apart : (layout : LayoutValue) (state : State) (c : Content) (file name : List ℕ) → IsValid (device_in layout state c file) → among name (map (λ p. p.name) (device_in layout state c file).logical) ≡ true →
    among name (map (λ p. p.name) (physical_at 12288 layout.physical file)) ≡ false
physical-apart layout state c file name valid there =
    let dev = device_in layout state c file in
    let ps = map (λ p. p.name) dev.physical in
    let ls = map (λ p. p.name) dev.logical in
    ap (λ (qs : List Physical). among name (map (λ p. p.name) qs)) (sym (physical-in layout state c file))
    ∙ not-among (among name ps) (λ m. distinct-apart ps ls (names-apart dev valid) name (any-mem name ps m) (any-mem name ls there))

-- the units that a partition is to have hold its bytes
module _ (layout : LayoutValue) (s : SuperPart) (state : State) (c : Content) (o now : Owning) (parts old name : List ℕ) (part size : ℕ) (h : IsStoreSuper layout s state c o parts old)
    (at : slice_get parts (position_or_len (at-name name) (device_in layout state c old).logical) ≡ Some part) (e : now ≡ regrown o part (units_for s.unit (round_up size))) (one : OneOwner now)
    (room : units_for s.unit (round_up size) ≤ length (units_owned o part) + length (free_units o)) where
  pub resize-holds : round_up size ≤ length (units_bytes s (super_bytes layout s old) (units_owned now part))
  resize-holds =
      let dev = device_in layout state c old in
      let d = store-device layout s state c o parts old h in
      let many = store-many layout s state c o parts old h in
      let own : by_name now parts dev.logical name ≡ units_owned now part = by-place now parts dev.logical name many ∙ ap (units_by (Some now)) at in
      let m = resize-map layout s state c o now parts old name part size h at e one room in
      let four = d.bounded.unit in
      let pos : 0 < s.unit = omega arith in
      holds-all s (super_bytes layout s old) (units_owned now part) (units_for s.unit (round_up size)) (round_up size) d.long pos
      (subst (λ l. list_all (λ u. nat_lt u (unit_count s)) l ≡ true) own (below-of now parts dev.logical name (unit_count s) many one m.units))
      (sym (ap length own) ∙ resized-many layout s state c o now parts old name part size h at e one room) refl

-- What a write in the partition of the next table touches: only its own bytes from the place on.
module _ (layout : LayoutValue) (s : SuperPart) (state : State) (c : Content) (o now : Owning) (parts old name : List ℕ) (part size : ℕ) (h : IsStoreSuper layout s state c o parts old)
    (at : slice_get parts (position_or_len (at-name name) (device_in layout state c old).logical) ≡ Some part) (e : now ≡ regrown o part (units_for s.unit (round_up size))) (one : OneOwner now)
    (room : units_for s.unit (round_up size) ≤ length (units_owned o part) + length (free_units o)) (there : list_any (at-name name) (device_in layout state c old).logical ≡ true)
    (new : List ℕ) (len : ℕ) (bytes : List ℕ) (same : length new ≡ length old)
    (put : device_in layout state (table_for s (apply (Resize name size) (device_in layout state c old)) (map (units_owned now) parts)) new
    ≡ put_at name len bytes (device_in layout state (table_for s (apply (Resize name size) (device_in layout state c old)) (map (units_owned now) parts)) old)) where
  -- what was put in each partition of the next table
  resize-puts : AllByRecursion (IsPut s (super_bytes layout s old) (super_bytes layout s new) (by_name now parts (device_in layout state c old).logical) name (λ b. written b len bytes))
      (apply (Resize name size) (device_in layout state c old)).logical
  resize-puts =
      let dev = device_in layout state c old in
      let d = store-device layout s state c o parts old h in
      let g = by_name now parts dev.logical in
      let next = apply (Resize name size) dev in
      let lists : map (units_owned now) parts ≡ map (λ p. g p.name) next.logical =
      sym (map-same (logical_changed name (cut_or_padded (round_up size))) (λ p. g p.name) (λ p. refl) dev.logical ∙ by-names now parts dev.logical (store-many layout s state c o parts old h) d.units.names) in
      let entries = (resize-table layout s state c o now parts old name part size h at e one room).entries in
      puts-lie layout s state (table_for s next (map (units_owned now) parts)) old new name g len bytes next.logical h.part
      (subst (AreEntriesOf s (table_for s next (map (units_owned now) parts)) (table_for s next (map (units_owned now) parts)).partitions next.logical) lists entries) put

  resize-back : AllByRecursion (λ p. (p.name ≡ name → IsPut s (super_bytes layout s old) (super_bytes layout s new) (by_name now parts (device_in layout state c old).logical) name (λ b. written b len bytes)
      (record p { bytes = cut_or_padded (round_up size) p.bytes })) × (p.name ≢ name → IsPut s (super_bytes layout s old) (super_bytes layout s new) (by_name now parts (device_in layout state c old).logical) name (λ b. written b len bytes) p))
      (device_in layout state c old).logical
  resize-back =
      changed-back (IsPut s (super_bytes layout s old) (super_bytes layout s new) (by_name now parts (device_in layout state c old).logical) name (λ b. written b len bytes))
      name (cut_or_padded (round_up size)) (device_in layout state c old).logical resize-puts

  -- the bytes of the units that the partition is to have
  resize-own : take (round_up size) (units_bytes s (super_bytes layout s new) (units_owned now part)) ≡ written (take (round_up size) (units_bytes s (super_bytes layout s old) (units_owned now part))) len bytes
  resize-own =
      let dev = device_in layout state c old in
      let g = by_name now parts dev.logical in
      let own : g name ≡ units_owned now part = by-place now parts dev.logical name (store-many layout s state c o parts old h) ∙ ap (units_by (Some now)) at in
      subst (λ l. take (round_up size) (units_bytes s (super_bytes layout s new) l) ≡ written (take (round_up size) (units_bytes s (super_bytes layout s old) l)) len bytes) own
      (own-of (take (round_up size) (units_bytes s (super_bytes layout s new) (g name)) ≡ written (take (round_up size) (units_bytes s (super_bytes layout s old) (g name))) len bytes) name dev.logical
      (own-resized s (super_bytes layout s old) (super_bytes layout s new) g name (λ b. written b len bytes) (round_up size) dev.logical resize-back) there)

  -- the old partitions, and the bytes before the place
  pub resize-touched : len + length bytes ≤ round_up size → IsTouched layout s (by_name o parts (device_in layout state c old).logical) (device_in layout state c old).logical name (units_owned now part) len old new
  resize-touched fits =
      let dev = device_in layout state c old in
      let d = store-device layout s state c o parts old h in
      let f = by_name o parts dev.logical in
      let g = by_name now parts dev.logical in
      let next = apply (Resize name size) dev in
      let table = table_for s next (map (units_owned now) parts) in
      record {
        same_length = same;
        physical = puts-physical layout state table old new name len bytes (physical-apart layout state c old name d.valid (sym (any-map (λ p. p.name) name dev.logical) ∙ there)) put;
        others = lies-resized s (super_bytes layout s old) (super_bytes layout s new) f g name (λ b. written b len bytes)
            (resized-one layout s state c o now parts old name part size h at e one room).others (cut_or_padded (round_up size)) dev.logical d.units.lies resize-back;
        kept = own-kept (round_up size) len bytes (units_bytes s (super_bytes layout s old) (units_owned now part)) (units_bytes s (super_bytes layout s new) (units_owned now part)) fits (resize-holds layout s state c o now parts old name part size h at e one room) resize-own;
      }

  pub resize-filled : len + length bytes ≡ round_up size → bytes ≡ zeros (round_up size - len) →
      IsFilled layout s (by_name o parts (device_in layout state c old).logical) (device_in layout state c old).logical name (units_owned now part) len (round_up size) old new
  resize-filled whole are = record {
    touched = resize-touched (omega arith);
    padded = own-padded (round_up size) len bytes (units_bytes s (super_bytes layout s old) (units_owned now part)) (units_bytes s (super_bytes layout s new) (units_owned now part)) whole (resize-holds layout s state c o now parts old name part size h at e one room) resize-own ∙ are;
  }

-- what is so of the last
last-of : (P : Logical → Type 0) (ps : List Logical) (q : Logical) → AllByRecursion P (ps ++ q ∷ []) → P q
last-of P [] q h = h.0
last-of P (p ∷ ps) q h = last-of P ps q h.1

-- no physical partition has a name that none has
named-none : (layout : LayoutValue) (state : State) (c : Content) (file name : List ℕ) → is_physical (device_in layout state c file) name ≡ false → among name (map (λ p. p.name) (physical_at 12288 layout.physical file)) ≡ false
named-none layout state c file name h =
    ap (λ (qs : List Physical). among name (map (λ p. p.name) qs)) (sym (physical-in layout state c file))
    ∙ (sym (any-map (λ p. p.name) name (device_in layout state c file).physical) ∙ h)

-- the units that a new partition is to have hold its bytes
module _ (layout : LayoutValue) (s : SuperPart) (state : State) (c : Content) (o now : Owning) (parts old name : List ℕ) (part count size : ℕ) (h : IsStoreSuper layout s state c o parts old)
    (free : list_any (λ p. p == part) parts ≡ false) (inside : part < 128) (e : now ≡ handed o part (take count (free_units o)))
    (fresh : not (among name (map (λ p. p.name) (device_in layout state c old).logical)) ≡ true)
    (one : OneOwner now) (needs : count ≡ units_for s.unit (round_up size)) (room : count ≤ length (free_units o)) (group : is_group (device_in layout state c old).groups (codes "default") ≡ true) where
  pub create-holds : round_up size ≤ length (units_bytes s (super_bytes layout s old) (units_owned now part))
  create-holds =
      let dev = device_in layout state c old in
      let d = store-device layout s state c o parts old h in
      let all = many-more parts dev.logical part (new_logical name size) (store-many layout s state c o parts old h) in
      let own = create-units layout s state c o now parts old name part count size h free inside e fresh in
      let m = create-map layout s state c o now parts old name part count size h free inside e fresh needs room group in
      let is = now-own layout s state c o now parts old name part count size h free inside e fresh in
      let four = d.bounded.unit in
      let pos : 0 < s.unit = omega arith in
      holds-all s (super_bytes layout s old) (units_owned now part) count (round_up size) d.long pos
      (subst (λ l. list_all (λ u. nat_lt u (unit_count s)) l ≡ true) own (below-of now (parts ++ part ∷ []) (dev.logical ++ new_logical name size ∷ []) name (unit_count s) all one m.units))
      (ap length is ∙ length-take-le count (free_units o) room) needs

-- The same of a new partition.
module _ (layout : LayoutValue) (s : SuperPart) (state : State) (c : Content) (o now : Owning) (parts old name : List ℕ) (part count size : ℕ) (h : IsStoreSuper layout s state c o parts old)
    (free : list_any (λ p. p == part) parts ≡ false) (inside : part < 128) (e : now ≡ handed o part (take count (free_units o)))
    (fresh : not (among name (map (λ p. p.name) (device_in layout state c old).logical)) ≡ true) (unnamed-physical : is_physical (device_in layout state c old) name ≡ false)
    (one : OneOwner now) (needs : count ≡ units_for s.unit (round_up size)) (room : count ≤ length (free_units o)) (group : is_group (device_in layout state c old).groups (codes "default") ≡ true)
    (new : List ℕ) (bytes : List ℕ) (same : length new ≡ length old)
    (put : device_in layout state (table_for s (created name size (device_in layout state c old)) (map (units_owned now) (parts ++ part ∷ []))) new
    ≡ put_at name 0 bytes (device_in layout state (table_for s (created name size (device_in layout state c old)) (map (units_owned now) (parts ++ part ∷ []))) old)) where
  create-puts : AllByRecursion (IsPut s (super_bytes layout s old) (super_bytes layout s new) (by_name now (parts ++ part ∷ []) ((device_in layout state c old).logical ++ new_logical name size ∷ [])) name (λ b. written b 0 bytes))
      ((device_in layout state c old).logical ++ new_logical name size ∷ [])
  create-puts =
      let dev = device_in layout state c old in
      let g = by_name now (parts ++ part ∷ []) (dev.logical ++ new_logical name size ∷ []) in
      let next = created name size dev in
      let lists = create-lists layout s state c o now parts old name part count size h free inside e fresh in
      let entries = (create-table layout s state c o now parts old name part count size h free inside e fresh needs room group).entries in
      puts-lie layout s state (table_for s next (map (units_owned now) (parts ++ part ∷ []))) old new name g 0 bytes next.logical h.part
      (subst (AreEntriesOf s (table_for s next (map (units_owned now) (parts ++ part ∷ []))) (table_for s next (map (units_owned now) (parts ++ part ∷ []))).partitions next.logical) (sym lists) entries) put

  create-own : take (round_up size) (units_bytes s (super_bytes layout s new) (units_owned now part)) ≡ written (take (round_up size) (units_bytes s (super_bytes layout s old) (units_owned now part))) 0 bytes
  create-own =
      let dev = device_in layout state c old in
      let g = by_name now (parts ++ part ∷ []) (dev.logical ++ new_logical name size ∷ []) in
      subst (λ l. take (round_up size) (units_bytes s (super_bytes layout s new) l) ≡ written (take (round_up size) (units_bytes s (super_bytes layout s old) l)) 0 bytes)
      (create-units layout s state c o now parts old name part count size h free inside e fresh)
      (own-put s (super_bytes layout s old) (super_bytes layout s new) g name (λ b. written b 0 bytes) (round_up size) (new_logical name size) (length-replicate (round_up size) 0)
      (last-of (IsPut s (super_bytes layout s old) (super_bytes layout s new) g name (λ b. written b 0 bytes)) dev.logical (new_logical name size) create-puts) refl)

  pub create-touched : length bytes ≤ round_up size → IsTouched layout s (by_name o parts (device_in layout state c old).logical) (device_in layout state c old).logical name (units_owned now part) 0 old new
  create-touched fits =
      let dev = device_in layout state c old in
      let d = store-device layout s state c o parts old h in
      let f = by_name o parts dev.logical in
      let g = by_name now (parts ++ part ∷ []) (dev.logical ++ new_logical name size ∷ []) in
      let table = table_for s (created name size dev) (map (units_owned now) (parts ++ part ∷ [])) in
      record {
        same_length = same;
        physical = puts-physical layout state table old new name 0 bytes (named-none layout state c old name unnamed-physical) put;
        others = lies-created s (super_bytes layout s old) (super_bytes layout s new) f g name (λ b. written b 0 bytes)
            (create-others layout s state c o now parts old name part count size h free inside e fresh) dev.logical (new_logical name size) d.units.lies create-puts;
        kept = refl;
      }

  pub create-filled : bytes ≡ zeros (round_up size) → IsFilled layout s (by_name o parts (device_in layout state c old).logical) (device_in layout state c old).logical name (units_owned now part) 0 (round_up size) old new
  create-filled are =
      let n : length bytes ≡ round_up size = ap length are ∙ zeros-long (round_up size) in
      let z : round_up size ≡ round_up size - 0 = omega arith in
      record {
        touched = create-touched (omega (arith, n));
        padded = own-padded (round_up size) 0 bytes (units_bytes s (super_bytes layout s old) (units_owned now part)) (units_bytes s (super_bytes layout s new) (units_owned now part)) (omega (arith, n)) (create-holds layout s state c o now parts old name part count size h free inside e fresh one needs room group) create-own
            ∙ (are ∙ ap zeros z);
      }
