-- Whether the units suffice, by the units that are free.
use Rattle.std.proofs.Common.{◌≡◌, ◌∙◌, refl, ap, sym, subst, ℕ, ◌+◌, ◌-◌, ◌≤◌, Bool, true, false, List, [], ◌∷◌, ◌++◌, map, length, sum_by, arith, Some}
use Rattle.std.specs.Prelude.{not, ◌||◌, nat_le, slice_get, bytes_eq, if◌then◌else◌}
use Rattle.std.specs.List.{list_any, position_or_len, AllByRecursion}
use Rattle.std.proofs.lemmas.List.Sums.{sum_by-cons, sum_by_push}
use Rattle.std.proofs.lemmas.Bool.Decides.{nat_tests}
use Rattle.std.proofs.lemmas.Slice.Eq.{bytes_eq-Decides}
use Rattle.fb_frame.specs.Distinct.{are_distinct}
use Rattle.dev_model.specs.declared.device.Logical.{Logical}
use Rattle.dev_model.specs.Images.{round_up}
use Rattle.dev_model.specs.Partitions.{is_logical}
use Rattle.dev_model.specs.Sizes.{Size, size_of, sizes_of, resized, units_for, units_fit}
use Rattle.dev_model.specs.Sizes.{units_of as units_needed}
use Rattle.dev_model.specs.Refusals.{created_size}
use Rattle.dev_model.proofs.Names.{among}
use Rattle.dev_model.proofs.Valid.{both}
use Rattle.unit_alloc.specs.Owning.{Owning, free_units, units_of}
use Rattle.unit_alloc.proofs.OwnerLaws.{free-count}
use Rattle.super_meta.specs.Contents.{Content}
use Rattle.dev_store.specs.declared.layout.SuperPart.{SuperPart}
use Rattle.dev_store.specs.declared.state.State.{State}
use Rattle.dev_store.specs.LayoutLines.{unit_count}
use Rattle.dev_store.specs.Layouts.{LayoutValue}
use Rattle.dev_store.specs.Stand.{number_in}
use Rattle.dev_store.specs.Held.{device_held, units_by}
use Rattle.dev_store.proofs.ChangeNamed.{by_name, at-name, by-place, by-names, not-or}
use Rattle.dev_store.proofs.ChangeMaps.{total-parts}
use Rattle.dev_store.proofs.ChangeStore.{device_in, store-device, store-many}
use Rattle.dev_store.specs.TableChanges.{IsFitted, IsStoreSuper}

-- the units of all partitions together, by their names
abbrev units_named : (List ℕ → List ℕ) → List Logical → ℕ
units_named f ps = sum_by (length {A = ℕ}) (map (λ p. f p.name) ps)

needed-all : (unit : ℕ) (f : List ℕ → List ℕ) (ps : List Logical) → AllByRecursion (λ p. IsFitted unit p (f p.name)) ps → units_needed unit (sizes_of ps) ≡ units_named f ps
needed-all unit f [] h = refl
needed-all unit f (p ∷ ps) h =
    let a = sum_by-cons (λ (z : Size). units_for unit z.bytes) (size_of p) (sizes_of ps) in
    let b = sum_by-cons (length {A = ℕ}) (f p.name) (map (λ p. f p.name) ps) in
    let one = h.0.many in
    let more = needed-all unit f ps h.1 in
    omega arith

-- one partition of another length needs other units
needed-none : (unit : ℕ) (f : List ℕ → List ℕ) (name : List ℕ) (bytes : ℕ) (ps : List Logical) → not (among name (map (λ p. p.name) ps)) ≡ true →
    AllByRecursion (λ p. IsFitted unit p (f p.name)) ps → units_needed unit (resized name bytes (sizes_of ps)) ≡ units_named f ps
needed-none unit f name bytes [] n h = refl
needed-none unit f name bytes (p ∷ ps) n h =
    let z = not-or (bytes_eq p.name name) (among name (map (λ q. q.name) ps)) n in
    let e = ap (λ b. units_for unit (if b then bytes else length p.bytes)) z.0 in
    let a = sum_by-cons (λ (z : Size). units_for unit z.bytes) (record (size_of p) { bytes = if bytes_eq p.name name then bytes else length p.bytes }) (resized name bytes (sizes_of ps)) in
    let b = sum_by-cons (length {A = ℕ}) (f p.name) (map (λ p. f p.name) ps) in
    let one = h.0.many in
    let more = needed-none unit f name bytes ps z.1 h.1 in
    omega arith

needed-one : (unit : ℕ) (f : List ℕ → List ℕ) (name : List ℕ) (bytes : ℕ) (ps : List Logical) → list_any (at-name name) ps ≡ true → are_distinct (map (λ p. p.name) ps) ≡ true →
    AllByRecursion (λ p. IsFitted unit p (f p.name)) ps → units_needed unit (resized name bytes (sizes_of ps)) + length (f name) ≡ units_named f ps + units_for unit bytes
needed-one unit f name bytes [] there d h = absurd cc
needed-one unit f name bytes (p ∷ ps) there d h = by (bytes_eq p.name name) refl there (λ t. needed-one unit f name bytes ps t (both (not (among p.name (map (λ q. q.name) ps))) _ d).1 h.1)
  where
    by : (b : Bool) → bytes_eq p.name name ≡ b → (b || list_any (at-name name) ps) ≡ true →
        (list_any (at-name name) ps ≡ true → units_needed unit (resized name bytes (sizes_of ps)) + length (f name) ≡ units_named f ps + units_for unit bytes) →
        units_needed unit (resized name bytes (sizes_of (p ∷ ps))) + length (f name) ≡ units_named f (p ∷ ps) + units_for unit bytes
    by true e t more =
        let is = (bytes_eq-Decides p.name name).0 e in
        let none = needed-none unit f name bytes ps (subst (λ x. not (among x (map (λ q. q.name) ps)) ≡ true) is (both (not (among p.name (map (λ q. q.name) ps))) _ d).0) h.1 in
        let a = sum_by-cons (λ (z : Size). units_for unit z.bytes) (record (size_of p) { bytes = if bytes_eq p.name name then bytes else length p.bytes }) (resized name bytes (sizes_of ps)) in
        let b = sum_by-cons (length {A = ℕ}) (f p.name) (map (λ p. f p.name) ps) in
        let c = ap (λ b. units_for unit (if b then bytes else length p.bytes)) e in
        let g = ap (λ x. length (f x)) is in
        omega arith
    by false e t more =
        let a = sum_by-cons (λ (z : Size). units_for unit z.bytes) (record (size_of p) { bytes = if bytes_eq p.name name then bytes else length p.bytes }) (resized name bytes (sizes_of ps)) in
        let b = sum_by-cons (length {A = ℕ}) (f p.name) (map (λ p. f p.name) ps) in
        let c = ap (λ b. units_for unit (if b then bytes else length p.bytes)) e in
        let one = h.0.many in
        let m = more t in
        omega arith

-- the numbers of a store's device
store-unit : (layout : LayoutValue) (s : SuperPart) (state : State) (c : Content) (file : List ℕ) → layout.super_part ≡ Some s → (device_in layout state c file).unit ≡ s.unit
unfolding device_held
store-unit layout s state c file part = ap (number_in (λ z. z.unit)) part

store-count : (layout : LayoutValue) (s : SuperPart) (state : State) (c : Content) (file : List ℕ) → layout.super_part ≡ Some s → (device_in layout state c file).units ≡ unit_count s
unfolding device_held
store-count layout s state c file part = ap (number_in unit_count) part

-- the free units and those of all partitions are all units
units-all : (layout : LayoutValue) (s : SuperPart) (state : State) (c : Content) (o : Owning) (parts file : List ℕ) → IsStoreSuper layout s state c o parts file →
    length (free_units o) + units_named (by_name o parts (device_in layout state c file).logical) (device_in layout state c file).logical ≡ unit_count s
units-all layout s state c o parts file h =
    let dev = device_in layout state c file in
    let d = store-device layout s state c o parts file h in
    let names = ap (sum_by (length {A = ℕ})) (by-names o parts dev.logical (store-many layout s state c o parts file h) d.units.names) in
    let t = total-parts o parts h.mapped.apart h.mapped.empty in
    let n = free-count o h.one in
    let u = h.mapped.units in
    omega arith

fits-by : (needed own all free count units : ℕ) → needed + own ≡ all + count → free + all ≡ units → nat_le needed units ≡ nat_le (count - own) free
fits-by needed own all free count units h k = grind (arith, nat_tests)

-- a partition gets another length where as many units are free as it lacks
pub resize-fits : (layout : LayoutValue) (s : SuperPart) (state : State) (c : Content) (o : Owning) (parts file name : List ℕ) (part bytes : ℕ) → IsStoreSuper layout s state c o parts file →
    is_logical (device_in layout state c file) name ≡ true → slice_get parts (position_or_len (at-name name) (device_in layout state c file).logical) ≡ Some part →
    units_fit (device_in layout state c file).unit (device_in layout state c file).units (resized name bytes (sizes_of (device_in layout state c file).logical))
    ≡ nat_le (units_for s.unit bytes - length (units_of o part)) (length (free_units o))
resize-fits layout s state c o parts file name part bytes h there at =
    let dev = device_in layout state c file in
    let d = store-device layout s state c o parts file h in
    let f = by_name o parts dev.logical in
    let own : length (f name) ≡ length (units_of o part) = ap length (by-place o parts dev.logical name (store-many layout s state c o parts file h) ∙ ap (units_by (Some o)) at) in
    let n = needed-one s.unit f name bytes dev.logical there d.units.names d.units.fits in
    (λ i. units_fit (store-unit layout s state c file h.part i) (store-count layout s state c file h.part i) (resized name bytes (sizes_of dev.logical)))
    ∙ fits-by (units_needed s.unit (resized name bytes (sizes_of dev.logical))) (length (units_of o part)) (units_named f dev.logical) (length (free_units o)) (units_for s.unit bytes) (unit_count s)
    (omega arith) (units-all layout s state c o parts file h)

-- and a new one is made where as many are free as it needs
pub create-fits : (layout : LayoutValue) (s : SuperPart) (state : State) (c : Content) (o : Owning) (parts file name : List ℕ) (size : ℕ) → IsStoreSuper layout s state c o parts file →
    units_fit (device_in layout state c file).unit (device_in layout state c file).units (sizes_of (device_in layout state c file).logical ++ created_size name size ∷ [])
    ≡ nat_le (units_for s.unit (round_up size)) (length (free_units o))
create-fits layout s state c o parts file name size h =
    let dev = device_in layout state c file in
    let d = store-device layout s state c o parts file h in
    let f = by_name o parts dev.logical in
    let a = sum_by_push (λ (z : Size). units_for s.unit z.bytes) (sizes_of dev.logical) (created_size name size) in
    let n = needed-all s.unit f dev.logical d.units.fits in
    let z : units_for s.unit (round_up size) - 0 ≡ units_for s.unit (round_up size) = omega arith in
    (λ i. units_fit (store-unit layout s state c file h.part i) (store-count layout s state c file h.part i) (sizes_of dev.logical ++ created_size name size ∷ []))
    ∙ (fits-by (units_needed s.unit (sizes_of dev.logical ++ created_size name size ∷ [])) 0 (units_named f dev.logical) (length (free_units o)) (units_for s.unit (round_up size)) (unit_count s)
    (omega arith) (units-all layout s state c o parts file h)
    ∙ ap (λ n. nat_le n (length (free_units o))) z)

-- so units don't run short where they fit
pub resize-room : (layout : LayoutValue) (s : SuperPart) (state : State) (c : Content) (o : Owning) (parts file name : List ℕ) (part bytes : ℕ) → IsStoreSuper layout s state c o parts file →
    is_logical (device_in layout state c file) name ≡ true → slice_get parts (position_or_len (at-name name) (device_in layout state c file).logical) ≡ Some part →
    units_fit (device_in layout state c file).unit (device_in layout state c file).units (resized name bytes (sizes_of (device_in layout state c file).logical)) ≡ true →
    units_for s.unit bytes ≤ length (units_of o part) + length (free_units o)
resize-room layout s state c o parts file name part bytes h there at fits =
    let e : nat_le (units_for s.unit bytes - length (units_of o part)) (length (free_units o)) ≡ true = sym (resize-fits layout s state c o parts file name part bytes h there at) ∙ fits in
    enough (units_for s.unit bytes) (length (units_of o part)) (length (free_units o)) e
  where
    enough : (count own free : ℕ) → nat_le (count - own) free ≡ true → count ≤ own + free
    enough count own free e = grind (arith, nat_tests)
