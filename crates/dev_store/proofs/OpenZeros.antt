-- Over a disk that tells no bytes the device has zeros in each partition.
use Rattle.std.proofs.Common.{arith, ◌≡◌, ◌∙◌, refl, ap, sym, inl, inr, ℕ, ◌+◌, ◌-◌, ◌<◌, ◌≤◌, true, false, List, [], ◌∷◌, ◌++◌, map, take, drop, length, Option, Some, None}
use Rattle.std.specs.Prelude.{◌⊎◌, nat_le, replicate}
use Rattle.std.specs.List.{flat_map}
use Rattle.std.proofs.lemmas.Bool.Decides.{leb_tells}
use Rattle.std.proofs.lemmas.List.{take-replicate, drop-replicate, length-replicate, replicate-append-replicate, take_all}
use Rattle.fb_frame.specs.Bytes.{zeros}
use Rattle.dev_model.specs.declared.device.Physical.{Physical}
use Rattle.super_meta.specs.declared.table.Partition.{Partition}
use Rattle.super_meta.specs.Contents.{Content}
use Rattle.dev_store.specs.declared.layout.PhysicalPart.{PhysicalPart}
use Rattle.dev_store.specs.declared.layout.SuperPart.{SuperPart}
use Rattle.dev_store.specs.declared.state.State.{State}
use Rattle.dev_store.specs.Layouts.{LayoutValue, image_size, parts_end}
use Rattle.dev_store.specs.Supers.{units_of, unit_bytes, units_bytes, logical_at, bytes_in, extents_of}
use Rattle.dev_store.specs.Stand.{physical_at, super_bytes, device_with}
use Rattle.dev_store.specs.Held.{device_held, super_by, zeroed, zeroed_physical, zeroed_logical}

-- zeros alone, however many
pub record AreZeros (bytes : List ℕ) : Type 0 where
  pub many : ℕ
  pub are : bytes ≡ replicate many 0

pub zeros-self : (bytes : List ℕ) → AreZeros bytes → zeros (length bytes) ≡ bytes
unfolding zeros
zeros-self bytes z = ap (λ n. replicate n 0) (ap length z.are ∙ length-replicate z.many 0) ∙ sym z.are

pub of-zeros : (n : ℕ) → AreZeros (zeros n)
unfolding zeros
of-zeros n = record { many = n; are = refl }

pub of-drop : (n : ℕ) (bytes : List ℕ) → AreZeros bytes → AreZeros (drop n bytes)
of-drop n bytes z = record { many = z.many - n; are = ap (drop n) z.are ∙ drop-replicate n z.many 0 }

pub of-take : (n : ℕ) (bytes : List ℕ) → AreZeros bytes → AreZeros (take n bytes)
of-take n bytes z = by (leb_tells n z.many)
  where
    by : ((nat_le n z.many ≡ true) × (n ≤ z.many)) ⊎ ((nat_le n z.many ≡ false) × (z.many < n)) → AreZeros (take n bytes)
    by (inl (a, b)) = record { many = n; are = ap (take n) z.are ∙ take-replicate n z.many 0 b }
    by (inr (a, b)) =
        let long : length bytes ≤ n = omega (arith, ap length z.are ∙ length-replicate {A = ℕ} z.many 0, b) in
        record { many = z.many; are = take_all n bytes long ∙ z.are }

of-append : (a b : List ℕ) → AreZeros a → AreZeros b → AreZeros (a ++ b)
of-append a b y z = record { many = y.many + z.many; are = ap (λ x. x ++ b) y.are ∙ (ap (λ x. replicate y.many 0 ++ x) z.are ∙ replicate-append-replicate y.many z.many 0) }

pub of-units : (s : SuperPart) (super units : List ℕ) → AreZeros super → AreZeros (flat_map (unit_bytes s super) units)
of-units s super [] z = record { many = 0; are = refl }
of-units s super (u ∷ units) z = of-append (unit_bytes s super u) (flat_map (unit_bytes s super) units) (of-take s.unit _ (of-drop _ super z)) (of-units s super units z)

abbrev as-part : PhysicalPart → List ℕ → Physical
as-part p bytes = record { name = p.name; bytes = bytes }

physical-zeroed : (place : ℕ) (parts : List PhysicalPart) (file : List ℕ) → AreZeros file → physical_at place parts file ≡ map zeroed_physical (physical_at place parts file)
physical-zeroed place [] file z = refl
physical-zeroed place (p ∷ parts) file z =
    let here = zeros-self (take p.size (drop place file)) (of-take p.size (drop place file) (of-drop place file z)) in
    ap (λ bytes. as-part p bytes ∷ physical_at (place + p.size) parts file) (sym here)
    ∙ ap (λ rest. as-part p (zeros (length (take p.size (drop place file)))) ∷ rest) (physical-zeroed (place + p.size) parts file z)

logical-zeroed : (s : SuperPart) (c : Content) (super : List ℕ) (ps : List Partition) → AreZeros super → map (logical_at s c super) ps ≡ map zeroed_logical (map (logical_at s c super) ps)
unfolding units_bytes
logical-zeroed s c super [] z = refl
logical-zeroed s c super (p ∷ ps) z =
    let bytes = take (bytes_in (extents_of c p)) (flat_map (unit_bytes s super) (units_of s c p)) in
    let here = zeros-self bytes (of-take (bytes_in (extents_of c p)) (flat_map (unit_bytes s super) (units_of s c p)) (of-units s super (units_of s c p) z)) in
    ap (λ b. record (logical_at s c super p) { bytes = b } ∷ map (logical_at s c super) ps) (sym here)
    ∙ ap (λ rest. record (logical_at s c super p) { bytes = zeros (length bytes) } ∷ rest) (logical-zeroed s c super ps z)

super-zeroed : (layout : LayoutValue) (part : Option SuperPart) (table : Option Content) (file : List ℕ) → AreZeros file →
    (super_by layout part table file).logical ≡ map zeroed_logical (super_by layout part table file).logical
super-zeroed layout None table file z = refl
super-zeroed layout (Some s) None file z = refl
super-zeroed layout (Some s) (Some c) file z = logical-zeroed s c (super_bytes layout s file) c.partitions (of-take s.size _ (of-drop (parts_end layout.physical) file z))

pub held-zeroed : (layout : LayoutValue) (state : State) (table : Option Content) → device_held layout state table None ≡ zeroed (device_held layout state table None)
unfolding device_held
held-zeroed layout state table =
    let file = zeros (image_size layout) in
    let z = of-zeros (image_size layout) in
    let dev = device_with layout state (physical_at 12288 layout.physical file) (super_by layout layout.super_part table file) in
    ap (λ ps. record dev { physical = ps }) (physical-zeroed 12288 layout.physical file z)
    ∙ ap (λ ls. record dev { physical = map zeroed_physical dev.physical; logical = ls }) (super-zeroed layout layout.super_part table file z)
