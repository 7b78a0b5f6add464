-- Writing in a physical partition.
use Rattle.std.proofs.Common.{◌≡◌, ◌∙◌, refl, ap, sym, subst, ℕ, ◌+◌, ◌≤◌, Bool, true, false, List, [], ◌∷◌, map, find, take, drop, sum_by, Option, Some, None, option_map, unwrap_or, inl, arith, if◌then◌else◌}
use Rattle.std.specs.Prelude.{◌||◌, bytes_eq}
use Rattle.dev_store.specs.LayoutLines.{first_unit}
use Rattle.std.specs.Option.{option_or}
use Rattle.std.proofs.lemmas.List.Sums.{sum_by-cons}
use Rattle.fb_frame.specs.Distinct.{are_distinct}
use Rattle.dev_model.specs.declared.device.Dev.{Dev}
use Rattle.dev_model.specs.declared.device.Physical.{Physical}
use Rattle.dev_model.specs.Partitions.{physical_changed, logical_changed, with_bytes}
use Rattle.dev_model.specs.Validity.{IsValid}
use Rattle.dev_model.proofs.Names.{among, distinct-left}
use Rattle.dev_model.proofs.Valid.{both}
use Rattle.dev_disk.specs.Files.{DifferWithin}
use Rattle.dev_disk.proofs.Writes.{kept-outside}
use Rattle.super_meta.specs.Contents.{Content}
use Rattle.dev_store.specs.declared.layout.PhysicalPart.{PhysicalPart}
use Rattle.dev_store.specs.declared.layout.SuperPart.{SuperPart}
use Rattle.dev_store.specs.declared.state.State.{State}
use Rattle.dev_store.specs.Layouts.{LayoutValue, parts_end}
use Rattle.dev_store.specs.Stand.{physical_at, super_value, device_with}
use Rattle.dev_store.specs.Held.{super_by}
use Rattle.dev_store.specs.StoreCalls.{part_bytes}
use Rattle.dev_store.specs.PartWrites.{physical_place, IsFrontKept, IsBodyChanged}
use Rattle.dev_store.proofs.ValidLemmas.{names-same}
use Rattle.dev_store.proofs.OpenLemmas.{drop-of, take-of, physical-rest}
use Rattle.dev_store.proofs.PartDevices.{unnamed, rest-unnamed, other-unnamed, physical-keeps, logical-keeps, names-apart}

-- the place of a partition lies behind the start, and inside the sum of all
pub place-within : (place : ℕ) (parts : List PhysicalPart) (name : List ℕ) (b n : ℕ) → physical_place place parts name ≡ Some (b, n) → (place ≤ b) × (b + n ≤ place + sum_by (λ p. p.size) parts)
place-within place [] name b n h = absurd cc
place-within place (p ∷ parts) name b n h = by (bytes_eq p.name name) (place-within (place + p.size) parts name b n) h where
  by : (c : Bool) → (physical_place (place + p.size) parts name ≡ Some (b, n) → (place + p.size ≤ b) × (b + n ≤ place + p.size + sum_by (λ p. p.size) parts)) →
      (if c then Some (place, p.size) else physical_place (place + p.size) parts name) ≡ Some (b, n) → (place ≤ b) × (b + n ≤ place + sum_by (λ p. p.size) (p ∷ parts))
  by true more k =
      let s = sum_by-cons (λ (q : PhysicalPart). q.size) p parts in
      let at : place ≡ b = ap (λ (o : Option (ℕ × ℕ)). (unwrap_or {T = ℕ × ℕ} o (0, 0)).0) k in
      let size : p.size ≡ n = ap (λ (o : Option (ℕ × ℕ)). (unwrap_or {T = ℕ × ℕ} o (0, 0)).1) k in
      (omega arith, omega arith)
  by false more k =
      let s = sum_by-cons (λ (q : PhysicalPart). q.size) p parts in
      let m = more k in
      (omega (arith, m.0), omega (arith, m.1))

-- what lies in the physical partitions after a change in one of them
pub parts-changed : (name : List ℕ) (change : List ℕ → List ℕ) (place : ℕ) (parts : List PhysicalPart) (b n : ℕ) (old new : List ℕ) → are_distinct (map (λ p. p.name) parts) ≡ true →
    physical_place place parts name ≡ Some (b, n) → DifferWithin b n old new → change (take n (drop b old)) ≡ take n (drop b new) →
    physical_at place parts new ≡ map (physical_changed name change) (physical_at place parts old)
parts-changed name change place [] b n old new d h w e = absurd cc
parts-changed name change place (p ∷ parts) b n old new d h w e =
    by (bytes_eq p.name name) refl h (λ k. parts-changed name change (place + p.size) parts b n old new (both _ (are_distinct (map (λ p. p.name) parts)) d).1 k w e) where
      by : (c : Bool) → bytes_eq p.name name ≡ c → (if c then Some (place, p.size) else physical_place (place + p.size) parts name) ≡ Some (b, n) →
          (physical_place (place + p.size) parts name ≡ Some (b, n) → physical_at (place + p.size) parts new ≡ map (physical_changed name change) (physical_at (place + p.size) parts old)) →
          physical_at place (p ∷ parts) new ≡ map (physical_changed name change) (physical_at place (p ∷ parts) old)
      by true c k more =
          let at : b ≡ place = sym (ap (λ (o : Option (ℕ × ℕ)). (unwrap_or {T = ℕ × ℕ} o (0, 0)).0) k) in
          let size : n ≡ p.size = sym (ap (λ (o : Option (ℕ × ℕ)). (unwrap_or {T = ℕ × ℕ} o (0, 0)).1) k) in
          let own : change (take p.size (drop place old)) ≡ take p.size (drop place new) =
          subst (λ m. change (take m (drop place old)) ≡ take m (drop place new)) size (subst (λ m. change (take n (drop m old)) ≡ take n (drop m new)) at e) in
          let here : (if bytes_eq p.name name then change else λ x. x) (take p.size (drop place old)) ≡ take p.size (drop place new) =
          ap (λ t. (if t then change else λ x. x) (take p.size (drop place old))) c ∙ own in
          let free : among name (map (λ p. p.name) (physical_at (place + p.size) parts old)) ≡ false =
          ap (among name) (names-same (place + p.size) parts old) ∙ rest-unnamed p.name name (map (λ p. p.name) parts) d c in
          let far : b + n ≡ place + p.size = omega (arith, at, size) in
          let rest : physical_at (place + p.size) parts new ≡ map (physical_changed name change) (physical_at (place + p.size) parts old) =
          physical-rest (place + p.size) parts new old (subst (λ m. drop m new ≡ drop m old) far w.rest)
          ∙ sym (unnamed (λ p. p.name) (physical_changed name change) name (physical-keeps name change) (physical_at (place + p.size) parts old) free) in
          λ i. record { name = p.name; bytes = sym here i } ∷ rest i
      by false c k more =
          let low = (place-within (place + p.size) parts name b n k).0 in
          let own : take p.size (drop place new) ≡ take p.size (drop place old) = kept-outside old new b n place p.size w (inl low) in
          let here : take p.size (drop place new) ≡ (if bytes_eq p.name name then change else λ x. x) (take p.size (drop place old)) =
          own ∙ sym (ap (λ t. (if t then change else λ x. x) (take p.size (drop place old))) c) in
          let rest = more k in
          λ i. record { name = p.name; bytes = here i } ∷ rest i

-- super stays
super-same : (layout : LayoutValue) (part : Option SuperPart) (table : Option Content) (old new : List ℕ) → drop (parts_end layout.physical) new ≡ drop (parts_end layout.physical) old →
    super_by layout part table new ≡ super_by layout part table old
super-same layout None table old new e = refl
super-same layout (Some s) None old new e = refl
super-same layout (Some s) (Some c) old new e = ap (λ rest. super_value s c (take s.size rest)) e

-- the name of a physical partition is one of the layout's
placed-among : (place : ℕ) (parts : List PhysicalPart) (name : List ℕ) (b n : ℕ) → physical_place place parts name ≡ Some (b, n) → among name (map (λ p. p.name) parts) ≡ true
placed-among place [] name b n h = absurd cc
placed-among place (p ∷ parts) name b n h = by (bytes_eq p.name name) (placed-among (place + p.size) parts name b n) h where
  by : (c : Bool) → (physical_place (place + p.size) parts name ≡ Some (b, n) → among name (map (λ p. p.name) parts) ≡ true) →
      (if c then Some (place, p.size) else physical_place (place + p.size) parts name) ≡ Some (b, n) → (c || among name (map (λ p. p.name) parts)) ≡ true
  by true more k = refl
  by false more k = more k

-- the bytes that are found by the name
placed-found : (place : ℕ) (parts : List PhysicalPart) (name : List ℕ) (b n : ℕ) (file : List ℕ) → physical_place place parts name ≡ Some (b, n) →
    option_map (λ p. p.bytes) (find (λ p. bytes_eq p.name name) (physical_at place parts file)) ≡ Some (take n (drop b file))
placed-found place [] name b n file h = absurd cc
placed-found place (p ∷ parts) name b n file h = by (bytes_eq p.name name) (placed-found (place + p.size) parts name b n file) h where
  own : Physical
  own = record { name = p.name; bytes = take p.size (drop place file) }

  by : (c : Bool) → (physical_place (place + p.size) parts name ≡ Some (b, n) → option_map (λ p. p.bytes) (find (λ p. bytes_eq p.name name) (physical_at (place + p.size) parts file)) ≡ Some (take n (drop b file))) →
      (if c then Some (place, p.size) else physical_place (place + p.size) parts name) ≡ Some (b, n) →
      option_map (λ p. p.bytes) (if c then Some own else find (λ p. bytes_eq p.name name) (physical_at (place + p.size) parts file)) ≡ Some (take n (drop b file))
  by true more k = ap (option_map (λ (x : ℕ × ℕ). take x.1 (drop x.0 file))) k
  by false more k = more k

-- the device of a layout, a state and a table, over a file
abbrev pub device-at : LayoutValue → State → Option Content → List ℕ → Dev
device-at layout state table file = device_with layout state (physical_at 12288 layout.physical file) (super_by layout layout.super_part table file)

-- the device has other bytes in this partition alone
pub physical-changed : (layout : LayoutValue) (state : State) (table : Option Content) (name : List ℕ) (change : List ℕ → List ℕ) (b n : ℕ) (old new : List ℕ) → IsValid (device-at layout state table old) →
    physical_place 12288 layout.physical name ≡ Some (b, n) → DifferWithin b n old new → change (take n (drop b old)) ≡ take n (drop b new) →
    device-at layout state table new ≡ with_bytes name change (device-at layout state table old)
physical-changed layout state table name change b n old new v h w e =
    let dev = device-at layout state table old in
    let ps = map (λ p. p.name) dev.physical in
    let ls = map (λ p. p.name) dev.logical in
    let d = names-apart dev v in
    let named = names-same 12288 layout.physical old in
    let there : among name ps ≡ true = ap (among name) named ∙ placed-among 12288 layout.physical name b n h in
    let inside = place-within 12288 layout.physical name b n h in
    let parts = parts-changed name change 12288 layout.physical b n old new (ap are_distinct (sym named) ∙ distinct-left ps ls d) h w e in
    let super = super-same layout layout.super_part table old new (drop-of (b + n) (parts_end layout.physical) new old (omega (arith, inside.1)) w.rest) in
    let logical = unnamed (λ p. p.name) (logical_changed name change) name (logical-keeps name change) dev.logical (other-unnamed name ps ls d there) in
    ap (device_with layout state (physical_at 12288 layout.physical new)) super
    ∙ (λ i. device_with layout state (parts i) (record (super_by layout layout.super_part table old) { logical = sym logical i }))

-- the bytes of the partition
pub physical-is : (layout : LayoutValue) (state : State) (table : Option Content) (name : List ℕ) (b n : ℕ) (file : List ℕ) → physical_place 12288 layout.physical name ≡ Some (b, n) →
    part_bytes name (device-at layout state table file) ≡ take n (drop b file)
physical-is layout state table name b n file h =
    ap (λ o. unwrap_or (option_or o (option_map (λ p. p.bytes) (find (λ p. bytes_eq p.name name) (super_by layout layout.super_part table file).logical))) []) (placed-found 12288 layout.physical name b n file h)

-- nothing else changed in the image
front-same : (layout : LayoutValue) (part : Option SuperPart) (old new : List ℕ) → drop (parts_end layout.physical) new ≡ drop (parts_end layout.physical) old → IsFrontKept layout part old new
front-same layout None old new e = tt
front-same layout (Some s) old new e = ap (λ rest. take (first_unit s) (take s.size rest)) e

pub physical-body : (layout : LayoutValue) (name : List ℕ) (b n : ℕ) (old new : List ℕ) → physical_place 12288 layout.physical name ≡ Some (b, n) → DifferWithin b n old new → IsBodyChanged layout old new
physical-body layout name b n old new h w =
    let inside = place-within 12288 layout.physical name b n h in
    record {
      same_length = w.same_length;
      front = take-of 12288 b new old inside.0 w.front;
      super = front-same layout layout.super_part old new (drop-of (b + n) (parts_end layout.physical) new old (omega (arith, inside.1)) w.rest);
    }
