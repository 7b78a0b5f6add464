-- Writing in a logical partition.
use Rattle.std.proofs.Common.{◌≡◌, ◌∙◌, refl, ap, sym, subst, ℕ, ◌+◌, ◌*◌, ◌<◌, ◌≤◌, Bool, true, false, List, [], ◌∷◌, ◌++◌, map, find, length, take, drop, Option, Some, None, option_map, unwrap_or, arith, if◌then◌else◌}
use Rattle.std.specs.Prelude.{◌||◌, bytes_eq, nat_lt}
use Rattle.std.specs.Option.{option_or}
use Rattle.std.specs.List.{list_all, flat_map, range_with_len}
use Rattle.fb_frame.specs.Distinct.{are_distinct}
use Rattle.dev_model.specs.declared.device.Logical.{Logical}
use Rattle.dev_model.specs.Partitions.{physical_changed, logical_changed, with_bytes}
use Rattle.dev_model.specs.Validity.{IsValid}
use Rattle.dev_model.proofs.Names.{among, any-mem, distinct-right, distinct-apart}
use Rattle.dev_model.proofs.Valid.{both}
use Rattle.dev_disk.specs.Files.{written}
use Rattle.unit_alloc.specs.Owning.{times_in}
use Rattle.unit_alloc.proofs.TimesLemmas.{times_in-append}
use Rattle.super_meta.specs.declared.table.Partition.{Partition}
use Rattle.super_meta.specs.Contents.{Content}
use Rattle.dev_store.specs.declared.layout.SuperPart.{SuperPart}
use Rattle.dev_store.specs.declared.state.State.{State}
use Rattle.dev_store.specs.LayoutLines.{first_unit, unit_count}
use Rattle.dev_store.specs.Layouts.{LayoutValue, parts_end}
use Rattle.dev_store.specs.Supers.{extents_of, bytes_in, units_of, unit_bytes, units_bytes, logical_at}
use Rattle.dev_store.specs.Stand.{physical_at, super_bytes, super_value, device_with}
use Rattle.dev_store.specs.Held.{super_by}
use Rattle.dev_store.specs.StoreCalls.{part_bytes}
use Rattle.dev_store.proofs.OpenLemmas.{physical-front}
use Rattle.dev_store.proofs.NamedLemmas.{find-told}
use Rattle.dev_store.proofs.OwnedOnce.{found-times}
use Rattle.dev_store.proofs.ValidSuper.{AreUnits, units-long, part-holds}
use Rattle.dev_store.proofs.ValidUnits.{times-once}
use Rattle.dev_store.proofs.PartLists.{take-of-written}
use Rattle.dev_store.proofs.PartDevices.{unnamed, rest-unnamed, physical-keeps, logical-keeps, names-apart, found-some, not-among}
use Rattle.dev_store.proofs.PartPhysical.{device-at}
use Rattle.dev_store.proofs.PartRuns.{IsRun, run-split, units-kept, run-written}

-- each unit but those of this list has its bytes
abbrev IsKeptOut : SuperPart → List ℕ → List ℕ → List ℕ → Type 0
IsKeptOut s units old new = (u : ℕ) → times_in u units ≡ 0 → unit_bytes s new u ≡ unit_bytes s old u

-- partitions with units that are kept
partition-kept : (s : SuperPart) (c : Content) (old new : List ℕ) (p : Partition) → ((u : ℕ) → 0 < times_in u (units_of s c p) → unit_bytes s new u ≡ unit_bytes s old u) → logical_at s c new p ≡ logical_at s c old p
unfolding units_bytes
partition-kept s c old new p h = ap (λ bytes. record (logical_at s c old p) { bytes = take (bytes_in (extents_of c p)) bytes }) (units-kept s old new (units_of s c p) h)

partitions-kept : (s : SuperPart) (c : Content) (old new : List ℕ) (ps : List Partition) → ((u : ℕ) → 0 < times_in u (flat_map (units_of s c) ps) → unit_bytes s new u ≡ unit_bytes s old u) →
    map (logical_at s c new) ps ≡ map (logical_at s c old) ps
partitions-kept s c old new [] h = refl
partitions-kept s c old new (p ∷ ps) h =
    let one = partition-kept s c old new p (λ u k. h u (let a = times_in-append u (units_of s c p) (flat_map (units_of s c) ps) in omega arith)) in
    let more = partitions-kept s c old new ps (λ u k. h u (let a = times_in-append u (units_of s c p) (flat_map (units_of s c) ps) in omega arith)) in
    λ i. one i ∷ more i

names-told : (s : SuperPart) (c : Content) (super : List ℕ) (ps : List Partition) → map (λ p. p.name) (map (logical_at s c super) ps) ≡ map (λ p. p.name) ps
names-told s c super [] = refl
names-told s c super (p ∷ ps) = ap (λ l. p.name ∷ l) (names-told s c super ps)

-- the partition that is found by its name, and the others
pub partitions-changed : (s : SuperPart) (c : Content) (name : List ℕ) (change : List ℕ → List ℕ) (q : Partition) (old new : List ℕ) → IsKeptOut s (units_of s c q) old new →
    change (logical_at s c old q).bytes ≡ (logical_at s c new q).bytes → (ps : List Partition) → are_distinct (map (λ p. p.name) ps) ≡ true → ((u : ℕ) → times_in u (flat_map (units_of s c) ps) ≤ 1) →
    find (λ p. bytes_eq p.name name) ps ≡ Some q → map (logical_at s c new) ps ≡ map (logical_changed name change) (map (logical_at s c old) ps)
partitions-changed s c name change q old new kept e [] d once h = absurd cc
partitions-changed s c name change q old new kept e (p ∷ ps) d once h =
    by (bytes_eq p.name name) refl h (partitions-changed s c name change q old new kept e ps (both _ (are_distinct (map (λ p. p.name) ps)) d).1 (λ u. let o = once u in let a = add u in omega arith)) where
      add : (u : ℕ) → times_in u (units_of s c p ++ flat_map (units_of s c) ps) ≡ times_in u (units_of s c p) + times_in u (flat_map (units_of s c) ps)
      add u = times_in-append u (units_of s c p) (flat_map (units_of s c) ps)

      at : (b : Bool) (l : Logical) → bytes_eq l.name name ≡ b → record l { bytes = (if b then change else λ x. x) l.bytes } ≡ logical_changed name change l
      at b l k = ap (λ t. record l { bytes = (if t then change else λ x. x) l.bytes }) (sym k)

      by : (b : Bool) → bytes_eq p.name name ≡ b → (if b then Some p else find (λ p. bytes_eq p.name name) ps) ≡ Some q →
          (find (λ p. bytes_eq p.name name) ps ≡ Some q → map (logical_at s c new) ps ≡ map (logical_changed name change) (map (logical_at s c old) ps)) →
          map (logical_at s c new) (p ∷ ps) ≡ map (logical_changed name change) (map (logical_at s c old) (p ∷ ps))
      by true k m more =
          let is : q ≡ p = ap (λ (o : Option Partition). unwrap_or o q) (sym m) in
          let own : logical_at s c new p ≡ record (logical_at s c old p) { bytes = change (logical_at s c old p).bytes } =
          ap (λ bytes. record (logical_at s c old p) { bytes = bytes }) (sym (subst (λ z. change (logical_at s c old z).bytes ≡ (logical_at s c new z).bytes) is e)) in
          let one : logical_at s c new p ≡ logical_changed name change (logical_at s c old p) = own ∙ at true (logical_at s c old p) k in
          let rest = partitions-kept s c old new ps
          (λ u l. kept u (ap (λ z. times_in u (units_of s c z)) is ∙ (let o = once u in let a = add u in omega arith))) in
          let free : among name (map (λ p. p.name) (map (logical_at s c old) ps)) ≡ false = ap (among name) (names-told s c old ps) ∙ rest-unnamed p.name name (map (λ p. p.name) ps) d k in
          let others = rest ∙ sym (unnamed (λ p. p.name) (logical_changed name change) name (logical-keeps name change) (map (logical_at s c old) ps) free) in
          λ i. one i ∷ others i
      by false k m more =
          let few : (u : ℕ) → times_in u (units_of s c q) ≤ times_in u (flat_map (units_of s c) ps) =
          λ u. subst (λ o. times_in u (unwrap_or (option_map (units_of s c) o) []) ≤ times_in u (flat_map (units_of s c) ps)) m (found-times (units_of s c) name u ps) in
          let one : logical_at s c new p ≡ logical_changed name change (logical_at s c old p) =
          partition-kept s c old new p (λ u l. kept u (let o = once u in let a = add u in let f = few u in omega arith))
          ∙ sym (logical-keeps name change (logical_at s c old p) k) in
          let rest = more m in
          λ i. one i ∷ rest i

-- the device has other bytes in this partition alone
super-changed : (layout : LayoutValue) (part : Option SuperPart) (s : SuperPart) (c : Content) (name : List ℕ) (change : List ℕ → List ℕ) (old new : List ℕ) → part ≡ Some s →
    map (logical_at s c (super_bytes layout s new)) c.partitions ≡ map (logical_changed name change) (map (logical_at s c (super_bytes layout s old)) c.partitions) →
    super_by layout part (Some c) new ≡ record (super_by layout part (Some c) old) { logical = map (logical_changed name change) (super_by layout part (Some c) old).logical }
super-changed layout part s c name change old new e h =
    subst (λ q. super_by layout q (Some c) new ≡ record (super_by layout q (Some c) old) { logical = map (logical_changed name change) (super_by layout q (Some c) old).logical }) (sym e)
    (ap (λ logical. record (super_value s c (super_bytes layout s old)) { logical = logical }) h)

pub logical-in : (layout : LayoutValue) (part : Option SuperPart) (s : SuperPart) (c : Content) (file : List ℕ) → part ≡ Some s → (super_by layout part (Some c) file).logical ≡ map (logical_at s c (super_bytes layout s file)) c.partitions
logical-in layout part s c file e = ap (λ q. (super_by layout q (Some c) file).logical) e

pub logical-changed : (layout : LayoutValue) (state : State) (s : SuperPart) (c : Content) (name : List ℕ) (change : List ℕ → List ℕ) (q : Partition) (old new : List ℕ) →
    IsValid (device-at layout state (Some c) old) → layout.super_part ≡ Some s → AreUnits layout.physical s c → find (λ p. bytes_eq p.name name) c.partitions ≡ Some q →
    take (parts_end layout.physical) new ≡ take (parts_end layout.physical) old → IsKeptOut s (units_of s c q) (super_bytes layout s old) (super_bytes layout s new) →
    change (logical_at s c (super_bytes layout s old) q).bytes ≡ (logical_at s c (super_bytes layout s new) q).bytes →
    device-at layout state (Some c) new ≡ with_bytes name change (device-at layout state (Some c) old)
logical-changed layout state s c name change q old new v e good h front kept own =
    let dev = device-at layout state (Some c) old in
    let ps = map (λ p. p.name) dev.physical in
    let ls = map (λ p. p.name) dev.logical in
    let d = names-apart dev v in
    let named : ls ≡ map (λ p. p.name) c.partitions = ap (map (λ p. p.name)) (logical-in layout layout.super_part s c old e) ∙ names-told s c (super_bytes layout s old) c.partitions in
    let there : among name ls ≡ true = ap (among name) named ∙ found-some (λ p. p.name) name c.partitions q h in
    let apart : among name ps ≡ false = not-among (among name ps) (λ m. distinct-apart ps ls d name (any-mem name ps m) (any-mem name ls there)) in
    let parts : physical_at 12288 layout.physical new ≡ dev.physical = physical-front 12288 layout.physical new old front in
    let same = unnamed (λ p. p.name) (physical_changed name change) name (physical-keeps name change) dev.physical apart in
    let logical = partitions-changed s c name change q (super_bytes layout s old) (super_bytes layout s new) kept own c.partitions
    (ap are_distinct (sym named) ∙ distinct-right ps ls d) (λ u. times-once u (flat_map (units_of s c) c.partitions) good.different) h in
    let super = super-changed layout layout.super_part s c name change old new e logical in
    λ i. device_with layout state ((parts ∙ sym same) i) (super i)

-- the bytes of the partition
unfound : {X : Type 0} (nm : X → List ℕ) (name : List ℕ) (xs : List X) → among name (map nm xs) ≡ false → find (λ x. bytes_eq (nm x) name) xs ≡ None
unfound nm name [] h = refl
unfound nm name (x ∷ xs) h = by (bytes_eq (nm x) name) (unfound nm name xs) h where
  by : (b : Bool) → (among name (map nm xs) ≡ false → find (λ x. bytes_eq (nm x) name) xs ≡ None) → (b || among name (map nm xs)) ≡ false → (if b then Some x else find (λ x. bytes_eq (nm x) name) xs) ≡ None
  by true more k = absurd cc
  by false more k = more k

pub logical-is : (layout : LayoutValue) (state : State) (s : SuperPart) (c : Content) (name : List ℕ) (q : Partition) (file : List ℕ) → IsValid (device-at layout state (Some c) file) →
    layout.super_part ≡ Some s → find (λ p. bytes_eq p.name name) c.partitions ≡ Some q → part_bytes name (device-at layout state (Some c) file) ≡ (logical_at s c (super_bytes layout s file) q).bytes
logical-is layout state s c name q file v e h =
    let dev = device-at layout state (Some c) file in
    let ps = map (λ p. p.name) dev.physical in
    let ls = map (λ p. p.name) dev.logical in
    let named : ls ≡ map (λ p. p.name) c.partitions = ap (map (λ p. p.name)) (logical-in layout layout.super_part s c file e) ∙ names-told s c (super_bytes layout s file) c.partitions in
    let there : among name ls ≡ true = ap (among name) named ∙ found-some (λ p. p.name) name c.partitions q h in
    let apart : among name ps ≡ false = not-among (among name ps) (λ m. distinct-apart ps ls (names-apart dev v) name (any-mem name ps m) (any-mem name ls there)) in
    let found : find (λ p. bytes_eq p.name name) dev.logical ≡ Some (logical_at s c (super_bytes layout s file) q) =
    ap (find (λ p. bytes_eq p.name name)) (logical-in layout layout.super_part s c file e) ∙ find-told name (λ p. p.name) (λ p. p.name) (logical_at s c (super_bytes layout s file)) (λ p. refl) c.partitions ∙ ap (option_map (logical_at s c (super_bytes layout s file))) h in
    ap (λ o. unwrap_or (option_or (option_map (λ p. p.bytes) o) (option_map (λ p. p.bytes) (find (λ p. bytes_eq p.name name) dev.logical))) []) (unfound (λ p. p.name) name dev.physical apart)
    ∙ ap (λ o. unwrap_or (option_map (λ p. p.bytes) o) []) found

-- a write inside a run of the partition's units is a write in the partition
pub partition-written : (s : SuperPart) (c : Content) (q : Partition) (place count first off : ℕ) (bytes super : List ℕ) → IsRun (units_of s c q) place count first → 0 < s.unit → length super ≡ s.size →
    list_all (λ u. nat_lt u (unit_count s)) (units_of s c q) ≡ true → ((u : ℕ) → times_in u (units_of s c q) ≤ 1) → off + length bytes ≤ count * s.unit →
    place * s.unit + off + length bytes ≤ bytes_in (extents_of c q) →
    (logical_at s c (written super (first_unit s + (first * s.unit + off)) bytes) q).bytes ≡ written (logical_at s c super q).bytes (place * s.unit + off) bytes
partition-written s c q place count first off bytes super r h long all once fits inside =
    let joined = units-long s super long h (units_of s c q) all in
    let holds = part-holds s c q h in
    ap (take (bytes_in (extents_of c q))) (run-written s (units_of s c q) place count first off bytes super r h long all once fits)
    ∙ take-of-written (units_bytes s super (units_of s c q)) (bytes_in (extents_of c q)) (place * s.unit + off) bytes inside (omega arith)

-- a unit that isn't the partition's is in no run of its units
pub run-apart : (units : List ℕ) (place count first u : ℕ) → IsRun units place count first → times_in u units ≡ 0 → times_in u (range_with_len first count) ≡ 0
run-apart units place count first u r h =
    let e = ap (times_in u) (run-split units place count first r) in
    let p = times_in-append u (take place units) (range_with_len first count ++ drop (place + count) units) in
    let q = times_in-append u (range_with_len first count) (drop (place + count) units) in
    omega arith
