-- Whether a range lies in a partition, by the partition's size.
use Rattle.std.proofs.Common.{◌≡◌, ◌∙◌, refl, ap, sym, subst, ℕ, ◌+◌, Bool, true, false, not, ◌||◌, List, [], ◌∷◌, find, length, map, Option, Some, None, Ok, Err, option_map, if◌then◌else◌}
use Rattle.std.specs.Prelude.{bytes_eq, is_some, nat_lt, IfSome}
use Rattle.std.specs.Option.{option_or}
use Rattle.std.specs.List.{list_any}
use Rattle.fb_frame.specs.Causes.{Rose}
use Rattle.dev_disk.specs.Disks.{DiskTold, open_bytes}
use Rattle.dev_model.specs.Options.{first_passed}
use Rattle.dev_model.specs.Partitions.{is_partition}
use Rattle.super_meta.specs.declared.table.Partition.{Partition}
use Rattle.super_meta.specs.Contents.{Content}
use Rattle.dev_store.specs.declared.layout.PhysicalPart.{PhysicalPart}
use Rattle.dev_store.specs.declared.layout.SuperPart.{SuperPart}
use Rattle.dev_store.specs.declared.state.State.{State}
use Rattle.dev_store.specs.declared.errors.StoreError.{StoreError}
use Rattle.dev_store.specs.declared.errors.StoreError.TheVariants.{NoPartition, TooLarge, Disk}
use Rattle.dev_store.specs.Changes.{range_flaw}
use Rattle.dev_store.specs.Layouts.{LayoutValue}
use Rattle.dev_store.specs.Supers.{extents_of, bytes_in, logical_at}
use Rattle.dev_store.specs.Stand.{physical_at}
use Rattle.dev_store.specs.Held.{Held, device_held, file_or_zeros, super_by, IsKept, IsTabled}
use Rattle.dev_store.specs.StoreCalls.{part_bytes, Decided}
use Rattle.dev_store.specs.declared.super_read.SuperRead.{SuperRead}
use Rattle.dev_store.specs.Reading.{held_by, table_within}
use Rattle.dev_store.specs.PartWrites.{physical_place}
use Rattle.dev_store.specs.PartPlaces.{logical_size, part_size, size_flaw}
use Rattle.dev_store.proofs.PartWritten.{physical_long, logical_long}

-- there is a physical partition of a name
physical-any : (place : ℕ) (parts : List PhysicalPart) (file name : List ℕ) → list_any (λ p. bytes_eq p.name name) (physical_at place parts file) ≡ is_some (physical_place place parts name)
physical-any place [] file name = refl
physical-any place (p ∷ parts) file name = by (bytes_eq p.name name) (physical-any (place + p.size) parts file name) where
  by : (b : Bool) → list_any (λ q. bytes_eq q.name name) (physical_at (place + p.size) parts file) ≡ is_some (physical_place (place + p.size) parts name) →
      (b || list_any (λ q. bytes_eq q.name name) (physical_at (place + p.size) parts file)) ≡ is_some (if b then Some (place, p.size) else physical_place (place + p.size) parts name)
  by true h = refl
  by false h = h

-- there is a logical one
entry-any : (s : SuperPart) (c : Content) (super name : List ℕ) (size : Partition → ℕ) (ps : List Partition) → list_any (λ p. bytes_eq p.name name) (map (logical_at s c super) ps) ≡ is_some (option_map size (find (λ p. bytes_eq p.name name) ps))
entry-any s c super name size [] = refl
entry-any s c super name size (p ∷ ps) = by (bytes_eq p.name name) (entry-any s c super name size ps) where
  by : (b : Bool) → list_any (λ q. bytes_eq q.name name) (map (logical_at s c super) ps) ≡ is_some (option_map size (find (λ q. bytes_eq q.name name) ps)) →
      (b || list_any (λ q. bytes_eq q.name name) (map (logical_at s c super) ps)) ≡ is_some (option_map size (if b then Some p else find (λ q. bytes_eq q.name name) ps))
  by true h = refl
  by false h = h

logical-any : (layout : LayoutValue) (part : Option SuperPart) (table : Option Content) (file name : List ℕ) → IsTabled layout part table →
    list_any (λ p. bytes_eq p.name name) (super_by layout part table file).logical ≡ is_some (logical_size table name)
logical-any layout None None file name t = refl
logical-any layout None (Some c) file name t = absurd t
logical-any layout (Some s) None file name t = absurd t
logical-any layout (Some s) (Some c) file name t = entry-any s c _ name (λ p. bytes_in (extents_of c p)) c.partitions

some-of : {X Y : Type 0} (f : X → Y) (a : Option X) (b : Option Y) → (is_some a || is_some b) ≡ is_some (option_or (option_map f a) b)
some-of f None b = refl
some-of f (Some x) b = refl

there-by-size : (layout : LayoutValue) (state : State) (table : Option Content) (image : Option (List ℕ)) (name : List ℕ) → IsKept layout state table image →
    is_partition (device_held layout state table image) name ≡ is_some (part_size layout table name)
unfolding device_held
there-by-size layout state table image name k =
    let file = file_or_zeros layout image in
    ap (λ b. b || list_any (λ p. bytes_eq p.name name) (super_by layout layout.super_part table file).logical) (physical-any 12288 layout.physical file name)
    ∙ (ap (λ b. is_some (physical_place 12288 layout.physical name) || b) (logical-any layout layout.super_part table file name k.tabled)
    ∙ some-of (λ p. p.1) (physical_place 12288 layout.physical name) (logical_size table name))

-- and it has as many bytes
table-long : (layout : LayoutValue) (state : State) (part : Option SuperPart) (table : Option Content) (image : Option (List ℕ)) (name : List ℕ) → layout.super_part ≡ part → IsTabled layout part table →
    IsKept layout state table image → IfSome (logical_size table name) (λ n. length (part_bytes name (device_held layout state table image)) ≡ n)
table-long layout state None None image name e t k = tt
table-long layout state None (Some c) image name e t k = absurd t
table-long layout state (Some s) None image name e t k = absurd t
table-long layout state (Some s) (Some c) image name e t k = by (find (λ p. bytes_eq p.name name) c.partitions) refl where
  by : (o : Option Partition) → find (λ p. bytes_eq p.name name) c.partitions ≡ o → IfSome (option_map (λ p. bytes_in (extents_of c p)) o) (λ n. length (part_bytes name (device_held layout state (Some c) image)) ≡ n)
  by None h = tt
  by (Some q) h = logical_long layout state s c name q image k e h

long-by-size : (layout : LayoutValue) (state : State) (table : Option Content) (image : Option (List ℕ)) (name : List ℕ) → IsKept layout state table image →
    IfSome (part_size layout table name) (λ n. length (part_bytes name (device_held layout state table image)) ≡ n)
long-by-size layout state table image name k = by (physical_place 12288 layout.physical name) refl where
  by : (o : Option (ℕ × ℕ)) → physical_place 12288 layout.physical name ≡ o → IfSome (option_or (option_map (λ p. p.1) o) (logical_size table name)) (λ n. length (part_bytes name (device_held layout state table image)) ≡ n)
  by None h = table-long layout state layout.super_part table image name refl k.tabled k
  by (Some (b, n)) h = physical_long layout state table name b n image k h

-- a refusal by the size
passed-or : (b : Bool) (n end : ℕ) (o : Option ℕ) → b ≡ is_some o → IfSome o (λ m. n ≡ m) → first_passed ((not b, NoPartition) ∷ (nat_lt n end, TooLarge) ∷ []) ≡ size_flaw o end
passed-or b n end None e h = ap (λ t. first_passed ((not t, NoPartition) ∷ (nat_lt n end, TooLarge) ∷ [])) e
passed-or b n end (Some m) e h =
    ap (λ t. first_passed ((not t, NoPartition) ∷ (nat_lt n end, TooLarge) ∷ [])) e
    ∙ (ap (λ k. first_passed ((not true, NoPartition) ∷ (nat_lt k end, TooLarge) ∷ [])) h ∙ last (nat_lt m end)) where
      last : (t : Bool) → first_passed ((not true, NoPartition) ∷ (t, TooLarge) ∷ []) ≡ (if t then Some TooLarge else None)
      last true = refl
      last false = refl

pub flaw-by-size : (layout : LayoutValue) (state : State) (table : Option Content) (image : Option (List ℕ)) (name : List ℕ) (at count : ℕ) → IsKept layout state table image →
    range_flaw (device_held layout state table image) name at count ≡ size_flaw (part_size layout table name) (at + count)
flaw-by-size layout state table image name at count k =
    passed-or (is_partition (device_held layout state table image) name) (length (part_bytes name (device_held layout state table image))) (at + count) (part_size layout table name)
    (there-by-size layout state table image name k) (long-by-size layout state table image name k)

-- A call on a store answers by the size of its partition: it refuses, meets a fault, or does what it was asked.
pub decided-refused : {K : Type 0} (told : K → DiskTold) (disk : K) (layout : LayoutValue) (state : State) (within : Option SuperRead) (broken : Bool) (name : List ℕ) (at count : ℕ) (refusal : StoreError) (new : Held K) →
    IsKept layout state (table_within within) (open_bytes (told disk)) → size_flaw (part_size layout (table_within within) name) (at + count) ≡ Some refusal →
    Decided {T = Unit {0}} told (range_flaw (held_by told disk layout state within broken).device name at count) (held_by told disk layout state within broken) new (Err refusal)
decided-refused told disk layout state within broken name at count refusal new k h =
    let held = held_by told disk layout state within broken in
    subst (λ o. Decided {T = Unit {0}} told o held new (Err refusal)) (sym (flaw-by-size layout state (table_within within) (open_bytes (told disk)) name at count k ∙ h)) refl

pub decided-fault : {K : Type 0} (told : K → DiskTold) (disk : K) (layout : LayoutValue) (state : State) (within : Option SuperRead) (broken : Bool) (name : List ℕ) (at count : ℕ) (new : Held K) →
    IsKept layout state (table_within within) (open_bytes (told disk)) → size_flaw (part_size layout (table_within within) name) (at + count) ≡ None → Rose (told disk).faults (told new.disk).faults →
    Decided {T = Unit {0}} told (range_flaw (held_by told disk layout state within broken).device name at count) (held_by told disk layout state within broken) new (Err Disk)
decided-fault told disk layout state within broken name at count new k h rose =
    let held = held_by told disk layout state within broken in
    subst (λ o. Decided {T = Unit {0}} told o held new (Err Disk)) (sym (flaw-by-size layout state (table_within within) (open_bytes (told disk)) name at count k ∙ h)) (refl, rose)

pub decided-done : {K : Type 0} (told : K → DiskTold) (disk : K) (layout : LayoutValue) (state : State) (within : Option SuperRead) (broken : Bool) (name : List ℕ) (at count : ℕ) (new : Held K) →
    IsKept layout state (table_within within) (open_bytes (told disk)) → size_flaw (part_size layout (table_within within) name) (at + count) ≡ None →
    Decided {T = Unit {0}} told (range_flaw (held_by told disk layout state within broken).device name at count) (held_by told disk layout state within broken) new (Ok tt)
decided-done told disk layout state within broken name at count new k h =
    let held = held_by told disk layout state within broken in
    subst (λ o. Decided {T = Unit {0}} told o held new (Ok tt)) (sym (flaw-by-size layout state (table_within within) (open_bytes (told disk)) name at count k ∙ h)) tt
