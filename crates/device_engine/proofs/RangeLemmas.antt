-- Ranges of a partition that a store writes.
use Rattle.std.proofs.Common.{◌≡◌, ◌∙◌, ◌⊎◌, inl, inr, refl, ap, sym, subst, ℕ, ◌+◌, ◌≤◌, Bool, true, false, not, ◌||◌, ◌&&◌, List, [], ◌∷◌, map, length, Option, Some, None, option_map, Result, Ok, Err, arith, if◌then◌else◌}
use Rattle.std.specs.Prelude.{is_some, unwrap_or, nat_lt, bytes_eq, OnErr}
use Rattle.std.specs.Result.{IsErrOf}
use Rattle.std.specs.List.{list_any}
use Rattle.std.proofs.lemmas.Bool.Decides.{nat_tests}
use Rattle.dev_disk.specs.Disks.{DiskTold}
use Rattle.dev_disk.proofs.TwinLemmas.{OpenKept-then}
use Rattle.dev_model.specs.declared.device.Dev.{Dev}
use Rattle.dev_model.specs.declared.device.Physical.{Physical}
use Rattle.dev_model.specs.declared.device.Logical.{Logical}
use Rattle.dev_model.specs.Options.{first_passed}
use Rattle.dev_model.specs.Partitions.{is_physical, is_logical, is_partition, is_target, is_userspace, bytes_of, physical_changed, logical_changed, with_bytes}
use Rattle.dev_model.specs.Validity.{IsValid}
use Rattle.dev_model.proofs.KeepingLemmas.{writes_one}
use Rattle.dev_model.proofs.Names.{among}
use Rattle.dev_model.proofs.Valid.{map-same}
use Rattle.fb_frame.specs.Bytes.{zeros}
use Rattle.dev_store.specs.declared.errors.StoreError.{StoreError}
use Rattle.dev_store.specs.declared.errors.StoreError.TheVariants.{NoPartition, TooLarge, Disk}
use Rattle.dev_store.specs.Changes.{range_flaw, put_at}
use Rattle.dev_store.specs.Held.{Held, seen, zeroed, zeroed_physical, zeroed_logical, IsSound, DiskKept}
use Rattle.dev_store.specs.StoreCalls.{Decided, IsPartly, part_bytes, kind_of}
use Rattle.dev_store.proofs.PartDevices.{names-apart, other-unnamed, put-of-zeroed}
use Rattle.dev_store.proofs.SuperRepairLemmas.{widen}
use Rattle.dev_store.proofs.ZeroedLemmas.{zeroed_refuses}
use Rattle.device_engine.specs.Putting.{HasRoom, IsTorn, is_target_by}

-- a partition of the name has this many bytes
range-by : (there : Bool) (long end : ℕ) → first_passed ((not there, NoPartition) ∷ (nat_lt long end, TooLarge) ∷ []) ≡ None → (there ≡ true) × (end ≤ long)
range-by false long end e = absurd cc
range-by true long end e = (refl, by (nat_lt long end) refl e) where
  by : (b : Bool) → nat_lt long end ≡ b → first_passed ((b, TooLarge) ∷ []) ≡ None → end ≤ long
  by true h k = absurd cc
  by false h k = grind (arith, nat_tests)

range-of : (there : Bool) (long end : ℕ) → there ≡ true → end ≤ long → first_passed ((not there, NoPartition) ∷ (nat_lt long end, TooLarge) ∷ []) ≡ None
range-of false long end t h = absurd cc
range-of true long end t h =
    let e : nat_lt long end ≡ false = grind (arith, nat_tests) in
    ap (λ b. first_passed ((b, TooLarge) ∷ [])) e

pub range-in : (dev : Dev) (name : List ℕ) (at count : ℕ) → range_flaw dev name at count ≡ None → (is_partition dev name ≡ true) × (at + count ≤ length (part_bytes name dev))
range-in dev name at count e = range-by (is_partition dev name) (length (part_bytes name dev)) (at + count) e

pub range-is : (dev : Dev) (name : List ℕ) (at count : ℕ) → is_partition dev name ≡ true → at + count ≤ length (part_bytes name dev) → range_flaw dev name at count ≡ None
range-is dev name at count t h = range-of (is_partition dev name) (length (part_bytes name dev)) (at + count) t h

pub range-less : (dev : Dev) (name : List ℕ) (at count end : ℕ) → range_flaw dev name 0 end ≡ None → at + count ≤ end → range_flaw dev name at count ≡ None
range-less dev name at count end e h =
    let r = range-in dev name 0 end e in
    range-is dev name at count r.0 (omega (arith, r.1, h))

-- what is seen of a device has the same ranges
pub range-seen : (image : Option (List ℕ)) (dev : Dev) (name : List ℕ) (at count : ℕ) → range_flaw (seen image dev) name at count ≡ range_flaw dev name at count
unfolding seen
range-seen None dev name at count = zeroed_refuses.range dev name at count
range-seen (Some file) dev name at count = refl

-- and so has one with other bytes in the partition
any-physical : (name : List ℕ) (change : List ℕ → List ℕ) (ps : List Physical) → list_any (λ p. bytes_eq p.name name) (map (physical_changed name change) ps) ≡ list_any (λ p. bytes_eq p.name name) ps
any-physical name change [] = refl
any-physical name change (p ∷ ps) = ap (λ b. bytes_eq p.name name || b) (any-physical name change ps)

any-logical : (name : List ℕ) (change : List ℕ → List ℕ) (ps : List Logical) → list_any (λ p. bytes_eq p.name name) (map (logical_changed name change) ps) ≡ list_any (λ p. bytes_eq p.name name) ps
any-logical name change [] = refl
any-logical name change (p ∷ ps) = ap (λ b. bytes_eq p.name name || b) (any-logical name change ps)

pub there-kept : (name : List ℕ) (change : List ℕ → List ℕ) (dev : Dev) → is_partition (with_bytes name change dev) name ≡ is_partition dev name
there-kept name change dev =
    ap (λ b. b || is_logical (with_bytes name change dev) name) (any-physical name change dev.physical) ∙ ap (λ b. is_physical dev name || b) (any-logical name change dev.logical)

chosen-long : (b : Bool) (f : List ℕ → List ℕ) (o : Option (List ℕ)) → length (f (unwrap_or o [])) ≡ length (unwrap_or o []) → length (unwrap_or (option_map (if b then f else λ bytes. bytes) o) []) ≡ length (unwrap_or o [])
chosen-long true f None h = refl
chosen-long false f None h = refl
chosen-long true f (Some x) h = h
chosen-long false f (Some x) h = refl

pub long-kept : (name : List ℕ) (change : List ℕ → List ℕ) (dev : Dev) → length (change (part_bytes name dev)) ≡ length (part_bytes name dev) → length (part_bytes name (with_bytes name change dev)) ≡ length (part_bytes name dev)
long-kept name change dev h = ap (λ o. length (unwrap_or o [])) (writes_one name name change dev) ∙ chosen-long (bytes_eq name name) change (bytes_of dev name) h

pub range-kept : (name : List ℕ) (change : List ℕ → List ℕ) (dev : Dev) (end : ℕ) → length (change (part_bytes name dev)) ≡ length (part_bytes name dev) → range_flaw dev name 0 end ≡ None →
    range_flaw (with_bytes name change dev) name 0 end ≡ None
range-kept name change dev end h e =
    let r = range-in dev name 0 end e in
    range-is (with_bytes name change dev) name 0 end (there-kept name change dev ∙ r.0) (omega (arith, r.1, long-kept name change dev h))

-- a disk that is kept by two calls
module _ {K L : Type 0} (told : K → DiskTold) (lent : K → L) where
  pub disk-then : (a b c : K) → DiskKept told lent a b → DiskKept told lent b c → DiskKept told lent a c
  disk-then a b c h k = record { same = k.same ∙ h.same; kept = OpenKept-then (told a) (told b) (told c) h.kept k.kept }

-- a call of the store that writes a range
module _ {K : Type 0} (told : K → DiskTold) where
  pub torn-by : (name : List ℕ) (at count : ℕ) (old new : Held K) (done : Result (Unit {0}) StoreError) → range_flaw old.device name at count ≡ None →
      Decided told (range_flaw old.device name at count) old new done → (IsErrOf done Disk → IsPartly name at count old.device new.device) → IsSound told new → OnErr done (IsTorn told name at count old new)
  torn-by name at count old new done e d part sound = by done (subst (λ o. Decided told o old new done) e d) part where
    by : (done : Result (Unit {0}) StoreError) → Decided told None old new done → (IsErrOf done Disk → IsPartly name at count old.device new.device) → OnErr done (IsTorn told name at count old new)
    by (Ok x) d part = tt
    by (Err error) d part = record { part = part (ap Err d.0); sound = sound; rose = d.1 }

  pub torn-err : (name : List ℕ) (at count : ℕ) (old new : Held K) (done : Result (Unit {0}) StoreError) (error : StoreError) → done ≡ Err error → range_flaw old.device name at count ≡ None →
      Decided told (range_flaw old.device name at count) old new done → (IsErrOf done Disk → IsPartly name at count old.device new.device) → IsSound told new → IsTorn told name at count old new
  torn-err name at count old new done error is e d part sound = subst (λ r. OnErr r (IsTorn told name at count old new)) is (torn-by name at count old new done e d part sound)

  -- a range that lies in the room
  pub room-range : (name : List ℕ) (at count end : ℕ) (old : Held K) → HasRoom told name end old → at + count ≤ end → range_flaw old.device name at count ≡ None
  room-range name at count end old r h = range-less old.device name at count end r.fits h

-- writes on a device that is seen
pub seen-puts : (mid new : Option (List ℕ)) → is_some mid ≡ is_some new → (name : List ℕ) (at : ℕ) (bytes : List ℕ) (dev : Dev) → seen new (put_at name at bytes (seen mid dev)) ≡ seen new (put_at name at bytes dev)
unfolding seen
seen-puts None None e name at bytes dev = put-of-zeroed name at bytes dev
seen-puts None (Some n) e name at bytes dev = absurd cc
seen-puts (Some m) None e name at bytes dev = absurd cc
seen-puts (Some m) (Some n) e name at bytes dev = refl

-- a changed device, or, where nothing is told, the one before
pub seen-either : (image : Option (List ℕ)) (old changed : Dev) → (is_some image ≡ false → old ≡ zeroed old) → zeroed changed ≡ zeroed old → (seen image changed ≡ changed) ⊎ (seen image changed ≡ old)
unfolding seen
seen-either None old changed z e = inr (e ∙ sym (z refl))
seen-either (Some file) old changed z e = inl refl

pub partly-widen : (name : List ℕ) (at count place size : ℕ) (dev t : Dev) → IsPartly name at count dev t → place ≤ at → at + count ≤ place + size → IsPartly name place size dev t
partly-widen name at count place size dev t p low high =
    record { differs = widen at count place size (part_bytes name dev) (part_bytes name t) p.differs low high; same = p.same }

-- Which partitions are flashed and erased.
any-among : {X : Type 0} (nm : X → List ℕ) (name : List ℕ) (xs : List X) → list_any (λ x. bytes_eq (nm x) name) xs ≡ among name (map nm xs)
any-among nm name [] = refl
any-among nm name (x ∷ xs) = ap (λ b. bytes_eq (nm x) name || b) (any-among nm name xs)

apart : (dev : Dev) (name : List ℕ) → IsValid dev → is_physical dev name ≡ true → is_logical dev name ≡ false
apart dev name v h =
    any-among (λ p. p.name) name dev.logical
    ∙ other-unnamed name (map (λ p. p.name) dev.physical) (map (λ p. p.name) dev.logical) (names-apart dev v) (sym (any-among (λ p. p.name) name dev.physical) ∙ h)

kinds : (p l u : Bool) → (p ≡ true → l ≡ false) → is_target_by (if p || l then Some l else None) u ≡ (p || (u && l))
kinds true true u h = let k = h refl in absurd cc
kinds true false u h = refl
kinds false true true h = refl
kinds false true false h = refl
kinds false false true h = refl
kinds false false false h = refl

pub target-by-kind : (dev : Dev) (name : List ℕ) → IsValid dev → is_target_by (kind_of dev name) (is_userspace dev.mode) ≡ is_target dev name
target-by-kind dev name v = kinds (is_physical dev name) (is_logical dev name) (is_userspace dev.mode) (apart dev name v)

target-there : (p l u : Bool) → (p || (u && l)) ≡ true → (p || l) ≡ true
target-there true l u h = refl
target-there false true u h = refl
target-there false false true h = absurd cc
target-there false false false h = absurd cc

pub target-partition : (dev : Dev) (name : List ℕ) → is_target dev name ≡ true → is_partition dev name ≡ true
target-partition dev name h = target-there (is_physical dev name) (is_logical dev name) (is_userspace dev.mode) h

-- how many bytes a partition has
pub size-some : (o : Option (List ℕ)) (n : ℕ) → Some n ≡ option_map length o → n ≡ length (unwrap_or o [])
size-some None n e = absurd cc
size-some (Some x) n e = cc

pub size-none : (o : Option (List ℕ)) → None ≡ option_map length o → 0 ≡ length (unwrap_or o [])
size-none None e = refl
size-none (Some x) e = absurd cc

-- changes that change nothing, and changes that keep lengths
all-self : {X : Type 0} (f : X → X) → ((x : X) → f x ≡ x) → (xs : List X) → map f xs ≡ xs
all-self f h [] = refl
all-self f h (x ∷ xs) = let one = h x in let rest = all-self f h xs in λ i. one i ∷ rest i

chosen-self : (b : Bool) (f : List ℕ → List ℕ) (x : List ℕ) → f x ≡ x → (if b then f else λ bytes. bytes) x ≡ x
chosen-self true f x h = h
chosen-self false f x h = refl

pub same-device : (name : List ℕ) (change : List ℕ → List ℕ) (dev : Dev) → ((x : List ℕ) → change x ≡ x) → with_bytes name change dev ≡ dev
same-device name change dev h =
    let a = all-self (physical_changed name change) (λ p. ap (λ x. record p { bytes = x }) (chosen-self (bytes_eq p.name name) change p.bytes (h p.bytes))) dev.physical in
    let b = all-self (logical_changed name change) (λ p. ap (λ x. record p { bytes = x }) (chosen-self (bytes_eq p.name name) change p.bytes (h p.bytes))) dev.logical in
    λ i. record dev { physical = a i; logical = b i }

length-chosen : (b : Bool) (f : List ℕ → List ℕ) (x : List ℕ) → length (f x) ≡ length x → length ((if b then f else λ bytes. bytes) x) ≡ length x
length-chosen true f x h = h
length-chosen false f x h = refl

pub bytes-zeroed : (name : List ℕ) (change : List ℕ → List ℕ) (dev : Dev) → ((x : List ℕ) → length (change x) ≡ length x) → zeroed (with_bytes name change dev) ≡ zeroed dev
bytes-zeroed name change dev h =
    let a = map-same (physical_changed name change) zeroed_physical (λ p. ap (λ n. record p { bytes = zeros n }) (length-chosen (bytes_eq p.name name) change p.bytes (h p.bytes))) dev.physical in
    let b = map-same (logical_changed name change) zeroed_logical (λ p. ap (λ n. record p { bytes = zeros n }) (length-chosen (bytes_eq p.name name) change p.bytes (h p.bytes))) dev.logical in
    λ i. record dev { physical = a i; logical = b i }
