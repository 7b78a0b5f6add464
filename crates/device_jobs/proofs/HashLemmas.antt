-- A partition's bytes, read in pieces and hashed.
use Rattle.std.proofs.Common.{◌≡◌, ◌∙◌, refl, sym, ap, subst, ℕ, ◌+◌, ◌≤◌, Bool, true, false, not, List, [], ◌∷◌, ◌++◌, take, length, Option, Some, None, Err, arith}
use Rattle.std.specs.Prelude.{nat_lt}
use Rattle.std.proofs.lemmas.Bool.Decides.{nat_tests}
use Rattle.std.proofs.Math.Seq.{take-add}
use Rattle.sha2.specs.declared.Sha256.{Sha256}
use Rattle.sha2.specs.Hashers.{Holds256}
use Rattle.fb_frame.specs.Causes.{Rose}
use Rattle.dev_disk.specs.Disks.{DiskTold}
use Rattle.dev_model.specs.declared.device.Dev.{Dev}
use Rattle.dev_model.specs.Options.{first_passed}
use Rattle.dev_model.specs.Partitions.{is_partition}
use Rattle.dev_store.specs.declared.errors.StoreError.{StoreError}
use Rattle.dev_store.specs.declared.errors.StoreError.TheVariants.{NoPartition, TooLarge, Disk}
use Rattle.dev_store.specs.Changes.{range_flaw}
use Rattle.dev_store.specs.Held.{Held}
use Rattle.dev_store.specs.StoreCalls.{Decided, part_bytes, IsRangeRead}
use Rattle.device_jobs.specs.Working.{HasHashed}

not-below : (a b : ℕ) → b ≤ a → nat_lt a b ≡ false
not-below a b h = grind (arith, nat_tests)

-- a range of a partition isn't refused
pub range-none : (dev : Dev) (name : List ℕ) (at count : ℕ) → is_partition dev name ≡ true → at + count ≤ length (part_bytes name dev) → range_flaw dev name at count ≡ None
range-none dev name at count there inside =
    by (is_partition dev name) (nat_lt (length (part_bytes name dev)) (at + count)) there (not-below (length (part_bytes name dev)) (at + count) inside) where
      by : (b c : Bool) → b ≡ true → c ≡ false → first_passed ((not b, NoPartition) ∷ (c, TooLarge) ∷ []) ≡ None
      by true false h k = refl
      by true true h k = absurd cc
      by false c h k = absurd cc

-- a call that isn't refused fails only with the disk
pub disk-fails : {K : Type 0} (T : Type 0) (told : K → DiskTold) (flaw : Option StoreError) (old new : Held K) (e : StoreError) → flaw ≡ None → Decided {T = T} told flaw old new (Err e) → (e ≡ Disk) × Rose (told old.disk).faults (told new.disk).faults
disk-fails T told None old new e h d = d
disk-fails T told (Some flaw) old new e h d = absurd cc

pub hash-next : (image : Option (List ℕ)) (part : List ℕ) (at n : ℕ) (piece : List ℕ) (h k : Sha256) → length piece ≡ n → IsRangeRead image part at piece → ((m : List ℕ) → Holds256 h m → Holds256 k (m ++ piece)) →
    HasHashed image part at h → HasHashed image part (at + n) k
hash-next None part at n piece h k long r u held = tt
hash-next (Some file) part at n piece h k long r u held =
    let is : take at part ++ piece ≡ take (at + n) part =
    ap (λ p. take at part ++ p) r ∙ (sym (take-add at (length piece) part) ∙ ap (λ c. take (at + c) part) long) in
    subst (Holds256 k) is (u (take at part) held)
