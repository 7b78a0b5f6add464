-- What a command keeps that leaves a device as it was, or changes its mode.
use Rattle.std.proofs.Common.{◌≡◌, refl, ap, sym, subst, ℕ, true, List, Option, Some, None, arith}
use Rattle.dev_disk.specs.Files.{Files, content}
use Rattle.dev_disk.specs.Calls.{Agrees, IsFileOf}
use Rattle.dev_disk.specs.Disks.{DiskTold, OpenKept, open_bytes}
use Rattle.dev_disk.proofs.TwinLemmas.{OpenKept-files}
use Rattle.dev_model.specs.declared.device.Dev.{Dev}
use Rattle.dev_model.specs.declared.device.Mode.{Mode}
use Rattle.dev_model.specs.declared.device.Mode.TheVariants.{Bootloader, Userspace, System, Recovery, Halted}
use Rattle.dev_model.specs.Partitions.{with_mode, is_fastboot}
use Rattle.dev_store.specs.Held.{Held, held_in, seen, Holds, IsWhole, DiskKept}
use Rattle.device_engine.specs.Kinds.{IsLive}
use Rattle.device_engine.specs.Running.{held_of, IsTyped, IsInOrder, IsInOrderIn, HasMax, HasMaxIn, HasDeviceIn, Follows}
use Rattle.device_engine.specs.declared.device.Device.{Device}

-- a device for which the image stands is told as far as it is
pub seen-held : (o : Option (List ℕ)) (dev : Dev) → Holds o dev → dev ≡ seen o dev
unfolding Holds seen
seen-held None dev h = h
seen-held (Some file) dev h = refl

-- and so in every mode
pub seen-mode : (o : Option (List ℕ)) (mode : Mode) (dev : Dev) → dev ≡ seen o dev → with_mode mode dev ≡ seen o (with_mode mode dev)
unfolding seen
seen-mode None mode dev e = ap (with_mode mode) e
seen-mode (Some file) mode dev e = refl

pub mode-seen : (o : Option (List ℕ)) (dev : Dev) → (seen o dev).mode ≡ dev.mode
unfolding seen
mode-seen None dev = refl
mode-seen (Some file) dev = refl

pub max-in : (mode : Mode) (max : ℕ) (dev : Dev) → dev.max ≡ max → HasMaxIn mode max dev
max-in Halted max dev e = tt
max-in Bootloader max dev e = e
max-in Userspace max dev e = e
max-in System max dev e = e
max-in Recovery max dev e = e

pub live-fastboot : (mode : Mode) → is_fastboot mode ≡ true → IsLive mode
live-fastboot Halted e = absurd cc
live-fastboot Bootloader e = tt
live-fastboot Userspace e = tt
live-fastboot System e = tt
live-fastboot Recovery e = tt

module _ {K : Type 0} (told : K → DiskTold) where
  pub order-in : (mode : Mode) (held : Held K) → IsWhole told held → IsInOrderIn mode told held
  order-in Halted held w = tt
  order-in Bootloader held w = w
  order-in Userspace held w = w
  order-in System held w = w
  order-in Recovery held w = w

  pub device-in : (mode : Mode) (held : Held K) → IsLive mode → HasDeviceIn mode told held held.device
  device-in Halted held l = absurd l
  device-in Bootloader held l = refl
  device-in Userspace held l = refl
  device-in System held l = refl
  device-in Recovery held l = refl

-- a disk that wasn't called
pub kept-self : {K L : Type 0} (told : K → DiskTold) (lent : K → L) (disk : K) → DiskKept told lent disk disk
kept-self told lent disk = record {
  same = refl;
  kept = OpenKept-files (told disk) (told disk) (record { files = refl; path = refl; length = refl; later = omega arith; torn = λ old written left h. h });
}

-- A disk that tells its open file tells it still.
file-there : (o : Option (List ℕ)) (size : ℕ) → IsFileOf o size → o ≡ None → ⊥
file-there None size b n = b
file-there (Some file) size b n = cc

still-in : (f g : Option Files) (p q : Option (List ℕ)) (s t : Option ℕ) → Agrees f p s → Agrees g q t → q ≡ p → t ≡ s → content g q ≡ None → content f p ≡ None
unfolding content
still-in None g p q s t a b e l n = refl
still-in (Some files) g None q s t a b e l n = refl
still-in (Some files) None (Some path) q s t a b e l n = absurd cc
still-in (Some files) (Some more) (Some path) None s t a b e l n = absurd cc
still-in (Some files) (Some more) (Some path) (Some other) s None a b e l n = absurd b
still-in (Some files) (Some more) (Some path) (Some other) s (Some size) a b e l n = absurd (file-there (more other) size b n)

pub told-still : (old new : DiskTold) → Agrees old.files old.open_path old.open_length → Agrees new.files new.open_path new.open_length → OpenKept old new → open_bytes new ≡ None → open_bytes old ≡ None
told-still old new a b kept n = still-in old.files new.files old.open_path new.open_path old.open_length new.open_length a b kept.path kept.length n

-- the store in its own mode
pub same-held : {K : Type 0} (mode : Mode) (held : Held K) → held.device.mode ≡ mode → held ≡ held_in mode held
same-held mode held e = λ i. record held { device = record held.device { mode = e i } }

-- a device that is made of a store
pub follows-made : {K L : Type 0} (told : K → DiskTold) (lent : K → L) (old made : Held K) (next : Device K) → IsTyped next → held_of next ≡ made → IsInOrder told made →
    HasMax old.device.max made.device → DiskKept told lent old.disk made.disk → Follows told lent old next
follows-made told lent old made next t e o m k = record {
  typed = t;
  in_order = subst (IsInOrder told) (sym e) o;
  max = subst (λ held. HasMax old.device.max held.device) (sym e) m;
  kept = subst (λ held. DiskKept told lent old.disk held.disk) (sym e) k;
}
