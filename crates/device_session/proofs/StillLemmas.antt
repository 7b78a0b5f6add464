-- A device that no call changed.
use Rattle.std.proofs.Common.{◌≡◌, ◌≢◌, false, ℕ, List, Option, Some, None, refl, sym, ap, ◌∙◌}
use Rattle.std.specs.Prelude.{IsTrue}
use Rattle.dev_disk.specs.Disks.{DiskTold}
use Rattle.dev_model.specs.declared.device.Dev.{Dev}
use Rattle.dev_model.specs.declared.device.Mode.{Mode}
use Rattle.dev_model.specs.declared.device.Mode.TheVariants as mode
use Rattle.dev_model.specs.Partitions.{is_fastboot}
use Rattle.dev_store.specs.Held.{Held, image_of, seen, zeroed, Holds, IsWhole}
use Rattle.device_engine.specs.Running.{IsInOrder, IsInOrderIn, HasDevice, HasDeviceIn, HasMaxIn, StaysLocked}

-- the device that a store holds, where its image stands for it
pub seen-held : (file : Option (List ℕ)) (dev : Dev) → Holds file dev → seen file dev ≡ dev
unfolding seen Holds
seen-held None dev h = sym h
seen-held (Some file) dev h = refl

pub seen-mode : (file : Option (List ℕ)) (dev : Dev) → (seen file dev).mode ≡ dev.mode
unfolding seen
seen-mode None dev = refl
seen-mode (Some file) dev = refl

-- an image that stands for a device stands for what is seen of it
pub holds-seen : (file : Option (List ℕ)) (dev : Dev) → Holds file dev → Holds file (seen file dev)
unfolding seen Holds
holds-seen None dev h = ap zeroed h
holds-seen (Some file) dev h = h

-- a device that runs fastboot is whole
pub whole-in : {K : Type 0} (told : K → DiskTold) (held : Held K) (m : Mode) → IsTrue (is_fastboot m) → IsInOrderIn m told held → IsWhole told held
whole-in told held mode.Bootloader f h = h
whole-in told held mode.Userspace f h = h
whole-in told held mode.System f h = absurd cc
whole-in told held mode.Recovery f h = absurd cc
whole-in told held mode.Halted f h = absurd cc

pub running : (m : Mode) → IsTrue (is_fastboot m) → m ≢ mode.Halted
running m f e = let none : is_fastboot m ≡ false = ap is_fastboot e in absurd cc

-- the device that is held of one that didn't halt
pub has-in : {K : Type 0} (told : K → DiskTold) (held : Held K) (m : Mode) (dev : Dev) → m ≢ mode.Halted → dev ≡ held.device → HasDeviceIn m told held dev
has-in told held mode.Bootloader dev f e = e
has-in told held mode.Userspace dev f e = e
has-in told held mode.System dev f e = e
has-in told held mode.Recovery dev f e = e
has-in told held mode.Halted dev f e = absurd (f refl)

-- The device that is held of one that runs fastboot is all of it that the disk tells.
pub has-device : {K : Type 0} (told : K → DiskTold) (held : Held K) → IsTrue (is_fastboot held.device.mode) → IsInOrder told held →
    HasDevice told held (seen (image_of told held) held.device)
has-device told held f o =
    has-in told held held.device.mode _ (running held.device.mode f)
    (seen-held (image_of told held) held.device (whole-in told held held.device.mode f o).sound.stands)

-- of a device that runs fastboot the longest download is told
pub max-back : (m : Mode) (most : ℕ) (dev : Dev) → IsTrue (is_fastboot m) → HasMaxIn m most dev → dev.max ≡ most
max-back mode.Bootloader most dev f h = h
max-back mode.Userspace most dev f h = h
max-back mode.System most dev f h = h
max-back mode.Recovery most dev f h = h
max-back mode.Halted most dev f h = absurd cc

pub max-in : (m : Mode) (dev : Dev) → HasMaxIn m dev.max dev
max-in mode.Bootloader dev = refl
max-in mode.Userspace dev = refl
max-in mode.System dev = refl
max-in mode.Recovery dev = refl
max-in mode.Halted dev = tt

pub still-locked : {K : Type 0} (told : K → DiskTold) (held : Held K) → IsTrue (is_fastboot held.device.mode) → StaysLocked told held held
still-locked told held f l = (held.device, has-in told held held.device.mode held.device (running held.device.mode f) refl, (held.device.mode, refl))

-- an image that stands for a device that halted stands for what is seen of it
pub halted-seen : {K : Type 0} (told : K → DiskTold) (held : Held K) (m : Mode) (dev : Dev) → m ≡ mode.Halted → HasDeviceIn m told held dev →
    HasDeviceIn m told held (seen (image_of told held) dev)
halted-seen told held mode.Bootloader dev e h = absurd cc
halted-seen told held mode.Userspace dev e h = absurd cc
halted-seen told held mode.System dev e h = absurd cc
halted-seen told held mode.Recovery dev e h = absurd cc
halted-seen told held mode.Halted dev e h = (seen-mode (image_of told held) dev ∙ h.0, λ honest. holds-seen (image_of told held) dev (h.1 honest))
