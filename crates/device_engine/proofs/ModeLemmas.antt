-- A device that starts in another mode.
use Rattle.std.proofs.Common.{◌≡◌, inl, inr, refl, ap, sym, subst, ℕ, List, Option, Some, None}
use Rattle.dev_disk.specs.Disks.{DiskTold}
use Rattle.dev_model.specs.declared.device.Dev.{Dev}
use Rattle.dev_model.specs.declared.device.Mode.{Mode}
use Rattle.dev_model.specs.declared.device.Mode.TheVariants.{Bootloader, System, Recovery}
use Rattle.dev_model.specs.Partitions.{with_mode}
use Rattle.dev_model.proofs.ValidBytes.{mode-valid}
use Rattle.dev_store.specs.Held.{Held, held_in, image_of, Holds, IsWhole, OwnsAsTold}
use Rattle.dev_store.specs.Stand.{Starts}
use Rattle.device_engine.specs.Running.{IsInOrder, IsLeftFastboot}

-- the image stands for a device that starts in the same mode
holds-in : (mode : Mode) (file : Option (List ℕ)) (dev : Dev) → ((start : Mode) → Starts start dev.mode → Starts start mode) → Holds file dev → Holds file (with_mode mode dev)
unfolding Holds
holds-in mode None dev h e = ap (with_mode mode) e
holds-in mode (Some file) dev h s = record { found = s.found; reads = s.reads; same = ap (with_mode mode) s.same; starts = h s.found.mode s.starts }

owns-in : {K : Type 0} (mode : Mode) (file : Option (List ℕ)) (held : Held K) → OwnsAsTold file held → OwnsAsTold file (held_in mode held)
unfolding OwnsAsTold
owns-in mode None held o = tt
owns-in mode (Some file) held o = o

pub whole-in : {K : Type 0} (told : K → DiskTold) (mode : Mode) (held : Held K) → ((start : Mode) → Starts start held.device.mode → Starts start mode) → IsWhole told held →
    IsWhole told (held_in mode held)
whole-in told mode held h w = record {
  sound = record { valid = mode-valid mode held.device w.sound.valid; stands = holds-in mode (image_of told held) held.device h w.sound.stands };
  usable = w.usable;
  settled = w.settled;
  owns = owns-in mode (image_of told held) held w.owns;
  mapped = record { there = w.mapped.there; units = w.mapped.units; many = w.mapped.many; apart = w.mapped.apart; empty = w.mapped.empty };
}

-- a device that left fastboot opens in the bootloader
starts-gone : (old mode start : Mode) → old ≡ Bootloader → IsLeftFastboot mode → Starts start old → Starts start mode
starts-gone old mode start e (inl m) s = subst (Starts start) (sym m) (subst (Starts start) e s)
starts-gone old mode start e (inr m) s = subst (Starts start) (sym m) (subst (Starts start) e s)

pub gone-in-order : {K : Type 0} (told : K → DiskTold) (mode : Mode) (held : Held K) → IsWhole told held → held.device.mode ≡ Bootloader → IsLeftFastboot mode →
    IsInOrder told (held_in mode held)
gone-in-order told mode held w e (inl m) = subst (λ k. IsInOrder told (held_in k held)) (sym m) (whole-in told System held (λ start. starts-gone held.device.mode System start e (inl refl)) w)
gone-in-order told mode held w e (inr m) = subst (λ k. IsInOrder told (held_in k held)) (sym m) (whole-in told Recovery held (λ start. starts-gone held.device.mode Recovery start e (inr refl)) w)
