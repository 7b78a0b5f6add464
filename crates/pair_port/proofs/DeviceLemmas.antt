-- The device that a port tells, and the one that is held.
use Rattle.std.proofs.Common.{◌≡◌, ℕ, ◌≤◌, List, Option, Some, None, is_some, refl, sym, ap, subst, ◌∙◌, arith}
use Rattle.std.specs.Prelude.{IsFalse, IsTrue}
use Rattle.fb_frame.specs.Causes.{Rose}
use Rattle.dev_disk.specs.Disks.{DiskTold, OpenKept}
use Rattle.dev_disk.specs.Files.{Files, KeepsUnopened}
use Rattle.dev_model.specs.declared.device.Dev.{Dev}
use Rattle.dev_model.specs.declared.device.Mode.{Mode}
use Rattle.dev_model.specs.declared.device.Mode.TheVariants as mode
use Rattle.dev_model.specs.Partitions.{is_fastboot}
use Rattle.dev_store.specs.Held.{Held, image_of, seen}
use Rattle.device_engine.specs.Running.{HasDevice, HasDeviceIn}
use Rattle.device_session.specs.Living.{Live, wire_of, Feeds, SessionKept}
use Rattle.device_session.proofs.LifeLemmas.{IsAgreed, told-kept}
use Rattle.device_session.proofs.StillLemmas.{max-back}
use Rattle.wire_model.specs.Wire.{Wire}
use Rattle.wire_told.specs.Told.{GoesBy}
use Rattle.pair_port.specs.Calls.{Takes}
use Rattle.pair_port.specs.Pairs.{device_in, device_at, wire_at, TellsFiles}
use Rattle.pair_port.specs.Ready.{IsReady, Runs}

runs-in : (m : Mode) (held left : Dev) → IsTrue (is_fastboot m) → device_in m held left ≡ held
runs-in mode.Bootloader held left f = refl
runs-in mode.Userspace held left f = refl
runs-in mode.System held left f = refl
runs-in mode.Recovery held left f = refl
runs-in mode.Halted held left f = absurd cc

-- of a device that runs fastboot it is the one that is held
pub runs-at : {K : Type 0} (held : Held K) (left : Dev) → IsTrue (is_fastboot held.device.mode) → device_at held left ≡ held.device
runs-at held left f = runs-in held.device.mode held.device left f

pub runs-wire : {K : Type 0} (live : Live K) (left : Dev) → IsTrue (is_fastboot live.held.device.mode) → wire_at live left ≡ wire_of live
runs-wire live left f = ap (λ (d : Dev). record (wire_of live) { device = d }) (runs-at live.held left f)

has-told : {K : Type 0} (told : K → DiskTold) (held : Held K) (m : Mode) (dev : Dev) → HasDeviceIn m told held dev → HasDeviceIn m told held (device_in m held.device dev)
has-told told held mode.Bootloader dev h = refl
has-told told held mode.Userspace dev h = refl
has-told told held mode.System dev h = refl
has-told told held mode.Recovery dev h = refl
has-told told held mode.Halted dev h = h

at-told : {K : Type 0} (told : K → DiskTold) (held : Held K) (m : Mode) (dev : Dev) → HasDeviceIn m told held dev → device_in m held.device dev ≡ dev
at-told told held mode.Bootloader dev h = sym h
at-told told held mode.Userspace dev h = sym h
at-told told held mode.System dev h = sym h
at-told told held mode.Recovery dev h = sym h
at-told told held mode.Halted dev h = refl

seen-told : (file : Option (List ℕ)) (dev : Dev) → IsTrue (is_some file) → seen file dev ≡ dev
unfolding seen
seen-told None dev e = absurd cc
seen-told (Some file) dev e = refl

-- A device with which the told state of a session follows from the one before.
pub record Picked {K : Type 0} (told : K → DiskTold) (old new : Live K) (bytes : List ℕ) (dev : Dev) : Type 0 where
  pub has : HasDevice told new.held (device_at new.held dev)
  pub goes : IsTrue (is_some (image_of told new.held)) →
      GoesBy (Rose (told old.held.disk).faults (told new.held.disk).faults) (wire_of old) bytes (wire_at new dev)

pub picked : {K : Type 0} (told : K → DiskTold) (old new : Live K) (bytes : List ℕ) → Feeds told old new bytes → (dev : Dev) × Picked told old new bytes dev
picked told old new bytes f =
    let file = image_of told new.held in
    let m = new.held.device.mode in
    let dev : Dev = seen file f.state.device in
    let wire : IsTrue (is_some file) → wire_at new dev ≡ f.state =
    λ t. ap (λ (u : Wire). record u { device = device_at new.held dev }) f.comes.same
    ∙ ap (λ (d : Dev). record f.state { device = d }) (at-told told new.held m dev f.comes.device ∙ seen-told file f.state.device t) in (
      dev,
      record {
        has = has-told told new.held m dev f.comes.device;
        goes = λ t. subst (λ (u : Wire). GoesBy (Rose (told old.held.disk).faults (told new.held.disk).faults) (wire_of old) bytes u) (sym (wire t)) f.goes;
      },
    )

-- a disk tells its files after a call exactly where it did before
pub alike : (a b : Option Files) (path : Option (List ℕ)) → KeepsUnopened a b path → is_some b ≡ is_some a
alike a b None k = ap is_some k
alike (Some x) (Some y) (Some path) k = refl
alike (Some x) None (Some path) k = absurd k
alike None (Some y) (Some path) k = absurd k
alike None None (Some path) k = refl

pub image-still : {K : Type 0} (told : K → DiskTold) (agrees : IsAgreed told) (old new : Held K) → OpenKept (told old.disk) (told new.disk) →
    (TellsFiles told old.disk → IsTrue (is_some (image_of told old))) → TellsFiles told new.disk → IsTrue (is_some (image_of told new))
image-still told agrees old new k image t =
    told-kept told agrees old.disk new.disk k (image (sym (alike (told old.disk).files (told new.disk).files (told old.disk).open_path k.others) ∙ t))

-- what a session took, with the device that was picked
pub takes-picked : {K L : Type 0} (told : K → DiskTold) (lent : K → L) (agrees : IsAgreed told) (old new : Live K) (was dev : Dev) (bytes : List ℕ) → IsReady told old.held old.room was → Runs old →
    Feeds told old new bytes → SessionKept told lent old new → Picked told old new bytes dev → Takes told old new (wire_at old was) (wire_at new dev) bytes
takes-picked told lent agrees old new was dev bytes ready runs f k p = record {
  running = f.running;
  kept = k.kept.kept;
  goes = λ t. subst (λ (u : Wire). GoesBy (Rose (told old.held.disk).faults (told new.held.disk).faults) u bytes (wire_at new dev)) (sym (runs-wire old was (runs f.running)))
      (p.goes (image-still told agrees old.held new.held k.kept.kept ready.image t));
}

pub ready-picked : {K L : Type 0} (told : K → DiskTold) (lent : K → L) (agrees : IsAgreed told) (old new : Live K) (was dev : Dev) (bytes : List ℕ) → IsReady told old.held old.room was → Runs old →
    Feeds told old new bytes → SessionKept told lent old new → Picked told old new bytes dev → IsReady told new.held new.room dev
ready-picked told lent agrees old new was dev bytes ready runs f k p = record {
  in_order = k.alive.in_order;
  has = p.has;
  fits = λ r.
      let max = max-back new.held.device.mode old.held.device.max new.held.device r k.max in
      let before = ready.fits (runs f.running) in
      omega (arith, max, before, k.room);
  image = image-still told agrees old.held new.held k.kept.kept ready.image;
}
