-- A device halts only where a disk call failed.
use Rattle.std.proofs.Common.{◌≡◌, ◌≢◌, ◌⊎◌, inl, inr, List, ℕ, refl, sym, ap, ◌∙◌}
use Rattle.std.specs.Prelude.{IsTrue}
use Rattle.fb_frame.specs.Causes.{Rose}
use Rattle.fb_message.specs.CommandText.{command_of}
use Rattle.dev_disk.specs.Disks.{DiskTold}
use Rattle.dev_model.specs.declared.device.Dev.{Dev}
use Rattle.dev_model.specs.declared.device.Mode.{Mode}
use Rattle.dev_model.specs.declared.device.Mode.TheVariants as mode
use Rattle.dev_model.specs.Partitions.{is_fastboot}
use Rattle.dev_store.specs.Held.{Held, image_of, seen}
use Rattle.device_engine.specs.Running.{HasDeviceIn}
use Rattle.wire_model.specs.Says.{Loaded, says}
use Rattle.wire_model.specs.Wire.{Wire, after}
use Rattle.wire_model.proofs.Kept.{after_keeps}
use Rattle.wire_told.specs.Told.{GoesBy}
use Rattle.device_session.specs.Living.{Live, wire_of, IsAt, Feeds}
use Rattle.device_session.specs.Serving.{IsHaltedBy}
use Rattle.device_session.proofs.RunLemmas.{Starts, says-mode}
use Rattle.device_session.proofs.StillLemmas.{running, seen-mode}

abbrev IsLive : Dev → Type 0
IsLive dev = dev.mode ≢ mode.Halted

says-live : (dev : Dev) (loaded : Loaded) (bytes : List ℕ) → IsLive dev → IsLive (says dev loaded (command_of bytes)).device
says-live dev loaded bytes live h = by (says-mode dev loaded (command_of bytes)) where
  by : ((says dev loaded (command_of bytes)).device.mode ≡ dev.mode) ⊎ Starts dev (says dev loaded (command_of bytes)) → ⊥
  by (inl e) = live (sym e ∙ h)
  by (inr s) = s.running h

-- bytes that a connection takes don't halt its device by themselves
pub after-live : (w : Wire) (bytes : List ℕ) → IsLive w.device → IsLive (after w bytes).device
after-live w bytes live = after_keeps IsLive says-live w bytes live

halted-in : {K : Type 0} (told : K → DiskTold) (held : Held K) (m : Mode) (dev : Dev) → held.device.mode ≡ m → m ≡ mode.Halted → HasDeviceIn m told held dev → dev.mode ≡ mode.Halted
halted-in told held mode.Bootloader dev s e h = absurd cc
halted-in told held mode.Userspace dev s e h = absurd cc
halted-in told held mode.System dev s e h = absurd cc
halted-in told held mode.Recovery dev s e h = absurd cc
halted-in told held mode.Halted dev s e h = h.0

-- a session that is at a state of a device that halted
halted-at : {K : Type 0} (told : K → DiskTold) (live : Live K) (v : Wire) → live.held.device.mode ≡ mode.Halted → IsAt told live v → v.device.mode ≡ mode.Halted
halted-at told live v e h =
    sym (seen-mode (image_of told live.held) v.device)
    ∙ halted-in told live.held live.held.device.mode _ refl e h.device

fed-by : {K : Type 0} (told : K → DiskTold) (old new : Live K) (bytes : List ℕ) (v : Wire) → IsTrue (is_fastboot old.held.device.mode) →
    GoesBy (Rose (told old.held.disk).faults (told new.held.disk).faults) (wire_of old) bytes v → v.device.mode ≡ mode.Halted →
    Rose (told old.held.disk).faults (told new.held.disk).faults
unfolding GoesBy
fed-by told old new bytes v f (inl e) h = absurd (after-live (wire_of old) bytes (running old.held.device.mode f) (ap (λ (w : Wire). w.device.mode) (sym e) ∙ h))
fed-by told old new bytes v f (inr r) h = r.0

pub fed-halts : {K : Type 0} (told : K → DiskTold) (old new : Live K) (bytes : List ℕ) → IsTrue (is_fastboot old.held.device.mode) → Feeds told old new bytes →
    new.held.device.mode ≡ mode.Halted → IsHaltedBy told old.held.disk new.held
fed-halts told old new bytes f s e = record {
  rose = fed-by told old new bytes s.state f s.goes (halted-at told new s.state e s.comes);
  left = seen (image_of told new.held) s.state.device;
  has = s.comes.device;
}
