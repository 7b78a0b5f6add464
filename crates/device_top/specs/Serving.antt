-- What serving makes of the device of a file.
use Rattle.std.specs.Prelude.{◌≡◌, ◌≢◌, ◌⊎◌, ℕ, ◌≤◌, List, [], ◌∷◌, ◌++◌, length, take, map}
use Rattle.std.specs.Prelude.{Option, Some, None, option_and_then, is_some, IfSome, IsTrue, IsFalse}
use Rattle.fb_frame.specs.Causes.{Rose}
use Rattle.fb_frame.specs.Told.{Both}
use Rattle.dev_disk.specs.Files.{Files}
use Rattle.dev_disk.specs.Disks.{DiskTold}
use Rattle.dev_model.specs.declared.device.Dev.{Dev}
use Rattle.dev_model.specs.declared.device.Mode.TheVariants.{Halted}
use Rattle.dev_store.specs.Faults.{IsHonest}
use Rattle.dev_store.specs.Stand.{Stands}
use Rattle.device_engine.specs.Running.{IsLeftFastboot}
use Rattle.wire_model.specs.Wire.{Wire, fresh}
use Rattle.wire_told.specs.Told.{GoesBy, MayConnect}
use Rattle.device_session.specs.Gates.{Connection, Connections}
use Rattle.device_session.specs.Serving.{IsFront}
use Rattle.device_top.specs.Endings.{Ending, Serving}

-- One connection with a device, and the device that it leaves: what was taken of it leads from a fresh state
-- to one whose output was written, a front of it where a call failed. A connection in which no call failed
-- ended only where the session closed or all that it gives was taken. A disk call can have failed only if
-- `broke` holds.
pub record Connects (broke : Type 0) (dev : Dev) (c : Connection) (left : Dev) : Type 0 where
  pub begins : MayConnect dev
  pub state : Wire
  pub taken : ℕ
  pub within : taken ≤ c.read
  pub goes : GoesBy broke (fresh dev) (take taken c.gives) state
  pub leaves : left ≡ state.device
  pub written : IsFront c.written state.out
  pub whole : IsFalse c.failed → c.written ≡ state.out
  pub ended : IsFalse c.failed → IsTrue state.closed ⊎ (taken ≡ length c.gives)

-- connections one after another, each with the device that the one before left
abbrev pub Leads : Type 0 → Dev → List Connection → Dev → Type 0
Leads broke dev [] left = left ≡ dev
Leads broke dev (c ∷ rest) left = (mid : Dev) × Connects broke dev c mid × Leads broke mid rest left

-- A call that serves: the device that is opened, how many connections are asked for, the status, and the
-- image after the call, where it is told.
pub record ServeCall : Type 0 where
  pub dev : Dev
  pub most : ℕ
  pub status : ℕ
  pub image : Option (List ℕ)

abbrev pub serve_call : Dev → ℕ → ℕ → Option Files → List ℕ → ServeCall
serve_call dev most status files path =
    record { dev = dev; most = most; status = status; image = option_and_then (λ f. f path) files }

-- Connections were accepted one after another, at most as many as were asked for, the first of them with the
-- device that was opened; and the image stands for the device that the last one left. Status 0 comes only
-- where the device left fastboot, as many were accepted, or no told one is left. A device that halted ends
-- with 3 or 9, and 3 comes only with such a device, or with nothing accepted.
pub record IsServed (s : ServeCall) (broke honest : Type 0) (a b : Connections) : Type 0 where
  pub served : List Connection
  pub left : Dev
  pub accepted_now : b.accepted ≡ a.accepted ++ served
  pub coming : a.coming ≡ map (λ c. c.gives) served ++ b.coming
  pub few : length served ≤ s.most
  pub leads : IsTrue (is_some s.image) → Leads broke s.dev served left
  pub stands : honest → IfSome s.image (λ file. Stands file left)
  pub done : s.status ≡ 0 → IsLeftFastboot left.mode ⊎ (length served ≡ s.most) ⊎ (b.coming ≡ [])
  pub halted : left.mode ≡ Halted → (s.status ≡ 3) ⊎ (s.status ≡ 9)
  pub faulted : s.status ≡ 3 → (left.mode ≡ Halted) ⊎ (served ≡ [])

-- By what a call that serves comes to: the told device is served, some device is where no file is told, or
-- nothing is accepted.
abbrev pub ServesBy : Option Ending → ℕ → (Dev → Connections → Connections → Type 0) → Connections →
    Connections → Type 0
ServesBy None status Serves a b = ((status ≢ 0) × (b ≡ a)) ⊎ ((dev : Dev) × Serves dev a b)
ServesBy (Some (Serving dev)) status Serves a b = Serves dev a b
ServesBy (Some _) status Serves a b = b ≡ a
