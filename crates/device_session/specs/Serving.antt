-- What serving connections one after another makes of a device.
use Rattle.std.specs.Prelude.{◌≡◌, ◌⊎◌, ℕ, ◌+◌, ◌<◌, ◌≤◌, List, [], ◌∷◌, ◌++◌, length, take, map}
use Rattle.std.specs.Prelude.{is_some, IsTrue, IsFalse}
use Rattle.fb_frame.specs.Causes.{Rose}
use Rattle.fb_frame.specs.Told.{Both}
use Rattle.dev_disk.specs.Disks.{DiskTold}
use Rattle.dev_model.specs.declared.device.Dev.{Dev}
use Rattle.dev_model.specs.declared.device.Mode.{Mode}
use Rattle.dev_model.specs.declared.device.Mode.TheVariants.{System, Recovery, Halted}
use Rattle.dev_model.specs.Partitions.{is_fastboot}
use Rattle.dev_store.specs.Held.{Held, image_of, seen}
use Rattle.device_engine.specs.Running.{HasDevice}
use Rattle.wire_model.specs.Wire.{Wire, fresh}
use Rattle.wire_told.specs.Told.{GoesBy, MayConnect}
use Rattle.device_session.specs.Gates.{Connection, Connections, GateTold, IsUsedUp}
use Rattle.device_session.specs.declared.serving.ServeEnd.{ServeEnd}
use Rattle.device_session.specs.declared.serving.ServeEnd.TheVariants as ends

-- these bytes, or only a front of them
abbrev pub IsFront : List ℕ → List ℕ → Type 0
IsFront front whole = (rest : List ℕ) × (whole ≡ front ++ rest)

-- One connection with a device: what was taken of it leads from a fresh state to one whose output was written,
-- a front of it where a call failed, and whose device is held then. A connection in which no call failed ended
-- only where the session closed or all that it gives was taken.
pub record ServesOne {K : Type 0} (told : K → DiskTold) (old new : Held K) (c : Connection) : Type 0 where
  pub begins : MayConnect old.device
  pub state : Wire
  pub taken : ℕ
  pub within : taken ≤ c.read
  pub goes : GoesBy (Rose (told old.disk).faults (told new.disk).faults) (fresh old.device)
      (take taken c.gives) state
  pub tells : IsTrue (is_some (image_of told new))
  pub later : (told old.disk).faults ≤ (told new.disk).faults
  pub left : HasDevice told new (seen (image_of told new) state.device)
  pub written : IsFront c.written state.out
  pub whole : IsFalse c.failed → c.written ≡ state.out
  pub ended : IsFalse c.failed → IsTrue state.closed ⊎ (taken ≡ length c.gives)

-- One connection was accepted and served, in place of the one before.
pub record ServesNext {K : Type 0} (told : K → DiskTold) (old new : Held K) (a b : Connections) : Type 0 where
  pub last : Connection
  pub accepted : b.accepted ≡ a.accepted ++ last ∷ []
  pub coming : a.coming ≡ last.gives ∷ b.coming
  pub serves : IsTrue (is_some (image_of told old)) → ServesOne told old new last

-- connections one after another, each with the device that the one before left
abbrev pub Serves : {K : Type 0} → (K → DiskTold) → Held K → List Connection → Held K → Type 0
Serves told old [] new = new ≡ old
Serves told old (c ∷ rest) new = (mid : Held _) × ServesOne told old mid c × Serves told mid rest new

-- So many connections were accepted after those that were there, and served.
pub record ServesNew {K : Type 0} (told : K → DiskTold) (old new : Held K) (a b : Connections) : Type 0 where
  pub served : List Connection
  pub accepted : b.accepted ≡ a.accepted ++ served
  pub coming : a.coming ≡ map (λ c. c.gives) served ++ b.coming
  pub serves : IsTrue (is_some (image_of told old)) → Serves told old served new

-- the same of a gate, where it tells its connections; of devices it holds where the disk tells the image
abbrev pub ServesGate : {K : Type 0} → (K → DiskTold) → Held K → Held K → GateTold → GateTold → Type 0
ServesGate told old new before after = Both (ServesNew told old new) before.connections after.connections

-- so many more connections were accepted
abbrev pub IsMore : ℕ → Connections → Connections → Type 0
IsMore count a b = length b.accepted ≡ length a.accepted + count

abbrev pub AcceptsCount : ℕ → GateTold → GateTold → Type 0
AcceptsCount count before after = Both (IsMore count) before.connections after.connections

-- Why serving ended, with so many connections left of those that were asked for. Before each is accepted it is
-- tried in this order: the device halted, it left fastboot, or none of them is left. Then no told connection
-- was there, or accepting failed.
abbrev pub EndsBy : ServeEnd → Mode → ℕ → GateTold → GateTold → Type 0
EndsBy end Halted left before after = end ≡ ends.Halted
EndsBy end System left before after = end ≡ ends.Left
EndsBy end Recovery left before after = end ≡ ends.Left
EndsBy ends.Limit mode left before after = left ≡ 0
EndsBy ends.NoMore mode left before after = (0 < left) × IsUsedUp after.connections
EndsBy ends.Gate mode left before after = (0 < left) × Rose before.unaccepted after.unaccepted
EndsBy _ mode left before after = ⊥

-- A disk call failed after what the first disk told, and the image stands for some device that halted.
pub record IsHaltedBy {K : Type 0} (told : K → DiskTold) (before : K) (held : Held K) : Type 0 where
  pub rose : Rose (told before).faults (told held.disk).faults
  pub left : Dev
  pub has : HasDevice told held left

-- a device that ran fastboot halts only where a disk call failed
abbrev pub HaltsByDisk : {K : Type 0} → (K → DiskTold) → Held K → Held K → Type 0
HaltsByDisk told old new =
    IsTrue (is_fastboot old.device.mode) → new.device.mode ≡ Halted → IsHaltedBy told old.disk new
