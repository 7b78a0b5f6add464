-- What a call of fbdevice leaves of files and gate.
use Rattle.std.specs.Prelude.{◌≡◌, ◌≢◌, ◌⊎◌, ℕ, ◌≤◌, List, Option, Some, None, Result, Ok, Err, IsTrue}
use Rattle.fb_frame.specs.Causes.{Rose}
use Rattle.fb_frame.specs.Told.{Both}
use Rattle.dev_disk.specs.Files.{Files}
use Rattle.dev_disk.specs.Disks.{DiskTold, FilesKept}
use Rattle.dev_model.specs.declared.bad_image.BadImage.{BadImage}
use Rattle.dev_model.specs.declared.device.Dev.{Dev}
use Rattle.dev_store.specs.Faults.{IsHonest}
use Rattle.dev_store.specs.Stand.{stand, Stands}
use Rattle.dev_store.specs.Opening.{StandsAs, OnFile, OthersKept}
use Rattle.device_jobs.specs.Outcomes.{make_outcome, show_outcome, unlock_outcome}
use Rattle.device_jobs.specs.Leaves.{IsMadeFor, LeavesUnlocking}
use Rattle.device_jobs.specs.Leaves as jobs
use Rattle.device_session.specs.Gates.{GateTold, IsPort}
use Rattle.device_words.specs.declared.request.DeviceWords.{DeviceWords}
use Rattle.device_words.specs.declared.request.DeviceWords.TheVariants.{Make, Show, Unlock, Serve}
use Rattle.device_top.specs.Reports.{Call, ending}
use Rattle.device_top.specs.Serving.{ServesBy, IsServed, serve_call}

-- the path of the image
abbrev pub path_of : DeviceWords → List ℕ
path_of (Make layout file unlocked) = file
path_of (Show file) = file
path_of (Unlock file) = file
path_of (Serve file port connections) = file

-- What status 0 leaves in the image's file: the image of the new device, of the device that was shown, or of
-- the unlocked one. Of serving the clause on connections says it.
abbrev pub DoneBy : Option DeviceWords → Option Files → Option Files → Type 0
DoneBy None old new = ⊥
DoneBy (Some (Make layout file unlocked)) old new = IsMadeFor (make_outcome old layout) unlocked new file
DoneBy (Some (Show file)) old new = jobs.IsDone (show_outcome old file) new file
DoneBy (Some (Unlock file)) old new = jobs.IsDone (unlock_outcome old file) new file
DoneBy (Some (Serve file port connections)) old new = Unit {0}

abbrev pub IsDone : Call → Option Files → Type 0
IsDone call new = call.status ≡ 0 → DoneBy call.asked call.files new

-- a file that stands for no device does so still, and one that stands for a device stands for one
abbrev pub StandsServing : Result Dev BadImage → List ℕ → Type 0
StandsServing (Err bad) now = stand now ≡ Err bad
StandsServing (Ok dev) now = (left : Dev) × Stands now left

abbrev pub LeavesServing : List ℕ → List ℕ → Type 0
LeavesServing file now = StandsServing (stand file) now

-- What a call leaves in the image's file, whatever its status. Of a file that is made the other clauses say
-- it.
abbrev pub Leaves : Option DeviceWords → Option Files → Option Files → Type 0
Leaves None old new = Unit {0}
Leaves (Some (Make layout file unlocked)) old new = Unit {0}
Leaves (Some (Show file)) old new = OnFile StandsAs old new file
Leaves (Some (Unlock file)) old new = OnFile LeavesUnlocking old new file
Leaves (Some (Serve file port connections)) old new = OnFile LeavesServing old new file

-- No file changed but the image's, and none at all where the words are refused.
abbrev pub KeepsDisk : Option DeviceWords → DiskTold → DiskTold → Type 0
KeepsDisk None old new = FilesKept old new
KeepsDisk (Some asked) old new = OthersKept old new (path_of asked)

-- The gate's counts never fall. It listens at the port of the words; or nothing was accepted, and the status
-- isn't 0.
pub record Listening (port status : ℕ) (a b : GateTold) : Type 0 where
  pub later : a.faults ≤ b.faults
  pub no_fewer : a.unaccepted ≤ b.unaccepted
  pub at_port : (IsTrue b.listening × IsPort b.port port) ⊎ ((status ≢ 0) × (b.connections ≡ a.connections))

-- A call that serves nothing leaves the gate as it was.
abbrev pub KeepsGate : Option DeviceWords → ℕ → GateTold → GateTold → Type 0
KeepsGate (Some (Serve file port connections)) status a b = Listening port status a b
KeepsGate _ status a b = b ≡ a

-- 6 comes only of serving, and where a connection couldn't be waited for or accepted
abbrev pub IsGateEnd : Option DeviceWords → GateTold → GateTold → Type 0
IsGateEnd (Some (Serve file port connections)) a b = Rose a.unaccepted b.unaccepted
IsGateEnd _ a b = ⊥

abbrev pub OnServe : Option DeviceWords → (List ℕ → ℕ → Type 0) → Type 0
OnServe (Some (Serve file port connections)) R = R file connections
OnServe _ R = Unit {0}

-- What a call that serves did, where the gate tells its connections.
abbrev pub Serves : Call → DiskTold → DiskTold → GateTold → GateTold → Type 0
Serves call old new a b = OnServe call.asked (λ file most.
    Both (ServesBy (ending call) call.status
    (λ dev. IsServed (serve_call dev most call.status new.files file) (Rose old.faults new.faults)
    (IsHonest new.torn)))
    a.connections b.connections)
