-- What the parts of a job answer and leave.
use Rattle.std.specs.Prelude.{◌≡◌, ◌⊎◌, ℕ, Bool, true, false, not, List, [], ◌++◌, take, Option, Some, None}
use Rattle.std.specs.Prelude.{unwrap_or, if◌then◌else◌}
use Rattle.sha2.specs.declared.Sha256.{Sha256}
use Rattle.sha2.specs.Hashers.{Holds256}
use Rattle.sha2.specs.Sha256.{sha256}
use Rattle.fb_frame.specs.Causes.{Rose}
use Rattle.fb_frame.specs.Sinks.{Grew, GrewPart}
use Rattle.dev_disk.specs.Disks.{DiskTold, FilesKept}
use Rattle.dev_model.specs.declared.device.Dev.{Dev}
use Rattle.dev_store.specs.declared.errors.OpenError.{OpenError}
use Rattle.dev_store.specs.declared.errors.OpenError.TheVariants as opening
use Rattle.dev_store.specs.Held.{Held}
use Rattle.dev_store.specs.StoreCalls.{part_bytes, kind_of, group_of}
use Rattle.device_jobs.specs.declared.job.JobError.{JobError}
use Rattle.device_jobs.specs.declared.job.JobError.TheVariants as job
use Rattle.device_jobs.specs.Outcomes.{Outcome, NoFile, BadLayout, BadDevice, status_of}
use Rattle.device_jobs.specs.Printed.{text_of, memory_line, disk_line, layout_line, device_line, show_text, part_text, physical_label, logical_label}

-- this is the outcome, where it is told
abbrev pub IsOutcome : Option Outcome → Outcome → Type 0
IsOutcome None outcome = Unit {0}
IsOutcome (Some told) outcome = told ≡ outcome

-- the job stopped for its cause
abbrev pub IsStop : Option Outcome → Type 0 → JobError → Type 0
IsStop outcome rose job.Memory = Unit {0}
IsStop outcome rose job.Disk = rose
IsStop outcome rose job.NoFile = outcome ≡ Some NoFile
IsStop outcome rose (job.Layout bad) = IsOutcome outcome (BadLayout bad)
IsStop outcome rose (job.Device bad) = IsOutcome outcome (BadDevice bad)

-- the job was done, and this is its text
abbrev pub IsText : Option Outcome → List ℕ → Type 0
IsText None text = Unit {0}
IsText (Some outcome) text = (status_of outcome ≡ 0) × (text_of outcome ≡ text)

-- the job stopped before it wrote anything
abbrev pub IsEarly : JobError → Type 0
IsEarly job.Memory = ⊥
IsEarly job.Disk = ⊥
IsEarly _ = Unit {0}

-- a job that makes an image stopped, and not for a file that stands for no device; nor does one on an image
-- for a layout
abbrev pub IsMakeStop : JobError → Type 0
IsMakeStop (job.Device bad) = ⊥
IsMakeStop _ = Unit {0}

abbrev pub IsImageStop : JobError → Type 0
IsImageStop (job.Layout bad) = ⊥
IsImageStop _ = Unit {0}

-- status and line of a job that stopped
abbrev pub stop_status : JobError → ℕ
stop_status job.Memory = 2
stop_status job.Disk = 3
stop_status job.NoFile = 3
stop_status (job.Layout bad) = 5
stop_status (job.Device bad) = 4

abbrev pub stop_line : JobError → List ℕ
stop_line job.Memory = memory_line
stop_line job.Disk = disk_line
stop_line job.NoFile = disk_line
stop_line (job.Layout bad) = layout_line bad
stop_line (job.Device bad) = device_line bad

-- a sink's text, where it is told, and its faults
pub record Output : Type 0 where
  pub text : Option (List ℕ)
  pub faults : ℕ

abbrev pub output : Option (List ℕ) → ℕ → Output
output text faults = record { text = text; faults = faults }

-- The lines were put and this status answered; or the output failed, and took a front of them.
abbrev pub Ends : ℕ → List ℕ → ℕ → Output → Output → Type 0
Ends wanted lines status old new =
    ((status ≡ wanted) × Grew old.text new.text lines)
    ⊎ ((status ≡ 9) × Rose old.faults new.faults × GrewPart old.text new.text lines)

-- the same of a line for which memory may be wanting
abbrev pub EndsBy : ℕ → List ℕ → ℕ → Output → Output → Type 0
EndsBy wanted lines status old new = Ends wanted lines status old new ⊎ Ends 2 memory_line status old new

-- The store was read: its device and its disk's files are as they were, and it may be used on.
pub record IsReadOn {K L : Type 0} (told : K → DiskTold) (lent : K → L) (old new : Held K) : Type 0 where
  pub device : new.device ≡ old.device
  pub usable : new.broken ≡ false
  pub files : FilesKept (told old.disk) (told new.disk)
  pub same : lent new.disk ≡ lent old.disk

-- the text is that of the device, where its bytes are told
abbrev pub IsShownText : Option (List ℕ) → Dev → List ℕ → Type 0
IsShownText None dev text = Unit {0}
IsShownText (Some file) dev text = text ≡ show_text dev

-- the digest is that of the bytes, where they are told
abbrev pub IsDigest : Option (List ℕ) → List ℕ → List ℕ → Type 0
IsDigest None bytes digest = Unit {0}
IsDigest (Some file) bytes digest = digest ≡ sha256 bytes

-- the hasher has taken the bytes before this place, where they are told
abbrev pub HasHashed : Option (List ℕ) → List ℕ → ℕ → Sha256 → Type 0
HasHashed None bytes at hasher = Unit {0}
HasHashed (Some file) bytes at hasher = Holds256 hasher (take at bytes)

-- the lines were added, where the bytes that they speak of are told
abbrev pub AddsText : Option (List ℕ) → List ℕ → List ℕ → List ℕ → Type 0
AddsText None lines old new = Unit {0}
AddsText (Some file) lines old new = new ≡ old ++ lines

-- a partition is of this kind
abbrev pub is_kind : Bool → Option Bool → Bool
is_kind logical None = false
is_kind logical (Some kind) = if logical then kind else not kind

-- what stands before a partition's bytes
abbrev pub label : Dev → Bool → List ℕ → List ℕ
label dev true name = logical_label name (unwrap_or (group_of dev name) [])
label dev false name = physical_label name

-- the line of the partition of a name, where it is of this kind
abbrev pub part_line : Dev → Bool → List ℕ → List ℕ
part_line dev logical name =
    if is_kind logical (kind_of dev name) then label dev logical name ++ part_text (part_bytes name dev) else []

-- reading stopped for want of memory, or because the disk failed
abbrev pub IsReadStop : Type 0 → JobError → Type 0
IsReadStop rose job.Memory = Unit {0}
IsReadStop rose job.Disk = rose
IsReadStop rose _ = ⊥

-- why a job isn't done on an image that isn't opened
abbrev pub opening_stop : OpenError → JobError
opening_stop opening.Absent = job.NoFile
opening_stop (opening.Bad bad) = job.Device bad
opening_stop opening.Disk = job.Disk
opening_stop opening.Memory = job.Memory
