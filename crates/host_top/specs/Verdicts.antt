-- What the last line of fbflash tells, and with which status the program ends.
use Rattle.std.specs.Prelude.{ℕ, List, [], ◌∷◌, ◌++◌, take, Option, Some, None, Result, Ok, Err, codes}
use Rattle.std.specs.Prelude.{decimal}
use Rattle.hex.specs.Hex.{encode_lower}
use Rattle.fb_frame.specs.Shown.{shown}
use Rattle.product_info.specs.declared.info.InfoKind.{InfoKind}
use Rattle.product_info.specs.declared.info.InfoKind.TheVariants as info
use Rattle.sparse_image.specs.declared.errors.SparseKind.{SparseKind}
use Rattle.sparse_image.specs.declared.errors.SparseKind.TheVariants as sparse
use Rattle.super_meta.specs.declared.errors.MetaError.{MetaError}
use Rattle.super_meta.specs.declared.errors.MetaError.TheVariants as meta
use Rattle.dev_model.specs.declared.bad_image.BadImage.{BadImage}
use Rattle.dev_model.specs.declared.bad_image.BadImage.TheVariants as image
use Rattle.flash_plan.specs.declared.plan.PlanKind.{PlanKind}
use Rattle.flash_plan.specs.declared.plan.PlanKind.TheVariants as why
use Rattle.flash_plan.specs.declared.product.Flaw.{Flaw}
use Rattle.flash_plan.specs.declared.product.Flaw.TheVariants.{Absent, TooLong, TooManyChunks, Info, Image}
use Rattle.flash_plan.specs.declared.product.Flaw.TheVariants.{Meta}
use Rattle.host_driver.specs.declared.drive.Done.{Done as Drove}
use Rattle.host_driver.specs.declared.drive.DriveError.{DriveError}
use Rattle.host_driver.specs.declared.drive.DriveError.TheVariants as stop

-- what the last line tells
pub data Verdict : Type 0 where
  Done : ℕ → Verdict
  Told : List ℕ → Verdict
  Usage : Verdict
  NoMemory : Verdict
  NoFolder : List ℕ → Verdict
  Flawed : List ℕ → Flaw → Verdict
  Unmet : ℕ → List ℕ → Option (List ℕ) → Verdict
  NoLink : Verdict
  Refusing : List ℕ → Verdict
  NoPeer : List ℕ → Verdict
  TooManyLines : Verdict
  NoPlan : ℕ → PlanKind → Verdict
  NoDevice : BadImage → Verdict

-- the status that it comes with
abbrev pub status_of : Verdict → ℕ
status_of (Done steps) = 0
status_of (Told text) = 0
status_of Usage = 1
status_of NoMemory = 2
status_of (NoFolder name) = 3
status_of (Flawed file flaw) = 4
status_of (Unmet line name value) = 5
status_of NoLink = 6
status_of (Refusing text) = 7
status_of (NoPeer kept) = 8
status_of TooManyLines = 8
status_of (NoPlan line kind) = 10
status_of (NoDevice kind) = 11

abbrev pub info_text : InfoKind → List ℕ
info_text info.NoVersion = codes "NoVersion"
info_text info.BadVersion = codes "BadVersion"
info_text info.BadLine = codes "BadLine"
info_text info.TooMany = codes "TooMany"
info_text info.NotText = codes "NotText"

abbrev pub sparse_text : SparseKind → List ℕ
sparse_text sparse.Truncated = codes "Truncated"
sparse_text sparse.BadHeader = codes "BadHeader"
sparse_text sparse.BadBlockSize = codes "BadBlockSize"
sparse_text sparse.BadChunk = codes "BadChunk"
sparse_text sparse.CrcChunk = codes "CrcChunk"
sparse_text sparse.CountMismatch = codes "CountMismatch"
sparse_text sparse.TrailingBytes = codes "TrailingBytes"
sparse_text sparse.TooLong = codes "TooLong"
sparse_text sparse.Empty = codes "Empty"

abbrev pub meta_text : MetaError → List ℕ
meta_text meta.ShortInput = codes "ShortInput"
meta_text meta.BadMagic = codes "BadMagic"
meta_text meta.BadVersion = codes "BadVersion"
meta_text meta.BadSize = codes "BadSize"
meta_text meta.BadChecksum = codes "BadChecksum"
meta_text meta.BadDescriptor = codes "BadDescriptor"
meta_text meta.BadName = codes "BadName"
meta_text meta.BadIndex = codes "BadIndex"
meta_text meta.Overlap = codes "Overlap"
meta_text meta.Unsupported = codes "Unsupported"

abbrev pub image_text : BadImage → List ℕ
image_text image.ShortFile = codes "ShortFile"
image_text image.BadLayout = codes "BadLayout"
image_text image.BadLength = codes "BadLength"
image_text image.BadState = codes "BadState"
image_text image.NoGeometry = codes "NoGeometry"
image_text image.NoTable = codes "NoTable"
image_text image.BadUnits = codes "BadUnits"

abbrev pub kind_text : PlanKind → List ℕ
kind_text why.NoPartition = codes "NoPartition"
kind_text why.NoSlot = codes "NoSlot"
kind_text why.Reboot = codes "Reboot"
kind_text why.UpdateSuper = codes "UpdateSuper"
kind_text why.NoSuper = codes "NoSuper"

abbrev pub flaw_text : Flaw → List ℕ
flaw_text Absent = codes "Absent"
flaw_text TooLong = codes "TooLong"
flaw_text TooManyChunks = codes "TooManyChunks"
flaw_text (Info line kind) = codes "line " ++ decimal line ++ codes " " ++ info_text kind
flaw_text (Image flaw) = sparse_text flaw.kind ++ codes " at " ++ decimal flaw.at
flaw_text (Meta error) = meta_text error

-- the text of a value, and `none` where there is none
abbrev pub value_text : Option (List ℕ) → List ℕ
value_text None = codes "none"
value_text (Some text) = shown text

abbrev pub error_line : List ℕ → List ℕ
error_line text = codes "error " ++ text ++ 10 ∷ []

-- the last line
abbrev pub last_line : Verdict → List ℕ
last_line Usage = error_line (codes "usage")
last_line NoMemory = error_line (codes "memory")
last_line (NoFolder name) = error_line (codes "directory " ++ shown name)
last_line (Flawed file flaw) = error_line (codes "product " ++ shown file ++ codes " " ++ flaw_text flaw)
last_line NoLink = error_line (codes "link")
last_line (NoDevice kind) = error_line (codes "device " ++ image_text kind)
last_line (Unmet line name value) =
    error_line
    (codes "requirement line " ++ decimal line ++ codes " " ++ shown name ++ codes " "
    ++ value_text value)
last_line (NoPlan line kind) = error_line (codes "plan line " ++ decimal line ++ codes " " ++ kind_text kind)
last_line (Refusing text) = error_line (codes "refused " ++ shown text)
last_line (NoPeer kept) = error_line (codes "peer " ++ encode_lower (take 32 kept))
last_line TooManyLines = error_line (codes "peer infos")
last_line (Done steps) = codes "done " ++ decimal steps ++ 10 ∷ []
last_line (Told text) = shown text ++ 10 ∷ []

-- What the last line tells at this end of an installation; none where the output failed.
abbrev pub verdict_of : Result Drove DriveError → Option Verdict
verdict_of (Ok done) = Some (Done done.steps)
verdict_of (Err stop.Memory) = Some NoMemory
verdict_of (Err (stop.Directory file)) = Some (NoFolder file)
verdict_of (Err stop.Output) = None
verdict_of (Err stop.Link) = Some NoLink
verdict_of (Err stop.Ended) = Some NoLink
verdict_of (Err (stop.Refused text)) = Some (Refusing text)
verdict_of (Err (stop.Peer kept)) = Some (NoPeer kept)
verdict_of (Err stop.TooManyInfos) = Some TooManyLines
verdict_of (Err (stop.Requirement line name value)) = Some (Unmet line name value)
verdict_of (Err (stop.Plan line kind)) = Some (NoPlan line kind)
