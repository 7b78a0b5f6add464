-- How a call of fbflash ends: what became of the port, of the device that the words' target stands for, and
-- of the text.
use Rattle.std.specs.Prelude.{◌≡◌, ◌⊎◌, ℕ, ◌+◌, ◌-◌, ◌≤◌, Bool, false, IsTrue, IsFalse, MatchBool, List, []}
use Rattle.std.specs.Prelude.{length, Option, Some, None, Result, Ok, Err, codes}
use Rattle.fb_frame.specs.Causes.{Rose}
use Rattle.fb_frame.specs.Framing.{frame}
use Rattle.fb_frame.specs.Sinks.{Grew, GrewPart}
use Rattle.fb_message.specs.declared.reply.Reply.TheVariants.{Okay}
use Rattle.fb_message.specs.ReplyText.{reply_bytes}
use Rattle.dev_model.specs.declared.device.Dev.{Dev}
use Rattle.dev_model.specs.Partitions.{is_fastboot}
use Rattle.dev_model.specs.Repeats.{is_among}
use Rattle.dev_model.specs.Validity.{IsValid}
use Rattle.dev_model.specs.Variables.{asked}
use Rattle.wire_told.specs.Answered.{Sound}
use Rattle.wire_told.specs.Peers.{Peer, device_of}
use Rattle.wire_told.specs.Places.{Place, Stand, Device, Bad, Nothing, IsLast, IsNothing, IsBad, KeepsOthers}
use Rattle.wire_told.specs.Ports.{PortTold, IsAstray, Turns}
use Rattle.flash_plan.specs.declared.options.Options.{Options}
use Rattle.flash_plan.specs.declared.product.Product.{Product}
use Rattle.flash_plan.specs.Inspecting.{looked_at}
use Rattle.flash_plan.specs.Products.{Fault, product_of, OfFiles}
use Rattle.host_driver.specs.declared.drive.Done.{Done as DoneSo}
use Rattle.host_driver.specs.declared.drive.DriveError.{DriveError}
use Rattle.host_driver.specs.declared.drive.DriveError.TheVariants as stop
use Rattle.host_driver.specs.Asking.{lines_to, ShowsSome, IsCutIn}
use Rattle.host_driver.specs.Driving.{Grows, IsLed, Drove, IsLineOf, IsImageOf, TriedUntold, moved}
use Rattle.host_driver.specs.Driving.{LinkFailed, FolderFailed, OutputFailed}
use Rattle.host_driver.specs.HeardLast.{HeardBy, HeardThen, HeardFail, HeardOther, HeardMany}
use Rattle.host_driver.specs.Jobs.{Outside, Order, Course, job, order}
use Rattle.host_driver.specs.Printing.{joined}
use Rattle.host_words.specs.Requests.{Request, FlashAll, GetVar, Sample}
use Rattle.host_top.specs.Subjects.{is_elsewhere}
use Rattle.host_top.specs.Verdicts.{Verdict, Usage, NoMemory, NoFolder, Flawed, NoLink, NoDevice, Refusing}
use Rattle.host_top.specs.Verdicts.{NoPeer, TooManyLines, Told, status_of, last_line, verdict_of}

-- a device that was aimed at: there can be one, and it runs fastboot
pub record IsMet (s : Dev) : Type 0 where
  pub valid : IsValid s
  pub serves : IsTrue (is_fastboot s.mode)

-- A relation of the device that was aimed at and the device that the port tells after the call. The first is
-- the one that the target is told to stand for.
abbrev pub OnAimed : Option Stand → Option Peer → (Dev → Dev → Type 0) → Type 0
OnAimed None None R = Unit {0}
OnAimed None (Some b) R = (s : Dev) × IsMet s × R s (device_of b)
OnAimed (Some Nothing) b R = ⊥
OnAimed (Some (Bad kind)) b R = ⊥
OnAimed (Some (Device s)) None R = ⊥
OnAimed (Some (Device s)) (Some b) R = IsMet s × R s (device_of b)

-- The port wasn't used: it tells what it told.
pub record IsSamePort (old new : PortTold) : Type 0 where
  pub peer : new.peer ≡ old.peer
  pub up : new.up ≡ old.up
  pub aimed : new.aimed ≡ old.aimed
  pub last : new.last ≡ old.last
  pub stands : new.stands ≡ old.stands
  pub heard : new.heard ≡ old.heard
  pub log : new.log ≡ old.log
  pub faults : new.faults ≡ old.faults
  pub ends : new.ends ≡ old.ends
  pub honest : (new.honest → old.honest) × (old.honest → new.honest)

-- The last line was put, with its status; or the output took less of it, with status 9.
abbrev pub Shows : Verdict → Option (List ℕ) → Option (List ℕ) → ℕ → Type 0
Shows verdict before now status =
    ((status ≡ status_of verdict) × Grew before now (last_line verdict))
    ⊎ ((status ≡ 9) × GrewPart before now (last_line verdict))

-- the same, or nothing more where the output had failed before
abbrev pub ShowsLast : Option Verdict → Option (List ℕ) → Option (List ℕ) → ℕ → Type 0
ShowsLast None before now status = (status ≡ 9) × (now ≡ before)
ShowsLast (Some verdict) before now status = Shows verdict before now status

-- The folder wasn't entered: it failed, or the told one is another. It is named.
pub record IsUnentered (dir : List ℕ) (old new : Outside) (name : List ℕ) : Type 0 where
  pub why : FolderFailed (moved old new) ⊎ IsTrue (is_elsewhere dir old.folder.path)
  pub named : name ≡ dir

-- The folder failed at a file: one that is looked at for the product, where the files are told. It is named.
pub record IsUnread (dir : List ℕ) (wipe : Bool) (old new : Outside) (name : List ℕ) : Type 0 where
  pub here : is_elsewhere dir old.folder.path ≡ false
  pub failed : FolderFailed (moved old new)
  pub named : OfFiles old.folder.files (λ files. IsTrue (is_among (looked_at wipe files) name))

-- the product of the folder has this flaw, where the files are told
pub record IsFlawed (dir : List ℕ) (wipe : Bool) (old : Outside) (fault : Fault) : Type 0 where
  pub here : is_elsewhere dir old.folder.path ≡ false
  pub first : OfFiles old.folder.files (λ files. product_of files wipe ≡ Err fault)

-- why an installation ends before the port is used: memory, the folder, or its product
abbrev pub EndsInFolder : List ℕ → Bool → Outside → Outside → Verdict → Type 0
EndsInFolder dir wipe old new NoMemory = Unit {0}
EndsInFolder dir wipe old new (NoFolder name) =
    MatchBool new.folder.entered (IsUnread dir wipe old new name) (IsUnentered dir old new name)
EndsInFolder dir wipe old new (Flawed file flaw) = IsFlawed dir wipe old (file, flaw)
EndsInFolder dir wipe old new _ = ⊥

-- why a call ends with its words: they are refused, or memory is wanting
abbrev pub EndsInWords : Verdict → Type 0
EndsInWords Usage = Unit {0}
EndsInWords NoMemory = Unit {0}
EndsInWords _ = ⊥

-- why a question ends before the port is used: memory alone
abbrev pub EndsUnasked : Verdict → Type 0
EndsUnasked NoMemory = Unit {0}
EndsUnasked _ = ⊥

-- why a call ends before the port is used
abbrev pub EndsEarly : Option Request → Outside → Outside → Verdict → Type 0
EndsEarly None old new verdict = EndsInWords verdict
EndsEarly (Some (FlashAll place dir options)) old new verdict = EndsInFolder dir options.wipe old new verdict
EndsEarly (Some (GetVar place name)) old new verdict = EndsUnasked verdict
EndsEarly (Some (Sample n)) old new verdict = EndsInWords verdict

-- The port wasn't used.
pub record Unused (request : Option Request) (old new : Outside) (status : ℕ) : Type 0 where
  pub same : IsSamePort old.port new.port
  pub verdict : Verdict
  pub why : EndsEarly request old new verdict
  pub shows : Shows verdict old.text new.text status
  pub unput : status ≡ 9 → OutputFailed (moved old new)

-- The folder of the words was entered, and its product read.
pub record IsOpened (dir : List ℕ) (o : Order) (old new : Outside) : Type 0 where
  pub here : is_elsewhere dir old.folder.path ≡ false
  pub read : OfFiles old.folder.files (λ files. product_of files o.options.wipe ≡ Ok o.product)
  pub entered : IsTrue new.folder.entered

-- why a port isn't aimed
abbrev pub EndsAstray : Place → Outside → Outside → Verdict → Type 0
EndsAstray place old new NoMemory = Unit {0}
EndsAstray place old new NoLink = LinkFailed (moved old new) ⊎ IsNothing old.port.stands place
EndsAstray place old new (NoDevice kind) = IsBad old.port.stands place kind
EndsAstray place old new _ = ⊥

-- The port wasn't aimed: no device is told, and nothing was sent or heard.
pub record Unaimed (place : Place) (old new : Outside) (status : ℕ) : Type 0 where
  pub astray : IsAstray old.port new.port place
  pub turns : Turns old.port new.port
  pub verdict : Verdict
  pub why : EndsAstray place old new verdict
  pub shows : Shows verdict old.text new.text status
  pub unput : status ≡ 9 → OutputFailed (moved old new)

-- The port was aimed at the target, which is the last one, and the others stand for what they did.
pub record IsTurned (place : Place) (old new : Outside) : Type 0 where
  pub aimed : IsTrue new.port.aimed
  pub last : IsLast new.port.stands new.port.last place
  pub others : KeepsOthers (Some place) old.port.stands new.port.stands
  pub down : IsFalse new.port.up

-- Why an installation ended so, over any port and any folder. `attempts` is how many were begun.
abbrev pub WhyLed : Order → ℕ → Outside → Outside → Result DoneSo DriveError → Type 0
WhyLed o attempts old new (Ok done) = done.attempts ≡ attempts
WhyLed o attempts old new (Err stop.Memory) = Unit {0}
WhyLed o attempts old new (Err (stop.Directory file)) =
    FolderFailed (moved old new) × IsImageOf o.product file
WhyLed o attempts old new (Err stop.Output) = OutputFailed (moved old new)
WhyLed o attempts old new (Err stop.Link) =
    LinkFailed (moved old new) × (attempts ≡ o.options.retries + 1)
WhyLed o attempts old new (Err stop.Ended) =
    (new.port.peer ≡ None) × Rose old.port.ends new.port.ends × (attempts ≡ o.options.retries + 1)
WhyLed o attempts old new (Err (stop.Refused text)) = Unit {0}
WhyLed o attempts old new (Err (stop.Peer kept)) = new.port.peer ≡ None
WhyLed o attempts old new (Err stop.TooManyInfos) = new.port.peer ≡ None
WhyLed o attempts old new (Err (stop.Requirement line name value)) =
    (o.options.force ≡ false) × IsLineOf o.product line name
WhyLed o attempts old new (Err (stop.Plan line kind)) = Unit {0}

-- with this text
abbrev pub with_text : Option (List ℕ) → Outside → Outside
with_text text o = record o { text = text }

-- what is known of a told device, and of the job where the files are told too
abbrev pub LedOver : Order → Outside → Outside → Course → Dev → Dev → Type 0
LedOver o old new course s t =
    IsLed (moved old new) course s t
    × OfFiles old.folder.files (λ files. Drove (job o files s) old new course t)

-- The port was aimed at the target, and an installation ran and ended by its course; then the last line was
-- put. `mid` is the text before it.
pub record Led (place : Place) (o : Order) (old new : Outside) (status : ℕ) : Type 0 where
  pub course : Course
  pub mid : Option (List ℕ)
  pub grows : Grows old.text mid
  pub turned : IsTurned place old new
  pub begun : course.numbers ≡ [] → course.outcome ≡ Err stop.Memory
  pub few : length course.numbers ≤ o.options.retries + 1
  pub why : WhyLed o (length course.numbers) old new course.outcome
  pub untold : new.port.peer ≡ None → TriedUntold (length course.numbers - 1) old new
  pub heard : HeardBy new.port course.outcome
  pub device : OnAimed (old.port.stands place) new.port.peer (LedOver o old (with_text mid new) course)
  pub shows : ShowsLast (verdict_of course.outcome) mid new.text status
  pub unput : status ≡ 9 → OutputFailed (moved old new)
  pub sound : Sound new.port.peer

-- What a told device answers to a question, as far as it was heard and shown before the last line. Lines are
-- shown of `all` alone.
abbrev pub Answers : Dev → List ℕ → Option Verdict → Option (List ℕ) → Option (List ℕ) → Type 0
Answers s name None before now = IsCutIn (lines_to s name) before now
Answers s name (Some (Told text)) before now =
    (asked s name ≡ Some text) × Grew before now (joined (lines_to s name))
Answers s name (Some (Refusing text)) before now =
    (asked s name ≡ None) × (text ≡ codes "unknown variable") × Grew before now (joined (lines_to s name))
Answers s name (Some NoMemory) before now = ShowsSome (lines_to s name) before now
Answers s name (Some NoLink) before now = ShowsSome (lines_to s name) before now
Answers s name (Some _) before now = ⊥

-- Why a question ended so, over any port.
abbrev pub WhyAsked : Outside → Outside → Option Verdict → Type 0
WhyAsked old new None = OutputFailed (moved old new)
WhyAsked old new (Some (Told text)) = HeardThen new.port.heard (frame (reply_bytes (Okay text)))
WhyAsked old new (Some (Refusing text)) = HeardFail new.port text
WhyAsked old new (Some NoMemory) = Unit {0}
WhyAsked old new (Some NoLink) =
    LinkFailed (moved old new) ⊎ ((new.port.peer ≡ None) × Rose old.port.ends new.port.ends)
WhyAsked old new (Some (NoPeer kept)) = (new.port.peer ≡ None) × HeardOther new.port kept
WhyAsked old new (Some TooManyLines) = (new.port.peer ≡ None) × HeardMany new.port
WhyAsked old new (Some _) = ⊥

-- The port was aimed at the target, and a question was asked, which leaves a device as it was; then the last
-- line was put. `mid` is the text before it.
pub record Questioned (place : Place) (name : List ℕ) (old new : Outside) (status : ℕ) : Type 0 where
  pub verdict : Option Verdict
  pub mid : Option (List ℕ)
  pub grows : Grows old.text mid
  pub turned : IsTurned place old new
  pub why : WhyAsked old new verdict
  pub device : OnAimed (old.port.stands place) new.port.peer
      (λ s t. (t ≡ s) × Answers s name verdict old.text mid)
  pub shows : ShowsLast verdict mid new.text status
  pub unput : status ≡ 9 → OutputFailed (moved old new)

-- the product was read, and then the port wasn't aimed, or an installation ran
abbrev pub EndsOpened : Place → List ℕ → Options → Outside → Outside → ℕ → Type 0
EndsOpened place dir options old new status =
    (product : Product) × IsOpened dir (order product options) old new
    × (Unaimed place old new status ⊎ Led place (order product options) old new status)

-- How a call ends, by what the words ask for.
abbrev pub Ends : Option Request → Outside → Outside → ℕ → Type 0
Ends None old new status = Unused None old new status
Ends (Some (FlashAll place dir options)) old new status =
    Unused (Some (FlashAll place dir options)) old new status ⊎ EndsOpened place dir options old new status
Ends (Some (GetVar place name)) old new status =
    Unused (Some (GetVar place name)) old new status
    ⊎ Unaimed place old new status
    ⊎ Questioned place name old new status
Ends (Some (Sample n)) old new status = Unused (Some (Sample n)) old new status
