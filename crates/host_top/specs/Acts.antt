-- What the parts of a call come to: a folder that is read, an installation over an aimed port, a question.
use Rattle.std.specs.Prelude.{◌≡◌, ◌⊎◌, ℕ, ◌≤◌, Bool, false, List, length, Option, Some, Result, Ok, Err}
use Rattle.std.specs.Prelude.{is_some}
use Rattle.std.specs.Prelude.{IsTrue, IsFalse}
use Rattle.fb_frame.specs.Causes.{Rose}
use Rattle.fb_frame.specs.Framing.{frame}
use Rattle.fb_message.specs.declared.reply.Reply.TheVariants.{Okay}
use Rattle.fb_message.specs.ReplyText.{reply_bytes}
use Rattle.dev_model.specs.Repeats.{is_among}
use Rattle.wire_told.specs.Ports.{PortTold, Kept}
use Rattle.flash_plan.specs.declared.dir.EnterError.{EnterError}
use Rattle.flash_plan.specs.declared.dir.EnterError.TheVariants as enter
use Rattle.flash_plan.specs.declared.product.ProductError.{ProductError}
use Rattle.flash_plan.specs.declared.product.ProductError.TheVariants as bad
use Rattle.flash_plan.specs.Inspecting.{looked_at}
use Rattle.flash_plan.specs.Products.{OfFiles, product_of}
use Rattle.fb_link.specs.Seen.{Seen, seen}
use Rattle.host_driver.specs.declared.drive.DriveError.{DriveError}
use Rattle.host_driver.specs.declared.drive.DriveError.TheVariants as stop
use Rattle.host_driver.specs.Asking.{Told, IsUnrefused}
use Rattle.host_driver.specs.Driving.{Drives, Grows}
use Rattle.host_driver.specs.HeardLast.{HeardThen, HeardFail, HeardAt}
use Rattle.host_driver.specs.Jobs.{Outside, Folder, Order, Course, OfTold, outside}
use Rattle.host_driver.specs.Stepping.{WhyStopped, NoFiles}
use Rattle.host_words.specs.Requests.{Request, FlashAll, GetVar, Sample}
use Rattle.host_top.specs.declared.opening.Unread.{Unread}
use Rattle.host_top.specs.declared.opening.Unread.TheVariants as unread
use Rattle.host_top.specs.Ending.{ShowsLast, Answers}
use Rattle.host_top.specs.Subjects.{is_elsewhere}
use Rattle.host_top.specs.Verdicts.{Verdict, NoMemory, NoFolder, Flawed, Told as TellsText, Refusing}
use Rattle.host_top.specs.Verdicts.{verdict_of}

-- a folder that isn't entered, and a folder without a product
abbrev pub unread_enter : EnterError → Unread
unread_enter enter.Dir = unread.Folder
unread_enter enter.Memory = unread.Memory

abbrev pub unread_product : ProductError → Unread
unread_product bad.Memory = unread.Memory
unread_product (bad.Directory file) = unread.File file
unread_product (bad.Bad file flaw) = unread.Flawed file flaw

-- what is told of it, over a folder of this path
abbrev pub unread_verdict : List ℕ → Unread → Verdict
unread_verdict dir unread.Memory = NoMemory
unread_verdict dir unread.Folder = NoFolder dir
unread_verdict dir (unread.File file) = NoFolder file
unread_verdict dir (unread.Flawed file flaw) = Flawed file flaw

-- the folder was entered, which is of this path where it tells its own
pub record IsEntered (dir : List ℕ) (old new : Folder) : Type 0 where
  pub here : is_elsewhere dir old.path ≡ false
  pub entered : IsTrue new.entered

-- the folder wasn't entered: it failed, or the told one is another
pub record NotEntered (dir : List ℕ) (old new : Folder) : Type 0 where
  pub astray : IsFalse new.entered
  pub why : Rose old.faults new.faults ⊎ IsTrue (is_elsewhere dir old.path)

-- the folder failed at a file that is looked at for the product
pub record FailsAt (file dir : List ℕ) (wipe : Bool) (old new : Folder) : Type 0 where
  pub entered : IsEntered dir old new
  pub failed : Rose old.faults new.faults
  pub looked : OfFiles old.files (λ files. IsTrue (is_among (looked_at wipe files) file))

-- Why no product was read of the folder of this path.
abbrev pub WhyUnread : List ℕ → Bool → Folder → Folder → Unread → Type 0
WhyUnread dir wipe old new unread.Memory = Unit {0}
WhyUnread dir wipe old new unread.Folder = NotEntered dir old new
WhyUnread dir wipe old new (unread.File file) = FailsAt file dir wipe old new
WhyUnread dir wipe old new (unread.Flawed file flaw) =
    IsEntered dir old new × OfFiles old.files (λ files. product_of files wipe ≡ Err (file, flaw))

-- An installation ran over an aimed port, and then the last line was put. `mid` and `put` are the text and
-- the output's count before it.
pub record HasRun (order : Order) (old new : Outside) (status : ℕ) : Type 0 where
  pub course : Course
  pub mid : Option (List ℕ)
  pub put : ℕ
  pub drives : Drives order old (outside new.port new.folder mid put) course
  pub shows : ShowsLast (verdict_of course.outcome) mid new.text status
  pub shown_later : put ≤ new.unput
  pub failed : IsTrue (is_some (verdict_of course.outcome)) → status ≡ 9 → Rose put new.unput

-- what is told of a question
abbrev pub answer_verdict : Result Told DriveError → Option Verdict
answer_verdict (Ok (Ok text)) = Some (TellsText text)
answer_verdict (Ok (Err text)) = Some (Refusing text)
answer_verdict (Err error) = verdict_of (Err error)

-- Why a question over an aimed port ended so.
abbrev pub WhyAnswered : PortTold → PortTold → Result Told DriveError → Type 0
WhyAnswered old new (Ok (Ok text)) = HeardThen new.heard (frame (reply_bytes (Okay text)))
WhyAnswered old new (Ok (Err text)) = HeardFail new text
WhyAnswered old new (Err error) = WhyStopped NoFiles old new error × IsUnrefused error × HeardAt new error

-- A question was asked over an aimed port, which leaves a told device as it was; no connection is up then.
pub record IsAnswered (name : List ℕ) (old new : Seen) (answer : Result Told DriveError) : Type 0 where
  pub why : WhyAnswered old.port new.port answer
  pub told : OfTold old.port.peer new.port.peer
      (λ s t. (t ≡ s) × Answers s name (answer_verdict answer) old.text new.text)
  pub grows : Grows old.text new.text
  pub down : IsFalse new.port.up
  pub kept : Kept old.port new.port

-- It was asked, and then the last line was put. `mid` and `put` are the text and the output's count before
-- it.
pub record HasAsked (name : List ℕ) (old new : Outside) (status : ℕ) : Type 0 where
  pub answer : Result Told DriveError
  pub mid : Option (List ℕ)
  pub put : ℕ
  pub answered : IsAnswered name (seen old.port old.text) (seen new.port mid) answer
  pub unput : answer ≡ Err stop.Output → Rose old.unput put
  pub earlier : old.unput ≤ put
  pub shows : ShowsLast (answer_verdict answer) mid new.text status
  pub shown_later : put ≤ new.unput
  pub failed : IsTrue (is_some (answer_verdict answer)) → status ≡ 9 → Rose put new.unput

-- what words hold to that were read: at most nine retries, and a name of at most 4,089 bytes
abbrev pub Fits : Request → Type 0
Fits (FlashAll place dir options) = options.retries ≤ 9
Fits (GetVar place name) = length name ≤ 4089
Fits (Sample n) = Unit {0}
