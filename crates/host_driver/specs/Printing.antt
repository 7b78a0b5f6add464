-- The lines of an installation over a told device, attempt by attempt.
use Rattle.std.specs.Prelude.{◌≡◌, ◌⊎◌, ℕ, zero, suc, ◌+◌, ◌<◌, Bool, true, false, List, [], ◌∷◌, ◌++◌}
use Rattle.std.specs.Prelude.{length}
use Rattle.std.specs.Prelude.{map, flat_map, take, slice_get, slice_index_or, Option, Some, Result, Ok}
use Rattle.std.specs.Prelude.{Err}
use Rattle.std.specs.Prelude.{if◌then◌else◌, bytes_eq, codes, decimal, IsTrue}
use Rattle.std.specs.List.{list_any}
use Rattle.fb_frame.specs.Slots.{letter}
use Rattle.fb_message.specs.declared.command.BootTarget.{BootTarget}
use Rattle.fb_message.specs.declared.command.BootTarget.TheVariants as target
use Rattle.fb_message.specs.declared.reply.Reply.{Reply}
use Rattle.fb_message.specs.declared.reply.Reply.TheVariants.{Info}
use Rattle.dev_model.specs.declared.device.Dev.{Dev}
use Rattle.dev_model.specs.Variables.{all_rows}
use Rattle.flash_plan.specs.declared.plan.Order.{Order}
use Rattle.flash_plan.specs.declared.plan.Order.TheVariants.{Active, Resize, Put, Wipe, Table, Boot}
use Rattle.flash_plan.specs.Facts.{facts_of}
use Rattle.flash_plan.specs.Moves.{PlanFault}
use Rattle.flash_plan.specs.Orders.{orders}
use Rattle.flash_plan.specs.Plans.{work_of}
use Rattle.flash_plan.specs.Questions.{questions}
use Rattle.fb_link.specs.Lines.{shown_line}
use Rattle.host_driver.specs.declared.drive.Done.{Done}
use Rattle.host_driver.specs.declared.drive.DriveError.{DriveError}
use Rattle.host_driver.specs.declared.drive.DriveError.TheVariants as stop
use Rattle.host_driver.specs.Driven.{made, LeavesBy}
use Rattle.host_driver.specs.Jobs.{Job, Course, Has, last_in}

-- the words of a reboot
abbrev pub boot_text : BootTarget → List ℕ
boot_text target.System = codes "reboot system"
boot_text target.Bootloader = codes "reboot bootloader"
boot_text target.Fastboot = codes "reboot fastboot"
boot_text target.Recovery = codes "reboot recovery"

-- the words of a step; an image is named by its length
abbrev pub step_text : ℕ → Order → List ℕ
step_text long (Active slot) = codes "set_active " ++ letter slot ∷ []
step_text long (Resize name size) = codes "resize " ++ name ++ codes " " ++ decimal size
step_text long (Put name place) = codes "flash " ++ name ++ codes " " ++ decimal long
step_text long (Wipe name) = codes "erase " ++ name
step_text long (Table name wipe) = codes "update-super " ++ name ++ (if wipe then codes " wipe" else [])
step_text long (Boot what) = boot_text what

-- how long the image is that a step puts, of images with these lengths
abbrev pub image_long : List ℕ → Order → ℕ
image_long sizes (Put name place) = slice_index_or sizes place 0
image_long sizes _ = 0

-- the line of a step that was acknowledged
abbrev pub step_line : List ℕ → Order → List ℕ
step_line sizes order = step_text (image_long sizes order) order ++ 10 ∷ []

-- the line before the K-th retry
abbrev pub retry_line : ℕ → List ℕ
retry_line k = codes "retry " ++ decimal k ++ 10 ∷ []

-- the INFO replies that a device says to a question: one for each variable where all are asked for
abbrev pub infos_to : Dev → List ℕ → List Reply
infos_to dev name =
    if bytes_eq name (codes "all") then map (λ row. Info (row.0 ++ 58 ∷ row.1)) (all_rows dev) else []

-- the lines of the plan's steps, none where there is no plan
abbrev pub lines_by : List ℕ → Result (List Order) PlanFault → List (List ℕ)
lines_by sizes (Err fault) = []
lines_by sizes (Ok plan) = map (step_line sizes) plan

-- The lines of an installation: those that are shown as the device is asked, and those of the plan's steps.
pub record Lines : Type 0 where
  pub asks : List (List ℕ)
  pub steps : List (List ℕ)

abbrev pub lines_of : Job → Lines
lines_of j = record {
  asks = map shown_line (flat_map (infos_to j.device) (questions j.product j.options j.device));
  steps = lines_by (work_of j.product).sizes (orders (work_of j.product) j.options (facts_of j.device));
}

-- One attempt: not all questions were answered, of whose lines so many were shown; they were all answered,
-- and so many steps were printed; or an earlier attempt had made the plan, and so many steps were printed.
pub data Attempt : Type 0 where
  Asking : ℕ → Attempt
  Asked : ℕ → Attempt
  Again : ℕ → Attempt

-- how many step lines it printed
abbrev pub steps_in : Attempt → ℕ
steps_in (Asking m) = 0
steps_in (Asked n) = n
steps_in (Again n) = n

-- all questions were answered in it or before it
abbrev pub is_answered : Attempt → Bool
is_answered (Asking m) = false
is_answered (Asked n) = true
is_answered (Again n) = true

-- attempts ask until one of them is answered all questions, and later ones don't ask again
abbrev pub in_order : Bool → List Attempt → Bool
in_order answered [] = true
in_order false (Asking m ∷ later) = in_order false later
in_order false (Asked n ∷ later) = in_order true later
in_order false (Again n ∷ later) = false
in_order true (Asking m ∷ later) = false
in_order true (Asked n ∷ later) = false
in_order true (Again n ∷ later) = in_order true later

abbrev pub joined : List (List ℕ) → List ℕ
joined lines = flat_map (λ line. line) lines

-- the text of an attempt
abbrev pub attempt_text : Lines → Attempt → List ℕ
attempt_text lines (Asking m) = joined (take m lines.asks)
attempt_text lines (Asked n) = joined lines.asks ++ joined (take n lines.steps)
attempt_text lines (Again n) = joined (take n lines.steps)

-- what stands before an attempt: the first has no line
abbrev pub lead : ℕ → List ℕ
lead zero = []
lead (suc k) = retry_line (suc k)

-- the text of attempts from the K-th retry on
abbrev pub text_from : Lines → ℕ → List Attempt → List ℕ
text_from lines k [] = []
text_from lines k (attempt ∷ later) = lead k ++ (attempt_text lines attempt ++ text_from lines (k + 1) later)

-- the text of attempts
abbrev pub text_of : Lines → List Attempt → List ℕ
text_of lines attempts = text_from lines 0 attempts

-- the line that is due next in an attempt
abbrev pub next_line : Lines → Attempt → Option (List ℕ)
next_line lines (Asking m) = slice_get lines.asks m
next_line lines (Asked n) = slice_get lines.steps n
next_line lines (Again n) = slice_get lines.steps n

-- how many steps were acknowledged where the line that is due wasn't printed
abbrev pub acknowledged_in : Attempt → ℕ
acknowledged_in (Asking m) = 0
acknowledged_in (Asked n) = suc n
acknowledged_in (Again n) = suc n

-- the numbers of attempts of which the last is one whose due line wasn't printed
abbrev pub numbers_due : List Attempt → List ℕ
numbers_due [] = []
numbers_due (a ∷ []) = acknowledged_in a ∷ []
numbers_due (a ∷ b ∷ later) = steps_in a ∷ numbers_due (b ∷ later)

-- The line that is due after these attempts, of which these numbers of steps were acknowledged: the next one
-- of the last attempt, or that of a retry where one may be due after so many.
abbrev pub IsDue : Lines → (ℕ → Type 0) → List Attempt → List ℕ → List ℕ → Type 0
IsDue lines MayRetry attempts numbers line =
    ((numbers ≡ numbers_due attempts) × Has (last_in attempts) (λ a. next_line lines a ≡ Some line))
    ⊎ ((numbers ≡ map steps_in attempts) × (0 < length attempts) × MayRetry (length attempts)
    × (line ≡ retry_line (length attempts)))

-- what grew is this text, and a front of a line that was due, which lacks at least one byte
pub record IsCutShort (Due : List ℕ → Type 0) (text : List ℕ) (Grew : List ℕ → Type 0) : Type 0 where
  pub line : List ℕ
  pub due : Due line
  pub n : ℕ
  pub short : n < length line
  pub grew : Grew (text ++ take n line)

-- one of three facts, by whether the output failed, memory was wanting, or neither
abbrev pub ByEnd : Result Done DriveError → Type 0 → Type 0 → Type 0 → Type 0
ByEnd (Err stop.Output) Cut Short Whole = Cut
ByEnd (Err stop.Memory) Cut Short Whole = Short
ByEnd _ Cut Short Whole = Whole

-- The text grew by that of the attempts, whose numbers of step lines are the acknowledged ones. Where the
-- output failed it ends amid the line that was due, and where memory was wanting the last step's line may be
-- missing.
abbrev pub PrintsBy : Lines → (ℕ → Type 0) → List Attempt → Course → (List ℕ → Type 0) → Type 0
PrintsBy lines MayRetry attempts course Grew =
    ByEnd course.outcome
    (IsCutShort (IsDue lines MayRetry attempts course.numbers) (text_of lines attempts) Grew)
    (((course.numbers ≡ map steps_in attempts) ⊎ (course.numbers ≡ numbers_due attempts))
    × Grew (text_of lines attempts))
    ((course.numbers ≡ map steps_in attempts) × Grew (text_of lines attempts))

-- What is known of the last attempt by the end: where all was done, a step was refused, a file failed, a
-- requirement isn't met or no plan is made, all questions were answered in it or before it; in the last two
-- cases in it, and no step was taken.
abbrev pub EndsBy : Result Done DriveError → Option Attempt → Type 0
EndsBy (Ok done) last = Has last (λ a. IsTrue (is_answered a) × (steps_in a ≡ done.steps))
EndsBy (Err (stop.Refused text)) last = Has last (λ a. IsTrue (is_answered a))
EndsBy (Err (stop.Directory file)) last = Has last (λ a. IsTrue (is_answered a))
EndsBy (Err (stop.Requirement line name value)) last = last ≡ Some (Asked 0)
EndsBy (Err (stop.Plan line kind)) last = last ≡ Some (Asked 0)
EndsBy (Err _) last = Unit {0}

-- The attempts of an installation, what they printed, and that their numbers tell what they left. Before all
-- questions were answered nothing was changed.
pub record Prints (j : Job) (MayRetry : ℕ → Type 0) (course : Course) (Grew : List ℕ → Type 0) (t : Dev) :
    Type 0 where
  pub attempts : List Attempt
  pub ordered : in_order false attempts ≡ true
  pub text : PrintsBy (lines_of j) MayRetry attempts course Grew
  pub ends : EndsBy course.outcome (last_in attempts)
  pub left : LeavesBy (made j) j.device (map steps_in attempts) t
  pub unasked : list_any is_answered attempts ≡ false → t ≡ j.device
