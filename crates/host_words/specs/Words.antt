-- The words of fbflash: one simple command of clap's, and then the checks of its options and values.
use Rattle.std.specs.Prelude.{ℕ, Bool, false, not, ◌&&◌, ◌||◌, List, length}
use Rattle.std.specs.Prelude.{Option, Some, None, option_map, option_and_then, if◌then◌else◌}
use Rattle.std.specs.Prelude.{nat_le, bytes_eq, codes}
use Rattle.fb_frame.specs.declared.slot.Slot.TheVariants.{A, B}
use Rattle.clap.specs.Words.{App, Row, with_rule, first_of}
use Rattle.flash_plan.specs.declared.options.Options.{Options}
use Rattle.flash_plan.specs.declared.options.SlotChoice.{SlotChoice}
use Rattle.flash_plan.specs.declared.options.SlotChoice.TheVariants.{Current, Is, Other}
use Rattle.wire_told.specs.Places.{Place}
use Rattle.word_rules.specs.Rules.{bare_command, letter_option, word_option, letter_flag, word_flag}
use Rattle.word_rules.specs.Rules.{due_word, has_flag, lacks, number_in, number_or, asked}
use Rattle.host_words.specs.Targets.{place_of_text}
use Rattle.host_words.specs.Requests.{Request, FlashAll, GetVar, Sample}

-- the command: `-s`, `--slot`, `-w`, `--skip-reboot`, `--force`, `--retries`, and an action with its subject
abbrev pub host_command : App
host_command =
    with_rule (with_rule (with_rule (with_rule (with_rule (with_rule (with_rule (with_rule
    (bare_command (codes "fbflash"))
    (letter_option (codes "target") 115))
    (word_option (codes "slot")))
    (letter_flag (codes "wipe") 119))
    (word_flag (codes "skip-reboot")))
    (word_flag (codes "force")))
    (word_option (codes "retries")))
    (due_word (codes "action")))
    (due_word (codes "subject"))

-- the slot: the current one where none is named
abbrev pub slot_by : Option (List ℕ) → Option SlotChoice
slot_by None = Some Current
slot_by (Some text) =
    if bytes_eq text (codes "a") then Some (Is A)
    else (if bytes_eq text (codes "b") then Some (Is B)
    else (if bytes_eq text (codes "other") then Some Other else None))

-- the options, where each value is one of its own
abbrev pub options_by : List Row → Option SlotChoice → Option ℕ → Option Options
options_by rows None retries = None
options_by rows (Some slot) None = None
options_by rows (Some slot) (Some retries) = Some (record {
  slot = slot;
  wipe = has_flag (codes "wipe") rows;
  skip_reboot = has_flag (codes "skip-reboot") rows;
  force = has_flag (codes "force") rows;
  retries = retries;
})

-- the options: the slot, the flags, and how many retries are allowed, usually none and at most 9
abbrev pub options_of : List Row → Option Options
options_of rows = options_by rows (slot_by (first_of (codes "slot") rows))
    (number_or 0 0 9 (first_of (codes "retries") rows))

-- the options of words that name none
abbrev pub usual_options : Options
usual_options = record { slot = Current; wipe = false; skip_reboot = false; force = false; retries = 0 }

-- no option stands that only an installation has
abbrev pub has_no_options : List Row → Bool
has_no_options rows =
    lacks (codes "slot") rows && (lacks (codes "retries") rows
    && not (has_flag (codes "wipe") rows
    || (has_flag (codes "skip-reboot") rows || has_flag (codes "force") rows)))

-- the target that the words name
abbrev pub place_among : List Row → Option Place
place_among rows = option_and_then place_of_text (first_of (codes "target") rows)

-- an installation, a question of at most 4,089 bytes, or a sample without a target
abbrev pub flash_of : Option Place → List ℕ → Option Options → Option Request
flash_of None dir options = None
flash_of (Some place) dir None = None
flash_of (Some place) dir (Some options) = Some (FlashAll place dir options)

abbrev pub question_of : Option Place → List ℕ → Bool → Option Request
question_of None name bare = None
question_of (Some place) name bare =
    if bare && nat_le (length name) 4089 then Some (GetVar place name) else None

abbrev pub sample_of : List ℕ → Bool → Option Request
sample_of text bare = if bare then option_map Sample (number_in 0 4294967295 text) else None

-- what an action asks for, with its subject
abbrev pub action_of : List Row → List ℕ → List ℕ → Option Request
action_of rows action subject =
    if bytes_eq action (codes "flashall") then flash_of (place_among rows) subject (options_of rows)
    else (if bytes_eq action (codes "getvar")
    then question_of (place_among rows) subject (has_no_options rows)
    else (if bytes_eq action (codes "sample")
    then sample_of subject (lacks (codes "target") rows && has_no_options rows) else None))

abbrev pub request_in : List Row → Option (List ℕ) → Option (List ℕ) → Option Request
request_in rows None subject = None
request_in rows (Some action) None = None
request_in rows (Some action) (Some subject) = action_of rows action subject

-- what the matches of the command ask for
abbrev pub request_among : List Row → Option Request
request_among rows = request_in rows (first_of (codes "action") rows) (first_of (codes "subject") rows)

-- What the words ask for, None where they are refused: where clap's command has a fault at them, or a check
-- fails.
unfoldable pub host_words : List (List ℕ) → Option Request
host_words words = asked host_command request_among words
