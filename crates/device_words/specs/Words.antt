-- What the words of fbdevice ask for: one simple command of clap's, and then the checks of its options and
-- values.
use Rattle.std.specs.Prelude.{ℕ, Bool, not, ◌&&◌, List, length, Option, Some, None, if◌then◌else◌}
use Rattle.std.specs.Prelude.{option_map, nat_le, bytes_eq, codes}
use Rattle.clap.specs.Words.{App, Row, with_rule, first_of}
use Rattle.word_rules.specs.Rules.{bare_command, word_flag, word_option, due_word, free_word}
use Rattle.word_rules.specs.Rules.{has_flag, lacks, number_or, asked}
use Rattle.device_words.specs.declared.request.DeviceWords.{DeviceWords}
use Rattle.device_words.specs.declared.request.DeviceWords.TheVariants.{Make, Show, Unlock, Serve}

-- the command: `--unlocked`, `--port`, `--connections`, an action, its first file, and a second one
abbrev pub device_command : App
device_command =
    with_rule (with_rule (with_rule (with_rule (with_rule (with_rule (bare_command (codes "fbdevice"))
    (word_flag (codes "unlocked")))
    (word_option (codes "port")))
    (word_option (codes "connections")))
    (due_word (codes "action")))
    (due_word (codes "first")))
    (free_word (codes "second"))

-- a file has a name of at least one byte
abbrev pub is_named : List ℕ → Bool
is_named file = nat_le 1 (length file)

-- no option stands that only `serve` has
abbrev pub serves_not : List Row → Bool
serves_not rows = lacks (codes "port") rows && lacks (codes "connections") rows

-- one file stands alone, and not `--unlocked`
abbrev pub is_alone : List Row → List ℕ → Bool
is_alone rows file =
    is_named file && (lacks (codes "second") rows && not (has_flag (codes "unlocked") rows))

-- an image from a layout
abbrev pub make_of : List Row → List ℕ → Option (List ℕ) → Option DeviceWords
make_of rows layout None = None
make_of rows layout (Some file) =
    if is_named layout && (is_named file && serves_not rows)
    then Some (Make layout file (has_flag (codes "unlocked") rows)) else None

-- the one file of an action without options
abbrev pub single_of : List Row → List ℕ → Option (List ℕ)
single_of rows file = if is_alone rows file && serves_not rows then Some file else None

abbrev pub serve_with : List ℕ → Option ℕ → Option ℕ → Option DeviceWords
serve_with file None connections = None
serve_with file (Some port) None = None
serve_with file (Some port) (Some connections) = Some (Serve file port connections)

-- serving, at port 5554 and to 16 connections where nothing else is said
abbrev pub serve_of : List Row → List ℕ → Option DeviceWords
serve_of rows file =
    if is_alone rows file
    then serve_with file (number_or 5554 1 65535 (first_of (codes "port") rows))
    (number_or 16 1 65535 (first_of (codes "connections") rows))
    else None

-- what an action asks for, with its first file
abbrev pub action_of : List Row → List ℕ → List ℕ → Option DeviceWords
action_of rows action first =
    if bytes_eq action (codes "make") then make_of rows first (first_of (codes "second") rows)
    else (if bytes_eq action (codes "show") then option_map Show (single_of rows first)
    else (if bytes_eq action (codes "unlock") then option_map Unlock (single_of rows first)
    else (if bytes_eq action (codes "serve") then serve_of rows first else None)))

abbrev pub request_by : List Row → Option (List ℕ) → Option (List ℕ) → Option DeviceWords
request_by rows None first = None
request_by rows (Some action) None = None
request_by rows (Some action) (Some first) = action_of rows action first

-- what the matches of the command ask for
abbrev pub request_of : List Row → Option DeviceWords
request_of rows = request_by rows (first_of (codes "action") rows) (first_of (codes "first") rows)

-- What the words ask for, None where they are refused: where clap's command has a fault at them, or a check
-- fails.
unfoldable pub device_words : List (List ℕ) → Option DeviceWords
device_words words = asked device_command request_of words
