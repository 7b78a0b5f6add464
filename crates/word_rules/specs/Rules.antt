-- The arguments of a simple command of clap's, and what its matches give.
use Rattle.std.specs.Prelude.{ℕ, Bool, true, ◌&&◌, List, [], ◌∷◌, Option, Some, None, is_none}
use Rattle.std.specs.Prelude.{option_and_then, unwrap_or, if◌then◌else◌, nat_le, bytes_eq, codes}
use Rattle.fb_frame.specs.Numbers.{read_dec}
use Rattle.clap.specs.Words.{App, Rule, Row, new_app, new_rule, matches_of, first_of, fault_of, Kinds}
use Rattle.clap.specs.declared.builder.action.ArgAction.TheVariants.{Set, SetTrue}

-- an option with a value, by its letter or by its word; a flag; a word that has to stand, and one that may
abbrev pub letter_option : List ℕ → ℕ → Rule
letter_option id letter = record (new_rule id) { short = Some letter; action = Some Set }

abbrev pub word_option : List ℕ → Rule
word_option id = record (new_rule id) { long = Some id; action = Some Set }

abbrev pub letter_flag : List ℕ → ℕ → Rule
letter_flag id letter = record (new_rule id) { short = Some letter; action = Some SetTrue }

abbrev pub word_flag : List ℕ → Rule
word_flag id = record (new_rule id) { long = Some id; action = Some SetTrue }

abbrev pub due_word : List ℕ → Rule
due_word id = record (new_rule id) { action = Some Set; required = true }

abbrev pub free_word : List ℕ → Rule
free_word id = record (new_rule id) { action = Some Set }

-- a command before its arguments: the words don't hold the program's name, and there is no help and no
-- version
abbrev pub plain : App → App
plain app = record app {
  top = record app.top { no_binary_name = true; disable_help_flag = true; disable_version_flag = true };
}

abbrev pub bare_command : List ℕ → App
bare_command name = plain (new_app name)

-- the flag stands among the words, by the text that clap keeps for it
abbrev pub has_flag : List ℕ → List Row → Bool
has_flag id rows = bytes_eq (unwrap_or (first_of id rows) []) (codes "true")

-- the option doesn't stand among the words
abbrev pub lacks : List ℕ → List Row → Bool
lacks id rows = is_none (first_of id rows)

-- a number from one bound to another
abbrev pub number_in : ℕ → ℕ → List ℕ → Option ℕ
number_in least most text =
    option_and_then (λ n. if nat_le least n && nat_le n most then Some n else None) (read_dec text)

-- the number that an option tells, and a usual one where the option doesn't stand
abbrev pub number_or : ℕ → ℕ → ℕ → Option (List ℕ) → Option ℕ
number_or usual least most None = Some usual
number_or usual least most (Some text) = number_in least most text

-- what is asked for where there is no fault, and else nothing
abbrev pub unless_faulty : {R : Type 0} → Kinds → Option R → Option R
unless_faulty [] request = request
unless_faulty (kind ∷ kinds) request = None

-- What a command's words ask for: what its matches give where clap finds no fault, and else nothing.
abbrev pub asked : {R : Type 0} → App → (List Row → Option R) → List (List ℕ) → Option R
asked command request words = unless_faulty (fault_of command words) (request (matches_of command words))
