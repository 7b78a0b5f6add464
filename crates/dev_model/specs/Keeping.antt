-- What a step keeps of a device, which `frame_laws` of this crate names.
use Rattle.std.specs.Prelude.{◌≡◌, ℕ, List, map, take, length, Some, option_map, if◌then◌else◌, bytes_eq}
use Rattle.std.specs.List.{AllByRecursion}
use Rattle.dev_model.specs.declared.cells.Cell.{Cell}
use Rattle.dev_model.specs.declared.device.Dev.{Dev}
use Rattle.dev_model.specs.declared.step.Step.{Step}
use Rattle.dev_model.specs.declared.step.Step.TheVariants.{Put}
use Rattle.dev_model.specs.Attempts.{LeftBehind, Chain}
use Rattle.dev_model.specs.Images.{over}
use Rattle.dev_model.specs.Partitions.{bytes_of, with_bytes}
use Rattle.dev_model.specs.Refusals.{refusal_of}
use Rattle.dev_model.specs.Resuming.{fixed_names}
use Rattle.dev_model.specs.Steps.{apply, run}
use Rattle.dev_model.specs.Validity.{IsValid, IsStep}

-- how long each physical partition is
abbrev pub fixed_lengths : Dev → List ℕ
fixed_lengths dev = map (λ p. length p.bytes) dev.physical

-- The device is the same but for its mode, its active slot and flags, the bytes of its partitions and what
-- a table brings. Its physical partitions keep their names and their lengths.
pub record IsSameDevice (old new : Dev) : Type 0 where
  pub all : new ≡ record old {
    mode = new.mode;
    active = new.active;
    flags = new.flags;
    physical = new.physical;
    groups = new.groups;
    logical = new.logical;
    table_minor = new.table_minor;
    table_flags = new.table_flags;
  }
  pub names : fixed_names new ≡ fixed_names old
  pub lengths : fixed_lengths new ≡ fixed_lengths old

-- so it is after a step
abbrev pub StepKeeps : Type 0
StepKeeps = (step : Step) (dev : Dev) → IsSameDevice dev (apply step dev)

-- after a run
abbrev pub RunKeeps : Type 0
RunKeeps = (steps : List Step) (dev t : Dev) → run steps dev ≡ Some t → IsSameDevice dev t

-- after an attempt, also one that halted it
abbrev pub LeftKeeps : Type 0
LeftKeeps = (plan : List Step) (s : Dev) (a : ℕ) (t : Dev) → AllByRecursion IsStep plan → IsValid s → LeftBehind plan s a t →
    IsSameDevice s t

-- and after a chain of attempts
abbrev pub ChainKeeps : Type 0
ChainKeeps = (plan : List Step) (s : Dev) (numbers : List ℕ) (t : Dev) → AllByRecursion IsStep plan → IsValid s →
    Chain plan s numbers t → IsSameDevice s t

-- where the bytes of a partition change, those of all others stay
abbrev pub WritesOne : Type 0
WritesOne = (name other : List ℕ) (change : List ℕ → List ℕ) (dev : Dev) →
    bytes_of (with_bytes name change dev) other
    ≡ option_map (if bytes_eq other name then change else λ bytes. bytes) (bytes_of dev other)

-- two changes of a partition's bytes are one
abbrev pub WritesTwice : Type 0
WritesTwice = (name : List ℕ) (first later : List ℕ → List ℕ) (dev : Dev) →
    with_bytes name later (with_bytes name first dev) ≡ with_bytes name (λ bytes. later (first bytes)) dev

-- an image put over what a front of it gave is put whole
abbrev pub OverFront : Type 0
OverFront = (n : ℕ) (cells : List Cell) (old : List ℕ) → over cells (over (take n cells) old) ≡ over cells old

-- and so it is on a device
abbrev pub PutOverFront : Type 0
PutOverFront = (name : List ℕ) (n : ℕ) (cells : List Cell) (dev : Dev) →
    apply (Put name cells) (with_bytes name (over (take n cells)) dev) ≡ apply (Put name cells) dev

-- what was put over a partition plays no part in whether an image is refused there
abbrev pub PutRefusedAgain : Type 0
PutRefusedAgain = (name : List ℕ) (first cells : List Cell) (dev : Dev) →
    refusal_of (Put name cells) (with_bytes name (over first) dev) ≡ refusal_of (Put name cells) dev
