-- Laws of refusals, which `refusal_laws` of this crate names.
use Rattle.std.specs.Prelude.{◌≡◌, ℕ, Bool, List, take, length, Some, None, is_none, is_some, IsTrue, IsFalse, slice_get}
use Rattle.fb_frame.specs.declared.tables.Tables.{Tables}
use Rattle.dev_model.specs.declared.cells.Cell.{Cell}
use Rattle.dev_model.specs.declared.device.Dev.{Dev}
use Rattle.dev_model.specs.declared.step.Step.{Step}
use Rattle.dev_model.specs.declared.step.Step.TheVariants.{Put, Table}
use Rattle.dev_model.specs.Partitions.{is_fastboot}
use Rattle.dev_model.specs.Refusals.{refusal_of, update_refusal}
use Rattle.dev_model.specs.Steps.{can, run, first_refusal, leaves_last}

-- whether an image is refused depends on its length alone
abbrev pub PutRefusedByLength : Type 0
PutRefusedByLength = (name : List ℕ) (a b : List Cell) (dev : Dev) → length a ≡ length b →
    refusal_of (Put name a) dev ≡ refusal_of (Put name b) dev

-- an update of super by its own name is refused as the step is that brings its tables
abbrev pub UpdateRefusedAsTable : Type 0
UpdateRefusedAsTable = (dev : Dev) (name file : List ℕ) (tables : Tables) (wipe : Bool) → dev.super_name ≡ Some name →
    update_refusal dev (Some file) (Some tables) name wipe ≡ refusal_of (Table tables wipe) dev

-- steps that can be run meet no refusal
abbrev pub RunUnrefused : Type 0
RunUnrefused = (plan : List Step) (dev t : Dev) → run plan dev ≡ Some t → first_refusal plan dev ≡ None

-- and where none but the last leaves fastboot, steps that can't be run meet one
abbrev pub RefusedUnlessRun : Type 0
RefusedUnlessRun = (plan : List Step) (dev : Dev) → IsTrue (is_fastboot dev.mode) → IsTrue (leaves_last plan) →
    is_none (run plan dev) ≡ is_some (first_refusal plan dev)

-- a step that is refused after those before it were taken has the first refusal
abbrev pub RefusedAfter : Type 0
RefusedAfter = (plan : List Step) (s t : Dev) (a : ℕ) (step : Step) (text : List ℕ) → run (take a plan) s ≡ Some t →
    slice_get plan a ≡ Some step → refusal_of step t ≡ Some text → first_refusal plan s ≡ Some text

-- steps of which one can't be taken after those before it can't be run
abbrev pub RunStops : Type 0
RunStops = (plan : List Step) (s t : Dev) (a : ℕ) (step : Step) → run (take a plan) s ≡ Some t →
    slice_get plan a ≡ Some step → IsFalse (can step t) → run plan s ≡ None
