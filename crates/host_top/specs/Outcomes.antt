-- What a call of fbflash comes to in which nothing of the outside fails: by the words, the folder, and what
-- the target stands for.
use Rattle.std.specs.Prelude.{ℕ, suc, List, [], ◌∷◌, ◌++◌, length, take, Option, Some, None, Result, Ok, Err}
use Rattle.std.specs.Prelude.{if◌then◌else◌, codes, is_none}
use Rattle.dev_model.specs.declared.device.Dev.{Dev}
use Rattle.dev_model.specs.declared.step.Step.{Step}
use Rattle.dev_model.specs.Refusals.{refusal_of}
use Rattle.dev_model.specs.Steps.{apply, first_refusal}
use Rattle.dev_model.specs.Variables.{asked}
use Rattle.product_info.specs.declared.requirement.Requirement.{Requirement}
use Rattle.wire_told.specs.Places.{Stand, Stands, Device, Bad, Nothing}
use Rattle.flash_plan.specs.declared.options.Options.{Options}
use Rattle.flash_plan.specs.declared.product.Product.{Product}
use Rattle.flash_plan.specs.Files.{Files}
use Rattle.flash_plan.specs.Moves.{PlanFault}
use Rattle.flash_plan.specs.Products.{Fault, product_of}
use Rattle.flash_plan.specs.Requiring.{first_unmet, variable_of}
use Rattle.host_driver.specs.Asking.{lines_to}
use Rattle.host_driver.specs.Driven.{planned}
use Rattle.host_driver.specs.Jobs.{Job, job, order}
use Rattle.host_driver.specs.Printing.{lines_of, joined}
use Rattle.host_words.specs.Requests.{Request, FlashAll, GetVar, Sample}
use Rattle.host_top.specs.Subjects.{is_elsewhere}
use Rattle.host_top.specs.Verdicts.{Verdict, Usage, NoFolder, Flawed, NoLink, NoDevice, Unmet, NoPlan}
use Rattle.host_top.specs.Verdicts.{Refusing, Done}
use Rattle.host_top.specs.Verdicts.{Told, status_of, last_line}

-- What it comes to: the lines that are printed before the last one, and what that tells.
pub record Outcome : Type 0 where
  pub lines : List (List ℕ)
  pub verdict : Verdict

abbrev pub ending : List (List ℕ) → Verdict → Outcome
ending lines verdict = record { lines = lines; verdict = verdict }

-- all lines that report it
abbrev pub report : Outcome → List ℕ
report outcome = joined outcome.lines ++ last_line outcome.verdict

-- the status that reports it
abbrev pub status_of_outcome : Outcome → ℕ
status_of_outcome outcome = status_of outcome.verdict

-- how many steps a device takes before it refuses one
abbrev pub taken_before : List Step → Dev → ℕ
taken_before [] dev = 0
taken_before (step ∷ steps) dev =
    if is_none (refusal_of step dev) then suc (taken_before steps (apply step dev)) else 0

-- the steps were taken, or one was refused
abbrev pub taken_outcome : List (List ℕ) → List (List ℕ) → List Step → Dev → Option (List ℕ) → Outcome
taken_outcome asks lines plan dev None = ending (asks ++ lines) (Done (length plan))
taken_outcome asks lines plan dev (Some text) =
    ending (asks ++ take (taken_before plan dev) lines) (Refusing text)

-- a plan was made, or none
abbrev pub plan_outcome : List (List ℕ) → List (List ℕ) → Dev → Result (List Step) PlanFault → Outcome
plan_outcome asks lines dev (Err fault) = ending asks (NoPlan fault.0 fault.1)
plan_outcome asks lines dev (Ok plan) = taken_outcome asks lines plan dev (first_refusal plan dev)

-- a requirement isn't met, or all are
abbrev pub met_outcome : List (List ℕ) → Dev → Option Requirement → Outcome → Outcome
met_outcome asks dev None rest = rest
met_outcome asks dev (Some line) rest =
    ending asks (Unmet line.line line.name (asked dev (variable_of line)))

-- a product on a device
abbrev pub job_outcome : Job → Outcome
job_outcome j =
    met_outcome (lines_of j).asks j.device
    (if j.options.force then None else first_unmet j.product.requirements j.device)
    (plan_outcome (lines_of j).asks (lines_of j).steps j.device (planned j))

abbrev pub device_outcome : Files → Product → Options → Dev → Outcome
device_outcome files product options dev = job_outcome (job (order product options) files dev)

-- on what a target stands for
abbrev pub stand_outcome : (Dev → Outcome) → Stand → Outcome
stand_outcome on (Device dev) = on dev
stand_outcome on (Bad kind) = ending [] (NoDevice kind)
stand_outcome on Nothing = ending [] NoLink

-- of which it may not be told what it stands for
abbrev pub target_outcome : (Dev → Outcome) → Option Stand → Option Outcome
target_outcome on None = None
target_outcome on (Some stand) = Some (stand_outcome on stand)

-- a product was read, or a flaw was found
abbrev pub found_outcome : Files → Options → Result Product Fault → Option Stand → Option Outcome
found_outcome files options (Err fault) stand = Some (ending [] (Flawed fault.0 fault.1))
found_outcome files options (Ok product) stand = target_outcome (device_outcome files product options) stand

-- the files may not be told
abbrev pub files_outcome : Options → Option Files → Option Stand → Option Outcome
files_outcome options None stand = None
files_outcome options (Some files) stand = found_outcome files options (product_of files options.wipe) stand

-- a question to a device
abbrev pub answer_outcome : List (List ℕ) → Option (List ℕ) → Outcome
answer_outcome lines (Some text) = ending lines (Told text)
answer_outcome lines None = ending [] (Refusing (codes "unknown variable"))

abbrev pub variable_outcome : List ℕ → Dev → Outcome
variable_outcome name dev = answer_outcome (lines_to dev name) (asked dev name)

-- what a call comes to, None where too little is told to decide it
abbrev pub outcome_of : Option Request → Option (List ℕ) → Option Files → Stands → Option Outcome
outcome_of None path files stands = Some (ending [] Usage)
outcome_of (Some (FlashAll place dir options)) path files stands =
    if is_elsewhere dir path then Some (ending [] (NoFolder dir))
    else files_outcome options files (stands place)
outcome_of (Some (GetVar place name)) path files stands =
    target_outcome (variable_outcome name) (stands place)
outcome_of (Some (Sample n)) path files stands = Some (ending [] Usage)
