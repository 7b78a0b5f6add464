-- An installation in which nothing of the outside fails succeeds or is refused exactly: it follows from the
-- causes.
use Rattle.std.specs.Prelude.{◌≡◌, List, Some, None, Result, Ok, Err, IsTrue}
use Rattle.dev_model.specs.declared.device.Dev.{Dev}
use Rattle.dev_model.specs.declared.step.Step.{Step}
use Rattle.dev_model.specs.Partitions.{is_fastboot}
use Rattle.dev_model.specs.Steps.{run, first_refusal}
use Rattle.host_driver.specs.declared.drive.Done.{Done}
use Rattle.host_driver.specs.declared.drive.DriveError.{DriveError}
use Rattle.host_driver.specs.declared.drive.DriveError.TheVariants.{Memory, Refused}
use Rattle.host_driver.specs.Driven.{made}
use Rattle.host_driver.specs.Driving.{Caused, Moved, Tried, LinkFailed, FolderFailed, OutputFailed}
use Rattle.host_driver.specs.Jobs.{Job, Course}

-- An installation in which no count rose, over a device that runs fastboot, meets the requirements and has a
-- plan.
pub record Undisturbed (j : Job) (m : Moved) (course : Course) (t : Dev) (plan : List Step) : Type 0 where
  pub caused : Caused j m course.numbers t course.outcome
  pub tried : Tried m course j.device t
  pub no_dir : FolderFailed m → ⊥
  pub no_sink : OutputFailed m → ⊥
  pub no_fault : LinkFailed m → ⊥
  pub serves : IsTrue (is_fastboot j.device.mode)
  pub planned : made j ≡ Some plan

-- the installation was done, or there was no memory
abbrev pub IsDoneBy : List Step → Dev → Dev → Result Done DriveError → Type 0
IsDoneBy plan s t (Ok done) = run plan s ≡ Some t
IsDoneBy plan s t (Err Memory) = Unit {0}
IsDoneBy plan s t (Err _) = ⊥

-- Where the device can take every step, all is done.
abbrev pub Completes : Type 0
Completes = (j : Job) (m : Moved) (course : Course) (t r : Dev) (plan : List Step) →
    Undisturbed j m course t plan → run plan j.device ≡ Some r → IsDoneBy plan j.device t course.outcome

-- the device refused the first step that it can't take, with its text, or there was no memory
abbrev pub IsRefusedBy : List Step → Dev → Result Done DriveError → Type 0
IsRefusedBy plan s (Ok done) = ⊥
IsRefusedBy plan s (Err Memory) = Unit {0}
IsRefusedBy plan s (Err (Refused text)) = first_refusal plan s ≡ Some text
IsRefusedBy plan s (Err _) = ⊥

-- Where it can't take every step, it refuses the first that it can't take.
abbrev pub RefusesExactly : Type 0
RefusesExactly = (j : Job) (m : Moved) (course : Course) (t : Dev) (plan : List Step) →
    Undisturbed j m course t plan → run plan j.device ≡ None → IsRefusedBy plan j.device course.outcome
