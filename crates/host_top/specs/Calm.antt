-- An installation in which nothing of the outside fails.
use Rattle.std.specs.Prelude.{◌≡◌, ◌⊎◌, IsTrue, Some, Err}
use Rattle.dev_model.specs.declared.device.Dev.{Dev}
use Rattle.dev_model.specs.Partitions.{is_fastboot}
use Rattle.host_driver.specs.declared.drive.DriveError.TheVariants.{Memory}
use Rattle.host_driver.specs.Driving.{Moved, Caused, Tried, LinkFailed, FolderFailed, OutputFailed}
use Rattle.host_driver.specs.Jobs.{Job, Course}
use Rattle.host_top.specs.Outcomes.{job_outcome}
use Rattle.host_top.specs.Verdicts.{verdict_of}

-- No count rose, and the told device runs fastboot.
pub record IsCalm (j : Job) (m : Moved) (course : Course) (t : Dev) : Type 0 where
  pub caused : Caused j m course.numbers t course.outcome
  pub tried : Tried m course j.device t
  pub no_dir : FolderFailed m → ⊥
  pub no_sink : OutputFailed m → ⊥
  pub no_fault : LinkFailed m → ⊥
  pub serves : IsTrue (is_fastboot j.device.mode)

-- The last line then tells exactly the outcome that files, options and device decide, or memory was wanting.
abbrev pub CalmReports : Type 0
CalmReports = (j : Job) (m : Moved) (course : Course) (t : Dev) → IsCalm j m course t →
    (verdict_of course.outcome ≡ Some (job_outcome j).verdict) ⊎ (course.outcome ≡ Err Memory)
