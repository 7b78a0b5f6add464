use Rattle.host_driver.proofs.DriveImages.{images_are}
use Rattle.host_driver.proofs.DrivePlans.{plan-of, plan-for}
use Rattle.host_driver.proofs.plan_laws.Goals as goal

pub returns : goal.returns
returns c = record { images_kept = images_are; plan_owns = plan-of; plan_suits = plan-for }
