use Rattle.host_driver.proofs.AlongLemmas.{left_after}
use Rattle.host_driver.proofs.CourseLemmas.{leaves_more, leaves_unmet, leaves_before, leaves_unplanned}
use Rattle.host_driver.proofs.attempt_laws.Goals as goal

pub returns : goal.returns
returns c = record {
  left_after = left_after;
  leaves_more = leaves_more;
  leaves_unmet = leaves_unmet;
  leaves_before = leaves_before;
  leaves_unplanned = leaves_unplanned;
}
