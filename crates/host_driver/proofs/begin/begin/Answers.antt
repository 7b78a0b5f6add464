use Rattle.std.proofs.Common.{refl}
use Rattle.host_driver.proofs.BeginLemmas.{begun-opened, unbegun-unopened}
use Rattle.host_driver.proofs.begin.begin.Goals as goal

pub returns-in-Ok-clause-begun : goal.returns-in-Ok-clause-begun
returns-in-Ok-clause-begun g c = begun-opened _ _ c.in-Ok.ensures.opened

pub returns-in-Err-clause-unbegun : goal.returns-in-Err-clause-unbegun
returns-in-Err-clause-unbegun g c =
    unbegun-unopened _ _ _ _ c.stopped.ensures c.know_four.ensures (c.in-Err.ensures.unopened c.in-Err.failed.0 c.in-Err.failed.1 refl)
