use Rattle.host_driver.proofs.BeginLemmas.{begun-again, unbegun-again}
use Rattle.host_driver.proofs.OrderLemmas.{ok-more, err-more}
use Rattle.host_driver.proofs.begin.renew.Goals as goal

pub returns-clause-begun : goal.returns-clause-begun
returns-clause-begun g c = ok-more _ _ (λ r k. begun-again _ _ _ c.hang_up.ensures.drops k) c.begin.result c.begin.ensures.begun

pub returns-clause-unbegun : goal.returns-clause-unbegun
returns-clause-unbegun g c = err-more _ _ (λ e k. unbegun-again _ _ _ _ c.hang_up.ensures.drops k) c.begin.result c.begin.ensures.unbegun
