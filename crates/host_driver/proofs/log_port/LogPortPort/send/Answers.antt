use Rattle.host_driver.proofs.LogLemmas.{Sends-kept}
use Rattle.host_driver.proofs.log_port.LogPortPort.send.Goals as goal

pub returns-clause-sends : goal.returns-clause-sends
returns-clause-sends g c =
    Sends-kept g.P.Port.told _ _ _ _ _ _ _ c.self.view_is c.in-Ok.ensures.within c.in-Ok.ensures.sends c.write_after.ensures.front
