use Rattle.host_driver.proofs.TraitLemmas.{super-asked, super-unasked}
use Rattle.host_driver.proofs.questions.ask_super_if.Goals as goal

pub returns-in-Ok-clause-learned : goal.returns-in-Ok-clause-learned
returns-in-Ok-clause-learned g c = super-asked c.args.updates c.in-Ok.name _ _ c.if-updates.true c.in-Ok.ensures.learned

pub returns-in-Err-clause-unlearned : goal.returns-in-Err-clause-unlearned
returns-in-Err-clause-unlearned g c = super-unasked c.args.updates _ _ _ c.if-updates.true c.in-Err.ensures.unlearned
