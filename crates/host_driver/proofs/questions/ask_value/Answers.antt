use Rattle.host_driver.proofs.QuestionLemmas.{learned-value, unlearned-one}
use Rattle.host_driver.proofs.questions.ask_value.Goals as goal

pub returns-in-Ok-clause-learned : goal.returns-in-Ok-clause-learned
returns-in-Ok-clause-learned g c = learned-value c.args.name.now c.in-Ok.told c.ok.result _ _ c.ok.ensures.value c.in-Ok.ensures.asked

pub returns-in-Err-clause-unlearned : goal.returns-in-Err-clause-unlearned
returns-in-Err-clause-unlearned g c = unlearned-one c.args.name.now _ _ _ c.in-Err.ensures.unasked
