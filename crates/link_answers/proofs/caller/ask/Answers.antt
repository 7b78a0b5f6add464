use Rattle.link_answers.proofs.CallerLemmas.{FreeFor-asked}
use Rattle.link_answers.proofs.caller.ask.Goals as goal

pub returns-in-Okay-clause-free : goal.returns-in-Okay-clause-free
returns-in-Okay-clause-free g c = λ spare free. FreeFor-asked c.args.name.now _ _ _ spare free c.in-Okay.ensures.concluded
