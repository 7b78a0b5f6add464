use Rattle.std.proofs.Common.{codes, arith}
use Rattle.host_driver.specs.AnswerText.{max_read}
use Rattle.host_driver.proofs.AnswerLemmas.{most-agrees, most-other}
use Rattle.host_driver.proofs.QuestionLemmas.{device-any, read-learned, read-unlearned}
use Rattle.host_driver.proofs.questions.ask_max.Goals as goal

pub returns-in-Some-clause-learned : goal.returns-in-Some-clause-learned
returns-in-Some-clause-learned g c =
    read-learned (codes "max-download-size") c.in-Ok.answer.1 max_read (λ dev. dev.max) (λ dev. Unit {0}) (λ dev v u. most-agrees dev v) _ _ c.requires.sound (device-any _) c.in-Ok.ensures.asked c.in-Some.read c.in-Some.ensures.size

pub returns-in-None-clause-unlearned : goal.returns-in-None-clause-unlearned
returns-in-None-clause-unlearned g c =
    let e = c.unread.ensures in
    read-unlearned (codes "max-download-size") c.in-Ok.answer.1 max_read (λ dev. dev.max) (λ dev. Unit {0}) (λ dev v u. most-agrees dev v) _ _ c.requires.sound (device-any _) c.in-Ok.ensures.asked c.in-None.ensures.size most-other (omega arith) _ _ e.stop e.drops e.sound
