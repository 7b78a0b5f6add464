use Rattle.std.proofs.Common.{codes, arith}
use Rattle.host_driver.specs.AnswerText.{super_read}
use Rattle.host_driver.proofs.AnswerLemmas.{super-agrees, super-other}
use Rattle.host_driver.proofs.QuestionLemmas.{device-any, read-learned, read-unlearned}
use Rattle.host_driver.proofs.questions.ask_super.Goals as goal

pub returns-in-Some-clause-learned : goal.returns-in-Some-clause-learned
returns-in-Some-clause-learned g c =
    read-learned (codes "super-partition-name") c.in-Ok.answer.1 super_read (λ dev. dev.super_name) (λ dev. Unit {0}) (λ dev v u. super-agrees dev v) _ _ c.requires.sound (device-any _) c.in-Ok.ensures.asked c.in-Some.read c.in-Some.ensures

pub returns-in-None-clause-unlearned : goal.returns-in-None-clause-unlearned
returns-in-None-clause-unlearned g c =
    let e = c.unread.ensures in
    read-unlearned (codes "super-partition-name") c.in-Ok.answer.1 super_read (λ dev. dev.super_name) (λ dev. Unit {0}) (λ dev v u. super-agrees dev v) _ _ c.requires.sound (device-any _) c.in-Ok.ensures.asked c.in-None.ensures super-other (omega arith) _ _
    e.stop e.drops e.sound
