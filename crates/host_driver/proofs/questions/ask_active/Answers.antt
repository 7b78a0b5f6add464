use Rattle.std.proofs.Common.{codes, IsTrue, arith}
use Rattle.dev_model.specs.Partitions.{has_slots}
use Rattle.host_driver.specs.AnswerText.{active_read}
use Rattle.host_driver.proofs.AnswerLemmas.{active-agrees, active-other}
use Rattle.host_driver.proofs.QuestionLemmas.{read-learned, read-unlearned}
use Rattle.host_driver.proofs.questions.ask_active.Goals as goal

pub returns-in-Some-clause-learned : goal.returns-in-Some-clause-learned
returns-in-Some-clause-learned g c =
    read-learned (codes "current-slot") c.in-Ok.answer.1 active_read (λ dev. dev.active) (λ dev. IsTrue (has_slots dev)) (λ dev v s. active-agrees dev s) _ _ c.requires.sound c.requires.slotted c.in-Ok.ensures.asked c.in-Some.read c.in-Some.ensures

pub returns-in-None-clause-unlearned : goal.returns-in-None-clause-unlearned
returns-in-None-clause-unlearned g c =
    let e = c.unread.ensures in
    read-unlearned (codes "current-slot") c.in-Ok.answer.1 active_read (λ dev. dev.active) (λ dev. IsTrue (has_slots dev)) (λ dev v s. active-agrees dev s) _ _ c.requires.sound c.requires.slotted c.in-Ok.ensures.asked c.in-None.ensures active-other (omega arith) _ _
    e.stop e.drops e.sound
