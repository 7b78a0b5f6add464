use Rattle.std.proofs.Common.{codes, arith}
use Rattle.dev_model.specs.Partitions.{has_slots}
use Rattle.host_driver.specs.AnswerText.{slots_read}
use Rattle.host_driver.proofs.AnswerLemmas.{slots-agree, slots-other}
use Rattle.host_driver.proofs.QuestionLemmas.{device-any, read-learned, read-unlearned}
use Rattle.host_driver.proofs.questions.ask_slots.Goals as goal

pub returns-in-Some-clause-learned : goal.returns-in-Some-clause-learned
returns-in-Some-clause-learned g c =
    read-learned (codes "slot-count") c.in-Ok.answer.1 slots_read has_slots (λ dev. Unit {0}) (λ dev v u. slots-agree dev v) _ _ c.requires.sound (device-any _) c.in-Ok.ensures.asked c.in-Some.read c.in-Some.ensures

pub returns-in-None-clause-unlearned : goal.returns-in-None-clause-unlearned
returns-in-None-clause-unlearned g c =
    let e = c.unread.ensures in
    read-unlearned (codes "slot-count") c.in-Ok.answer.1 slots_read has_slots (λ dev. Unit {0}) (λ dev v u. slots-agree dev v) _ _ c.requires.sound (device-any _) c.in-Ok.ensures.asked c.in-None.ensures slots-other (omega arith) _ _ e.stop e.drops e.sound
