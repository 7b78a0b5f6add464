use Rattle.std.proofs.Common.{◌≡◌, [], ◌∷◌, codes, arith}
use Rattle.dev_model.specs.Partitions.{has_slots}
use Rattle.host_driver.proofs.QuestionLemmas.{learned-serving}
use Rattle.host_driver.proofs.TraitLemmas.{slots-known, slot-none, slot-some, slot-broken}
use Rattle.host_driver.proofs.questions.ask_slot.Goals as goal

pub ask_active-requires-clause-serving : goal.ask_active-requires-clause-serving
ask_active-requires-clause-serving g c =
    learned-serving 4104 4104 8208 (λ dev. codes "slot-count" ∷ []) (λ dev. c.in-Ok.answer.1 ≡ has_slots dev) _ _ c.in-Ok.ensures.learned (omega arith) c.requires.serving

pub ask_active-requires-clause-slotted : goal.ask_active-requires-clause-slotted
ask_active-requires-clause-slotted g c = slots-known c.in-Ok.answer.1 _ _ c.if-slotted.true c.in-Ok.ensures.learned

pub returns-in-Ok-ask_active-clause-learned : goal.returns-in-Ok-ask_active-clause-learned
returns-in-Ok-ask_active-clause-learned g c =
    slot-some c.in-Ok.answer.1 c.in-Ok-ask_active.slot _ _ _ c.if-slotted.true c.in-Ok.ensures.learned c.in-Ok-ask_active.ensures.learned

pub returns-in-Err-ask_active-clause-unlearned : goal.returns-in-Err-ask_active-clause-unlearned
returns-in-Err-ask_active-clause-unlearned g c = slot-broken c.in-Ok.answer.1 _ _ _ _ c.if-slotted.true c.in-Ok.ensures.learned c.in-Err-ask_active.ensures.unlearned

pub returns-else-slotted-clause-learned : goal.returns-else-slotted-clause-learned
returns-else-slotted-clause-learned g c = slot-none c.in-Ok.answer.1 _ _ c.if-slotted.false c.in-Ok.ensures.learned
