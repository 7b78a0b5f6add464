use Rattle.std.proofs.Common.{◌≡◌, [], ◌∷◌, codes, arith}
use Rattle.flash_plan.specs.Facts.{current_of}
use Rattle.host_driver.specs.Questioning.{slot_questions}
use Rattle.host_driver.proofs.QuestionLemmas.{learned-serving}
use Rattle.host_driver.proofs.TraitLemmas.{traits-all, traits-unslotted, traits-unsized, traits-unnamed}
use Rattle.host_driver.proofs.questions.ask_traits.Goals as goal

pub returns-in-Err-clause-unlearned : goal.returns-in-Err-clause-unlearned
returns-in-Err-clause-unlearned g c = traits-unslotted c.args.updates _ _ _ c.in-Err.ensures.unlearned

pub ask_max-requires-clause-serving : goal.ask_max-requires-clause-serving
ask_max-requires-clause-serving g c = learned-serving 4104 8208 16416 slot_questions (λ dev. c.in-Ok.answer.1 ≡ current_of dev) _ _ c.in-Ok.ensures.learned (omega arith) c.requires.serving

pub returns-in-Err-ask_max-clause-unlearned : goal.returns-in-Err-ask_max-clause-unlearned
returns-in-Err-ask_max-clause-unlearned g c = traits-unsized c.args.updates c.in-Ok.answer.1 _ _ _ _ c.in-Ok.ensures.learned c.in-Err-ask_max.ensures.unlearned

pub ask_super_if-requires-clause-serving : goal.ask_super_if-requires-clause-serving
ask_super_if-requires-clause-serving g c =
    let first = learned-serving 8208 8208 16416 slot_questions (λ dev. c.in-Ok.answer.1 ≡ current_of dev) _ _ c.in-Ok.ensures.learned (omega arith) c.requires.serving in
    learned-serving 4104 4104 8208 (λ dev. codes "max-download-size" ∷ []) (λ dev. c.in-Ok-ask_max.answer.1 ≡ dev.max) _ _ c.in-Ok-ask_max.ensures.learned (omega arith) first

pub returns-in-Err-ask_super_if-clause-unlearned : goal.returns-in-Err-ask_super_if-clause-unlearned
returns-in-Err-ask_super_if-clause-unlearned g c =
    traits-unnamed c.args.updates c.in-Ok.answer.1 c.in-Ok-ask_max.answer.1 _ _ _ _ _ c.in-Ok.ensures.learned c.in-Ok-ask_max.ensures.learned c.in-Err-ask_super_if.ensures.unlearned

pub returns-clause-learned : goal.returns-clause-learned
returns-clause-learned g c = traits-all c.args.updates _ _ _ _ _ c.in-Ok.ensures.learned c.in-Ok-ask_max.ensures.learned c.in-Ok-ask_super_if.ensures.learned
