use Rattle.std.proofs.Common.{◌≡◌, [], ◌∷◌, Some, refl, subst}
use Rattle.std.specs.Prelude.{option_to_list}
use Rattle.fb_link.specs.Seen.{seen}
use Rattle.flash_plan.specs.Facts.{kind_of}
use Rattle.host_driver.specs.AnswerText.{kind_question}
use Rattle.host_driver.specs.Finding.{kind_questions}
use Rattle.host_driver.specs.Questioning.{IsLearned}
use Rattle.host_driver.proofs.FindLemmas.{name-none, name-some}
use Rattle.host_driver.proofs.QuestionLemmas.{memory-unlearned}
use Rattle.host_driver.proofs.asking_parts.ask_name.Goals as goal

pub returns-in-None-clause-learned : goal.returns-in-None-clause-learned
returns-in-None-clause-learned g c =
    let name = c.args.name.now in
    name-none c.args.listed.now name c.args.parts.now c.is_among.result _ _ c.is_among.ensures
    (subst (λ k. IsLearned 4104 (λ dev. kind_question name ∷ []) (λ dev. k ≡ kind_of dev name) (seen (g.P.Port.told c.args.ready) (g.S.Sink.text c.args.shown.now)) (seen (g.P.Port.told c.in-Ok.answer.0) (g.S.Sink.text c.ask_kind.new.shown))) c.in-None.is c.in-Ok.ensures.learned)

pub returns-in-Ok-push-clause-learned : goal.returns-in-Ok-push-clause-learned
returns-in-Ok-push-clause-learned g c =
    let name = c.args.name.now in
    name-some c.args.listed.now (record { name = name; logical = c.in-Some.logical }) c.args.parts.now c.push.new.self _ _ c.in-Ok-push.ensures.ok
    (subst (λ k. IsLearned 4104 (λ dev. kind_question name ∷ []) (λ dev. k ≡ kind_of dev name) (seen (g.P.Port.told c.args.ready) (g.S.Sink.text c.args.shown.now)) (seen (g.P.Port.told c.in-Ok.answer.0) (g.S.Sink.text c.ask_kind.new.shown))) c.in-Some.is c.in-Ok.ensures.learned)

pub returns-in-Err-push-clause-unlearned : goal.returns-in-Err-push-clause-unlearned
returns-in-Err-push-clause-unlearned g c =
    let name = c.args.name.now in
    memory-unlearned 4104 (λ dev. kind_question name ∷ []) (λ dev. kind_questions (option_to_list (Some name))) (λ dev. c.in-Ok.answer.1 ≡ kind_of dev name) _ _ _ c.in-Ok.ensures.learned c.hang_up.ensures.drops c.hang_up.ensures.sound (λ s k. record { more = []; whole = refl })
