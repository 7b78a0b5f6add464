use Rattle.std.proofs.Common.{◌≡◌, ◌∙◌, ◌≤◌, [], ◌∷◌, length, subst, arith}
use Rattle.fb_link.specs.Seen.{seen}
use Rattle.flash_plan.specs.Facts.{kind_of}
use Rattle.host_driver.specs.AnswerText.{kind_read, kind_question}
use Rattle.host_driver.specs.Asking.{IsAsked}
use Rattle.host_driver.specs.Questioning.{IsUnlearned}
use Rattle.host_driver.proofs.AnswerLemmas.{kinds-agree, kind-other}
use Rattle.host_driver.proofs.QuestionLemmas.{device-any, read-learned, read-unlearned, unlearned-one}
use Rattle.host_driver.proofs.questions.ask_kind.Goals as goal

pub returns-in-Some-clause-learned : goal.returns-in-Some-clause-learned
returns-in-Some-clause-learned g c =
    let name = c.args.name.now in
    let same : c.bytes.result.now ≡ kind_question name = c.bytes.ensures.bytes ∙ c.kind_line-question.ensures in
    let asked = subst (λ n. IsAsked n c.in-Ok.answer.1 (seen (g.P.Port.told c.args.ready) (g.S.Sink.text c.args.shown.now)) (seen (g.P.Port.told c.in-Ok.answer.0) (g.S.Sink.text c.ask.new.shown))) same c.in-Ok.ensures.asked in
    read-learned (kind_question name) c.in-Ok.answer.1 kind_read (λ dev. kind_of dev name) (λ dev. Unit {0}) (λ dev v u. kinds-agree name dev v) _ _ c.requires.sound (device-any _) asked c.in-Some.read c.in-Some.ensures

pub returns-in-None-clause-unlearned : goal.returns-in-None-clause-unlearned
returns-in-None-clause-unlearned g c =
    let name = c.args.name.now in
    let same : c.bytes.result.now ≡ kind_question name = c.bytes.ensures.bytes ∙ c.kind_line-question.ensures in
    let asked = subst (λ n. IsAsked n c.in-Ok.answer.1 (seen (g.P.Port.told c.args.ready) (g.S.Sink.text c.args.shown.now)) (seen (g.P.Port.told c.in-Ok.answer.0) (g.S.Sink.text c.ask.new.shown))) same c.in-Ok.ensures.asked in
    let short : length (kind_question name) ≤ 252 = subst (λ n. length n ≤ 252) c.kind_line-question.ensures c.bytes.ensures.short in
    let e = c.unread.ensures in
    read-unlearned (kind_question name) c.in-Ok.answer.1 kind_read (λ dev. kind_of dev name) (λ dev. Unit {0}) (λ dev v u. kinds-agree name dev v) _ _ c.requires.sound (device-any _) asked c.in-None.ensures (kind-other name) (omega (arith, short)) _ _ e.stop e.drops e.sound

pub returns-in-Err-clause-unlearned : goal.returns-in-Err-clause-unlearned
returns-in-Err-clause-unlearned g c =
    let same : c.bytes.result.now ≡ kind_question c.args.name.now = c.bytes.ensures.bytes ∙ c.kind_line-question.ensures in
    subst (λ n. IsUnlearned (λ dev. n ∷ []) (seen (g.P.Port.told c.args.ready) (g.S.Sink.text c.args.shown.now)) (seen (g.P.Port.told c.in-Err.stop.0) (g.S.Sink.text c.ask.new.shown)) c.in-Err.stop.1) same (unlearned-one _ _ _ _ c.in-Err.ensures.unasked)
