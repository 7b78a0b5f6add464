use Rattle.std.proofs.Common.{Ok, Err, subst}
use Rattle.wire_told.specs.Told.{IsBarred}
use Rattle.fb_link.specs.Seen.{seen}
use Rattle.host_top.specs.Acts.{IsAnswered}
use Rattle.host_top.proofs.AnsweredLemmas.{answered-unbegun, answered-asked, answered-unasked}
use Rattle.host_top.proofs.asking.question.Goals as goal

pub returns-in-Err-clause-answered : goal.returns-in-Err-clause-answered
returns-in-Err-clause-answered g c =
    let told = g.P.Port.told in
    let text = g.S.Sink.text c.args.out.now in
    let lost = c.in-Err.unbegun.0 in
    let error = c.in-Err.unbegun.1 in
    subst (λ p. IsAnswered c.args.name.now (seen (told p) text) (seen (told lost) text) (Err error)) c.new.ensures
    (answered-unbegun c.args.name.now (told c.new.result) (told lost) text error
    (λ b. c.requires.unbarred (subst (λ p. IsBarred (told p).peer) c.new.ensures b)) c.in-Err.ensures.unbegun)

pub returns-in-Ok-ask-clause-answered : goal.returns-in-Ok-ask-clause-answered
returns-in-Ok-ask-clause-answered g c =
    let told = g.P.Port.told in
    let before = g.S.Sink.text c.args.out.now in
    let now = g.S.Sink.text c.ask.new.shown in
    let answer = c.in-Ok-ask.asked.1 in
    subst (λ p. IsAnswered c.args.name.now (seen (told p) before) (seen (told c.hang_up.result) now) (Ok answer)) c.new.ensures
    (answered-asked c.args.name.now answer (told c.new.result) (told c.in-Ok.ready) (told c.in-Ok-ask.asked.0) (told c.hang_up.result) before now
    c.in-Ok.ensures.begun c.in-Ok-ask.ensures.asked c.hang_up.ensures.drops)

pub returns-in-Err-ask-clause-answered : goal.returns-in-Err-ask-clause-answered
returns-in-Err-ask-clause-answered g c =
    let told = g.P.Port.told in
    let before = g.S.Sink.text c.args.out.now in
    let now = g.S.Sink.text c.ask.new.shown in
    let lost = c.in-Err-ask.unasked.0 in
    let error = c.in-Err-ask.unasked.1 in
    subst (λ p. IsAnswered c.args.name.now (seen (told p) before) (seen (told lost) now) (Err error)) c.new.ensures
    (answered-unasked c.args.name.now (told c.new.result) (told c.in-Ok.ready) (told lost) before now error
    c.in-Ok.ensures.begun c.in-Err-ask.ensures.unasked)
