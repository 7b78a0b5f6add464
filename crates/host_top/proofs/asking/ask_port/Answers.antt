use Rattle.std.proofs.Common.{◌≡◌, rules, sym, ap, ◌∙◌, subst}
use Rattle.fb_link.specs.Seen.{seen}
use Rattle.host_driver.specs.Jobs.{outside}
use Rattle.host_top.specs.Acts.{HasAsked}
use Rattle.host_top.proofs.ActLemmas.{asked-so}
use Rattle.host_top.proofs.asking.ask_port.Goals as goal

pub returns-clause-asked : goal.returns-clause-asked
returns-clause-asked g c f =
    let told = g.P.Port.told in
    let text = g.S.Sink.text in
    let faults = g.S.Sink.faults in
    let r = c.question-link.result in
    let back : c.into_port-port.result.now ≡ c.port-1.given.0 = search rules in
    let is : r.0.now ≡ c.port-1.given.0 = ap (λ p. p.now) (sym c.into_port-port.ensures) ∙ back in
    let q = c.question-link.ensures in
    let e = c.end_any.ensures in
    let mid = c.question-link.new.out in
    let last = c.end_any.new.out in
    subst (λ p. HasAsked c.args.name.now (outside (told c.args.port.now) f (text c.args.out.now) (faults c.args.out.now)) (outside (told p) f (text last) (faults last)) c.end_any.result) is
    (asked-so c.args.name.now (told c.args.port.now) (told r.0.now) f (text c.args.out.now) (text mid) (text last) (faults c.args.out.now) (faults mid) (faults last) r.1 c.answer_verdict.result c.end_any.result
    q.answered c.answer_verdict.ensures q.output q.later e.shows e.unput e.later)
