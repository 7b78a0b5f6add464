use Rattle.std.proofs.Common.{◌≡◌, ◌∙◌, ◌+◌, ◌*◌, ◌<◌, suc, length, refl, sym, subst, arith}
use Rattle.std.specs.Prelude.{IfSome}
use Rattle.fb_link.specs.Seen.{seen}
use Rattle.host_driver.specs.Deciding.{line_question, IsJudged, IsOfLine}
use Rattle.host_driver.specs.Questioning.{IsLearned}
use Rattle.host_driver.proofs.QuestionLemmas.{learned-serving, drop-at, drop-end, get-at}
use Rattle.host_driver.proofs.RequireLemmas.{LinesLeft, lines-begun, lines-next, lines-unmet, lines-broken, lines-done, listed-at}
use Rattle.host_driver.proofs.requirements.check_lines.Goals as goal

pub loop-line-init : goal.loop-line-init
loop-line-init g c = record {
  left = lines-begun c.args.lines.now c.args.product.now _ c.requires.product;
  same = refl;
  shown_later = omega arith;
}

pub check_line-requires-clause-serving : goal.check_line-requires-clause-serving
check_line-requires-clause-serving g c =
    let i = c.loop-line.line-index in
    let within : i < length c.args.lines.now = c.loop-line-test.true in
    learned-serving 4104 (4104 * i) (4104 * length c.args.lines.now) _ _ _ _ c.loop-line.invariant.left.learned (omega (arith, within)) c.requires.serving

pub returns-in-Err-clause-unlearned : goal.returns-in-Err-clause-unlearned
returns-in-Err-clause-unlearned g c =
    let i = c.loop-line.line-index in
    let line = c.line-item.result in
    lines-broken c.args.lines.now c.args.product.now i line _ _ _ c.loop-line.invariant.left (drop-at c.args.lines.now i line c.loop-line-test.true (sym c.line-item.is)) c.in-Err.stop.1 c.in-Err.ensures.unlearned

pub returns-in-Some-clause-learned : goal.returns-in-Some-clause-learned
returns-in-Some-clause-learned g c =
    let i = c.loop-line.line-index in
    let line = c.line-item.result in
    let within : i < length c.args.lines.now = c.loop-line-test.true in
    let judged = subst (λ u. IsLearned 4104 (line_question line) (IsJudged line u) (seen (g.P.Port.told c.loop-line.ready) (g.S.Sink.text c.loop-line.shown)) (seen (g.P.Port.told c.in-Ok.answer.0) (g.S.Sink.text c.check_line.new.shown))) c.in-Some.is c.in-Ok.ensures.learned in
    lines-unmet c.args.lines.now c.args.product.now i line _ _ _ c.loop-line.invariant.left (drop-at c.args.lines.now i line c.loop-line-test.true (sym c.line-item.is)) c.in-Some.unmet within judged

pub returns-in-Some-clause-listed : goal.returns-in-Some-clause-listed
returns-in-Some-clause-listed g c =
    let line = c.line-item.result in
    listed-at c.args.lines.now c.loop-line.line-index line c.in-Some.unmet (get-at c.args.lines.now c.loop-line.line-index line c.loop-line-test.true (sym c.line-item.is)) (subst (λ u. IfSome u (IsOfLine line)) c.in-Some.is c.in-Ok.ensures.listed)

pub loop-line-preserved : goal.loop-line-preserved
loop-line-preserved g c =
    let i = c.loop-line.line-index in
    let line = c.line-item.result in
    let l = c.loop-line.invariant in
    let e = c.in-Ok.ensures in
    let judged = subst (λ u. IsLearned 4104 (line_question line) (IsJudged line u) (seen (g.P.Port.told c.loop-line.ready) (g.S.Sink.text c.loop-line.shown)) (seen (g.P.Port.told c.in-Ok.answer.0) (g.S.Sink.text c.check_line.new.shown))) c.in-None.is e.learned in
    let next : suc i ≡ i + 1 = omega arith in
    record {
      left = subst (λ k. LinesLeft c.args.lines.now c.args.product.now k (seen (g.P.Port.told c.args.ready) (g.S.Sink.text c.args.shown.now)) (seen (g.P.Port.told c.in-Ok.answer.0) (g.S.Sink.text c.check_line.new.shown))) next
          (lines-next c.args.lines.now c.args.product.now i line _ _ _ l.left (drop-at c.args.lines.now i line c.loop-line-test.true (sym c.line-item.is)) judged);
      same = e.same ∙ l.same;
      shown_later = (let a = l.shown_later in let b = e.shown_later in omega (arith, a, b));
    }

pub returns-clause-learned : goal.returns-clause-learned
returns-clause-learned g c =
    let i = c.loop-line.line-index in
    let beyond = c.loop-line-test.false in
    let within = c.loop-line.auto.line-index-end in
    lines-done c.args.lines.now c.args.product.now i _ _ c.loop-line.invariant.left (drop-end c.args.lines.now i (omega (arith, beyond))) (omega (arith, within))
