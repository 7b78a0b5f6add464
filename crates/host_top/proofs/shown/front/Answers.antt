use Rattle.std.proofs.Common.{sym, arith}
use Rattle.std.proofs.lemmas.List.{take_all, length-take-le}
use Rattle.host_top.proofs.shown.front.Goals as goal

pub slice_bounds-result-end : goal.slice_bounds-result-end
slice_bounds-result-end c = sym (length-take-le 32 c.args.kept.now (omega (arith, c.if-kept-gt-MOST_KEPT.true)))

pub returns-then-kept-gt-MOST_KEPT-clause-short : goal.returns-then-kept-gt-MOST_KEPT-clause-short
returns-then-kept-gt-MOST_KEPT-clause-short c =
    let n = length-take-le 32 c.args.kept.now (omega (arith, c.if-kept-gt-MOST_KEPT.true)) in
    omega (arith, n)

pub returns-else-kept-gt-MOST_KEPT-clause-front : goal.returns-else-kept-gt-MOST_KEPT-clause-front
returns-else-kept-gt-MOST_KEPT-clause-front c = sym (take_all 32 c.args.kept.now (omega (arith, c.if-kept-gt-MOST_KEPT.false)))
