-- One more step leads to the first unit that is cut off.
use Rattle.std.proofs.Common.{ap, sym, ◌-◌, ◌∙◌, arith, get_or}
use Rattle.unit_alloc.specs.Chains.{stepped}
use Rattle.unit_alloc.proofs.LinkedLemmas.{stepped_more}
use Rattle.unit_alloc.proofs.owners.cut.Goals as goal

pub returns-clause-from : goal.returns-clause-from
returns-clause-from c =
    let next = c.args.next.now in
    ap (λ k. get_or next k 0) c.walk-last.ensures
    ∙ sym (stepped_more next c.args.chain.first (c.args.keep - 1))
    ∙ ap (λ k. stepped next c.args.chain.first k) (omega arith)
