-- A part has as many units as its chain.
use Rattle.std.proofs.Common.{arith, sym}
use Rattle.unit_alloc.proofs.ChainedLemmas.{length-view, unit-view}
use Rattle.unit_alloc.proofs.owners.Owners.count.Goals as goal

pub returns-clause-count : goal.returns-clause-count
returns-clause-count c =
    let a = c.self.inside in
    sym (length-view a.states a.next.items a.chains.items c.args.self.now c.args.part c.index.result.now c.self.view_is c.requires c.index.ensures)

pub returns-clause-small : goal.returns-clause-small
returns-clause-small c =
    let a = c.self.inside in
    let u = unit-view a.states a.next.items a.chains.items c.args.self.now c.self.view_is in
    let small = c.self.invariant.small in
    omega (arith, u, small)
