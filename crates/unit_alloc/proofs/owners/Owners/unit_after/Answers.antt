-- The unit before leads to the unit at the place.
use Rattle.std.proofs.Common.{◌∙◌, arith}
use Rattle.std.proofs.lemmas.List.{get_or_read}
use Rattle.unit_alloc.proofs.ChainedLemmas.{next-view}
use Rattle.unit_alloc.proofs.owners.Owners.unit_after.Goals as goal

pub index-requires : goal.index-requires
index-requires c =
    let a = c.self.inside in
    let r = c.requires in
    let v = next-view a.states a.next.items a.chains.items c.args.self.now c.args.part c.args.place c.args.last c.self.view_is c.self.invariant r.part r.place r.later r.last in
    omega (arith, a.next.ok.0, v.0)

pub returns-clause-unit : goal.returns-clause-unit
returns-clause-unit c =
    let a = c.self.inside in
    let r = c.requires in
    let v = next-view a.states a.next.items a.chains.items c.args.self.now c.args.part c.args.place c.args.last c.self.view_is c.self.invariant r.part r.place r.later r.last in
    get_or_read a.next.items c.args.last c.index.result.now v.0 c.index.ensures 0 ∙ v.1
