-- The steps along the chain lead to the unit at the place.
use Rattle.std.proofs.Common.{ℕ, ◌<◌, List, length, ap, sym, subst, ◌∙◌, arith}
use Rattle.unit_alloc.specs.Owning.{OneOwner}
use Rattle.unit_alloc.specs.Chains.{stepped}
use Rattle.unit_alloc.proofs.ChainedLemmas.{length-view, steps-view, unit_at-view}
use Rattle.unit_alloc.proofs.RunLemmas.{unit-is_there}
use Rattle.unit_alloc.proofs.owners.Owners.unit_at.Goals as goal

pub walk-requires : goal.walk-requires
walk-requires c =
    let a = c.self.inside in
    let ch = c.index.result.now in
    let n = length-view a.states a.next.items a.chains.items c.args.self.now c.args.part ch c.self.view_is c.requires.part c.index.ensures in
    subst (λ (next : List ℕ). (k : ℕ) → k < c.args.place → stepped next ch.first k < length next) (sym c.deref.ensures.value)
    (λ k lt. steps-view a.states a.next.items a.chains.items c.args.self.now c.args.part ch c.self.view_is c.requires.part c.index.ensures c.self.invariant k (omega (arith, c.requires.place)))

pub returns-clause-unit : goal.returns-clause-unit
returns-clause-unit c =
    let a = c.self.inside in
    let ch = c.index.result.now in
    let n = length-view a.states a.next.items a.chains.items c.args.self.now c.args.part ch c.self.view_is c.requires.part c.index.ensures in
    c.walk.ensures
    ∙ ap (λ (next : List ℕ). stepped next ch.first c.args.place) c.deref.ensures.value
    ∙ unit_at-view a.states a.next.items a.chains.items c.args.self.now c.args.part c.args.place ch c.self.view_is c.requires.part c.index.ensures (omega (arith, c.requires.place))

pub returns-clause-there : goal.returns-clause-there
returns-clause-there c =
    let one : OneOwner c.args.self.now = subst OneOwner c.self.view_is c.self.invariant.one in
    unit-is_there c.args.self.now c.args.part c.args.place c.walk.result one c.requires.part c.requires.place (returns-clause-unit c)
