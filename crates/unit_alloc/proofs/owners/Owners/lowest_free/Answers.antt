-- The lowest unit that has no owner is the lowest that stands in no chain.
use Rattle.std.proofs.Common.{◌<◌, length, ap, sym, subst, ◌∙◌, arith}
use Rattle.unit_alloc.specs.Owning.{Owning, IsLowestFree, times, free_units}
use Rattle.unit_alloc.proofs.ChainedLemmas.{free_count-chained, owned-chained, lowest-chained}
use Rattle.unit_alloc.proofs.owners.Owners.lowest_free.Goals as goal

pub lowest_free-requires-clause-some : goal.lowest_free-requires-clause-some
lowest_free-requires-clause-some c =
    let a = c.self.inside in
    let n = free_count-chained a.states a.next.items a.chains.items c.self.invariant ∙ ap (λ (m : Owning). length (free_units m)) c.self.view_is in
    omega (arith, c.requires.some)

pub lowest_free-requires-clause-below : goal.lowest_free-requires-clause-below
lowest_free-requires-clause-below c = λ unit lt.
    let a = c.self.inside in
    owned-chained a.states a.next.items a.chains.items c.self.invariant unit
    (subst (λ (m : Owning). 0 < times unit m.parts) (sym c.self.view_is) (c.requires.below unit lt))

pub returns : goal.returns
returns c =
    let a = c.self.inside in
    subst (λ (m : Owning). IsLowestFree m c.lowest_free.result) c.self.view_is
    (lowest-chained a.states a.next.items a.chains.items c.self.invariant c.lowest_free.result c.lowest_free.ensures.free c.lowest_free.ensures.lowest)
