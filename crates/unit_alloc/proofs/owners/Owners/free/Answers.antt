-- The units that have no owner are those that stand in no chain.
use Rattle.std.proofs.Common.{ap, ◌∙◌, length}
use Rattle.unit_alloc.specs.Owning.{Owning, free_units}
use Rattle.unit_alloc.proofs.ChainedLemmas.{free_count-chained}
use Rattle.unit_alloc.proofs.owners.Owners.free.Goals as goal

pub returns-clause-free : goal.returns-clause-free
returns-clause-free c =
    let a = c.self.inside in
    c.free.ensures ∙ free_count-chained a.states a.next.items a.chains.items c.self.invariant ∙ ap (λ (m : Owning). length (free_units m)) c.self.view_is
