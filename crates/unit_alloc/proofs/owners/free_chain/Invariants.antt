use Rattle.std.proofs.Common.{◌≡◌, ◌-◌, length}
use Rattle.unit_alloc.specs.Chains.{linked, AreOwned, freed}
use Rattle.unit_alloc.proofs.owners.free_chain.Given as goal

abbrev pub invariant-loop-taken : goal.invariant-loop-taken
invariant-loop-taken l =
    let left = linked l.next l.unit (l.count - l._taken) in
    (length l.states ≡ length l.next)
    × AreOwned l.states left
    × (freed l.states left ≡ freed l.initial.states (linked l.next l.first l.count))
