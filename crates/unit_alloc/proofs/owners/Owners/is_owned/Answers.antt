-- A unit has an owner where a part has it.
use Rattle.std.proofs.Common.{◌≡◌, ◌<◌, length, Bool, true, false, ap, refl, ◌∙◌, not, ltb, arith}
use Rattle.unit_alloc.specs.Owning.{Owning, times}
use Rattle.unit_alloc.proofs.ChainedLemmas.{is_free-chained, unit-view}
use Rattle.unit_alloc.proofs.owners.Owners.is_owned.Goals as goal

not-not : (b : Bool) → not (not b) ≡ b
not-not true = refl
not-not false = refl

pub returns-clause-owned : goal.returns-clause-owned
returns-clause-owned c =
    let a = c.self.inside in
    let m = c.args.self.now in
    let there : c.args.unit < length a.states = omega (arith, unit-view a.states a.next.items a.chains.items m c.self.view_is, c.requires) in
    ap not (c.is_free.ensures ∙ is_free-chained a.states a.next.items a.chains.items c.self.invariant c.args.unit there)
    ∙ not-not _
    ∙ ap (λ (n : Owning). ltb 0 (times c.args.unit n.parts)) c.self.view_is
