-- The unit is free again. It was none of the free units, so there is room for it in the count.
use Rattle.std.proofs.Common.{List, Option, None, IsSome, ℕ, get_or, sym, subst, arith}
use Rattle.unit_alloc.proofs.MarksLemmas.{AreMarked-take_back, free_count-room}
use Rattle.unit_alloc.proofs.states.States.take_back.Goals as goal

pub overflow_add-self : goal.overflow_add-self
overflow_add-self c =
    let a = c.self.inside in
    omega (arith, c.self.invariant.counted, c.self.invariant.small, free_count-room a.owners.items c.args.unit (subst (λ (owners : List (Option ℕ)). IsSome (get_or owners c.args.unit None)) (sym c.self.view_is) c.requires))

pub invariant_of-self : goal.invariant_of-self
invariant_of-self c =
    let a = c.self.inside in
    AreMarked-take_back a.owners.items a.words.items c.mark.new.words.items a.free c.args.unit c.self.invariant
    (subst (λ (owners : List (Option ℕ)). IsSome (get_or owners c.args.unit None)) (sym c.self.view_is) c.requires) c.mark.ensures.long c.mark.ensures.marks
