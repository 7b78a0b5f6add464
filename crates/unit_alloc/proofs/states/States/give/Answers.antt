-- The unit is no longer free.
use Rattle.std.proofs.Common.{◌≡◌, List, Option, ℕ, true, sym, subst, arith}
use Rattle.unit_alloc.specs.Marks.{is_free}
use Rattle.unit_alloc.proofs.MarksLemmas.{AreMarked-give, free_count-some}
use Rattle.unit_alloc.proofs.states.States.give.Goals as goal

pub overflow_sub-self : goal.overflow_sub-self
overflow_sub-self c =
    let a = c.self.inside in
    omega (arith, c.self.invariant.counted, free_count-some a.owners.items c.args.unit (subst (λ (owners : List (Option ℕ)). is_free owners c.args.unit ≡ true) (sym c.self.view_is) c.requires))

pub invariant_of-self : goal.invariant_of-self
invariant_of-self c =
    let a = c.self.inside in
    AreMarked-give a.owners.items a.words.items c.unmark.new.words.items a.free c.args.unit c.args.part c.self.invariant
    (subst (λ (owners : List (Option ℕ)). is_free owners c.args.unit ≡ true) (sym c.self.view_is) c.requires) c.unmark.ensures.long c.unmark.ensures.marks
