-- The words are as many as the units need, and the units' bits are set in them.
use Rattle.std.proofs.Common.{ℕ, List, Option, length, ap, sym, subst, ◌∙◌, arith}
use Rattle.std.proofs.lemmas.List.{length-replicate}
use Rattle.unit_alloc.specs.Marks.{is_marked, AreMarked}
use Rattle.unit_alloc.proofs.MarksLemmas.{is_marked-zeros, AreMarked-all}
use Rattle.unit_alloc.proofs.states.States.new.Goals as goal

pub mark_all-requires-clause-none : goal.mark_all-requires-clause-none
mark_all-requires-clause-none c = λ unit.
    ap (λ (words : List ℕ). is_marked words unit) c.in_ok-words.ensures ∙ is_marked-zeros c.div_ceil.result unit

pub invariant_of-result : goal.invariant_of-result
invariant_of-result c =
    subst (λ (owners : List (Option ℕ)). AreMarked owners c.mark_all.new.words.items c.args.units) (sym c.in_ok-owners.ensures)
    (AreMarked-all c.mark_all.new.words.items c.args.units (omega arith)
    (omega (arith, c.mark_all.ensures.long, ap (length {A = ℕ}) c.in_ok-words.ensures, length-replicate {A = ℕ} c.div_ceil.result 0)) c.mark_all.ensures.marks)
