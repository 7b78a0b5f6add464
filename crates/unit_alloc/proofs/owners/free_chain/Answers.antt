-- The units that are left are the first one and those behind it.
use Rattle.std.proofs.Common.{◌-◌, ◌+◌, ℕ, List, Option, None, ap, sym, subst, ◌∙◌, arith, get_or, length, length-set}
use Rattle.unit_alloc.specs.Chains.{linked, AreOwned, freed}
use Rattle.unit_alloc.proofs.LinkedLemmas.{linked-left, linked-none}
use Rattle.unit_alloc.proofs.owners.free_chain.Goals as goal

pub take_back-requires : goal.take_back-requires
take_back-requires c =
    (subst (AreOwned c.loop-taken.states) (linked-left c.args.next.now c.loop-taken.unit c.loop-taken._taken c.args.count c.loop-taken-test.true) c.loop-taken.invariant.1).1

pub bounds-next-unit : goal.bounds-next-unit
bounds-next-unit c =
    let h = (subst (AreOwned c.loop-taken.states) (linked-left c.args.next.now c.loop-taken.unit c.loop-taken._taken c.args.count c.loop-taken-test.true) c.loop-taken.invariant.1).0 in
    omega (arith, c.loop-taken.invariant.0)

pub loop-taken-preserved : goal.loop-taken-preserved
loop-taken-preserved c =
    let states = c.loop-taken.states in
    let next = c.args.next.now in
    let unit = c.loop-taken.unit in
    let rest = linked next (get_or next unit 0) (c.args.count - (c.loop-taken._taken + 1)) in
    let e = linked-left next unit c.loop-taken._taken c.args.count c.loop-taken-test.true in
    let h = subst (AreOwned states) e c.loop-taken.invariant.1 in (
      ap (length {A = Option ℕ}) c.take_back.ensures ∙ length-set states unit None ∙ c.loop-taken.invariant.0,
      subst (λ (owners : List (Option ℕ)). AreOwned owners rest) (sym c.take_back.ensures) h.2,
      ap (λ (owners : List (Option ℕ)). freed owners rest) c.take_back.ensures ∙ sym (ap (freed states) e) ∙ c.loop-taken.invariant.2,
    )

pub returns : goal.returns
returns c =
    sym (ap (freed c.loop-taken.states) (linked-none c.args.next.now c.loop-taken.unit c.loop-taken._taken c.args.count c.loop-taken-test.false)) ∙ c.loop-taken.invariant.2
