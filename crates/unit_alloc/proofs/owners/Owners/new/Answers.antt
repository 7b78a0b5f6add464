-- All units are free, and each chain has none.
use Rattle.std.proofs.Common.{ℕ, replicate, ◌∙◌, arith}
use Rattle.std.proofs.lemmas.List.{length-replicate}
use Rattle.unit_alloc.proofs.ChainedLemmas.{AreChained-none, chained-none, AreChained-same, chained-same}
use Rattle.unit_alloc.proofs.owners.Owners.new.Goals as goal

pub invariant_of-result : goal.invariant_of-result
invariant_of-result c =
    AreChained-same _ _ _ _ _ _ c.in_ok-states.ensures c.in_ok-next.ensures c.in_ok-chains.ensures
    (AreChained-none (replicate c.args.units 0) c.args.units c.args.parts (length-replicate {A = ℕ} c.args.units 0) (omega arith))

pub returns-clause-unowned : goal.returns-clause-unowned
returns-clause-unowned c =
    chained-same _ _ _ _ _ _ c.in_ok-states.ensures c.in_ok-next.ensures c.in_ok-chains.ensures ∙ chained-none (replicate c.args.units 0) c.args.units c.args.parts

pub returns-clause-one_owner : goal.returns-clause-one_owner
returns-clause-one_owner c =
    (AreChained-same _ _ _ _ _ _ c.in_ok-states.ensures c.in_ok-next.ensures c.in_ok-chains.ensures
    (AreChained-none (replicate c.args.units 0) c.args.units c.args.parts (length-replicate {A = ℕ} c.args.units 0) (omega arith))).one
