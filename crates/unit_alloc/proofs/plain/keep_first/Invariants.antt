use Rattle.unit_alloc.proofs.FrontLemmas.{Front}
use Rattle.unit_alloc.proofs.plain.keep_first.Given as goal

abbrev pub invariant-loop-from : goal.invariant-loop-from
invariant-loop-from l = Front l.part l.keep l.initial.entries l.entries l.from l.to l.count
