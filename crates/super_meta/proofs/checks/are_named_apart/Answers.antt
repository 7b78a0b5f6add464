use Rattle.super_meta.proofs.CheckLemmas.{taken-by, free-by}
use Rattle.super_meta.proofs.checks.are_named_apart.Goals as goal

pub returns-then-is_taken : goal.returns-then-is_taken
returns-then-is_taken g c =
    taken-by g.T.Named.named c.args.entries.now c.loop-i.i c.index-entries-i.result c.name.result.now c.is_taken.result _ c.loop-i-test.true c.index-entries-i.is c.name.ensures c.is_taken.ensures c.if-is_taken.true c.loop-i.invariant

pub loop-i-preserved : goal.loop-i-preserved
loop-i-preserved g c =
    free-by g.T.Named.named c.args.entries.now c.loop-i.i c.index-entries-i.result c.name.result.now c.is_taken.result _ c.loop-i-test.true c.index-entries-i.is c.name.ensures c.is_taken.ensures c.if-is_taken.false c.loop-i.invariant
