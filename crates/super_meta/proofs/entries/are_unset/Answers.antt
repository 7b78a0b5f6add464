use Rattle.super_meta.proofs.RowLemmas.{is-set, one-unset}
use Rattle.super_meta.proofs.entries.are_unset.Goals as goal

pub returns-then-u32_at-ne0 : goal.returns-then-u32_at-ne0
returns-then-u32_at-ne0 c = is-set c.args.size c.args.count c.loop-i.i c.args.place c.u32_at.result c.args.bytes.now c.row_at.result.now c.row_at.ensures.row c.loop-i-test.true c.u32_at.ensures.number c.if-u32_at-ne0.true

pub loop-i-preserved : goal.loop-i-preserved
loop-i-preserved c = one-unset c.args.size c.loop-i.i c.args.place c.u32_at.result c.args.bytes.now c.row_at.result.now c.row_at.ensures.row c.u32_at.ensures.number c.if-u32_at-ne0.false c.loop-i.invariant
