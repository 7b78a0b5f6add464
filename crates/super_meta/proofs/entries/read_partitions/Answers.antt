use Rattle.std.proofs.Common.{refl, arith, ◌∙◌}
use Rattle.super_meta.specs.Entries.{partition_of}
use Rattle.super_meta.proofs.RowLemmas.{unnamed, one-named, one-more}
use Rattle.super_meta.proofs.entries.read_partitions.Goals as goal

pub returns-in_default-clause-named : goal.returns-in_default-clause-named
returns-in_default-clause-named c =
    let failed = unnamed 52 c.args.count c.loop-i.i c.args.bytes.now c.row_at.result.now partition_of c.row_at.ensures.row c.loop-i-test.true c.in_default.ensures in rw failed refl

pub loop-i-preserved : goal.loop-i-preserved
loop-i-preserved c = record {
  named = one-named 52 c.loop-i.i c.args.bytes.now c.row_at.result.now partition_of c.in-Some.partition c.row_at.ensures.row c.loop-i.invariant.named c.in-Some.ensures;
  items = one-more 52 c.loop-i.i c.args.bytes.now c.row_at.result.now partition_of c.in-Some.partition c.loop-i.partitions.items _ c.row_at.ensures.row c.loop-i.invariant.items c.push_reserved.ensures.items c.in-Some.ensures;
  counted = grind arith;
  room = c.push_reserved.ensures.capacity ∙ c.loop-i.invariant.room;
}
