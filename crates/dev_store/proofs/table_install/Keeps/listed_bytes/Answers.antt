use Rattle.std.proofs.Common.{arith}
use Rattle.super_meta.specs.Contents.{content}
use Rattle.dev_store.specs.InstallTests.{listed_share}
use Rattle.dev_store.proofs.InstallTests.{sum-step}
use Rattle.dev_store.proofs.table_install.Keeps.listed_bytes.Goals as goal

pub loop-partition-preserved : goal.loop-partition-preserved
loop-partition-preserved c =
    let step = sum-step (listed_share c.args.self (content c.args.new.now) (content c.args.table.now) c.args.group.now.name) c.deref-partition-items.result.now c.args.new.now.partitions.items c.loop-partition.partition-index c.partition-item.result c.deref-partition-items.ensures.value c.loop-partition-test.true c.partition-item.is in
    record { so_far = omega (arith, step, c.listed_share.ensures, c.loop-partition.invariant.so_far); bounded = omega (arith, c.loop-partition.invariant.bounded) }
