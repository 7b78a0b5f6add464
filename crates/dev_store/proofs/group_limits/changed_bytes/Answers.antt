use Rattle.std.proofs.Common.{arith}
use Rattle.super_meta.specs.Contents.{content}
use Rattle.dev_store.proofs.GroupLimits.{changed-step}
use Rattle.dev_store.proofs.group_limits.changed_bytes.Goals as goal

pub loop-partition-preserved : goal.loop-partition-preserved
loop-partition-preserved c =
    let step = changed-step (content c.args.table.now) c.args.group.now.name c.args.name.now c.args.size c.deref-partition-items.result.now c.args.table.now.partitions.items c.loop-partition.partition-index c.partition-item.result c.deref-partition-items.ensures.value c.loop-partition-test.true c.partition-item.is in
    record { so_far = omega (arith, step, c.changed_share-bytes.ensures.share, c.loop-partition.invariant.so_far); bounded = omega (arith, c.changed_share-bytes.ensures.bounded, c.loop-partition.invariant.bounded) }
