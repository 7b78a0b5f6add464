use Rattle.std.proofs.Common.{◌≡◌, ◌+◌, ◌*◌, ◌^◌, ◌≤◌, drop, map}
use Rattle.dev_model.specs.Sizes.{resized, group_bytes}
use Rattle.super_meta.specs.Contents.{content}
use Rattle.dev_store.specs.Supers.{size_in}
use Rattle.dev_store.proofs.group_limits.changed_bytes.Given as goal

abbrev pub invariant-loop-partition : goal.invariant-loop-partition
invariant-loop-partition l = record {
  so_far : l.bytes + group_bytes l.group.name (resized l.name l.size (map (size_in (content l.table)) (drop l.partition-index l.table.partitions.items)))
      ≡ group_bytes l.group.name (resized l.name l.size (map (size_in (content l.table)) l.table.partitions.items));
  bounded : l.bytes ≤ 2 ^ 105 * l.partition-index;
}
