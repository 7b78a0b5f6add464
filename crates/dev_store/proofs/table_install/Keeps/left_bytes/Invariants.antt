use Rattle.std.proofs.Common.{◌≡◌, ◌+◌, ◌*◌, ◌^◌, ◌≤◌, drop, sum_by}
use Rattle.super_meta.specs.Contents.{content}
use Rattle.dev_store.specs.InstallTests.{left_share}
use Rattle.dev_store.proofs.table_install.Keeps.left_bytes.Given as goal

abbrev pub invariant-loop-partition : goal.invariant-loop-partition
invariant-loop-partition l = record {
  so_far : l.bytes + sum_by (left_share l.self (content l.new) (content l.table) l.group.name) (drop l.partition-index l.table.partitions.items)
      ≡ sum_by (left_share l.self (content l.new) (content l.table) l.group.name) l.table.partitions.items;
  bounded : l.bytes ≤ 2 ^ 64 * l.partition-index;
}
