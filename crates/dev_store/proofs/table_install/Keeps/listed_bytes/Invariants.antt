use Rattle.std.proofs.Common.{◌≡◌, ◌+◌, ◌*◌, ◌^◌, ◌≤◌, drop, sum_by}
use Rattle.super_meta.specs.Contents.{content}
use Rattle.dev_store.specs.InstallTests.{listed_share}
use Rattle.dev_store.proofs.table_install.Keeps.listed_bytes.Given as goal

abbrev pub invariant-loop-partition : goal.invariant-loop-partition
invariant-loop-partition l = record {
  so_far : l.bytes + sum_by (listed_share l.self (content l.new) (content l.table) l.group.name) (drop l.partition-index l.new.partitions.items)
      ≡ sum_by (listed_share l.self (content l.new) (content l.table) l.group.name) l.new.partitions.items;
  bounded : l.bytes ≤ 2 ^ 64 * l.partition-index;
}
