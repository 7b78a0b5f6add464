use Rattle.std.proofs.Common.{◌≡◌, ◌+◌, ◌≤◌, drop, length, filter}
use Rattle.super_meta.specs.Contents.{content}
use Rattle.dev_store.specs.Installing.{is_left}
use Rattle.dev_store.proofs.table_install.Keeps.left_count.Given as goal

abbrev pub invariant-loop-partition : goal.invariant-loop-partition
invariant-loop-partition l = record {
  few : l.count ≤ l.partition-index;
  counted : l.count + length (filter (is_left l.self (content l.new)) (drop l.partition-index l.table.partitions.items))
      ≡ length (filter (is_left l.self (content l.new)) l.table.partitions.items);
}
