use Rattle.std.proofs.Common.{◌≡◌, drop}
use Rattle.super_meta.specs.Contents.{content}
use Rattle.dev_store.specs.Installing.{kept_long}
use Rattle.dev_store.proofs.table_install.Keeps.kept_long.Given as goal

abbrev pub invariant-loop-partition : goal.invariant-loop-partition
invariant-loop-partition l =
    kept_long l.self (content l.table) l.name (drop l.partition-index l.table.partitions.items) ≡ kept_long l.self (content l.table) l.name l.table.partitions.items
