use Rattle.std.proofs.Common.{◌≡◌, drop}
use Rattle.std.specs.Prelude.{not, ◌&&◌, bytes_eq}
use Rattle.std.specs.List.{list_any}
use Rattle.super_meta.specs.Contents.{content}
use Rattle.super_meta.specs.Held.{group_name}
use Rattle.dev_store.specs.Installing.{is_left}
use Rattle.dev_store.proofs.table_install.Keeps.lacks_group.Given as goal

abbrev pub invariant-loop-partition : goal.invariant-loop-partition
invariant-loop-partition l =
    list_any (λ p. is_left l.self (content l.new) p && not (list_any (λ g. bytes_eq g.name (group_name (content l.table).groups p.group)) (content l.new).groups)) (drop l.partition-index l.table.partitions.items)
    ≡ list_any (λ p. is_left l.self (content l.new) p && not (list_any (λ g. bytes_eq g.name (group_name (content l.table).groups p.group)) (content l.new).groups)) l.table.partitions.items
