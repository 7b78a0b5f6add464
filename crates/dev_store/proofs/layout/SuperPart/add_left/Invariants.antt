use Rattle.std.proofs.Common.{◌≡◌, ◌+◌, ◌≤◌, length, drop, filter}
use Rattle.super_meta.specs.Contents.{content}
use Rattle.dev_store.specs.LayoutLines.{unit_count}
use Rattle.dev_store.specs.SuperReads.{HasRoom}
use Rattle.dev_store.specs.Building.{built}
use Rattle.dev_store.specs.Installing.{left_as, is_left, planned_by, HasSpace}
use Rattle.dev_store.proofs.layout.SuperPart.add_left.Given as goal

abbrev pub invariant-loop-partition : goal.invariant-loop-partition
invariant-loop-partition l = record {
  table : built l.self l.owners (content l.next)
      (planned_by (left_as (content l.new) (content l.table)) (filter (is_left l.keeps (content l.new)) (drop l.partition-index (content l.table).partitions)) (drop l.place l.parts))
      ≡ built l.self l.owners (content l.fn.next)
      (planned_by (left_as (content l.new) (content l.table)) (filter (is_left l.keeps (content l.new)) (content l.table).partitions) (drop (length (content l.new).partitions) l.parts));
  space : HasSpace l.self l.owners (content l.next)
      (planned_by (left_as (content l.new) (content l.table)) (filter (is_left l.keeps (content l.new)) (drop l.partition-index (content l.table).partitions)) (drop l.place l.parts));
  enough : l.place + length (filter (is_left l.keeps (content l.new)) (drop l.partition-index (content l.table).partitions)) ≤ length l.parts;
  room : HasRoom (unit_count l.self) l.next;
}
