use Rattle.std.proofs.Common.{◌≡◌, drop}
use Rattle.super_meta.specs.Contents.{content}
use Rattle.dev_store.specs.LayoutLines.{unit_count}
use Rattle.dev_store.specs.SuperReads.{HasRoom}
use Rattle.dev_store.specs.Building.{built}
use Rattle.dev_store.specs.Installing.{listed_as, planned_by, HasSpace}
use Rattle.dev_store.proofs.layout.SuperPart.add_listed.Given as goal

abbrev pub invariant-loop-place : goal.invariant-loop-place
invariant-loop-place l = record {
  table : built l.self l.owners (content l.next) (planned_by (listed_as l.keeps (content l.table)) (drop l.place (content l.new).partitions) (drop l.place l.parts))
      ≡ built l.self l.owners (content l.fn.next) (planned_by (listed_as l.keeps (content l.table)) (content l.new).partitions l.parts);
  space : HasSpace l.self l.owners (content l.next) (planned_by (listed_as l.keeps (content l.table)) (drop l.place (content l.new).partitions) (drop l.place l.parts));
  room : HasRoom (unit_count l.self) l.next;
}
