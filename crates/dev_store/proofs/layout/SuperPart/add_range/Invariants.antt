use Rattle.std.proofs.Common.{◌≡◌, ◌+◌, ◌-◌, ◌≤◌, length}
use Rattle.super_meta.specs.Contents.{content}
use Rattle.dev_store.specs.LayoutLines.{unit_count}
use Rattle.dev_store.specs.SuperReads.{HasRoom}
use Rattle.dev_store.specs.Building.{built, units_planned, planned_range}
use Rattle.dev_store.proofs.layout.SuperPart.add_range.Given as goal

abbrev pub invariant-loop-place : goal.invariant-loop-place
invariant-loop-place l = record {
  table : built l.self l.owners (content l.next) (planned_range (content l.table) l.parts l.place l.to)
      ≡ built l.self l.owners (content l.fn.next) (planned_range (content l.table) l.parts l.from l.to);
  units : length (content l.next).extents + units_planned l.owners (planned_range (content l.table) l.parts l.place l.to)
      ≤ length (content l.fn.next).extents + units_planned l.owners (planned_range (content l.table) l.parts l.from l.to);
  few : length (content l.next).partitions + (l.to - l.place) ≡ length (content l.fn.next).partitions + (l.to - l.from);
  room : HasRoom (unit_count l.self) l.next;
}
