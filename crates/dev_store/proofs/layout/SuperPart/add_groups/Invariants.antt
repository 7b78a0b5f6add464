use Rattle.std.proofs.Common.{◌≡◌, ◌+◌, length, take}
use Rattle.super_meta.specs.Contents.{content}
use Rattle.dev_store.specs.LayoutLines.{unit_count}
use Rattle.dev_store.specs.SuperReads.{HasRoom}
use Rattle.dev_store.specs.Building.{with_groups}
use Rattle.dev_store.proofs.layout.SuperPart.add_groups.Given as goal

abbrev pub invariant-loop-group : goal.invariant-loop-group
invariant-loop-group l = record {
  so_far : content l.next ≡ with_groups (content l.fn.next) (take l.group-index l.groups);
  many : length (content l.next).groups ≡ length (content l.fn.next).groups + l.group-index;
  room : HasRoom (unit_count l.self) l.next;
}
