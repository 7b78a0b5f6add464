use Rattle.std.proofs.Common.{◌≡◌, ◌+◌, ◌≤◌, ◌*◌, ◌^◌, drop}
use Rattle.dev_store.specs.PartWrites.{physical_place}
use Rattle.dev_store.proofs.part_place.find_physical.Given as goal

abbrev pub invariant-loop-part : goal.invariant-loop-part
invariant-loop-part l = record {
  rest : physical_place l.start (drop l.part-index l.parts) l.name ≡ physical_place 12288 l.parts l.name;
  bounded : l.start ≤ 12288 + l.part-index * 2 ^ 44;
}
