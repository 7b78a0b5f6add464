use Rattle.std.proofs.Common.{◌≡◌, ◌*◌, ◌^◌, ◌≤◌, take}
use Rattle.dev_store.specs.Supers.{bytes_in}
use Rattle.dev_store.proofs.units.bytes_in.Given as goal

abbrev pub invariant-loop-extent : goal.invariant-loop-extent
invariant-loop-extent l = record {
  so_far : l.bytes ≡ bytes_in (take l.extent-index l.extents);
  bounded : l.bytes ≤ 2 ^ 73 * l.extent-index;
}
