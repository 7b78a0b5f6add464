use Rattle.std.proofs.Common.{◌≡◌, map, length, vec_capacity}
use Rattle.super_meta.specs.Entries.{rows, extent_of}
use Rattle.super_meta.proofs.entries.read_extents.Given as goal

abbrev pub invariant-loop-i : goal.invariant-loop-i
invariant-loop-i l = record {
  items : l.extents.items ≡ map extent_of (rows 24 l.i l.bytes);
  counted : length l.extents.items ≡ l.i;
  room : vec_capacity l.extents ≡ vec_capacity l.initial.extents;
}
