use Rattle.std.proofs.Common.{◌≡◌, ◌+◌, ◌-◌, ◌<◌, ◌≤◌, ◌++◌, length, drop, slice_index, vec_capacity}
use Rattle.unit_alloc.specs.Owning.{units_of}
use Rattle.dev_store.specs.Runs.{runs_of, extents_for}
use Rattle.dev_store.proofs.layout.SuperPart.add_extents.Given as goal

abbrev pub invariant-loop-place : goal.invariant-loop-place
invariant-loop-place l = record {
  items : l.extents.items ++ extents_for l.self l.left (runs_of (drop l.place (units_of l.owners l.part)))
      ≡ l.fn.extents.items ++ extents_for l.self l.bytes (runs_of (units_of l.owners l.part));
  last : 0 < l.place → l.last ≡ slice_index (units_of l.owners l.part) (l.place - 1);
  few : length l.extents.items ≤ length l.fn.extents.items + l.place;
  room : vec_capacity l.extents ≡ vec_capacity l.fn.extents;
}

abbrev pub decreases-loop-place : goal.decreases-loop-place
decreases-loop-place l = l.count - l.place
