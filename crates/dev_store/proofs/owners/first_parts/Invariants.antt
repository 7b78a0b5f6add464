use Rattle.std.proofs.Common.{◌≡◌, ◌≤◌, vec_capacity}
use Rattle.std.specs.List.{range_with_len}
use Rattle.dev_store.proofs.owners.first_parts.Given as goal

abbrev pub invariant-loop-part : goal.invariant-loop-part
invariant-loop-part l = record {
  so_far : l.parts.items ≡ range_with_len 0 l.part;
  room : 128 ≤ vec_capacity l.parts;
}
