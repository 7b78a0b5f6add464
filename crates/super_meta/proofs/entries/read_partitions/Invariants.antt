use Rattle.std.proofs.Common.{◌≡◌, map, true, length, vec_capacity}
use Rattle.std.specs.List.{list_all}
use Rattle.super_meta.specs.Entries.{rows, is_named, partition_of}
use Rattle.super_meta.proofs.entries.read_partitions.Given as goal

abbrev pub invariant-loop-i : goal.invariant-loop-i
invariant-loop-i l = record {
  named : list_all is_named (rows 52 l.i l.bytes) ≡ true;
  items : l.partitions.items ≡ map partition_of (rows 52 l.i l.bytes);
  counted : length l.partitions.items ≡ l.i;
  room : vec_capacity l.partitions ≡ vec_capacity l.initial.partitions;
}
