use Rattle.std.proofs.Common.{◌≡◌, map, true, length, vec_capacity}
use Rattle.std.specs.List.{list_all}
use Rattle.super_meta.specs.Entries.{rows, is_named, group_of}
use Rattle.super_meta.proofs.entries.read_groups.Given as goal

abbrev pub invariant-loop-i : goal.invariant-loop-i
invariant-loop-i l = record {
  named : list_all is_named (rows 48 l.i l.bytes) ≡ true;
  items : l.groups.items ≡ map group_of (rows 48 l.i l.bytes);
  counted : length l.groups.items ≡ l.i;
  room : vec_capacity l.groups ≡ vec_capacity l.initial.groups;
}
