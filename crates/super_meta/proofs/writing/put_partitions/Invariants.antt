use Rattle.std.proofs.Common.{◌≡◌, ℕ, ◌+◌, ◌*◌, ◌≤◌, true, ◌++◌, take, drop}
use Rattle.std.specs.List.{list_all, flat_map}
use Rattle.super_meta.specs.Entries.{partition_bytes}
use Rattle.super_meta.specs.TableBytes.{partition_fits}
use Rattle.super_meta.proofs.writing.put_partitions.Given as goal

abbrev pub invariant-loop-partition : goal.invariant-loop-partition
invariant-loop-partition l = record {
  at : l.place ≡ l.at + 52 * l.partition-index;
  front : take l.place l.buf ≡ take l.at l.initial.buf ++ flat_map partition_bytes (take l.partition-index l.partitions);
  fits : list_all partition_fits (take l.partition-index l.partitions) ≡ true;
  rest : (n : ℕ) → l.place ≤ n → drop n l.buf ≡ drop n l.initial.buf;
}
