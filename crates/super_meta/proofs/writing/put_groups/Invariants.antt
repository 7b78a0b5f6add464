use Rattle.std.proofs.Common.{◌≡◌, ℕ, ◌+◌, ◌*◌, ◌≤◌, true, ◌++◌, take, drop}
use Rattle.std.specs.List.{list_all, flat_map}
use Rattle.super_meta.specs.Entries.{group_bytes}
use Rattle.super_meta.specs.TableBytes.{group_fits}
use Rattle.super_meta.proofs.writing.put_groups.Given as goal

abbrev pub invariant-loop-group : goal.invariant-loop-group
invariant-loop-group l = record {
  at : l.place ≡ l.at + 48 * l.group-index;
  front : take l.place l.buf ≡ take l.at l.initial.buf ++ flat_map group_bytes (take l.group-index l.groups);
  fits : list_all group_fits (take l.group-index l.groups) ≡ true;
  rest : (n : ℕ) → l.place ≤ n → drop n l.buf ≡ drop n l.initial.buf;
}
