use Rattle.std.proofs.Common.{◌≡◌, ℕ, ◌+◌, ◌*◌, ◌≤◌, true, ◌++◌, take, drop}
use Rattle.std.specs.List.{list_all, flat_map}
use Rattle.super_meta.specs.Entries.{extent_bytes}
use Rattle.super_meta.specs.TableBytes.{extent_fits}
use Rattle.super_meta.proofs.writing.put_extents.Given as goal

abbrev pub invariant-loop-extent : goal.invariant-loop-extent
invariant-loop-extent l = record {
  at : l.place ≡ l.at + 24 * l.extent-index;
  front : take l.place l.buf ≡ take l.at l.initial.buf ++ flat_map extent_bytes (take l.extent-index l.extents);
  fits : list_all extent_fits (take l.extent-index l.extents) ≡ true;
  rest : (n : ℕ) → l.place ≤ n → drop n l.buf ≡ drop n l.initial.buf;
}
