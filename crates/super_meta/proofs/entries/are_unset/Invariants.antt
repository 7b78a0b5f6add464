use Rattle.std.proofs.Common.{◌≡◌, true}
use Rattle.std.specs.List.{list_all}
use Rattle.super_meta.specs.Entries.{rows, is_unset}
use Rattle.super_meta.proofs.entries.are_unset.Given as goal

abbrev pub invariant-loop-i : goal.invariant-loop-i
invariant-loop-i l = list_all (is_unset l.place) (rows l.size l.i l.bytes) ≡ true
