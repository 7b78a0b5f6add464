use Rattle.std.proofs.Common.{◌≡◌, ◌≤◌, length, take}
use Rattle.unit_alloc.specs.Log.{given}
use Rattle.unit_alloc.proofs.plain.count_entries.Given as goal

abbrev pub invariant-loop-entry : goal.invariant-loop-entry
invariant-loop-entry l = (l.count ≡ length (given l.part (take l.entry-index l.entries))) × (l.count ≤ l.entry-index)
