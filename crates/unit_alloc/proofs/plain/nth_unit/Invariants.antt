use Rattle.std.proofs.Common.{◌≡◌, ◌<◌, length, drop, get_or}
use Rattle.unit_alloc.specs.Log.{given}
use Rattle.unit_alloc.proofs.plain.nth_unit.Given as goal

abbrev pub invariant-loop-entry : goal.invariant-loop-entry
invariant-loop-entry l = (l.before < length (given l.part (drop l.entry-index l.entries))) × (get_or (given l.part (drop l.entry-index l.entries)) l.before 0 ≡ get_or (given l.part l.entries) l.fn.place 0)
