use Rattle.std.proofs.Common.{ℕ, ◌≡◌, nat_lt, length}
use Rattle.unit_alloc.specs.Marks.{is_marked}
use Rattle.unit_alloc.proofs.states.mark_all.Given as goal

abbrev pub invariant-loop-unit : goal.invariant-loop-unit
invariant-loop-unit l = (length l.words.items ≡ length l.initial.words.items) × ((v : ℕ) → is_marked l.words.items v ≡ nat_lt v l.unit)
