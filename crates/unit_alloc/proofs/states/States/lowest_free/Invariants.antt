use Rattle.std.proofs.Common.{ℕ, ◌≡◌, ◌*◌, ◌<◌, false}
use Rattle.unit_alloc.specs.Marks.{is_free}
use Rattle.unit_alloc.proofs.states.States.lowest_free.Given as goal

abbrev pub invariant-loop-word : goal.invariant-loop-word
invariant-loop-word l = (k : ℕ) → k < 64 * l.word → is_free l.self k ≡ false
