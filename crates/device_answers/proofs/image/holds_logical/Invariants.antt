use Rattle.std.proofs.Common.{IsFalse}
use Rattle.device_answers.proofs.image.holds_logical.Given as goal

abbrev pub invariant-loop-part : goal.invariant-loop-part
invariant-loop-part l = IsFalse l.store.broken
