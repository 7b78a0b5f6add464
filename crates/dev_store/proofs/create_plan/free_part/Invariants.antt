use Rattle.std.proofs.Common.{◌≡◌, ℕ, ◌-◌, ◌<◌, ◌==◌, true}
use Rattle.std.specs.List.{list_any}
use Rattle.dev_store.proofs.create_plan.free_part.Given as goal

abbrev pub invariant-loop-part : goal.invariant-loop-part
invariant-loop-part l = (k : ℕ) → k < l.part → list_any (λ p. p == k) l.parts ≡ true

abbrev pub decreases-loop-part : goal.decreases-loop-part
decreases-loop-part l = 128 - l.part
