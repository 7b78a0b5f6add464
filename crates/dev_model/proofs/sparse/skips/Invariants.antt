use Rattle.std.proofs.Common.{◌≡◌}
use Rattle.std.specs.Prelude.{replicate}
use Rattle.dev_model.specs.declared.cells.Cell.TheVariants.{Skip}
use Rattle.dev_model.proofs.sparse.skips.Given as goal

-- so many skips were made
abbrev pub invariant-loop-i : goal.invariant-loop-i
invariant-loop-i l = l.cells.items ≡ replicate l.i Skip
