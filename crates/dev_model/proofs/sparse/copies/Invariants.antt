use Rattle.std.proofs.Common.{◌≡◌}
use Rattle.dev_model.specs.Images.{copies}
use Rattle.dev_model.proofs.sparse.copies.Given as goal

-- so many copies were made
abbrev pub invariant-loop-i : goal.invariant-loop-i
invariant-loop-i l = l.all.items ≡ copies l.i l.cells
