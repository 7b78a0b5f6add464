use Rattle.std.proofs.Common.{◌≡◌, ◌++◌, drop}
use Rattle.dev_model.specs.Images.{over}
use Rattle.dev_model.proofs.images.over.Given as goal

-- the cells that are left, over the bytes that follow, give the rest
abbrev pub invariant-loop-o : goal.invariant-loop-o
invariant-loop-o l = l.bytes.items ++ over l.rest (drop l.o-index l.old) ≡ over l.cells l.old
