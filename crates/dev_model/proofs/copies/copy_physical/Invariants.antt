use Rattle.std.proofs.Common.{◌≡◌, take}
use Rattle.dev_model.proofs.copies.copy_physical.Given as goal

-- as many as the loop has come to are copied
abbrev pub invariant-loop-part : goal.invariant-loop-part
invariant-loop-part l = l.copied ≡ take l.part-index l.parts
