use Rattle.std.proofs.Common.{◌≡◌, take}
use Rattle.dev_model.proofs.copies.copy_variables.Given as goal

-- as many as the loop has come to are copied
abbrev pub invariant-loop-var : goal.invariant-loop-var
invariant-loop-var l = l.copied ≡ take l.var-index l.vars
