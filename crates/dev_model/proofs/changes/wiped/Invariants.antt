use Rattle.std.proofs.Common.{◌≡◌, take}
use Rattle.dev_model.specs.Steps.{wiped}
use Rattle.dev_model.proofs.changes.wiped.Given as goal

-- as many bytes as were passed
abbrev pub invariant-loop-i : goal.invariant-loop-i
invariant-loop-i l = l.bytes.items ≡ wiped (take l.i l.old)
