use Rattle.std.proofs.Common.{◌≡◌, ◌++◌, take}
use Rattle.fb_frame.proofs.tests.extend.Given as goal

abbrev pub invariant-loop-b : goal.invariant-loop-b
invariant-loop-b l = l.part ≡ l.initial.part ++ take l.b-index l.taken
