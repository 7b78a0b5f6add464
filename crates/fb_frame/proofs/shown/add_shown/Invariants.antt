use Rattle.std.proofs.Common.{◌≡◌, ◌++◌, take}
use Rattle.fb_frame.specs.Shown.{shown}
use Rattle.fb_frame.proofs.shown.add_shown.Given as goal

-- the bytes that were passed are added as they are printed
abbrev pub invariant-loop-b : goal.invariant-loop-b
invariant-loop-b l = l.line.items ≡ l.initial.line.items ++ shown (take l.b-index l.text)
