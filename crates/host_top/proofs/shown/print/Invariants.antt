use Rattle.std.proofs.Common.{◌≡◌, take}
use Rattle.fb_frame.specs.Shown.{shown}
use Rattle.host_top.proofs.shown.print.Given as goal

abbrev pub invariant-loop-i : goal.invariant-loop-i
invariant-loop-i l = take l.i l.buf ≡ shown (take l.i l.text)
