use Rattle.std.proofs.Common.{◌≤◌, ◌-◌, length, take}
use Rattle.fb_frame.specs.Shown.{shown}
use Rattle.fb_frame.specs.Sinks.{Grew}
use Rattle.host_top.proofs.shown.put_shown.Given as goal

-- what is put so far is the text's front
abbrev pub invariant-loop-at : goal.invariant-loop-at
invariant-loop-at g l = record {
  within : l.at ≤ length l.text;
  put : Grew (g.S.Sink.text l.fn.out) (g.S.Sink.text l.out) (shown (take l.at l.text));
  later : g.S.Sink.faults l.fn.out ≤ g.S.Sink.faults l.out;
}

abbrev pub decreases-loop-at : goal.decreases-loop-at
decreases-loop-at g l = length l.text - l.at
