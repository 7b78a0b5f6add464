use Rattle.std.proofs.Common.{◌≡◌, ◌-◌, ◌≤◌, length, take}
use Rattle.std.specs.Prelude.{◌%◌}
use Rattle.dev_store.specs.Changes.{repeated}
use Rattle.dev_store.proofs.part_fill.repeat.Given as goal

abbrev pub invariant-loop-done : goal.invariant-loop-done
invariant-loop-done l = record {
  fours : l.done % 4 ≡ 0;
  long : l.done ≤ length l.buffer;
  filled : take l.done l.buffer ≡ repeated l.done l.pattern;
}

abbrev pub decreases-loop-done : goal.decreases-loop-done
decreases-loop-done l = length l.buffer - l.done
