use Rattle.std.proofs.Common.{◌≡◌, ◌+◌, ◌≤◌, [], length}
use Rattle.dev_store.specs.LayoutLines.{lines}
use Rattle.dev_store.specs.Layouts.{read_lines}
use Rattle.dev_store.proofs.layout_text.read_entries.Given as goal

abbrev pub invariant-loop-rest : goal.invariant-loop-rest
invariant-loop-rest l = record {
  bounded : l.number + length l.rest ≤ 4098;
  read : read_lines 2 [] (lines l.text) ≡ read_lines l.number l.entries (lines l.rest);
}

abbrev pub decreases-loop-rest : goal.decreases-loop-rest
decreases-loop-rest l = length l.rest
