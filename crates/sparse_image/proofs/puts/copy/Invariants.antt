use Rattle.std.proofs.Common.{◌≡◌, ◌-◌, ◌<◌, ◌≤◌, length}
use Rattle.sparse_image.specs.Outside.{Fell}
use Rattle.sparse_image.specs.Puts.{Puts, padded_part}
use Rattle.sparse_image.proofs.puts.copy.Given as goal

abbrev pub invariant-loop-done : goal.invariant-loop-done
invariant-loop-done g l = record {
  within : l.done ≤ l.n;
  window : 0 < length l.window;
  put : Puts (g.B.Bytes.content l.initial.source) (padded_part l.at l.done) l.done (g.O.Out.put_so_far l.initial.out) (g.O.Out.put_so_far l.out);
  room : Fell (g.O.Out.room l.initial.out) (g.O.Out.room l.out) l.done;
  content : g.B.Bytes.content l.source ≡ g.B.Bytes.content l.initial.source;
  same : g.B.Bytes.lent l.source ≡ g.B.Bytes.lent l.initial.source;
  size : g.B.Bytes.size l.source ≡ g.B.Bytes.size l.initial.source;
  read_later : g.B.Bytes.faults l.initial.source ≤ g.B.Bytes.faults l.source;
  out_same : g.O.Out.lent l.out ≡ g.O.Out.lent l.initial.out;
  out_whole : g.O.Out.whole l.out ≡ g.O.Out.whole l.initial.out;
  out_later : g.O.Out.faults l.initial.out ≤ g.O.Out.faults l.out;
}

abbrev pub decreases-loop-done : goal.decreases-loop-done
decreases-loop-done g l = l.n - l.done
