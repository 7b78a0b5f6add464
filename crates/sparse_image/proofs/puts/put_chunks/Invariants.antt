use Rattle.std.proofs.Common.{◌≡◌, ◌<◌, ◌≤◌, length}
use Rattle.sparse_image.specs.Pieces.{first_blocks}
use Rattle.sparse_image.specs.Cuts.{rest_chunks, IsRest}
use Rattle.sparse_image.proofs.WriteLemmas.{PartsPut}
use Rattle.sparse_image.proofs.puts.put_chunks.Given as goal

abbrev pub invariant-loop-left : goal.invariant-loop-left
invariant-loop-left g l = record {
  window : 0 < length l.window;
  rest : IsRest l.rest;
  block : l.rest.block ≡ l.initial.rest.block;
  put : PartsPut (g.B.Bytes.content l.initial.source) l.initial.rest.block (first_blocks l.initial.left (rest_chunks l.initial.rest)) (first_blocks l.left (rest_chunks l.rest)) (g.O.Out.put_so_far l.initial.out) (g.O.Out.put_so_far l.out) (g.O.Out.room l.initial.out) (g.O.Out.room l.out);
  content : g.B.Bytes.content l.source ≡ g.B.Bytes.content l.initial.source;
  same : g.B.Bytes.lent l.source ≡ g.B.Bytes.lent l.initial.source;
  size : g.B.Bytes.size l.source ≡ g.B.Bytes.size l.initial.source;
  read_later : g.B.Bytes.faults l.initial.source ≤ g.B.Bytes.faults l.source;
  out_same : g.O.Out.lent l.out ≡ g.O.Out.lent l.initial.out;
  out_whole : g.O.Out.whole l.out ≡ g.O.Out.whole l.initial.out;
  out_later : g.O.Out.faults l.initial.out ≤ g.O.Out.faults l.out;
}

abbrev pub decreases-loop-left : goal.decreases-loop-left
decreases-loop-left g l = l.left
