use Rattle.std.proofs.Common.{◌≡◌, ◌-◌, ◌≤◌, length}
use Rattle.sparse_image.specs.Outside.{IsRead}
use Rattle.sparse_image.proofs.reads.read_exact.Given as goal

abbrev pub invariant-loop-have : goal.invariant-loop-have
invariant-loop-have g l = record {
  within : l.have ≤ length l.buf;
  read : IsRead (g.B.Bytes.content l.initial.source) l.at l.buf l.have;
  content : g.B.Bytes.content l.source ≡ g.B.Bytes.content l.initial.source;
  same : g.B.Bytes.lent l.source ≡ g.B.Bytes.lent l.initial.source;
  size : g.B.Bytes.size l.source ≡ g.B.Bytes.size l.initial.source;
  later : g.B.Bytes.faults l.initial.source ≤ g.B.Bytes.faults l.source;
}

abbrev pub decreases-loop-have : goal.decreases-loop-have
decreases-loop-have g l = length l.buf - l.have
