use Rattle.std.proofs.Common.{◌≡◌, ◌+◌, ◌*◌, ◌-◌, ◌≤◌, length, drop}
use Rattle.std.specs.Prelude.{IfSome}
use Rattle.sparse_image.specs.Walks.{walked, prepend, AreWell}
use Rattle.sparse_image.proofs.index.read_chunks.Given as goal

abbrev pub invariant-loop : goal.invariant-loop
invariant-loop g l = record {
  within : l.place ≤ l.len;
  most : l.place ≤ 28 + (l.header.blocks - l.blocks) * l.header.block + 16 * l.counter;
  due : l.blocks ≤ l.header.blocks;
  few : length l.chunks.items ≤ l.counter;
  well : AreWell l.header.block l.len (l.header.blocks - l.blocks) l.chunks.items;
  told : IfSome (g.B.Bytes.content l.initial.source) (λ file. prepend l.chunks.items (walked (l.header.chunks - l.counter) l.header.block l.blocks l.place (drop l.place file)) ≡ walked l.header.chunks l.header.block l.header.blocks 28 (drop 28 file));
  content : g.B.Bytes.content l.source ≡ g.B.Bytes.content l.initial.source;
  same : g.B.Bytes.lent l.source ≡ g.B.Bytes.lent l.initial.source;
  size : g.B.Bytes.size l.source ≡ g.B.Bytes.size l.initial.source;
  later : g.B.Bytes.faults l.initial.source ≤ g.B.Bytes.faults l.source;
}
