use Rattle.std.proofs.Common.{◌≡◌, ◌++◌}
use Rattle.sample_product.specs.Draws.{after}
use Rattle.sample_product.specs.Draws as draws
use Rattle.sample_product.proofs.draws.Draws.put_bytes.Given as goal

abbrev pub invariant-loop-byte : goal.invariant-loop-byte
invariant-loop-byte l = record {
  put : l.bytes.items ≡ l.initial.bytes.items ++ draws.bytes l._byte l.initial.self.state;
  after : l.self.state ≡ after l._byte l.initial.self.state;
}
