use Rattle.std.proofs.Common.{◌≡◌, ◌++◌, ◌-◌}
use Rattle.sample_product.specs.Images.{groups}
use Rattle.sample_product.proofs.sparse.put_groups.Given as goal

abbrev pub invariant-loop-group : goal.invariant-loop-group
invariant-loop-group l =
    l.bytes.items ++ groups (l.count - l._group) l.draws.state ≡ l.initial.bytes.items ++ groups l.initial.count l.initial.draws.state
