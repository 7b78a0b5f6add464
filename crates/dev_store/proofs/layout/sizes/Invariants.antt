use Rattle.std.proofs.Common.{◌≡◌, ◌≤◌, ◌*◌, ◌^◌, take}
use Rattle.std.specs.Prelude.{sum_by}
use Rattle.dev_store.proofs.layout.sizes.Given as goal

abbrev pub invariant-loop-part : goal.invariant-loop-part
invariant-loop-part l = record {
  sizes : l.sum ≡ sum_by (λ p. p.size) (take l.part-index l.parts);
  bounded : l.sum ≤ l.part-index * 2 ^ 44;
}
