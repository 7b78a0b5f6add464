use Rattle.std.proofs.Common.{◌≡◌, ◌+◌, ◌-◌, length}
use Rattle.std.specs.List.{range_with_len}
use Rattle.unit_alloc.specs.Owning.{handed}
use Rattle.dev_store.specs.SuperBounds.{are_free}
use Rattle.dev_store.proofs.owners.claim_range.Given as goal

abbrev pub invariant-loop-unit : goal.invariant-loop-unit
invariant-loop-unit l = record {
  free : are_free l.owners (range_with_len l.unit (l.unit-end - l.unit)) ≡ are_free l.fn.owners (range_with_len l.first l.count);
  rest : handed l.owners l.part (range_with_len l.unit (l.unit-end - l.unit)) ≡ handed l.fn.owners l.part (range_with_len l.first l.count);
  many : length l.owners.parts ≡ length l.fn.owners.parts;
  units : l.owners.units ≡ l.fn.owners.units;
}
