use Rattle.std.proofs.Common.{◌≡◌, length, drop}
use Rattle.std.specs.List.{flat_map}
use Rattle.unit_alloc.specs.Owning.{handed}
use Rattle.dev_store.specs.Supers.{units_in}
use Rattle.dev_store.specs.SuperBounds.{are_free}
use Rattle.dev_store.proofs.layout.SuperPart.claim_extents.Given as goal

abbrev pub invariant-loop-extent : goal.invariant-loop-extent
invariant-loop-extent l = record {
  free : are_free l.owners (flat_map (units_in l.self) (drop l.extent-index l.extents)) ≡ are_free l.fn.owners (flat_map (units_in l.self) l.extents);
  rest : handed l.owners l.part (flat_map (units_in l.self) (drop l.extent-index l.extents)) ≡ handed l.fn.owners l.part (flat_map (units_in l.self) l.extents);
  many : length l.owners.parts ≡ length l.fn.owners.parts;
  units : l.owners.units ≡ l.fn.owners.units;
}
