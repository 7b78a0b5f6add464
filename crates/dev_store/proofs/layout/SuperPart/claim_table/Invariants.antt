use Rattle.std.proofs.Common.{◌≡◌, length, drop}
use Rattle.std.specs.List.{flat_map}
use Rattle.super_meta.specs.Contents.{content}
use Rattle.dev_store.specs.Supers.{units_of}
use Rattle.dev_store.specs.SuperBounds.{are_free, claimed}
use Rattle.dev_store.proofs.layout.SuperPart.claim_table.Given as goal

abbrev pub invariant-loop-part : goal.invariant-loop-part
invariant-loop-part l = record {
  free : are_free l.owners (flat_map (units_of l.self (content l.table)) (drop l.part l.table.partitions.items))
      ≡ are_free l.fn.owners (flat_map (units_of l.self (content l.table)) l.table.partitions.items);
  rest : claimed l.self (content l.table) l.owners l.part (drop l.part l.table.partitions.items)
      ≡ claimed l.self (content l.table) l.fn.owners 0 l.table.partitions.items;
  many : length l.owners.parts ≡ length l.fn.owners.parts;
  units : l.owners.units ≡ l.fn.owners.units;
}
