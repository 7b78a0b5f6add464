use Rattle.std.proofs.Common.{◌≡◌}
use Rattle.std.specs.Prelude.{vec_capacity}
use Rattle.dev_store.proofs.InstallParts.{IsFilling}
use Rattle.dev_store.proofs.install_parts.fill_parts.Given as goal

abbrev pub invariant-loop-place : goal.invariant-loop-place
invariant-loop-place l = record {
  filling : IsFilling l.place l.fn.parts.items l.parts.items;
  room : vec_capacity l.parts ≡ vec_capacity l.fn.parts;
}
