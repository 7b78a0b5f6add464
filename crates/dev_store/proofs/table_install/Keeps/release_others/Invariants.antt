use Rattle.std.proofs.Common.{◌≡◌, drop, length}
use Rattle.unit_alloc.specs.Owning.{OneOwner}
use Rattle.super_meta.specs.Contents.{content}
use Rattle.dev_store.specs.InstallParts.{released}
use Rattle.dev_store.proofs.table_install.Keeps.release_others.Given as goal

abbrev pub invariant-loop-place : goal.invariant-loop-place
invariant-loop-place l = record {
  released : released l.self (drop l.place (content l.table).partitions) (drop l.place l.parts) l.owners
      ≡ released l.self (content l.table).partitions l.parts l.fn.owners;
  many : length l.owners.parts ≡ length l.fn.owners.parts;
  one : OneOwner l.owners;
}
