use Rattle.std.proofs.Common.{◌≡◌, ◌++◌, drop, map}
use Rattle.std.specs.Prelude.{vec_capacity}
use Rattle.super_meta.specs.Contents.{content}
use Rattle.dev_store.specs.InstallParts.{kept_part}
use Rattle.dev_store.proofs.table_install.Keeps.add_listed.Given as goal

abbrev pub invariant-loop-partition : goal.invariant-loop-partition
invariant-loop-partition l = record {
  parts : l.chosen.items ++ map (λ p. kept_part l.self (content l.table) l.parts p.name) (drop l.partition-index (content l.new).partitions)
      ≡ l.fn.chosen.items ++ map (λ p. kept_part l.self (content l.table) l.parts p.name) (content l.new).partitions;
  room : vec_capacity l.chosen ≡ vec_capacity l.fn.chosen;
}
