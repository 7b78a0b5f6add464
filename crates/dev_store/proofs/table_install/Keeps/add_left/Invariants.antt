use Rattle.std.proofs.Common.{◌≡◌, ◌++◌, drop, map, filter}
use Rattle.std.specs.Prelude.{vec_capacity}
use Rattle.super_meta.specs.Contents.{content}
use Rattle.dev_store.specs.Installing.{is_left}
use Rattle.dev_store.specs.InstallParts.{kept_part}
use Rattle.dev_store.proofs.table_install.Keeps.add_left.Given as goal

abbrev pub invariant-loop-partition : goal.invariant-loop-partition
invariant-loop-partition l = record {
  parts : l.chosen.items ++ map (λ p. kept_part l.self (content l.table) l.parts p.name) (filter (is_left l.self (content l.new)) (drop l.partition-index (content l.table).partitions))
      ≡ l.fn.chosen.items ++ map (λ p. kept_part l.self (content l.table) l.parts p.name) (filter (is_left l.self (content l.new)) (content l.table).partitions);
  room : vec_capacity l.chosen ≡ vec_capacity l.fn.chosen;
}
