use Rattle.std.proofs.Common.{◌≡◌, ◌++◌, take}
use Rattle.std.specs.Prelude.{flat_map, true}
use Rattle.dev_model.specs.Variables.{partition_rows}
use Rattle.dev_model.proofs.variables.push_logical.Given as goal

-- the rows of those that were passed are told
abbrev pub invariant-loop-part : goal.invariant-loop-part
invariant-loop-part l = l.rows ≡ l.initial.rows ++ flat_map (λ p. partition_rows true p.name p.bytes) (take l.part-index l.parts)
