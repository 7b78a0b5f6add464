use Rattle.std.proofs.Common.{◌≡◌, ◌++◌, map, take}
use Rattle.dev_model.specs.Variables.{base_name}
use Rattle.dev_model.proofs.all_rows.push_logical.Given as goal

-- the base names of those that were passed
abbrev pub invariant-loop-part : goal.invariant-loop-part
invariant-loop-part l = l.bases ≡ l.initial.bases ++ map (base_name l.dev) (map (λ p. p.name) (take l.part-index l.parts))
