use Rattle.std.proofs.Common.{◌≡◌, ◌++◌, map, take}
use Rattle.dev_model.proofs.variables.push_variables.Given as goal

-- the rows of those that were passed are told
abbrev pub invariant-loop-var : goal.invariant-loop-var
invariant-loop-var l = l.rows ≡ l.initial.rows ++ map (λ v. (v.name, v.text)) (take l.var-index l.vars)
