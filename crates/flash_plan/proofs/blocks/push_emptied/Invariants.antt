use Rattle.std.proofs.Common.{◌≡◌, ◌++◌, map, take}
use Rattle.flash_plan.specs.declared.plan.Order.TheVariants.{Resize}
use Rattle.flash_plan.proofs.blocks.push_emptied.Given as goal

-- those before are emptied
abbrev pub invariant-loop-name : goal.invariant-loop-name
invariant-loop-name l = l.plan ≡ l.initial.plan ++ map (λ name. Resize name 0) (take l.name-index l.names)
