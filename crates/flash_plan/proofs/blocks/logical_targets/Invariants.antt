use Rattle.std.proofs.Common.{◌≡◌, ◌++◌, drop}
use Rattle.std.specs.Prelude.{not, bytes_eq, filter, flat_map}
use Rattle.std.specs.List.{list_any}
use Rattle.dev_model.specs.Variables.{first_ones}
use Rattle.flash_plan.specs.Orders.{logical_target, logical_targets}
use Rattle.flash_plan.proofs.blocks.logical_targets.Given as goal

-- what follows adds the names that weren't found yet
abbrev pub invariant-loop-act : goal.invariant-loop-act
invariant-loop-act l =
    l.names ++ filter (λ y. not (list_any (λ x. bytes_eq y x) l.names)) (first_ones (flat_map logical_target (drop l.act-index l.moves)))
    ≡ logical_targets l.moves
