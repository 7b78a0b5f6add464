use Rattle.std.proofs.Common.{◌≡◌, ◌++◌, [], take, drop}
use Rattle.flash_plan.specs.Orders.{blocks}
use Rattle.flash_plan.specs.Planning.{past_of}
use Rattle.flash_plan.proofs.blocks.push_blocks.Given as goal

-- the blocks that are left follow those that stand
abbrev pub invariant-loop-act : goal.invariant-loop-act
invariant-loop-act l =
    (l.past ≡ past_of (take l.act-index l.moves))
    × (l.plan ++ blocks l.wipe (take l.act-index l.moves) (drop l.act-index l.moves) ≡ l.initial.plan ++ blocks l.wipe [] l.moves)
