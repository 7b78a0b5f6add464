use Rattle.std.proofs.Common.{◌≡◌, [], length, drop}
use Rattle.std.specs.List.{All}
use Rattle.flash_plan.specs.Facts.{facts_in}
use Rattle.flash_plan.specs.Moves.{moves_from}
use Rattle.flash_plan.specs.Planning.{work_in, past_of, IsShort}
use Rattle.flash_plan.proofs.plan_moves.Setting.moves.Given as goal

-- the tasks that are left come after those that are decided
abbrev pub invariant-loop-i : goal.invariant-loop-i
invariant-loop-i l =
    (length l.moves ≡ l.i) × All IsShort l.moves × (l.past ≡ past_of l.moves)
    × (moves_from (work_in l.self) (facts_in l.self.answers.now) l.self.slot l.moves (drop l.i l.self.product.now.tasks)
    ≡ moves_from (work_in l.self) (facts_in l.self.answers.now) l.self.slot [] l.self.product.now.tasks)
