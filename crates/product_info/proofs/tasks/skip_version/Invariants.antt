use Rattle.std.proofs.Common.{◌≡◌, ◌+◌, ◌≤◌, [], length}
use Rattle.std.specs.Option.{option_map_or}
use Rattle.product_info.specs.Blanks.{parts}
use Rattle.product_info.specs.TaskText.{tasks, tasks_from}
use Rattle.product_info.proofs.tasks.skip_version.Given as goal

abbrev pub invariant-loop-rest : goal.invariant-loop-rest
invariant-loop-rest l = record {
  bounded : l.number + option_map_or (λ left. length left.now + 1) l.rest 0 ≤ 65538;
  read : tasks l.text ≡ tasks_from l.number (option_map_or (λ left. parts 10 left.now) l.rest []);
}

abbrev pub decreases-loop-rest : goal.decreases-loop-rest
decreases-loop-rest l = option_map_or (λ left. length left.now + 1) l.rest 0
