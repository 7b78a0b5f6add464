use Rattle.std.proofs.Common.{◌≡◌, ◌+◌, ◌-◌, ◌≤◌, [], length}
use Rattle.std.specs.Option.{option_map_or}
use Rattle.product_info.specs.declared.info.InfoKind.TheVariants.{BadLine}
use Rattle.product_info.specs.Blanks.{parts}
use Rattle.product_info.specs.Reading.{behind, read_lines}
use Rattle.product_info.specs.RequirementText.{requirement_of, requirements}
use Rattle.product_info.proofs.requirements.read_requirements.Given as goal

abbrev pub invariant-loop-rest : goal.invariant-loop-rest
invariant-loop-rest l = record {
  most : length l.list ≤ 256;
  bounded : l.number + option_map_or (λ left. length left.now + 1) l.rest 0 ≤ 65538;
  read : requirements l.text ≡ behind l.list (read_lines BadLine requirement_of l.number (256 - length l.list) (option_map_or (λ left. parts 10 left.now) l.rest []));
}

abbrev pub decreases-loop-rest : goal.decreases-loop-rest
decreases-loop-rest l = option_map_or (λ left. length left.now + 1) l.rest 0
