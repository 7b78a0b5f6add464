use Rattle.std.proofs.Common.{◌≡◌, ◌+◌, [], length}
use Rattle.std.specs.Option.{option_map_or}
use Rattle.product_info.specs.Blanks.{parts}
use Rattle.product_info.specs.RequirementText.{values_in, values_of}
use Rattle.product_info.proofs.ValueLemmas.{values_behind}
use Rattle.product_info.proofs.requirement_text.read_values.Given as goal

abbrev pub invariant-loop-rest : goal.invariant-loop-rest
invariant-loop-rest l = values_of l.text ≡ values_behind l.values (values_in (option_map_or (λ left. parts 124 left.now) l.rest []))

abbrev pub decreases-loop-rest : goal.decreases-loop-rest
decreases-loop-rest l = option_map_or (λ left. length left.now + 1) l.rest 0
