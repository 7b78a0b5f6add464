use Rattle.std.proofs.Common.{◌≡◌, ◌++◌, take}
use Rattle.std.specs.Prelude.{filter_map}
use Rattle.dev_model.specs.Variables.{has_slot_row}
use Rattle.dev_model.proofs.all_rows.all_rows.Given as goal

-- the rows of the base names that were passed
abbrev pub invariant-loop-base : goal.invariant-loop-base
invariant-loop-base l = l.rows ≡ l.initial.rows ++ filter_map (has_slot_row l.dev) (take l.base-index l.base-items)
