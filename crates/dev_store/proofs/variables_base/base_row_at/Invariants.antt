use Rattle.std.proofs.Common.{◌≡◌, take, drop, map}
use Rattle.std.specs.Prelude.{slice_get, filter_map}
use Rattle.dev_model.specs.Variables.{base_name, base_names, has_slot_row}
use Rattle.dev_store.specs.StoreCalls.{names_of}
use Rattle.dev_store.specs.ToldRows.{told_device}
use Rattle.dev_store.proofs.BaseLemmas.{new-rows}
use Rattle.dev_store.proofs.variables_base.base_row_at.Given as goal

abbrev pub invariant-loop-at : goal.invariant-loop-at
invariant-loop-at l =
    slice_get (new-rows (has_slot_row (told_device l.facts)) (take l.at (map (base_name (told_device l.facts)) (names_of (told_device l.facts)))) (drop l.at (map (base_name (told_device l.facts)) (names_of (told_device l.facts))))) l.left
    ≡ slice_get (filter_map (has_slot_row (told_device l.facts)) (base_names (told_device l.facts))) l.place
