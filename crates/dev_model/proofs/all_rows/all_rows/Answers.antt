use Rattle.std.proofs.Common.{◌++◌, take, ap, ◌∙◌, arith}
use Rattle.std.specs.Prelude.{filter_map, option_to_list}
use Rattle.dev_model.specs.Variables.{has_slot_row}
use Rattle.dev_model.proofs.RowLemmas.{filter_map_turn}
use Rattle.dev_model.proofs.all_rows.all_rows.Goals as goal

pub loop-base-preserved : goal.loop-base-preserved
loop-base-preserved c =
    let dev = c.args.dev.now in
    let bases = c.as_slice-base-items.result.now in
    let i = c.loop-base.base-index in
    c.in_ok-push_has_slot.ensures
    ∙ ap (λ t. t ++ option_to_list (has_slot_row dev c.as_slice.result.now)) c.loop-base.invariant
    ∙ ap (λ t. (c.in_ok-rows.rows ++ filter_map (has_slot_row dev) (take i bases)) ++ option_to_list (has_slot_row dev t)) c.as_slice.ensures
    ∙ filter_map_turn (has_slot_row dev) c.in_ok-rows.rows bases i c.base-item.result (omega arith) c.base-item.is
