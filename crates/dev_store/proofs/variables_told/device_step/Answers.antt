use Rattle.std.proofs.Common.{◌++◌}
use Rattle.dev_model.specs.Variables.{super_row}
use Rattle.dev_store.proofs.ToldLemmas.{found-first, later-then, label-list, current-list, limit-list}
use Rattle.dev_store.proofs.variables_told.device_step.Goals as goal

pub returns-in-Found : goal.returns-in-Found
returns-in-Found c = let f = c.args.facts.now in found-first (label-list f) (current-list f ++ (limit-list f ++ super_row f.super_name)) _ c.in-Found.ensures

pub returns-in-Found-current_slot_step : goal.returns-in-Found-current_slot_step
returns-in-Found-current_slot_step c = let f = c.args.facts.now in
    later-then (label-list f) (current-list f ++ (limit-list f ++ super_row f.super_name)) _ _ c.in-Later.ensures
    (found-first (current-list f) (limit-list f ++ super_row f.super_name) _ c.in-Found-current_slot_step.ensures)

pub returns-in-Found-limits_step : goal.returns-in-Found-limits_step
returns-in-Found-limits_step c = let f = c.args.facts.now in
    later-then (label-list f) (current-list f ++ (limit-list f ++ super_row f.super_name)) _ _ c.in-Later.ensures
    (later-then (current-list f) (limit-list f ++ super_row f.super_name) _ _ c.in-Later-current_slot_step.ensures
    (found-first (limit-list f) (super_row f.super_name) _ c.in-Found-limits_step.ensures))

pub returns : goal.returns
returns c = let f = c.args.facts.now in
    later-then (label-list f) (current-list f ++ (limit-list f ++ super_row f.super_name)) _ _ c.in-Later.ensures
    (later-then (current-list f) (limit-list f ++ super_row f.super_name) _ _ c.in-Later-current_slot_step.ensures
    (later-then (limit-list f) (super_row f.super_name) _ _ c.in-Later-limits_step.ensures c.super_step.ensures))
