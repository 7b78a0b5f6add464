use Rattle.std.proofs.Common.{List, ◌++◌, map, false, true}
use Rattle.std.specs.Prelude.{flat_map}
use Rattle.fb_frame.specs.declared.slot.Slot.TheVariants.{A, B}
use Rattle.dev_model.specs.declared.device.Dev.{Dev}
use Rattle.dev_model.specs.Variables.{Row as NamedText, device_rows, slot_rows, with_slots_only, partition_rows}
use Rattle.dev_store.specs.ToldRows.{told_device}
use Rattle.dev_store.proofs.ToldLemmas.{found-first, later-then}
use Rattle.dev_store.proofs.variables_told.plain_step.Goals as goal

abbrev vars-list : Dev → List NamedText
vars-list d = map (λ v. (v.name, v.text)) d.vars

abbrev slots-list : Dev → List NamedText
slots-list d = with_slots_only d (slot_rows A d.flags.a ++ slot_rows B d.flags.b)

abbrev physical-list : Dev → List NamedText
physical-list d = flat_map (λ p. partition_rows false p.name p.bytes) d.physical

abbrev logical-list : Dev → List NamedText
logical-list d = flat_map (λ p. partition_rows true p.name p.bytes) d.logical

pub returns-in-Found : goal.returns-in-Found
returns-in-Found c = let d = told_device c.args.facts.now in
    found-first (((device_rows d ++ vars-list d) ++ slots-list d) ++ physical-list d) (logical-list d) _
    (found-first ((device_rows d ++ vars-list d) ++ slots-list d) (physical-list d) _
    (found-first (device_rows d ++ vars-list d) (slots-list d) _
    (found-first (device_rows d) (vars-list d) _ c.in-Found.ensures)))

pub returns-in-Found-variable_step : goal.returns-in-Found-variable_step
returns-in-Found-variable_step c = let d = told_device c.args.facts.now in
    found-first (((device_rows d ++ vars-list d) ++ slots-list d) ++ physical-list d) (logical-list d) _
    (found-first ((device_rows d ++ vars-list d) ++ slots-list d) (physical-list d) _
    (found-first (device_rows d ++ vars-list d) (slots-list d) _
    (later-then (device_rows d) (vars-list d) _ _ c.in-Later.ensures c.in-Found-variable_step.ensures)))

pub returns-in-Found-slots_step : goal.returns-in-Found-slots_step
returns-in-Found-slots_step c = let d = told_device c.args.facts.now in
    found-first (((device_rows d ++ vars-list d) ++ slots-list d) ++ physical-list d) (logical-list d) _
    (found-first ((device_rows d ++ vars-list d) ++ slots-list d) (physical-list d) _
    (later-then (device_rows d ++ vars-list d) (slots-list d) _ _
    (later-then (device_rows d) (vars-list d) _ _ c.in-Later.ensures c.in-Later-variable_step.ensures) c.in-Found-slots_step.ensures))

pub returns-in-Found-physical_step : goal.returns-in-Found-physical_step
returns-in-Found-physical_step c = let d = told_device c.args.facts.now in
    found-first (((device_rows d ++ vars-list d) ++ slots-list d) ++ physical-list d) (logical-list d) _
    (later-then ((device_rows d ++ vars-list d) ++ slots-list d) (physical-list d) _ _
    (later-then (device_rows d ++ vars-list d) (slots-list d) _ _
    (later-then (device_rows d) (vars-list d) _ _ c.in-Later.ensures c.in-Later-variable_step.ensures) c.in-Later-slots_step.ensures) c.in-Found-physical_step.ensures)

pub returns : goal.returns
returns c = let d = told_device c.args.facts.now in
    later-then (((device_rows d ++ vars-list d) ++ slots-list d) ++ physical-list d) (logical-list d) _ _
    (later-then ((device_rows d ++ vars-list d) ++ slots-list d) (physical-list d) _ _
    (later-then (device_rows d ++ vars-list d) (slots-list d) _ _
    (later-then (device_rows d) (vars-list d) _ _ c.in-Later.ensures c.in-Later-variable_step.ensures) c.in-Later-slots_step.ensures) c.in-Later-physical_step.ensures) c.logical_step.ensures
