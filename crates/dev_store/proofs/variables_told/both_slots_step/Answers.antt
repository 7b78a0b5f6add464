use Rattle.fb_frame.specs.declared.slot.Slot.TheVariants.{A, B}
use Rattle.dev_model.specs.Variables.{slot_rows}
use Rattle.dev_store.specs.ToldRows.{told_device}
use Rattle.dev_store.proofs.ToldLemmas.{found-first, later-then}
use Rattle.dev_store.proofs.variables_told.both_slots_step.Goals as goal

pub returns-in-Found : goal.returns-in-Found
returns-in-Found c = let d = told_device c.args.facts.now in found-first (slot_rows A d.flags.a) (slot_rows B d.flags.b) _ c.in-Found.ensures

pub returns : goal.returns
returns c = let d = told_device c.args.facts.now in later-then (slot_rows A d.flags.a) (slot_rows B d.flags.b) _ _ c.in-Later.ensures c.slot_step-2.ensures
