use Rattle.std.proofs.Common.{◌++◌, sym, ap, ◌∙◌, append_assoc}
use Rattle.fb_frame.specs.declared.slot.Slot.TheVariants.{A, B}
use Rattle.dev_model.specs.Variables.{slot_rows}
use Rattle.dev_model.proofs.RowLemmas.{when_slots}
use Rattle.dev_model.proofs.variables.push_slots.Goals as goal

pub returns-in_ok-push_slot-2 : goal.returns-in_ok-push_slot-2
returns-in_ok-push_slot-2 c =
    let flags = c.args.dev.now.flags in
    when_slots c.args.dev.now c.args.rows.now c.push_slot-then-has_slots.new.rows (slot_rows A flags.a ++ slot_rows B flags.b) (sym c.has_slots.ensures ∙ c.if-has_slots.true)
    (c.in_ok-push_slot-2.ensures ∙ ap (λ t. t ++ slot_rows B flags.b) c.in_ok-push_slot.ensures ∙ append_assoc c.args.rows.now (slot_rows A flags.a) (slot_rows B flags.b))
