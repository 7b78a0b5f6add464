use Rattle.std.proofs.Common.{◌≡◌, ◌∙◌, refl, ap, sym, subst, codes}
use Rattle.dev_model.specs.Refusals.{active_refusal}
use Rattle.dev_model.specs.Steps.{activated}
use Rattle.fb_message.specs.CommandText.{SetActive}
use Rattle.dev_store.specs.States.{with_state}
use Rattle.device_engine.specs.Working.{ordered, activated_state, Worked}
use Rattle.device_engine.proofs.SaysLemmas.{says-active}
use Rattle.device_engine.proofs.DecidedLemmas.{refuses}
use Rattle.device_engine.proofs.HaltLemmas.{tells-still}
use Rattle.device_engine.proofs.StateLemmas.{active-locked, active-slotless, active-taken, fits-active-as, activated-as, state-ends, halts-active, back-true, back-false}
use Rattle.device_engine.proofs.state_commands.set_active.Goals as goal

pub returns-then-is_locked-clause-worked : goal.returns-then-is_locked-clause-worked
returns-then-is_locked-clause-worked g c loaded =
    let old = c.args.store.now in
    refuses g.K.Disk.told old old (ordered loaded (SetActive c.args.slot)) (active_refusal old.device) (activated c.args.slot) (says-active old.device loaded c.args.slot) (codes "locked")
    (active-locked old.device (sym c.if-is_locked.ensures.locked)) c.requires.whole refl

pub returns-then-lacks_slots-clause-worked : goal.returns-then-lacks_slots-clause-worked
returns-then-lacks_slots-clause-worked g c loaded =
    let old = c.args.store.now in
    refuses g.K.Disk.told old old (ordered loaded (SetActive c.args.slot)) (active_refusal old.device) (activated c.args.slot) (says-active old.device loaded c.args.slot) (codes "no slots")
    (active-slotless old.device (sym c.if-is_locked.ensures.locked) (back-true _ (sym c.if-lacks_slots.ensures.slots))) c.requires.whole refl

pub set_state-requires-clause-fits : goal.set_state-requires-clause-fits
set_state-requires-clause-fits g c =
    fits-active-as c.args.slot c.args.store.now.device c.state.result c.activated-state.result c.state.ensures.valid (back-false _ (sym c.if-lacks_slots.ensures.slots)) c.state.ensures.state c.activated-state.ensures.activated

pub returns-clause-worked : goal.returns-clause-worked
returns-clause-worked g c loaded =
    let told = g.K.Disk.told in
    let old = c.args.store.now in
    let new = c.set_state.new.self in
    let is : with_state c.activated-state.result old.device ≡ activated c.args.slot old.device =
    ap (λ s. with_state s old.device) (c.activated-state.ensures.activated ∙ ap (activated_state c.args.slot) c.state.ensures.state) ∙ activated-as c.args.slot old.device c.requires.fastboot in
    subst (Worked told old new (ordered loaded (SetActive c.args.slot))) (sym c.ended.ensures.ended)
    (state-ends told old new (ordered loaded (SetActive c.args.slot)) (active_refusal old.device) (activated c.args.slot) (says-active old.device loaded c.args.slot) c.activated-state.result c.set_state.result
    (active-taken old.device (sym c.if-is_locked.ensures.locked) (back-false _ (sym c.if-lacks_slots.ensures.slots))) is (halts-active old.device loaded c.args.slot) c.requires.whole
    (tells-still told g.K.Disk.lent old.disk new.disk c.set_state.ensures.kept (g.met.K.Disk.agrees old.disk) (g.met.K.Disk.agrees new.disk)) refl refl c.set_state.ensures.decided c.set_state.ensures.changed
    c.set_state.ensures.whole c.set_state.ensures.around)
