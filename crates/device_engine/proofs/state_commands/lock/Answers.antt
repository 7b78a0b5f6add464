use Rattle.std.proofs.Common.{◌≡◌, ◌∙◌, refl, ap, sym, subst, codes, true}
use Rattle.dev_model.specs.Refusals.{lock_refusal}
use Rattle.dev_model.specs.Steps.{relocked}
use Rattle.fb_message.specs.CommandText.{Lock}
use Rattle.dev_store.specs.declared.state.State.{State}
use Rattle.dev_store.specs.States.{with_state}
use Rattle.device_engine.specs.Working.{ordered, Worked}
use Rattle.device_engine.proofs.SaysLemmas.{says-lock}
use Rattle.device_engine.proofs.DecidedLemmas.{refuses}
use Rattle.device_engine.proofs.HaltLemmas.{tells-still}
use Rattle.device_engine.proofs.StateLemmas.{lock-locked, lock-taken, fits-lock-as, locked-as, state-ends, halts-lock}
use Rattle.device_engine.proofs.state_commands.lock.Goals as goal

pub returns-then-is_locked-clause-worked : goal.returns-then-is_locked-clause-worked
returns-then-is_locked-clause-worked g c loaded =
    let old = c.args.store.now in
    refuses g.K.Disk.told old old (ordered loaded Lock) (lock_refusal old.device) relocked (says-lock old.device loaded) (codes "already locked")
    (lock-locked old.device (sym c.if-is_locked.ensures.locked)) c.requires.whole refl

pub set_state-requires-clause-fits : goal.set_state-requires-clause-fits
set_state-requires-clause-fits g c = fits-lock-as c.args.store.now.device c.state.result c.locked-state.result c.state.ensures.valid c.state.ensures.state c.locked-state.ensures.locked

pub returns-clause-worked : goal.returns-clause-worked
returns-clause-worked g c loaded =
    let told = g.K.Disk.told in
    let old = c.args.store.now in
    let new = c.set_state.new.self in
    let is : with_state c.locked-state.result old.device ≡ relocked old.device =
    ap (λ s. with_state s old.device) (c.locked-state.ensures.locked ∙ ap {A = State} {B = State} (λ s. record s { locked = true }) c.state.ensures.state) ∙ locked-as old.device c.requires.fastboot in
    subst (Worked told old new (ordered loaded Lock)) (sym c.ended.ensures.ended)
    (state-ends told old new (ordered loaded Lock) (lock_refusal old.device) relocked (says-lock old.device loaded) c.locked-state.result c.set_state.result
    (lock-taken old.device (sym c.if-is_locked.ensures.locked)) is (halts-lock old.device loaded) c.requires.whole
    (tells-still told g.K.Disk.lent old.disk new.disk c.set_state.ensures.kept (g.met.K.Disk.agrees old.disk) (g.met.K.Disk.agrees new.disk)) refl refl c.set_state.ensures.decided c.set_state.ensures.changed
    c.set_state.ensures.whole c.set_state.ensures.around)
