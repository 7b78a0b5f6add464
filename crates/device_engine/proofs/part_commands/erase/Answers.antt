use Rattle.std.proofs.Common.{refl, sym, codes}
use Rattle.dev_model.specs.declared.step.Step.TheVariants as step
use Rattle.dev_model.specs.Refusals.{erase_refusal}
use Rattle.dev_model.specs.Steps.{apply}
use Rattle.fb_message.specs.CommandText.{Erase}
use Rattle.device_engine.specs.Working.{ordered}
use Rattle.device_engine.proofs.SaysLemmas.{says-erase}
use Rattle.device_engine.proofs.DecidedLemmas.{refuses, does, accepts}
use Rattle.device_engine.proofs.PartLemmas.{erase-locked, erase-unnamed, erase-taken, halts-erase, stops}
use Rattle.device_engine.proofs.part_commands.erase.Goals as goal

pub returns-then-is_locked-clause-worked : goal.returns-then-is_locked-clause-worked
returns-then-is_locked-clause-worked g c loaded =
    let old = c.args.store.now in
    let name = c.args.name.now in
    refuses g.K.Disk.told old old (ordered loaded (Erase name)) (erase_refusal old.device name) (apply (step.Wipe name)) (says-erase old.device loaded name) (codes "locked")
    (erase-locked old.device name (sym c.if-is_locked.ensures.locked)) c.requires.whole refl

pub returns-then-not-is_target-clause-worked : goal.returns-then-not-is_target-clause-worked
returns-then-not-is_target-clause-worked g c loaded =
    let old = c.args.store.now in
    let name = c.args.name.now in
    refuses g.K.Disk.told old old (ordered loaded (Erase name)) (erase_refusal old.device name) (apply (step.Wipe name)) (says-erase old.device loaded name) (codes "no such partition")
    (erase-unnamed old.device name (sym c.if-is_locked.ensures.locked) (sym c.if-not-is_target.ensures.target)) c.requires.whole refl

pub returns-in_default-clause-worked : goal.returns-in_default-clause-worked
returns-in_default-clause-worked g c loaded =
    let told = g.K.Disk.told in
    let old = c.args.store.now in
    let new = c.wipe.new.store in
    let name = c.args.name.now in
    let taken = erase-taken old.device name (sym c.if-is_locked.ensures.locked) (sym c.if-not-is_target.ensures.target) in
    let torn = c.in_default.ensures.torn in
    stops told name old new (ordered loaded (Erase name))
    (record {
      accepted = accepts told old new (ordered loaded (Erase name)) (erase_refusal old.device name) (apply (step.Wipe name)) (says-erase old.device loaded name) taken;
      change = halts-erase told name old new loaded torn;
    })
    torn.sound torn.rose

pub returns-clause-worked : goal.returns-clause-worked
returns-clause-worked g c loaded =
    let told = g.K.Disk.told in
    let old = c.args.store.now in
    let new = c.wipe.new.store in
    let name = c.args.name.now in
    does told old new (ordered loaded (Erase name)) (erase_refusal old.device name) (apply (step.Wipe name)) (says-erase old.device loaded name)
    (erase-taken old.device name (sym c.if-is_locked.ensures.locked) (sym c.if-not-is_target.ensures.target)) c.in-Ok.ensures.wiped c.in-Ok.ensures.whole refl refl
