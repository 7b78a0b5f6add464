use Rattle.std.proofs.Common.{refl, sym, subst}
use Rattle.dev_model.specs.RefusalTexts.{text_of}
use Rattle.dev_model.specs.Refusals.{resize_refusal}
use Rattle.dev_model.specs.declared.step.Step.TheVariants as step
use Rattle.dev_model.specs.Steps.{apply}
use Rattle.fb_message.specs.CommandText.{Resize}
use Rattle.dev_store.specs.Changes.{resize_flaw}
use Rattle.dev_store.proofs.RefusalLemmas.{resize_refuses}
use Rattle.device_engine.specs.Working.{ordered, Worked}
use Rattle.device_engine.proofs.SaysLemmas.{says-resize}
use Rattle.device_engine.proofs.DecidedLemmas.{refuses, ends}
use Rattle.device_engine.proofs.HaltLemmas.{tells-still}
use Rattle.device_engine.proofs.TableLemmas.{free, resize-barred, resize-honest, halts-resize}
use Rattle.device_engine.proofs.table_commands.resize.Goals as goal

pub returns-in-Some-clause-worked : goal.returns-in-Some-clause-worked
returns-in-Some-clause-worked g c loaded =
    let old = c.args.store.now in
    refuses g.K.Disk.told old old (ordered loaded (Resize c.args.name.now c.args.size)) (resize_refusal old.device c.args.name.now c.args.size) (apply (step.Resize c.args.name.now c.args.size)) (says-resize old.device loaded c.args.name.now c.args.size) (text_of c.in-Some.refusal)
    (resize-barred old.device c.args.name.now c.args.size (text_of c.in-Some.refusal) (sym c.in-Some.ensures.bar)) c.requires.whole refl

pub returns-in-None-clause-worked : goal.returns-in-None-clause-worked
returns-in-None-clause-worked g c loaded =
    let told = g.K.Disk.told in
    let old = c.args.store.now in
    let new = c.resize.new.self in
    let unlocked = free old.device (sym c.in-None.ensures.bar) in
    subst (Worked told old new (ordered loaded (Resize c.args.name.now c.args.size))) (sym c.ended.ensures.ended)
    (ends told old new (ordered loaded (Resize c.args.name.now c.args.size)) (resize_refusal old.device c.args.name.now c.args.size) (apply (step.Resize c.args.name.now c.args.size)) (says-resize old.device loaded c.args.name.now c.args.size) (resize_flaw old.device c.args.name.now c.args.size) c.resize.result
    (resize_refuses old.device c.args.name.now c.args.size unlocked.0 unlocked.1) (resize-honest old.device c.args.name.now c.args.size) (halts-resize old.device loaded c.args.name.now c.args.size) c.requires.whole
    (tells-still told g.K.Disk.lent old.disk new.disk c.resize.ensures.kept (g.met.K.Disk.agrees old.disk) (g.met.K.Disk.agrees new.disk)) refl refl c.resize.ensures.decided c.resize.ensures.unchanged
    c.resize.ensures.changed c.resize.ensures.whole c.resize.ensures.around)
