use Rattle.std.proofs.Common.{refl, sym, subst}
use Rattle.dev_model.specs.RefusalTexts.{text_of}
use Rattle.dev_model.specs.Refusals.{create_refusal}
use Rattle.dev_model.specs.Steps.{created}
use Rattle.fb_message.specs.CommandText.{Create}
use Rattle.dev_store.specs.Changes.{create_flaw}
use Rattle.dev_store.proofs.RefusalLemmas.{create_refuses}
use Rattle.device_engine.specs.Working.{ordered, Worked}
use Rattle.device_engine.proofs.SaysLemmas.{says-create}
use Rattle.device_engine.proofs.DecidedLemmas.{refuses, ends}
use Rattle.device_engine.proofs.HaltLemmas.{tells-still}
use Rattle.device_engine.proofs.TableLemmas.{free, create-barred, create-honest, halts-create}
use Rattle.device_engine.proofs.table_commands.create.Goals as goal

pub returns-in-Some-clause-worked : goal.returns-in-Some-clause-worked
returns-in-Some-clause-worked g c loaded =
    let old = c.args.store.now in
    refuses g.K.Disk.told old old (ordered loaded (Create c.args.name.now c.args.size)) (create_refusal old.device c.args.name.now c.args.size) (created c.args.name.now c.args.size) (says-create old.device loaded c.args.name.now c.args.size) (text_of c.in-Some.refusal)
    (create-barred old.device c.args.name.now c.args.size (text_of c.in-Some.refusal) (sym c.in-Some.ensures.bar)) c.requires.whole refl

pub returns-in-None-clause-worked : goal.returns-in-None-clause-worked
returns-in-None-clause-worked g c loaded =
    let told = g.K.Disk.told in
    let old = c.args.store.now in
    let new = c.create.new.self in
    let unlocked = free old.device (sym c.in-None.ensures.bar) in
    subst (Worked told old new (ordered loaded (Create c.args.name.now c.args.size))) (sym c.ended.ensures.ended)
    (ends told old new (ordered loaded (Create c.args.name.now c.args.size)) (create_refusal old.device c.args.name.now c.args.size) (created c.args.name.now c.args.size) (says-create old.device loaded c.args.name.now c.args.size) (create_flaw old.device c.args.name.now c.args.size) c.create.result
    (create_refuses old.device c.args.name.now c.args.size unlocked.0 unlocked.1) (create-honest old.device c.args.name.now c.args.size) (halts-create old.device loaded c.args.name.now c.args.size) c.requires.whole
    (tells-still told g.K.Disk.lent old.disk new.disk c.create.ensures.kept (g.met.K.Disk.agrees old.disk) (g.met.K.Disk.agrees new.disk)) refl refl c.create.ensures.decided c.create.ensures.unchanged
    c.create.ensures.changed c.create.ensures.whole c.create.ensures.around)
