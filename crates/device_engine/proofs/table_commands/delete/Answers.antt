use Rattle.std.proofs.Common.{refl, sym, subst}
use Rattle.dev_model.specs.RefusalTexts.{text_of}
use Rattle.dev_model.specs.Refusals.{delete_refusal}
use Rattle.dev_model.specs.Steps.{deleted}
use Rattle.fb_message.specs.CommandText.{Delete}
use Rattle.dev_store.specs.Changes.{delete_flaw}
use Rattle.dev_store.proofs.RefusalLemmas.{delete_refuses}
use Rattle.device_engine.specs.Working.{ordered, Worked}
use Rattle.device_engine.proofs.SaysLemmas.{says-delete}
use Rattle.device_engine.proofs.DecidedLemmas.{refuses, ends}
use Rattle.device_engine.proofs.HaltLemmas.{tells-still}
use Rattle.device_engine.proofs.TableLemmas.{free, delete-barred, delete-honest, halts-delete}
use Rattle.device_engine.proofs.table_commands.delete.Goals as goal

pub returns-in-Some-clause-worked : goal.returns-in-Some-clause-worked
returns-in-Some-clause-worked g c loaded =
    let old = c.args.store.now in
    refuses g.K.Disk.told old old (ordered loaded (Delete c.args.name.now)) (delete_refusal old.device c.args.name.now) (deleted c.args.name.now) (says-delete old.device loaded c.args.name.now) (text_of c.in-Some.refusal)
    (delete-barred old.device c.args.name.now (text_of c.in-Some.refusal) (sym c.in-Some.ensures.bar)) c.requires.whole refl

pub returns-in-None-clause-worked : goal.returns-in-None-clause-worked
returns-in-None-clause-worked g c loaded =
    let told = g.K.Disk.told in
    let old = c.args.store.now in
    let new = c.delete.new.self in
    let unlocked = free old.device (sym c.in-None.ensures.bar) in
    subst (Worked told old new (ordered loaded (Delete c.args.name.now))) (sym c.ended.ensures.ended)
    (ends told old new (ordered loaded (Delete c.args.name.now)) (delete_refusal old.device c.args.name.now) (deleted c.args.name.now) (says-delete old.device loaded c.args.name.now) (delete_flaw old.device c.args.name.now) c.delete.result
    (delete_refuses old.device c.args.name.now unlocked.0 unlocked.1) (delete-honest old.device c.args.name.now) (halts-delete old.device loaded c.args.name.now) c.requires.whole
    (tells-still told g.K.Disk.lent old.disk new.disk c.delete.ensures.kept (g.met.K.Disk.agrees old.disk) (g.met.K.Disk.agrees new.disk)) refl refl c.delete.ensures.decided c.delete.ensures.unchanged
    c.delete.ensures.changed c.delete.ensures.whole c.delete.ensures.around)
