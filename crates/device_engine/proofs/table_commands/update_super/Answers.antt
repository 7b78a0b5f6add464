use Rattle.std.proofs.Common.{refl, sym}
use Rattle.std.specs.Prelude.{option_and_then}
use Rattle.dev_model.specs.RefusalTexts.{text_of}
use Rattle.dev_model.specs.Refusals.{update_refusal}
use Rattle.fb_message.specs.CommandText.{UpdateSuper}
use Rattle.wire_model.specs.Says.{updates}
use Rattle.wire_model.specs.TableFile.{tables_of}
use Rattle.device_engine.specs.Running.{loaded_value}
use Rattle.device_engine.specs.Working.{ordered}
use Rattle.device_engine.proofs.DecidedLemmas.{refuses}
use Rattle.device_engine.proofs.SaysLemmas.{says-update}
use Rattle.device_engine.proofs.TableLemmas.{update-barred}
use Rattle.device_engine.proofs.table_commands.update_super.Goals as goal

pub returns-in-Some-clause-worked : goal.returns-in-Some-clause-worked
returns-in-Some-clause-worked g c =
    let old = c.args.store.now in
    let name = c.args.name.now in
    let wipe = c.args.wipe in
    let loaded = loaded_value c.args.loaded.now in
    refuses g.K.Disk.told old old (ordered loaded (UpdateSuper name wipe)) (update_refusal old.device loaded (option_and_then tables_of loaded) name wipe) (updates (option_and_then tables_of loaded) wipe)
    (says-update old.device loaded name wipe) (text_of c.in-Some.refusal)
    (update-barred old.device loaded (option_and_then tables_of loaded) name wipe (text_of c.in-Some.refusal) (sym c.in-Some.ensures.bar)) c.requires.whole refl
