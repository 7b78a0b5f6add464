use Rattle.std.proofs.Common.{refl, subst, codes, None}
use Rattle.std.specs.Prelude.{option_and_then}
use Rattle.dev_model.specs.Refusals.{update_refusal}
use Rattle.fb_message.specs.CommandText.{UpdateSuper}
use Rattle.fb_message.specs.declared.reply.Reply.TheVariants.{Fail}
use Rattle.wire_model.specs.Says.{updates}
use Rattle.wire_model.specs.TableFile.{tables_of}
use Rattle.device_engine.specs.Working.{ordered, IsAnswered}
use Rattle.device_engine.proofs.DecidedLemmas.{refuses}
use Rattle.device_engine.proofs.SaysLemmas.{says-update}
use Rattle.device_engine.proofs.TableLemmas.{update-unloaded}
use Rattle.device_engine.proofs.table_commands.install_loaded.Goals as goal

pub returns-in-None-clause-worked : goal.returns-in-None-clause-worked
returns-in-None-clause-worked g c =
    let told = g.K.Disk.told in
    let old = c.args.store.now in
    let name = c.args.name.now in
    let wipe = c.args.wipe in
    subst (λ l. IsAnswered told old old (ordered l (UpdateSuper name wipe)) (Fail (codes "nothing downloaded"))) c.in-None.ensures.bytes
    (refuses told old old (ordered None (UpdateSuper name wipe)) (update_refusal old.device None (option_and_then tables_of None) name wipe) (updates (option_and_then tables_of None) wipe)
    (says-update old.device None name wipe) (codes "nothing downloaded") (update-unloaded old.device (option_and_then tables_of None) name wipe c.requires.free) c.requires.whole refl)
