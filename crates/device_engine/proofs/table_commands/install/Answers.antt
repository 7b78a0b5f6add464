use Rattle.std.proofs.Common.{refl, sym, subst, codes, Some}
use Rattle.std.specs.Prelude.{option_and_then}
use Rattle.dev_model.specs.Refusals.{update_refusal}
use Rattle.fb_message.specs.CommandText.{UpdateSuper}
use Rattle.super_meta.specs.Held.{tables_of_image}
use Rattle.dev_store.specs.Changes.{install_flaw, installed}
use Rattle.dev_store.proofs.RefusalLemmas.{install_refuses}
use Rattle.device_engine.specs.Working.{ordered, Worked}
use Rattle.device_engine.proofs.DecidedLemmas.{refuses, ends}
use Rattle.device_engine.proofs.HaltLemmas.{tells-still}
use Rattle.device_engine.proofs.TableLemmas.{free, update-unnamed, install-honest, halts-update, says-install, installed-mode, installed-max}
use Rattle.device_engine.proofs.table_commands.install.Goals as goal

pub returns-then-is_super-clause-worked : goal.returns-then-is_super-clause-worked
returns-then-is_super-clause-worked g c =
    let told = g.K.Disk.told in
    let old = c.args.store.now in
    let new = c.install_table.new.self in
    let file = c.args.file.now in
    let tables = tables_of_image file in
    let name = c.args.name.now in
    let wipe = c.args.wipe in
    let unlocked = free old.device c.requires.free in
    subst (Worked told old new (ordered (Some file) (UpdateSuper name wipe))) (sym c.ended.ensures.ended)
    (ends told old new (ordered (Some file) (UpdateSuper name wipe)) (update_refusal old.device (Some file) (option_and_then tables_of_image (Some file)) name wipe) (installed tables wipe)
    (says-install old.device file name wipe) (install_flaw tables wipe old.device) c.install_table.result
    (install_refuses old.device file name wipe unlocked.0 unlocked.1 (sym c.if-is_super.ensures.named)) (install-honest tables wipe old.device)
    (halts-update old.device (Some file) name wipe (installed tables wipe old.device)) c.requires.whole
    (tells-still told g.K.Disk.lent old.disk new.disk c.install_table.ensures.kept (g.met.K.Disk.agrees old.disk) (g.met.K.Disk.agrees new.disk)) (installed-mode tables wipe old.device)
    (installed-max tables wipe old.device) c.install_table.ensures.decided c.install_table.ensures.unchanged c.install_table.ensures.changed c.install_table.ensures.whole c.install_table.ensures.around)

pub returns-else-is_super-clause-worked : goal.returns-else-is_super-clause-worked
returns-else-is_super-clause-worked g c =
    let old = c.args.store.now in
    let file = c.args.file.now in
    let name = c.args.name.now in
    let wipe = c.args.wipe in
    refuses g.K.Disk.told old old (ordered (Some file) (UpdateSuper name wipe)) (update_refusal old.device (Some file) (option_and_then tables_of_image (Some file)) name wipe)
    (installed (tables_of_image file) wipe) (says-install old.device file name wipe) (codes "no such partition")
    (update-unnamed old.device file (option_and_then tables_of_image (Some file)) name wipe c.requires.free (sym c.if-is_super.ensures.named)) c.requires.whole refl
