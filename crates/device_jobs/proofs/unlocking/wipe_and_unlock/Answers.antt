use Rattle.std.proofs.Common.{sym, subst}
use Rattle.std.specs.Prelude.{IsTrue}
use Rattle.dev_model.specs.Partitions.{is_fastboot}
use Rattle.dev_store.specs.Held.{image_of}
use Rattle.device_jobs.proofs.UnlockLemmas.{kept-then, tells-still, leaves-partly, leaves-around, ends-stored, leaves-ended}
use Rattle.device_jobs.proofs.unlocking.wipe_and_unlock.Goals as goal

pub returns-in_default-clause-left : goal.returns-in_default-clause-left
returns-in_default-clause-left g c = λ honest.
    leaves-partly (image_of g.K.Disk.told c.wipe.new.store) c.args.store.now.device c.wipe.new.store.device c.requires.fastboot c.requires.locked c.wipe.ensures.left c.wipe.ensures.sound.stands

pub store_unlocked-requires-clause-fastboot : goal.store_unlocked-requires-clause-fastboot
store_unlocked-requires-clause-fastboot g c = subst (λ m. IsTrue (is_fastboot m)) (sym c.in-Ok.ensures.mode) c.requires.fastboot

pub returns-in_default-store_unlocked-clause-left : goal.returns-in_default-store_unlocked-clause-left
returns-in_default-store_unlocked-clause-left g c = λ honest.
    let told = g.K.Disk.told in
    let b = c.wipe.new.store in
    let d = c.store_unlocked.new.store in
    leaves-around (image_of told b) (image_of told d) c.args.store.now.device b.device c.requires.fastboot c.requires.locked
    (tells-still told g.K.Disk.lent b.disk d.disk c.store_unlocked.ensures.kept (g.met.K.Disk.agrees b.disk) (g.met.K.Disk.agrees d.disk)) c.in-Ok.ensures.wiped c.wipe.ensures.left (c.in_default-store_unlocked.ensures.around honest)

pub returns-in_default-store_unlocked-clause-kept : goal.returns-in_default-store_unlocked-clause-kept
returns-in_default-store_unlocked-clause-kept g c =
    kept-then g.K.Disk.told g.K.Disk.lent c.args.store.now.disk c.wipe.new.store.disk c.store_unlocked.new.store.disk c.wipe.ensures.kept c.store_unlocked.ensures.kept

pub returns-clause-done : goal.returns-clause-done
returns-clause-done g c =
    let told = g.K.Disk.told in
    let b = c.wipe.new.store in
    let d = c.store_unlocked.new.store in
    ends-stored (image_of told b) (image_of told d) c.args.store.now.device b.device d.device c.requires.fastboot c.requires.locked
    (tells-still told g.K.Disk.lent b.disk d.disk c.store_unlocked.ensures.kept (g.met.K.Disk.agrees b.disk) (g.met.K.Disk.agrees d.disk)) c.in-Ok.ensures.wiped c.in-Ok-store_unlocked.ensures.stored
    c.in-Ok-store_unlocked.ensures.whole.sound.stands c.in-Ok-store_unlocked.ensures.whole.settled

pub returns-clause-left : goal.returns-clause-left
returns-clause-left g c = λ honest.
    let told = g.K.Disk.told in
    let b = c.wipe.new.store in
    let d = c.store_unlocked.new.store in
    leaves-ended (image_of told d) c.args.store.now.device c.requires.locked
    (ends-stored (image_of told b) (image_of told d) c.args.store.now.device b.device d.device c.requires.fastboot c.requires.locked
    (tells-still told g.K.Disk.lent b.disk d.disk c.store_unlocked.ensures.kept (g.met.K.Disk.agrees b.disk) (g.met.K.Disk.agrees d.disk)) c.in-Ok.ensures.wiped c.in-Ok-store_unlocked.ensures.stored
    c.in-Ok-store_unlocked.ensures.whole.sound.stands c.in-Ok-store_unlocked.ensures.whole.settled)

pub returns-clause-kept : goal.returns-clause-kept
returns-clause-kept g c =
    kept-then g.K.Disk.told g.K.Disk.lent c.args.store.now.disk c.wipe.new.store.disk c.store_unlocked.new.store.disk c.wipe.ensures.kept c.store_unlocked.ensures.kept
