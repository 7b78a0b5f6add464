use Rattle.dev_store.specs.Held.{image_of}
use Rattle.device_jobs.proofs.UnlockLemmas.{leaves-same}
use Rattle.device_jobs.proofs.unlocking.unlock_store.Goals as goal

pub returns-in_err-line-clause-left : goal.returns-in_err-line-clause-left
returns-in_err-line-clause-left g c = λ honest.
    leaves-same (image_of g.K.Disk.told c.args.store.now) c.args.store.now.device c.requires.fastboot c.requires.whole.sound.stands
