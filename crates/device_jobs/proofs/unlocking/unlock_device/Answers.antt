use Rattle.std.proofs.Common.{◌≡◌, ◌∙◌, ap, sym, false}
use Rattle.dev_store.specs.Held.{image_of}
use Rattle.dev_store.specs.declared.state.State.{State}
use Rattle.dev_model.proofs.Valid.{not-back}
use Rattle.device_jobs.proofs.UnlockLemmas.{leaves-same, ends-by, left-as-it-is}
use Rattle.device_jobs.proofs.unlocking.unlock_device.Goals as goal

pub returns-then-not-state-clause-done : goal.returns-then-not-state-clause-done
returns-then-not-state-clause-done g c =
    let dev = c.args.store.now.device in
    let unlocked : dev.locked ≡ false = sym (ap (λ (s : State). s.locked) c.state.ensures.state) ∙ not-back c.state.result.locked c.if-not-state.true in
    ends-by (image_of g.K.Disk.told c.args.store.now) dev dev c.requires.fastboot c.requires.whole.sound.stands c.requires.whole.settled (sym (left-as-it-is dev unlocked))

pub returns-then-not-state-clause-left : goal.returns-then-not-state-clause-left
returns-then-not-state-clause-left g c = λ honest.
    leaves-same (image_of g.K.Disk.told c.args.store.now) c.args.store.now.device c.requires.fastboot c.requires.whole.sound.stands
