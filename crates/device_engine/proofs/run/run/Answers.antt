use Rattle.fb_message.specs.CommandText.{command_value}
use Rattle.device_engine.specs.Running.{held_of, order, answer}
use Rattle.device_engine.proofs.KeptLemmas.{live-fastboot, told-still}
use Rattle.device_engine.proofs.LockedLemmas.{ran-locked}
use Rattle.device_engine.proofs.run.run.Goals as goal

pub returns-clause-locked : goal.returns-clause-locked
returns-clause-locked g c =
    let told = g.K.Disk.told in
    let old = c.args.store in
    let run = c.answer_to in
    let new = held_of run.result.device in
    ran-locked told old new (order c.args.loaded.now (command_value c.args.command.now)) (answer run.new.replies run.result.due run.result.closes)
    c.requires.whole.sound (live-fastboot old.device.mode c.requires.fastboot)
    (told-still (told old.disk) (told new.disk) (g.met.K.Disk.agrees old.disk) (g.met.K.Disk.agrees new.disk) run.ensures.follows.kept.kept)
    run.ensures.ran
