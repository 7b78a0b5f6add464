use Rattle.device_engine.specs.Running.{held_of}
use Rattle.device_session.proofs.StillLemmas.{still-locked}
use Rattle.device_session.proofs.responder.Responder.hear.Goals as goal

pub returns-in-More-clause-locked : goal.returns-in-More-clause-locked
returns-in-More-clause-locked g c = still-locked g.K.Disk.told (held_of c.args.self.now.device) c.requires.fastboot

pub returns-in-Greeting-clause-locked : goal.returns-in-Greeting-clause-locked
returns-in-Greeting-clause-locked g c = still-locked g.K.Disk.told (held_of c.args.self.now.device) c.requires.fastboot

pub returns-in-TooLong-clause-locked : goal.returns-in-TooLong-clause-locked
returns-in-TooLong-clause-locked g c = still-locked g.K.Disk.told (held_of c.args.self.now.device) c.requires.fastboot

pub returns-then-whole-clause-locked : goal.returns-then-whole-clause-locked
returns-then-whole-clause-locked g c = still-locked g.K.Disk.told (held_of c.args.self.now.device) c.requires.fastboot

pub returns-else-whole-clause-locked : goal.returns-else-whole-clause-locked
returns-else-whole-clause-locked g c = still-locked g.K.Disk.told (held_of c.args.self.now.device) c.requires.fastboot
