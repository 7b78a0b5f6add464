use Rattle.std.proofs.Common.{refl}
use Rattle.fb_message.specs.CommandText.{command_value}
use Rattle.device_engine.specs.Running.{held_of, order}
use Rattle.device_engine.proofs.KeptLemmas.{follows-made, kept-self, max-in, order-in}
use Rattle.device_engine.proofs.TellLemmas.{told-ran}
use Rattle.device_engine.proofs.told.stay.Goals as goal

pub returns-clause-ran : goal.returns-clause-ran
returns-clause-ran g c =
    told-ran g.K.Disk.told c.args.store (held_of c.new.result) (order c.args.loaded.now (command_value c.args.command.now)) c.tell-due.new.replies c.tell-due.result
    c.requires.whole c.requires.told c.new.ensures.held c.tell-due.ensures.replied c.tell-due.ensures.due

pub returns-clause-follows : goal.returns-clause-follows
returns-clause-follows g c =
    let store = c.args.store in
    let told = g.K.Disk.told in
    follows-made told g.K.Disk.lent store store c.new.result c.new.ensures.typed c.new.ensures.held (order-in told store.device.mode store c.requires.whole)
    (max-in store.device.mode store.device.max store.device refl) (kept-self told g.K.Disk.lent store.disk)
