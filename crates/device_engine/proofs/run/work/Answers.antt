use Rattle.std.proofs.Common.{ap, sym, subst}
use Rattle.fb_message.specs.CommandText.{command_value}
use Rattle.device_engine.specs.Running.{loaded_value, order}
use Rattle.device_engine.specs.Working.{Worked}
use Rattle.device_engine.proofs.run.work.Goals as goal

pub returns-in-Erase-clause-worked : goal.returns-in-Erase-clause-worked
returns-in-Erase-clause-worked g c =
    subst (λ command. Worked g.K.Disk.told c.args.store.now c.erase.new.store (order c.args.loaded.now command) c.erase.result)
    (sym (ap command_value c.in-Erase.is)) (c.erase.ensures.worked (loaded_value c.args.loaded.now))

pub returns-in-SetActive-clause-worked : goal.returns-in-SetActive-clause-worked
returns-in-SetActive-clause-worked g c =
    subst (λ command. Worked g.K.Disk.told c.args.store.now c.set_active.new.store (order c.args.loaded.now command) c.set_active.result)
    (sym (ap command_value c.in-SetActive.is)) (c.set_active.ensures.worked (loaded_value c.args.loaded.now))

pub returns-in-Lock-clause-worked : goal.returns-in-Lock-clause-worked
returns-in-Lock-clause-worked g c =
    subst (λ command. Worked g.K.Disk.told c.args.store.now c.lock.new.store (order c.args.loaded.now command) c.lock.result)
    (sym (ap command_value c.in-Lock.is)) (c.lock.ensures.worked (loaded_value c.args.loaded.now))

pub returns-in-Create-clause-worked : goal.returns-in-Create-clause-worked
returns-in-Create-clause-worked g c =
    subst (λ command. Worked g.K.Disk.told c.args.store.now c.create.new.store (order c.args.loaded.now command) c.create.result)
    (sym (ap command_value c.in-Create.is)) (c.create.ensures.worked (loaded_value c.args.loaded.now))

pub returns-in-Delete-clause-worked : goal.returns-in-Delete-clause-worked
returns-in-Delete-clause-worked g c =
    subst (λ command. Worked g.K.Disk.told c.args.store.now c.delete.new.store (order c.args.loaded.now command) c.delete.result)
    (sym (ap command_value c.in-Delete.is)) (c.delete.ensures.worked (loaded_value c.args.loaded.now))

pub returns-in-Resize-clause-worked : goal.returns-in-Resize-clause-worked
returns-in-Resize-clause-worked g c =
    subst (λ command. Worked g.K.Disk.told c.args.store.now c.resize.new.store (order c.args.loaded.now command) c.resize.result)
    (sym (ap command_value c.in-Resize.is)) (c.resize.ensures.worked (loaded_value c.args.loaded.now))
