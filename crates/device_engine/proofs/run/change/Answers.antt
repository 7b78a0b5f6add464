use Rattle.fb_message.specs.CommandText.{command_value}
use Rattle.device_engine.specs.Running.{order}
use Rattle.device_engine.proofs.run.change.Goals as goal

pub returns-clause-follows : goal.returns-clause-follows
returns-clause-follows g c =
    c.settle.ensures.follows c.args.store (order c.args.loaded.now (command_value c.args.command.now)) c.work-done.ensures.worked c.work-done.ensures.kept
