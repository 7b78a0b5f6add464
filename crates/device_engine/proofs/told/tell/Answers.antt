use Rattle.std.proofs.Common.{ap}
use Rattle.fb_message.specs.CommandText.{command_value}
use Rattle.device_engine.specs.Running.{loaded_value}
use Rattle.device_engine.proofs.TellLemmas.{get-due}
use Rattle.device_engine.proofs.told.tell.Goals as goal

pub returns-in-GetVar-clause-due : goal.returns-in-GetVar-clause-due
returns-in-GetVar-clause-due g c =
    get-due c.args.store.now.device (loaded_value c.args.loaded.now) (command_value c.args.command.now) c.in-GetVar.name.now (ap command_value c.in-GetVar.is)
