use Rattle.fb_message.proofs.Read.{spelled-known, spelled-none}
use Rattle.fb_message.proofs.command.read_command.Goals as goal

pub returns-in-Some-clause-spelled : goal.returns-in-Some-clause-spelled
returns-in-Some-clause-spelled c = spelled-known c.args.bytes.now _ c.in-Some.ensures

pub returns-in-None-clause-spelled : goal.returns-in-None-clause-spelled
returns-in-None-clause-spelled c = spelled-none c.args.bytes.now c.in-None.ensures
