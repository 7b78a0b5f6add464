use Rattle.fb_message.proofs.Read.{spelled-reply, unspelled-reply}
use Rattle.fb_message.proofs.reply.read_reply.Goals as goal

pub returns-in-Some-clause-spelled : goal.returns-in-Some-clause-spelled
returns-in-Some-clause-spelled c = spelled-reply c.args.bytes.now _ c.in-Some.ensures

pub returns-in-None-clause-bad : goal.returns-in-None-clause-bad
returns-in-None-clause-bad c = unspelled-reply c.args.bytes.now c.in-None.ensures
