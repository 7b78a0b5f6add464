use Rattle.std.proofs.Common.{arith}
use Rattle.device_session.proofs.RunLemmas.{ran-due}
use Rattle.device_session.proofs.responder.Responder.obey.Goals as goal

pub await_due-requires-clause-room : goal.await_due-requires-clause-room
await_due-requires-clause-room g c count e =
    let due = ran-due g.K.Disk.told _ _ _ _ count c.replace_with-due.ensures.0.ran e in
    omega (arith, due.1, c.requires.room)
