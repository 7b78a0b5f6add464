use Rattle.std.proofs.Common.{ap, take}
use Rattle.device_session.proofs.TalkLemmas.{talks-written, out-write}
use Rattle.device_session.proofs.talk.give_part.Goals as goal

pub returns-in-Ok-clause-talks : goal.returns-in-Ok-clause-talks
returns-in-Ok-clause-talks g c e =
    talks-written g.K.Disk.told c.args.session.now c.drain.new.self c.in-Ok.count (take c.in-Ok.count c.outbox.result.now) (g.G.Gate.told c.args.gate.now)
    (g.G.Gate.told c.write.new.self) (ap (take c.in-Ok.count) c.outbox.ensures.out) c.drain.ensures.drained c.in-Ok.ensures.writes.connections

pub returns-in-Err-clause-ends : goal.returns-in-Err-clause-ends
returns-in-Err-clause-ends g c e =
    out-write g.K.Disk.told c.args.session.now c.outbox.result.now (g.G.Gate.told c.args.gate.now) (g.G.Gate.told c.write.new.self)
    c.outbox.ensures.out c.in-Err.ensures.fails.connections
