use Rattle.std.proofs.Common.{[], take}
use Rattle.device_session.proofs.TalkLemmas.{talks-read, out-read, on-then, out-then}
use Rattle.device_session.proofs.talk.exchange.Goals as goal

pub returns-in_default-clause-ends : goal.returns-in_default-clause-ends
returns-in_default-clause-ends g c e =
    out-read g.K.Disk.told c.args.session.now (g.G.Gate.told c.args.gate.now) (g.G.Gate.told c.read.new.self) c.in_default.ensures.fails.connections []

pub returns-clause-talks : goal.returns-clause-talks
returns-clause-talks g c e =
    let told = g.K.Disk.told in
    let bytes = take c.in-Ok.n c.read.new.buf in
    let before = g.G.Gate.told c.args.gate.now in
    let read = g.G.Gate.told c.read.new.self in
    let up = c.take_in.ensures.talks e in
    record {
      rest = up.rest;
      done = up.done;
      talks = on-then told c.args.session.now c.args.session.now c.take_in.new.session [] bytes up.rest before read (g.G.Gate.told c.take_in.new.gate)
          (talks-read told c.args.session.now bytes before read c.in-Ok.ensures.reads.connections) up.talks;
    }

pub returns-clause-ends : goal.returns-clause-ends
returns-clause-ends g c e =
    let told = g.K.Disk.told in
    let bytes = take c.in-Ok.n c.read.new.buf in
    let before = g.G.Gate.told c.args.gate.now in
    let read = g.G.Gate.told c.read.new.self in
    out-then told c.args.session.now c.args.session.now c.take_in.new.session [] bytes before read (g.G.Gate.told c.take_in.new.gate)
    (talks-read told c.args.session.now bytes before read c.in-Ok.ensures.reads.connections) (c.take_in.ensures.ends e)
