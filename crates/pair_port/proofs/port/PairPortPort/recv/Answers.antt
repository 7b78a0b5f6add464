use Rattle.pair_port.proofs.CallLemmas.{recv-hears}
use Rattle.pair_port.proofs.port.PairPortPort.recv.Goals as goal

pub returns-clause-hears : goal.returns-clause-hears
returns-clause-hears g c =
    let e = c.hear.ensures in
    recv-hears g.K.Disk.told c.args.self.now c.hear.new.self c.hear.result c.hear.new.buf c.requires.up e.unasked e.hears e.meets
