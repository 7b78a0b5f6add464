use Rattle.std.proofs.Common.{◌⊎◌}
use Rattle.wire_told.specs.Ports.{SendFails}
use Rattle.pair_port.specs.Calls.{BreaksPair, GivesUp, IsStopped}
use Rattle.pair_port.specs.Pairs.{pair_told}
use Rattle.pair_port.proofs.CallLemmas.{err-map}
use Rattle.pair_port.proofs.PairPassLemmas.{send-fails}
use Rattle.pair_port.proofs.SendLemmas.{send-sends}
use Rattle.pair_port.proofs.port.PairPortPort.send.Goals as goal

pub returns-clause-sends : goal.returns-clause-sends
returns-clause-sends g c =
    let e = c.pass.ensures in
    send-sends g.K.Disk.told c.args.self.now c.pass.new.self c.pass.result c.args.bytes.now c.requires.up c.requires.turn e.none e.sends

pub returns-clause-fails : goal.returns-clause-fails
returns-clause-fails g c =
    let told = g.K.Disk.told in
    let p = c.args.self.now in
    let q = c.pass.new.self in
    err-map c.pass.result (BreaksPair p q ⊎ GivesUp IsStopped p q) (SendFails (pair_told told p) (pair_told told q) c.args.bytes.now) (λ x. send-fails told p q c.args.bytes.now x c.requires.turn) c.pass.ensures.fails
