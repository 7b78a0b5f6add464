use Rattle.std.proofs.Common.{ap, ◌∙◌, subst}
use Rattle.dev_store.specs.Faults.{IsHonest}
use Rattle.pair_port.specs.Pairs.{Pair, disk_of}
use Rattle.pair_port.specs.Ready.{IsReadyEnd}
use Rattle.pair_port.proofs.ReadyLemmas.{running-stands, honest-stands}
use Rattle.pair_port.proofs.pair.PairPort.into_disk.Goals as goal

pub returns-clause-running : goal.returns-clause-running
returns-clause-running g c = λ unhalted.
    let told = g.K.Disk.told in
    running-stands told c.args.self (subst (λ (p : Pair _). IsReadyEnd told p.end p.left) c.self.view_is c.self.invariant.1) unhalted

pub returns-clause-honest : goal.returns-clause-honest
returns-clause-honest g c = λ honest.
    let told = g.K.Disk.told in
    honest-stands told c.args.self (subst (λ (p : Pair _). IsReadyEnd told p.end p.left) c.self.view_is c.self.invariant.1)
    (subst (λ d. IsHonest (told d).torn) (c.into_disk.ensures.disk ∙ ap (λ (p : Pair _). disk_of p.end) c.self.view_is) honest)
