use Rattle.std.proofs.Common.{[], Err, sym, subst}
use Rattle.device_engine.specs.Running.{held_of}
use Rattle.device_top.specs.declared.report.ServeStop.TheVariants as stop
use Rattle.device_top.specs.Working.{HasRun, service, ended_of}
use Rattle.device_top.proofs.RunLemmas.{has-run, deaf-run}
use Rattle.device_top.proofs.serve.serve_device.Goals as goal

pub returns-in_default-clause-run : goal.returns-in_default-clause-run
returns-in_default-clause-run g c =
    let told = g.K.Disk.told in
    let held = held_of c.args.device in
    let old = g.G.Gate.told c.args.gate.now in
    let new = g.G.Gate.told c.listen.new.self in
    subst (λ disk. HasRun held.device (service [] c.args.port c.args.connections (Err stop.Gate)) (told held.disk) (told disk) (old, new)) (sym c.into_disk.ensures.disk)
    (deaf-run told held [] c.args.port c.args.connections old new c.requires.whole c.requires.fastboot c.in_default.ensures.fails)

pub returns-clause-run : goal.returns-clause-run
returns-clause-run g c =
    let told = g.K.Disk.told in
    let lent = g.K.Disk.lent in
    let gate = g.G.Gate.told in
    let held = held_of c.args.device in
    let s = c.serve-served.result in
    let e = c.serve-served.ensures in
    let mid = gate c.listen.new.self in
    let now = gate c.serve-served.new.gate in
    subst (λ ended. HasRun held.device (service [] c.args.port c.args.connections ended) (told held.disk) (told c.into_disk-2.result) (gate c.args.gate.now, now)) (sym c.ended_of-ended.ensures)
    (subst (λ disk. HasRun held.device (service [] c.args.port c.args.connections (ended_of s.end s.connections)) (told held.disk) (told disk) (gate c.args.gate.now, now)) (sym c.into_disk-2.ensures.disk)
    (has-run told lent g.met.K.Disk.agrees held s.device c.args.connections s.connections s.end mid now c.requires.fastboot e.most e.ends e.follows e.halts
    [] c.args.port (gate c.args.gate.now) c.in-Ok.ensures.listens e.served e.count e.kept))
