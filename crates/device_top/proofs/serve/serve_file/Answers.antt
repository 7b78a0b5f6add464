use Rattle.device_engine.specs.Running.{held_of}
use Rattle.device_top.proofs.OpenLemmas.{serves-file}
use Rattle.device_top.proofs.serve.serve_file.Goals as goal

pub returns-in-Ok-clause-served : goal.returns-in-Ok-clause-served
returns-in-Ok-clause-served g c =
    serves-file g.K.Disk.told g.K.Disk.lent g.met.K.Disk.agrees c.args.disk c.args.file.now (held_of c.in-Ok.device) c.serve_device.result.0 c.in-Ok.ensures.opened c.serve_device.ensures.kept
    c.args.port c.args.connections (g.G.Gate.told c.args.gate.now) (g.G.Gate.told c.serve_device.new.gate) c.serve_device.result.1 c.serve_device.ensures.run
