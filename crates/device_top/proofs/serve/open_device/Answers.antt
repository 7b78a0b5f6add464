use Rattle.std.proofs.Common.{sym, subst}
use Rattle.device_top.specs.Working.{IsUnopened}
use Rattle.device_top.proofs.OpenLemmas.{unopened}
use Rattle.device_top.proofs.serve.open_device.Goals as goal

pub returns-in-Err-clause-unopened : goal.returns-in-Err-clause-unopened
returns-in-Err-clause-unopened g c =
    let told = g.K.Disk.told in
    let lost = c.in-Err.lost in
    let e = c.in-Err.ensures in
    subst (λ error. IsUnopened c.args.file.now error (told c.args.disk) (told lost.0)) (sym c.opening_stop.ensures)
    (unopened (told c.args.disk) (told lost.0) c.args.file.now lost.1 e.absent e.bad e.cause e.unwritten e.left e.others)
