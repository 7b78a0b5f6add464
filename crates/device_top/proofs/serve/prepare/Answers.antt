use Rattle.std.proofs.Common.{sym, subst}
use Rattle.device_engine.specs.Running.{held_of}
use Rattle.device_jobs.specs.declared.job.JobError.TheVariants as job
use Rattle.device_top.specs.Working.{IsUnopened}
use Rattle.device_top.proofs.OpenLemmas.{wanting}
use Rattle.device_top.proofs.serve.prepare.Goals as goal

pub returns-in-Err-new-clause-unopened : goal.returns-in-Err-new-clause-unopened
returns-in-Err-new-clause-unopened g c =
    let told = g.K.Disk.told in
    subst (λ disk. IsUnopened c.args.file.now job.Memory (told c.args.disk) (told disk)) (sym c.into_disk.ensures.disk)
    (wanting told g.K.Disk.lent c.args.disk c.args.file.now (held_of c.in-Ok.device) c.laws.ensures.repaired_stands c.laws.ensures.repaired_owns c.in-Ok.ensures.opened)
