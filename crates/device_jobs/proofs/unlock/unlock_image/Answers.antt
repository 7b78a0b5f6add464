use Rattle.std.proofs.Common.{inl}
use Rattle.fb_frame.specs.Causes.{Rose}
use Rattle.device_jobs.specs.Outcomes.{unlock_outcome}
use Rattle.device_jobs.specs.Working.{output}
use Rattle.device_jobs.proofs.ReportLemmas.{ends, done, early, image-never}
use Rattle.device_jobs.proofs.unlock.unlock_image.Goals as goal

pub returns-clause-decided : goal.returns-clause-decided
returns-clause-decided g c =
    (ends (Rose (g.K.Disk.told c.args.disk.now).faults (g.K.Disk.told c.unlock_job-job.new.disk).faults) c.report.result
    (output (g.S.Sink.text c.args.out.now) (g.S.Sink.faults c.args.out.now)) (output (g.S.Sink.text c.report.new.out) (g.S.Sink.faults c.report.new.out))
    (λ text. text.items) (unlock_outcome (g.K.Disk.told c.args.disk.now).files c.args.file.now) c.unlock_job-job.result
    c.unlock_job-job.ensures.text c.unlock_job-job.ensures.stops c.report.ensures.ends).decided

pub returns-clause-disk : goal.returns-clause-disk
returns-clause-disk g c =
    (ends (Rose (g.K.Disk.told c.args.disk.now).faults (g.K.Disk.told c.unlock_job-job.new.disk).faults) c.report.result
    (output (g.S.Sink.text c.args.out.now) (g.S.Sink.faults c.args.out.now)) (output (g.S.Sink.text c.report.new.out) (g.S.Sink.faults c.report.new.out))
    (λ text. text.items) (unlock_outcome (g.K.Disk.told c.args.disk.now).files c.args.file.now) c.unlock_job-job.result
    c.unlock_job-job.ensures.text c.unlock_job-job.ensures.stops c.report.ensures.ends).disk

pub returns-clause-output : goal.returns-clause-output
returns-clause-output g c =
    (ends (Rose (g.K.Disk.told c.args.disk.now).faults (g.K.Disk.told c.unlock_job-job.new.disk).faults) c.report.result
    (output (g.S.Sink.text c.args.out.now) (g.S.Sink.faults c.args.out.now)) (output (g.S.Sink.text c.report.new.out) (g.S.Sink.faults c.report.new.out))
    (λ text. text.items) (unlock_outcome (g.K.Disk.told c.args.disk.now).files c.args.file.now) c.unlock_job-job.result
    c.unlock_job-job.ensures.text c.unlock_job-job.ensures.stops c.report.ensures.ends).output

pub returns-clause-reported : goal.returns-clause-reported
returns-clause-reported g c =
    (ends (Rose (g.K.Disk.told c.args.disk.now).faults (g.K.Disk.told c.unlock_job-job.new.disk).faults) c.report.result
    (output (g.S.Sink.text c.args.out.now) (g.S.Sink.faults c.args.out.now)) (output (g.S.Sink.text c.report.new.out) (g.S.Sink.faults c.report.new.out))
    (λ text. text.items) (unlock_outcome (g.K.Disk.told c.args.disk.now).files c.args.file.now) c.unlock_job-job.result
    c.unlock_job-job.ensures.text c.unlock_job-job.ensures.stops c.report.ensures.ends).reported

pub returns-clause-never : goal.returns-clause-never
returns-clause-never g c =
    image-never (Rose (g.K.Disk.told c.args.disk.now).faults (g.K.Disk.told c.unlock_job-job.new.disk).faults) c.report.result
    (output (g.S.Sink.text c.args.out.now) (g.S.Sink.faults c.args.out.now)) (output (g.S.Sink.text c.report.new.out) (g.S.Sink.faults c.report.new.out))
    (λ text. text.items) c.unlock_job-job.result c.unlock_job-job.ensures.never c.report.ensures.ends

pub returns-clause-done : goal.returns-clause-done
returns-clause-done g c =
    done (Rose (g.K.Disk.told c.args.disk.now).faults (g.K.Disk.told c.unlock_job-job.new.disk).faults) c.report.result
    (output (g.S.Sink.text c.args.out.now) (g.S.Sink.faults c.args.out.now)) (output (g.S.Sink.text c.report.new.out) (g.S.Sink.faults c.report.new.out))
    (λ text. text.items) _ c.unlock_job-job.result c.unlock_job-job.ensures.done c.report.ensures.ends

pub returns-clause-untouched : goal.returns-clause-untouched
returns-clause-untouched g c = λ five.
    early (Rose (g.K.Disk.told c.args.disk.now).faults (g.K.Disk.told c.unlock_job-job.new.disk).faults) c.report.result
    (output (g.S.Sink.text c.args.out.now) (g.S.Sink.faults c.args.out.now)) (output (g.S.Sink.text c.report.new.out) (g.S.Sink.faults c.report.new.out))
    (λ text. text.items) _ c.unlock_job-job.result c.unlock_job-job.ensures.early c.report.ensures.ends (inl five)
