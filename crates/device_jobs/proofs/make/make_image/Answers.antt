use Rattle.std.proofs.Common.{inr}
use Rattle.fb_frame.specs.Causes.{Rose}
use Rattle.device_jobs.specs.Outcomes.{make_outcome}
use Rattle.device_jobs.specs.Working.{output}
use Rattle.device_jobs.proofs.ReportLemmas.{ends, done, early, made-never}
use Rattle.device_jobs.proofs.make.make_image.Goals as goal

pub returns-clause-decided : goal.returns-clause-decided
returns-clause-decided g c =
    (ends (Rose (g.K.Disk.told c.args.disk.now).faults (g.K.Disk.told c.make_job-made.new.disk).faults) c.report.result
    (output (g.S.Sink.text c.args.out.now) (g.S.Sink.faults c.args.out.now)) (output (g.S.Sink.text c.report.new.out) (g.S.Sink.faults c.report.new.out))
    (λ text. text.items) (make_outcome (g.K.Disk.told c.args.disk.now).files c.args.layout.now) c.make_job-made.result
    c.make_job-made.ensures.text c.make_job-made.ensures.stops c.report.ensures.ends).decided

pub returns-clause-disk : goal.returns-clause-disk
returns-clause-disk g c =
    (ends (Rose (g.K.Disk.told c.args.disk.now).faults (g.K.Disk.told c.make_job-made.new.disk).faults) c.report.result
    (output (g.S.Sink.text c.args.out.now) (g.S.Sink.faults c.args.out.now)) (output (g.S.Sink.text c.report.new.out) (g.S.Sink.faults c.report.new.out))
    (λ text. text.items) (make_outcome (g.K.Disk.told c.args.disk.now).files c.args.layout.now) c.make_job-made.result
    c.make_job-made.ensures.text c.make_job-made.ensures.stops c.report.ensures.ends).disk

pub returns-clause-output : goal.returns-clause-output
returns-clause-output g c =
    (ends (Rose (g.K.Disk.told c.args.disk.now).faults (g.K.Disk.told c.make_job-made.new.disk).faults) c.report.result
    (output (g.S.Sink.text c.args.out.now) (g.S.Sink.faults c.args.out.now)) (output (g.S.Sink.text c.report.new.out) (g.S.Sink.faults c.report.new.out))
    (λ text. text.items) (make_outcome (g.K.Disk.told c.args.disk.now).files c.args.layout.now) c.make_job-made.result
    c.make_job-made.ensures.text c.make_job-made.ensures.stops c.report.ensures.ends).output

pub returns-clause-reported : goal.returns-clause-reported
returns-clause-reported g c =
    (ends (Rose (g.K.Disk.told c.args.disk.now).faults (g.K.Disk.told c.make_job-made.new.disk).faults) c.report.result
    (output (g.S.Sink.text c.args.out.now) (g.S.Sink.faults c.args.out.now)) (output (g.S.Sink.text c.report.new.out) (g.S.Sink.faults c.report.new.out))
    (λ text. text.items) (make_outcome (g.K.Disk.told c.args.disk.now).files c.args.layout.now) c.make_job-made.result
    c.make_job-made.ensures.text c.make_job-made.ensures.stops c.report.ensures.ends).reported

pub returns-clause-never : goal.returns-clause-never
returns-clause-never g c =
    made-never (Rose (g.K.Disk.told c.args.disk.now).faults (g.K.Disk.told c.make_job-made.new.disk).faults) c.report.result
    (output (g.S.Sink.text c.args.out.now) (g.S.Sink.faults c.args.out.now)) (output (g.S.Sink.text c.report.new.out) (g.S.Sink.faults c.report.new.out))
    (λ text. text.items) c.make_job-made.result c.make_job-made.ensures.never c.report.ensures.ends

pub returns-clause-made : goal.returns-clause-made
returns-clause-made g c =
    done (Rose (g.K.Disk.told c.args.disk.now).faults (g.K.Disk.told c.make_job-made.new.disk).faults) c.report.result
    (output (g.S.Sink.text c.args.out.now) (g.S.Sink.faults c.args.out.now)) (output (g.S.Sink.text c.report.new.out) (g.S.Sink.faults c.report.new.out))
    (λ text. text.items) _ c.make_job-made.result c.make_job-made.ensures.made c.report.ensures.ends

pub returns-clause-untouched : goal.returns-clause-untouched
returns-clause-untouched g c = λ five.
    early (Rose (g.K.Disk.told c.args.disk.now).faults (g.K.Disk.told c.make_job-made.new.disk).faults) c.report.result
    (output (g.S.Sink.text c.args.out.now) (g.S.Sink.faults c.args.out.now)) (output (g.S.Sink.text c.report.new.out) (g.S.Sink.faults c.report.new.out))
    (λ text. text.items) _ c.make_job-made.result c.make_job-made.ensures.early c.report.ensures.ends (inr five)
