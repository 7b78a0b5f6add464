use Rattle.std.proofs.Common.{◌<◌, ◌∙◌, refl, ap, arith, subst, replicate, ℕ, Ok, Err}
use Rattle.std.proofs.lemmas.List.{length-take-le, length-replicate}
use Rattle.dev_disk.specs.Calls.{HasLength}
use Rattle.dev_disk.specs.Disks.{Opens}
use Rattle.device_jobs.specs.Outcomes.{Made, BadLayout}
use Rattle.device_jobs.proofs.MakeLemmas.{too-long, layout-read}
use Rattle.device_jobs.proofs.make.read_file.Goals as goal

pub returns-then-size-gt-MOST-clause-stops : goal.returns-then-size-gt-MOST-clause-stops
returns-then-size-gt-MOST-clause-stops g c =
    let long : 4096 < c.in-Ok-Some.size = omega (arith, c.if-size-gt-MOST.true) in
    too-long (g.K.Disk.told c.args.disk.now).files c.args.path.now c.in-Ok-Some.size
    (subst (HasLength (g.K.Disk.told c.args.disk.now).files c.args.path.now) c.in-Ok-Some.field-0-is c.in-Ok-Some.ensures.opens.found) long

pub returns-in-Ok-read_layout-clause-layout : goal.returns-in-Ok-read_layout-clause-layout
returns-in-Ok-read_layout-clause-layout g c =
    layout-read (g.K.Disk.told c.args.disk.now) (g.K.Disk.told c.open.new.self) c.args.path.now c.in-Ok-Some.size c.read_at.new.buf (Ok c.in-Ok-read_layout.layout)
    (subst (Opens (g.K.Disk.told c.args.disk.now) (g.K.Disk.told c.open.new.self) c.args.path.now) c.in-Ok-Some.field-0-is c.in-Ok-Some.ensures.opens) (c.read_at.auto.buf ∙ length-take-le c.in-Ok-Some.size (replicate 4096 0) (omega (arith, length-replicate {A = ℕ} 4096 0, c.if-size-gt-MOST.false))) c.in-Ok.ensures.read c.in-Ok-read_layout.ensures.layout (Made c.in-Ok-read_layout.layout) refl

pub returns-in-Err-Bad-clause-stops : goal.returns-in-Err-Bad-clause-stops
returns-in-Err-Bad-clause-stops g c =
    layout-read (g.K.Disk.told c.args.disk.now) (g.K.Disk.told c.open.new.self) c.args.path.now c.in-Ok-Some.size c.read_at.new.buf (Err c.in-Err-Bad.bad)
    (subst (Opens (g.K.Disk.told c.args.disk.now) (g.K.Disk.told c.open.new.self) c.args.path.now) c.in-Ok-Some.field-0-is c.in-Ok-Some.ensures.opens) (c.read_at.auto.buf ∙ length-take-le c.in-Ok-Some.size (replicate 4096 0) (omega (arith, length-replicate {A = ℕ} 4096 0, c.if-size-gt-MOST.false))) c.in-Ok.ensures.read (c.in-Err-Bad.ensures.bad c.in-Err-Bad.bad (ap Err c.in-Err-Bad.field-0-is)) (BadLayout c.in-Err-Bad.bad) refl
